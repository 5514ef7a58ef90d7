-- What the steps of a transaction make of the rows, one after another.
use Rattle.std.proofs.Common.{◌≡◌, ◌∙◌, ℕ, List, Result, Ok, Err, OnOk, IfErr, IsErrAnd, refl, sym}
use Rattle.sqlite.specs.Order.{Row}
use Rattle.sqlite.specs.State.{State, HasCleanDisk, ExecutesInside, Shown}
use Rattle.queue_core.specs.World.{World}
use Rattle.queue_tables.specs.declared.fault.Fault.{Fault}
use Rattle.queue_tables.specs.declared.fault.Fault.TheVariants.{Damaged}
use Rattle.queue_tables.specs.Content.{Content, Holds, HoldsWhileOpen, content_of}
use Rattle.queue_tables.specs.Leaving.{StaysInside}
use Rattle.queue_tables.specs.Making.{Makes, Writes}
use Rattle.queue_tables.specs.Telling.{ReadsQueueInside}
use Rattle.queue_tables.proofs.Ending.{on_ok}
use Rattle.queue_tables.proofs.Leaving.{serves_all, serves_then, shown_live}

-- ---- the transaction itself

where_ok : {T : Type 0} (r : Result T Fault) (P : Type 0) → P → OnOk r P
where_ok (Ok x) P p = p
where_ok (Err e) P p = tt

-- nothing is done
stays_still : {T : Type 0} (s : State) (r : Result T Fault) → StaysInside s s r
stays_still s r = record {
  clean = λ clean. clean;
  kept = λ clean inside. record { was_open = λ live. live; committed = λ live. refl; left = λ db may. may };
  inside = λ clean. where_ok r _ (λ inside. inside);
  serves = serves_all s;
}

-- so it is with another answer
stays_told : {S T : Type 0} {old new : State} {r : Result S Fault} (e : Fault) → StaysInside old new r → StaysInside {T = T} old new (Err e)
stays_told e stays = record { clean = stays.clean; kept = stays.kept; inside = λ clean. tt; serves = stays.serves }

stays_with : {S T : Type 0} {old new : State} {x : S} (y : T) → StaysInside {E = Fault} old new (Ok x) → StaysInside {E = Fault} old new (Ok y)
stays_with y stays = record { clean = stays.clean; kept = stays.kept; inside = stays.inside; serves = stays.serves }

-- one after another
module _ {S T : Type 0} {old mid new : State} {x : S} {r : Result T Fault} where
  stays_then : StaysInside {T = S} {E = Fault} old mid (Ok x) → StaysInside mid new r → StaysInside old new r
  stays_then first last = record {
    clean = λ clean. first.clean (last.clean clean);
    kept = λ clean inside.
        let early = last.clean clean in
        let front = first.kept early inside in
        let back = last.kept clean (first.inside early inside) in
        record { was_open = λ live. front.was_open (back.was_open live); committed = λ live. back.committed live ∙ front.committed (back.was_open live); left = λ db may. front.left db (back.left db may) };
    inside = λ clean. on_ok r _ _ (λ goes inside. goes (first.inside (last.clean clean) inside)) (last.inside clean);
    serves = serves_then old mid new last.clean first.serves last.serves;
  }

-- ---- what is made

-- another consequence of an answer Damaged
on_damaged : {T : Type 0} (r : Result T Fault) (P Q : Type 0) → (P → Q) → IfErr r (λ e. e ≡ Damaged → P) → IfErr r (λ e. e ≡ Damaged → Q)
on_damaged (Err e) P Q then_q p = λ d. then_q (p d)
on_damaged (Ok x) P Q then_q p = tt

-- a statement makes what it makes where it is run, and isn't refused
pub made_by : {A T : Type 0} {sql : List ℕ} {params : Row} {old new : State} {r : Result T Fault} {IsRefusedSo : List ℕ → Row → State → State → Type 0} {Can : A → Type 0} {before after : A → Content}
    → Writes sql params old new r IsRefusedSo
    → ((x : A) → Can x → Holds (before x) old → (count : ℕ) → ExecutesInside 0 sql params old new (Ok count) → Holds (after x) new)
    → ((x : A) → Can x → HoldsWhileOpen (before x) old → IsRefusedSo sql params old new → ⊥)
    → Makes old new r Can before after
made_by {r = r} wrote done never = record {
  stays = wrote.stays;
  done = λ clean. on_ok r _ _ (λ ran x can has. done x can has ran.0 ran.1) (wrote.ran clean);
  damaged = λ clean inside. on_damaged r _ _ (λ refused x can held. never x can held refused) (wrote.damaged clean inside);
}

-- nothing is done, and that is all
pub made_already : {A T : Type 0} {s : State} {x : T} {Can : A → Type 0} {before after : A → Content} → ((a : A) → Can a → Holds (before a) s → Holds (after a) s) → Makes s s (Ok x) Can before after
made_already {s = s} {x = x} has = record { stays = stays_still s (Ok x); done = λ clean. has; damaged = λ clean inside. tt }

-- nothing is done, and that is told
pub made_nothing : {A T : Type 0} {s : State} {Can : A → Type 0} {before after : A → Content} (r : Result T Fault) (e : Fault) → IsErrAnd r (λ f. f ≡ e) → (e ≡ Damaged → (a : A) → Can a → ⊥) → Makes s s r Can before after
made_nothing {s = s} (Ok x) e same never = absurd same
made_nothing {s = s} (Err f) e same never = record { stays = stays_still s (Err f); done = λ clean. tt; damaged = λ clean inside d a can held. never (sym same ∙ d) a can }

-- an error that a `?` hands on
module _ {A S T : Type 0} {old new : State} {e : Fault} {Can : A → Type 0} {before after later : A → Content} where
  pub handed_on : Makes {A = A} {T = S} old new (Err e) Can before after → (r : Result T Fault) → IsErrAnd r (λ f. f ≡ e) → Makes old new r Can before later
  handed_on made (Ok x) same = absurd same
  handed_on made (Err f) same = record {
    stays = stays_told f made.stays;
    done = λ clean. tt;
    damaged = λ clean inside d. made.damaged clean inside (sym same ∙ d);
  }

-- what is made of each x is made of what is seen as an x
module _ {A B T : Type 0} {old new : State} {r : Result T Fault} {Can : A → Type 0} {Can_seen : B → Type 0} {before after : A → Content} where
  pub seen_as : Makes old new r Can before after → (h : B → A) → ((b : B) → Can_seen b → Can (h b)) → Makes old new r Can_seen (λ b. before (h b)) (λ b. after (h b))
  seen_as made h can = record {
    stays = made.stays;
    done = λ clean. on_ok r _ _ (λ makes b it. makes (h b) (can b it)) (made.done clean);
    damaged = λ clean inside. on_damaged r _ _ (λ told b it. told (h b) (can b it)) (made.damaged clean inside);
  }

-- rows that are made are others as well
module _ {A T : Type 0} {old new : State} {r : Result T Fault} {Can : A → Type 0} {before after others : A → Content} where
  pub held_as : Makes old new r Can before after → ((a : A) → Can a → Holds (after a) new → Holds (others a) new) → Makes old new r Can before others
  held_as made has = record { stays = made.stays; done = λ clean. on_ok r _ _ (λ makes a it held. has a it (makes a it held)) (made.done clean); damaged = made.damaged }

-- a step after another
module _ {A B S T : Type 0} {old mid new : State} {x : S} {r : Result T Fault} {Can : A → Type 0} {before : A → Content} {Can_then : B → Type 0} {between after : B → Content} where
  pub made_then : (h : A → B) → Makes {A = A} {T = S} old mid (Ok x) Can before (λ a. between (h a)) → Makes mid new r Can_then between after → ((a : A) → Can a → Can_then (h a)) → Makes old new r Can before (λ a. after (h a))
  made_then h one two can = record {
    stays = stays_then one.stays two.stays;
    done = λ clean. on_ok r _ _ (λ makes a it held. makes (h a) (can a it) (one.done (two.stays.clean clean) a it held)) (two.done clean);
    damaged = λ clean inside.
        let early = two.stays.clean clean in
        on_damaged r _ _ (λ told a it held. told (h a) (can a it) (λ live. one.done early a it (held ((one.stays.kept early inside).was_open live)))) (two.damaged clean (one.stays.inside early inside));
  }

-- ---- what is read

-- a step after a query, in the world that the query told of
module _ {S T : Type 0} {old mid new : State} {x : S} {r : Result T Fault} {Can Can_read Can_then : World → Type 0} {IsTold : World → S → Type 0} {after : World → Content} where
  pub read_then : ReadsQueueInside {T = S} old mid (Ok x) Can_read IsTold → Makes mid new r Can_then content_of after → ((w : World) → Can w → Can_read w) → ((w : World) → Can w → IsTold w x → Can_then w) → Makes old new r Can content_of after
  read_then read makes can knows = record {
    stays = stays_then read.stays makes.stays;
    done = λ clean. on_ok r _ _ (λ then_made w it has.
        let told = read.found (makes.stays.clean clean) w (can w it) has in
        then_made w (knows w it told.0) told.1) (makes.done clean);
    damaged = λ clean inside.
        let early = makes.stays.clean clean in
        on_damaged r _ _ (λ refused w it held.
        let told = read.found early w (can w it) (held ((read.stays.kept early inside).was_open (read.live early))) in
        refused w (knows w it told.0) (λ live. told.1)) (makes.damaged clean (read.stays.inside early inside));
  }

-- an error of a query that a `?` hands on
module _ {S T : Type 0} {old new : State} {e : Fault} {Can_read Can : World → Type 0} {IsTold : World → S → Type 0} {after : World → Content} where
  pub unread : ReadsQueueInside {T = S} old new (Err e) Can_read IsTold → ((w : World) → Can w → Can_read w) → (r : Result T Fault) → IsErrAnd r (λ f. f ≡ e) → Makes old new r Can content_of after
  unread read can (Ok x) same = absurd same
  unread read can (Err f) same = record {
    stays = stays_told f read.stays;
    done = λ clean. tt;
    damaged = λ clean inside d w it. read.damaged clean inside (sym same ∙ d) w (can w it);
  }

-- behind rows that were shown
module _ {S T : Type 0} {old new : State} {x : S} {Can : World → Type 0} {IsTold : World → T → Type 0} (sql : List ℕ) (params : Row) (shown_rows : List Row) where
  -- the answer is of them
  pub reads : StaysInside {E = Fault} old new (Ok x) → (HasCleanDisk new → Shown sql params old new shown_rows) → (y : T) → (HasCleanDisk new → (w : World) → Can w → Holds (content_of w) old → IsTold w y × Holds (content_of w) new)
      → ReadsQueueInside old new (Ok y) Can IsTold
  reads stays shown y found = record {
    stays = stays_with y stays;
    live = λ clean. shown_live sql params old new shown_rows (shown clean);
    found = found;
    damaged = λ clean inside. tt;
  }

  -- or they are damaged
  pub reads_damage : StaysInside {E = Fault} old new (Ok x) → (HasCleanDisk new → Shown sql params old new shown_rows) → (r : Result T Fault) (e : Fault) → IsErrAnd r (λ f. f ≡ e)
      → (HasCleanDisk new → e ≡ Damaged → (w : World) → Can w → Holds (content_of w) old → ⊥) → ReadsQueueInside old new r Can IsTold
  reads_damage stays shown (Ok y) e same never = absurd same
  reads_damage stays shown (Err f) e same never = record {
    stays = stays_told f stays;
    live = λ clean. tt;
    found = λ clean. tt;
    damaged = λ clean inside d w it held. never clean (sym same ∙ d) w it (held ((stays.kept clean inside).was_open (shown_live sql params old new shown_rows (shown clean))));
  }
