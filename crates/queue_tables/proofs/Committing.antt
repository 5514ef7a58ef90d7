-- A transaction of its own, from its begin to behind its end.
use Rattle.std.proofs.Common.{◌≡◌, ◌∙◌, false, true, inl, inr, IfErr, IsErrAnd, IsTrue, MatchResult, OnOk, Ok, Err, Result, ap, refl, subst, sym}
use Rattle.sqlite.specs.Effect.{Database}
use Rattle.sqlite.specs.declared.error.Error.{Error}
use Rattle.sqlite.specs.Steps.{FailsToCommit}
use Rattle.sqlite.specs.State.{HasCleanDisk, IsRolledBack, Shows, State, Survives, store_error}
use Rattle.sqlite_trees.specs.Tree.{Trees}
use Rattle.sqlite_trees.specs.declared.error.StoreError.{StoreError}
use Rattle.sqlite_trees.specs.declared.error.StoreError.TheVariants.{OutOfMemory, Io, Corrupt, Full, Broken, Unstorable}
use Rattle.queue_core.specs.Sound.{IsSound}
use Rattle.queue_core.specs.World.{World}
use Rattle.queue_tables.specs.Content.{Content, Holds, HoldsWhileOpen, IsBookOf, LeavesOneOf, content_of}
use Rattle.queue_tables.specs.Faults.{write_fault}
use Rattle.queue_tables.specs.Leaving.{KeepsServing, StaysInside}
use Rattle.queue_tables.specs.Making.{CommitsQueue, MakesQueue}
use Rattle.queue_tables.specs.declared.fault.Fault.{Fault}
use Rattle.queue_tables.specs.declared.fault.Fault.TheVariants.{Damaged, Disk}
use Rattle.queue_tables.proofs.Crash.{book_of}
use Rattle.queue_tables.proofs.Ending.{clean_before, committed_holds, same_holds}
use Rattle.queue_tables.proofs.Leaving.{serves_all, serves_then, survives_serves}

never_damage : (cause : StoreError) → write_fault (store_error cause) ≡ Damaged → ⊥
never_damage OutOfMemory e = cc
never_damage Io e = cc
never_damage Corrupt e = cc
never_damage Full e = cc
never_damage Broken e = cc
never_damage Unstorable e = cc

-- a commit that fails undoes what was written, and is no damage
failure : {mid new : State} (why : Error) → IsTrue mid.in_transaction → FailsToCommit mid new why → (write_fault why ≡ Damaged → ⊥) × IsRolledBack mid new
failure why inside (inl failed) = (λ d. never_damage failed.0 (ap write_fault (sym failed.1) ∙ d), failed.3)
failure why inside (inr late) = absurd (let no = late.1 in cc)

module _ (old mid new : State) (Can : World → Type 0) (make : World → World) (outside : IsTrue old.is_open → old.now ≡ old.committed) (last : (db : Trees) → IsTrue old.is_open → old.may_leave db → db ≡ old.committed.trees)
    (sound : (w : World) → Can w → IsSound w × IsSound (make w)) where
  abbrev pub begun : State
  begun = record old { in_transaction = true }

  -- BEGIN changes no row
  has_begun : (c : Content) → Holds c old → Holds c begun
  has_begun c has = record { schema = has.schema; sound = has.sound; rows = has.rows; live = has.live }

  serves : {T : Type 0} {r : Result T Fault} (Commits : Trees → Type 0) → StaysInside begun mid r → Survives mid new Commits → KeepsServing old new
  serves Commits stays survives =
      let it = serves_then begun mid new (clean_before mid new survives.clean) stays.serves (survives_serves mid new Commits survives) in
      record { limit = it.limit; counts = it.counts; closes = it.closes }

  leaves : {T : Type 0} {r : Result T Fault} (Commits : Trees → Type 0) → StaysInside begun mid r → Survives mid new Commits
      → (HasCleanDisk mid → (w : World) → Can w → Holds (content_of w) begun → (db : Trees) → Commits db → IsBookOf (make w) db)
      → HasCleanDisk new → (w : World) → Can w → Holds (content_of w) old → old.now ≡ old.committed → LeavesOneOf w (make w) new
  leaves Commits stays survives written clean w can has same db left =
      let early = clean_before mid new survives.clean clean in
      elim (survives.crash clean db left) [
        | inl before ↦ inl (subst (IsBookOf w) (ap (λ (d : Database). d.trees) same ∙ sym (last db has.live ((stays.kept early refl).left db before))) (book_of w old (sound w can).0 has))
        | inr now ↦ inr (written early w can (has_begun (content_of w) has) db now)
      ]

  -- what was written is committed
  committed : {T U : Type 0} {x : T} (y : U) → MakesQueue begun mid (Ok x) Can make → (HasCleanDisk new → Shows mid new mid.now mid.now false) → Survives mid new (λ db. db ≡ mid.now.trees)
      → CommitsQueue old new (Ok y) Can make
  committed y made shown survives = record {
    clean = λ clean. made.stays.clean (clean_before mid new survives.clean clean);
    opened = λ clean live. (made.stays.kept (clean_before mid new survives.clean clean) refl).was_open (shown clean).was_open;
    live = λ clean. (shown clean).is_open;
    made = λ clean w can has. committed_holds (content_of (make w)) mid new false (made.done (clean_before mid new survives.clean clean) w can (has_begun (content_of w) has)) (shown clean);
    refused = λ clean. tt;
    settled = λ clean. (shown clean).now_is ∙ sym (shown clean).committed_is;
    still_settled = λ clean. tt;
    crash = leaves (λ db. db ≡ mid.now.trees) made.stays survives (λ early w can has db now. subst (IsBookOf (make w)) (sym now) (book_of (make w) mid (sound w can).1 (made.done early w can has)));
    damaged = λ clean. tt;
    serves = serves (λ db. db ≡ mid.now.trees) made.stays survives;
  }

  -- what was written, or a part of it, is undone
  pub undone : {T U : Type 0} {r : Result T Fault} (Commits : Trees → Type 0) → StaysInside begun mid r → Survives mid new Commits
      → (HasCleanDisk mid → (w : World) → Can w → Holds (content_of w) begun → (db : Trees) → Commits db → IsBookOf (make w) db)
      → (HasCleanDisk new → IsRolledBack mid new)
      → (q : Result U Fault) (e : Fault) → IsErrAnd q (λ f. f ≡ e) → (HasCleanDisk mid → HasCleanDisk new → e ≡ Damaged → (w : World) → Can w → HoldsWhileOpen (content_of w) begun → ⊥) → CommitsQueue old new q Can make
  undone Commits stays survives written back (Ok y) e same never = absurd same
  undone Commits stays survives written back (Err f) e same never =
      let opened : HasCleanDisk new → IsTrue new.is_open → IsTrue old.is_open = λ clean live. (stays.kept (clean_before mid new survives.clean clean) refl).was_open ((back clean).was_open live) in
      let committed_is = λ (clean : HasCleanDisk new) (live : IsTrue new.is_open). (stays.kept (clean_before mid new survives.clean clean) refl).committed ((back clean).was_open live) in
      record {
        clean = λ clean. stays.clean (clean_before mid new survives.clean clean);
        opened = opened;
        live = λ clean. tt;
        made = λ clean. tt;
        refused = λ clean w has live. same_holds (content_of w) old new has (((back clean).undone live).0 ∙ committed_is clean live ∙ sym (outside (opened clean live))) live;
        settled = λ clean. tt;
        still_settled = λ clean same live. ((back clean).undone live).0 ∙ sym ((back clean).undone live).1;
        crash = leaves Commits stays survives written;
        damaged = λ clean d w can held. never (clean_before mid new survives.clean clean) clean (sym same ∙ d) w can (λ live. has_begun (content_of w) (held live));
        serves = serves Commits stays survives;
      }

  -- the commit failed
  failed : {T U : Type 0} {x : T} {why : Error} → MakesQueue begun mid (Ok x) Can make → (HasCleanDisk new → FailsToCommit mid new why) → Survives mid new (λ db. db ≡ mid.now.trees)
      → (e : Fault) → e ≡ write_fault why → CommitsQueue {T = U} old new (Err e) Can make
  failed {why = why} made fails survives e told =
      undone (λ db. db ≡ mid.now.trees) made.stays survives (λ early w can has db now. subst (IsBookOf (make w)) (sym now) (book_of (make w) mid (sound w can).1 (made.done early w can has)))
      (λ clean. (failure why (made.stays.inside (clean_before mid new survives.clean clean) refl) (fails clean)).1) (Err e) e refl
      (λ early clean d w can held. (failure why (made.stays.inside early refl) (fails clean)).0 (sym told ∙ d))

  -- an error of what writes
  pub refused : {T U : Type 0} {e : Fault} → MakesQueue {T = T} begun mid (Err e) Can make → (HasCleanDisk new → IsRolledBack mid new) → Survives mid new (λ _. ⊥)
      → (q : Result U Fault) → IsErrAnd q (λ f. f ≡ e) → CommitsQueue old new q Can make
  refused {e = e} made back survives q same = undone (λ _. ⊥) made.stays survives (λ early w can has db never. absurd never) back q e same (λ early clean d. made.damaged early refl d)

  -- the commit, whose error is told as one of a statement that writes
  pub ended : {T U : Type 0} {x : T} (q : Result U Error) (r : Result U Fault) → MakesQueue {T = T} begun mid (Ok x) Can make → (HasCleanDisk new → OnOk q (Shows mid new mid.now mid.now false)) → (HasCleanDisk new → IfErr q (FailsToCommit mid new))
      → Survives mid new (λ db. db ≡ mid.now.trees) → MatchResult q (λ y. r ≡ Ok y) (λ e. IsErrAnd r (λ f. f ≡ write_fault e)) → CommitsQueue old new r Can make
  ended (Ok y) r made shown fails survives told = subst (λ (k : Result _ Fault). CommitsQueue old new k Can make) (sym told) (committed y made shown survives)
  ended (Err why) (Ok y) made shown fails survives told = absurd told
  ended (Err why) (Err f) made shown fails survives told = failed made fails survives f told

-- nothing was done
pub none_done : {T : Type 0} (s : State) (Can : World → Type 0) (make : World → World) → ((db : Trees) → IsTrue s.is_open → s.may_leave db → db ≡ s.committed.trees) → ((w : World) → Can w → IsSound w)
    → CommitsQueue {T = T} s s (Err Disk) Can make
none_done s Can make last sound = record {
  clean = λ clean. clean;
  opened = λ clean live. live;
  live = λ clean. tt;
  made = λ clean. tt;
  refused = λ clean w has live. has;
  settled = λ clean. tt;
  still_settled = λ clean same live. same;
  crash = λ clean w can has same db left. inl (subst (IsBookOf w) (ap (λ (d : Database). d.trees) same ∙ sym (last db has.live left)) (book_of w s (sound w can) has));
  damaged = λ clean d. absurd cc;
  serves = serves_all s;
}
