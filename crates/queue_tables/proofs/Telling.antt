-- What calls tell that only read, one after another.
use Rattle.std.proofs.Common.{◌≡◌, IsTrue, Result, Ok, Err, IfOk, IfErr, IsErrAnd, refl, sym, ◌∙◌}
use Rattle.sqlite.specs.State.{State, HasCleanDisk}
use Rattle.queue_core.specs.Sound.{IsSound}
use Rattle.queue_core.specs.World.{World}
use Rattle.queue_tables.specs.Content.{HoldNoQueue, Holds, content_of}
use Rattle.queue_tables.specs.Leaving.{LeavesTables}
use Rattle.queue_tables.specs.Telling.{ReadsQueue}
use Rattle.queue_tables.specs.declared.fault.Fault.{Fault}
use Rattle.queue_tables.specs.declared.fault.Fault.TheVariants.{Damaged}
use Rattle.queue_tables.proofs.Columns.{map_err}
use Rattle.queue_tables.proofs.Ending.{if_ok}
use Rattle.queue_tables.proofs.Leaving.{leaves_all, leaves_then, holds_after, none_before}

-- ---- calls that were Ok

-- the tables are as they were, the connection is open if it was, and this is true of each sound queue that they hold
pub record HaveTold (old new : State) (IsTold : World → Type 0) : Type 0 where
  pub leaves : LeavesTables old new
  pub live : HasCleanDisk new → IsTrue old.is_open → IsTrue new.is_open
  pub found : HasCleanDisk new → (w : World) → IsSound w → Holds (content_of w) old → IsTold w

-- no call
pub told_yet : {s : State} {IsTold : World → Type 0} → ((w : World) → IsSound w → IsTold w) → HaveTold s s IsTold
told_yet {s} now = record { leaves = leaves_all s; live = λ clean was. was; found = λ clean w sound has. now w sound }

-- one call, which leaves the connection open if it was
pub told_while : {T : Type 0} {old new : State} {x : T} {IsTold : World → T → Type 0} → ReadsQueue old new (Ok x) IsTold → (HasCleanDisk new → IsTrue old.is_open → IsTrue new.is_open) → HaveTold old new (λ w. IsTold w x)
told_while reads live = record { leaves = reads.leaves; live = live; found = λ clean w sound has. reads.found clean w sound has }

-- one call, after which it is open
pub told : {T : Type 0} {old new : State} {x : T} {IsTold : World → T → Type 0} → ReadsQueue old new (Ok x) IsTold → (HasCleanDisk new → IsTrue new.is_open) → HaveTold old new (λ w. IsTold w x)
told reads live = told_while reads (λ clean was. live clean)

-- one call, by what it shows
pub told_by : {S : Type 0} {old new : State} {IsTold : World → Type 0} → LeavesTables old new → (HasCleanDisk new → IsTrue new.is_open) → (HasCleanDisk new → S) → ((w : World) → IsSound w → Holds (content_of w) old → S → IsTold w) → HaveTold old new IsTold
told_by leaves live shows tells = record { leaves = leaves; live = λ clean was. live clean; found = λ clean w sound has. tells w sound has (shows clean) }

-- another call behind them
pub told_then : {a b c : State} {P Q : World → Type 0} → HaveTold a b P → HaveTold b c Q → HaveTold a c (λ w. P w × Q w)
told_then {a} {b} {c} first last = record {
  leaves = leaves_then a b c first.leaves last.leaves;
  live = λ clean was. last.live clean (first.live (last.leaves.clean clean) was);
  found = λ clean w sound has.
      let early = last.leaves.clean clean in
      (first.found early w sound has, last.found clean w sound (holds_after first.leaves early (content_of w) has (first.live early has.live)));
}

-- what follows of it
pub told_as : {old new : State} {P Q : World → Type 0} → HaveTold old new P → ((w : World) → IsSound w → P w → Q w) → HaveTold old new Q
told_as before follows = record { leaves = before.leaves; live = before.live; found = λ clean w sound has. follows w sound (before.found clean w sound has) }

-- an Ok behind them, with what follows
pub tells : {T : Type 0} {old new : State} {x : T} {P : World → Type 0} {IsTold : World → T → Type 0} → HaveTold old new P → ((w : World) → IsSound w → P w → IsTold w x) → ReadsQueue old new (Ok x) IsTold
tells before follows = record { leaves = before.leaves; found = λ clean w sound has. follows w sound (before.found clean w sound has); damaged = λ clean. tt }

-- a call whose result is handed on, with what follows of it
pub tells_as : {T : Type 0} {old new : State} {P Q : World → T → Type 0} {r : Result T Fault} → ReadsQueue old new r P → ((w : World) → IsSound w → (x : T) → P w x → Q w x) → ReadsQueue old new r Q
tells_as {r = r} reads follows = record {
  leaves = reads.leaves;
  found = λ clean. if_ok r _ _ (λ x found w sound has. follows w sound x (found w sound has)) (reads.found clean);
  damaged = reads.damaged;
}

-- such a call behind others
pub tells_behind : {T : Type 0} {a b c : State} {P : World → Type 0} {Q : World → T → Type 0} {r : Result T Fault} → HaveTold a b P → ReadsQueue b c r Q → ReadsQueue a c r (λ w x. P w × Q w x)
tells_behind {a = a} {b} {c} {r = r} before last = record {
  leaves = leaves_then a b c before.leaves last.leaves;
  found = λ clean.
      let early = last.leaves.clean clean in
      if_ok r _ _ (λ x found w sound has. (before.found early w sound has, found w sound (holds_after before.leaves early (content_of w) has (before.live early has.live)))) (last.found clean);
  damaged = λ clean. map_err r _ _ (λ e damaged d. none_before before.leaves (last.leaves.clean clean) (damaged d)) (last.damaged clean);
}

-- ---- errors

-- an error that a `?` hands on
pub hands_on : {T : Type 0} {old new : State} {e : Fault} {IsTold : World → T → Type 0} → LeavesTables old new → (HasCleanDisk new → e ≡ Damaged → HoldNoQueue old) → (r : Result T Fault) → IsErrAnd r (λ f. f ≡ e) → ReadsQueue old new r IsTold
hands_on leaves damaged (Ok x) same = absurd same
hands_on leaves damaged (Err f) same = record { leaves = leaves; found = λ clean. tt; damaged = λ clean d. damaged clean (sym same ∙ d) }

-- what was told before is true of no sound queue
pub refuses : {T : Type 0} {old new : State} {e : Fault} {P : World → Type 0} {IsTold : World → T → Type 0} → HaveTold old new P → (HasCleanDisk new → IsTrue new.is_open) → (e ≡ Damaged → (w : World) → IsSound w → P w → ⊥) → (r : Result T Fault) → IsErrAnd r (λ f. f ≡ e)
    → ReadsQueue old new r IsTold
refuses before live never =
    hands_on before.leaves (λ clean d. record { live = before.leaves.opened clean (live clean); none = λ w sound has. never d w sound (before.found clean w sound has) })

-- an error of a call that only reads, behind others
pub fails_behind : {T U : Type 0} {a b c : State} {e : Fault} {Q : World → T → Type 0} {R : World → U → Type 0} → LeavesTables a b → ReadsQueue b c (Err e) Q → (r : Result U Fault) → IsErrAnd r (λ f. f ≡ e) → ReadsQueue a c r R
fails_behind {a = a} {b} {c} before last = hands_on (leaves_then a b c before last.leaves) (λ clean d. none_before before (last.leaves.clean clean) (last.damaged clean d))

-- ---- either

-- what a function without a connection makes of what was told
pub makes_of : {T : Type 0} {old new : State} {P : World → Type 0} {IsTold : World → T → Type 0} → HaveTold old new P → (HasCleanDisk new → IsTrue new.is_open) → (r : Result T Fault) → IfOk r (λ x. (w : World) → IsSound w → P w → IsTold w x)
    → IfErr r (λ e. e ≡ Damaged → (w : World) → IsSound w → P w → ⊥) → ReadsQueue old new r IsTold
makes_of before live (Ok x) ok err = tells before ok
makes_of before live (Err e) ok err = refuses before live err (Err e) refl
