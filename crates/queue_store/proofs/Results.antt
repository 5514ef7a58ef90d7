-- What a call's result gives its caller's.
use Rattle.queue_core.specs.declared.book.BookFault.TheVariants.{Damaged as BookDamaged}
use Rattle.queue_tables.specs.Faults.{told_as}
use Rattle.queue_tables.specs.declared.fault.Fault.{Fault}
use Rattle.queue_tables.specs.declared.fault.Fault.TheVariants.{Memory, Disk, Damaged}
use Rattle.std.proofs.Common.{refl, ◌≡◌, Ok, Err, Result, OnErr, OnOk, IfOk, IfErr, IsErrAnd, subst, sym}

pub on_any : {A E : Type 0} (r : Result A E) (P : Type 0) → P → OnOk r P
on_any (Ok x) P p = p
on_any (Err e) P p = tt

pub on_any_err : {A E : Type 0} (r : Result A E) (P : Type 0) → P → OnErr r P
on_any_err (Ok x) P p = tt
on_any_err (Err e) P p = p

pub both_ok : {A E : Type 0} (r : Result A E) (P Q R : A → Type 0) → ((x : A) → P x → Q x → R x) → IfOk r P → IfOk r Q → IfOk r R
both_ok (Ok x) P Q R then_r p q = then_r x p q
both_ok (Err e) P Q R then_r p q = tt

-- an error that a `?` hands on
pub err_same : {A E : Type 0} (r : Result A E) (e : E) (Q : E → Type 0) → IsErrAnd r (λ f. f ≡ e) → Q e → IfErr r Q
err_same (Ok x) e Q same q = tt
err_same (Err f) e Q same q = subst Q (sym same) q

-- a fault that is told as Damaged is one
pub told_damaged : (fault : Fault) → told_as fault ≡ BookDamaged → fault ≡ Damaged
told_damaged Memory is = absurd (let no = is in cc)
told_damaged Disk is = absurd (let no = is in cc)
told_damaged Damaged is = refl
