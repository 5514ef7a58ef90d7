use Rattle.std.proofs.Common.{◌∷◌, [], All, arith, rules}
use Rattle.std.proofs.lemmas.List.{length-append}
use Rattle.std.proofs.lemmas.Result.{err_from_is_err_and}
use Rattle.std.proofs.lemmas.List.Elements.{All-append, All-cons, All-nil}
use Rattle.queue_core.specs.Limits.{IsGrantRow}
use Rattle.queue_types.specs.declared.event.GrantRow.{GrantRow}
use Rattle.grants_csv.proofs.Rows.{after_nil, turn_bad, turn_more, turn_none, turns_end}
use Rattle.grants_csv.proofs.reading.read_rows.Goals as goal

one_row : (g : GrantRow) → IsGrantRow g → All IsGrantRow (g ∷ [])
one_row g h = All-cons IsGrantRow g [] h (All-nil IsGrantRow)

pub loop-n-init : goal.loop-n-init
loop-n-init c = rw c.requires (omega arith, search rules, λ s left here. (s, left, c.args.most, here, omega arith, after_nil _))

pub returns-then-not-branch-clause-read : goal.returns-then-not-branch-clause-read
returns-then-not-branch-clause-read c = λ s left here.
    let (s2, left2, k, there, sum, e) = c.loop-n.invariant.2 s left here in
    turn_none _ _ c.loop-n.n k c.loop-n.rows.items s2 left2 _ e (omega arith) (rw c.if-not-branch.true at c.in_ok-next_record.ensures.read s2 left2 there)

pub returns-in_err-read_row-clause-refused : goal.returns-in_err-read_row-clause-refused
returns-in_err-read_row-clause-refused c =
    let told = err_from_is_err_and c.from_residual-in_err-read_row.result c.from_residual-in_err-read_row.ensures.1 in
    rw (told.1, told.2) (λ s left here.
    let (s2, left2, k, there, sum, e) = c.loop-n.invariant.2 s left here in
    turn_bad _ _ c.loop-n.n k c.loop-n.rows.items s2 left2 _ c.in_err-read_row.field-0.0 e (omega arith) (rw c.if-not-branch.false at c.in_ok-next_record.ensures.read s2 left2 there) c.in_err-read_row.ensures.read)

pub loop-n-preserved : goal.loop-n-preserved
loop-n-preserved c = rw c.in_ok-push.ensures.items (
  omega (arith, length-append c.loop-n.rows.items (c.in_ok-read_row.field-0 ∷ [])),
  All-append IsGrantRow c.loop-n.rows.items (c.in_ok-read_row.field-0 ∷ []) c.loop-n.invariant.1 (one_row c.in_ok-read_row.field-0 c.in_ok-read_row.ensures.limits),
  λ s left here.
      let (s2, left2, k, there, sum, e) = c.loop-n.invariant.2 s left here in
      turn_more _ _ c.loop-n.n k c.args.most c.loop-n.rows.items s2 left2 _ c.in_ok-read_row.field-0 e (omega arith) sum (rw c.if-not-branch.false at c.in_ok-next_record.ensures.read s2 left2 there) c.in_ok-read_row.ensures.read,
)

pub returns-clause-read : goal.returns-clause-read
returns-clause-read c = λ s left here.
    let (s2, left2, k, there, sum, e) = c.loop-n.invariant.2 s left here in
    turns_end c.loop-n.n k c.loop-n.rows.items s2 left2 _ e (omega arith)
