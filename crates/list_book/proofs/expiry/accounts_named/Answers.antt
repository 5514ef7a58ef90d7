use Rattle.std.proofs.Common.{ℕ, List, Bor, [], ◌++◌, ◌+◌, drop, get_or, ap, sym, ◌∙◌}
use Rattle.std.proofs.lemmas.List.{append-nil}
use Rattle.std.specs.FinMap.{get}
use Rattle.list_book.specs.Tables.{free_map}
use Rattle.list_book.proofs.Sweeps.{accounts_of, next_account, listed, found_listed}
use Rattle.list_book.proofs.expiry.accounts_named.Goals as goal
use Rattle.list_book.proofs.expiry.accounts_named.Goals.{in-Some+in_ok-push, in_default}

pub loop-name-preserved : goal.loop-name-preserved
loop-name-preserved c =
    let m = free_map c.args.accounts.now.entries in
    let rows = c.loop-name.rows.items in
    let none : Bor (List ℕ) = record { ref_ptr = (0, 0); now = [] } in
    let a : List ℕ = (get_or c.args.names.now c.loop-name.name-index none).now in
    let rest = accounts_of m (drop (c.loop-name.name-index + 1) c.args.names.now) in
    let here = found_listed a (get m a) c.in_ok-row.field-0 c.in_ok-row.ensures in
    let before = ap (λ t. (rows ++ t) ++ rest) (sym here) ∙ sym (next_account m rows c.args.names.now c.loop-name.name-index none c.loop-name-test.true) ∙ c.loop-name.invariant in
    elim c.match-branch-2.branch [
      | in-Some+in_ok-push w ↦ ap (λ v. v.items ++ rest) w.rows-is ∙ ap (λ v. v ++ rest) w.in_ok-push.ensures.items ∙ ap (λ o. (rows ++ listed o) ++ rest) (sym w.in-Some.is) ∙ before
      | in_default w ↦ ap (λ v. v.items ++ rest) w.rows-is ∙ ap (λ v. v ++ rest) (sym (append-nil rows)) ∙ ap (λ o. (rows ++ listed o) ++ rest) (sym w.in_default.is) ∙ before
    ]
