use Rattle.std.proofs.Common.{◌≡◌, ◌↔◌, ◌∷◌, [], List, Bool, true, false, IsTrue, sym, arith, refl, rules, tests}
use Rattle.std.specs.List.{IsAllAdjacentAnswer}
use Rattle.std.proofs.lemmas.List.Sorted.{answers_always}
use Rattle.queue_rows.specs.Order.{AreInOrder}
use Rattle.queue_rows.proofs.order.are_in_order.Goals as goal

in_order : {X : Type 0} (before : X → X → Bool) (xs : List X) (answer : Bool) → IsAllAdjacentAnswer (λ x y b. b ≡ before x y) xs answer → IsTrue answer ↔ AreInOrder before xs
in_order before xs true each = (λ t k d low. sym (each k d low), λ all. refl)
in_order before [] false each = absurd (omega (arith, each.1))
in_order before (x ∷ xs) false each = (λ t. absurd cc, λ all. absurd (let less = all each.0 x each.1 in let not = each.2 x in cc))

pub returns : goal.returns
returns g c = in_order g.R.Keyed.before c.args.rows.now c.is_sorted_by.result (c.is_sorted_by.ensures.cases g.R.Keyed.before (answers_always _ _ _ (λ f a r f' k. search (rules, tests))))
