use Rattle.std.proofs.Common.{◌≡◌, ◌∙◌, Bool, ap, rules, tests}
use Rattle.std.specs.Prelude.{IsSomeAnd, MatchOption, None, Option, Some, option_map}
use Rattle.std.proofs.lemmas.Iterator.{YieldsList-from_slice}
use Rattle.std.proofs.lemmas.Iterator.Search.{find_from_yields_List}
use Rattle.http_head.specs.declared.end.Refusal.{Refusal}
use Rattle.http_head.proofs.checks.first_that_applies.Goals as goal

-- the second part of what was found
second_of : {X A B : Type 0} (v : X → A × B) (o : Option X) (r : Option B) (P : X → B → Type 0) → MatchOption o (r ≡ None) (λ x. IsSomeAnd r (P x)) → ((x : X) (b : B) → P x b → b ≡ (v x).1) → r ≡ option_map (λ pair. pair.1) (option_map v o)
second_of v None r P none is = none
second_of v (Some x) None P some is = absurd some
second_of v (Some x) (Some b) P some is = ap Some (is x b some)

pub returns : goal.returns
returns c =
    second_of (λ row. row.now) c.find.result c.map.result _ c.map.ensures.cases (λ x b q. search (rules, tests))
    ∙ ap (option_map (λ (row : Bool × Refusal). row.1)) (find_from_yields_List (λ (row : Bool × Refusal). row.0) _ _ c.find.result c.find.ensures.ran (YieldsList-from_slice c.args.rows.now cc) (λ x b q k. search (rules, tests)))
