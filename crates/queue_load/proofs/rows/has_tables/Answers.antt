use Rattle.std.proofs.Common.{◌≡◌, ◌&&◌, ℕ, Bool, Bor, List, is_some, rules, tests, true, false, refl, ap, ◌∙◌}
use Rattle.std.specs.Prelude.{codes}
use Rattle.std.proofs.Math.Bool.{and-true}
use Rattle.std.proofs.lemmas.Iterator.{YieldsList-from_slice}
use Rattle.std.proofs.lemmas.Iterator.Search.{all_from_yields_List}
use Rattle.sqlite.specs.Schema.{Schema}
use Rattle.sqlite_schema.specs.Names.{table_named}
use Rattle.queue_load.specs.Store.{has_all}
use Rattle.queue_load.proofs.rows.has_tables.Goals as goal

-- all of seven, as a list tells it and as they are joined
seven : (a b c d e f g : Bool) → (a && (b && (c && (d && (e && (f && (g && true))))))) ≡ (a && b && c && d && e && f && g)
seven false b c d e f g = refl
seven true false c d e f g = refl
seven true true false d e f g = refl
seven true true true false e f g = refl
seven true true true true false f g = refl
seven true true true true true false g = refl
seven true true true true true true g = and-true g

pub returns : goal.returns
returns g c =
    let schema : Schema = c.schema-schema.result.now in
    let is_there = λ (name : List ℕ). is_some (table_named schema name) in
    let all = all_from_yields_List (λ (name : Bor (List ℕ)). is_there name.now) _ _ _ c.all.ensures.ran (YieldsList-from_slice _ c.iter.ensures.rest) (λ x b q k. search (rules, tests)) in
    all
    ∙ seven (is_there (codes "meta")) (is_there (codes "jobs")) (is_there (codes "documents")) (is_there (codes "pieces")) (is_there (codes "accounts")) (is_there (codes "grants")) (is_there (codes "reports"))
    ∙ ap has_all c.schema-schema.ensures.value
