use Rattle.std.proofs.Common.{rules, tests, ◌∙◌, sym, Bor, List, ℕ}
use Rattle.std.proofs.lemmas.Iterator.{YieldsList-from_slice}
use Rattle.std.proofs.lemmas.Iterator.Search.{any_from_yields_List}
use Rattle.std.specs.Prelude.{bytes_eq}
use Rattle.ipp_request.proofs.Lists.{list_any_map}
use Rattle.ipp_request.proofs.value.is_word.Goals as goal

pub returns : goal.returns
returns c =
    any_from_yields_List (λ (w : Bor (List ℕ)). bytes_eq w.now c.args.bytes.now) _ _ _ c.any.ensures.ran (YieldsList-from_slice c.args.words.now cc) (λ x b q k. search (rules, tests))
    ∙ sym (list_any_map (λ (w : List ℕ). bytes_eq w c.args.bytes.now) (λ (w : Bor (List ℕ)). w.now) c.args.words.now)
