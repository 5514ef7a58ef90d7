use Rattle.std.proofs.Common.{rules, tests}
use Rattle.std.proofs.lemmas.Iterator.Search.{any_from_yields_List}
use Rattle.std.proofs.lemmas.Iterator.Splits.{YieldsList-from_slice_split}
use Rattle.std.specs.Prelude.{◌==◌}
use Rattle.http_head.specs.Fields.{same_word, trimmed, is_blank}
use Rattle.std.specs.Prelude.{true}
use Rattle.http_head.proofs.fields.has_member.Goals as goal

pub returns : goal.returns
returns c = any_from_yields_List (λ member. same_word (trimmed (is_blank true) member) c.args.word.now) _ _ _ c.any.ensures.ran
    (YieldsList-from_slice_split _ (λ b. b == 44) c.args.value.now c.split.ensures.rest c.split.ensures.done c.split.ensures.closure (λ x b q k. search (rules, tests)))
    (λ x b q k. search (rules, tests))
