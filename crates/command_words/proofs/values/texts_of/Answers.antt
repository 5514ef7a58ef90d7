use Rattle.std.proofs.Common.{◌∙◌, List, Bor, ap, map, sym}
use Rattle.std.specs.Prelude.{option_map}
use Rattle.std.proofs.lemmas.Result.{IfOk-weaker}
use Rattle.clap.specs.Walk.{Text}
use Rattle.clap.specs.Words.{found_of}
use Rattle.command_words.proofs.ValueLemmas.{no_texts, texts_named}
use Rattle.command_words.proofs.values.texts_of.Goals as goal

-- what the borrowed texts are
abbrev all_now : Bor (List (Bor Text)) → List Text
all_now s = map (λ v. v.now) s.now

pub returns-in-Some : goal.returns-in-Some
returns-in-Some c =
    let named = texts_named c.get_strs.result (all_now c.in-Some.texts) (found_of c.args.matches.now) c.args.id.now c.get_strs.ensures (ap (option_map all_now) c.in-Some.is) in
    IfOk-weaker c.from_slice.result _ _ (λ v is. ap (map (λ t. t.now)) is ∙ named) c.from_slice.ensures.items

pub returns-in-None : goal.returns-in-None
returns-in-None c =
    ap (map (λ t. t.now)) c.new.ensures.items ∙ no_texts (found_of c.args.matches.now) c.args.id.now (sym (ap (option_map all_now) c.in-None.is) ∙ c.get_strs.ensures)
