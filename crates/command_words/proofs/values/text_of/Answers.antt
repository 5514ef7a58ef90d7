use Rattle.std.proofs.Common.{refl}
use Rattle.clap.specs.Words.{found_of}
use Rattle.command_words.proofs.ValueLemmas.{text_named}
use Rattle.command_words.proofs.values.text_of.Goals as goal

pub returns : goal.returns
returns c = text_named c.get_str.result c.unwrap_or.result _ (found_of c.args.matches.now) c.args.id.now c.unwrap_or.ensures refl c.get_str.ensures
