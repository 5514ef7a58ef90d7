use Rattle.std.proofs.Common.{rules, ◌≡◌, Some, inl, inr}
use Rattle.clap.specs.Matches.{subcommand_name_of}
use Rattle.command_words.proofs.CommandLineLemmas.{is_named}
use Rattle.command_words.proofs.command_line.command_of.Goals as goal

pub unreachable-requires-in_default-name : goal.unreachable-requires-in_default-name
unreachable-requires-in_default-name c =
    let named : subcommand_name_of c.args.matches.now ≡ Some c.in-Some.name.now = search rules in
    elim (is_named _ _ c.requires named) [
      | inl h ↦ c.in_default-name.not-init h
      | inr (inl h) ↦ c.in_default-name.not-import h
      | inr (inr (inl h)) ↦ c.in_default-name.not-statement h
      | inr (inr (inr (inl h))) ↦ c.in_default-name.not-expire h
      | inr (inr (inr (inr (inl h)))) ↦ c.in_default-name.not-operators h
      | inr (inr (inr (inr (inr (inl h))))) ↦ c.in_default-name.not-serve h
      | inr (inr (inr (inr (inr (inr (inl h)))))) ↦ c.in_default-name.not-replay h
      | inr (inr (inr (inr (inr (inr (inr h)))))) ↦ h
    ]
