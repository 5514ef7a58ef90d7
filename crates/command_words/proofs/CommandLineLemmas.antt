-- What a parse by the program's definition gives.
use Rattle.std.proofs.Common.{◌≡◌, ◌⊎◌, Bool, true, false, List, Some, None, Option, [], ◌∷◌, refl, sym, ap, subst, ◌∙◌, cond, inl, inr}
use Rattle.std.specs.Prelude.{find, is_some, option_map, Box, IsSomeAnd}
use Rattle.clap.specs.Built.{IsParsedFrom}
use Rattle.clap.specs.Faults.{fault_of, is_simple_and_free}
use Rattle.clap.specs.Kinds.{HasKind, Kinds}
use Rattle.clap.specs.Matches.{has_subcommand}
use Rattle.clap.specs.Simple.{App, HasMatchesOf, Shape, argument_words, built, entered, is_simple, names_of, rows_at, subcommand_of, label_of, subcommand_rows, subcommand_rows_of}
use Rattle.clap.specs.Walk.{Row, Text, answers_to, stop_after}
use Rattle.clap.specs.declared.builder.command.Command.{Command as Definition}
use Rattle.clap.specs.declared.error.Error.{Error}
use Rattle.clap.specs.declared.parser.matches.ArgMatches.{ArgMatches}
use Rattle.clap.specs.declared.parser.matches.ArgMatches.TheViews.{out-SubCommand}
use Rattle.clap.specs.declared.parser.matches.SubCommand.{SubCommand}
use Rattle.std.specs.Box.{box_value}
use Rattle.clap.proofs.OnLiterals.{clap_on_literals}
use Rattle.command_words.specs.CommandLine.{IsApp, IsFaultOf, IsNameIn, IsWordsFault, definition, subcommands}
use Rattle.command_words.specs.declared.outcome.CommandFault.{CommandFault}
use Rattle.command_words.specs.declared.outcome.CommandFault.TheVariants as fault

definition_is_simple : is_simple definition ≡ true
unfolding clap_on_literals
definition_is_simple = refl

definition_is_free : is_simple_and_free definition ≡ true
unfolding clap_on_literals
definition_is_free = refl

-- an error of the parse, as the program's own fault
refused : (kinds : Kinds) (error : Error) (own : CommandFault) → HasKind kinds error → IsFaultOf error own
    → IsWordsFault kinds own
refused kinds error fault.Memory h is = tt
refused kinds error (fault.Words own) h is = elim h [
  | inl memory ↦ absurd (is.1 memory)
  | inr among ↦ rw is.0 among
]

pub refused_words : (a : App) (words : List Text) (error : Error) (own : CommandFault) → a ≡ definition
    → (is_simple_and_free a ≡ true → HasKind (fault_of a words) error) → IsFaultOf error own
    → IsWordsFault (fault_of definition words) own
refused_words a words error own is kinds from =
    refused (fault_of definition words) error own
    (subst (λ (a : App). HasKind (fault_of a words) error) is (kinds (ap is_simple_and_free is ∙ definition_is_free))) from

pub taken_words : (a : App) (words : List Text) → a ≡ definition → (is_simple_and_free a ≡ true → fault_of a words ≡ []) → fault_of definition words ≡ []
taken_words a words is taken = subst (λ (z : App). fault_of z words ≡ []) is (taken (ap is_simple_and_free is ∙ definition_is_free))

pub met_by_definition : (a : App) (words : List Text) (m : ArgMatches) → a ≡ definition → HasMatchesOf a words m
    → subcommand_rows_of m ≡ subcommand_of definition words
met_by_definition a words m is matches =
    (matches (ap is_simple is ∙ definition_is_simple)).1 ∙ ap (λ a. subcommand_of a words) is

-- a parse that succeeds met a subcommand
pub meets_subcommand : (c : Definition) (m : ArgMatches) → IsApp definition c → IsParsedFrom c m → has_subcommand m ≡ true
meets_subcommand c m d p =
    let parsed = p.parsed (p.from.globals ∙ d.globals) in
    parsed.checked.subcommand (p.from.needs_subcommand ∙ ap (λ (z : App). z.top.subcommand_required) d.app)

step_named : (b : Bool) (s : Shape) (rest : List Shape) (found : Option Shape) (words : List Text) (met : Text × List Row)
    → (option_map (λ s. rows_at s words) found ≡ Some met → IsNameIn rest met.0)
    → option_map (λ s. rows_at s words) (cond b (Some s) found) ≡ Some met → (met.0 ≡ s.name) ⊎ IsNameIn rest met.0
step_named true s rest found words met later h =
    let is : rows_at s words ≡ met = cc h in
    inl (ap (λ (found : Text × List Row). found.0) (sym is))
step_named false s rest found words met later h = inr (later h)

-- what a look-up finds has the name of an element
found_named : (test : Shape → Bool) (subs : List Shape) (words : List Text) (met : Text × List Row)
    → option_map (λ s. rows_at s words) (find test subs) ≡ Some met → IsNameIn subs met.0
found_named test [] words met h = cc h
found_named test (s ∷ rest) words met h = step_named (test s) s rest (find test rest) words met (found_named test rest words met) h

entered_name : (stop : Option (Text × List Text)) (met : Text × List Row) → entered (built definition) stop ≡ Some met
    → IsNameIn definition.subs met.0
entered_name None met h = cc h
entered_name (Some stop) met h = found_named (λ s. answers_to stop.0 (label_of s)) (built definition).subs stop.1 met h

-- the subcommand that the words name
abbrev stop : List Text → Option (Text × List Text)
stop words = stop_after (built definition).top.rules (names_of (built definition)) (argument_words definition words)

-- the subcommand that was met is one of the definition's
pub meets_one : {Z : Type 0} (met : Option (Box SubCommand Z)) (words : List Text) → is_some met ≡ true → subcommand_rows met ≡ subcommand_of definition words
    → IsSomeAnd (subcommand_rows met) (λ (m : Text × List Row). IsNameIn subcommands m.0)
meets_one None words there is = cc there
meets_one (Some met) words there is = entered_name (stop words) _ (sym is)

-- and so is its name
pub is_named : {Z : Type 0} (met : Option (Box SubCommand Z)) (name : Text) → IsSomeAnd (subcommand_rows met) (λ (m : Text × List Row). IsNameIn subcommands m.0)
    → option_map (λ b. (out-SubCommand (box_value b)).name.now) met ≡ Some name → IsNameIn subcommands name
is_named None name among named = absurd among
is_named (Some met) name among named =
    let same : (out-SubCommand (box_value met)).name.now ≡ name = cc named in
    subst (IsNameIn subcommands) same among
