-- What a subcommand's name and the values of its arguments stand for.
use Rattle.std.specs.Prelude.{◌≡◌, ◌≤◌, ℕ, List, [], codes, map, unwrap_or, IfSome}
use Rattle.std.specs.Int.NonZero.{non_zero_u32_get}
use Rattle.std.specs.Str.Parse.{digits_value, without_leading_plus}
use Rattle.clap.specs.Values.{IsUnsignedIn}
use Rattle.clap.specs.Walk.{Row, Text, all_of, first_of, one_of}
use Rattle.command_words.specs.declared.outcome.Command.{Command}
use Rattle.command_words.specs.declared.outcome.Command.TheVariants.{Init as InitCommand, Import as ImportCommand, Statement as StatementCommand, Expire as ExpireCommand, Operators as OperatorsCommand, Serve as ServeCommand, Replay}
use Rattle.command_words.specs.declared.outcome.Init.{Init}
use Rattle.command_words.specs.declared.outcome.Import.{Import}
use Rattle.command_words.specs.declared.outcome.Statement.{Statement}
use Rattle.command_words.specs.declared.outcome.Expire.{Expire}
use Rattle.command_words.specs.declared.outcome.Operators.{Operators}
use Rattle.command_words.specs.declared.outcome.Serve.{Serve}

-- the value of an argument, and no text where it has none
abbrev pub text_at : Text → List Row → Text
text_at id rows = unwrap_or (first_of id rows) []

-- the values of an argument that may have several
abbrev pub texts_at : Text → List Row → List Text
texts_at id rows = unwrap_or (all_of id rows) []

-- the number is the one that the value of an argument spells, where it spells one from `least` to `most`
abbrev pub IsNumberAt : Text → ℕ → ℕ → List Row → ℕ → Type 0
IsNumberAt id least most rows n =
    IfSome (one_of id rows) (λ t. IsUnsignedIn least most t → n ≡ digits_value 10 (without_leading_plus t))

pub record IsInit (rows : List Row) (i : Init) : Type 0 where
  pub store : i.store.now ≡ text_at (codes "store") rows
  pub uri : i.uri.now ≡ text_at (codes "uri") rows
  pub name : i.name.now ≡ text_at (codes "name") rows
  pub estimate : IsNumberAt (codes "estimate") 0 100000 rows i.estimate
  pub estimate_fits : i.estimate ≤ 100000
  pub keep : IsNumberAt (codes "keep") 0 2147483647 rows i.keep
  pub keep_fits : i.keep ≤ 2147483647

pub record IsImport (rows : List Row) (i : Import) : Type 0 where
  pub store : i.store.now ≡ text_at (codes "store") rows
  pub file : i.file.now ≡ text_at (codes "file") rows

pub record IsStatement (rows : List Row) (s : Statement) : Type 0 where
  pub store : s.store.now ≡ text_at (codes "store") rows
  pub account : s.account.now ≡ text_at (codes "account") rows

pub record IsExpire (rows : List Row) (e : Expire) : Type 0 where
  pub store : e.store.now ≡ text_at (codes "store") rows

pub record IsOperators (rows : List Row) (o : Operators) : Type 0 where
  pub store : o.store.now ≡ text_at (codes "store") rows
  pub names : map (λ n. n.now) o.names.items ≡ texts_at (codes "operator") rows

pub record IsServe (rows : List Row) (s : Serve) : Type 0 where
  pub store : s.store.now ≡ text_at (codes "store") rows
  pub port : IsNumberAt (codes "port") 1 65535 rows s.port
  pub port_fits : (1 ≤ s.port) × (s.port ≤ 65535)
  pub connections : IsNumberAt (codes "connections") 1 4294967295 rows s.connections
  pub connections_fit : 1 ≤ s.connections
  pub timeout : IsNumberAt (codes "timeout") 1 3600 rows (non_zero_u32_get s.timeout)
  pub timeout_fits : non_zero_u32_get s.timeout ≤ 3600

-- the command is what a subcommand's name and the values of its arguments stand for
abbrev pub IsCommand : Command → Text × List Row → Type 0
IsCommand (InitCommand i) met = (met.0 ≡ codes "init") × IsInit met.1 i
IsCommand (ImportCommand i) met = (met.0 ≡ codes "import") × IsImport met.1 i
IsCommand (StatementCommand s) met = (met.0 ≡ codes "statement") × IsStatement met.1 s
IsCommand (ExpireCommand e) met = (met.0 ≡ codes "expire") × IsExpire met.1 e
IsCommand (OperatorsCommand o) met = (met.0 ≡ codes "operators") × IsOperators met.1 o
IsCommand (ServeCommand s) met = (met.0 ≡ codes "serve") × IsServe met.1 s
IsCommand Replay met = met.0 ≡ codes "replay"
