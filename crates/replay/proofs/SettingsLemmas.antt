-- The settings of a replay are within their limits.
use Rattle.std.proofs.Common.{◌≡◌, ◌<◌, ℕ, List, [], ◌∷◌, Bor, ap, arith, refl, lit≤, subst, sym, true}
use Rattle.std.proofs.Math.Dec.{ltb}
use Rattle.std.proofs.lemmas.Bool.{ltb-true}
use Rattle.std.proofs.lemmas.List.Elements.{All-from_recursion, All-weaker}
use Rattle.std.proofs.lemmas.List.Sums.{AllPass-from_list_all}
use Rattle.std.proofs.lemmas.Str.{IsUtf8-from_ascii}
use Rattle.std.proofs.lemmas.Str.Ascii.{IsAscii-from_all}
use Rattle.std.specs.Prelude.{All, codes, length}
use Rattle.std.specs.Str.{IsAscii}
use Rattle.queue_types.specs.Operators.{AreOperators, IsOperatorName}
use Rattle.queue_types.specs.Settings.{AreSettings}
use Rattle.queue_types.specs.Text.{texts}
use Rattle.replay.specs.Replay.{settings}

name_is_ascii : IsAscii settings.name
name_is_ascii = IsAscii-from_all settings.name (All-weaker (λ b. ltb b 128 ≡ true) (λ b. b < 128) (λ b. ltb-true b 128) settings.name
    (AllPass-from_list_all (λ b. ltb b 128) settings.name refl))

operator_is_ascii : IsAscii (codes "opal")
operator_is_ascii = IsAscii-from_all (codes "opal") (All-weaker (λ b. ltb b 128 ≡ true) (λ b. b < 128) (λ b. ltb-true b 128) (codes "opal")
    (AllPass-from_list_all (λ b. ltb b 128) (codes "opal") refl))

is_name : IsOperatorName (codes "opal")
is_name = record {
  owner = record { some = lit≤ tt; fits = lit≤ tt; utf8 = IsUtf8-from_ascii (codes "opal") operator_is_ascii; printable = cc };
  named = λ e. let l = ap length e in absurd (cc);
}

is_each : All IsOperatorName (codes "opal" ∷ [])
is_each = All-from_recursion IsOperatorName (codes "opal" ∷ []) (is_name, tt)

are_operators : AreOperators settings.operators
are_operators = record { few = lit≤ tt; each = is_each; rising = λ k d h. absurd (omega (arith, h)) }

-- of the one borrowed name
pub each_named : (names : List (Bor (List ℕ))) → texts names ≡ codes "opal" ∷ [] → All IsOperatorName (texts names)
each_named names e = subst (All IsOperatorName) (sym e) is_each

pub are_settings : AreSettings settings
are_settings = record {
  uri_some = lit≤ tt;
  uri_fits = lit≤ tt;
  uri_bytes = refl;
  uri_path = refl;
  name_some = lit≤ tt;
  name_fits = lit≤ tt;
  name_utf8 = IsUtf8-from_ascii settings.name name_is_ascii;
  estimate_fits = lit≤ tt;
  keep_fits = lit≤ tt;
  operators_fit = are_operators;
}
