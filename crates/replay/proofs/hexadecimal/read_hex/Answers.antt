use Rattle.std.proofs.Common.{rules, arith, ◌≡◌, Ok, Err, Bool, true, false, cond, Result, is_ok, ap, refl, ◌∙◌}
use Rattle.std.proofs.lemmas.Grind.{common_steps}
use Rattle.std.proofs.lemmas.Result.{IfOk-weaker}
use Rattle.hex.specs.Hex.{decode_of}
use Rattle.replay.specs.declared.hexadecimal.HexFault.{HexFault}
use Rattle.replay.specs.declared.hexadecimal.HexFault.TheVariants.{NotOfTheForm, TooLong}
use Rattle.replay.proofs.HexadecimalLemmas.{length-decoded, ok_and, not_too_long, too_long}
use Rattle.replay.proofs.hexadecimal.read_hex.Goals as goal

of_the_form : {A : Type 0} (b : Bool) (r : HexFault) → r ≡ cond b TooLong NotOfTheForm → ◌≡◌ {A = Result A HexFault} (Err r) (Err TooLong) → true ≡ b
of_the_form true r is e = refl
of_the_form false r is e = absurd (cc)

pub returns-then-text-gt-MOST_MESSAGE_BYTES-clause-long : goal.returns-then-text-gt-MOST_MESSAGE_BYTES-clause-long
returns-then-text-gt-MOST_MESSAGE_BYTES-clause-long c =
    (λ h. too_long c.args.text.now (of_the_form _ _ c.refusal_of.ensures h) (omega arith), λ h. ap Err (c.refusal_of.ensures ∙ ap (λ b. cond b TooLong NotOfTheForm) (ap is_ok (ok_and (decode_of c.args.text.now) _ h).1)))

pub returns-clause-fits : goal.returns-clause-fits
returns-clause-fits c =
    IfOk-weaker c.map_err.result (λ bytes. decode_of c.args.text.now ≡ Ok bytes.items) _
    (λ bytes h. let len = length-decoded c.args.text.now bytes.items h in omega (arith, bytes.ok.0))
    (search rules)

pub returns-clause-long : goal.returns-clause-long
returns-clause-long c = (
  λ h. grind (arith, common_steps),
  λ h. absurd (not_too_long c.args.text.now (omega arith) h),
)
