use Rattle.std.proofs.Common.{◌≡◌, List, ℕ, Bool, Bor, Result, Ok, Err, true, false, refl, ap, option_copied}
use Rattle.std.specs.Prelude.{Some, None, MatchResult, if◌then◌else◌}
use Rattle.std.specs.Result.{result_ok}
use Rattle.std.specs.Str.{IsUtf8, is_utf8}
use Rattle.std.proofs.lemmas.Str.{is_utf8-from_IsUtf8}
use Rattle.queue_types.proofs.Texts.{no_text}
use Rattle.queue_types.proofs.text.utf8_text.Goals as goal

chosen : (b : Bool) (text bytes : List ℕ) → b ≡ true → text ≡ bytes → Some text ≡ (if b then Some bytes else None)
chosen true text bytes t e = ap Some e
chosen false text bytes t e = absurd (cc)

none_chosen : (b : Bool) (bytes : List ℕ) → b ≡ false → None ≡ (if b then Some bytes else None)
none_chosen true bytes t = absurd (cc)
none_chosen false bytes t = refl

text_read : {E : Type 0} (Q : E → Type 0) (bytes : List ℕ) (r : Result (Bor (List ℕ)) E) → MatchResult r (λ s. (s.now ≡ bytes) × IsUtf8 bytes) (λ e. (IsUtf8 bytes → ⊥) × Q e)
    → option_copied (result_ok r) ≡ (if is_utf8 bytes then Some bytes else None)
text_read Q bytes (Ok s) h = chosen (is_utf8 bytes) s.now bytes (is_utf8-from_IsUtf8 bytes h.1) h.0
text_read Q bytes (Err e) h = none_chosen (is_utf8 bytes) bytes (no_text bytes h.0)

pub returns : goal.returns
returns c = rw c.ok.ensures.value (text_read _ c.args.bytes.now c.from_utf8.result c.from_utf8.ensures.cases)
