use Rattle.std.proofs.Common.{◌≡◌, ◌∙◌, List, ℕ, Bool, true, false, Option, Result, Ok, Err, Bor, MatchResult, refl, ap}
use Rattle.std.specs.Prelude.{IsUtf8, Some, None, if◌then◌else◌}
use Rattle.std.specs.Option.{option_copied}
use Rattle.std.specs.Result.{result_ok}
use Rattle.std.specs.Str.{is_utf8}
use Rattle.std.proofs.lemmas.Str.{is_utf8-from_IsUtf8, IsUtf8-from_is_utf8}
use Rattle.http_head.proofs.fields.utf8_text.Goals as goal

-- a test fails of what it would decide wrongly
no_text : (text : List ℕ) → (IsUtf8 text → ⊥) → is_utf8 text ≡ false
no_text text h =
    elim (is_utf8 text) as (λ b. is_utf8 text ≡ b → b ≡ false) [ true ↦ λ t. absurd (h (IsUtf8-from_is_utf8 text t)) | false ↦ λ _. refl ] refl

chosen : (b : Bool) (text bytes : List ℕ) → b ≡ true → text ≡ bytes → Some text ≡ (if b then Some bytes else None)
chosen true text bytes t e = ap Some e
chosen false text bytes t e = absurd (cc)

none_chosen : (b : Bool) (bytes : List ℕ) → b ≡ false → None ≡ (if b then Some bytes else None)
none_chosen true bytes t = absurd (cc)
none_chosen false bytes t = refl

text_read : {E : Type 0} (bytes : List ℕ) (r : Result (Bor (List ℕ)) E) (o : Option (Bor (List ℕ))) (Q : E → Type 0)
    → MatchResult r (λ s. (s.now ≡ bytes) × IsUtf8 bytes) (λ e. ¬ IsUtf8 bytes × Q e) → o ≡ result_ok r → option_copied o ≡ (if is_utf8 bytes then Some bytes else None)
text_read bytes (Ok s) o Q h is = ap option_copied is ∙ chosen (is_utf8 bytes) s.now bytes (is_utf8-from_IsUtf8 bytes h.1) h.0
text_read bytes (Err e) o Q h is = ap option_copied is ∙ none_chosen (is_utf8 bytes) bytes (no_text bytes h.0)

pub returns : goal.returns
returns c = text_read c.args.bytes.now c.from_utf8.result c.ok.result _ c.from_utf8.ensures.cases c.ok.ensures.value
