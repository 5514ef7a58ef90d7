use Rattle.std.proofs.Common.{◌≡◌, ℕ, List, Bool, ◌∙◌, ap}
use Rattle.std.specs.Prelude.{IsTrue, ◌↔◌, bytes_eq}
use Rattle.std.specs.Str.{str_eq_ignore_ascii_case}
use Rattle.std.proofs.lemmas.Bool.Decides.{same_from_decides}
use Rattle.std.proofs.lemmas.Slice.Eq.{bytes_eq-Decides}
use Rattle.ipp_request.proofs.format.is_named.Goals as goal

-- a test that tells whether texts are equal
told : (r : Bool) (a b : List ℕ) → (IsTrue r ↔ (a ≡ b)) → r ≡ bytes_eq a b
told r a b h = same_from_decides r (bytes_eq a b) h (bytes_eq-Decides a b)

pub returns : goal.returns
returns c = told _ _ _ c.eq_ignore_ascii_case.ensures.test ∙ ap (λ t. str_eq_ignore_ascii_case t c.args.media_type.now) (c.as_bytes.ensures.value ∙ c.name.ensures.name)
