-- The texts of a request that passes the checks of form and length are names within the machine's limits.
use Rattle.std.proofs.Common.{◌≡◌, ℕ, ◌<◌, ◌==◌, List, [], ◌∷◌, Bool, true, false, ◌||◌, length, refl, arith, lit≤}
use Rattle.std.specs.Prelude.{Option, Some, None, not, codes, unwrap_or, nat_lt, nat_le, if◌then◌else◌}
use Rattle.std.specs.List.{list_any, list_all}
use Rattle.std.specs.Option.{option_map_or, option_and_then}
use Rattle.std.specs.Str.{IsAscii, IsUtf8, is_utf8}
use Rattle.std.proofs.lemmas.Str.{IsUtf8-from_is_utf8, IsUtf8-from_ascii}
use Rattle.std.proofs.lemmas.Str.Ascii.{IsAscii-nil, IsAscii-cons}
use Rattle.std.proofs.lemmas.Bool.{and_parts, or_parts, not-false, ltb-true, ltb-false}
use Rattle.ipp_wire.specs.Message.{Value, Attribute}
use Rattle.queue_core.specs.Limits.{IsOwner, IsJobName, is_no_control}
use Rattle.ipp_request.specs.declared.attribute.Syntax.TheVariants.{UserName, Title}
use Rattle.ipp_request.specs.Attributes.{Row, limit_of, tags_of}
use Rattle.ipp_request.specs.Values.{text_of, has_shape, are_formed, any_long, is_shaped, is_long, passes}
use Rattle.ipp_request.specs.Request.{first_value, filled}

-- ---- texts of ASCII

ascii : (bs : List ℕ) → list_all (λ b. nat_lt b 128) bs ≡ true → IsAscii bs
ascii [] h = IsAscii-nil
ascii (b ∷ bs) h = let e = and_parts (nat_lt b 128) (list_all (λ c. nat_lt c 128) bs) h in IsAscii-cons b bs (ltb-true _ _ e.0) (ascii bs e.1)

ascii_text : (bs : List ℕ) → list_all (λ b. nat_lt b 128) bs ≡ true → IsUtf8 bs
ascii_text bs h = IsUtf8-from_ascii bs (ascii bs h)

pub anonymous_owns : IsOwner (codes "anonymous")
anonymous_owns = record { some = lit≤ tt; fits = lit≤ tt; utf8 = ascii_text (codes "anonymous") refl; printable = refl }

pub untitled_names : IsJobName (codes "untitled")
untitled_names = record { some = lit≤ tt; fits = lit≤ tt; utf8 = ascii_text (codes "untitled") refl; no_zero = refl }

-- ---- what a shape says

pub owns : (t : List ℕ) → 0 < length t → is_utf8 t ≡ true → has_shape UserName t ≡ true → passes (Some 255) t ≡ false → IsOwner t
owns t some utf8 shaped short =
    let e = and_parts (is_utf8 t) (list_all is_no_control t) shaped in
    record { some = omega arith; fits = ltb-false _ _ short; utf8 = IsUtf8-from_is_utf8 t utf8; printable = e.1 }

pub names : (t : List ℕ) → 0 < length t → is_utf8 t ≡ true → has_shape Title t ≡ true → passes (Some 255) t ≡ false → IsJobName t
names t some utf8 shaped short =
    let e = and_parts (is_utf8 t) (list_all (λ b. nat_le 1 b) t) shaped in
    record { some = omega arith; fits = ltb-false _ _ short; utf8 = IsUtf8-from_is_utf8 t utf8; no_zero = e.1 }

-- ---- the text of an attribute, or what stands for it

chosen : (P : List ℕ → Type 0) (u : Bool) (t d : List ℕ) → P d → (u ≡ true → P t) → P (unwrap_or (if u then Some t else None) d)
chosen P true t d p h = h refl
chosen P false t d p h = p

of_text : (P : List ℕ → Type 0) (t d : List ℕ) → P d → (0 < length t → is_utf8 t ≡ true → P t) → P (unwrap_or (filled t) d)
of_text P [] d p h = p
of_text P (b ∷ bs) d p h = chosen P (is_utf8 (b ∷ bs)) (b ∷ bs) d p (h (omega arith))

of_value : (P : List ℕ → Type 0) (r : Row) (d : List ℕ) → P d
    → ((t : List ℕ) → 0 < length t → is_utf8 t ≡ true → has_shape r.syntax t ≡ true → passes (limit_of r.syntax) t ≡ false → P t)
    → (t : Option (List ℕ)) → option_map_or (has_shape r.syntax) t false ≡ true → option_map_or (passes (limit_of r.syntax)) t false ≡ false
    → P (unwrap_or (option_and_then filled t) d)
of_value P r d p fits None shaped short = p
of_value P r d p fits (Some t) shaped short = of_text P t d p (λ some utf8. fits t some utf8 shaped short)

of_values : (P : List ℕ → Type 0) (r : Row) (d : List ℕ) → P d
    → ((t : List ℕ) → 0 < length t → is_utf8 t ≡ true → has_shape r.syntax t ≡ true → passes (limit_of r.syntax) t ≡ false → P t)
    → (vs : List Value) → not (are_formed r vs) ≡ false → any_long r vs ≡ false
    → P (unwrap_or (option_and_then (λ v. option_and_then filled (text_of v)) (first_value vs)) d)
of_values P r d p fits [] formed short = p
of_values P r d p fits (v ∷ vs) formed short =
    let f = and_parts (r.many || length (v ∷ vs) == 1) (list_all (is_shaped r.syntax) (v ∷ vs)) (not-false (are_formed r (v ∷ vs)) formed) in
    let s = and_parts (is_shaped r.syntax v) (list_all (is_shaped r.syntax) vs) f.1 in
    let t = and_parts (list_any (λ tag. tag == v.tag) (tags_of r.syntax)) (option_map_or (has_shape r.syntax) (text_of v) false) s.0 in
    let l = or_parts (is_long r.syntax v) (list_any (is_long r.syntax) vs) short in
    of_value P r d p fits (text_of v) t.1 l.0

pub of_attribute : (P : List ℕ → Type 0) (r : Row) (d : List ℕ) → P d
    → ((t : List ℕ) → 0 < length t → is_utf8 t ≡ true → has_shape r.syntax t ≡ true → passes (limit_of r.syntax) t ≡ false → P t)
    → (a : Option Attribute) → option_map_or (λ a. not (are_formed r a.values)) a false ≡ false → option_map_or (λ a. any_long r a.values) a false ≡ false
    → P (unwrap_or (option_and_then (λ v. option_and_then filled (text_of v)) (option_and_then (λ a. first_value a.values) a)) d)
of_attribute P r d p fits None formed short = p
of_attribute P r d p fits (Some a) formed short = of_values P r d p fits a.values formed short
