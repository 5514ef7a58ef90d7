-- Records that are of a row's form, and those that aren't.
use Rattle.std.proofs.Common.{◌≡◌, ℕ, suc, List, [], ◌∷◌, Bool, true, false, ◌&&◌, length, refl, ap, arith}
use Rattle.std.specs.Prelude.{Some, None, bytes_eq, codes, nat_eq, nat_le, if◌then◌else◌}
use Rattle.std.specs.List.{list_all}
use Rattle.std.specs.Option.{option_map_or}
use Rattle.std.specs.Str.{is_utf8}
use Rattle.std.specs.Str.Parse.{digits_value}
use Rattle.std.proofs.lemmas.Bool.{and_parts, leb-true}
use Rattle.std.proofs.lemmas.Bool.Decides.{nat_tests}
use Rattle.std.proofs.lemmas.Str.{IsUtf8-from_is_utf8}
use Rattle.csv.specs.Records.{field_at}
use Rattle.queue_core.specs.Limits.{IsGrant, is_batch_byte, is_no_control}
use Rattle.grants_csv.specs.File.{has_form, is_header, is_account, is_batch, is_number, pages_in}
use Rattle.grants_csv.proofs.Tests.{and_three}

first_bad : (a b c : Bool) → a ≡ false → (a && b && c) ≡ false
first_bad true b c h = absurd (cc)
first_bad false b c h = refl

second_bad : (a b c : Bool) → b ≡ false → (a && b && c) ≡ false
second_bad true true c h = absurd (cc)
second_bad _ _ c h = refl

third_bad : (a b c : Bool) → c ≡ false → (a && b && c) ≡ false
third_bad true true c h = h
third_bad _ _ c h = refl

pub no_batch : (fs : List (List ℕ)) → None ≡ field_at fs 0 → has_form fs ≡ false
unfolding field_at
no_batch [] h = refl
no_batch (x ∷ xs) h = absurd (cc)

pub no_account : (fs : List (List ℕ)) → None ≡ field_at fs 1 → has_form fs ≡ false
unfolding field_at
no_account (x ∷ y ∷ ys) h = absurd (cc)
no_account _ h = refl

pub no_pages : (fs : List (List ℕ)) → None ≡ field_at fs 2 → has_form fs ≡ false
unfolding field_at
no_pages (x ∷ y ∷ z ∷ zs) h = absurd (cc)
no_pages _ h = refl

pub bad_batch : (fs : List (List ℕ)) (b : List ℕ) → Some b ≡ field_at fs 0 → is_batch b ≡ false → has_form fs ≡ false
unfolding field_at
bad_batch (x ∷ y ∷ z ∷ []) b at0 h = let e : b ≡ x = cc in first_bad (is_batch x) (is_account y) (is_number z) (rw e at h)
bad_batch _ b at0 h = refl

pub bad_account : (fs : List (List ℕ)) (a : List ℕ) → Some a ≡ field_at fs 1 → is_account a ≡ false → has_form fs ≡ false
unfolding field_at
bad_account (x ∷ y ∷ z ∷ []) a at1 h = let e : a ≡ y = cc in second_bad (is_batch x) (is_account y) (is_number z) (rw e at h)
bad_account _ a at1 h = refl

pub bad_pages : (fs : List (List ℕ)) (p : List ℕ) → Some p ≡ field_at fs 2 → is_number p ≡ false → has_form fs ≡ false
unfolding field_at
bad_pages (x ∷ y ∷ z ∷ []) p at2 h = let e : p ≡ z = cc in third_bad (is_batch x) (is_account y) (is_number z) (rw e at h)
bad_pages _ p at2 h = refl

-- three fields are those at their places
pub three : (fs : List (List ℕ)) (b a p : List ℕ) → length fs ≡ 3 → Some b ≡ field_at fs 0 → Some a ≡ field_at fs 1 → Some p ≡ field_at fs 2 → fs ≡ b ∷ a ∷ p ∷ []
unfolding field_at
three (x ∷ y ∷ z ∷ []) b a p n at0 at1 at2 =
    let eb : b ≡ x = cc in
    let ea : a ≡ y = cc in
    let ep : p ≡ z = cc in
    cc
three (x ∷ y ∷ z ∷ w ∷ ws) b a p n at0 at1 at2 = absurd (omega (arith, n))
three _ b a p n at0 at1 at2 = absurd (cc)

pub good_form : (fs : List (List ℕ)) (b a p : List ℕ) → fs ≡ b ∷ a ∷ p ∷ [] → is_batch b ≡ true → is_account a ≡ true → is_number p ≡ true → has_form fs ≡ true
good_form fs b a p e hb ha hp = rw e (and_three (is_batch b) (is_account a) (is_number p) hb ha hp)

pages_some : (t : Bool) (n v : ℕ) → Some n ≡ (if t then Some v else None) → (t ≡ true) × (n ≡ v)
pages_some true n v h = (refl, cc)
pages_some false n v h = absurd (cc)

-- the limits of a grant
pub grant_limits : (b a p : List ℕ) (n : ℕ) → has_form (b ∷ a ∷ p ∷ []) ≡ true → Some n ≡ pages_in p → IsGrant b a n
grant_limits b a p n form pages =
    let f = and_parts (is_batch b && is_account a) (is_number p) form in
    let g = and_parts (is_batch b) (is_account a) f.0 in
    let b1 = and_parts (nat_le 1 (length b) && nat_le (length b) 40) (list_all is_batch_byte b) g.0 in
    let b2 = and_parts (nat_le 1 (length b)) (nat_le (length b) 40) b1.0 in
    let a1 = and_parts (nat_le 1 (length a) && nat_le (length a) 255 && is_utf8 a) (list_all is_no_control a) g.1 in
    let a2 = and_parts (nat_le 1 (length a) && nat_le (length a) 255) (is_utf8 a) a1.0 in
    let a3 = and_parts (nat_le 1 (length a)) (nat_le (length a) 255) a2.0 in
    let v = pages_some (nat_le 1 (digits_value 10 p) && nat_le (digits_value 10 p) 1000000) n (digits_value 10 p) pages in
    let r = and_parts (nat_le 1 (digits_value 10 p)) (nat_le (digits_value 10 p) 1000000) v.0 in (
      record { some = leb-true _ _ b2.0; fits = leb-true _ _ b2.1; letters = b1.1 },
      record { some = leb-true _ _ a3.0; fits = leb-true _ _ a3.1; utf8 = IsUtf8-from_is_utf8 a a2.1; printable = a1.1 },
      rw v.1 (leb-true _ _ r.0),
      rw v.1 (leb-true _ _ r.1),
    )

-- ---- the header

-- the field at that place is the name
abbrev pub is_name : List (List ℕ) → ℕ → List ℕ → Bool
is_name fs i name = option_map_or (λ f. bytes_eq f name) (field_at fs i) false

not_three : (n : ℕ) → false ≡ nat_eq (suc (suc (suc (suc n)))) 3
not_three n = grind (arith, nat_tests)

pub header_is : (fs : List (List ℕ)) → is_header fs ≡ (nat_eq (length fs) 3 && is_name fs 0 (codes "batch") && is_name fs 1 (codes "account") && is_name fs 2 (codes "pages"))
unfolding field_at
header_is (b ∷ a ∷ p ∷ []) = refl
header_is (b ∷ a ∷ p ∷ q ∷ rest) = ap (λ t. t && bytes_eq b (codes "batch") && bytes_eq a (codes "account") && bytes_eq p (codes "pages")) (not_three (length rest))
header_is _ = refl
