-- Each grant that the machine takes is what a row says.
use Rattle.std.proofs.Common.{◌≡◌, ℕ, ◌<◌, ◌≤◌, ◌^◌, List, [], ◌∷◌, Bool, true, false, ◌&&◌, Ok, Err, length, get_or, refl, arith}
use Rattle.std.specs.Prelude.{Option, Some, None, decimal, nat_le, if◌then◌else◌}
use Rattle.std.specs.List.{list_all}
use Rattle.std.specs.Str.{is_utf8}
use Rattle.std.specs.Str.Parse.{digits_value}
use Rattle.std.proofs.lemmas.Bool.{le-leb}
use Rattle.std.proofs.lemmas.Bool.Decides.{nat_tests}
use Rattle.std.proofs.lemmas.Fmt.{decimal_nonempty, digits_decimal, digits_value-decimal, first_decimal}
use Rattle.std.proofs.lemmas.Str.{is_utf8-from_IsUtf8}
use Rattle.queue_core.specs.Limits.{IsBatch, IsGrantRow, IsOwner, is_batch_byte, is_no_control}
use Rattle.queue_types.specs.declared.event.GrantRow.{GrantRow}
use Rattle.grants_csv.specs.Fault.{at_row}
use Rattle.grants_csv.specs.File.{grant_in, has_form, has_leading_zero, is_account, is_batch, is_number, pages_in, row_of}
use Rattle.grants_csv.specs.declared.fault.ImportCause.TheVariants.{Form}
use Rattle.grants_csv.proofs.Numbers.{model}
use Rattle.grants_csv.proofs.Tests.{and_three}
use Rattle.grants_csv.proofs.Texts.{is_number_of}

batch_taken : (t : List ℕ) → IsBatch t → is_batch t ≡ true
batch_taken t h = and_three (nat_le 1 (length t)) (nat_le (length t) 40) (list_all is_batch_byte t) (le-leb _ _ h.some) (le-leb _ _ h.fits) h.letters

account_taken : (t : List ℕ) → IsOwner t → is_account t ≡ true
account_taken t h =
    and_three (nat_le 1 (length t) && nat_le (length t) 255) (is_utf8 t) (list_all is_no_control t)
    (and_three true (nat_le 1 (length t)) (nat_le (length t) 255) refl (le-leb _ _ h.some) (le-leb _ _ h.fits)) (is_utf8-from_IsUtf8 t h.utf8) h.printable

not_led : (t : List ℕ) → 48 < get_or t 0 0 → has_leading_zero t ≡ false
not_led (b ∷ c ∷ rest) h = grind (arith, nat_tests)
not_led _ h = refl

number_taken : (n : ℕ) → 1 ≤ n → n < 2 ^ 64 → is_number (decimal n) ≡ true
number_taken n low small = is_number_of (decimal n) (omega (arith, decimal_nonempty n small)) (digits_decimal model n small) (not_led (decimal n) (first_decimal n (omega (arith, low)) small))

both_chosen : (a b : Bool) (v n : ℕ) → a ≡ true → b ≡ true → v ≡ n → (if a && b then Some v else None) ≡ Some n
both_chosen true true v n ea eb same = rw same refl
both_chosen _ _ v n ea eb same = absurd (cc)

pages_taken : (n : ℕ) → 1 ≤ n → n ≤ 1000000 → n < 2 ^ 64 → pages_in (decimal n) ≡ Some n
pages_taken n low high small =
    let v = digits_value 10 (decimal n) in
    let same : v ≡ n = digits_value-decimal model n small in
    both_chosen (nat_le 1 v) (nat_le v 1000000) v n (le-leb _ _ (omega (arith, same, low))) (le-leb _ _ (omega (arith, same, high))) same

form_chosen : (n : ℕ) (batch account : List ℕ) (form : Bool) (pages : Option ℕ) (k : ℕ) → form ≡ true → pages ≡ Some k
    → (if form then grant_in n batch account pages else Err (at_row Form n)) ≡ Ok (record { batch = batch; account = account; pages = k })
form_chosen n batch account true (Some m) k e h = let same : m ≡ k = cc in rw same refl
form_chosen n batch account _ _ k e h = absurd (cc)

pub grant_stated : (g : GrantRow) (n : ℕ) → IsGrantRow g → row_of n (g.batch ∷ g.account ∷ decimal g.pages ∷ []) ≡ Ok g
grant_stated g n h =
    let small : g.pages < 2 ^ 64 = let high = h.3 in omega (arith, high) in
    form_chosen n g.batch g.account (has_form (g.batch ∷ g.account ∷ decimal g.pages ∷ [])) (pages_in (decimal g.pages)) g.pages
    (and_three (is_batch g.batch) (is_account g.account) (is_number (decimal g.pages)) (batch_taken g.batch h.0) (account_taken g.account h.1) (number_taken g.pages h.2 small))
    (pages_taken g.pages h.2 h.3 small)
