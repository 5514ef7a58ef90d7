-- The rows of an account file are within the limits of an event.
use Rattle.std.proofs.Common.{◌≡◌, ◌+◌, ◌≤◌, ℕ, zero, suc, List, [], ◌∷◌, length, Bool, true, false, Option, None, Some, Result, Ok, Err, refl, subst, sym, arith}
use Rattle.std.specs.Prelude.{All, IfSome, nat_lt, if◌then◌else◌}
use Rattle.std.proofs.lemmas.Bool.{ltb-false}
use Rattle.std.proofs.lemmas.List.Elements.{All-cons, All-nil}
use Rattle.csv.specs.Machine.{Read, next_record}
use Rattle.csv.specs.Reading.{default_config, records, records_from, records_next, is_bom, strip_bom}
use Rattle.csv.specs.declared.parser.State.{State}
use Rattle.csv.specs.declared.parser.State.TheVariants as st
use Rattle.queue_types.specs.Event.{Event, grant}
use Rattle.queue_types.specs.declared.event.GrantRow.{GrantRow}
use Rattle.queue_core.specs.Limits.{IsEvent, IsGrantRow}
use Rattle.grants_csv.specs.Fault.{at_row}
use Rattle.grants_csv.specs.File.{add_row, grant_in, has_form, is_header, pages_in, row_of, rows_from, rows_of, rows_under}
use Rattle.grants_csv.specs.Import.{Asks, grants, unread}
use Rattle.grants_csv.specs.declared.fault.ImportFault.{ImportFault}
use Rattle.grants_csv.specs.declared.fault.ImportCause.TheVariants.{Header, Form, Range}
use Rattle.grants_csv.proofs.Forms.{grant_limits}

-- ---- one row

row_by : (n : ℕ) (b a p : List ℕ) (g : GrantRow) (form : Bool) (pages : Option ℕ) → has_form (b ∷ a ∷ p ∷ []) ≡ form → pages_in p ≡ pages
    → (if form then grant_in n b a pages else Err (at_row Form n)) ≡ Ok g → IsGrantRow g
row_by n b a p g true (Some k) is has e =
    let same : record { batch = b; account = a; pages = k } ≡ g = cc in
    subst IsGrantRow same (grant_limits b a p k is (sym has))
row_by n b a p g _ _ is has e = absurd (cc)

row_limits : (n : ℕ) (fields : List (List ℕ)) (g : GrantRow) → row_of n fields ≡ Ok g → IsGrantRow g
row_limits n (b ∷ a ∷ p ∷ []) g e = row_by n b a p g (has_form (b ∷ a ∷ p ∷ [])) (pages_in p) refl refl e
row_limits n _ g e = absurd (cc)

-- ---- all of them

-- so many rows at most, each within its limits
abbrev AreRows : ℕ → List GrantRow → Type 0
AreRows most gs = (length gs ≤ most) × All IsGrantRow gs

add_rows : (most : ℕ) (r : Result GrantRow ImportFault) (rest : Result (List GrantRow) ImportFault) (gs : List GrantRow)
    → ((g : GrantRow) → r ≡ Ok g → IsGrantRow g) → ((hs : List GrantRow) → rest ≡ Ok hs → AreRows most hs) → add_row r rest ≡ Ok gs → AreRows (suc most) gs
add_rows most (Ok g) (Ok hs) gs one others e =
    let same : g ∷ hs ≡ gs = cc in
    let o = others hs refl in
    let few = o.0 in
    subst (AreRows (suc most)) same (omega (arith, few), All-cons IsGrantRow g hs (one g refl) o.1)
add_rows most _ _ gs one others e = absurd (cc)

rows_limits : (n : ℕ) (rs : List (List (List ℕ))) (gs : List GrantRow) → rows_from n rs ≡ Ok gs → AreRows (length rs) gs
unfolding rows_from
rows_limits n [] gs e =
    let same : [] ≡ gs = cc in
    subst (AreRows 0) same (omega arith, All-nil IsGrantRow)
rows_limits n (r ∷ rest) gs e = add_rows (length rest) (row_of n r) (rows_from (n + 1) rest) gs (row_limits n r) (rows_limits (n + 1) rest) e

-- ---- no text has more records than bytes under its header

next_few : (most : ℕ) (more : State → List ℕ → List (List (List ℕ))) → ((s : State) (xs : List ℕ) → length (more s xs) ≤ most) → (o : Option Read)
    → length (records_next more o) ≤ suc most
next_few most more few None = omega arith
next_few most more few (Some p) = let f = few p.1 p.2 in omega (arith, f)

records_few : (n : ℕ) (s : State) (xs : List ℕ) → length (records_from default_config n s xs) ≤ n
unfolding records_from
records_few zero s xs = omega arith
records_few (suc n) s xs = next_few n (records_from default_config n) (records_few n) (next_record default_config s [] [] xs)

under_by : (most : ℕ) (header : Bool) (rest : List (List (List ℕ))) (gs : List GrantRow) → length rest ≤ most
    → (if header then rows_from 1 rest else Err (at_row Header 0)) ≡ Ok gs → AreRows most gs
under_by most true rest gs few e = let r = rows_limits 1 rest gs e in let fit = r.0 in (omega (arith, few, fit), r.1)
under_by most false rest gs few e = absurd (cc)

under_limits : (most : ℕ) (rs : List (List (List ℕ))) (gs : List GrantRow) → length rs ≤ suc most → rows_under rs ≡ Ok gs → AreRows most gs
under_limits most [] gs few e = absurd (cc)
under_limits most (first ∷ rest) gs few e = under_by most (is_header first) rest gs (omega (arith, few)) e

marked_few : (m : Bool) (a b c : ℕ) (rest : List ℕ) → length (if m then rest else a ∷ b ∷ c ∷ rest) ≤ length (a ∷ b ∷ c ∷ rest)
marked_few true a b c rest = omega arith
marked_few false a b c rest = omega arith

strip_few : (bytes : List ℕ) → length (strip_bom bytes) ≤ length bytes
unfolding strip_bom
strip_few (a ∷ b ∷ c ∷ rest) = marked_few (is_bom a b c) a b c rest
strip_few _ = omega arith

-- ---- a file

file_by : (long : Bool) (text : List ℕ) (gs : List GrantRow) → (if long then Err (at_row Range 0) else rows_under (records default_config text)) ≡ Ok gs → AreRows (length text) gs
file_by true text gs e = absurd (cc)
file_by false text gs e =
    let few = records_few (length text + 1) st.StartRecord text in
    under_limits (length text) (records default_config text) gs (omega (arith, few)) e

short_by : (long : Bool) (n : ℕ) (r : Result (List GrantRow) ImportFault) (gs : List GrantRow) → nat_lt 16777216 n ≡ long → (if long then Err (at_row Range 0) else r) ≡ Ok gs → n ≤ 16777216
short_by true n r gs is e = absurd (cc)
short_by false n r gs is e = ltb-false 16777216 n is

rows_fit : (file : List ℕ) (gs : List GrantRow) → rows_of file ≡ Ok gs → IsEvent (grant gs)
rows_fit file gs e =
    let r = file_by (nat_lt 16777216 (length file)) (strip_bom file) gs e in
    let few = r.0 in
    let less = strip_few file in
    let short = short_by (nat_lt 16777216 (length file)) (length file) (rows_under (records default_config (strip_bom file))) gs refl e in
    (omega (arith, few, less, short), r.1)

-- what a file asks for is within the limits
pub asked_fits : (file : List ℕ) (e : Option Event) → Asks file e → IfSome e IsEvent
asked_fits file _ (grants rows is) = rows_fit file rows is
asked_fits file _ (unread f is) = tt
