-- The owners of the jobs that a sweep ends, and their accounts, as they are read one after the other.
use Rattle.std.proofs.Common.{◌≡◌, ℕ, ◌<◌, ◌+◌, ℤ, List, [], ◌∷◌, ◌++◌, length, drop, get_or, refl, ap, sym, ◌∙◌, Bool, cond, ◌||◌}
use Rattle.std.specs.Prelude.{Option, Some, None, bytes_eq, option_map}
use Rattle.std.specs.FinMap.{FinMap, get}
use Rattle.std.specs.List.{list_any}
use Rattle.std.proofs.lemmas.List.{at_drop_more, append_assoc}
use Rattle.queue_core.specs.World.{text_cmp, found_row, owners_after, rows_of_accounts}
use Rattle.queue_types.specs.declared.event.FreeRow.{FreeRow}
use Rattle.queue_types.specs.declared.job.Job.{Job}
use Rattle.list_book.specs.Lists.{texts}
use denote.Ref.{Bor}

abbrev pub is_among : List ℕ → List (List ℕ) → Bool
is_among a names = list_any (λ b. bytes_eq a b) names

-- one more job
pub next_owner : (names : List (List ℕ)) (js : List Job) (i : ℕ) (x : Job) → i < length js → x ≡ get_or js i x → owners_after names (drop i js) ≡ owners_after (cond (is_among x.owner names) names (names ++ x.owner ∷ [])) (drop (i + 1) js)
next_owner names js i x lt is = at_drop_more (owners_after names) js i x lt ∙ ap (λ y. owners_after names (y ∷ drop (i + 1) js)) (sym is)

pub texts_more : (names : List (Bor (List ℕ))) (a : Bor (List ℕ)) → texts (names ++ a ∷ []) ≡ texts names ++ a.now ∷ []
texts_more [] a = refl
texts_more (b ∷ names) a = ap (λ t. b.now ∷ t) (texts_more names a)

pub among_texts : (a : List ℕ) (names : List (Bor (List ℕ))) → list_any (λ b. bytes_eq a b.now) names ≡ is_among a (texts names)
among_texts a [] = refl
among_texts a (b ∷ names) = ap (λ t. bytes_eq a b.now || t) (among_texts a names)

abbrev pub accounts_of : FinMap text_cmp ℤ → List (Bor (List ℕ)) → List FreeRow
accounts_of m names = rows_of_accounts m (texts names)

-- one more account
pub next_account : (m : FinMap text_cmp ℤ) (rows : List FreeRow) (names : List (Bor (List ℕ))) (i : ℕ) (d : Bor (List ℕ)) → i < length names → rows ++ accounts_of m (drop i names) ≡ (rows ++ found_row (get_or names i d).now (get m (get_or names i d).now)) ++ accounts_of m (drop (i + 1) names)
next_account m rows names i d lt =
    let a : List ℕ = (get_or names i d).now in
    ap (λ t. rows ++ t) (at_drop_more (accounts_of m) names i d lt) ∙ sym (append_assoc rows (found_row a (get m a)) (accounts_of m (drop (i + 1) names)))

abbrev pub listed : Option FreeRow → List FreeRow
listed None = []
listed (Some row) = row ∷ []

pub found_listed : (a : List ℕ) (o : Option ℤ) (r : Option FreeRow) → r ≡ option_map (λ f. record { account = a; free = f }) o → found_row a o ≡ listed r
found_listed a None r is = ap listed (sym is)
found_listed a (Some f) r is = ap listed (sym is)
