-- The owners of jobs, one job after another, and their accounts.
use Rattle.std.proofs.Common.{◌≡◌, ℕ, ℤ, ◌+◌, ◌<◌, List, [], ◌∷◌, ◌++◌, Bool, true, false, if◌then◌else◌, bytes_eq, length, take, get_or, refl, sym, ap, ◌∙◌, append_assoc, append-nil, ◌||◌, cond}
use Rattle.std.specs.FinMap.{FinMap, get}
use Rattle.std.specs.List.{list_any}
use Rattle.std.specs.Cmp.Lexicographic.{nat_list_eq_equiv, slice_cmp}
use Rattle.std.specs.Ordering.{is_eq, nat_cmp}
use Rattle.std.proofs.lemmas.List.Folds.{list_any-append}
use Rattle.std.proofs.lemmas.Map.Text.{is_eq-slice_cmp}
use Rattle.std.proofs.lemmas.List.{take_more}
use denote.Ref.{Bor}
use Rattle.queue_types.specs.declared.event.FreeRow.{FreeRow}
use Rattle.queue_types.specs.declared.job.Job.{Job}
use Rattle.queue_scenes.specs.Expiry.{texts, with_one}
use Rattle.queue_core.specs.World.{found_row, owners, owners_after, rows_of_accounts, text_cmp}

behind_more : (names : List (List ℕ)) (js : List Job) (j : Job) → owners_after names (js ++ j ∷ []) ≡ with_one (owners_after names js) j.owner
behind_more names [] j = refl
behind_more names (k ∷ js) j = behind_more (with_one names k.owner) js j

pub owners_more : (js : List Job) (i : ℕ) (j : Job) → i < length js → j ≡ get_or js i j → owners (take (i + 1) js) ≡ with_one (owners (take i js)) j.owner
owners_more js i j low is = ap owners (take_more js i j low ∙ ap (λ (k : Job). take i js ++ k ∷ []) (sym is)) ∙ behind_more [] (take i js) j

accounts_append : (free : FinMap text_cmp ℤ) (names more : List (List ℕ)) → rows_of_accounts free (names ++ more) ≡ rows_of_accounts free names ++ rows_of_accounts free more
accounts_append free [] more = refl
accounts_append free (a ∷ names) more = ap (λ (rs : List FreeRow). found_row a (get free a) ++ rs) (accounts_append free names more) ∙ sym (append_assoc (found_row a (get free a)) (rows_of_accounts free names) (rows_of_accounts free more))

texts_append : (names more : List (Bor (List ℕ))) → texts (names ++ more) ≡ texts names ++ texts more
texts_append [] more = refl
texts_append (a ∷ names) more = ap (λ (ts : List (List ℕ)). a.now ∷ ts) (texts_append names more)

-- a name that is there already
pub still_there : (names : List (Bor (List ℕ))) (a : List ℕ) → list_any (λ b. bytes_eq a b) (texts names) ≡ true → texts names ≡ with_one (texts names) a
still_there names a there = sym (ap (λ (b : Bool). if b then texts names else texts names ++ a ∷ []) there)

-- a new name stands last
pub put_last : (names : List (Bor (List ℕ))) (a : Bor (List ℕ)) → list_any (λ b. bytes_eq a.now b) (texts names) ≡ false → texts (names ++ a ∷ []) ≡ with_one (texts names) a.now
put_last names a none = texts_append names (a ∷ []) ∙ sym (ap (λ (b : Bool). if b then texts names else texts names ++ a.now ∷ []) none)

either : (old same : Bool) → cond same true old ≡ (old || (same || false))
either true true = refl
either true false = refl
either false true = refl
either false false = refl

-- the names that were seen, with one more
pub seen_more : (names : List (Bor (List ℕ))) (a : Bor (List ℕ)) (q : List ℕ) (old : Bool) → old ≡ list_any (λ b. bytes_eq q b) (texts names)
    → cond (is_eq (slice_cmp nat_cmp a.now q)) true old ≡ list_any (λ b. bytes_eq q b) (texts (names ++ a ∷ []))
seen_more names a q old is =
    ap (λ b. cond b true old) (is_eq-slice_cmp a.now q ∙ nat_list_eq_equiv.symm a.now q)
    ∙ either old (bytes_eq q a.now)
    ∙ ap (λ b. b || (bytes_eq q a.now || false)) is
    ∙ sym (ap (list_any (λ b. bytes_eq q b)) (texts_append names (a ∷ [])) ∙ list_any-append (λ b. bytes_eq q b) (texts names) (a.now ∷ []))

-- the accounts of one more name
pub accounts_more : (free : FinMap text_cmp ℤ) (names : List (Bor (List ℕ))) (i : ℕ) (a : Bor (List ℕ)) → i < length names → a ≡ get_or names i a
    → rows_of_accounts free (texts (take (i + 1) names)) ≡ rows_of_accounts free (texts (take i names)) ++ found_row a.now (get free a.now)
accounts_more free names i a low is =
    ap (λ (ns : List (Bor (List ℕ))). rows_of_accounts free (texts ns)) (take_more names i a low ∙ ap (λ (b : Bor (List ℕ)). take i names ++ b ∷ []) (sym is))
    ∙ ap (rows_of_accounts free) (texts_append (take i names) (a ∷ []))
    ∙ accounts_append free (texts (take i names)) (a.now ∷ [])
    ∙ ap (λ (rs : List FreeRow). rows_of_accounts free (texts (take i names)) ++ rs) (append-nil (found_row a.now (get free a.now)))
