-- Sums of what is told of rows.
use Rattle.std.proofs.Common.{◌≡◌, ℕ, ◌+◌, ◌<◌, List, [], ◌∷◌, Bool, Bor, Result, Ok, Err, IfOk, if◌then◌else◌, true, false, cond, ◌&&◌, bytes_eq, get_or, length, take, refl, sym, ap, ◌∙◌, ◌≤◌, Option, None, Some, IfSome, unwrap_or, pos, arith}
use Rattle.std.specs.Cmp.Lexicographic.{nat_list_eq_equiv}
use Rattle.std.specs.BTreeMap.{BTreeMap}
use Rattle.std.proofs.lemmas.List.Sums.{sum_by-cons, sum_by_more}
use Rattle.queue_types.specs.Job.{is_live}
use Rattle.queue_core.specs.World.{live_jobs}
use Rattle.queue_types.specs.declared.job.Job.{Job}
use Rattle.queue_rows.specs.Accounts.{HasSums}
use Rattle.queue_rows.specs.declared.rows.AccountRow.{AccountRow}
use Rattle.queue_rows.specs.Totals.{TellsAmounts, total, total_in}

-- of that name
abbrev pub of_name : {X : Type 0} → (X → List ℕ) → (X → ℕ) → List ℕ → X → ℕ
of_name name amount q x = if bytes_eq (name x) q then amount x else 0

abbrev pick : Bool → ℕ → ℕ
pick b n = if b then n else 0

-- the sum of a name with one more row, of which p is told
pub total_more : {X : Type 0} (name : X → List ℕ) (amount : X → ℕ) (q : List ℕ) (xs : List X) (i : ℕ) (x : X) (p : Bor (List ℕ) × ℕ) (before after : ℕ) → i < length xs → x ≡ get_or xs i x → (p.0.now ≡ name x) × (p.1 ≡ amount x)
    → before ≡ total name amount q (take i xs) → after ≡ before + pick (bytes_eq q p.0.now) p.1 → after ≡ total name amount q (take (i + 1) xs)
total_more {X} name amount q xs i x p before after lt is told old new =
    let f = of_name name amount q in
    let sum = total name amount q (take i xs) in
    let here : pick (bytes_eq q p.0.now) p.1 ≡ f x = (λ k. pick (bytes_eq q (told.0 k)) (told.1 k)) ∙ ap (λ (b : Bool). pick b (amount x)) (nat_list_eq_equiv.symm q (name x)) in
    new ∙ (λ k. old k + here k) ∙ ap (λ (y : X). sum + f y) is ∙ sym (sum_by_more f xs i x lt)

-- of what is told of rows the sums are known
pub totals_told : {E X : Type 0} (r : Result (BTreeMap (Bor (List ℕ)) ℕ) E) (tells : X → Bor (List ℕ) × ℕ → Type 0) (xs : List X) (name : X → List ℕ) (amount : X → ℕ) (sum : List ℕ → ℕ)
    → TellsAmounts tells name amount → ((q : List ℕ) → total name amount q xs ≡ sum q)
    → IfOk r (λ m. (label : X → List ℕ) (size : X → ℕ) → TellsAmounts tells label size → (q : List ℕ) → total_in m q ≡ total label size q xs) → IfOk r (λ m. (q : List ℕ) → total_in m q ≡ sum q)
totals_told (Ok m) tells xs name amount sum told is h = λ q. h name amount told q ∙ is q
totals_told (Err e) tells xs name amount sum told is h = tt

-- ---- jobs in the states 3 to 6

abbrev pub owner_of : Job → List ℕ
owner_of j = j.owner

abbrev pub live_of : Job → ℕ
live_of j = if is_live j then 1 else 0

abbrev live_if : Bool → Bool → ℕ
live_if a b = if a then (if b then 1 else 0) else 0

abbrev count_if : Bool → ℕ
count_if b = cond b 1 0

if_both : (a b : Bool) → live_if a b ≡ count_if (a && b)
if_both true b = refl
if_both false b = refl

pub live_is : (q : List ℕ) (js : List Job) → total owner_of live_of q js ≡ live_jobs q js
live_is q [] = refl
live_is q (j ∷ js) =
    sum_by-cons (λ (x : Job). live_if (bytes_eq x.owner q) (is_live x)) j js ∙ ap (λ (n : ℕ). n + total owner_of live_of q js) (if_both (bytes_eq j.owner q) (is_live j))
    ∙ ap (λ (n : ℕ). count_if (bytes_eq j.owner q && is_live j) + n) (live_is q js) ∙ sym (sum_by-cons (λ (x : Job). count_if (bytes_eq x.owner q && is_live x)) j js)

-- ---- what a map has at most

pub within_some : (o : Option ℕ) (most : ℕ) → IfSome o (λ n. n ≤ most) → unwrap_or o 0 ≤ most
within_some None most h = omega arith
within_some (Some n) most h = h

pub some_within : (o : Option ℕ) (most : ℕ) → unwrap_or o 0 ≤ most → IfSome o (λ n. n ≤ most)
some_within None most h = tt
some_within (Some n) most h = h

-- ---- sums of an account

pub sums_same : {g h r s p t : ℕ} (a : AccountRow) → g ≡ h → r ≡ s → p ≡ t → HasSums g r p a → HasSums h s t a
sums_same a granted reserved printed x = record { reserved = x.reserved ∙ reserved; printed = x.printed ∙ printed; granted = ap pos (sym granted) ∙ x.granted }
