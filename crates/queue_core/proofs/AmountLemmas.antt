-- Sums of what is told of rows.
use Rattle.std.proofs.Common.{◌≡◌, ℕ, ◌+◌, ◌-◌, ◌*◌, ◌^◌, ◌≤◌, ◌<◌, List, [], ◌∷◌, Bool, Bor, Result, Ok, Err, IfOk, if◌then◌else◌, true, false, cond, bytes_eq, get_or, length, take, sym, ap, ◌∙◌, arith}
use Rattle.std.specs.Prelude.{All}
use Rattle.std.specs.List.{AllByRecursion as Each}
use Rattle.std.specs.Cmp.Lexicographic.{nat_list_eq_equiv}
use Rattle.std.specs.BTreeMap.{BTreeMap}
use Rattle.std.proofs.lemmas.List.Sums.{sum_by-cons, sum_by_more}
use Rattle.std.proofs.lemmas.Nat.{mul-le}
use Rattle.queue_types.specs.Job.{owed, is_live}
use Rattle.queue_types.specs.declared.job.Job.{Job}
use Rattle.queue_core.specs.Balance.{AreAmounts}
use Rattle.queue_core.specs.Sound.{reserved_for}
use Rattle.queue_core.specs.Totals.{TellsAmounts, total, total_in}
use Rattle.queue_core.proofs.Ordered.{each_of}

-- of that name
abbrev pub of_name : {X : Type 0} → (X → List ℕ) → (X → ℕ) → List ℕ → X → ℕ
of_name name amount q x = if bytes_eq (name x) q then amount x else 0

abbrev pick : Bool → ℕ → ℕ
pick b n = if b then n else 0

-- the sum of a name with one more row, of which p is told
pub total_more : {X : Type 0} (name : X → List ℕ) (amount : X → ℕ) (q : List ℕ) (xs : List X) (i : ℕ) (x : X) (p : Bor (List ℕ) × ℕ) (before after : ℕ) → i < length xs → x ≡ get_or xs i x → (p.0.now ≡ name x) × (p.1 ≡ amount x)
    → before ≡ total name amount q (take i xs) → after ≡ before + pick (bytes_eq q p.0.now) p.1 → after ≡ total name amount q (take (i + 1) xs)
total_more {X} name amount q xs i x p before after lt is told old new =
    let f = of_name name amount q in
    let sum = total name amount q (take i xs) in
    let here : pick (bytes_eq q p.0.now) p.1 ≡ f x = (λ k. pick (bytes_eq q (told.0 k)) (told.1 k)) ∙ ap (λ (b : Bool). pick b (amount x)) (nat_list_eq_equiv.symm q (name x)) in
    new ∙ (λ k. old k + here k) ∙ ap (λ (y : X). sum + f y) is ∙ sym (sum_by_more f xs i x lt)

-- of what is told of rows the sums are known
pub totals_told : {E X : Type 0} (r : Result (BTreeMap (Bor (List ℕ)) ℕ) E) (tells : X → Bor (List ℕ) × ℕ → Type 0) (xs : List X) (name : X → List ℕ) (amount : X → ℕ) (sum : List ℕ → ℕ)
    → TellsAmounts tells name amount → ((q : List ℕ) → total name amount q xs ≡ sum q)
    → IfOk r (λ m. (label : X → List ℕ) (size : X → ℕ) → TellsAmounts tells label size → (q : List ℕ) → total_in m q ≡ total label size q xs) → IfOk r (λ m. (q : List ℕ) → total_in m q ≡ sum q)
totals_told (Ok m) tells xs name amount sum told is h = λ q. h name amount told q ∙ is q
totals_told (Err e) tells xs name amount sum told is h = tt

-- ---- what is set aside for jobs

product : (a b : ℕ) → a ≤ 100000 → b ≤ 999 → a * b ≤ 2 ^ 28
product a b h k = omega (arith, mul-le a b 100000 999 h k)

part : (b live hold : Bool) (n c : ℕ) → n ≤ 2 ^ 28 → cond b (cond live (cond hold 0 (n - c)) 0) 0 ≤ 2 ^ 28
part true true true n c h = omega arith
part true true false n c h = omega arith
part true false hold n c h = omega arith
part false live hold n c h = omega arith

each_bound : (q : List ℕ) (js : List Job) → Each AreAmounts js → reserved_for q js ≤ 2 ^ 28 * length js
each_bound q [] all = omega arith
each_bound q (j ∷ js) all =
    let more = each_bound q js all.1 in
    let here = part (bytes_eq j.owner q) (is_live j) j.hold (j.impressions * j.copies) j.count (product j.impressions j.copies all.0.impressions all.0.copies) in
    omega (arith, sum_by-cons (λ (k : Job). cond (bytes_eq k.owner q) (owed k) 0) j js)

pub reserved_bound : (q : List ℕ) (js : List Job) → All AreAmounts js → length js < 2 ^ 31 → reserved_for q js < 2 ^ 60
reserved_bound q js all few = let most = each_bound q js (each_of AreAmounts js all) in omega arith
