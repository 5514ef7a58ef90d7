-- Rows as entries of finite maps.
use Rattle.std.proofs.Common.{◌≡◌, ◌⊎◌, inl, inr, ℕ, ◌+◌, ◌<◌, ◌≤◌, ◌==◌, suc, zero, List, [], ◌∷◌, Bool, true, if◌then◌else◌, Option, Some, None, IfSome, IsSome, is_some, max, fold, length, map, get_or, sum_by, bytes_eq, refl, sym, ap, subst, ◌∙◌, arith}
use lib.Dec.{T}
use Rattle.std.specs.declared.cmp.Ordering.{Ordering}
use Rattle.std.specs.declared.cmp.Ordering.TheVariants.{Equal}
use Rattle.std.specs.Ordering.{is_lt, nat_cmp, ordering_then}
use Rattle.std.specs.Cmp.{IsTotalOrder, then_total, on_total, nat_cmp_total}
use Rattle.std.specs.Cmp.Lexicographic.{nat_list_cmp_total, bytes_decides}
use Rattle.std.specs.FinMap.{IsAntisymmetric, is_sorted, slice_cmp-IsAntisymmetric, nat_cmp-IsAntisymmetric}
use Rattle.std.specs.FinMap as finmap
use Rattle.std.proofs.lemmas.Bool.{cases_Bool, cases_lt, cases_eq, eq-eqb, ne_eqb}
use Rattle.std.proofs.lemmas.List.{get_or-map, length-map}
use Rattle.std.proofs.lemmas.List.Sums.{sum_by-cons}
use Rattle.queue_core.specs.World.{text_cmp, grant_cmp, report_cmp, job_at}
use Rattle.queue_types.specs.declared.job.Job.{Job}
use Rattle.queue_types.specs.declared.event.KeptReport.{KeptReport}
use Rattle.queue_rows.specs.Jobs.{has_number}
use Rattle.queue_rows.specs.Order.{AreInOrder}
use Rattle.queue_rows.proofs.AmountLemmas.{of_name}
use Rattle.queue_rows.proofs.WorldMaps.{found_there, found_at}

-- ---- orders

pub text_same : IsAntisymmetric text_cmp
text_same = slice_cmp-IsAntisymmetric nat_cmp-IsAntisymmetric

then_equal : (r s : Ordering) → ordering_then r s ≡ Equal → (r ≡ Equal) × (s ≡ Equal)
then_equal Equal s e = (refl, e)
then_equal _ s e = absurd cc

pub grant_same : IsAntisymmetric grant_cmp
grant_same x y e =
    let parts = then_equal (text_cmp x.0 y.0) (text_cmp x.1 y.1) e in
    let a : x.0 ≡ y.0 = text_same x.0 y.0 parts.0 in
    let b : x.1 ≡ y.1 = text_same x.1 y.1 parts.1 in
    λ i. (a i, b i)

pub report_same : IsAntisymmetric report_cmp
report_same x y e =
    let parts = then_equal (nat_cmp x.0 y.0) (nat_cmp x.1 y.1) e in
    let a : x.0 ≡ y.0 = nat_cmp-IsAntisymmetric x.0 y.0 parts.0 in
    let b : x.1 ≡ y.1 = nat_cmp-IsAntisymmetric x.1 y.1 parts.1 in
    λ i. (a i, b i)

pub grant_total : IsTotalOrder grant_cmp
grant_total = then_total (on_total (λ (p : List ℕ × List ℕ). p.0) nat_list_cmp_total) (on_total (λ (p : List ℕ × List ℕ). p.1) nat_list_cmp_total)

pub report_total : IsTotalOrder report_cmp
report_total = then_total (on_total (λ (p : ℕ × ℕ). p.0) nat_cmp_total) (on_total (λ (p : ℕ × ℕ). p.1) nat_cmp_total)

-- ---- rows and entries

pub entries_climb : {X K V : Type 0} (R : K → K → Ordering) (before : X → X → Bool) (entry : X → K × V) (e : X) → ((x y : X) → before x y ≡ is_lt (R (entry x).0 (entry y).0)) → (xs : List X) → AreInOrder before xs
    → (k : ℕ) (d : K × V) → k + 1 < length (map entry xs) → is_lt (R (get_or (map entry xs) k d).0 (get_or (map entry xs) (k + 1) d).0) ≡ true
entries_climb {X} {K} {V} R before entry e is xs climb k d lt =
    let len : length (map entry xs) ≡ length xs = length-map xs entry in
    let left : get_or (map entry xs) k d ≡ entry (get_or xs k e) = get_or-map entry xs k e d (omega arith) in
    let right : get_or (map entry xs) (k + 1) d ≡ entry (get_or xs (k + 1) e) = get_or-map entry xs (k + 1) e d (omega arith) in
    ap (λ (p : K × V). is_lt (R p.0 (get_or (map entry xs) (k + 1) d).0)) left ∙ ap (λ (p : K × V). is_lt (R (entry (get_or xs k e)).0 p.0)) right
    ∙ sym (is (get_or xs k e) (get_or xs (k + 1) e)) ∙ climb k e (omega arith)

pub row_found : {X K V : Type 0} (R : K → K → Ordering) → IsAntisymmetric R → (entry : X → K × V) (e : X) (xs : List X) (q : K) (v : V) → finmap.find R q (map entry xs) ≡ Some v
    → (k : ℕ) × (k < length xs) × ((entry (get_or xs k e)).0 ≡ q) × ((entry (get_or xs k e)).1 ≡ v)
row_found {X} {K} {V} R same entry e xs q v h =
    let at = found_at R q v (map entry xs) h in
    let lt : at.0 < length xs = omega (arith, at.1, length-map xs entry) in
    let is : get_or (map entry xs) at.0 (entry e) ≡ entry (get_or xs at.0 e) = get_or-map entry xs at.0 e (entry e) lt in
    let tied = at.2 (entry e) in
    (at.0, lt, ap (λ (p : K × V). p.0) (sym is) ∙ sym (same q (get_or (map entry xs) at.0 (entry e)).0 tied.0), ap (λ (p : K × V). p.1) (sym is) ∙ tied.1)

pub row_there : {X K V : Type 0} (R : K → K → Ordering) → IsTotalOrder R → (entry : X → K × V) (e : X) (xs : List X) (k : ℕ) → k < length xs → T (is_sorted R (map entry xs))
    → finmap.find R (entry (get_or xs k e)).0 (map entry xs) ≡ Some (entry (get_or xs k e)).1
row_there {X} {K} {V} R o entry e xs k lt sorted =
    let is : get_or (map entry xs) k (entry e) ≡ entry (get_or xs k e) = get_or-map entry xs k e (entry e) lt in
    subst (λ (p : K × V). finmap.find R p.0 (map entry xs) ≡ Some p.1) is (found_there R o (map entry xs) k (entry e) (omega (arith, length-map xs entry)) sorted)

pub if_some : {X : Type 0} (o : Option X) (P : X → Type 0) → ((v : X) → o ≡ Some v → P v) → IfSome o P
if_some None P h = tt
if_some (Some v) P h = h v refl

pub some_of : {X : Type 0} (o : Option X) → IsSome o → (v : X) × (o ≡ Some v)
some_of None h = absurd cc
some_of (Some v) h = (v, refl)

-- ---- sums

pub sum_over_map : {X Y : Type 0} (f : Y → ℕ) (g : X → Y) (xs : List X) → sum_by f (map g xs) ≡ sum_by (λ x. f (g x)) xs
sum_over_map f g [] = refl
sum_over_map {X} f g (x ∷ xs) = sum_by-cons f (g x) (map g xs) ∙ ap (λ (n : ℕ). f (g x) + n) (sum_over_map f g xs) ∙ sym (sum_by-cons (λ (y : X). f (g y)) x xs)

-- a sum by name that is not 0 has a row of that name
pub positive_row : {X : Type 0} (name : X → List ℕ) (amount : X → ℕ) (a : List ℕ) (e : X) (xs : List X) → 1 ≤ sum_by (of_name name amount a) xs → (k : ℕ) × (k < length xs) × (name (get_or xs k e) ≡ a)
positive_row name amount a e [] h = absurd (omega arith)
positive_row name amount a e (x ∷ xs) h = elim (cases_Bool (bytes_eq (name x) a)) [
  | inl same ↦ (0, omega arith, (bytes_decides (name x) a).0 same)
  | inr other ↦
      let none : of_name name amount a x ≡ 0 = ap (λ (b : Bool). if b then amount x else 0) other in
      let rest = positive_row name amount a e xs (omega (arith, h, none, sum_by-cons (of_name name amount a) x xs)) in
      (suc rest.0, omega (arith, rest.1), rest.2)
]

-- a row of that name whose amount is not 0 makes the sum not 0
pub row_positive : {X : Type 0} (name : X → List ℕ) (amount : X → ℕ) (a : List ℕ) (e : X) (xs : List X) (k : ℕ) → k < length xs → name (get_or xs k e) ≡ a → 1 ≤ amount (get_or xs k e) → 1 ≤ sum_by (of_name name amount a) xs
row_positive name amount a e [] k lt is some = absurd (omega arith)
row_positive name amount a e (x ∷ xs) zero lt is some =
    let here : of_name name amount a x ≡ amount x = ap (λ (b : Bool). if b then amount x else 0) ((bytes_decides (name x) a).1 is) in
    omega (arith, some, here, sum_by-cons (of_name name amount a) x xs)
row_positive name amount a e (x ∷ xs) (suc k) lt is some =
    omega (arith, row_positive name amount a e xs k (omega arith) is some, sum_by-cons (of_name name amount a) x xs)

-- ---- numbers of jobs

-- a job has a number just where one is found by it
pub number_is : (n : ℕ) (js : List Job) → has_number n js ≡ is_some (job_at n js)
number_is n [] = refl
number_is n (j ∷ js) = elim (cases_Bool (j.number == n)) [ inl same ↦ rw same refl | inr other ↦ rw other (number_is n js) ]

-- ---- the greatest count

abbrev more : ℕ → ℕ → KeptReport → ℕ
more n g r = if n == r.report.job then max g r.report.count else g

start_upto : (n g : ℕ) (rs : List KeptReport) → g ≤ fold (more n) g rs
start_upto n g [] = omega arith
start_upto n g (r ∷ rs) = elim (cases_Bool (n == r.report.job)) [
  | inl same ↦ let is : more n g r ≡ max g r.report.count = ap (λ (b : Bool). if b then max g r.report.count else g) same in omega (arith, is, start_upto n (more n g r) rs)
  | inr other ↦ let is : more n g r ≡ g = ap (λ (b : Bool). if b then max g r.report.count else g) other in omega (arith, is, start_upto n (more n g r) rs)
]

-- each report of the job is within it
pub count_within : (n g : ℕ) (rs : List KeptReport) (k : ℕ) (d : KeptReport) → k < length rs → (get_or rs k d).report.job ≡ n → (get_or rs k d).report.count ≤ fold (more n) g rs
count_within n g [] k d lt is = absurd (omega arith)
count_within n g (r ∷ rs) zero d lt is =
    let same : more n g r ≡ max g r.report.count = ap (λ (b : Bool). if b then max g r.report.count else g) (eq-eqb n r.report.job (sym is)) in
    omega (arith, same, start_upto n (more n g r) rs)
count_within n g (r ∷ rs) (suc k) d lt is = count_within n (more n g r) rs k d (omega arith) is

-- it is the start's, or a report of the job has it
pub count_reached : (n g : ℕ) (rs : List KeptReport) (d : KeptReport) → (fold (more n) g rs ≡ g) ⊎ ((k : ℕ) × (k < length rs) × ((get_or rs k d).report.job ≡ n) × ((get_or rs k d).report.count ≡ fold (more n) g rs))
count_reached n g [] d = inl refl
count_reached n g (r ∷ rs) d = elim (count_reached n (more n g r) rs d) [
  | inr later ↦ inr (suc later.0, omega (arith, later.1), later.2, later.3)
  | inl stays ↦ elim (cases_eq n r.report.job) [
    | inr other ↦ inl (stays ∙ ap (λ (b : Bool). if b then max g r.report.count else g) (ne_eqb n r.report.job other))
    | inl same ↦
        let is : more n g r ≡ max g r.report.count = ap (λ (b : Bool). if b then max g r.report.count else g) (eq-eqb n r.report.job same) in
        elim (cases_lt g r.report.count) [
          | inl grows ↦ inr (0, omega arith, sym same, omega (arith, stays, is, grows))
          | inr keeps ↦ inl (omega (arith, stays, is, keeps))
        ]
  ]
]
