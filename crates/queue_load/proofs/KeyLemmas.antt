-- Rows that are told apart by their rowids.
use Rattle.std.proofs.Common.{◌≡◌, inl, inr, ℕ, ℤ, ◌+◌, ◌<◌, ◌≤◌, suc, zero, List, [], ◌∷◌, map, filter, length, All, Bool, true, false, get_or, slice_index_or, refl, sym, ap, subst, ◌∙◌, arith, is_eq, is_lt, Ordering, Less, Equal, Greater}
use Rattle.std.specs.Ordering.{int_cmp, ordering_reverse}
use Rattle.std.specs.Cmp.{Equal-is, int_cmp_total, tied_itself}
use Rattle.std.specs.List.Sorted.{IsPermutation}
use Rattle.std.proofs.Math.ListN.{get_or-map}
use Rattle.std.proofs.lemmas.Bool.{cases_Bool}
use Rattle.std.proofs.lemmas.List.{length-map}
use Rattle.std.proofs.lemmas.List.Elements.{All-cons, All-map, All-tail}
use Rattle.std.proofs.lemmas.List.Sorted.{All-permutation, IsPermutation-refl, length_permutation}
use Rattle.std.proofs.lemmas.Map.Lookups.{exact_signed}
use Rattle.sqlite.specs.Order.{Row, column, value_cmp}
use Rattle.sqlite.specs.Tree.{rowid, has_rowid}
use Rattle.sqlite.specs.declared.types.Value.{Value}
use Rattle.sqlite.specs.declared.types.Value.TheVariants.{Int}
use Rattle.sqlite_trees.proofs.ListLemmas.{IsPermutation-filter}
use Rattle.sqlite_trees.specs.View.{is_int}
use Rattle.sqlite_value.proofs.OrderLemmas.{then-Equal, value_cmp-Int}
use Rattle.queue_rows.specs.Order.{AreInOrder}
use Rattle.queue_tables.specs.Kept.{AreKeyed}
use Rattle.queue_load.specs.Keyed.{id_before, id_values, id_view}
use Rattle.queue_load.specs.Loaded.{AreFormedRows, IsTable, key_cmp}
use Rattle.queue_load.specs.declared.typed.RowId.{RowId}
use Rattle.queue_load.proofs.Unique.{less_of}

-- each is below each later one
abbrev pub Rises : {T : Type 0} → (T → ℤ) → List T → Type 0
Rises id_of [] = Unit {0}
Rises id_of (x ∷ xs) = All (λ y. int_cmp (id_of x) (id_of y) ≡ Less) xs × Rises id_of xs

pub rises_of : (xs : List RowId) → AreInOrder id_before xs → Rises (λ (x : RowId). x.id) xs
rises_of [] h = tt
rises_of (x ∷ []) h = ((λ k d low. absurd (omega (arith, low))), tt)
rises_of (x ∷ y ∷ ys) h =
    let rest = rises_of (y ∷ ys) (λ k d low. let shift : suc k + 1 ≡ suc (k + 1) = omega arith in subst (λ (m : ℕ). id_before (get_or (y ∷ ys) k d) (get_or (x ∷ y ∷ ys) m d) ≡ true) shift (h (suc k) d (omega (arith, low)))) in
    let next : int_cmp x.id y.id ≡ Less = less_of _ (h 0 x (omega arith)) in
    (All-cons (λ z. int_cmp x.id z.id ≡ Less) y ys next (λ k d low. int_cmp_total.trans x.id y.id (slice_index_or ys k d).id next (rest.0 k d low)), rest)

module _ {T : Type 0} (id_of : T → ℤ) where
  abbrev Tied : ℤ → T → Bool
  Tied id t = is_eq (int_cmp (id_of t) id)

  none_tied : (id : ℤ) (ts : List T) → All (λ t. int_cmp id (id_of t) ≡ Less) ts → filter (Tied id) ts ≡ []
  none_tied id [] all = refl
  none_tied id (t ∷ ts) all =
      let here : Tied id t ≡ false = ap is_eq (int_cmp_total.antisymm (id_of t) id ∙ ap ordering_reverse (all 0 t (omega arith))) in
      rw here (none_tied id ts (All-tail (λ t. int_cmp id (id_of t) ≡ Less) t ts all))

  pub one_tied : (id : ℤ) (ts : List T) → Rises id_of ts → length (filter (Tied id) ts) ≤ 1
  one_tied id [] rise = omega arith
  one_tied id (t ∷ ts) rise = elim (cases_Bool (Tied id t)) [
    | inl here ↦
        let same : id_of t ≡ id = exact_signed (id_of t) id ((Equal-is (int_cmp (id_of t) id)).0 here) in
        let none = none_tied id ts (subst (λ (i : ℤ). All (λ u. int_cmp i (id_of u) ≡ Less) ts) same rise.0) in
        rw (here, none) (omega arith)
    | inr apart ↦ rw apart (one_tied id ts rise.1)
  ]

  -- two neighbours of one rowid
  two_tied : (id : ℤ) (ts : List T) (k : ℕ) (d : T) → k + 1 < length ts → id_of (get_or ts k d) ≡ id → id_of (get_or ts (k + 1) d) ≡ id → 2 ≤ length (filter (Tied id) ts)
  two_tied id [] k d low here next = absurd (omega (arith, low))
  two_tied id (t ∷ []) k d low here next = absurd (omega (arith, low))
  two_tied id (t ∷ u ∷ ts) zero d low here next =
      let first : Tied id t ≡ true = ap (λ (i : ℤ). is_eq (int_cmp i id)) here ∙ ap is_eq (tied_itself int_cmp_total id) in
      let second : Tied id u ≡ true = ap (λ (i : ℤ). is_eq (int_cmp i id)) next ∙ ap is_eq (tied_itself int_cmp_total id) in
      rw (first, second) (omega arith)
  two_tied id (t ∷ u ∷ ts) (suc k) d low here next =
      let shift : suc k + 1 ≡ suc (k + 1) = omega arith in
      let more = two_tied id (u ∷ ts) k d (omega (arith, low)) here (ap (λ (m : ℕ). id_of (get_or (t ∷ u ∷ ts) m d)) (sym shift) ∙ next) in
      grows t (u ∷ ts) more
    where
      grows : (t : T) (us : List T) → 2 ≤ length (filter (Tied id) us) → 2 ≤ length (filter (Tied id) (t ∷ us))
      grows t us more = elim (cases_Bool (Tied id t)) [ inl tied ↦ rw tied (omega (arith, more)) | inr apart ↦ rw apart more ]

  module _ (values : T → Row) (view : Row → Row) (firsts : (t : T) → column (values t) 0 ≡ Int (id_of t)) (seen : (r : Row) → column (view r) 0 ≡ rowid r) where
    has_first : ℤ → Row → Bool
    has_first id v = is_eq (value_cmp (column v 0) (Int id))

    tied_first : (id : ℤ) (ts : List T) → length (filter (has_first id) (map values ts)) ≡ length (filter (Tied id) ts)
    unfolding has_first
    tied_first id [] = refl
    tied_first id (t ∷ ts) =
        let same : is_eq (value_cmp (column (values t) 0) (Int id)) ≡ Tied id t = ap (λ (v : Value). is_eq (value_cmp v (Int id))) (firsts t) ∙ ap is_eq (value_cmp-Int (id_of t) id) in
        let more = tied_first id ts in
        elim (cases_Bool (Tied id t)) [
          | inl here ↦ rw (same ∙ here, here) (omega (arith, more))
          | inr apart ↦ rw (same ∙ apart, apart) more
        ]

    has_id : (id : ℤ) (rs : List Row) → length (filter (has_rowid id) rs) ≡ length (filter (has_first id) (map view rs))
    unfolding has_first
    has_id id [] = refl
    has_id id (r ∷ rs) =
        let same : is_eq (value_cmp (column (view r) 0) (Int id)) ≡ has_rowid id r = ap (λ (v : Value). is_eq (value_cmp v (Int id))) (seen r) in
        let more = has_id id rs in
        elim (cases_Bool (has_rowid id r)) [
          | inl here ↦ rw (same ∙ here, here) (omega (arith, more))
          | inr apart ↦ rw (same ∙ apart, apart) more
        ]

    -- rows that show values whose first column rises
    pub keyed_by : (ts : List T) (rs : List Row) → Rises id_of ts → IsPermutation (map values ts) (map view rs) → AreKeyed rs
    keyed_by ts rs rise same =
        let Whole = λ (v : Row). is_int (column v 0) ≡ true in
        let all : All Whole (map view rs) = All-permutation Whole (map values ts) (map view rs) same (All-map Whole values ts (λ k d low. ap is_int (firsts (slice_index_or ts k d)))) in
        record {
          ints = λ k d low.
              let at : is_int (column (get_or (map view rs) k (view d)) 0) ≡ true = all k (view d) (let long = length-map rs view in omega (arith, low, long)) in
              let one : is_int (column (view (get_or rs k d)) 0) ≡ true = subst (λ (v : Row). is_int (column v 0) ≡ true) (get_or-map view rs k d) at in
              subst (λ (v : Value). is_int v ≡ true) (seen (get_or rs k d)) one;
          apart = λ id.
              let a = has_id id rs in
              let b = length_permutation (filter (has_first id) (map values ts)) (filter (has_first id) (map view rs)) (IsPermutation-filter (has_first id) (map values ts) (map view rs) same) in
              let c = tied_first id ts in
              let d = one_tied id ts rise in
              omega (arith, a, b, c, d);
        }

pub ids_keyed : (xs : List RowId) (rs : List Row) → AreInOrder id_before xs → IsPermutation (map id_values xs) (map id_view rs) → AreKeyed rs
ids_keyed xs rs ordered same = keyed_by (λ (x : RowId). x.id) id_values id_view (λ x. refl) (λ r. refl) xs rs (rises_of xs ordered) same

-- ---- and back: rows that are told apart have rowids that rise in their order

neither : (a b : ℤ) → is_lt (int_cmp a b) ≡ false → is_lt (int_cmp b a) ≡ false → a ≡ b
neither a b under over = by (int_cmp a b) refl
  where
    by : (o : Ordering) → int_cmp a b ≡ o → a ≡ b
    by Less is = absurd (let c : is_lt Less ≡ false = ap is_lt (sym is) ∙ under in cc)
    by Equal is = exact_signed a b is
    by Greater is = absurd (let c : is_lt Less ≡ false = ap is_lt (sym (int_cmp_total.antisymm b a ∙ ap ordering_reverse is)) ∙ over in cc)

ids_cmp : (a b : RowId) → key_cmp 1 (id_values a) (id_values b) ≡ int_cmp a.id b.id
ids_cmp a b = then-Equal (value_cmp (Int a.id) (Int b.id)) ∙ value_cmp-Int a.id b.id

pub ids_in_order : (xs : List RowId) (rs : List Row) → IsTable id_values id_view 1 xs rs → AreKeyed rs → AreInOrder id_before xs
ids_in_order xs rs are keyed k d low = elim (cases_Bool (id_before (get_or xs k d) (get_or xs (k + 1) d))) [
  | inl rises ↦ rises
  | inr stays ↦
      let x = get_or xs k d in
      let y = get_or xs (k + 1) d in
      let over : is_lt (int_cmp y.id x.id) ≡ false = ap is_lt (sym (ids_cmp y x)) ∙ are.sorted k d (omega arith) (omega (arith, low)) in
      let same : x.id ≡ y.id = neither x.id y.id stays over in
      let id_of = λ (x : RowId). x.id in
      let a = two_tied id_of y.id xs k d low same refl in
      let b = tied_first id_of id_values id_view (λ x. refl) (λ r. refl) y.id xs in
      let c = has_id id_of id_values id_view (λ x. refl) (λ r. refl) y.id rs in
      let e = length_permutation (filter (has_first id_of id_values id_view (λ x. refl) (λ r. refl) y.id) (map id_values xs)) (filter (has_first id_of id_values id_view (λ x. refl) (λ r. refl) y.id) (map id_view rs)) (IsPermutation-filter _ (map id_values xs) (map id_view rs) are.same) in
      let one = keyed.apart y.id in
      absurd (omega (arith, a, b, c, e, one))
]

int_in : (v : Value) → is_int v ≡ true → (id : ℤ) × (v ≡ Int id)
int_in (Int n) h = (n, refl)
int_in _ h = absurd cc

-- integers are the rowids
ids_are : (rs : List Row) → All (λ r. is_int (rowid r) ≡ true) rs → (xs : List RowId) × (map id_values xs ≡ map id_view rs)
ids_are [] ints = ([], refl)
ids_are (r ∷ rs) ints =
    let one = int_in (rowid r) (ints 0 r (omega arith)) in
    let more = ids_are rs (All-tail (λ r. is_int (rowid r) ≡ true) r rs ints) in
    let x : RowId = record { id = one.0 } in
    (x ∷ more.0, λ i. (sym one.1 i ∷ []) ∷ more.1 i)

-- so rows that are told apart show rowids
abbrev pub any_id : RowId → Type 0
any_id x = Unit {0}

pub ids_formed : (rs : List Row) → AreKeyed rs → AreFormedRows any_id id_values id_view rs
ids_formed rs keyed = let ids = ids_are rs keyed.ints in record { items = ids.0; formed = λ k d low. tt; are = subst (IsPermutation (map id_values ids.0)) ids.1 (IsPermutation-refl (map id_values ids.0)) }
