-- A table as the rows that it has, in whatever order.
use Rattle.std.proofs.Common.{◌≡◌, inl, inr, ℤ, List, [], ◌∷◌, ◌++◌, map, length, filter, Bool, true, false, not, ◌||◌, if◌then◌else◌, ◌≤◌, All, refl, sym, ap, subst, ◌∙◌, arith, is_eq, Less, Equal, Greater, Ordering}
use Rattle.std.specs.Ordering.{match_ordering}
use Rattle.std.proofs.lemmas.List.{nil_from_length}
use Rattle.std.proofs.lemmas.List.Elements.{All-cons, All-tail}
use Rattle.std.proofs.lemmas.Map.Lookups.{exact_signed}
use Rattle.std.specs.List.Sorted.{IsPermutation}
use Rattle.std.specs.Cmp.{tied_itself}
use Rattle.std.proofs.lemmas.Bool.{cases_Bool, or_parts}
use Rattle.std.proofs.lemmas.List.Sorted.{IsPermutation-refl, IsPermutation-trans, IsPermutation-cons, IsPermutation-map, IsPermutation-middle, IsPermutation-filter_both, length_permutation, All-permutation}
use Rattle.sqlite.specs.declared.types.Value.{Value}
use Rattle.sqlite.specs.declared.types.Value.TheVariants.{Int}
use Rattle.sqlite.specs.Order.{Row, value_cmp}
use Rattle.sqlite.specs.Tree.{put_row, without_rowid, rowid, has_rowid}
use Rattle.sqlite_trees.specs.View.{is_int}
use Rattle.sqlite_trees.proofs.ListLemmas.{IsPermutation-filter, filter-map, filter_same, all_of}
use Rattle.sqlite_rules.specs.Edit.{is_taken, id_in}
use Rattle.sqlite_rules.proofs.TableLemmas.{int_is}
use Rattle.sqlite_rules.specs.Lists.{Has}
use Rattle.sqlite_value.proofs.OrderLemmas.{value_cmp_total, value_cmp-Int}
use Rattle.queue_tables.specs.Kept.{AreKeyed, HasRows, replaced}
use Rattle.queue_tables.proofs.Numbers.{equal_of}

pub swap_front : {X : Type 0} (x y : X) (zs : List X) → IsPermutation (x ∷ y ∷ zs) (y ∷ x ∷ zs)
swap_front x y zs = IsPermutation-middle (x ∷ []) y zs

-- a row with a fresh rowid is one more
put_at : (o : Ordering) (new r : Row) (rs : List Row) → (is_taken rs new ≡ false → IsPermutation (new ∷ rs) (put_row new rs)) → (is_eq o || is_taken rs new) ≡ false
    → IsPermutation (new ∷ r ∷ rs) (match_ordering o (r ∷ put_row new rs) (new ∷ rs) (new ∷ r ∷ rs))
put_at Less new r rs more fresh = IsPermutation-trans (new ∷ r ∷ rs) (r ∷ new ∷ rs) (r ∷ put_row new rs) (swap_front new r rs) (IsPermutation-cons r (new ∷ rs) (put_row new rs) (more fresh))
put_at Equal new r rs more fresh = absurd cc
put_at Greater new r rs more fresh = IsPermutation-refl (new ∷ r ∷ rs)

pub put_fresh : (new : Row) (rows : List Row) → is_taken rows new ≡ false → IsPermutation (new ∷ rows) (put_row new rows)
put_fresh new [] fresh = IsPermutation-refl (new ∷ [])
put_fresh new (r ∷ rs) fresh = put_at (value_cmp (rowid r) (rowid new)) new r rs (put_fresh new rs) fresh

pub has_at : {X : Type 0} (P : X → Type 0) (xs : List X) (x : X) → All P xs → Has xs x → P x
has_at P [] x all there = absurd there
has_at P (y ∷ ys) x all (inl same) = subst P (sym same) (all 0 y (omega arith))
has_at P (y ∷ ys) x all (inr more) = has_at P ys x (All-tail P y ys all) more

-- ---- what a filter keeps

pub kept_is_there : {X : Type 0} (p : X → Bool) (xs : List X) (x : X) → filter p xs ≡ x ∷ [] → Has xs x
kept_is_there {X} p [] x one = absurd cc
kept_is_there {X} p (y ∷ ys) x one = elim (cases_Bool (p y)) [
  | inl passed ↦ inl (let e : ◌≡◌ {A = List X} (y ∷ filter p ys) (x ∷ []) = rw passed at one in let same : y ≡ x = cc in sym same)
  | inr failed ↦ inr (kept_is_there p ys x (rw failed at one))
]

pub kept_passes : {X : Type 0} (p : X → Bool) (xs : List X) (x : X) → filter p xs ≡ x ∷ [] → p x ≡ true
kept_passes {X} p [] x one = absurd cc
kept_passes {X} p (y ∷ ys) x one = elim (cases_Bool (p y)) [
  | inl passed ↦ let e : ◌≡◌ {A = List X} (y ∷ filter p ys) (x ∷ []) = rw passed at one in let same : y ≡ x = cc in ap p (sym same) ∙ passed
  | inr failed ↦ kept_passes p ys x (rw failed at one)
]

-- ---- rowids

-- what passes is kept
some_kept : {X : Type 0} (p : X → Bool) (xs : List X) (x : X) → Has xs x → p x ≡ true → 1 ≤ length (filter p xs)
some_kept p [] x there passed = absurd there
some_kept {X} p (y ∷ ys) x (inl same) passed = rw (ap p (sym same) ∙ passed) (omega arith)
some_kept {X} p (y ∷ ys) x (inr more) passed = elim (cases_Bool (p y)) [
  | inl also ↦ rw also (omega arith)
  | inr fails ↦ rw fails (some_kept p ys x more passed)
]

-- the one row with its rowid
only_one : (p : Row → Bool) (was : Row) (rows : List Row) → p was ≡ true → length (filter p rows) ≤ 1 → Has rows was → filter p rows ≡ was ∷ []
only_one p was [] passed few there = absurd there
only_one p was (r ∷ rs) passed few (inl same) =
    let here : p r ≡ true = ap p (sym same) ∙ passed in
    let long : length (r ∷ filter p rs) ≤ 1 = rw here at few in
    rw (here, nil_from_length (filter p rs) (omega (arith, long))) (ap (λ (x : Row). x ∷ []) (sym same))
only_one p was (r ∷ rs) passed few (inr more) = elim (cases_Bool (p r)) [
  | inl also ↦ absurd (
      let long : length (r ∷ filter p rs) ≤ 1 = rw also at few in
      let some = some_kept p rs was more passed in
      omega (arith, long, some))
  | inr fails ↦ rw fails (only_one p was rs passed (rw fails at few) more)
]

pub keyed_permuted : (xs ys : List Row) → IsPermutation xs ys → AreKeyed xs → AreKeyed ys
keyed_permuted xs ys same k = record {
  ints = All-permutation (λ r. is_int (rowid r) ≡ true) xs ys same k.ints;
  apart = λ id. let long = length_permutation (filter (has_rowid id) xs) (filter (has_rowid id) ys) (IsPermutation-filter (has_rowid id) xs ys same) in omega (arith, long, k.apart id);
}

-- two integers that are equal as rowids
same_id : (v : Value) (m id : ℤ) → v ≡ Int m → is_eq (value_cmp v (Int id)) ≡ true → m ≡ id
same_id v m id is e = exact_signed m id (equal_of _ (rw (is, value_cmp-Int m id) at e))

none_has : (new : Row) (id : ℤ) (rows : List Row) → rowid new ≡ Int id → is_taken rows new ≡ false → filter (has_rowid id) rows ≡ []
none_has new id [] is fresh = refl
none_has new id (r ∷ rs) is fresh =
    let parts = or_parts (is_eq (value_cmp (rowid r) (rowid new))) (is_taken rs new) fresh in
    let other : has_rowid id r ≡ false = rw is at parts.0 in
    rw other (none_has new id rs is parts.1)

pub keyed_more : (new : Row) (rows : List Row) → is_int (rowid new) ≡ true → is_taken rows new ≡ false → AreKeyed rows → AreKeyed (new ∷ rows)
keyed_more new rows int fresh k = record {
  ints = All-cons (λ r. is_int (rowid r) ≡ true) new rows int k.ints;
  apart = λ id. elim (cases_Bool (has_rowid id new)) [
    | inl here ↦
        let is : rowid new ≡ Int (id_in (rowid new)) = int_is (rowid new) int in
        let at : rowid new ≡ Int id = is ∙ ap (λ (m : ℤ). Int m) (same_id (rowid new) (id_in (rowid new)) id is here) in
        rw (here, none_has new id rows at fresh) (omega arith)
    | inr other ↦ rw other (k.apart id)
  ];
}

keyed_rest : (was : Row) (rows : List Row) → AreKeyed (was ∷ rows) → AreKeyed rows
keyed_rest was rows k = record {
  ints = All-tail (λ r. is_int (rowid r) ≡ true) was rows k.ints;
  apart = λ id. elim (cases_Bool (has_rowid id was)) [
    | inl here ↦ let long : length (was ∷ filter (has_rowid id) rows) ≤ 1 = rw here at (k.apart id) in omega (arith, long)
    | inr other ↦ rw other at (k.apart id)
  ];
}

-- a row is taken out
pub take_out : (id : ℤ) (was : Row) (rows : List Row) → rowid was ≡ Int id → AreKeyed rows → Has rows was → IsPermutation rows (was ∷ without_rowid id rows)
take_out id was rows is keyed there =
    let passed : has_rowid id was ≡ true = rw is (ap is_eq (tied_itself value_cmp_total (Int id))) in
    subst (λ (k : List Row). IsPermutation rows (k ++ without_rowid id rows)) (only_one (has_rowid id) was rows passed (keyed.apart id) there) (IsPermutation-filter_both (has_rowid id) (λ r. not (has_rowid id r)) (λ r. refl) rows)

-- ---- what is put anew

pub replaced_none : (q : Row → Bool) (f : Row → Row) (vs : List Row) → filter q vs ≡ [] → replaced q f vs ≡ vs
replaced_none q f [] none = refl
replaced_none q f (v ∷ vs) none = elim (cases_Bool (q v)) [
  | inl passed ↦ absurd (let e : ◌≡◌ {A = List Row} (v ∷ filter q vs) [] = rw passed at none in cc)
  | inr failed ↦ rw failed (ap (λ (k : List Row). v ∷ k) (replaced_none q f vs (rw failed at none)))
]

none_left : (q : Row → Bool) (t : Row) (vs rest : List Row) → filter q vs ≡ t ∷ [] → IsPermutation vs (t ∷ rest) → filter q rest ≡ []
none_left q t vs rest one same =
    let passed = kept_passes q vs t one in
    let both : IsPermutation (filter q vs) (filter q (t ∷ rest)) = IsPermutation-filter q vs (t ∷ rest) same in
    let long : length (filter q (t ∷ rest)) ≡ length (filter q vs) = length_permutation _ _ both in
    nil_from_length (filter q rest) (let e : length (t ∷ filter q rest) ≡ length (t ∷ []) = subst (λ (k : List Row). length (t ∷ filter q rest) ≡ length k) one (rw passed at long) in omega (arith, e))

module _ {K : Type 0} (cells : Row → Row) (values rows : List Row) (has : HasRows K cells values rows) where
  -- one more row
  pub added : (new : Row) → is_int (rowid new) ≡ true → is_taken rows new ≡ false → HasRows K cells (cells new ∷ values) (put_row new rows)
  added new keyed fresh = record {
    same = IsPermutation-trans (cells new ∷ values) (map cells (new ∷ rows)) (map cells (put_row new rows)) (IsPermutation-cons (cells new) values (map cells rows) has.same)
        (IsPermutation-map cells (new ∷ rows) (put_row new rows) (put_fresh new rows fresh));
    keyed = λ k. keyed_permuted (new ∷ rows) (put_row new rows) (put_fresh new rows fresh) (keyed_more new rows keyed fresh (has.keyed k));
  }

  -- what WHERE lets through, by what the rows show
  pub passing : (p q : Row → Bool) → ((r : Row) → p r ≡ q (cells r)) → IsPermutation (filter q values) (map cells (filter p rows))
  passing p q alike =
      subst (IsPermutation (filter q values)) (filter-map q cells rows ∙ ap (map cells) (sym (filter_same p (λ r. q (cells r)) rows (all_of (λ r. p r ≡ q (cells r)) alike rows)))) (IsPermutation-filter q values (map cells rows) has.same)

  -- one row in the place of another
  pub changed : K → (q : Row → Bool) (f : Row → Row) (t was new : Row) (id : ℤ) → filter q values ≡ t ∷ [] → Has rows was → cells was ≡ t → rowid was ≡ Int id
      → rowid new ≡ Int id → is_taken (without_rowid id rows) new ≡ false → cells new ≡ f t → HasRows K cells (replaced q f values) (put_row new (without_rowid id rows))
  changed k q f t was new id one there shows is new_is fresh put =
      let rest = map cells (without_rowid id rows) in
      let out : IsPermutation rows (was ∷ without_rowid id rows) = take_out id was rows is (has.keyed k) there in
      let split : IsPermutation values (t ∷ rest) = subst (λ (x : Row). IsPermutation values (x ∷ rest)) shows (IsPermutation-trans values (map cells rows) (map cells (was ∷ without_rowid id rows)) has.same (IsPermutation-map cells rows (was ∷ without_rowid id rows) out)) in
      let anew : IsPermutation (replaced q f values) (replaced q f (t ∷ rest)) = IsPermutation-map (λ v. if q v then f v else v) values (t ∷ rest) split in
      let shape : replaced q f (t ∷ rest) ≡ cells new ∷ rest = rw (kept_passes q values t one, replaced_none q f rest (none_left q t values rest one split), put) refl in
      record {
        same = IsPermutation-trans (replaced q f values) (cells new ∷ rest) (map cells (put_row new (without_rowid id rows))) (subst (IsPermutation (replaced q f values)) shape anew)
            (IsPermutation-map cells (new ∷ without_rowid id rows) (put_row new (without_rowid id rows)) (put_fresh new (without_rowid id rows) fresh));
        keyed = λ n. keyed_permuted (new ∷ without_rowid id rows) (put_row new (without_rowid id rows)) (put_fresh new (without_rowid id rows) fresh)
            (keyed_more new (without_rowid id rows) (rw new_is refl) fresh (keyed_rest was (without_rowid id rows) (keyed_permuted rows (was ∷ without_rowid id rows) out (has.keyed k))));
      }
