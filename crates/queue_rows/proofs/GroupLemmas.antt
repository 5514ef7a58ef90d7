-- The documents of a job at the front of a list.
use Rattle.std.proofs.Common.{◌≡◌, ◌==◌, inl, inr, ℕ, ◌+◌, ◌<◌, ◌≤◌, ◌++◌, List, [], ◌∷◌, Bool, true, length, map, take, get_or, arith, sym, ap, subst, ◌∙◌, eq-eqb}
use Rattle.std.specs.List.{range_with_len}
use Rattle.std.proofs.lemmas.Bool.{cases_eq}
use Rattle.std.proofs.lemmas.List.{get_or-map, get_or-take, length-take-le, map-id}
use Rattle.std.proofs.lemmas.List.FromFn.{get_or-range_with_len, map-range_with_len_more}
use Rattle.std.proofs.lemmas.List.Sums.{prefix_len-le-length}
use Rattle.queue_rows.specs.Documents.{next_of, IsGroup}
use Rattle.queue_rows.specs.declared.rows.DocumentRow.{DocumentRow}
use Rattle.queue_rows.proofs.RunLemmas.{longer}

abbrev pub doc_of : DocumentRow → ℕ
doc_of d = d.doc

abbrev pub is_of : ℕ → DocumentRow → Bool
is_of number d = d.job == number

pub group_is : (number n : ℕ) (ds : List DocumentRow) → next_of number ds ≡ n → n ≤ 16 → map doc_of (take n ds) ≡ range_with_len 1 n → IsGroup number ds × (n ≡ next_of number ds)
group_is number n ds e few numbered =
    ((omega (arith, e), subst (λ (m : ℕ). map doc_of (take m ds) ≡ range_with_len 1 m) (sym e) numbered), sym e)

pub numbered_at : (n k : ℕ) (ds : List DocumentRow) (d : DocumentRow) → k < n → n ≤ length ds → map doc_of (take n ds) ≡ range_with_len 1 n → (get_or ds k d).doc ≡ 1 + k
numbered_at n k ds d lt le e =
    let short : k < length (take n ds) = omega (arith, length-take-le n ds le) in
    let left : get_or (map doc_of (take n ds)) k 0 ≡ doc_of (get_or (take n ds) k d) = get_or-map doc_of (take n ds) k d 0 short in
    let same : get_or (take n ds) k d ≡ get_or ds k d = get_or-take n ds k d lt in
    ap doc_of (sym same) ∙ sym left ∙ ap (λ (l : List ℕ). get_or l k 0) e ∙ get_or-range_with_len 1 n k 0 lt

-- all up to a place are of the job
pub all_more : (number i : ℕ) (ds : List DocumentRow) (e : DocumentRow) → i < length ds → ((k : ℕ) (d : DocumentRow) → k < i → (get_or ds k d).job == number ≡ true) → (get_or ds i e).job ≡ number → (k : ℕ) → k < i + 1 → (get_or ds k e).job == number ≡ true
all_more number i ds e lt all here k le = elim (cases_eq k i) [
  | inl same ↦ subst (λ (m : ℕ). (get_or ds m e).job == number ≡ true) (sym same) (eq-eqb (get_or ds i e).job number here)
  | inr other ↦ all k e (omega arith)
]

pub too_many : (number : ℕ) (ds : List DocumentRow) (i : ℕ) (e : DocumentRow) → i < length ds → i ≡ 16 → ((k : ℕ) (d : DocumentRow) → k < i → (get_or ds k d).job == number ≡ true) → (get_or ds i e).job ≡ number → IsGroup number ds → ⊥
too_many number ds i e lt is all here group =
    let long : i < next_of number ds = longer (is_of number) ds i e lt (all_more number i ds e lt all here) in
    omega (arith, long, is, group.0)

pub misnumbered : (number : ℕ) (ds : List DocumentRow) (i : ℕ) (e : DocumentRow) → i < length ds → ((k : ℕ) (d : DocumentRow) → k < i → (get_or ds k d).job == number ≡ true) → (get_or ds i e).job ≡ number
    → ((get_or ds i e).doc ≡ i + 1 → ⊥) → IsGroup number ds → ⊥
misnumbered number ds i e lt all here wrong group =
    let long : i < next_of number ds = longer (is_of number) ds i e lt (all_more number i ds e lt all here) in
    wrong (numbered_at (next_of number ds) i ds e long (prefix_len-le-length (is_of number) ds) group.1 ∙ (omega arith))

pub range_more : (n : ℕ) → range_with_len 1 (n + 1) ≡ range_with_len 1 n ++ (n + 1) ∷ []
range_more n = sym (map-id (range_with_len 1 (n + 1))) ∙ map-range_with_len_more (λ (k : ℕ). k) 1 n (n + 1) (omega arith) ∙ ap (λ (l : List ℕ). l ++ (n + 1) ∷ []) (map-id (range_with_len 1 n))
