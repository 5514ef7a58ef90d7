-- The rows of a table in the order of their key: there is one such order where no two rows have one key.
use Rattle.std.proofs.Common.{◌≡◌, ℕ, ◌+◌, ◌<◌, suc, zero, List, [], ◌∷◌, map, take, length, All, Bool, true, false, get_or, refl, sym, ap, ap₂, subst, subst₂, ◌∙◌, arith, is_lt, Ordering, Less}
use Rattle.std.specs.Cmp.{IsTotalOrder}
use Rattle.std.specs.List.{AllByRecursion as Each, flat_map}
use Rattle.std.specs.List.Sorted.{IsPermutation, IsSorted}
use Rattle.std.specs.Ordering.{ordering_reverse}
use Rattle.std.proofs.lemmas.Cmp.{on_total}
use Rattle.std.proofs.lemmas.List.{get_or-map, length-map}
use Rattle.std.proofs.lemmas.List.Elements.{All-head, All-tail}
use Rattle.std.proofs.lemmas.List.Sorted.{IsPermutation-sym, IsPermutation-trans}
use Rattle.sqlite.specs.Order.{Row}
use Rattle.sqlite_keyed.proofs.ListLemmas.{all_weaker, all-append, ascending-append, ascending-map}
use Rattle.sqlite_keyed.proofs.SortLemmas.{sorted_unique}
use Rattle.sqlite_trees.specs.Tree.{IsAscending}
use Rattle.sqlite_value.proofs.OrderLemmas.{row_cmp_total}
use Rattle.queue_rows.specs.Order.{AreInOrder}
use Rattle.queue_load.specs.Loaded.{IsTable, key_cmp}

pub key_total : (k : ℕ) → IsTotalOrder (key_cmp k)
key_total k = on_total (take k) row_cmp_total

-- a list that rises is sorted
module _ {X : Type 0} (R : X → X → Ordering) (total : IsTotalOrder R) where
  sorted_up : (xs : List X) → IsAscending (λ a b. R a b ≡ Less) xs → IsSorted R xs
  sorted_up [] up = λ k d low high. absurd (omega (arith, high))
  sorted_up (x ∷ []) up = λ k d low high. absurd (omega (arith, high))
  sorted_up (x ∷ y ∷ ys) up = λ k d low high. at (sorted_up (y ∷ ys) up.1) k d high
    where
      at : IsSorted R (y ∷ ys) → (k : ℕ) (d : X) → k + 1 < length (x ∷ y ∷ ys) → is_lt (R (get_or (x ∷ y ∷ ys) (k + 1) d) (get_or (x ∷ y ∷ ys) k d)) ≡ false
      at rest zero d high = ap is_lt (total.antisymm y x ∙ ap ordering_reverse up.0.0)
      at rest (suc k) d high =
          let shift : suc (k + 1) ≡ suc k + 1 = omega arith in
          subst (λ (m : ℕ). is_lt (R (get_or (x ∷ y ∷ ys) m d) (get_or (y ∷ ys) k d)) ≡ false) shift (rest k d (omega arith) (omega (arith, high)))

module _ {T : Type 0} (values : T → Row) (k : ℕ) where
  -- by the first k columns
  abbrev pub Before : T → T → Type 0
  Before a b = key_cmp k (values a) (values b) ≡ Less

  sorted_values : (xs : List T) → IsSorted (λ a b. key_cmp k (values a) (values b)) xs → IsSorted (key_cmp k) (map values xs)
  sorted_values [] sorted = λ i d low high. absurd (omega (arith, high))
  sorted_values (x ∷ xs) sorted = λ i d low high.
      let long = length-map (x ∷ xs) values in
      let within : i + 1 < length (x ∷ xs) = omega (arith, high, long) in
      let late = get_or-map values (x ∷ xs) (i + 1) x d within in
      let early = get_or-map values (x ∷ xs) i x d (omega (arith, within)) in
      subst₂ (λ (a b : Row). is_lt (key_cmp k a b) ≡ false) (sym late) (sym early) (sorted i x low within)

  -- rows that rise are a table in its order
  pub table_up : (view : Row → Row) (items : List T) (rows : List Row) → IsAscending Before items → IsPermutation (map values items) (map view rows) → IsTable values view k items rows
  table_up view items rows up same = record { same = same; sorted = sorted_up (λ a b. key_cmp k (values a) (values b)) (on_total values (key_total k)) items up }

  -- they are those of each table with the same rows
  pub one_order : (view : Row → Row) (rows : List Row) (ws ts : List T) → IsAscending Before ws → IsPermutation (map values ws) (map view rows) → IsTable values view k ts rows → map values ts ≡ map values ws
  one_order view rows ws ts rise holds are =
      sorted_unique (key_cmp k) (key_total k) (map values ws) (map values ts) (ascending-map (λ a b. key_cmp k a b ≡ Less) values ws rise)
      (IsPermutation-trans _ _ _ holds (IsPermutation-sym _ _ are.same)) (sorted_values ts are.sorted)

-- values that tell the items
pub injected : {T : Type 0} (values : T → Row) (P : T → Type 0) → ((a b : T) → P a → P b → values a ≡ values b → a ≡ b) → (xs ys : List T) → All P xs → All P ys → map values xs ≡ map values ys → xs ≡ ys
injected values P tell [] [] p q e = refl
injected values P tell (x ∷ xs) (y ∷ ys) p q e =
    let first : values x ≡ values y = cc in
    let rest : map values xs ≡ map values ys = cc in
    ap₂ ◌∷◌ (tell x y (All-head P x xs p) (All-head P y ys q) first) (injected values P tell xs ys (All-tail P x xs p) (All-tail P y ys q) rest)
injected values P tell _ _ p q e = absurd cc

-- ---- lists that rise

pub less_of : (o : Ordering) → is_lt o ≡ true → o ≡ Less
less_of Less e = refl
less_of _ e = absurd cc

-- each before the next, so each before all later ones
pub ascending_of : {X : Type 0} (R : X → X → Ordering) → IsTotalOrder R → (before : X → X → Bool) → ((a b : X) → before a b ≡ true → R a b ≡ Less) → (xs : List X) → AreInOrder before xs → IsAscending (λ a b. R a b ≡ Less) xs
ascending_of R total before less [] h = tt
ascending_of R total before less (x ∷ []) h = (tt, tt)
ascending_of R total before less (x ∷ y ∷ ys) h =
    let rest = ascending_of R total before less (y ∷ ys) (λ k d low. let shift : suc k + 1 ≡ suc (k + 1) = omega arith in subst (λ (m : ℕ). before (get_or (y ∷ ys) k d) (get_or (x ∷ y ∷ ys) m d) ≡ true) shift (h (suc k) d (omega (arith, low)))) in
    let next : R x y ≡ Less = less x y (h 0 x (omega arith)) in
    ((next, all_weaker (λ z. R y z ≡ Less) (λ z. R x z ≡ Less) (λ z. total.trans x y z next) ys rest.0), rest)

module _ {A X : Type 0} (f : A → List X) (Q : A → A → Type 0) (R : X → X → Type 0) (across : (a b : A) → Q a b → Each (λ x. Each (R x) (f b)) (f a)) where
  across_all : (xs : List X) (bs : List A) → Each (λ b. Each (λ x. Each (R x) (f b)) xs) bs → Each (λ x. Each (R x) (flat_map f bs)) xs
  across_all [] bs h = tt
  across_all (x ∷ xs) bs h = (joined x bs (all_weaker _ (λ b. Each (R x) (f b)) (λ b p. p.0) bs h), across_all xs bs (all_weaker _ (λ b. Each (λ y. Each (R y) (f b)) xs) (λ b p. p.1) bs h))
    where
      joined : (x : X) (bs : List A) → Each (λ b. Each (R x) (f b)) bs → Each (R x) (flat_map f bs)
      joined x [] p = tt
      joined x (b ∷ bs) p = all-append (R x) (f b) (flat_map f bs) p.0 (joined x bs p.1)

  -- parts that rise, and stand in turn
  pub flat_up : ((a : A) → IsAscending R (f a)) → (as1 : List A) → IsAscending Q as1 → IsAscending R (flat_map f as1)
  flat_up each [] up = tt
  flat_up each (a ∷ as1) up =
      ascending-append R (f a) (flat_map f as1) (each a) (flat_up each as1 up.1) (across_all (f a) as1 (all_weaker (Q a) (λ b. Each (λ x. Each (R x) (f b)) (f a)) (λ b. across a b) as1 up.0))

-- each of one list before each of another
pub all_pairs : {X : Type 0} (P S : X → Type 0) (R : X → X → Type 0) → ((x y : X) → P x → S y → R x y) → (xs ys : List X) → Each P xs → Each S ys → Each (λ x. Each (R x) ys) xs
all_pairs P S R before xs ys p s = all_weaker P (λ x. Each (R x) ys) (λ x h. all_weaker S (R x) (λ y. before x y h) ys s) xs p
