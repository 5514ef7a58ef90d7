-- A table whose rows are put anew under their keys: what a schema asks of the trees holds of them still.
use Rattle.std.proofs.Common.{◌≡◌, ◌≢◌, ◌≤◌, ◌||◌, ◌&&◌, ◌==◌, ℕ, ℤ, List, [], ◌∷◌, length, filter, Bool, true, false, not, Option, Some, None, refl, sym, ap, subst, ◌∙◌, inl, inr, arith, eqb-true, eq-eqb, is_eq}
use Rattle.std.specs.List.{AllByRecursion, list_any, list_all}
use Rattle.std.proofs.lemmas.Bool.{cases_Bool, cases_eq, and_parts, and_from, or_cases, or_left, or_right, not-true, not_from_false, false_from_ne_true, both_ways}
use Rattle.sqlite.specs.declared.types.Value.TheVariants.{Int}
use Rattle.sqlite.specs.Order.{Row, column, value_cmp}
use Rattle.sqlite.specs.Schema.{Schema}
use Rattle.sqlite.specs.Table.{Table}
use Rattle.sqlite.specs.Tree.{Trees, rowid, has_rowid, put_row, without_rowid}
use Rattle.sqlite_value.specs.declared.keys.Order.{Order}
use Rattle.std.specs.Cmp.{tied_itself}
use Rattle.sqlite_value.proofs.OrderLemmas.{value_cmp_total}
use Rattle.sqlite_value.specs.Keys.{later}
use Rattle.sqlite_schema.specs.declared.schema.Reference.{Reference}
use Rattle.sqlite_schema.specs.declared.schema.Constraint.TheVariants.{Unique}
use Rattle.sqlite_schema.specs.declared.schema.Among.TheVariants.{All}
use Rattle.sqlite_schema.specs.Rules.{agree, is_held, parent_key, ParentKey, Keeps, Refers}
use Rattle.sqlite_rules.specs.Lists.{Has}
use Rattle.sqlite_rules.specs.Edit.{is_taken}
use Rattle.sqlite_rules.proofs.ListLemmas.{all_has, all_from, test_has, test_from, some_has, some_from, has_filtered, has_kept}
use Rattle.sqlite_rules.proofs.KeyLemmas.{agree_back}
use Rattle.sqlite_rules.proofs.TableLemmas.{has_put, put_has, put_all_keeps}
use Rattle.sqlite_rules.proofs.RuleLemmas.{keeps_at, keeps_from, refers_at, refers_from, parent_is_table}
use Rattle.queue_tables.specs.Kept.{AreKeyed}

-- ---- rows with the same key

-- the second has in these columns what the first has
abbrev pub IsAlike : List ℕ → Row → Row → Type 0
IsAlike columns a b = AllByRecursion (λ c. column b c ≡ column a c) columns

-- each of the places is one of the columns
abbrev pub are_within : List ℕ → List ℕ → Bool
are_within columns places = list_all (λ p. list_any (λ c. c == p) columns) places

alike_self : (columns : List ℕ) (a : Row) → IsAlike columns a a
alike_self columns a = all_from _ columns (λ c there. refl)

alike_back : (columns : List ℕ) (a b : Row) → IsAlike columns a b → IsAlike columns b a
alike_back columns a b same = all_from _ columns (λ c there. sym (all_has (λ c. column b c ≡ column a c) columns c same there))

alike_within : (columns places : List ℕ) (a b : Row) → are_within columns places ≡ true → IsAlike columns a b → IsAlike places a b
alike_within columns places a b within same = all_from _ places (λ p there.
    let c = some_has (λ c. c == p) columns (test_has (λ p. list_any (λ c. c == p) columns) places p within there) in
    subst (λ p. column b p ≡ column a p) (eqb-true c.0 p c.2) (all_has (λ c. column b c ≡ column a c) columns c.0 same c.1))

agree_alike : (o : Order) (ps qs : List ℕ) (a b r : Row) → IsAlike ps a b → agree o ps a qs r ≡ true → agree o ps b qs r ≡ true
agree_alike o [] [] a b r same h = h
agree_alike o [] (q ∷ qs) a b r same h = h
agree_alike o (p ∷ ps) [] a b r same h = h
agree_alike o (p ∷ ps) (q ∷ qs) a b r same h = let parts = and_parts _ _ h in and_from _ _ (rw same.0 parts.0) (agree_alike (later o) ps qs a b r same.1 parts.1)

if_so : (a b : Bool) → (not a || b) ≡ true → a ≡ true → b ≡ true
if_so true b h is = h
if_so false b h is = absurd cc

-- ---- a table that is put anew

abbrev is_apart : ℕ → List ℕ → Option ParentKey → Bool
is_apart tree columns None = true
is_apart tree columns (Some key) = not (key.0 == tree) || are_within (0 ∷ columns) key.1

abbrev is_alone : List Reference → Bool
is_alone [] = true
is_alone (ref ∷ refs) = false

-- these columns of the table are all that a unique index or a reference to it reads beside the rowid; it refers to nothing
pub record AreKeys (schema : Schema) (tree : ℕ) (columns : List ℕ) : Type 0 where
  pub unique : list_all (λ i. not (i.is_unique && (i.table == tree)) || are_within (0 ∷ columns) i.columns) schema.indexes ≡ true
  pub parents : list_all (λ t. list_all (λ ref. is_apart tree columns (parent_key schema.tables ref)) t.references) schema.tables ≡ true
  pub refers : list_all (λ t. not (t.tree == tree) || is_alone t.references) schema.tables ≡ true

-- each row of the table had a row with its rowid and its key, and each that was there has one; each other table is as it was
pub record Renews (schema : Schema) (tree : ℕ) (columns : List ℕ) (old new : Trees) : Type 0 where
  pub others : (t : Table) → Has schema.tables t → t.tree ≢ tree → new t.tree ≡ old t.tree
  pub before : (r : Row) → Has (new tree) r → (o : Row) × Has (old tree) o × IsAlike (0 ∷ columns) r o
  pub after : (o : Row) → Has (old tree) o → (r : Row) × Has (new tree) r × IsAlike (0 ∷ columns) o r

module _ (schema : Schema) (tree : ℕ) (columns : List ℕ) (old new : Trees) (keys : AreKeys schema tree columns) (renews : Renews schema tree columns old new) where
  no_reference : (refs : List Reference) (ref : Reference) → is_alone refs ≡ true → ¬ Has refs ref
  no_reference [] ref none h = h
  no_reference (r ∷ refs) ref none h = cc

  -- two rows with one key had one key before
  agree_before : (o : Order) (places : List ℕ) (r s p q : Row) → are_within (0 ∷ columns) places ≡ true → IsAlike (0 ∷ columns) r p → IsAlike (0 ∷ columns) s q → agree o places r places s ≡ true → agree o places p places q ≡ true
  agree_before o places r s p q within one two h =
      let first = agree_alike o places places r p s (alike_within (0 ∷ columns) places r p within one) h in
      agree_back o places places q p (agree_alike o places places s q p (alike_within (0 ∷ columns) places s q within two) (agree_back o places places p s first))

  pub unique_stands : Keeps Unique schema old → Keeps Unique schema new
  unique_stands keeps = keeps_from Unique schema new (λ t row listed there. elim (cases_eq t.tree tree) [
    | inl same ↦
        let was = renews.before row (subst (λ k. Has (new k) row) same there) in
        test_from _ schema.indexes (λ i known. not_from_false _ (false_from_ne_true _ (λ both.
        let parts = and_parts _ _ both in
        let on : (i.is_unique && (i.table == tree)) ≡ true = subst (λ k. (i.is_unique && (i.table == k)) ≡ true) same parts.0 in
        let within = if_so _ _ (test_has _ schema.indexes i keys.unique known) on in
        let other = some_has _ (new t.tree) parts.1 in
        let tests = and_parts _ _ other.2 in
        let first = renews.before other.0 (subst (λ k. Has (new k) other.0) same other.1) in
        let alike = agree_before i.order i.columns other.0 row first.0 was.0 within first.2 was.2 tests.0 in
        let kept = keeps_at Unique schema old t was.0 keeps listed (subst (λ k. Has (old k) was.0) (sym same) was.1) in
        both_ways _ (not-true _ (test_has _ schema.indexes i kept known))
        (and_from _ _ parts.0 (some_from _ (old t.tree) first.0 (subst (λ k. Has (old k) first.0) (sym same) first.1) (and_from _ _ alike (rw (first.2.0, was.2.0) tests.1)))))))
    | inr other ↦ rw (renews.others t listed other) (keeps_at Unique schema old t row keeps listed (rw (← renews.others t listed other) there))
  ])

  held_stands : (row : Row) (places : List ℕ) (o : Option ParentKey) → ((key : ParentKey) → o ≡ Some key → (t : Table) × Has schema.tables t × (t.tree ≡ key.0)) → is_apart tree columns o ≡ true
      → is_held old places row o ≡ true → is_held new places row o ≡ true
  held_stands row places None parent apart h = h
  held_stands row places (Some key) parent apart h =
      let p = some_has _ (old key.0) h in
      elim (cases_eq key.0 tree) [
        | inl same ↦
            let x = renews.after p.0 (subst (λ k. Has (old k) p.0) same p.1) in
            let within = if_so _ _ apart (eq-eqb key.0 tree same) in
            some_from _ (new key.0) x.0 (subst (λ k. Has (new k) x.0) (sym same) x.1) (agree_alike key.2 key.1 places p.0 x.0 row (alike_within (0 ∷ columns) key.1 p.0 x.0 within x.2) p.2)
        | inr other ↦
            let t = parent key refl in
            let still = renews.others t.0 t.1 (λ e. other (sym t.2 ∙ e)) in
            some_from _ (new key.0) p.0 (subst (λ k. Has (new k) p.0) t.2 (subst (λ rs. Has rs p.0) (sym still) (subst (λ k. Has (old k) p.0) (sym t.2) p.1))) p.2
      ]

  pub refers_stands : Refers All schema old → Refers All schema new
  refers_stands refers = refers_from All schema new (λ t ref row listed known is there. elim (cases_eq t.tree tree) [
    | inl same ↦ absurd (no_reference t.references ref (if_so _ _ (test_has _ schema.tables t keys.refers listed) (eq-eqb t.tree tree same)) known)
    | inr other ↦
        let was = refers_at All schema old t row ref refers listed (subst (λ rs. Has rs row) (renews.others t listed other) there) known is in
        let apart = test_has _ t.references ref (test_has _ schema.tables t keys.parents listed) known in
        elim (or_cases _ _ was) [
          | inl null ↦ or_left _ _ null
          | inr held ↦ or_right _ _ (held_stands row ref.columns (parent_key schema.tables ref) (parent_is_table schema.tables ref) apart held)
        ]
  ])

-- ---- one row of it

alone : {X : Type 0} (xs : List X) (x y : X) → length xs ≤ 1 → Has xs x → Has xs y → x ≡ y
alone [] x y few h k = absurd h
alone (z ∷ []) x y few (inl h) (inl k) = h ∙ sym k
alone (z ∷ []) x y few (inl h) (inr k) = absurd k
alone (z ∷ []) x y few (inr h) k = absurd h
alone (z ∷ v ∷ xs) x y few h k = absurd (omega (arith, few))

-- no row is left with that rowid
pub is_free : (id : ℤ) (new : Row) (rows : List Row) → rowid new ≡ Int id → is_taken (without_rowid id rows) new ≡ false
is_free id new rows is = false_from_ne_true _ (λ any.
    let other = some_has _ (without_rowid id rows) any in
    let left = has_filtered (λ r. not (has_rowid id r)) rows other.0 other.1 in
    let here : has_rowid id other.0 ≡ true = subst (λ v. is_eq (value_cmp (rowid other.0) v) ≡ true) is other.2 in
    both_ways _ (not-true _ left.1) here)

module _ (schema : Schema) (tree : ℕ) (columns : List ℕ) (old new : Trees) (id : ℤ) (was put : Row) (was_is : rowid was ≡ Int id) (put_is : rowid put ≡ Int id)
    (keyed : AreKeyed (old tree)) (there : Has (old tree) was) (alike : IsAlike (0 ∷ columns) was put)
    (rows : new tree ≡ put_row put (without_rowid id (old tree))) (others : (t : Table) → Has schema.tables t → t.tree ≢ tree → new t.tree ≡ old t.tree) where
  row_before : (r : Row) → Has (new tree) r → (o : Row) × Has (old tree) o × IsAlike (0 ∷ columns) r o
  row_before r h = elim (put_has put (without_rowid id (old tree)) r (subst (λ rs. Has rs r) rows h)) [
    | inl is ↦ (was, there, subst (λ x. IsAlike (0 ∷ columns) x was) (sym is) (alike_back (0 ∷ columns) was put alike))
    | inr left ↦ (r, (has_filtered (λ o. not (has_rowid id o)) (old tree) r left).0, alike_self (0 ∷ columns) r)
  ]

  row_after : (o : Row) → Has (old tree) o → (r : Row) × Has (new tree) r × IsAlike (0 ∷ columns) o r
  row_after o h = elim (cases_Bool (has_rowid id o)) [
    | inl here ↦
        let itself : has_rowid id was ≡ true = rw was_is (ap is_eq (tied_itself value_cmp_total (Int id))) in
        let same : was ≡ o = alone (filter (has_rowid id) (old tree)) was o (keyed.apart id) (has_kept (has_rowid id) (old tree) was there itself) (has_kept (has_rowid id) (old tree) o h here) in
        (put, subst (λ rs. Has rs put) (sym rows) (has_put put (without_rowid id (old tree))), subst (λ x. IsAlike (0 ∷ columns) x put) same alike)
    | inr other ↦
        let left = has_kept (λ o. not (has_rowid id o)) (old tree) o h (not_from_false _ other) in
        let fresh = and_from _ _ (not_from_false _ (is_free id put (old tree) put_is)) refl in
        (o, subst (λ rs. Has rs o) (sym rows) (put_all_keeps (put ∷ []) (without_rowid id (old tree)) o fresh left), alike_self (0 ∷ columns) o)
  ]

  pub row_renewed : Renews schema tree columns old new
  row_renewed = record { others = others; before = row_before; after = row_after }
