-- New grants keep a world sound: they make accounts, and their pages are free.
use Rattle.std.proofs.Common.{◌≡◌, ℕ, ℤ, pos, ◌+ℤ◌, ◌+◌, ◌-◌, ◌≤◌, List, [], ◌∷◌, ◌++◌, map, refl, ap, sym, ◌∙◌, arith, subst, Bool, true, false, cond, ◌&&◌}
use Rattle.std.specs.Prelude.{Option, Some, None, IfSome, IsSome, is_some, bytes_eq, find, option_map, fold, sum_by, unwrap_or, ◌||◌, ◌↔◌, ⊤, IsTrue, All}
use Rattle.std.specs.List.{list_any, AllByRecursion as Each}
use Rattle.std.specs.FinMap.{FinMap, get, insert, entries, get-insert, contains_key-keys}
use Rattle.std.specs.Option.{option_or}
use Rattle.std.specs.Ordering.{is_eq, eq_by_cmp}
use Rattle.std.proofs.lemmas.Bool.{and_parts, both_ways, false_from_ne_true, or_parts}
use Rattle.std.proofs.lemmas.List.Folds.{find-append}
use Rattle.std.proofs.lemmas.Option.{IfSome_then}
use Rattle.std.specs.Cmp.Lexicographic.{nat_list_cmp_total}
use Rattle.std.proofs.lemmas.Cmp.{nat_list_eq_equiv}
use Rattle.std.proofs.lemmas.Int.{ints}
use Rattle.std.proofs.lemmas.Map.Text.{is_eq-slice_cmp}
use Rattle.std.proofs.lemmas.List.Sums.{fold_push, sum_by-cons}
use Rattle.queue_types.specs.Job.{estimate, is_live_in, owed}
use Rattle.queue_core.specs.World.{World, Entry, made_on, put_free, put_grant, granted, granted_in, known_grant, grant_cmp, text_cmp, AreNew}
use Rattle.queue_core.specs.Grants.{Taken, all_taken, none_taken, take_rows, row_of, pages_under, pages_to, free_after, add_row, repeated, refused_row, new_row}
use Rattle.queue_core.specs.Machine.{grant_row}
use Rattle.queue_core.specs.Limits.{IsGrant, IsGrantRow, IsSoundJob, FitsPhase}
use Rattle.queue_core.specs.Sound.{IsSound, IsSoundEntry, IsIdle, reserved, printed}
use Rattle.queue_types.specs.declared.event.FreeRow.{FreeRow}
use Rattle.queue_types.specs.declared.event.GrantRow.{GrantRow}
use Rattle.queue_types.specs.declared.job.Job.{Job}
use Rattle.queue_types.specs.declared.job.Phase.{Phase}
use Rattle.queue_types.specs.declared.job.Phase.TheVariants.{Waiting, Running, Stopped}
use Rattle.queue_core.proofs.GrantLemmas.{new_takes, pages_to-push}
use Rattle.queue_core.proofs.Keep.{each-map, no_value}
use Rattle.queue_core.proofs.Maps.{grant_total, is_grant_key, grant_key, own_grant_key, both_equal, sum-insert}
use Rattle.queue_core.proofs.Moves.{stays}
use Rattle.queue_core.proofs.Own.{Keeps, unchanged, same_key}
use Rattle.queue_core.proofs.Ordered.{each_of}

-- ---- one grant

-- it makes the account where there is none, and adds its pages to free
abbrev add_pages : FinMap text_cmp ℤ → GrantRow → FinMap text_cmp ℤ
add_pages m g = insert m g.account (unwrap_or (get m g.account) (pos 0) +ℤ pos g.pages)

abbrev pub with_grant : World → GrantRow → World
with_grant w g = record w { grants = put_grant w.grants g; free = add_pages w.free g }

got_grant : (w : World) (g : GrantRow) (b a : List ℕ) → get (put_grant w.grants g) (b, a) ≡ cond (is_grant_key (b, a) (g.batch, g.account)) (Some g.pages) (get w.grants (b, a))
got_grant w g b a = get-insert grant_total w.grants (g.batch, g.account) g.pages (b, a)

got_free : (w : World) (g : GrantRow) (a : List ℕ) → get (add_pages w.free g) a ≡ cond (bytes_eq a g.account) (Some (unwrap_or (get w.free g.account) (pos 0) +ℤ pos g.pages)) (get w.free a)
got_free w g a = get-insert nat_list_cmp_total w.free g.account (unwrap_or (get w.free g.account) (pos 0) +ℤ pos g.pages) a ∙ ap (λ t. cond t (Some (unwrap_or (get w.free g.account) (pos 0) +ℤ pos g.pages)) (get w.free a)) (is_eq-slice_cmp a g.account)

-- its pages are granted to its account
granted_more : (w : World) (g : GrantRow) (a : List ℕ) → get w.grants (g.batch, g.account) ≡ None → granted a (with_grant w g) ≡ granted a w + cond (bytes_eq g.account a) g.pages 0
granted_more w g a new = sum-insert (λ (e : (List ℕ × List ℕ) × ℕ). cond (bytes_eq e.0.1 a) e.1 0) w.grants (g.batch, g.account) g.pages new

-- ---- an account that is not there

held_owes : (hold : Bool) (n : ℕ) (ended : Option ℕ) → ended ≡ None → IsTrue (hold || is_some ended) → cond hold 0 n ≡ 0
held_owes true n ended none idle = refl
held_owes false n ended none idle = let no : is_some ended ≡ false = ap is_some none in absurd (cc)

idle_owes : (p : Phase) (j : Job) → FitsPhase p j → IsTrue (j.hold || is_some j.ended) → cond (is_live_in p) (cond j.hold 0 (estimate j - j.count)) 0 ≡ 0
idle_owes Waiting j fits idle = held_owes j.hold (estimate j - j.count) j.ended fits.2 idle
idle_owes Running j fits idle = held_owes j.hold (estimate j - j.count) j.ended fits.3 idle
idle_owes Stopped j fits idle = held_owes j.hold (estimate j - j.count) j.ended fits.3 idle
idle_owes _ j fits idle = refl

nothing_owed : (j : Job) → IsSoundJob j → IsIdle j → owed j ≡ 0
nothing_owed j sound idle = idle_owes j.phase j sound.phase idle.2

abbrev owed_of : List ℕ → Job → ℕ
owed_of a j = cond (bytes_eq j.owner a) (owed j) 0

abbrev count_of : List ℕ → Job → ℕ
count_of a j = cond (bytes_eq j.owner a) j.count 0

-- nobody without an account has pages reserved or printed
none_taken_of : (w : World) (a : List ℕ) (es : List Entry) → get w.free a ≡ None → Each IsSoundEntry es → Each (λ e. get w.free e.row.owner ≡ None → IsIdle e.row) es → (sum_by (owed_of a) (map (λ e. e.row) es) ≡ 0) × (sum_by (count_of a) (map (λ e. e.row) es) ≡ 0)
none_taken_of w a [] none entries idle = (refl, refl)
none_taken_of w a (e ∷ es) none entries idle =
    let more = none_taken_of w a es none entries.1 idle.1 in
    let here : (owed_of a e.row ≡ 0) × (count_of a e.row ≡ 0) =
    elim (bytes_eq e.row.owner a) as (λ b. bytes_eq e.row.owner a ≡ b → (cond b (owed e.row) 0 ≡ 0) × (cond b e.row.count 0 ≡ 0)) [
      | true ↦ λ is. let at_rest = idle.0 (ap (get w.free) (same_key e.row.owner a is) ∙ none) in (nothing_owed e.row entries.0.row at_rest, at_rest.1)
      | false ↦ λ is. (refl, refl)
    ] refl in
    (omega (arith, sum_by-cons (owed_of a) e.row (map (λ e. e.row) es)), omega (arith, sum_by-cons (count_of a) e.row (map (λ e. e.row) es)))

abbrev Row : Type 0
Row = (List ℕ × List ℕ) × ℕ

abbrev pages_of : List ℕ → Row → ℕ
pages_of a e = cond (bytes_eq e.0.1 a) e.1 0

none_in : (a : List ℕ) (es : List Row) → ((b : List ℕ) → list_any (eq_by_cmp grant_cmp (b, a)) (map (λ e. e.0) es) ≡ false) → sum_by (pages_of a) es ≡ 0
none_in a [] none = refl
none_in a (e ∷ es) none =
    let more = none_in a es (λ b. (or_parts (eq_by_cmp grant_cmp (b, a) e.0) (list_any (eq_by_cmp grant_cmp (b, a)) (map (λ e. e.0) es)) (none b)).1) in
    let here : pages_of a e ≡ 0 =
    elim (bytes_eq e.0.1 a) as (λ b. bytes_eq e.0.1 a ≡ b → cond b e.1 0 ≡ 0) [
      | true ↦ λ is. absurd (let other = (or_parts (eq_by_cmp grant_cmp (e.0.0, a) e.0) (list_any (eq_by_cmp grant_cmp (e.0.0, a)) (map (λ e. e.0) es)) (none e.0.0)).0 in
          let own : eq_by_cmp grant_cmp (e.0.0, a) e.0 ≡ true = ap (λ t. eq_by_cmp grant_cmp (e.0.0, t) e.0) (sym (same_key e.0.1 a is)) ∙ own_grant_key e.0.0 e.0.1 in cc)
      | false ↦ λ is. refl
    ] refl in
    omega (arith, sum_by-cons (pages_of a) e es)

-- an account that is not there has no grants
none_granted : (w : World) (a : List ℕ) → IsSound w → get w.free a ≡ None → granted a w ≡ 0
none_granted w a sound none =
    none_in a (entries w.grants) (λ b. sym (contains_key-keys w.grants (b, a)) ∙ false_from_ne_true (is_some (get w.grants (b, a))) (λ some. both_ways (is_some (get w.free a)) (ap is_some none) ((sound.accounts a).1 (b, some))))

-- ---- a grant keeps a world sound

module _ (w : World) (g : GrantRow) (sound : IsSound w) (row : IsGrantRow g) (new : get w.grants (g.batch, g.account) ≡ None) (fits : granted g.account w + g.pages ≤ 1000000000) where
  abbrev after : World
  after = with_grant w g

  abbrev funds : ℤ
  funds = unwrap_or (get w.free g.account) (pos 0) +ℤ pos g.pages

  grants_after : (b a : List ℕ) → IfSome (get after.grants (b, a)) (IsGrant b a)
  grants_after b a =
      subst (λ o. IfSome o (IsGrant b a)) (sym (got_grant w g b a))
      (elim (is_grant_key (b, a) (g.batch, g.account)) as (λ t. is_grant_key (b, a) (g.batch, g.account) ≡ t → IfSome (cond t (Some g.pages) (get w.grants (b, a))) (IsGrant b a)) [
        | true ↦ λ is. let key = grant_key b a g.batch g.account is in subst (λ x. IsGrant x a g.pages) (sym key.0) (subst (λ y. IsGrant g.batch y g.pages) (sym key.1) row)
        | false ↦ λ is. sound.grants b a
      ] refl)

  most_after : (a : List ℕ) → granted a after ≤ 1000000000
  most_after a =
      subst (λ n. n ≤ 1000000000) (sym (granted_more w g a new))
      (elim (bytes_eq g.account a) as (λ t. bytes_eq g.account a ≡ t → granted a w + cond t g.pages 0 ≤ 1000000000) [
        | true ↦ λ is. subst (λ x. granted x w + g.pages ≤ 1000000000) (same_key g.account a is) fits
        | false ↦ λ is. let most = sound.most a in omega arith
      ] refl)

  accounts_after : (a : List ℕ) → IsSome (get after.free a) ↔ ((b : List ℕ) × IsSome (get after.grants (b, a)))
  accounts_after a = (
    λ some. elim (bytes_eq a g.account) as (λ t. bytes_eq a g.account ≡ t → (b : List ℕ) × IsSome (get after.grants (b, a))) [
      | true ↦ λ is. (g.batch, ap is_some (ap (λ x. get after.grants (g.batch, x)) (same_key a g.account is) ∙ got_grant w g g.batch g.account ∙ ap (λ t. cond t (Some g.pages) (get w.grants (g.batch, g.account))) (own_grant_key g.batch g.account)))
      | false ↦ λ is.
          let old = (sound.accounts a).0 (ap is_some (sym (got_free w g a ∙ ap (λ t. cond t (Some funds) (get w.free a)) is)) ∙ some) in
          (old.0, ap is_some (got_grant w g old.0 a) ∙ some_grant (is_grant_key (old.0, a) (g.batch, g.account)) (get w.grants (old.0, a)) old.1)
    ] refl,
    λ has. ap is_some (got_free w g a) ∙ elim (bytes_eq a g.account) as (λ t. bytes_eq a g.account ≡ t → is_some (cond t (Some funds) (get w.free a)) ≡ true) [
      | true ↦ λ is. refl
      | false ↦ λ is. (sound.accounts a).1 (has.0, ap is_some (sym (got_grant w g has.0 a ∙ ap (λ t. cond t (Some g.pages) (get w.grants (has.0, a))) (apart has.0 a is))) ∙ has.1)
    ] refl,
  )
    where
      some_grant : (t : Bool) (o : Option ℕ) → IsSome o → is_some (cond t (Some g.pages) o) ≡ true
      some_grant true o some = refl
      some_grant false o some = some

      apart : (b a : List ℕ) → bytes_eq a g.account ≡ false → is_grant_key (b, a) (g.batch, g.account) ≡ false
      apart b a is =
          false_from_ne_true (is_grant_key (b, a) (g.batch, g.account))
          (λ key. both_ways (bytes_eq a g.account) is (ap (λ x. bytes_eq x g.account) (grant_key b a g.batch g.account key).1 ∙ nat_list_eq_equiv.refl g.account))

  none_before : (a : List ℕ) → get after.free a ≡ None → get w.free a ≡ None
  none_before a e = (no_value (bytes_eq a g.account) funds (get w.free a) (sym (got_free w g a) ∙ e)).1

  balance : (o : Option ℤ) (a : List ℕ) → get w.free a ≡ o → pos (granted a w + g.pages) ≡ (unwrap_or o (pos 0) +ℤ pos g.pages) +ℤ pos (reserved a w + printed a w)
  balance None a is =
      let taken = none_taken_of w a w.jobs is sound.entries sound.idle in
      let r : reserved a w ≡ 0 = taken.0 in
      let p : printed a w ≡ 0 = taken.1 in
      let n : granted a w ≡ 0 = none_granted w a sound is in
      subst (λ x. pos (x + g.pages) ≡ (pos 0 +ℤ pos g.pages) +ℤ pos (reserved a w + printed a w)) (sym n)
      (subst (λ x. pos (0 + g.pages) ≡ (pos 0 +ℤ pos g.pages) +ℤ pos (x + printed a w)) (sym r)
      (subst (λ x. pos (0 + g.pages) ≡ (pos 0 +ℤ pos g.pages) +ℤ pos (0 + x)) (sym p) (omega (arith, ints))))
  balance (Some f) a is = let before : pos (granted a w) ≡ f +ℤ pos (reserved a w + printed a w) = subst (λ o. IfSome o (λ f. pos (granted a w) ≡ f +ℤ pos (reserved a w + printed a w))) is (sound.balances a) in omega (arith, ints, before)

  balances_after : (a : List ℕ) → IfSome (get after.free a) (λ f. pos (granted a after) ≡ f +ℤ pos (reserved a w + printed a w))
  balances_after a =
      subst (λ o. IfSome o (λ f. pos (granted a after) ≡ f +ℤ pos (reserved a w + printed a w))) (sym (got_free w g a))
      (subst (λ n. IfSome (cond (bytes_eq a g.account) (Some funds) (get w.free a)) (λ f. pos n ≡ f +ℤ pos (reserved a w + printed a w))) (sym (granted_more w g a new ∙ ap (λ t. granted a w + cond t g.pages 0) (nat_list_eq_equiv.symm g.account a)))
      (elim (bytes_eq a g.account) as (λ t. bytes_eq a g.account ≡ t → IfSome (cond t (Some funds) (get w.free a)) (λ f. pos (granted a w + cond t g.pages 0) ≡ f +ℤ pos (reserved a w + printed a w))) [
        | true ↦ λ is. subst (λ x. pos (granted a w + g.pages) ≡ (unwrap_or (get w.free x) (pos 0) +ℤ pos g.pages) +ℤ pos (reserved a w + printed a w)) (same_key a g.account is) (balance (get w.free a) a refl)
        | false ↦ λ is. subst (λ n. IfSome (get w.free a) (λ f. pos n ≡ f +ℤ pos (reserved a w + printed a w))) (sym (plain (granted a w))) (sound.balances a)
      ] refl))
    where
      plain : (n : ℕ) → n + 0 ≡ n
      plain n = omega arith

  grant_keeps : IsSound after
  grant_keeps = record {
    settings = sound.settings;
    numbers = sound.numbers;
    next = sound.next;
    entries = sound.entries;
    live = sound.live;
    grants = grants_after;
    most = most_after;
    accounts = accounts_after;
    reports = λ n s. IfSome_then (get w.reports (n, s)) (sound.reports n s) (λ k p. record { job = p.job; seq = p.seq; there = p.there; positive = p.positive; count = p.count; total = p.total });
    counts = sound.counts;
    idle = each-map (λ e. get w.free e.row.owner ≡ None → IsIdle e.row) (λ e. get after.free e.row.owner ≡ None → IsIdle e.row) w.jobs (λ e f none. f (none_before e.row.owner none)) sound.idle;
    balances = balances_after;
  }

-- ---- the rows of an account file

abbrev granted_all : World → List GrantRow → World
granted_all w new = record w { grants = fold put_grant w.grants new; free = fold add_pages w.free new }

one_more : (w : World) (new : List GrantRow) (g : GrantRow) → granted_all w (new ++ g ∷ []) ≡ with_grant (granted_all w new) g
one_more w new g = λ i. record w { grants = fold_push put_grant w.grants new g i; free = fold_push add_pages w.free new g i }

-- what is known of rows that were taken
record IsTaken (w : World) (new : List GrantRow) (free : List FreeRow) : Type 0 where
  sound : IsSound (granted_all w new)
  pages : (r : GrantRow) → get (fold put_grant w.grants new) (r.batch, r.account) ≡ pages_under r (known_grant w r) new
  totals : (a : List ℕ) → granted a (granted_all w new) ≡ granted a w + pages_to a new
  apart : AreNew w.grants new
  funds : fold put_free w.free free ≡ fold add_pages w.free new
  amounts : (a : List ℕ) → unwrap_or (get (fold add_pages w.free new) a) (pos 0) ≡ unwrap_or (get w.free a) (pos 0) +ℤ pos (pages_to a new)

abbrev IsTakenAll : World → Taken → Type 0
IsTakenAll w (all_taken new free repeats) = IsTaken w new free
IsTakenAll w (none_taken fault row) = ⊤

-- the pages under a batch and an account, as they were known or by new rows
abbrev pages_at : World → List ℕ → List ℕ → List GrantRow → Option ℕ
pages_at w b a new = cond (is_some (get w.grants (b, a))) (get w.grants (b, a)) (option_map (λ (g : GrantRow). g.pages) (find (λ (g : GrantRow). bytes_eq g.batch b && bytes_eq g.account a) new))

none_either : (known : Option ℕ) (o : Option GrantRow) → cond (is_some known) known (option_map (λ (g : GrantRow). g.pages) o) ≡ None → (known ≡ None) × (o ≡ None)
none_either None None e = (refl, refl)
none_either None (Some g) e = absurd (cc)
none_either (Some n) o e = absurd (cc)

or_none : (o : Option GrantRow) → option_or o None ≡ o
or_none None = refl
or_none (Some g) = refl

same_test : (b a : List ℕ) (r : GrantRow) → is_grant_key (b, a) (r.batch, r.account) ≡ (bytes_eq r.batch b && bytes_eq r.account a)
same_test b a r =
    both_equal (text_cmp b r.batch) (text_cmp a r.account)
    ∙ ap (λ t. t && is_eq (text_cmp a r.account)) (is_eq-slice_cmp b r.batch ∙ nat_list_eq_equiv.symm b r.batch)
    ∙ ap (λ t. bytes_eq r.batch b && t) (is_eq-slice_cmp a r.account ∙ nat_list_eq_equiv.symm a r.account)

joined : (p : Bool) (r : GrantRow) (known : Option ℕ) (o : Option GrantRow) → (p ≡ true → (known ≡ None) × (o ≡ None)) → cond p (Some r.pages) (cond (is_some known) known (option_map (λ (g : GrantRow). g.pages) o)) ≡ cond (is_some known) known (option_map (λ (g : GrantRow). g.pages) (option_or o (cond p (Some r) None)))
joined true r known o none = let is = none refl in subst (λ k. Some r.pages ≡ cond (is_some k) k (option_map (λ (g : GrantRow). g.pages) (option_or o (Some r)))) (sym is.0) (subst (λ o. Some r.pages ≡ option_map (λ (g : GrantRow). g.pages) (option_or o (Some r))) (sym is.1) refl)
joined false r known o none = ap (λ o. cond (is_some known) known (option_map (λ (g : GrantRow). g.pages) o)) (sym (or_none o))

pages_push : (w : World) (new : List GrantRow) (r : GrantRow) (b a : List ℕ) → pages_at w r.batch r.account new ≡ None → cond (is_grant_key (b, a) (r.batch, r.account)) (Some r.pages) (pages_at w b a new) ≡ pages_at w b a (new ++ r ∷ [])
pages_push w new r b a absent =
    let p = λ (g : GrantRow). bytes_eq g.batch b && bytes_eq g.account a in
    ap (λ t. cond t (Some r.pages) (pages_at w b a new)) (same_test b a r)
    ∙ joined (bytes_eq r.batch b && bytes_eq r.account a) r (get w.grants (b, a)) (find p new)
    (λ is. let key = and_parts (bytes_eq r.batch b) (bytes_eq r.account a) is in
    none_either (get w.grants (b, a)) (find p new) (ap (λ y. pages_at w b y new) (sym (same_key r.account a key.1)) ∙ ap (λ x. pages_at w x r.account new) (sym (same_key r.batch b key.0)) ∙ absent))
    ∙ ap (λ o. cond (is_some (get w.grants (b, a))) (get w.grants (b, a)) (option_map (λ (g : GrantRow). g.pages) o)) (sym (find-append p new (r ∷ [])))

new-push : (new : List GrantRow) (r : GrantRow) (m : FinMap grant_cmp ℕ) → AreNew m new → get (fold put_grant m new) (r.batch, r.account) ≡ None → AreNew m (new ++ r ∷ [])
new-push [] r m apart absent = (absent, tt)
new-push (g ∷ new) r m apart absent = (apart.0, new-push new r (put_grant m g) apart.1 absent)

module _ (w : World) where
  nothing_yet : IsSound w → IsTaken w [] []
  nothing_yet sound = record { sound = sound; pages = λ r. first (get w.grants (r.batch, r.account)); totals = λ a. omega arith; apart = tt; funds = refl; amounts = λ a. plus_none (unwrap_or (get w.free a) (pos 0)) }
    where
      plus_none : (z : ℤ) → z ≡ z +ℤ pos 0
      plus_none z = omega (arith, ints)

      first : (o : Option ℕ) → o ≡ cond (is_some o) o None
      first None = refl
      first (Some n) = refl

  takes_one : (new : List GrantRow) (free : List FreeRow) (r : GrantRow) → IsTaken w new free → IsGrantRow r → row_of r (known_grant w r) new ≡ new_row → IsTaken w (new ++ r ∷ []) (free ++ free_after r (known_grant w r) new ∷ [])
  takes_one new free r taken row is =
      let v : World = granted_all w new in
      let means = new_takes r (known_grant w r) new is in
      let absent : get v.grants (r.batch, r.account) ≡ None = taken.pages r ∙ means.0 in
      let total = taken.totals r.account in
      let fits = means.1 in
      record {
        sound = subst IsSound (sym (one_more w new r)) (grant_keeps v r taken.sound row absent (omega arith));
        pages = λ q.
            ap (λ (u : World). get u.grants (q.batch, q.account)) (one_more w new r)
            ∙ got_grant v r q.batch q.account
            ∙ ap (λ o. cond (is_grant_key (q.batch, q.account) (r.batch, r.account)) (Some r.pages) o) (taken.pages q)
            ∙ pages_push w new r q.batch q.account means.0;
        totals = λ a.
            let one : granted a (granted_all w (new ++ r ∷ [])) ≡ granted a (with_grant v r) = ap (granted a) (one_more w new r) in
            omega (arith, one, granted_more v r a absent, taken.totals a, pages_to-push new r a);
        apart = new-push new r w.grants taken.apart absent;
        funds =
            fold_push put_free w.free free (free_after r (known_grant w r) new)
            ∙ ap (λ m. put_free m (free_after r (known_grant w r) new)) taken.funds
            ∙ ap (insert (fold add_pages w.free new) r.account) (amount_is (unwrap_or (get w.free r.account) (pos 0)) (unwrap_or (get (fold add_pages w.free new) r.account) (pos 0)) (pages_to r.account new) r.pages (taken.amounts r.account))
            ∙ sym (fold_push add_pages w.free new r);
        amounts = λ a.
            ap (λ m. unwrap_or (get m a) (pos 0)) (fold_push add_pages w.free new r)
            ∙ ap (λ o. unwrap_or o (pos 0)) (got_free v r a)
            ∙ added a (bytes_eq a r.account) refl;
      }
    where
      amount_is : (old now : ℤ) (p n : ℕ) → now ≡ old +ℤ pos p → old +ℤ pos (p + n) ≡ now +ℤ pos n
      amount_is old now p n e = omega (arith, ints)

      added : (a : List ℕ) (t : Bool) → bytes_eq a r.account ≡ t → unwrap_or (cond t (Some (unwrap_or (get (fold add_pages w.free new) r.account) (pos 0) +ℤ pos r.pages)) (get (fold add_pages w.free new) a)) (pos 0) ≡ unwrap_or (get w.free a) (pos 0) +ℤ pos (pages_to a (new ++ r ∷ []))
      added a true is =
          let same : a ≡ r.account = same_key a r.account is in
          let p : pages_to r.account (new ++ r ∷ []) ≡ pages_to r.account new + r.pages = pages_to-push new r r.account ∙ ap (λ b. pages_to r.account new + cond b r.pages 0) (nat_list_eq_equiv.refl r.account) in
          subst (λ x. unwrap_or (get (fold add_pages w.free new) r.account) (pos 0) +ℤ pos r.pages ≡ unwrap_or (get w.free x) (pos 0) +ℤ pos (pages_to x (new ++ r ∷ []))) (sym same)
          (sym (amount_is (unwrap_or (get w.free r.account) (pos 0)) (unwrap_or (get (fold add_pages w.free new) r.account) (pos 0)) (pages_to r.account new) r.pages (taken.amounts r.account)) ∙ ap (λ n. unwrap_or (get w.free r.account) (pos 0) +ℤ pos n) (sym p))
      added a false is =
          let p : pages_to a (new ++ r ∷ []) ≡ pages_to a new + 0 = pages_to-push new r a ∙ ap (λ b. pages_to a new + cond b r.pages 0) (nat_list_eq_equiv.symm r.account a ∙ is) in
          taken.amounts a ∙ ap (λ n. unwrap_or (get w.free a) (pos 0) +ℤ pos n) (plain_sum (pages_to a new) ∙ sym p)
        where
          plain_sum : (n : ℕ) → n ≡ n + 0
          plain_sum n = omega arith

  takes_all : (rows : List GrantRow) (n : ℕ) (new : List GrantRow) (free : List FreeRow) (repeats : ℕ) → IsTaken w new free → Each IsGrantRow rows → IsTakenAll w (take_rows rows (map (known_grant w) rows) n new free repeats)
  takes_all [] n new free repeats taken each = taken
  takes_all (r ∷ rows) n new free repeats taken each =
      elim (row_of r (known_grant w r) new) as (λ o. row_of r (known_grant w r) new ≡ o → IsTakenAll w (add_row o r (known_grant w r) n (take_rows rows (map (known_grant w) rows) (n + 1)) new free repeats)) [
        | repeated ↦ λ is. takes_all rows (n + 1) new free (repeats + 1) taken each.1
        | refused_row fault ↦ λ is. tt
        | new_row ↦ λ is. takes_all rows (n + 1) (new ++ r ∷ []) (free ++ free_after r (known_grant w r) new ∷ []) repeats (takes_one new free r taken each.0 is) each.1
      ] refl

  made_keeps : (t : Taken) → IsSound w → IsTakenAll w t → Keeps w (made_on (grant_row t).change w)
  made_keeps (all_taken new free repeats) sound taken = subst (λ m. Keeps w (record w { grants = fold put_grant w.grants new; free = m })) (sym taken.funds) (record { sound = taken.sound; moves = stays w })
  made_keeps (none_taken fault row) sound taken = unchanged w sound

taken_new : (w : World) (t : Taken) → IsTakenAll w t → AreNew w.grants (grant_row t).change.grants
taken_new w (all_taken new free repeats) taken = taken.apart
taken_new w (none_taken fault row) taken = tt

-- the grants of the decision are new
pub grants_new : (w : World) (rows : List GrantRow) → IsSound w → All IsGrantRow rows → AreNew w.grants (grant_row (take_rows rows (map (known_grant w) rows) 1 [] [] 0)).change.grants
grants_new w rows sound all = taken_new w (take_rows rows (map (known_grant w) rows) 1 [] [] 0) (takes_all w rows 1 [] [] 0 (nothing_yet w sound) (each_of IsGrantRow rows all))

pub grants_keep : (w : World) (rows : List GrantRow) → IsSound w → All IsGrantRow rows → Keeps w (made_on (grant_row (take_rows rows (map (known_grant w) rows) 1 [] [] 0)).change w)
grants_keep w rows sound all = made_keeps w (take_rows rows (map (known_grant w) rows) 1 [] [] 0) sound (takes_all w rows 1 [] [] 0 (nothing_yet w sound) (each_of IsGrantRow rows all))

-- ---- what new grants add up to

pages_added : (a : List ℕ) (m : FinMap grant_cmp ℕ) (g : GrantRow) → get m (g.batch, g.account) ≡ None → granted_in a (put_grant m g) ≡ granted_in a m + cond (bytes_eq g.account a) g.pages 0
pages_added a m g new = sum-insert (λ (e : (List ℕ × List ℕ) × ℕ). cond (bytes_eq e.0.1 a) e.1 0) m (g.batch, g.account) g.pages new

pub all_added : (a : List ℕ) (rows : List GrantRow) (m : FinMap grant_cmp ℕ) → AreNew m rows → granted_in a (fold put_grant m rows) ≡ granted_in a m + pages_to a rows
all_added a [] m new = omega arith
all_added a (g ∷ rows) m new =
    let more = all_added a rows (put_grant m g) new.1 in
    omega (arith, pages_added a m g new.0, sum_by-cons (λ (r : GrantRow). cond (bytes_eq r.account a) r.pages 0) g rows, more)
