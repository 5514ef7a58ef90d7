-- What becomes of the rows of an account file.
use Rattle.std.proofs.Common.{◌≡◌, ℕ, ℤ, pos, ◌+ℤ◌, ◌+◌, List, [], ◌∷◌, ◌++◌, map, length, refl, ap, sym, ◌∙◌, arith, subst, Bool, true, false, cond}
use Rattle.std.specs.Prelude.{Option, Some, None, bytes_eq, nat_eq, find, fold, is_some, option_map, unwrap_or, ◌&&◌, ◌||◌, ⊤}
use Rattle.std.specs.List.{list_any, AllByRecursion as Each}
use Rattle.std.specs.FinMap.{FinMap, get, get-insert}
use Rattle.std.specs.Option.{option_or, option_map_or}
use Rattle.std.proofs.lemmas.Cmp.{nat_list_eq_equiv}
use Rattle.std.proofs.lemmas.Int.{ints}
use Rattle.std.proofs.lemmas.List.{length_push}
use Rattle.std.proofs.lemmas.List.Folds.{find-append, list_any-append}
use Rattle.std.proofs.lemmas.List.Sums.{fold_push}
use Rattle.std.proofs.lemmas.Bool.{and_parts, or_parts}
use Rattle.queue_core.specs.World.{World, AreNew, known_grant, put_free, put_grant, grant_cmp}
use Rattle.queue_core.specs.Grants.{repeated, refused_row, new_row, Taken, all_taken, none_taken, take_rows, add_row, row_of, row_under, pages_under, pages_to, is_too_many, free_after}
use Rattle.queue_types.specs.declared.event.FreeRow.{FreeRow}
use Rattle.queue_types.specs.declared.event.GrantRefusal.TheVariants.{Conflict, TooMany}
use Rattle.queue_types.specs.declared.event.GrantRow.{GrantRow}
use Rattle.queue_types.specs.declared.event.KnownGrant.{KnownGrant}
use Rattle.queue_laws.specs.Granting.{is_named, is_account_of}
use Rattle.queue_laws.proofs.Base.{equal, itself, own_key, same_key}
use Rattle.queue_laws.proofs.Funds.{one_row}
use Rattle.queue_core.proofs.Maps.{grant_total, is_grant_key}
use Rattle.queue_core.proofs.GrantLemmas.{pages_to-push}
use Rattle.queue_laws.proofs.Keys.{grant_key}

-- ---- what becomes of one row

only_new : (same too : Bool) (o : Option ℕ) → cond same repeated (cond (is_some o) (refused_row Conflict) (cond too (refused_row TooMany) new_row)) ≡ new_row → o ≡ None
only_new true too o e = absurd (cc)
only_new false too (Some n) e = absurd (cc)
only_new false true None e = absurd (cc)
only_new false false None e = refl

-- a new row is under a batch and an account that has no pages yet
pub new_means : (r : GrantRow) (k : KnownGrant) (new : List GrantRow) → row_of r k new ≡ new_row → pages_under r k new ≡ None
new_means r k new e = only_new (option_map_or (λ n. nat_eq n r.pages) (pages_under r k new) false) (is_too_many r k new) (pages_under r k new) e

same_pages : (p : ℕ) (o : Option ℕ) → option_map_or (λ n. nat_eq n p) o false ≡ true → o ≡ Some p
same_pages p None e = absurd (cc)
same_pages p (Some n) e = ap Some (equal n p e)

only_repeated : (same too : Bool) (o : Option ℕ) → cond same repeated (cond (is_some o) (refused_row Conflict) (cond too (refused_row TooMany) new_row)) ≡ repeated → same ≡ true
only_repeated true too o e = refl
only_repeated false too (Some n) e = absurd (cc)
only_repeated false true None e = absurd (cc)
only_repeated false false None e = absurd (cc)

-- a repeated row has its pages there
pub repeat_means : (r : GrantRow) (k : KnownGrant) (new : List GrantRow) → row_of r k new ≡ repeated → pages_under r k new ≡ Some r.pages
repeat_means r k new e = same_pages r.pages (pages_under r k new) (only_repeated (option_map_or (λ n. nat_eq n r.pages) (pages_under r k new) false) (is_too_many r k new) (pages_under r k new) e)

pub means_repeat : (r : GrantRow) (k : KnownGrant) (new : List GrantRow) → pages_under r k new ≡ Some r.pages → row_of r k new ≡ repeated
means_repeat r k new e =
    ap (λ b. cond b repeated (cond (is_some (pages_under r k new)) (refused_row Conflict) (cond (is_too_many r k new) (refused_row TooMany) new_row)))
    (ap (λ o. option_map_or (λ n. nat_eq n r.pages) o false) e ∙ itself r.pages)

-- ---- what all the rows come to

-- a fact of the new rows, the free rows and the repeats, where the file is accepted
abbrev pub Comes : (List GrantRow → List FreeRow → ℕ → Type 0) → Taken → Type 0
Comes P (all_taken new free repeats) = P new free repeats
Comes P (none_taken refusal row) = ⊤

pub both_come : (P Q R : List GrantRow → List FreeRow → ℕ → Type 0) (t : Taken) → ((new : List GrantRow) (free : List FreeRow) (n : ℕ) → P new free n → Q new free n → R new free n) → Comes P t → Comes Q t → Comes R t
both_come P Q R (all_taken new free n) f p q = f new free n p q
both_come P Q R (none_taken refusal row) f p q = tt

pub one_comes : (P Q : List GrantRow → List FreeRow → ℕ → Type 0) (t : Taken) → ((new : List GrantRow) (free : List FreeRow) (n : ℕ) → P new free n → Q new free n) → Comes P t → Comes Q t
one_comes P Q (all_taken new free n) f p = f new free n p
one_comes P Q (none_taken refusal row) f p = tt

module _ (w : World) where
  abbrev pub known : List GrantRow → List KnownGrant
  known rows = map (known_grant w) rows

  abbrev funds : GrantRow → List GrantRow → FreeRow
  funds r new = free_after r (known_grant w r) new

  -- a fact that a repeat and a new row each keep, the file keeps
  pub comes : (P : List GrantRow → List FreeRow → ℕ → Type 0)
      → ((r : GrantRow) (new : List GrantRow) (free : List FreeRow) (n : ℕ) → P new free n → P new free (n + 1))
      → ((r : GrantRow) (new : List GrantRow) (free : List FreeRow) (n : ℕ) → row_of r (known_grant w r) new ≡ new_row → P new free n → P (new ++ r ∷ []) (free ++ funds r new ∷ []) n)
      → (rows : List GrantRow) (row : ℕ) (new : List GrantRow) (free : List FreeRow) (n : ℕ) → P new free n → Comes P (take_rows rows (known rows) row new free n)
  comes P again more [] row new free n here = here
  comes P again more (r ∷ rows) row new free n here =
      elim (row_of r (known_grant w r) new) as (λ o. row_of r (known_grant w r) new ≡ o → Comes P (add_row o r (known_grant w r) row (take_rows rows (known rows) (row + 1)) new free n)) [
        | repeated ↦ λ is. comes P again more rows (row + 1) new free (n + 1) (again r new free n here)
        | refused_row refusal ↦ λ is. tt
        | new_row ↦ λ is. comes P again more rows (row + 1) (new ++ r ∷ []) (free ++ funds r new ∷ []) n (more r new free n is here)
      ] refl

  -- each row is counted
  pub counted : (rows : List GrantRow) (row : ℕ) (new : List GrantRow) (free : List FreeRow) (n : ℕ) → Comes (λ new_after free_rows m. length new_after + m ≡ length new + n + length rows) (take_rows rows (known rows) row new free n)
  counted [] row new free n = omega arith
  counted (r ∷ rows) row new free n =
      elim (row_of r (known_grant w r) new) as (λ o. Comes (λ new_after free_rows m. length new_after + m ≡ length new + n + length (r ∷ rows)) (add_row o r (known_grant w r) row (take_rows rows (known rows) (row + 1)) new free n)) [
        | repeated ↦ one_comes _ _ (take_rows rows (known rows) (row + 1) new free (n + 1)) (λ new_after free_rows m is. omega arith) (counted rows (row + 1) new free (n + 1))
        | refused_row refusal ↦ tt
        | new_row ↦ one_comes _ _ (take_rows rows (known rows) (row + 1) (new ++ r ∷ []) (free ++ funds r new ∷ []) n) (λ new_after free_rows m is. let one = length_push new r in omega arith) (counted rows (row + 1) (new ++ r ∷ []) (free ++ funds r new ∷ []) n)
      ]

  -- ---- pages that are there

  abbrev pub IsThere : GrantRow → List GrantRow → Type 0
  IsThere g new = pages_under g (known_grant w g) new ≡ Some g.pages

  abbrev key : List ℕ → List ℕ → GrantRow → Bool
  key b a g = bytes_eq g.batch b && bytes_eq g.account a

  still_under : (p : ℕ) (o : Option ℕ) (x y : Option GrantRow) → cond (is_some o) o (option_map (λ (g : GrantRow). g.pages) x) ≡ Some p → cond (is_some o) o (option_map (λ (g : GrantRow). g.pages) (option_or x y)) ≡ Some p
  still_under p (Some n) x y e = e
  still_under p None (Some g) y e = e
  still_under p None None y e = absurd (cc)

  pub still_there : (g : GrantRow) (new : List GrantRow) (r : GrantRow) → IsThere g new → IsThere g (new ++ r ∷ [])
  still_there g new r there =
      ap (λ o. cond (is_some (get w.grants (g.batch, g.account))) (get w.grants (g.batch, g.account)) (option_map (λ (g : GrantRow). g.pages) o)) (find-append (key g.batch g.account) new (r ∷ []))
      ∙ still_under g.pages (get w.grants (g.batch, g.account)) (row_under g new) (row_under g (r ∷ [])) there

  now_under : (r : GrantRow) (o : Option ℕ) (x : Option GrantRow) → cond (is_some o) o (option_map (λ (g : GrantRow). g.pages) x) ≡ None → cond (is_some o) o (option_map (λ (g : GrantRow). g.pages) (option_or x (Some r))) ≡ Some r.pages
  now_under r (Some n) x e = absurd (cc)
  now_under r None (Some g) e = absurd (cc)
  now_under r None None e = refl

  own_key_of : (r : GrantRow) → key r.batch r.account r ≡ true
  own_key_of r = ap (λ b. b && bytes_eq r.account r.account) (own_key r.batch r.batch refl) ∙ own_key r.account r.account refl

  pub now_there : (r : GrantRow) (new : List GrantRow) → pages_under r (known_grant w r) new ≡ None → IsThere r (new ++ r ∷ [])
  now_there r new none =
      ap (λ o. cond (is_some (get w.grants (r.batch, r.account))) (get w.grants (r.batch, r.account)) (option_map (λ (g : GrantRow). g.pages) o)) (find-append (key r.batch r.account) new (r ∷ []) ∙ ap (λ t. option_or (row_under r new) (cond t (Some r) None)) (own_key_of r))
      ∙ now_under r (get w.grants (r.batch, r.account)) (row_under r new) none

  -- what is there stays
  pub stays_there : (g : GrantRow) (rows : List GrantRow) (row : ℕ) (new : List GrantRow) (free : List FreeRow) (n : ℕ) → IsThere g new → Comes (λ new_after free_rows m. IsThere g new_after) (take_rows rows (known rows) row new free n)
  stays_there g rows row new free n there = comes (λ new_after free_rows m. IsThere g new_after) (λ r new free n here. here) (λ r new free n is here. still_there g new r here) rows row new free n there

  -- each row is there at last
  pub all_there : (rows : List GrantRow) (row : ℕ) (new : List GrantRow) (free : List FreeRow) (n : ℕ) → Comes (λ new_after free_rows m. Each (λ g. IsThere g new_after) rows) (take_rows rows (known rows) row new free n)
  all_there [] row new free n = tt
  all_there (r ∷ rows) row new free n =
      elim (row_of r (known_grant w r) new) as (λ o. row_of r (known_grant w r) new ≡ o → Comes (λ new_after free_rows m. Each (λ g. IsThere g new_after) (r ∷ rows)) (add_row o r (known_grant w r) row (take_rows rows (known rows) (row + 1)) new free n)) [
        | repeated ↦ λ is.
            both_come (λ new_after free_rows m. IsThere r new_after) (λ new_after free_rows m. Each (λ g. IsThere g new_after) rows) _ (take_rows rows (known rows) (row + 1) new free (n + 1)) (λ new_after free_rows m p q. (p, q))
            (stays_there r rows (row + 1) new free (n + 1) (repeat_means r (known_grant w r) new is)) (all_there rows (row + 1) new free (n + 1))
        | refused_row refusal ↦ λ is. tt
        | new_row ↦ λ is.
            both_come (λ new_after free_rows m. IsThere r new_after) (λ new_after free_rows m. Each (λ g. IsThere g new_after) rows) _ (take_rows rows (known rows) (row + 1) (new ++ r ∷ []) (free ++ funds r new ∷ []) n) (λ new_after free_rows m p q. (p, q))
            (stays_there r rows (row + 1) (new ++ r ∷ []) (free ++ funds r new ∷ []) n (now_there r new (new_means r (known_grant w r) new is))) (all_there rows (row + 1) (new ++ r ∷ []) (free ++ funds r new ∷ []) n)
      ] refl

  -- rows that are there before the file are all repeats
  pub all_repeat : (rows : List GrantRow) (row n : ℕ) → Each (λ g. get w.grants (g.batch, g.account) ≡ Some g.pages) rows → take_rows rows (known rows) row [] [] n ≡ all_taken [] [] (n + length rows)
  all_repeat [] row n each = ap (all_taken [] []) (omega arith)
  all_repeat (r ∷ rows) row n each =
      let there : pages_under r (known_grant w r) [] ≡ Some r.pages = ap (λ o. cond (is_some o) o None) each.0 in
      ap (λ o. add_row o r (known_grant w r) row (take_rows rows (known rows) (row + 1)) [] [] n) (means_repeat r (known_grant w r) [] there)
      ∙ all_repeat rows (row + 1) (n + 1) each.1
      ∙ ap (all_taken [] []) (omega arith)

  -- ---- the grants and the free pages

  pub record IsTaken (new : List GrantRow) (free : List FreeRow) : Type 0 where
    pub pages : (r : GrantRow) → get (fold put_grant w.grants new) (r.batch, r.account) ≡ pages_under r (known_grant w r) new
    pub apart : AreNew w.grants new
    pub amounts : (a : List ℕ) → unwrap_or (get (fold put_free w.free free) a) (pos 0) ≡ unwrap_or (get w.free a) (pos 0) +ℤ pos (pages_to a new)

  nothing_yet : IsTaken [] []
  nothing_yet = record { pages = λ r. first (get w.grants (r.batch, r.account)); apart = tt; amounts = λ a. plus_none (unwrap_or (get w.free a) (pos 0)) }
    where
      plus_none : (z : ℤ) → z ≡ z +ℤ pos 0
      plus_none z = omega (arith, ints)

      first : (o : Option ℕ) → o ≡ cond (is_some o) o None
      first None = refl
      first (Some n) = refl

  new-push : (new : List GrantRow) (r : GrantRow) (m : FinMap grant_cmp ℕ) → AreNew m new → get (fold put_grant m new) (r.batch, r.account) ≡ None → AreNew m (new ++ r ∷ [])
  new-push [] r m apart absent = (absent, tt)
  new-push (g ∷ new) r m apart absent = (apart.0, new-push new r (put_grant m g) apart.1 absent)

  or_none : (o : Option GrantRow) → option_or o None ≡ o
  or_none None = refl
  or_none (Some g) = refl

  none_either : (o : Option ℕ) (x : Option GrantRow) → cond (is_some o) o (option_map (λ (g : GrantRow). g.pages) x) ≡ None → (o ≡ None) × (x ≡ None)
  none_either None None e = (refl, refl)
  none_either None (Some g) e = absurd (cc)
  none_either (Some n) x e = absurd (cc)

  joined : (p : Bool) (r : GrantRow) (o : Option ℕ) (x : Option GrantRow) → (p ≡ true → (o ≡ None) × (x ≡ None)) → cond p (Some r.pages) (cond (is_some o) o (option_map (λ (g : GrantRow). g.pages) x)) ≡ cond (is_some o) o (option_map (λ (g : GrantRow). g.pages) (option_or x (cond p (Some r) None)))
  joined true r o x none = let is = none refl in subst (λ o. Some r.pages ≡ cond (is_some o) o (option_map (λ (g : GrantRow). g.pages) (option_or x (Some r)))) (sym is.0) (subst (λ x. Some r.pages ≡ option_map (λ (g : GrantRow). g.pages) (option_or x (Some r))) (sym is.1) refl)
  joined false r o x none = ap (λ x. cond (is_some o) o (option_map (λ (g : GrantRow). g.pages) x)) (sym (or_none x))

  pages_push : (new : List GrantRow) (r q : GrantRow) → pages_under r (known_grant w r) new ≡ None → cond (is_grant_key (q.batch, q.account) (r.batch, r.account)) (Some r.pages) (pages_under q (known_grant w q) new) ≡ pages_under q (known_grant w q) (new ++ r ∷ [])
  pages_push new r q absent =
      let p = key q.batch q.account in
      ap (λ t. cond t (Some r.pages) (pages_under q (known_grant w q) new)) (grant_key q.batch q.account r.batch r.account)
      ∙ joined (p r) r (get w.grants (q.batch, q.account)) (find p new)
      (λ is.
      let both = and_parts (bytes_eq r.batch q.batch) (bytes_eq r.account q.account) is in
      let batch : r.batch ≡ q.batch = same_key r.batch q.batch both.0 in
      let account : r.account ≡ q.account = same_key r.account q.account both.1 in
      none_either (get w.grants (q.batch, q.account)) (find p new) (sym (λ i. cond (is_some (get w.grants (batch i, account i))) (get w.grants (batch i, account i)) (option_map (λ (g : GrantRow). g.pages) (find (key (batch i) (account i)) new))) ∙ absent))
      ∙ ap (λ x. cond (is_some (get w.grants (q.batch, q.account))) (get w.grants (q.batch, q.account)) (option_map (λ (g : GrantRow). g.pages) x)) (sym (find-append p new (r ∷ [])))

  plain_sum : (n : ℕ) → n ≡ n + 0
  plain_sum n = omega arith

  amount_of : (r : GrantRow) (new : List GrantRow) (free : List FreeRow) (a : List ℕ) (t : Bool) → bytes_eq a r.account ≡ t
      → unwrap_or (get (fold put_free w.free free) a) (pos 0) ≡ unwrap_or (get w.free a) (pos 0) +ℤ pos (pages_to a new)
      → unwrap_or (cond t (Some (unwrap_or (get w.free r.account) (pos 0) +ℤ pos (pages_to r.account new + r.pages))) (get (fold put_free w.free free) a)) (pos 0) ≡ unwrap_or (get w.free a) (pos 0) +ℤ pos (pages_to a (new ++ r ∷ []))
  amount_of r new free a true is before =
      let same : r.account ≡ a = sym (same_key a r.account is) in
      let sum : pages_to a (new ++ r ∷ []) ≡ pages_to a new + r.pages = pages_to-push new r a ∙ ap (λ b. pages_to a new + cond b r.pages 0) (own_key r.account a same) in
      (λ i. unwrap_or (get w.free (same i)) (pos 0) +ℤ pos (pages_to (same i) new + r.pages)) ∙ sym (ap (λ n. unwrap_or (get w.free a) (pos 0) +ℤ pos n) sum)
  amount_of r new free a false is before =
      let sum : pages_to a (new ++ r ∷ []) ≡ pages_to a new + 0 = pages_to-push new r a ∙ ap (λ b. pages_to a new + cond b r.pages 0) (nat_list_eq_equiv.symm r.account a ∙ is) in
      before ∙ ap (λ n. unwrap_or (get w.free a) (pos 0) +ℤ pos n) (plain_sum (pages_to a new) ∙ sym sum)

  takes_one : (r : GrantRow) (new : List GrantRow) (free : List FreeRow) → row_of r (known_grant w r) new ≡ new_row → IsTaken new free → IsTaken (new ++ r ∷ []) (free ++ funds r new ∷ [])
  takes_one r new free is before =
      let none : pages_under r (known_grant w r) new ≡ None = new_means r (known_grant w r) new is in
      record {
        pages = λ q.
            ap (λ m. get m (q.batch, q.account)) (fold_push put_grant w.grants new r)
            ∙ get-insert grant_total (fold put_grant w.grants new) (r.batch, r.account) r.pages (q.batch, q.account)
            ∙ ap (λ o. cond (is_grant_key (q.batch, q.account) (r.batch, r.account)) (Some r.pages) o) (before.pages q)
            ∙ pages_push new r q none;
        apart = new-push new r w.grants before.apart (before.pages r ∙ none);
        amounts = λ a.
            ap (λ m. unwrap_or (get m a) (pos 0)) (fold_push put_free w.free free (funds r new))
            ∙ ap (λ o. unwrap_or o (pos 0)) (one_row (fold put_free w.free free) (funds r new) a)
            ∙ amount_of r new free a (bytes_eq a r.account) refl (before.amounts a);
      }

  pub file_taken : (rows : List GrantRow) → Comes (λ new free n. IsTaken new free) (take_rows rows (known rows) 1 [] [] 0)
  file_taken rows = comes (λ new free n. IsTaken new free) (λ r new free n here. here) (λ r new free n is here. takes_one r new free is here) rows 1 [] [] 0 nothing_yet

  -- ---- what no row names

  not_in : (t : GrantRow → Bool) (new : List GrantRow) (r : GrantRow) → list_any t new ≡ false → t r ≡ false → list_any t (new ++ r ∷ []) ≡ false
  not_in t new r none apart = list_any-append t new (r ∷ []) ∙ ap (λ b. b || (t r || false)) none ∙ ap (λ b. b || false) apart

  none_new : (t : GrantRow → Bool) (rows : List GrantRow) (row : ℕ) (new : List GrantRow) (free : List FreeRow) (n : ℕ) → list_any t rows ≡ false → list_any t new ≡ false → Comes (λ new_after free_rows m. list_any t new_after ≡ false) (take_rows rows (known rows) row new free n)
  none_new t [] row new free n absent none = none
  none_new t (r ∷ rows) row new free n absent none =
      elim (row_of r (known_grant w r) new) as (λ o. Comes (λ new_after free_rows m. list_any t new_after ≡ false) (add_row o r (known_grant w r) row (take_rows rows (known rows) (row + 1)) new free n)) [
        | repeated ↦ none_new t rows (row + 1) new free (n + 1) (or_parts (t r) (list_any t rows) absent).1 none
        | refused_row refusal ↦ tt
        | new_row ↦ none_new t rows (row + 1) (new ++ r ∷ []) (free ++ funds r new ∷ []) n (or_parts (t r) (list_any t rows) absent).1 (not_in t new r none (or_parts (t r) (list_any t rows) absent).0)
      ]

  other_puts : (new : List GrantRow) (m : FinMap grant_cmp ℕ) (b a : List ℕ) → is_named b a new ≡ false → get (fold put_grant m new) (b, a) ≡ get m (b, a)
  other_puts [] m b a none = refl
  other_puts (g ∷ new) m b a none =
      other_puts new (put_grant m g) b a (or_parts (key b a g) (is_named b a new) none).1
      ∙ get-insert grant_total m (g.batch, g.account) g.pages (b, a)
      ∙ ap (λ t. cond t (Some g.pages) (get m (b, a))) (grant_key b a g.batch g.account ∙ (or_parts (key b a g) (is_named b a new) none).0)

  pub other_grants : (rows : List GrantRow) (b a : List ℕ) → is_named b a rows ≡ false → Comes (λ new free n. get (fold put_grant w.grants new) (b, a) ≡ get w.grants (b, a)) (take_rows rows (known rows) 1 [] [] 0)
  other_grants rows b a absent = one_comes _ _ (take_rows rows (known rows) 1 [] [] 0) (λ new free n none. other_puts new w.grants b a none) (none_new (key b a) rows 1 [] [] 0 absent refl)

  same_funds : (free : List FreeRow) (f : FreeRow) (a : List ℕ) → get (fold put_free w.free free) a ≡ get w.free a → bytes_eq f.account a ≡ false → get (fold put_free w.free (free ++ f ∷ [])) a ≡ get w.free a
  same_funds free f a before other =
      ap (λ m. get m a) (fold_push put_free w.free free f)
      ∙ one_row (fold put_free w.free free) f a
      ∙ ap (λ t. cond t (Some f.free) (get (fold put_free w.free free) a)) (nat_list_eq_equiv.symm a f.account ∙ other)
      ∙ before

  none_free : (rows : List GrantRow) (row : ℕ) (new : List GrantRow) (free : List FreeRow) (n : ℕ) (a : List ℕ) → is_account_of a rows ≡ false → get (fold put_free w.free free) a ≡ get w.free a → Comes (λ new_after free_after m. get (fold put_free w.free free_after) a ≡ get w.free a) (take_rows rows (known rows) row new free n)
  none_free [] row new free n a absent before = before
  none_free (r ∷ rows) row new free n a absent before =
      elim (row_of r (known_grant w r) new) as (λ o. Comes (λ new_after free_after m. get (fold put_free w.free free_after) a ≡ get w.free a) (add_row o r (known_grant w r) row (take_rows rows (known rows) (row + 1)) new free n)) [
        | repeated ↦ none_free rows (row + 1) new free (n + 1) a (or_parts (bytes_eq r.account a) (is_account_of a rows) absent).1 before
        | refused_row refusal ↦ tt
        | new_row ↦ none_free rows (row + 1) (new ++ r ∷ []) (free ++ funds r new ∷ []) n a (or_parts (bytes_eq r.account a) (is_account_of a rows) absent).1 (same_funds free (funds r new) a before (or_parts (bytes_eq r.account a) (is_account_of a rows) absent).0)
      ]

  pub other_accounts : (rows : List GrantRow) (a : List ℕ) → is_account_of a rows ≡ false → Comes (λ new free n. get (fold put_free w.free free) a ≡ get w.free a) (take_rows rows (known rows) 1 [] [] 0)
  other_accounts rows a absent = none_free rows 1 [] [] 0 a absent refl
