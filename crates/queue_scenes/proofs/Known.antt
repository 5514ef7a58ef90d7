-- What is known of a row of an account file, by the account's row.
use Rattle.std.proofs.Common.{◌≡◌, inl, inr, ℕ, ℤ, pos, ◌+ℤ◌, ◌+◌, ◌<◌, List, [], ◌∷◌, ◌++◌, map, take, length, get_or, sum_by, Bool, true, false, cond, Option, Some, None, IfSome, Result, Ok, Err, IfOk, IfErr, IsSomeAnd, IsTrue, refl, sym, ap, subst, ◌∙◌, arith, bytes_eq}
use Rattle.std.specs.Prelude.{option_map, IsSome, IsNone, is_some}
use Rattle.std.specs.FinMap.{get, get-entries, entries, entries_sorted}
use Rattle.std.specs.List.{AllByRecursion as Each}
use Rattle.std.proofs.lemmas.Bool.{cases_Bool}
use Rattle.std.proofs.lemmas.Int.{ints}
use Rattle.std.proofs.lemmas.List.{map_more}
use Rattle.std.proofs.lemmas.List.Elements.{recursion_from_All}
use Rattle.std.proofs.lemmas.List.Sums.{sum_by-cons}
use Rattle.sqlite.specs.State.{State, HasCleanDisk}
use Rattle.queue_core.specs.Sound.{IsSound, reserved, printed}
use Rattle.queue_core.specs.World.{World, grant_cmp, granted, known_grant}
use Rattle.queue_types.specs.declared.event.GrantRow.{GrantRow}
use Rattle.queue_types.specs.declared.event.KnownGrant.{KnownGrant}
use Rattle.queue_rows.proofs.WorldMaps.{found_there}
use Rattle.queue_rows.proofs.WorldRows.{grant_total}
use Rattle.queue_tables.proofs.Accounts.{same_text}
use Rattle.queue_tables.specs.Accounts.{pages_of}
use Rattle.queue_tables.specs.Telling.{ReadsQueue}
use Rattle.queue_tables.specs.declared.account_pages.AccountPages.{AccountPages}
use Rattle.queue_tables.specs.declared.fault.Fault.{Fault}
use Rattle.queue_scenes.specs.Accounts.{FitAccount}
use Rattle.queue_scenes.proofs.Bounds.{found_fits}
use Rattle.queue_tables.proofs.Telling.{HaveTold, refuses, tells}

-- ---- an account without a row has no grant

sum_none : {X : Type 0} (f : X → ℕ) (xs : List X) → Each (λ x. f x ≡ 0) xs → sum_by f xs ≡ 0
sum_none f [] all = refl
sum_none f (x ∷ xs) all = let more = sum_none f xs all.1 in let here = all.0 in let a = sum_by-cons f x xs in omega (arith, more, here, a)

abbrev part : List ℕ → (List ℕ × List ℕ) × ℕ → ℕ
part a g = cond (bytes_eq g.0.1 a) g.1 0

none_is_some : {X : Type 0} (o : Option X) → o ≡ None → IsSome o → ⊥
none_is_some o none some = let e : is_some o ≡ false = ap is_some none in absurd (let no : true ≡ false = sym some ∙ e in cc)

none_granted : (w : World) → IsSound w → (a : List ℕ) → get w.free a ≡ None → granted a w ≡ 0
none_granted w sound a none = sum_none (part a) (entries w.grants) (recursion_from_All (λ (g : (List ℕ × List ℕ) × ℕ). part a g ≡ 0) (entries w.grants) (λ k d low.
    let e = get_or (entries w.grants) k d in
    elim (cases_Bool (bytes_eq e.0.1 a)) [
      | inl same ↦
          let there : get w.grants e.0 ≡ Some e.1 = get-entries w.grants e.0 ∙ found_there grant_cmp grant_total (entries w.grants) k d low (entries_sorted w.grants) in
          let some : IsSome (get w.grants (e.0.0, a)) = subst (λ (n : List ℕ). IsSome (get w.grants (e.0.0, n))) (same_text e.0.1 a same) (ap is_some there) in
          absurd (none_is_some (get w.free a) none ((sound.accounts a).1 (e.0.0, some)))
      | inr apart ↦ ap (λ (b : Bool). cond b e.1 0) apart
    ]))

-- ---- the pages of an account are those that it was granted

free_back : (w : World) (a : List ℕ) (o : Option ℤ) → option_map (λ (p : AccountPages). p.free) (option_map (pages_of w a) o) ≡ o
free_back w a None = refl
free_back w a (Some free) = refl

granted_is : (w : World) → IsSound w → (a : List ℕ) (o : Option ℤ) (n : ℕ) → get w.free a ≡ o → IfSome o (λ free. pos (granted a w) ≡ free +ℤ pos (reserved a w + printed a w))
    → (IsNone (option_map (pages_of w a) o) → n ≡ 0) → IfSome (option_map (pages_of w a) o) (λ p. pos n ≡ p.free +ℤ pos (p.reserved + p.printed)) → n ≡ granted a w
granted_is w sound a None n is balance none sum = none refl ∙ sym (none_granted w sound a is)
granted_is w sound a (Some free) n is balance none sum = omega (arith, ints, balance, sum)

module _ (row : GrantRow) (batch account : List ℕ) (batch_is : batch ≡ row.batch) (account_is : account ≡ row.account) (pages : Option ℕ) (found : Option AccountPages) where
  known_as : (w : World) → IsSound w → pages ≡ get w.grants (batch, account) → found ≡ option_map (pages_of w account) (get w.free account) → (k : KnownGrant) → k.pages ≡ pages → k.free ≡ option_map (λ (p : AccountPages). p.free) found
      → (IsNone found → k.granted ≡ 0) → IfSome found (λ p. pos k.granted ≡ p.free +ℤ pos (p.reserved + p.printed)) → k ≡ known_grant w row
  known_as w sound pages_are found_is k same free_is none sum =
      let n = k.granted in
      let at = get w.free account in
      let a : k.pages ≡ get w.grants (row.batch, row.account) = same ∙ pages_are ∙ (λ i. get w.grants (batch_is i, account_is i)) in
      let nothing : IsNone (option_map (pages_of w account) at) → n ≡ 0 = subst (λ (o : Option AccountPages). IsNone o → n ≡ 0) found_is none in
      let all = subst (λ (o : Option AccountPages). IfSome o (λ p. pos n ≡ p.free +ℤ pos (p.reserved + p.printed))) found_is sum in
      let b : n ≡ granted row.account w = granted_is w sound account at n refl (sound.balances account) nothing all ∙ ap (λ (t : List ℕ). granted t w) account_is in
      let c : k.free ≡ get w.free row.account = free_is ∙ ap (option_map (λ (p : AccountPages). p.free)) found_is ∙ free_back w account at ∙ ap (get w.free) account_is in
      λ i. record { pages = a i; granted = b i; free = c i }

  -- what is known of the row, once its grant and its account were read
  pub known_is : {old new : State} → HaveTold old new (λ w. (pages ≡ get w.grants (batch, account)) × (found ≡ option_map (pages_of w account) (get w.free account))) → (HasCleanDisk new → IsTrue new.is_open)
      → (r : Result KnownGrant Fault) → IfOk r (λ k. k.pages ≡ pages) → IfOk r (λ k. k.free ≡ option_map (λ p. p.free) found) → (IsNone found → IfOk r (λ k. k.granted ≡ 0))
      → IfSome found (λ p. IfOk r (λ k. pos k.granted ≡ p.free +ℤ pos (p.reserved + p.printed))) → IfErr r (λ _. IsSomeAnd found (λ p. FitAccount p → ⊥)) → ReadsQueue old new r (λ w k. k ≡ known_grant w row)
  known_is read live (Ok k) same free_is none sum misfits = tells read (λ w sound is. known_as w sound is.0 is.1 k same free_is none sum)
  known_is read live (Err e) same free_is none sum misfits = refuses read live (λ d w sound is. found_fits w account sound found is.1 misfits) _ refl

-- ---- one row after another

pub known_more : (w : World) (rows : List GrantRow) (i : ℕ) (row : GrantRow) → i < length rows → row ≡ get_or rows i row → map (known_grant w) (take i rows) ++ known_grant w row ∷ [] ≡ map (known_grant w) (take (i + 1) rows)
known_more w rows i row low is =
    sym (map_more (known_grant w) rows i row low ∙ ap (λ (g : GrantRow). map (known_grant w) (take i rows) ++ known_grant w g ∷ []) (sym is))
