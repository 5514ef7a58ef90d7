-- What an account file makes of what is a caller's own depends on that and on the grants alone.
use Rattle.std.proofs.Common.{◌≡◌, ℕ, ℤ, pos, ◌+ℤ◌, ◌+◌, List, [], ◌∷◌, ◌++◌, map, length, refl, ap, sym, ◌∙◌, subst, true, false, cond}
use Rattle.std.specs.Prelude.{Option, Some, bytes_eq, filter, fold, unwrap_or}
use Rattle.std.specs.FinMap.{get}
use Rattle.std.proofs.lemmas.List.Elements.{filter-append}
use Rattle.queue_types.specs.Event.{grant}
use Rattle.queue_core.specs.Grants.{repeated, refused_row, new_row, Taken, all_taken, none_taken, take_rows, add_row, row_of, pages_to, free_after}
use Rattle.queue_core.specs.World.{World, made_on, known_grant, granted_in, put_grant, put_free}
use Rattle.queue_core.specs.Machine.{step, grant_row}
use Rattle.queue_types.specs.declared.event.FreeRow.{FreeRow}
use Rattle.queue_types.specs.declared.event.GrantRow.{GrantRow}
use Rattle.queue_types.specs.declared.event.Reply.TheVariants.{Added, NotAdded}
use Rattle.queue_laws.specs.Own.{Own, own}
use Rattle.queue_laws.proofs.Base.{same_key}
use Rattle.queue_laws.proofs.Callers.{free_after as free_then, own_free}

-- the rows of the caller's account
abbrev own_rows : List ℕ → List FreeRow → List FreeRow
own_rows u free = filter (λ a. bytes_eq u a.account) free

-- both are refused for one row, or both are taken with the same new rows and repeats
abbrev AreTakenAlike : List ℕ → Taken → Taken → Type 0
AreTakenAlike u (all_taken new free n) (all_taken also freed m) = (new ≡ also) × (own_rows u free ≡ own_rows u freed) × (n ≡ m)
AreTakenAlike u (all_taken new free n) (none_taken refusal row) = ⊥
AreTakenAlike u (none_taken refusal row) (all_taken new free n) = ⊥
AreTakenAlike u (none_taken refusal row) (none_taken other place) = (refusal ≡ other) × (row ≡ place)

fold_own : (u : List ℕ) (free : List FreeRow) (o : Option ℤ) → fold (free_then u) o free ≡ fold (free_then u) o (own_rows u free)
fold_own u [] o = refl
fold_own u (a ∷ free) o =
    elim (bytes_eq u a.account) as (λ b. bytes_eq u a.account ≡ b → fold (free_then u) (cond b (Some a.free) o) free ≡ fold (free_then u) o (cond b (a ∷ own_rows u free) (own_rows u free))) [
      | true ↦ λ is. fold_own u free (Some a.free) ∙ ap (λ b. fold (free_then u) (cond b (Some a.free) o) (own_rows u free)) (sym is)
      | false ↦ λ is. fold_own u free o
    ] refl

module _ (u : List ℕ) (w v : World) (same : own u w ≡ own u v) where
  grants : w.grants ≡ v.grants
  grants = ap (λ (o : Own). o.grants) same

  free_same : get w.free u ≡ get v.free u
  free_same = ap (λ (o : Own). o.free) same

  -- what becomes of a row does not depend on what is free
  row_same : (r : GrantRow) (new : List GrantRow) → row_of r (known_grant w r) new ≡ row_of r (known_grant v r) new
  row_same r new = λ i. row_of r (record { pages = get (grants i) (r.batch, r.account); granted = granted_in r.account (grants i); free = get w.free r.account }) new

  abbrev funds : World → GrantRow → List GrantRow → FreeRow
  funds x r new = free_after r (known_grant x r) new

  one_same : (r : GrantRow) (new : List GrantRow) → own_rows u (funds w r new ∷ []) ≡ own_rows u (funds v r new ∷ [])
  one_same r new =
      elim (bytes_eq u r.account) as (λ b. bytes_eq u r.account ≡ b → cond b (funds w r new ∷ []) [] ≡ cond b (funds v r new ∷ []) []) [
        | true ↦ λ is.
            let mine : u ≡ r.account = same_key u r.account is in
            let here : get w.free r.account ≡ get v.free r.account = subst (λ a. get w.free a ≡ get v.free a) mine free_same in
            ap (λ (o : Option ℤ). let f : FreeRow = record { account = r.account; free = unwrap_or o (pos 0) +ℤ pos (pages_to r.account new + r.pages) } in f ∷ []) here
        | false ↦ λ is. refl
      ] refl

  more_same : (free freed : List FreeRow) (r : GrantRow) (new : List GrantRow) → own_rows u free ≡ own_rows u freed → own_rows u (free ++ funds w r new ∷ []) ≡ own_rows u (freed ++ funds v r new ∷ [])
  more_same free freed r new e =
      filter-append (λ (a : FreeRow). bytes_eq u a.account) free (funds w r new ∷ [])
      ∙ (λ i. e i ++ one_same r new i)
      ∙ sym (filter-append (λ (a : FreeRow). bytes_eq u a.account) freed (funds v r new ∷ []))

  take_alike : (rows : List GrantRow) (row : ℕ) (new : List GrantRow) (free freed : List FreeRow) (n : ℕ) → own_rows u free ≡ own_rows u freed → AreTakenAlike u (take_rows rows (map (known_grant w) rows) row new free n) (take_rows rows (map (known_grant v) rows) row new freed n)
  take_alike [] row new free freed n e = (refl, e, refl)
  take_alike (r ∷ rows) row new free freed n e =
      subst (λ o. AreTakenAlike u (add_row (row_of r (known_grant w r) new) r (known_grant w r) row (take_rows rows (map (known_grant w) rows) (row + 1)) new free n) (add_row o r (known_grant v r) row (take_rows rows (map (known_grant v) rows) (row + 1)) new freed n)) (row_same r new)
      (elim (row_of r (known_grant w r) new) as (λ o. AreTakenAlike u (add_row o r (known_grant w r) row (take_rows rows (map (known_grant w) rows) (row + 1)) new free n) (add_row o r (known_grant v r) row (take_rows rows (map (known_grant v) rows) (row + 1)) new freed n)) [
        | repeated ↦ take_alike rows (row + 1) new free freed (n + 1) e
        | refused_row fault ↦ (refl, refl)
        | new_row ↦ take_alike rows (row + 1) (new ++ r ∷ []) (free ++ funds w r new ∷ []) (freed ++ funds v r new ∷ []) n (more_same free freed r new e)
      ])

  free_made : (free freed : List FreeRow) → own_rows u free ≡ own_rows u freed → get (fold put_free w.free free) u ≡ get (fold put_free v.free freed) u
  free_made free freed e =
      own_free u free w.free
      ∙ fold_own u free (get w.free u)
      ∙ (λ i. fold (free_then u) (free_same i) (e i))
      ∙ sym (fold_own u freed (get v.free u))
      ∙ sym (own_free u freed v.free)

  abbrev made : World → Taken → World
  made x t = made_on (grant_row t).change x

  made_alike : (s t : Taken) → AreTakenAlike u s t → (own u (made w s) ≡ own u (made v t)) × ((grant_row s).reply ≡ (grant_row t).reply)
  made_alike (all_taken new free n) (all_taken also freed m) alike =
      let free_is = free_made free freed alike.1 in
      (λ i. record (same i) { free = free_is i; grants = fold put_grant (grants i) (alike.0 i) }, λ i. Added (length (alike.0 i)) (alike.2 i))
  made_alike (all_taken new free n) (none_taken refusal row) alike = absurd alike
  made_alike (none_taken refusal row) (all_taken new free n) alike = absurd alike
  made_alike (none_taken refusal row) (none_taken other place) alike = (same, λ i. NotAdded (alike.0 i) (alike.1 i))

pub files_alike : (u : List ℕ) (w v : World) (now : ℕ) (file : List GrantRow) → own u w ≡ own u v → (own u (step w now (grant file)).world ≡ own u (step v now (grant file)).world) × ((step w now (grant file)).reply ≡ (step v now (grant file)).reply)
files_alike u w v now file same = made_alike u w v same (take_rows file (map (known_grant w) file) 1 [] [] 0) (take_rows file (map (known_grant v) file) 1 [] [] 0) (take_alike u w v same file 1 [] [] [] 0 refl)
