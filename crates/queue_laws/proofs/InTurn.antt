-- Two account files in one are taken one after the other.
use Rattle.std.proofs.Common.{◌≡◌, ℕ, ℤ, pos, ◌+ℤ◌, ◌+◌, List, [], ◌∷◌, ◌++◌, length, refl, ap, sym, ◌∙◌, arith, append_assoc, cond}
use Rattle.std.specs.Prelude.{Option, Some, None, bytes_eq, is_some, nat_lt, option_map, unwrap_or, ◌&&◌}
use Rattle.std.specs.FinMap.{get}
use Rattle.std.specs.Option.{option_or}
use Rattle.std.proofs.lemmas.Int.{ints}
use Rattle.std.proofs.lemmas.List.{append-nil, length-append}
use Rattle.std.proofs.lemmas.List.Folds.{find-append}
use Rattle.std.proofs.lemmas.List.Sums.{fold-append, sum_by-append}
use Rattle.queue_types.specs.Event.{grant}
use Rattle.queue_core.specs.Grants.{repeated, refused_row, new_row, Taken, all_taken, none_taken, take_rows, add_row, row_of, row_under, pages_under, pages_to, is_too_many, free_after}
use Rattle.queue_core.specs.World.{World, known_grant, granted, put_grant, put_free}
use Rattle.queue_core.specs.Machine.{step, grant_row}
use Rattle.queue_types.specs.declared.event.FreeRow.{FreeRow}
use Rattle.queue_types.specs.declared.event.GrantRefusal.{GrantRefusal}
use Rattle.queue_types.specs.declared.event.GrantRow.{GrantRow}
use Rattle.queue_types.specs.declared.event.Reply.TheVariants.{Added, NotAdded}
use Rattle.queue_laws.specs.Steps.{after, answer, unchanged, LeadsTo}
use Rattle.queue_laws.proofs.Filed.{AddUp, made, made_step, taken_of, no_added, added_parts}
use Rattle.queue_laws.proofs.Taking.{Comes, IsTaken, known, file_taken}
use Rattle.queue_laws.proofs.OneRow.{row_with}

-- ---- the rows of the one, then those of the other

abbrev and_then : Taken → (List GrantRow → List FreeRow → ℕ → Taken) → Taken
and_then (all_taken new free n) more = more new free n
and_then (none_taken refusal row) more = none_taken refusal row

no_further : (m : ℕ) → m ≡ m + 0
no_further m = omega arith

module _ (w : World) (rest : List GrantRow) where
  taken_on : (front : List GrantRow) (row : ℕ) (new : List GrantRow) (free : List FreeRow) (n : ℕ)
      → take_rows (front ++ rest) (known w (front ++ rest)) row new free n ≡ and_then (take_rows front (known w front) row new free n) (take_rows rest (known w rest) (row + length front))
  taken_on [] row new free n = ap (λ m. take_rows rest (known w rest) m new free n) (no_further row)
  taken_on (r ∷ front) row new free n =
      let k = known_grant w r in
      elim (row_of r k new) as (λ o. add_row o r k row (take_rows (front ++ rest) (known w (front ++ rest)) (row + 1)) new free n ≡ and_then (add_row o r k row (take_rows front (known w front) (row + 1)) new free n) (take_rows rest (known w rest) (row + length (r ∷ front)))) [
        | repeated ↦ taken_on front (row + 1) new free (n + 1) ∙ ap (λ m. and_then (take_rows front (known w front) (row + 1) new free (n + 1)) (take_rows rest (known w rest) m)) (further row front r)
        | refused_row refusal ↦ refl
        | new_row ↦ taken_on front (row + 1) (new ++ r ∷ []) (free ++ free_after r k new ∷ []) n ∙ ap (λ m. and_then (take_rows front (known w front) (row + 1) (new ++ r ∷ []) (free ++ free_after r k new ∷ []) n) (take_rows rest (known w rest) m)) (further row front r)
      ]
    where
      further : (row : ℕ) (front : List GrantRow) (r : GrantRow) → (row + 1) + length front ≡ row + length (r ∷ front)
      further row front r = omega arith

-- ---- after the rows of the first

-- behind these rows
abbrev shifted : ℕ → List GrantRow → List FreeRow → ℕ → Taken → Taken
shifted p new free n (all_taken more freed again) = all_taken (new ++ more) (free ++ freed) (n + again)
shifted p new free n (none_taken refusal row) = none_taken refusal (p + row)

either_pages : (o : Option ℕ) (x y : Option GrantRow) → cond (is_some o) o (option_map (λ (g : GrantRow). g.pages) (option_or x y)) ≡ cond (is_some (cond (is_some o) o (option_map (λ (g : GrantRow). g.pages) x))) (cond (is_some o) o (option_map (λ (g : GrantRow). g.pages) x)) (option_map (λ (g : GrantRow). g.pages) y)
either_pages None None y = refl
either_pages None (Some g) y = refl
either_pages (Some n) x y = refl

sum_of : (a b : ℤ) (m n p : ℕ) → a ≡ b +ℤ pos m → b +ℤ pos ((m + n) + p) ≡ a +ℤ pos (n + p)
sum_of a b m n p e = omega (arith, ints)

count_of : (a b m n p : ℕ) → a ≡ b + m → (b + (m + n)) + p ≡ (a + n) + p
count_of a b m n p e = omega arith

module _ (add_up : AddUp) (w : World) (new : List GrantRow) (free : List FreeRow) (n : ℕ) (taken : IsTaken w new free) where
  abbrev v : World
  v = made w (all_taken new free n)

  same_pages : (r : GrantRow) (more : List GrantRow) → pages_under r (known_grant w r) (new ++ more) ≡ pages_under r (known_grant v r) more
  same_pages r more =
      ap (λ x. cond (is_some (get w.grants (r.batch, r.account))) (get w.grants (r.batch, r.account)) (option_map (λ (g : GrantRow). g.pages) x)) (find-append (λ (g : GrantRow). bytes_eq g.batch r.batch && bytes_eq g.account r.account) new more)
      ∙ either_pages (get w.grants (r.batch, r.account)) (row_under r new) (row_under r more)
      ∙ ap (λ o. cond (is_some o) o (option_map (λ (g : GrantRow). g.pages) (row_under r more))) (sym (taken.pages r))

  pages_more : (a : List ℕ) (more : List GrantRow) → pages_to a (new ++ more) ≡ pages_to a new + pages_to a more
  pages_more a more = sum_by-append (λ (g : GrantRow). cond (bytes_eq g.account a) g.pages 0) new more

  same_many : (r : GrantRow) (more : List GrantRow) → is_too_many r (known_grant w r) (new ++ more) ≡ is_too_many r (known_grant v r) more
  same_many r more =
      ap (λ m. nat_lt 1000000000 (granted r.account w + m + r.pages)) (pages_more r.account more)
      ∙ ap (nat_lt 1000000000) (count_of (granted r.account v) (granted r.account w) (pages_to r.account new) (pages_to r.account more) r.pages (add_up r.account new w.grants taken.apart))

  same_row : (r : GrantRow) (more : List GrantRow) → row_of r (known_grant w r) (new ++ more) ≡ row_of r (known_grant v r) more
  same_row r more = λ i. row_with r.pages (same_pages r more i) (same_many r more i)

  same_funds : (r : GrantRow) (more : List GrantRow) → free_after r (known_grant w r) (new ++ more) ≡ free_after r (known_grant v r) more
  same_funds r more =
      let before : ℤ = unwrap_or (get w.free r.account) (pos 0) in
      let then : ℤ = unwrap_or (get v.free r.account) (pos 0) in
      let sum : before +ℤ pos (pages_to r.account (new ++ more) + r.pages) ≡ then +ℤ pos (pages_to r.account more + r.pages) =
      ap (λ m. before +ℤ pos (m + r.pages)) (pages_more r.account more)
      ∙ sum_of then before (pages_to r.account new) (pages_to r.account more) r.pages (taken.amounts r.account) in
      λ i. record { account = r.account; free = sum i }

  shifts : (p : ℕ) (rest : List GrantRow) (row : ℕ) (more : List GrantRow) (freed : List FreeRow) (again : ℕ)
      → take_rows rest (known w rest) (p + row) (new ++ more) (free ++ freed) (n + again) ≡ shifted p new free n (take_rows rest (known v rest) row more freed again)
  shifts p [] row more freed again = refl
  shifts p (r ∷ rest) row more freed again =
      ap (λ o. add_row o r (known_grant w r) (p + row) (take_rows rest (known w rest) ((p + row) + 1)) (new ++ more) (free ++ freed) (n + again)) (same_row r more)
      ∙ elim (row_of r (known_grant v r) more) as (λ o. add_row o r (known_grant w r) (p + row) (take_rows rest (known w rest) ((p + row) + 1)) (new ++ more) (free ++ freed) (n + again) ≡ shifted p new free n (add_row o r (known_grant v r) row (take_rows rest (known v rest) (row + 1)) more freed again)) [
        | repeated ↦ (λ i. take_rows rest (known w rest) (one_more p row i) (new ++ more) (free ++ freed) (one_more n again i)) ∙ shifts p rest (row + 1) more freed (again + 1)
        | refused_row refusal ↦ refl
        | new_row ↦
            (λ i. take_rows rest (known w rest) (one_more p row i) (append_assoc new more (r ∷ []) i) (with_funds r more freed i) (n + again))
            ∙ shifts p rest (row + 1) (more ++ r ∷ []) (freed ++ free_after r (known_grant v r) more ∷ []) again
      ]
    where
      one_more : (m n : ℕ) → (m + n) + 1 ≡ m + (n + 1)
      one_more m n = omega arith

      with_funds : (r : GrantRow) (more : List GrantRow) (freed : List FreeRow) → (free ++ freed) ++ free_after r (known_grant w r) (new ++ more) ∷ [] ≡ free ++ (freed ++ free_after r (known_grant v r) more ∷ [])
      with_funds r more freed = ap (λ f. (free ++ freed) ++ f ∷ []) (same_funds r more) ∙ append_assoc free freed (free_after r (known_grant v r) more ∷ [])

-- ---- the whole

abbrev joined : ℕ → Taken → Taken → Taken
joined p (all_taken new free n) t = shifted p new free n t
joined p (none_taken refusal row) t = none_taken refusal row

module _ (add_up : AddUp) (w : World) (front rest : List GrantRow) where
  joins : (t : Taken) → Comes (λ new free n. IsTaken w new free) t → and_then t (take_rows rest (known w rest) (1 + length front)) ≡ joined (length front) t (taken_of (made w t) rest)
  joins (none_taken refusal row) taken = refl
  joins (all_taken new free n) taken =
      (λ i. take_rows rest (known w rest) (swapped (length front) i) (sym (append-nil new) i) (sym (append-nil free) i) (no_further n i))
      ∙ shifts add_up w new free n taken (length front) rest 1 [] [] 0
    where
      swapped : (m : ℕ) → 1 + m ≡ m + 1
      swapped m = omega arith

  whole : taken_of w (front ++ rest) ≡ joined (length front) (taken_of w front) (taken_of (made w (taken_of w front)) rest)
  whole = taken_on w rest front 1 [] [] 0 ∙ joins (taken_of w front) (file_taken w front)

refused_parts : (refusal refusal_then : GrantRefusal) (m n : ℕ) → NotAdded refusal m ≡ NotAdded refusal_then n → (refusal ≡ refusal_then) × (m ≡ n)
refused_parts refusal refusal_then m n e = (cc, cc)

no_refused : (refusal : GrantRefusal) (row added repeats : ℕ) (A : Type 0) → Added added repeats ≡ NotAdded refusal row → A
no_refused refusal row added repeats A e = absurd (cc)

module _ (w : World) (p : ℕ) where
  front_refused : (t s : Taken) (refusal : GrantRefusal) (n : ℕ) → (grant_row t).reply ≡ NotAdded refusal n → made_step w (joined p t s) ≡ record { world = w; reply = NotAdded refusal n }
  front_refused (all_taken new free m) s refusal n e = no_refused refusal n (length new) m (made_step w (joined p (all_taken new free m) s) ≡ record { world = w; reply = NotAdded refusal n }) e
  front_refused (none_taken cause row) s refusal n e = λ i. record { world = w; reply = e i }

  rest_refused : (t s : Taken) (added repeats : ℕ) (refusal : GrantRefusal) (n : ℕ) → (grant_row t).reply ≡ Added added repeats → (grant_row s).reply ≡ NotAdded refusal n → made_step w (joined p t s) ≡ record { world = w; reply = NotAdded refusal (p + n) }
  rest_refused (none_taken cause row) s added repeats refusal n d e = no_added cause row added repeats (made_step w (none_taken cause row) ≡ record { world = w; reply = NotAdded refusal (p + n) }) d
  rest_refused (all_taken new free m) (all_taken more freed k) added repeats refusal n d e = no_refused refusal n (length more) k (made_step w (joined p (all_taken new free m) (all_taken more freed k)) ≡ record { world = w; reply = NotAdded refusal (p + n) }) e
  rest_refused (all_taken new free m) (none_taken cause row) added repeats refusal n d e =
      let parts = refused_parts cause refusal row n e in
      λ i. record { world = w; reply = NotAdded (parts.0 i) (p + parts.1 i) }

  both_taken : (t s : Taken) (added repeats added_then repeats_then : ℕ) → (grant_row t).reply ≡ Added added repeats → (grant_row s).reply ≡ Added added_then repeats_then
      → made_step w (joined p t s) ≡ record { world = made (made w t) s; reply = Added (added + added_then) (repeats + repeats_then) }
  both_taken (none_taken cause row) s added repeats added_then repeats_then d e = no_added cause row added repeats (made_step w (none_taken cause row) ≡ record { world = made w s; reply = Added (added + added_then) (repeats + repeats_then) }) d
  both_taken (all_taken new free m) (none_taken cause row) added repeats added_then repeats_then d e =
      no_added cause row added_then repeats_then (made_step w (none_taken cause (p + row)) ≡ record { world = made w (all_taken new free m); reply = Added (added + added_then) (repeats + repeats_then) }) e
  both_taken (all_taken new free m) (all_taken more freed k) added repeats added_then repeats_then d e =
      let one = added_parts (length new) m added repeats d in
      let two = added_parts (length more) k added_then repeats_then e in
      let count : length (new ++ more) ≡ added + added_then = length-append new more ∙ (λ i. one.0 i + two.0 i) in
      λ i. record {
        world = record w { free = fold-append put_free w.free free freed i; grants = fold-append put_grant w.grants new more i };
        reply = Added (count i) (one.1 i + two.1 i);
      }

module _ (add_up : AddUp) (w : World) (now : ℕ) (front rest : List GrantRow) where
  abbrev first : Taken
  first = taken_of w front

  abbrev second : Taken
  second = taken_of (made w first) rest

  in_turn : step w now (grant (front ++ rest)) ≡ made_step w (joined (length front) first second)
  in_turn = ap (made_step w) (whole add_up w front rest)

  pub refused_first : (refusal : GrantRefusal) (n : ℕ) → (step w now (grant front)).reply ≡ NotAdded refusal n → step w now (grant (front ++ rest)) ≡ record { world = w; reply = NotAdded refusal n }
  refused_first refusal n e = in_turn ∙ front_refused w (length front) first second refusal n e

  pub refused_then : (v : World) (added repeats : ℕ) (refusal : GrantRefusal) (n : ℕ) → LeadsTo w now (grant front) v (Added added repeats) → answer v now (grant rest) ≡ NotAdded refusal n → step w now (grant (front ++ rest)) ≡ unchanged w (NotAdded refusal (length front + n))
  refused_then v added repeats refusal n one two = in_turn ∙ rest_refused w (length front) first second added repeats refusal n one.1 (ap (λ v. answer v now (grant rest)) one.0 ∙ two)

  pub taken_then : (v x : World) (added repeats added_then repeats_then : ℕ) → LeadsTo w now (grant front) v (Added added repeats) → LeadsTo v now (grant rest) x (Added added_then repeats_then)
      → step w now (grant (front ++ rest)) ≡ record { world = x; reply = Added (added + added_then) (repeats + repeats_then) }
  taken_then v x added repeats added_then repeats_then one two =
      in_turn
      ∙ both_taken w (length front) first second added repeats added_then repeats_then one.1 (ap (λ v. answer v now (grant rest)) one.0 ∙ two.1)
      ∙ ap (λ x. unchanged x (Added (added + added_then) (repeats + repeats_then))) (ap (λ v. after v now (grant rest)) one.0 ∙ two.0)
