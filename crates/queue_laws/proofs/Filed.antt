-- What an account file makes of a queue.
use Rattle.std.proofs.Common.{◌≡◌, ℕ, ℤ, pos, ◌+ℤ◌, ◌+◌, List, [], ◌∷◌, map, length, refl, ap, ◌∙◌, arith, false, cond}
use Rattle.std.specs.Prelude.{Option, Some, None, fold, is_some, option_map, unwrap_or}
use Rattle.std.specs.List.{AllByRecursion as Each}
use Rattle.std.specs.FinMap.{FinMap, get}
use Rattle.std.proofs.lemmas.Int.{ints}
use Rattle.queue_types.specs.Event.{Event, ask, tell, grant, expire}
use Rattle.queue_core.specs.Grants.{Taken, all_taken, none_taken, take_rows, pages_to, row_under}
use Rattle.queue_core.specs.World.{World, AreNew, made_on, known_grant, put_grant, put_free, grant_cmp, granted, granted_in}
use Rattle.queue_core.specs.Machine.{Step, step, grant_row}
use Rattle.queue_core.specs.Runs.{Place, after, run}
use Rattle.queue_types.specs.declared.event.FreeRow.{FreeRow}
use Rattle.queue_types.specs.declared.event.GrantRefusal.{GrantRefusal}
use Rattle.queue_types.specs.declared.event.GrantRow.{GrantRow}
use Rattle.queue_types.specs.declared.event.Reply.TheVariants.{Added, NotAdded}
use Rattle.queue_laws.specs.Granting.{IsGranted, is_named, is_account_of}
use Rattle.queue_laws.proofs.Base.{each_map}
use Rattle.queue_laws.proofs.Books.{grants_kept}
use Rattle.queue_laws.proofs.Telling.{grants_left}
use Rattle.queue_laws.proofs.Taking.{Comes, one_comes, both_come, IsThere, IsTaken, file_taken, all_there, all_repeat, counted, other_grants, other_accounts}

abbrev pub taken_of : World → List GrantRow → Taken
taken_of w rows = take_rows rows (map (known_grant w) rows) 1 [] [] 0

abbrev pub made : World → Taken → World
made w t = made_on (grant_row t).change w

-- ---- what no file changes

left_made : (w : World) (t : Taken) → ((made w t).jobs ≡ w.jobs) × ((made w t).next ≡ w.next) × ((made w t).reports ≡ w.reports)
left_made w (all_taken new free n) = (refl, refl, refl)
left_made w (none_taken refusal row) = (refl, refl, refl)

pub jobs_left : (w : World) (now : ℕ) (file : List GrantRow) → (step w now (grant file)).world.jobs ≡ w.jobs
jobs_left w now file = (left_made w (taken_of w file)).0

pub next_left : (w : World) (now : ℕ) (file : List GrantRow) → (step w now (grant file)).world.next ≡ w.next
next_left w now file = (left_made w (taken_of w file)).1

pub reports_left : (w : World) (now : ℕ) (file : List GrantRow) → (step w now (grant file)).world.reports ≡ w.reports
reports_left w now file = (left_made w (taken_of w file)).2

-- ---- a fact of an accepted file is one of the queue after it

grants_as : (w : World) (t : Taken) (P : FinMap grant_cmp ℕ → Type 0) → P w.grants → Comes (λ new free n. P (fold put_grant w.grants new)) t → P (made w t).grants
grants_as w (all_taken new free n) P before then = then
grants_as w (none_taken refusal row) P before then = before

free_as : (w : World) (t : Taken) (a : List ℕ) → Comes (λ new free n. get (fold put_free w.free free) a ≡ get w.free a) t → get (made w t).free a ≡ get w.free a
free_as w (all_taken new free n) a then = then
free_as w (none_taken refusal row) a then = refl

pub grants_but : (w : World) (now : ℕ) (file : List GrantRow) (b a : List ℕ) → is_named b a file ≡ false → get (step w now (grant file)).world.grants (b, a) ≡ get w.grants (b, a)
grants_but w now file b a absent = grants_as w (taken_of w file) (λ m. get m (b, a) ≡ get w.grants (b, a)) refl (other_grants w file b a absent)

pub accounts_but : (w : World) (now : ℕ) (file : List GrantRow) (a : List ℕ) → is_account_of a file ≡ false → get (step w now (grant file)).world.free a ≡ get w.free a
accounts_but w now file a absent = free_as w (taken_of w file) a (other_accounts w file a absent)

-- ---- what was granted stays

still : (w : World) (g : GrantRow) (new : List GrantRow) (free : List FreeRow) → IsTaken w new free → get w.grants (g.batch, g.account) ≡ Some g.pages → get (fold put_grant w.grants new) (g.batch, g.account) ≡ Some g.pages
still w g new free taken there = taken.pages g ∙ ap (λ o. cond (is_some o) o (option_map (λ (g : GrantRow). g.pages) (row_under g new))) there

pub row_stays : (w : World) (now : ℕ) (file : List GrantRow) (g : GrantRow) → IsGranted w.grants g → IsGranted (step w now (grant file)).world.grants g
row_stays w now file g there = grants_as w (taken_of w file) (λ m. IsGranted m g) there (one_comes _ _ (taken_of w file) (λ new free n taken. still w g new free taken there) (file_taken w file))

pub grants_stay : (w : World) (now : ℕ) (file : List GrantRow) (b a : List ℕ) (pages : ℕ) → get w.grants (b, a) ≡ Some pages → get (step w now (grant file)).world.grants (b, a) ≡ Some pages
grants_stay w now file b a pages there = row_stays w now file (record { batch = b; account = a; pages = pages }) there

-- ---- each row is granted

pub no_added : (refusal : GrantRefusal) (row added repeats : ℕ) (A : Type 0) → NotAdded refusal row ≡ Added added repeats → A
no_added refusal row added repeats A e = absurd (cc)

accepted_as : (w : World) (t : Taken) (P : World → Type 0) (added repeats : ℕ) → (grant_row t).reply ≡ Added added repeats → Comes (λ new free n. P (made w (all_taken new free n))) t → P (made w t)
accepted_as w (all_taken new free n) P added repeats e then = then
accepted_as w (none_taken refusal row) P added repeats e then = no_added refusal row added repeats (P w) e

each_granted : (w : World) (rows : List GrantRow) (new : List GrantRow) (free : List FreeRow) → IsTaken w new free → Each (λ g. IsThere w g new) rows → Each (IsGranted (fold put_grant w.grants new)) rows
each_granted w rows new free taken each = each_map (λ g. IsThere w g new) (IsGranted (fold put_grant w.grants new)) rows (λ g there. taken.pages g ∙ there) each

pub file_granted : (w : World) (now : ℕ) (file : List GrantRow) (added repeats : ℕ) → (step w now (grant file)).reply ≡ Added added repeats → Each (IsGranted (step w now (grant file)).world.grants) file
file_granted w now file added repeats e = accepted_as w (taken_of w file) (λ v. Each (IsGranted v.grants) file) added repeats e
    (both_come (λ new free n. IsTaken w new free) (λ new free n. Each (λ g. IsThere w g new) file) (λ new free n. Each (IsGranted (fold put_grant w.grants new)) file) (taken_of w file) (λ new free n taken each. each_granted w file new free taken each) (file_taken w file) (all_there w file 1 [] [] 0))

-- ---- each row counts once

pub added_parts : (m n added repeats : ℕ) → Added m n ≡ Added added repeats → (m ≡ added) × (n ≡ repeats)
added_parts m n added repeats e = (cc, cc)

count_as : (t : Taken) (k added repeats : ℕ) → (grant_row t).reply ≡ Added added repeats → Comes (λ new free n. length new + n ≡ k) t → added + repeats ≡ k
count_as (all_taken new free n) k added repeats e then = let parts = added_parts (length new) n added repeats e in let a : length new ≡ added = parts.0 in let b : n ≡ repeats = parts.1 in omega arith
count_as (none_taken refusal row) k added repeats e then = no_added refusal row added repeats (added + repeats ≡ k) e

pub file_counted : (w : World) (now : ℕ) (file : List GrantRow) (added repeats : ℕ) → (step w now (grant file)).reply ≡ Added added repeats → added + repeats ≡ length file
file_counted w now file added repeats e = count_as (taken_of w file) (length file) added repeats e (one_comes _ _ (taken_of w file) (λ new free n is. omega arith) (counted w file 1 [] [] 0))

abbrev pub AddUp : Type 0
AddUp = (a : List ℕ) (rows : List GrantRow) (m : FinMap grant_cmp ℕ) → AreNew m rows → granted_in a (fold put_grant m rows) ≡ granted_in a m + pages_to a rows

moves_alike : (f g : ℤ) (m n p : ℕ) → g ≡ f +ℤ pos p → n ≡ m + p → g +ℤ pos m ≡ f +ℤ pos n
moves_alike f g m n p e h = omega (arith, ints)

sum_as : AddUp → (w : World) (t : Taken) (a : List ℕ) → Comes (λ new free n. IsTaken w new free) t → unwrap_or (get (made w t).free a) (pos 0) +ℤ pos (granted a w) ≡ unwrap_or (get w.free a) (pos 0) +ℤ pos (granted a (made w t))
sum_as add_up w (all_taken new free n) a taken = moves_alike (unwrap_or (get w.free a) (pos 0)) (unwrap_or (get (fold put_free w.free free) a) (pos 0)) (granted_in a w.grants) (granted_in a (fold put_grant w.grants new)) (pages_to a new) (taken.amounts a) (add_up a new w.grants taken.apart)
sum_as add_up w (none_taken refusal row) a taken = refl

pub file_free : AddUp → (w : World) (now : ℕ) (file : List GrantRow) (a : List ℕ) → unwrap_or (get (step w now (grant file)).world.free a) (pos 0) +ℤ pos (granted a w) ≡ unwrap_or (get w.free a) (pos 0) +ℤ pos (granted a (step w now (grant file)).world)
file_free add_up w now file a = sum_as add_up w (taken_of w file) a (file_taken w file)

-- ---- a file that comes again

pub granted_after : (w : World) (now : ℕ) (e : Option Event) (g : GrantRow) → IsGranted w.grants g → IsGranted (after w now e).grants g
granted_after w now None g there = there
granted_after w now (Some (ask caller call)) g there = ap (λ m. get m (g.batch, g.account)) (grants_kept w now caller call) ∙ there
granted_after w now (Some (tell r)) g there = ap (λ m. get m (g.batch, g.account)) (grants_left w now r) ∙ there
granted_after w now (Some (grant rows)) g there = row_stays w now rows g there
granted_after w now (Some expire) g there = there

granted_along : (ps : List Place) (w : World) (file : List GrantRow) → Each (IsGranted w.grants) file → Each (IsGranted (run w ps).grants) file
granted_along [] w file each = each
granted_along (p ∷ ps) w file each = granted_along ps (after w p.now p.event) file (each_map (IsGranted w.grants) (IsGranted (after w p.now p.event).grants) file (granted_after w p.now p.event) each)

abbrev pub made_step : World → Taken → Step
made_step w t = record { world = made w t; reply = (grant_row t).reply }

pub all_repeats : (w : World) (later : ℕ) (file : List GrantRow) → Each (IsGranted w.grants) file → step w later (grant file) ≡ record { world = w; reply = Added 0 (length file) }
all_repeats w later file each = ap (made_step w) (all_repeat w file 1 0 each ∙ ap (all_taken [] []) (plain (length file)))
  where
    plain : (n : ℕ) → 0 + n ≡ n
    plain n = omega arith

pub file_again : (w : World) (now later : ℕ) (file : List GrantRow) (ps : List Place) (added repeats : ℕ) → (step w now (grant file)).reply ≡ Added added repeats → step (run (step w now (grant file)).world ps) later (grant file) ≡ record { world = run (step w now (grant file)).world ps; reply = Added 0 (length file) }
file_again w now later file ps added repeats e = let v : World = (step w now (grant file)).world in all_repeats (run v ps) later file (granted_along ps v file (file_granted w now file added repeats e))
