-- What a file of one row does.
use Rattle.std.proofs.Common.{◌≡◌, ◌≢◌, ℕ, ◌<◌, ◌≤◌, ◌+◌, [], ◌∷◌, ap, ◌∙◌, arith, Bool, true, false, cond}
use Rattle.std.specs.Prelude.{Option, Some, None, nat_eq, nat_lt, is_some}
use Rattle.std.specs.FinMap.{get}
use Rattle.std.specs.Option.{option_map_or}
use Rattle.std.proofs.lemmas.Bool.Decides.{nat_tests}
use Rattle.queue_types.specs.Event.{grant}
use Rattle.queue_core.specs.Grants.{Row, repeated, refused_row, new_row, take_rows, add_row, is_too_many}
use Rattle.queue_core.specs.World.{World, known_grant, granted}
use Rattle.queue_core.specs.Machine.{Step, step}
use Rattle.queue_types.specs.declared.event.GrantRefusal.TheVariants.{Conflict, TooMany}
use Rattle.queue_types.specs.declared.event.GrantRow.{GrantRow}
use Rattle.queue_types.specs.declared.event.Reply.TheVariants.{Added, NotAdded}
use Rattle.queue_laws.proofs.Filed.{made_step}

-- what becomes of a row of so many pages, beside those that stand under its batch and account
abbrev pub row_with : ℕ → Option ℕ → Bool → Row
row_with pages o too = cond (option_map_or (λ n. nat_eq n pages) o false) repeated (cond (is_some o) (refused_row Conflict) (cond too (refused_row TooMany) new_row))

unequal : (m n : ℕ) → m ≢ n → nat_eq m n ≡ false
unequal m n apart = grind (arith, nat_tests)

past : (m p : ℕ) → 1000000000 < m + p → nat_lt 1000000000 (m + 0 + p) ≡ true
past m p h = grind (arith, nat_tests)

within : (m p : ℕ) → m + p ≤ 1000000000 → nat_lt 1000000000 (m + 0 + p) ≡ false
within m p h = grind (arith, nat_tests)

module _ (w : World) (now : ℕ) (g : GrantRow) where
  abbrev by_row : Row → Step
  by_row o = made_step w (add_row o g (known_grant w g) 1 (take_rows [] [] 2) [] [] 0)

  abbrev too : Bool
  too = is_too_many g (known_grant w g) []

  pub other_pages : (pages : ℕ) → get w.grants (g.batch, g.account) ≡ Some pages → pages ≢ g.pages → step w now (grant (g ∷ [])) ≡ record { world = w; reply = NotAdded Conflict 1 }
  other_pages pages there apart =
      ap (λ o. by_row (row_with g.pages (cond (is_some o) o None) too)) there
      ∙ ap (λ b. by_row (cond b repeated (refused_row Conflict))) (unequal pages g.pages apart)

  pub too_many_pages : get w.grants (g.batch, g.account) ≡ None → 1000000000 < granted g.account w + g.pages → step w now (grant (g ∷ [])) ≡ record { world = w; reply = NotAdded TooMany 1 }
  too_many_pages none more =
      ap (λ o. by_row (row_with g.pages (cond (is_some o) o None) too)) none
      ∙ ap (λ b. by_row (cond b (refused_row TooMany) new_row)) (past (granted g.account w) g.pages more)

  pub new_pages : get w.grants (g.batch, g.account) ≡ None → granted g.account w + g.pages ≤ 1000000000 → (step w now (grant (g ∷ []))).reply ≡ Added 1 0
  new_pages none fits =
      ap (λ o. (by_row (row_with g.pages (cond (is_some o) o None) too)).reply) none
      ∙ ap (λ b. (by_row (cond b (refused_row TooMany) new_row)).reply) (within (granted g.account w) g.pages fits)
