-- What the office is told of an account.
use Rattle.std.proofs.Common.{◌≡◌, ℕ, ℤ, pos, ◌+ℤ◌, ◌+◌, List, [], ◌∷◌, refl, ap, sym, ◌∙◌, subst, arith, Bool, true, false, cond}
use Rattle.std.specs.Prelude.{Option, Some, None, IsSome, IfSome, is_some, ◌↔◌, bytes_eq, nat_lt, filter, option_map, sum_by, count_by, ◌&&◌}
use Rattle.std.specs.FinMap.{get}
use Rattle.std.proofs.lemmas.Bool.Decides.{nat_tests}
use Rattle.std.proofs.lemmas.List.Sums.{sum_by-cons}
use Rattle.std.proofs.lemmas.Bool.{or_parts}
use Rattle.queue_types.specs.Job.{owed}
use Rattle.queue_core.specs.Order.{AreRising}
use Rattle.queue_core.specs.Shown.{is_charged, sheet_jobs, sheet_of}
use Rattle.queue_core.specs.Sound.{IsSound, reserved, printed}
use Rattle.queue_core.specs.World.{World, rows, granted}
use Rattle.queue_types.specs.declared.job.Job.{Job}
use Rattle.queue_types.specs.declared.sheet.AccountSheet.{AccountSheet}
use Rattle.queue_laws.specs.Jobs.{is_owned_by, takes_pages}
use Rattle.queue_laws.proofs.InOrder.{count_filter}
use Rattle.queue_laws.proofs.Standing.{chosen_rise}

-- ---- lines add up

no_pages : (n : ℕ) → nat_lt 0 n ≡ false → n ≡ 0
no_pages n e = grind (arith, nat_tests)

-- a job of which a sheet does not tell has none of these pages
abbrev AreLeftOut : (Job → ℕ) → Type 0
AreLeftOut pages = (j : Job) → is_charged j ≡ false → pages j ≡ 0

owed_left_out : AreLeftOut owed
owed_left_out j e = no_pages (owed j) (or_parts (nat_lt 0 (owed j)) (nat_lt 0 j.count) e).0

count_left_out : AreLeftOut (λ j. j.count)
count_left_out j e = no_pages j.count (or_parts (nat_lt 0 (owed j)) (nat_lt 0 j.count) e).1

lines_add_up : (a : List ℕ) (pages : Job → ℕ) → AreLeftOut pages → (js : List Job) → sum_by (λ j. cond (bytes_eq j.owner a) (pages j) 0) js ≡ sum_by pages (filter (λ j. bytes_eq j.owner a && is_charged j) js)
lines_add_up a pages left_out [] = refl
lines_add_up a pages left_out (j ∷ js) =
    let rest : List Job = filter (λ j. bytes_eq j.owner a && is_charged j) js in
    let more : sum_by (λ j. cond (bytes_eq j.owner a) (pages j) 0) js ≡ sum_by pages rest = lines_add_up a pages left_out js in
    sum_by-cons (λ j. cond (bytes_eq j.owner a) (pages j) 0) j js
    ∙ ap (λ n. cond (bytes_eq j.owner a) (pages j) 0 + n) more
    ∙ elim (bytes_eq j.owner a) as (λ b. cond b (pages j) 0 + sum_by pages rest ≡ sum_by pages (cond (b && is_charged j) (j ∷ rest) rest)) [
      | true ↦ elim (is_charged j) as (λ t. is_charged j ≡ t → pages j + sum_by pages rest ≡ sum_by pages (cond t (j ∷ rest) rest)) [
        | true ↦ λ is. sym (sum_by-cons pages j rest)
        | false ↦ λ is. omega (arith, left_out j is)
      ] refl
      | false ↦ omega arith
    ]

-- ---- sheets

-- the sheet of an account with so many free pages
abbrev sheet : World → List ℕ → ℤ → AccountSheet
sheet w a free = record { account = a; granted = granted a w; free = free; reserved = reserved a w; printed = printed a w; jobs = sheet_jobs w a }

of_some : (P : AccountSheet → Type 0) (w : World) (a : List ℕ) (s : AccountSheet) (o : Option ℤ) → ((free : ℤ) → o ≡ Some free → P (sheet w a free)) → option_map (sheet w a) o ≡ Some s → P s
of_some P w a s None holds e = absurd (cc)
of_some P w a s (Some free) holds e = let is : sheet w a free ≡ s = cc in subst P is (holds free refl)

-- what holds of the sheet of an account that is there
of_sheet : (P : AccountSheet → Type 0) (w : World) (a : List ℕ) (s : AccountSheet) → ((free : ℤ) → get w.free a ≡ Some free → P (sheet w a free)) → sheet_of w a ≡ Some s → P s
unfolding sheet_of
of_sheet P w a s holds told = of_some P w a s (get w.free a) holds told

some_map : (w : World) (a : List ℕ) (o : Option ℤ) → is_some (option_map (sheet w a) o) ≡ is_some o
some_map w a None = refl
some_map w a (Some free) = refl

module _ (w : World) (a : List ℕ) where
  pub sheet_there : IsSound w → IsSome (sheet_of w a) ↔ ((batch : List ℕ) × IsSome (get w.grants (batch, a)))
  unfolding sheet_of
  sheet_there sound = (λ h. (sound.accounts a).0 (sym (some_map w a (get w.free a)) ∙ h), λ h. some_map w a (get w.free a) ∙ (sound.accounts a).1 h)

  module _ (s : AccountSheet) where
    pub sheet_amounts : sheet_of w a ≡ Some s → (s.account ≡ a) × (s.granted ≡ granted a w) × (get w.free a ≡ Some s.free)
    sheet_amounts = of_sheet (λ s. (s.account ≡ a) × (s.granted ≡ granted a w) × (get w.free a ≡ Some s.free)) w a s (λ free there. (refl, refl, there))

    pub sheet_balance : IsSound w → sheet_of w a ≡ Some s → pos s.granted ≡ s.free +ℤ pos (s.reserved + s.printed)
    sheet_balance sound = of_sheet (λ s. pos s.granted ≡ s.free +ℤ pos (s.reserved + s.printed)) w a s (λ free there. subst (λ o. IfSome o (λ free. pos (granted a w) ≡ free +ℤ pos (reserved a w + printed a w))) there (sound.balances a))

    pub sheet_reserved : sheet_of w a ≡ Some s → s.reserved ≡ sum_by owed s.jobs
    sheet_reserved = of_sheet (λ s. s.reserved ≡ sum_by owed s.jobs) w a s (λ free there. lines_add_up a owed owed_left_out (rows w))

    pub sheet_printed : sheet_of w a ≡ Some s → s.printed ≡ sum_by (λ j. j.count) s.jobs
    sheet_printed = of_sheet (λ s. s.printed ≡ sum_by (λ j. j.count) s.jobs) w a s (λ free there. lines_add_up a (λ j. j.count) count_left_out (rows w))

    pub sheet_each : (p : Job → Bool) → sheet_of w a ≡ Some s → count_by p s.jobs ≡ count_by (λ j. is_owned_by a j && takes_pages j && p j) (rows w)
    sheet_each p = of_sheet (λ s. count_by p s.jobs ≡ count_by (λ j. is_owned_by a j && takes_pages j && p j) (rows w)) w a s (λ free there. count_filter p (λ j. bytes_eq j.owner a && is_charged j) (rows w))

    pub sheet_in_order : IsSound w → sheet_of w a ≡ Some s → AreRising s.jobs
    sheet_in_order sound = of_sheet (λ s. AreRising s.jobs) w a s (λ free there. chosen_rise w sound (λ j. bytes_eq j.owner a && is_charged j))
