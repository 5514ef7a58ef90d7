-- The sheet of an account.
use Rattle.std.proofs.Common.{◌≡◌, ℕ, ℤ, pos, ◌+ℤ◌, ◌+◌, List, Option, None, Some, IfSome, option_map, refl, ap, ◌∙◌, arith}
use Rattle.std.specs.FinMap.{get}
use Rattle.std.proofs.lemmas.Int.{ints}
use Rattle.queue_core.specs.Shown.{sheet_of, sheet_jobs}
use Rattle.queue_core.specs.Sound.{IsSound, reserved, printed}
use Rattle.queue_core.specs.World.{World, granted}
use Rattle.queue_types.specs.declared.sheet.AccountSheet.{AccountSheet}
use Rattle.queue_tables.specs.Accounts.{pages_of}
use Rattle.queue_tables.specs.declared.account_pages.AccountPages.{AccountPages}

abbrev sheet_with : World → List ℕ → AccountPages → AccountSheet
sheet_with w a p = record { account = a; granted = granted a w; free = p.free; reserved = p.reserved; printed = p.printed; jobs = sheet_jobs w a }

-- in a sound world the pages granted to an account are those that are free, reserved and printed
pub granted_of : (w : World) (a : List ℕ) (p : AccountPages) (n : ℕ) → IsSound w → Some p ≡ option_map (pages_of w a) (get w.free a) → pos n ≡ p.free +ℤ pos (p.reserved + p.printed) → n ≡ granted a w
granted_of w a p n sound found is = at (get w.free a) found (sound.balances a)
  where
    at : (o : Option ℤ) → Some p ≡ option_map (pages_of w a) o → IfSome o (λ free. pos (granted a w) ≡ free +ℤ pos (reserved a w + printed a w)) → n ≡ granted a w
    at None e balance = absurd cc
    at (Some free) e balance =
        let same : p ≡ pages_of w a free = cc in
        let f : p.free ≡ free = ap (λ (x : AccountPages). x.free) same in
        let r : p.reserved ≡ reserved a w = ap (λ (x : AccountPages). x.reserved) same in
        let q : p.printed ≡ printed a w = ap (λ (x : AccountPages). x.printed) same in
        omega (arith, ints, is, balance, f, r, q)

pub no_sheet : (w : World) (a : List ℕ) → None ≡ option_map (pages_of w a) (get w.free a) → None ≡ sheet_of w a
unfolding sheet_of
no_sheet w a is = at (get w.free a) is
  where
    at : (o : Option ℤ) → None ≡ option_map (pages_of w a) o → None ≡ option_map (λ (free : ℤ). sheet_with w a (pages_of w a free)) o
    at None e = refl
    at (Some free) e = absurd cc

pub whole_sheet : (w : World) (a : List ℕ) (p : AccountPages) (s : AccountSheet) → Some p ≡ option_map (pages_of w a) (get w.free a) → s.account ≡ a → s.granted ≡ granted a w → s.free ≡ p.free → s.reserved ≡ p.reserved → s.printed ≡ p.printed
    → s.jobs ≡ sheet_jobs w a → Some s ≡ sheet_of w a
unfolding sheet_of
whole_sheet w a p s found n t f r q j = at (get w.free a) found
  where
    at : (o : Option ℤ) → Some p ≡ option_map (pages_of w a) o → Some s ≡ option_map (λ (free : ℤ). sheet_with w a (pages_of w a free)) o
    at None e = absurd cc
    at (Some free) e =
        let first : s ≡ sheet_with w a p = λ x. record { account = n x; granted = t x; free = f x; reserved = r x; printed = q x; jobs = j x } in
        let same : p ≡ pages_of w a free = cc in
        ap (λ (x : AccountSheet). Some x) (first ∙ ap (sheet_with w a) same)
