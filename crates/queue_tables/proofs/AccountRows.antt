-- The row of an account, and the rows of its grants.
use Rattle.std.proofs.Common.{◌≡◌, ℕ, ℤ, pos, List, [], ◌∷◌, map, Option, None, Some, refl, sym, ap, subst, ◌∙◌}
use Rattle.std.specs.FinMap.{get}
use Rattle.std.specs.List.Sorted.{IsPermutation}
use Rattle.sqlite.specs.declared.types.Value.TheVariants.{Int, Text as Words}
use Rattle.sqlite.specs.Order.{Row, column}
use Rattle.sqlite.specs.State.{State, Shown}
use Rattle.queue_core.specs.Sound.{reserved, printed}
use Rattle.queue_core.specs.World.{World}
use Rattle.queue_tables.specs.Content.{Holds, content_of}
use Rattle.queue_tables.specs.Steps.{is_named}
use Rattle.queue_tables.specs.Values.{account_view}
use Rattle.queue_tables.proofs.Frees.{account_in, found_account, reserved_in, printed_in}
use Rattle.queue_tables.proofs.Showing.{shows_all}
use Rattle.queue_tables.specs.declared.account_pages.AccountPages.{AccountPages}
use Rattle.queue_tables.specs.Accounts.{pages_of}
use Rattle.queue_tables.proofs.Firsts.{rows_for, exactly}
use Rattle.queue_tables.proofs.Statements.{select_account, select_account_is}

-- ---- the account

abbrev account_out : Row → Row
account_out v = column v 1 ∷ column v 2 ∷ column v 3 ∷ []

-- what its row shows
abbrev pub pages_values : World → List ℕ → ℤ → Row
pages_values w a free = Int free ∷ Int (pos (reserved a w)) ∷ Int (pos (printed a w)) ∷ []

accounts_for : (w : World) (a : List ℕ) (o : Option ℤ) → map account_out (found_account a (reserved_in w) (printed_in w) o) ≡ rows_for (pages_values w a) o
accounts_for w a None = refl
accounts_for w a (Some free) = refl

pub reads_account : (old new : State) (a : List ℕ) (found : List Row) (w : World) → Holds (content_of w) old → Shown select_account.text (Words a ∷ []) old new found → found ≡ rows_for (pages_values w a) (get w.free a)
reads_account old new a found w has h =
    let p = shows_all select_account select_account_is
    old new (Words a ∷ []) account_view (is_named a) account_out (content_of w).accounts found has.schema (λ r. refl) (λ r. refl) has.rows.accounts h in
    let only = ap (map account_out) (account_in w a) ∙ accounts_for w a (get w.free a) in
    exactly (pages_values w a) (get w.free a) found (subst (λ (k : List Row). IsPermutation k found) only p)

-- what was read of it
pub pages_are : (w : World) (a : List ℕ) (free : ℤ) (row : Row) (p : AccountPages) → row ≡ pages_values w a free → column row 0 ≡ Int p.free → column row 1 ≡ Int (pos p.reserved) → column row 2 ≡ Int (pos p.printed) → p ≡ pages_of w a free
pages_are w a free row p is first second third =
    let f : Int p.free ≡ Int free = sym first ∙ ap (λ (v : Row). column v 0) is in
    let r : Int (pos p.reserved) ≡ Int (pos (reserved a w)) = sym second ∙ ap (λ (v : Row). column v 1) is in
    let q : Int (pos p.printed) ≡ Int (pos (printed a w)) = sym third ∙ ap (λ (v : Row). column v 2) is in
    let ff : p.free ≡ free = cc in
    let rr : p.reserved ≡ reserved a w = cc in
    let qq : p.printed ≡ printed a w = cc in
    λ x. record { free = ff x; reserved = rr x; printed = qq x }
