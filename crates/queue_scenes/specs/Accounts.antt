-- The pages of an account, as its row shows them.
use Rattle.std.specs.Prelude.{◌≡◌, ℕ, pos, ◌+ℤ◌, ◌+◌, ◌^◌, ◌<◌, ◌≤◌}
use Rattle.queue_core.specs.Limits.{IsAmount}
use Rattle.queue_tables.specs.declared.account_pages.AccountPages.{AccountPages}

-- they are within their limits, and together they are what may have been granted
abbrev pub FitAccount : AccountPages → Type 0
FitAccount p = (n : ℕ) × (n ≤ 1000000000) × IsAmount p.free × (p.reserved + p.printed < 2 ^ 64) × (pos n ≡ p.free +ℤ pos (p.reserved + p.printed))
