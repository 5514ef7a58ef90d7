-- The pages of an account that is there.
use Rattle.std.specs.Prelude.{ℕ, ℤ, List}
use Rattle.queue_core.specs.Sound.{reserved, printed}
use Rattle.queue_core.specs.World.{World}
use Rattle.queue_tables.specs.declared.account_pages.AccountPages.{AccountPages}

abbrev pub pages_of : World → List ℕ → ℤ → AccountPages
pages_of w a free = record { free = free; reserved = reserved a w; printed = printed a w }
