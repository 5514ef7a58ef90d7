-- The rows of grants.
use Rattle.std.specs.Prelude.{Bool}
use Rattle.std.specs.Ordering.{is_lt}
pub use Rattle.queue_core.specs.Limits.{IsGrantRow}
use Rattle.queue_core.specs.World.{grant_cmp}
use Rattle.queue_types.specs.declared.event.GrantRow.{GrantRow}

-- by batch, then by account
abbrev pub grant_before : GrantRow → GrantRow → Bool
grant_before a b = is_lt (grant_cmp (a.batch, a.account) (b.batch, b.account))
