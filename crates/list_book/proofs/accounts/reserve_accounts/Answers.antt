use Rattle.std.proofs.Common.{ap}
use Rattle.std.specs.Prelude.{option_map}
use Rattle.list_book.proofs.Keyed.{same_free}
use Rattle.list_book.proofs.accounts.reserve_accounts.Goals as goal

pub returns-clause-free : goal.returns-clause-free
returns-clause-free c = same_free _ _ (λ q. ap (option_map (λ y. y.free)) (c.in_ok-reserve.ensures.entries.2 q))
