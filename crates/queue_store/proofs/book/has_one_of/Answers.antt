use Rattle.std.proofs.Common.{rules, tests, Bor, List, ℕ}
use Rattle.std.proofs.lemmas.Iterator.{YieldsList-from_slice}
use Rattle.std.proofs.lemmas.Iterator.Search.{any_from_yields_List}
use Rattle.sqlite_catalog.specs.Change.{is_used}
use Rattle.queue_store.proofs.book.has_one_of.Goals as goal

pub returns : goal.returns
returns c = any_from_yields_List (λ (name : Bor (List ℕ)). is_used c.args.schema.now name.now) _ _ _ c.any.ensures.ran (YieldsList-from_slice c.args.names.now cc) (λ x b q k. search (rules, tests))
