use Rattle.queue_scenes.proofs.Known.{known_is}
use Rattle.queue_tables.proofs.Telling.{fails_behind, told, told_then}
use Rattle.queue_scenes.proofs.grants.known.Goals as goal

pub returns-in_err-found-clause-reads : goal.returns-in_err-found-clause-reads
returns-in_err-found-clause-reads g c = fails_behind c.pages_under.ensures.reads.leaves c.in_err-found.ensures.reads _ c.from_residual-in_err-found.ensures.1

pub returns-clause-reads : goal.returns-clause-reads
returns-clause-reads g c =
    known_is c.args.row.now c.as_str-batch.result.now c.as_str-account.result.now c.as_str-batch.ensures c.as_str-account.ensures c.in_ok-pages.pages c.in_ok-found.found
    (told_then (told c.in_ok-pages.ensures.reads c.in_ok-pages.ensures.live) (told c.in_ok-found.ensures.reads c.in_ok-found.ensures.live))
    c.in_ok-found.ensures.live c.known_of.result c.known_of.ensures.pages c.known_of.ensures.free c.known_of.ensures.none c.known_of.ensures.sum c.known_of.ensures.damaged
