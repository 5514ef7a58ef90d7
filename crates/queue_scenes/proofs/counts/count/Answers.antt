use Rattle.std.proofs.Common.{rules}
use Rattle.sqlite.specs.Held.{state}
use Rattle.sqlite.specs.Values.{bound}
use Rattle.queue_tables.proofs.Telling.{tells, told_by}
use Rattle.queue_tables.proofs.Leaving.{shown_still}
use Rattle.queue_scenes.proofs.counts.count.Goals as goal

pub returns-clause-reads : goal.returns-clause-reads
returns-clause-reads g c number counts =
    tells (told_by c.select.ensures.leaves c.in_ok-found.ensures.live c.in_ok-found.ensures.shown (λ w sound has h.
    counts.shows w sound has c.in_ok-found.found.items (shown_still c.args.sql.now (bound c.args.params.now) _ (state g.S.Store c.select.new.conn) c.in_ok-found.found.items c.requires.query h)))
    (λ w sound rows. search (rules, rows))
