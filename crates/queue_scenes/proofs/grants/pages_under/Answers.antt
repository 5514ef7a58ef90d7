use Rattle.std.proofs.Common.{◌≡◌, Some, ap, sym, rules, ◌∙◌, ◌<◌, length, subst, arith}
use Rattle.std.specs.FinMap.{get}
use Rattle.queue_scenes.proofs.Found.{grant_shown, grant_pages_row}
use Rattle.queue_scenes.proofs.Lookup.{none_found, some_found}
use Rattle.queue_tables.proofs.Telling.{refuses, tells, told_by}
use Rattle.queue_scenes.proofs.Statements.{select_grant_is}
use Rattle.sqlite.specs.Order.{Row, column}
use Rattle.queue_scenes.proofs.Bounds.{grant_fits}
use Rattle.queue_scenes.proofs.grants.pages_under.Goals as goal

pub select-requires : goal.select-requires
select-requires g c = record { query = select_grant_is.shows.query }

pub returns-in-None-clause-reads : goal.returns-in-None-clause-reads
returns-in-None-clause-reads g c = tells (told_by c.select.ensures.leaves c.in_ok-found.ensures.live (rw (c.params-to_sql.ensures, c.params-to_sql-2.ensures) at (c.in_ok-found.ensures.shown)) (λ w sound has h. grant_shown _ c.args.batch.now c.args.account.now w has h)) (λ w sound rows.
    sym (none_found (c.args.batch.now, c.args.account.now) grant_pages_row (get w.grants (c.args.batch.now, c.args.account.now)) c.in_ok-found.found.items (search rules) rows))

pub returns-clause-reads : goal.returns-clause-reads
returns-clause-reads g c = tells (told_by c.select.ensures.leaves c.in_ok-found.ensures.live (rw (c.params-to_sql.ensures, c.params-to_sql-2.ensures) at (c.in_ok-found.ensures.shown)) (λ w sound has h. grant_shown _ c.args.batch.now c.args.account.now w has h)) (λ w sound rows.
    let at = some_found (c.args.batch.now, c.args.account.now) grant_pages_row (get w.grants (c.args.batch.now, c.args.account.now)) c.in_ok-found.found.items c.in-Some.row.now (search rules) rows in
    let value : c.in_ok-pages-in-Some.pages ≡ at.0 = search (rules, at.2) in
    ap Some value ∙ sym at.1)

pub returns-in_err-pages-in-Some-clause-reads : goal.returns-in_err-pages-in-Some-clause-reads
returns-in_err-pages-in-Some-clause-reads g c = refuses (told_by c.select.ensures.leaves c.in_ok-found.ensures.live (rw (c.params-to_sql.ensures, c.params-to_sql-2.ensures) at (c.in_ok-found.ensures.shown)) (λ w sound has h. grant_shown _ c.args.batch.now c.args.account.now w has h)) c.in_ok-found.ensures.live (λ d w sound rows.
    let at = some_found (c.args.batch.now, c.args.account.now) grant_pages_row (get w.grants (c.args.batch.now, c.args.account.now)) c.in_ok-found.found.items c.in-Some.row.now (search rules) rows in
    let fits = grant_fits w c.args.batch.now c.args.account.now at.0 sound at.1 in
    c.in_err-pages-in-Some.ensures.err d (subst (λ (r : Row). 0 < length r) (sym at.2) (omega arith)) (at.0, ap (λ (r : Row). column r 0) at.2, fits)) _ c.from_residual-in_err-pages-in-Some.ensures.1
