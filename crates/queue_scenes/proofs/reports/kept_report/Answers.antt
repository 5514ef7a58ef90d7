use Rattle.std.proofs.Common.{◌≡◌, ℕ, Some, ap, sym, rules, ◌∙◌}
use Rattle.std.specs.FinMap.{get}
use Rattle.sqlite.specs.Order.{Row, column}
use Rattle.queue_types.specs.declared.event.KeptReport.{KeptReport}
use Rattle.queue_scenes.proofs.Found.{report_shown, report_keyed, told_row}
use Rattle.queue_scenes.proofs.Lookup.{none_found, some_found}
use Rattle.queue_scenes.proofs.Statements.{select_report_is}
use Rattle.queue_scenes.proofs.Told.{same_report}
use Rattle.queue_tables.proofs.Telling.{refuses, tells, told_by}
use Rattle.queue_scenes.proofs.Bounds.{report_fits}
use Rattle.queue_scenes.proofs.reports.kept_report.Goals as goal

pub select-requires : goal.select-requires
select-requires g c = record { query = select_report_is.shows.query }

pub returns-in-None-clause-reads : goal.returns-in-None-clause-reads
returns-in-None-clause-reads g c = tells (told_by c.select.ensures.leaves c.in_ok-found.ensures.live (rw (c.params-to_sql.ensures, c.params-to_sql-2.ensures) at (c.in_ok-found.ensures.shown)) (λ w sound has h. report_shown _ c.args.job c.args.seq w sound has h)) (λ w sound rows.
    sym (none_found (c.args.job, c.args.seq) told_row (get w.reports (c.args.job, c.args.seq)) c.in_ok-found.found.items (search rules) rows))

pub returns-clause-reads : goal.returns-clause-reads
returns-clause-reads g c = tells (told_by c.select.ensures.leaves c.in_ok-found.ensures.live (rw (c.params-to_sql.ensures, c.params-to_sql-2.ensures) at (c.in_ok-found.ensures.shown)) (λ w sound has h. report_shown _ c.args.job c.args.seq w sound has h)) (λ w sound rows.
    let at = some_found (c.args.job, c.args.seq) told_row (get w.reports (c.args.job, c.args.seq)) c.in_ok-found.found.items c.in-Some.row.now (search rules) rows in
    let cell = λ (i : ℕ). ap (λ (v : Row). column v i) at.2 in
    let key = report_keyed w sound c.args.job c.args.seq at.0 at.1 in
    let read = c.in_ok-kept-in-Some.ensures in
    let same : c.in_ok-kept-in-Some.kept ≡ at.0 = same_report c.numbers_tell_names.ensures.kinds c.numbers_tell_names.ensures.states c.in_ok-kept-in-Some.kept at.0 (read.job ∙ sym key.0) (read.seq ∙ sym key.1)
    (sym read.kind ∙ cell 0) (sym read.count ∙ cell 1) (sym read.told ∙ cell 2) (sym read.total ∙ cell 3) in
    ap (λ (k : KeptReport). Some k) same ∙ sym at.1)

pub returns-in_err-kept-in-Some-clause-reads : goal.returns-in_err-kept-in-Some-clause-reads
returns-in_err-kept-in-Some-clause-reads g c = refuses (told_by c.select.ensures.leaves c.in_ok-found.ensures.live (rw (c.params-to_sql.ensures, c.params-to_sql-2.ensures) at (c.in_ok-found.ensures.shown)) (λ w sound has h. report_shown _ c.args.job c.args.seq w sound has h)) c.in_ok-found.ensures.live (λ d w sound rows.
    let at = some_found (c.args.job, c.args.seq) told_row (get w.reports (c.args.job, c.args.seq)) c.in_ok-found.found.items c.in-Some.row.now (search rules) rows in
    c.in_err-kept-in-Some.ensures.damaged d at.0 (report_fits w c.args.job c.args.seq at.0 sound at.1) at.2) _ c.from_residual-in_err-kept-in-Some.ensures.1
