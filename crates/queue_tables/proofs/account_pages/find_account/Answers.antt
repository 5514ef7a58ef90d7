use Rattle.std.proofs.Common.{◌∙◌, sym, ap, rules, option_map, Some}
use Rattle.std.specs.FinMap.{get}
use Rattle.queue_tables.specs.declared.account_pages.AccountPages.{AccountPages}
use Rattle.queue_core.specs.Sound.{reserved, printed}
use Rattle.queue_tables.specs.Accounts.{pages_of}
use Rattle.queue_tables.proofs.AccountRows.{pages_values, reads_account, pages_are}
use Rattle.queue_tables.proofs.Firsts.{first_none, first_some}
use Rattle.queue_tables.proofs.Statements.{select_account_is}
use Rattle.queue_tables.proofs.Telling.{refuses, tells, told_by}
use Rattle.queue_tables.proofs.account_pages.find_account.Goals as goal

pub select-requires : goal.select-requires
select-requires g c = record { query = select_account_is.shows.query }

pub returns-in-None-clause-reads : goal.returns-in-None-clause-reads
returns-in-None-clause-reads g c =
    let a = c.args.account.now in
    tells (told_by c.select.ensures.leaves c.in_ok-found.ensures.live (rw (c.params-to_sql.ensures) at (c.in_ok-found.ensures.shown)) (λ w sound has h. reads_account _ _ a _ w has h)) (λ w sound is.
    ap (option_map (pages_of w a)) (sym (first_none (pages_values w a) c.in_ok-found.found.items (get w.free a) (search rules) is)))

pub returns-clause-reads : goal.returns-clause-reads
returns-clause-reads g c =
    let a = c.args.account.now in
    tells (told_by c.select.ensures.leaves c.in_ok-found.ensures.live (rw (c.params-to_sql.ensures) at (c.in_ok-found.ensures.shown)) (λ w sound has h. reads_account _ _ a _ w has h)) (λ w sound is.
    let some = first_some (pages_values w a) c.in_ok-found.found.items c.in-Some.row.now (get w.free a) (search rules) is in
    let read = c.in_ok-pages-in-Some.ensures in
    ap (λ (x : AccountPages). Some x) (pages_are w a some.0 c.in-Some.row.now c.in_ok-pages-in-Some.pages some.2 read.free read.reserved read.printed) ∙ ap (option_map (pages_of w a)) (sym some.1))

pub returns-in_err-pages-in-Some-clause-reads : goal.returns-in_err-pages-in-Some-clause-reads
returns-in_err-pages-in-Some-clause-reads g c =
    let a = c.args.account.now in
    refuses (told_by c.select.ensures.leaves c.in_ok-found.ensures.live (rw (c.params-to_sql.ensures) at (c.in_ok-found.ensures.shown)) (λ w sound has h. reads_account _ _ a _ w has h)) c.in_ok-found.ensures.live (λ d w sound is.
    let some = first_some (pages_values w a) c.in_ok-found.found.items c.in-Some.row.now (get w.free a) (search rules) is in
    c.in_err-pages-in-Some.ensures.damaged d some.0 (reserved a w) (printed a w) some.2) _ c.from_residual-in_err-pages-in-Some.ensures.1
