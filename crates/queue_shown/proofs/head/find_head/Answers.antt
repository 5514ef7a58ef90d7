use Rattle.std.proofs.Common.{◌∙◌, sym, ap, rules, option_map, Some}
use Rattle.queue_core.specs.Shown.{head_of}
use Rattle.queue_types.specs.declared.document.DocumentHead.{DocumentHead}
use Rattle.queue_shown.specs.Fetched.{document_in}
use Rattle.queue_shown.specs.Heads.{head_values}
use Rattle.queue_shown.proofs.Fetching.{reads_head}
use Rattle.queue_shown.proofs.ShortDocuments.{document_fits}
use Rattle.queue_tables.proofs.Telling.{refuses, tells, told_by}
use Rattle.queue_tables.proofs.Firsts.{first_none, first_some}
use Rattle.queue_shown.proofs.Texts.{select_head_is}
use Rattle.queue_shown.proofs.head.find_head.Goals as goal

pub select-requires : goal.select-requires
select-requires g c = record { query = select_head_is.shows.query }

pub returns-in-None-clause-reads : goal.returns-in-None-clause-reads
returns-in-None-clause-reads g c = tells (told_by c.select.ensures.leaves c.in_ok-found.ensures.live (rw (c.params-to_sql.ensures, c.params-to_sql-2.ensures) at (c.in_ok-found.ensures.shown)) (λ w sound has h. reads_head _ _ c.args.job c.args.n _ w sound has h)) (λ w sound is.
    ap (option_map head_of) (sym (first_none head_values c.in_ok-found.found.items (document_in w.jobs c.args.job c.args.n) (search rules) is)))

pub returns-clause-reads : goal.returns-clause-reads
returns-clause-reads g c = tells (told_by c.select.ensures.leaves c.in_ok-found.ensures.live (rw (c.params-to_sql.ensures, c.params-to_sql-2.ensures) at (c.in_ok-found.ensures.shown)) (λ w sound has h. reads_head _ _ c.args.job c.args.n _ w sound has h)) (λ w sound is.
    let some = first_some head_values c.in_ok-found.found.items c.in-Some.row.now (document_in w.jobs c.args.job c.args.n) (search rules) is in
    ap (λ (x : DocumentHead). Some x) (c.in_ok-head-in-Some.ensures.head some.0 some.2) ∙ ap (option_map head_of) (sym some.1))

pub returns-in_err-head-in-Some-clause-reads : goal.returns-in_err-head-in-Some-clause-reads
returns-in_err-head-in-Some-clause-reads g c = refuses (told_by c.select.ensures.leaves c.in_ok-found.ensures.live (rw (c.params-to_sql.ensures, c.params-to_sql-2.ensures) at (c.in_ok-found.ensures.shown)) (λ w sound has h. reads_head _ _ c.args.job c.args.n _ w sound has h)) c.in_ok-found.ensures.live (λ d w sound is.
    let some = first_some head_values c.in_ok-found.found.items c.in-Some.row.now (document_in w.jobs c.args.job c.args.n) (search rules) is in
    c.in_err-head-in-Some.ensures.damaged d some.0 (document_fits w c.args.job c.args.n some.0 sound some.1) some.2) _ c.from_residual-in_err-head-in-Some.ensures.1
