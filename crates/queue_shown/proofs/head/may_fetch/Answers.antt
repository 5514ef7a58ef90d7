use Rattle.std.proofs.Common.{◌∙◌, sym, ap, rules}
use Rattle.std.proofs.lemmas.Result.{IfErr-weaker, IfOk-weaker}
use Rattle.queue_core.specs.World.{rows, job_at}
use Rattle.queue_shown.specs.Fetched.{job_may_be_fetched, state_values}
use Rattle.queue_shown.proofs.Fetching.{reads_state}
use Rattle.queue_tables.proofs.Telling.{makes_of, tells, told_as, told_by}
use Rattle.queue_tables.proofs.Firsts.{first_none, first_some}
use Rattle.queue_shown.proofs.Texts.{select_state_is}
use Rattle.queue_shown.proofs.head.may_fetch.Goals as goal

pub select-requires : goal.select-requires
select-requires g c = record { query = select_state_is.shows.query }

pub returns-in-None-clause-reads : goal.returns-in-None-clause-reads
returns-in-None-clause-reads g c = tells (told_by c.select.ensures.leaves c.in_ok-found.ensures.live (rw (c.params-to_sql.ensures) at (c.in_ok-found.ensures.shown)) (λ w sound has h. reads_state _ _ c.args.job _ w sound has h)) (λ w sound is.
    ap job_may_be_fetched (sym (first_none state_values c.in_ok-found.found.items (job_at c.args.job (rows w)) (search rules) is)))

pub returns-clause-reads : goal.returns-clause-reads
returns-clause-reads g c =
    makes_of (told_as (told_by c.select.ensures.leaves c.in_ok-found.ensures.live (rw (c.params-to_sql.ensures) at (c.in_ok-found.ensures.shown)) (λ w sound has h. reads_state _ _ c.args.job _ w sound has h)) (λ w sound is.
    first_some state_values c.in_ok-found.found.items c.in-Some.row.now (job_at c.args.job (rows w)) (search rules) is))
    c.in_ok-found.ensures.live c.row_may_be_fetched.result
    (IfOk-weaker c.row_may_be_fetched.result _ _ (λ b told w sound some. told some.0 some.2 ∙ ap job_may_be_fetched (sym some.1)) c.row_may_be_fetched.ensures.told)
    (IfErr-weaker c.row_may_be_fetched.result _ _ (λ e told d w sound some. told d some.0 some.2) c.row_may_be_fetched.ensures.damaged)
