use Rattle.std.proofs.Common.{◌∙◌, refl, subst, sym, inl, inr}
use Rattle.std.proofs.lemmas.Result.{err_from_is_err_and}
use Rattle.command_ends.specs.Faults.{IsOfStream}
use Rattle.queue_store.specs.Kept.{shown_by}
use Rattle.commands.specs.Work.{taken, untaken}
use Rattle.commands.proofs.EndingLemmas.{any_err}
use Rattle.commands.proofs.CrashLemmas.{beside, lasts, sweep_at, swept_or_none}
use Rattle.commands.proofs.FaultLemmas.{no_damage, of_damaged_office, of_expire, of_expire_stream, of_stream}
use Rattle.commands.proofs.office_commands.expire_in.Goals as goal

pub returns-clause-expired : goal.returns-clause-expired
returns-clause-expired g c = λ honest w stands.
    let it = c.in_ok-expire_jobs.ensures.expired honest w stands in
    let sweep = sweep_at c.in_ok-now.now c.in_ok-now.ensures.moment w it.1 it.0 it.2 in (
      it.1,
      it.3,
      (
        (it.0, sweep, it.4),
        λ live. (it.1, lasts g.S.Store g.met.S.Store.settled c.expire_jobs.new.book it.1 honest (c.in_ok-expire_jobs.ensures.live honest) it.3, taken (it.0, sweep) refl),
      ),
    )

pub returns-in_err-expire_jobs-clause-left : goal.returns-in_err-expire_jobs-clause-left
returns-in_err-expire_jobs-clause-left g c = λ honest.
    let p = err_from_is_err_and c.from_residual-in_err-expire_jobs.result c.from_residual-in_err-expire_jobs.ensures.1 in
    rw p.1 (λ w stands. elim (c.in_err-expire_jobs.ensures.why honest w stands) [
      | inl failed ↦ (
        w,
        failed.2,
        (
          inl (refl, failed.3),
          λ live.
              let it = c.expire_jobs.ensures.crash honest w stands in
              let left = it.2 w (lasts g.S.Store g.met.S.Store.settled c.args.book.now w (c.expire_jobs.ensures.began honest) live stands) in
              beside _ w it.0 left.0 (shown_by g.S.Store c.expire_jobs.new.book) left.1 (swept_or_none c.in_ok-now.now c.in_ok-now.ensures.moment w it.0 left.0 left.2),
        ),
      )
      | inr told ↦ (
          let sweep = sweep_at c.in_ok-now.now c.in_ok-now.ensures.moment w told.3 told.2 told.4 in (
            told.3,
            told.5,
            (
              inr (of_stream _ _ p.2 told.0, (told.2, sweep)),
              λ live. (told.3, lasts g.S.Store g.met.S.Store.settled c.expire_jobs.new.book told.3 honest told.1 told.5, taken (told.2, sweep) refl),
            ),
          )
          )
    ])

pub returns-in_err-expire_jobs-clause-damaged : goal.returns-in_err-expire_jobs-clause-damaged
returns-in_err-expire_jobs-clause-damaged g c = λ honest.
    let p = err_from_is_err_and c.from_residual-in_err-expire_jobs.result c.from_residual-in_err-expire_jobs.ensures.1 in
    rw p.1 (λ is. c.in_err-expire_jobs.ensures.damaged honest (of_damaged_office _ (sym p.2 ∙ is)))

pub returns-in_err-expire_jobs-clause-told : goal.returns-in_err-expire_jobs-clause-told
returns-in_err-expire_jobs-clause-told g c =
    let p = err_from_is_err_and c.from_residual-in_err-expire_jobs.result c.from_residual-in_err-expire_jobs.ensures.1 in
    rw p.1 (of_expire _ _ p.2 c.in_err-expire_jobs.ensures.told)

pub returns-in_err-expire_jobs-clause-quiet : goal.returns-in_err-expire_jobs-clause-quiet
returns-in_err-expire_jobs-clause-quiet g c =
    let p = err_from_is_err_and c.from_residual-in_err-expire_jobs.result c.from_residual-in_err-expire_jobs.ensures.1 in
    rw p.1 (elim c.in_err-expire_jobs.ensures.quiet [ inl stream ↦ inl (of_stream _ _ p.2 stream) | inr same ↦ inr same ])

-- ---- the moment isn't known

pub returns-in_err-now-clause-left : goal.returns-in_err-now-clause-left
returns-in_err-now-clause-left g c = λ honest. any_err c.from_residual.result _ (λ fault w stands. (
  w,
  stands,
  (inl (refl, refl), λ live. (w, lasts g.S.Store g.met.S.Store.settled c.args.book.now w honest live stands, untaken refl refl)),
))

pub returns-in_err-now-clause-damaged : goal.returns-in_err-now-clause-damaged
returns-in_err-now-clause-damaged g c = λ honest.
    let p = err_from_is_err_and c.from_residual.result c.from_residual.ensures.1 in
    rw p.1 (λ is. absurd (no_damage _ (subst IsOfStream (sym p.2) c.in_err-now.ensures.failed) is))

pub returns-in_err-now-clause-told : goal.returns-in_err-now-clause-told
returns-in_err-now-clause-told g c =
    let p = err_from_is_err_and c.from_residual.result c.from_residual.ensures.1 in
    rw p.1 (of_expire_stream _ (subst IsOfStream (sym p.2) c.in_err-now.ensures.failed))
