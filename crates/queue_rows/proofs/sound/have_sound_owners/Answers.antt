use Rattle.std.proofs.Common.{get_or, sym, ◌∙◌}
use Rattle.std.proofs.lemmas.Result.{IfOk-weaker}
use Rattle.queue_rows.proofs.sound.have_sound_owners.Goals as goal

pub returns-then-not-others_are_idle : goal.returns-then-not-others_are_idle
returns-then-not-others_are_idle c = λ gs known. (
  λ t. absurd cc,
  λ s. absurd (let idle = c.others_are_idle.ensures.1 (λ k d lt none. s.idle k d lt (sym (known (get_or c.args.jobs.now k d).owner) ∙ none)) in cc (idle, c.if-not-others_are_idle.true)),
)

pub returns : goal.returns
returns c =
    IfOk-weaker c.accounts_are_balanced.result _ _ (λ b balanced gs known. (
      λ t. record {
        live = c.in_ok-live_jobs_fit.ensures.0 (cc (c.if-not-branch.false));
        idle = λ k d lt none. c.others_are_idle.ensures.0 (cc (c.if-not-others_are_idle.false)) k d lt (known (get_or c.args.jobs.now k d).owner ∙ none);
        balanced = (balanced gs known).0 t;
      },
      λ s. (balanced gs known).1 s.balanced,
    )) c.accounts_are_balanced.ensures
