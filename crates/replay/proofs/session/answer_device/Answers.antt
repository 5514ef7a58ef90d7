use Rattle.std.proofs.Common.{◌≡◌, ◌∙◌, [], ◌∷◌, ◌++◌, subst}
use Rattle.device_lines.specs.Reports.{AnswersLine}
use Rattle.replay.proofs.session.answer_device.Goals as goal

pub returns-clause-answered : goal.returns-clause-answered
returns-clause-answered g c = λ h w s.
    let line : c.as_slice.result.now ≡ c.args.text.now ++ 10 ∷ [] = c.as_slice.ensures.value ∙ c.in_ok-line.ensures in
    let a = c.report-answer.ensures.answers h w s in (
      a.0,
      c.report-answer.result,
      subst (λ (l : _). AnswersLine w c.args.context.now l a.0 c.report-answer.result) line a.1,
      a.2,
      rw (← c.bytes.ensures) c.in_ok-write_all.ensures.bytes,
    )
