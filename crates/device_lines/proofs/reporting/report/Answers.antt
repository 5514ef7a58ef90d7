use Rattle.std.proofs.Common.{◌≡◌, refl, subst, inl, inr}
use Rattle.queue_types.specs.Event.{tell}
use Rattle.queue_types.specs.declared.event.Report.{Report}
use Rattle.queue_core.specs.Crash.{taken, untaken}
use Rattle.queue_core.specs.Machine.{step}
use Rattle.device_lines.specs.Reports.{IsReplyToReport, is_fault_line, reports}
use Rattle.device_lines.proofs.Crashes.{as_told, fault_brings, match_false, read_reported, unread_brings, unread_reported}
use Rattle.device_lines.proofs.Flags.{on_false, on_true}
use Rattle.device_lines.proofs.Readings.{refused_reads}
use Rattle.device_lines.proofs.reporting.report.Goals as goal

pub returns-in-Ok-step-clause-answers : goal.returns-in-Ok-step-clause-answers
returns-in-Ok-step-clause-answers g c = λ honest w stands. (
  (step w c.args.now (tell c.in-Ok.r)).world,
  inl (read_reported w c.args.now c.args.line.now c.in-Ok.r _ ((c.in-Ok.ensures.ok c.in-Ok.r).0 refl) (c.in-Ok-step.ensures.answer honest w stands)),
  c.in-Ok-step.ensures.world honest w stands,
)

pub returns-in-Ok-step-clause-told : goal.returns-in-Ok-step-clause-told
returns-in-Ok-step-clause-told g c = λ honest. on_false _ (is_fault_line c.in-Ok-step.answer) (λ w stands. (
  (step w c.args.now (tell c.in-Ok.r)).world,
  read_reported w c.args.now c.args.line.now c.in-Ok.r _ ((c.in-Ok.ensures.ok c.in-Ok.r).0 refl) (c.in-Ok-step.ensures.answer honest w stands),
  c.in-Ok-step.ensures.world honest w stands,
))

pub returns-in-Err-step-clause-answers : goal.returns-in-Err-step-clause-answers
returns-in-Err-step-clause-answers g c = λ honest w stands. (
  w,
  inr (
    record {
      report = c.in-Ok.r;
      reads = (c.in-Ok.ensures.ok c.in-Ok.r).0 refl;
      text = c.fault.ensures;
    },
    refl,
  ),
  c.in-Err-step.ensures.err w stands,
)

pub returns-in-Err-step-clause-failed : goal.returns-in-Err-step-clause-failed
returns-in-Err-step-clause-failed g c = λ honest. on_true _ (is_fault_line c.fault.result) (λ w stands. (
  record {
    report = c.in-Ok.r;
    reads = (c.in-Ok.ensures.ok c.in-Ok.r).0 refl;
    text = c.fault.ensures;
  },
  c.in-Err-step.ensures.err w stands,
))

pub returns-in-Err-clause-answers : goal.returns-in-Err-clause-answers
returns-in-Err-clause-answers g c = λ honest w stands. (
  w,
  inl (unread_reported w c.args.now c.args.line.now c.in-Err.fault c.unread.result (refused_reads c.args.line.now c.in-Err.fault c.read_report.result c.in-Err.is c.read_report.ensures.syntax c.read_report.ensures.range) c.unread.ensures),
  stands,
)

pub returns-in-Err-clause-told : goal.returns-in-Err-clause-told
returns-in-Err-clause-told g c = λ honest. on_false _ (is_fault_line c.unread.result) (λ w stands. (
  w,
  unread_reported w c.args.now c.args.line.now c.in-Err.fault c.unread.result (refused_reads c.args.line.now c.in-Err.fault c.read_report.result c.in-Err.is c.read_report.ensures.syntax c.read_report.ensures.range) c.unread.ensures,
  stands,
))

pub returns-in-Ok-step-clause-crash : goal.returns-in-Ok-step-clause-crash
returns-in-Ok-step-clause-crash g c = λ honest w stands.
    let u = (step w c.args.now (tell c.in-Ok.r)).world in
    let reads = (c.in-Ok.ensures.ok c.in-Ok.r).0 refl in
    let after = c.in-Ok-step.ensures.world honest w stands in (
      u,
      match_false _ _ (is_fault_line c.in-Ok-step.answer) c.in-Ok-step.ensures.quiet (read_reported w c.args.now c.args.line.now c.in-Ok.r _ reads (c.in-Ok-step.ensures.answer honest w stands)),
      after,
      λ v left. (u, g.met.B.QueueBook.lasts c.step.new.book u u honest (c.in-Ok-step.ensures.live honest) after, taken (tell c.in-Ok.r) (reports c.in-Ok.r reads) refl refl),
    )

pub returns-in-Err-step-clause-crash : goal.returns-in-Err-step-clause-crash
returns-in-Err-step-clause-crash g c = λ honest w stands.
    let reads = (c.in-Ok.ensures.ok c.in-Ok.r).0 refl in (
      w,
      fault_brings w c.args.now c.args.line.now c.fault.result (record { report = c.in-Ok.r; reads = reads; text = c.fault.ensures }) c.fault.ensures,
      c.in-Err-step.ensures.err w stands,
      λ v left. let l = c.in-Err-step.ensures.crash honest w v stands left in (l.0, l.1, as_told c.args.line.now c.fault.result c.in-Ok.r c.args.now w v w l.0 reads c.fault.ensures l.2),
    )

pub returns-in-Err-clause-crash : goal.returns-in-Err-clause-crash
returns-in-Err-clause-crash g c = λ honest w stands. (
  w,
  unread_brings w c.args.now c.args.line.now c.unread.result c.in-Err.fault (refused_reads c.args.line.now c.in-Err.fault c.read_report.result c.in-Err.is c.read_report.ensures.syntax c.read_report.ensures.range) c.unread.ensures,
  stands,
  λ v left. (v, left, untaken refl refl),
)

pub returns-in-Ok-step-clause-replies : goal.returns-in-Ok-step-clause-replies
returns-in-Ok-step-clause-replies g c = λ r reads.
    let same : c.in-Ok.r ≡ r = cc ((c.in-Ok.ensures.ok r).1 reads) in
    inr (subst (λ (z : Report). IsReplyToReport z.job c.in-Ok-step.answer) same c.in-Ok-step.ensures.replies)

pub returns-in-Err-step-clause-replies : goal.returns-in-Err-step-clause-replies
returns-in-Err-step-clause-replies g c = λ r reads. inl c.fault.ensures

pub returns-in-Err-clause-replies : goal.returns-in-Err-clause-replies
returns-in-Err-clause-replies g c = λ r reads. absurd (let is = (c.read_report.ensures.ok r).1 reads in cc (is, c.in-Err.is))
