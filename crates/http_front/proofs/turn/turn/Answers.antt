use Rattle.std.proofs.Common.{inl}
use Rattle.std.proofs.KnownBytes.{Appends-nil}
use Rattle.http_head.specs.Reads.{bytes_left}
use Rattle.http_head.specs.declared.end.Finish.TheVariants.{Refused}
use Rattle.http_head.specs.declared.end.Refusal.TheVariants.{ServiceUnavailable}
use Rattle.http_front.proofs.TurnedLemmas.{lifted, turned_closed, turned_unread, end_no_head, end_checked, end_unserved}
use Rattle.http_front.proofs.FramedLemmas.{framed_bare}
use Rattle.http_front.proofs.FailedReadLemmas.{unless_read, failed_behind}
use Rattle.http_front.proofs.turn.turn.Goals as goal

pub returns-in_default-clause-turned : goal.returns-in_default-clause-turned
returns-in_default-clause-turned g c = λ honest w st set.
    let r = bytes_left g.R.Read c.args.input.now in (
      w,
      st,
      turned_closed (g.B.QueueBook.crash_leaves c.args.book.now) c.args.context.now c.args.k w r r (g.W.Write.contents c.args.writer.now) (g.W.Write.contents c.close_with.new.writer) (Refused ServiceUnavailable) c.close_with.result
          (end_unserved w r) c.close_with.ensures.closed,
    )

pub returns-in-Ok-clause-turned : goal.returns-in-Ok-clause-turned
returns-in-Ok-clause-turned g c = λ honest w st set.
    let p = c.take_planned.ensures.planned honest w st set in (
      p.0,
      p.1,
      lifted (g.B.QueueBook.crash_leaves c.args.book.now) (g.B.QueueBook.crash_leaves c.take_planned.new.book) c.args.context.now c.args.k w p.0 c.in-Ok.plan (bytes_left g.R.Read c.args.input.now) (bytes_left g.R.Read c.take_head.new.input)
          (bytes_left g.R.Read c.take_planned.new.input) (g.W.Write.contents c.args.writer.now) (g.W.Write.contents c.take_planned.new.writer) c.take_planned.result
          c.in-Ok.ensures.taken p.2,
    )

pub returns-in-Err-Ended-clause-turned : goal.returns-in-Err-Ended-clause-turned
returns-in-Err-Ended-clause-turned g c = λ honest w st set.
    let r = bytes_left g.R.Read c.args.input.now in (
      w,
      st,
      turned_closed (g.B.QueueBook.crash_leaves c.args.book.now) c.args.context.now c.args.k w r (bytes_left g.R.Read c.take_head.new.input) (g.W.Write.contents c.args.writer.now) (g.W.Write.contents c.close_with-in-Err-Ended.new.writer) c.in-Err-Ended.end c.close_with-in-Err-Ended.result
          (end_no_head w r c.in-Err-Ended.end (rw c.in-Err-Ended.field-0-is at c.in-Err-Ended.ensures.failed)) c.close_with-in-Err-Ended.ensures.closed,
    )

pub returns-in-Err-Refused-clause-turned : goal.returns-in-Err-Refused-clause-turned
returns-in-Err-Refused-clause-turned g c = λ honest w st set.
    let r = bytes_left g.R.Read c.args.input.now in (
      w,
      st,
      turned_closed (g.B.QueueBook.crash_leaves c.args.book.now) c.args.context.now c.args.k w r (bytes_left g.R.Read c.take_head.new.input) (g.W.Write.contents c.args.writer.now) (g.W.Write.contents c.close_with-in-Err-Refused.new.writer) (Refused c.in-Err-Refused.refusal) c.close_with-in-Err-Refused.result
          (end_checked w r c.in-Err-Refused.refusal (rw c.in-Err-Refused.field-0-is at c.in-Err-Refused.ensures.failed)) c.close_with-in-Err-Refused.ensures.closed,
    )

pub returns-in-Err-Read-clause-turned : goal.returns-in-Err-Read-clause-turned
returns-in-Err-Read-clause-turned g c = λ honest w st set. (
  w,
  st,
  turned_unread (g.B.QueueBook.crash_leaves c.args.book.now) c.args.context.now c.args.k w (bytes_left g.R.Read c.args.input.now) (bytes_left g.R.Read c.take_head.new.input) (g.W.Write.contents c.args.writer.now) c.by.result
      c.by.ensures.acted c.by.ensures.is_fault,
)

pub returns-in_default-clause-invited : goal.returns-in_default-clause-invited
returns-in_default-clause-invited g c = unless_read _ c.close_with.result c.close_with.ensures.no_read_failed

pub returns-in-Ok-clause-invited : goal.returns-in-Ok-clause-invited
returns-in-Ok-clause-invited g c =
    failed_behind c.take_planned.result (bytes_left g.R.Read c.args.input.now) (bytes_left g.R.Read c.take_planned.new.input) (g.W.Write.contents c.args.writer.now) (g.W.Write.contents c.take_planned.new.writer)
    (bytes_left g.R.Read c.take_head.new.input) c.in-Ok.plan c.in-Ok.ensures.taken c.take_planned.ensures.invited

pub returns-in-Err-Ended-clause-invited : goal.returns-in-Err-Ended-clause-invited
returns-in-Err-Ended-clause-invited g c = unless_read _ c.close_with-in-Err-Ended.result c.close_with-in-Err-Ended.ensures.no_read_failed

pub returns-in-Err-Refused-clause-invited : goal.returns-in-Err-Refused-clause-invited
returns-in-Err-Refused-clause-invited g c = unless_read _ c.close_with-in-Err-Refused.result c.close_with-in-Err-Refused.ensures.no_read_failed

pub returns-in-Err-Read-clause-invited : goal.returns-in-Err-Read-clause-invited
returns-in-Err-Read-clause-invited g c = λ _. inl (c.in-Err-Read.ensures.kept, Appends-nil (g.W.Write.contents c.args.writer.now))

pub returns-in_default-clause-framed : goal.returns-in_default-clause-framed
returns-in_default-clause-framed g c = framed_bare (Refused ServiceUnavailable) (g.W.Write.contents c.args.writer.now) (g.W.Write.contents c.close_with.new.writer) c.close_with.result c.close_with.ensures.closed

pub returns-in-Err-Ended-clause-framed : goal.returns-in-Err-Ended-clause-framed
returns-in-Err-Ended-clause-framed g c =
    framed_bare c.in-Err-Ended.end (g.W.Write.contents c.args.writer.now) (g.W.Write.contents c.close_with-in-Err-Ended.new.writer) c.close_with-in-Err-Ended.result c.close_with-in-Err-Ended.ensures.closed

pub returns-in-Err-Refused-clause-framed : goal.returns-in-Err-Refused-clause-framed
returns-in-Err-Refused-clause-framed g c =
    framed_bare (Refused c.in-Err-Refused.refusal) (g.W.Write.contents c.args.writer.now) (g.W.Write.contents c.close_with-in-Err-Refused.new.writer) c.close_with-in-Err-Refused.result c.close_with-in-Err-Refused.ensures.closed
