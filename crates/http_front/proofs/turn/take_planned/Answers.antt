use Rattle.std.proofs.Common.{refl}
use Rattle.http_head.specs.Reads.{bytes_left}
use Rattle.http_head.specs.declared.end.Finish.TheVariants.{Refused}
use Rattle.http_front.proofs.CrashLemmas.{carries_none}
use Rattle.http_front.proofs.TurnedLemmas.{planned_unsaid, planned_closed, planned_answered, planned_broken, end_untaken, end_declined, body_as, said_on, closed_faultless}
use Rattle.http_front.proofs.FramedLemmas.{framed_answered, framed_closed}
use Rattle.http_front.proofs.FailedReadLemmas.{unless_read}
use Rattle.http_front.proofs.turn.take_planned.Goals as goal

pub returns-in-Err-Stopped-clause-planned : goal.returns-in-Err-Stopped-clause-planned
returns-in-Err-Stopped-clause-planned g c = λ honest w st set.
    let r = bytes_left g.R.Read c.args.input.now in
    let s = bytes_left g.R.Read c.take_content.new.input in
    let why = rw c.in-Err-Stopped.field-0-is at c.in-Err-Stopped.ensures.untaken in (
      w,
      st,
      rw c.in-Err-Stopped.field-0-is (planned_unsaid (g.B.QueueBook.crash_leaves c.args.book.now) c.args.context.now c.args.numbered.k w c.args.numbered.plan r s (g.W.Write.contents c.args.writer.now) (g.W.Write.contents c.take_content.new.writer) c.in-Err-Stopped.stopped why.0 why.1 why.2),
    )

pub returns-in-Err-Ended-clause-planned : goal.returns-in-Err-Ended-clause-planned
returns-in-Err-Ended-clause-planned g c = λ honest w st set.
    let r = bytes_left g.R.Read c.args.input.now in
    let s = bytes_left g.R.Read c.take_content.new.input in
    let why = rw c.in-Err-Ended.field-0-is at c.in-Err-Ended.ensures.untaken in (
      w,
      st,
      planned_closed (g.B.QueueBook.crash_leaves c.args.book.now) (g.B.QueueBook.crash_leaves c.args.book.now) c.args.context.now c.args.numbered.k w w c.args.numbered.plan r s (g.W.Write.contents c.args.writer.now) (g.W.Write.contents c.take_content.new.writer) (g.W.Write.contents c.close_with.new.writer) c.in-Err-Ended.end c.close_with.result refl
          (carries_none (g.B.QueueBook.crash_leaves c.args.book.now) (λ e. ⊥) c.args.context.now w)
          (end_untaken w c.args.numbered.plan r c.in-Err-Ended.end why.0) why.1 (rw c.in-Err-Ended.field-0-is at c.close_with.ensures.closed),
    )

pub returns-in-Ok-Answered-clause-planned : goal.returns-in-Ok-Answered-clause-planned
returns-in-Ok-Answered-clause-planned g c = λ honest w st set.
    let r = bytes_left g.R.Read c.args.input.now in
    let s = bytes_left g.R.Read c.take_content.new.input in
    let f = c.in-Ok.ensures.taken in
    let t = rw (c.in-Ok-Answered.field-0-is, c.target.ensures) at (c.in-Ok-Answered.ensures.replied honest w st set) in (
      t.0,
      t.1,
      planned_answered (g.B.QueueBook.crash_leaves c.args.book.now) (g.B.QueueBook.crash_leaves c.reply.new.book) c.args.context.now c.args.numbered.k w t.0 c.args.numbered.plan r s (g.W.Write.contents c.args.writer.now) (g.W.Write.contents c.take_content.new.writer) (g.W.Write.contents c.reply.new.writer) c.in-Ok-Answered.tally c.closes_after-closes.result c.in-Ok.ensures.invited
          (record {
            raw = f.0;
            content = c.as_slice.result.now;
            taken = f.2;
            body = body_as c.args.numbered.plan.framing f.0 c.in-Ok.content.items c.as_slice.result.now f.1 c.as_slice.ensures.value;
            reply = t.2.0.0;
            closes_is = c.closes_after-closes.ensures;
            carries = t.2.1;
          }) t.2.0.1,
    )

pub returns-in-Ok-Declined-clause-planned : goal.returns-in-Ok-Declined-clause-planned
returns-in-Ok-Declined-clause-planned g c = λ honest w st set.
    let r = bytes_left g.R.Read c.args.input.now in
    let s = bytes_left g.R.Read c.take_content.new.input in
    let v = g.W.Write.contents c.args.writer.now in
    let m = g.W.Write.contents c.reply.new.writer in
    let f = c.in-Ok.ensures.taken in
    let t = rw (c.in-Ok-Declined.field-0-is, c.target.ensures) at (c.in-Ok-Declined.ensures.replied honest w st set) in
    let z = c.in-Ok-Declined.refusal in (
      t.0,
      t.1,
      planned_closed (g.B.QueueBook.crash_leaves c.args.book.now) (g.B.QueueBook.crash_leaves c.reply.new.book) c.args.context.now c.args.numbered.k w t.0 c.args.numbered.plan r s v m (g.W.Write.contents c.close_with-in-Ok-Declined.new.writer) (Refused z) c.close_with-in-Ok-Declined.result t.2.0.2 t.2.1
          (end_declined w c.args.numbered.plan r s f.0 c.as_slice.result.now z f.2 (body_as c.args.numbered.plan.framing f.0 c.in-Ok.content.items c.as_slice.result.now f.1 c.as_slice.ensures.value) t.2.0.0)
          (said_on v (g.W.Write.contents c.take_content.new.writer) m c.args.numbered.plan c.in-Ok.ensures.invited t.2.0.1) c.close_with-in-Ok-Declined.ensures.closed,
    )

pub returns-clause-planned : goal.returns-clause-planned
returns-clause-planned g c = λ honest w st set.
    let r = bytes_left g.R.Read c.args.input.now in
    let s = bytes_left g.R.Read c.take_content.new.input in
    let f = c.in-Ok.ensures.taken in
    let t = rw c.target.ensures at (c.in-Err.ensures.replied honest w st set) in (
      t.0,
      t.1,
      planned_broken (g.B.QueueBook.crash_leaves c.args.book.now) (g.B.QueueBook.crash_leaves c.reply.new.book) c.args.context.now c.args.numbered.k w t.0 c.args.numbered.plan r s (g.W.Write.contents c.args.writer.now) (g.W.Write.contents c.take_content.new.writer) (g.W.Write.contents c.reply.new.writer) c.in-Err.stopped c.closes_after-closes.result c.in-Ok.ensures.invited
          (record {
            raw = f.0;
            content = c.as_slice.result.now;
            taken = f.2;
            body = body_as c.args.numbered.plan.framing f.0 c.in-Ok.content.items c.as_slice.result.now f.1 c.as_slice.ensures.value;
            reply = t.2.0.0;
            closes_is = c.closes_after-closes.ensures;
            carries = t.2.1;
          }) t.2.0.1,
    )

pub returns-in-Ok-Answered-clause-live : goal.returns-in-Ok-Answered-clause-live
returns-in-Ok-Answered-clause-live g c = λ honest live faultless. (rw c.in-Ok-Answered.field-0-is at (c.in-Ok-Answered.ensures.live honest live)) faultless

pub returns-in-Ok-Declined-clause-live : goal.returns-in-Ok-Declined-clause-live
returns-in-Ok-Declined-clause-live g c = λ honest live faultless.
    (rw c.in-Ok-Declined.field-0-is at (c.in-Ok-Declined.ensures.live honest live))
    (closed_faultless (Refused c.in-Ok-Declined.refusal) _ _ c.close_with-in-Ok-Declined.result c.close_with-in-Ok-Declined.ensures.closed faultless)

pub returns-clause-live : goal.returns-clause-live
returns-clause-live g c = λ honest live faultless. c.in-Err.ensures.live honest live faultless

pub returns-in-Err-Stopped-clause-invited : goal.returns-in-Err-Stopped-clause-invited
returns-in-Err-Stopped-clause-invited g c = rw c.in-Err-Stopped.field-0-is (rw c.in-Err-Stopped.field-0-is at c.in-Err-Stopped.ensures.untaken).3

pub returns-in-Err-Ended-clause-invited : goal.returns-in-Err-Ended-clause-invited
returns-in-Err-Ended-clause-invited g c = unless_read _ c.close_with.result c.close_with.ensures.no_read_failed

pub returns-in-Ok-Declined-clause-invited : goal.returns-in-Ok-Declined-clause-invited
returns-in-Ok-Declined-clause-invited g c = unless_read _ c.close_with-in-Ok-Declined.result c.close_with-in-Ok-Declined.ensures.no_read_failed

pub returns-clause-invited : goal.returns-clause-invited
returns-clause-invited g c = λ e. absurd (c.in-Err.ensures.no_read_failed e)

pub returns-in-Err-Ended-clause-framed : goal.returns-in-Err-Ended-clause-framed
returns-in-Err-Ended-clause-framed g c =
    framed_closed c.args.numbered.plan c.in-Err-Ended.end (g.W.Write.contents c.args.writer.now) (g.W.Write.contents c.take_content.new.writer) (g.W.Write.contents c.close_with.new.writer) c.close_with.result
    (rw c.in-Err-Ended.field-0-is at c.in-Err-Ended.ensures.untaken).1 (rw c.in-Err-Ended.field-0-is at c.close_with.ensures.closed)

pub returns-in-Ok-Answered-clause-framed : goal.returns-in-Ok-Answered-clause-framed
returns-in-Ok-Answered-clause-framed g c =
    framed_answered c.args.numbered.plan c.in-Ok-Answered.tally c.closes_after-closes.result (g.W.Write.contents c.args.writer.now) (g.W.Write.contents c.take_content.new.writer) (g.W.Write.contents c.reply.new.writer) c.in-Ok.ensures.invited
    (rw c.in-Ok-Answered.field-0-is at c.in-Ok-Answered.ensures.framed)

pub returns-in-Ok-Declined-clause-framed : goal.returns-in-Ok-Declined-clause-framed
returns-in-Ok-Declined-clause-framed g c =
    let v = g.W.Write.contents c.args.writer.now in
    let m = g.W.Write.contents c.reply.new.writer in
    framed_closed c.args.numbered.plan (Refused c.in-Ok-Declined.refusal) v m (g.W.Write.contents c.close_with-in-Ok-Declined.new.writer) c.close_with-in-Ok-Declined.result
    (said_on v (g.W.Write.contents c.take_content.new.writer) m c.args.numbered.plan c.in-Ok.ensures.invited (rw c.in-Ok-Declined.field-0-is at c.in-Ok-Declined.ensures.framed)) c.close_with-in-Ok-Declined.ensures.closed
