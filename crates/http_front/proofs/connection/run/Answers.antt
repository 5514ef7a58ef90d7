use Rattle.std.proofs.Common.{◌≡◌, ℕ, Bool, true, false, ◌∙◌, arith, rules, ap, refl, sym, subst, if◌then◌else◌, ◌+◌, ◌^◌, IfSome, Some, None}
use Rattle.http_head.specs.Reads.{bytes_left}
use Rattle.http_head.specs.declared.end.End.{End}
use Rattle.http_head.specs.declared.end.End.TheVariants.{Done as EndDone}
use Rattle.http_front.specs.Connections.{IsServed}
use Rattle.http_front.specs.declared.outcome.Turned.TheVariants.{Answered, Ended}
use Rattle.http_front.proofs.CrashLemmas.{carries_no_turn}
use Rattle.http_front.proofs.FramedLemmas.{answered_none, answered_on, framed_last}
use Rattle.http_front.proofs.RunLemmas.{ran_none, ran_on, run_settings, served_done, served_ended, stopped_at, worked_done, worked_ended, worked_stopped}
use Rattle.http_front.proofs.connection.run.Goals as goal
use mir.Val.{bool_byte}

counted : (n : ℕ) (b : Bool) → n ≡ bool_byte b → n ≡ (if b then 1 else 0)
counted n false is = is
counted n true is = is

pub turns-init : goal.turns-init
turns-init g c = record {
  few = omega arith;
  acted_few = omega arith;
  below = omega arith;
  never_more = omega arith;
  began = λ h. h;
  live = λ h live none. live;
  ran = λ h w st set. (w, st, (ran_none _ _ _ _, carries_no_turn (g.B.QueueBook.crash_leaves c.args.book.now) c.args.context.now w));
  answered = answered_none (g.W.Write.contents c.args.writer.now);
}

pub turns-preserved : goal.turns-preserved
turns-preserved g c = record {
  few = search rules;
  acted_few = search rules;
  below = c.mark-faults.ensures.within;
  never_more = omega (arith, c.turns.invariant.never_more, c.turn.ensures.never_more);
  began = λ h. c.turns.invariant.began (c.turn.ensures.began h);
  live = λ h live none.
      let clear = c.mark-faults.ensures.none none in
      (rw c.in-Ok-Answered.field-0-is at (c.in-Ok-Answered.ensures.live h (c.turns.invariant.live (c.turn.ensures.began h) live clear.0))) clear.1;
  ran = λ h w st set.
      let r = c.turns.invariant.ran (c.turn.ensures.began h) w st set in
      let t = rw c.in-Ok-Answered.field-0-is at (c.in-Ok-Answered.ensures.turned h r.0 r.1 (run_settings c.args.context.settings.now c.turns.k c.args.context.now w r.0 _ _ _ _ c.turns.acted c.turns.faults r.2.0 set)) in
      let on = ran_on (g.B.QueueBook.crash_leaves c.args.book.now) (g.B.QueueBook.crash_leaves c.turns.book) (g.B.QueueBook.crash_leaves c.turn.new.book) c.turns.k c.args.context.now w r.0 t.0
      (bytes_left g.R.Read c.args.input.now) (bytes_left g.R.Read c.turns.input) (bytes_left g.R.Read c.turn.new.input)
      (g.W.Write.contents c.args.writer.now) (g.W.Write.contents c.turns.writer) (g.W.Write.contents c.turn.new.writer)
      c.turns.acted c.turns.faults c.from-acted.result c.mark-faults.result c.in-Ok-Answered.tally c.in-Ok-Answered.closes
      r.2.0 r.2.1 t.2 (counted _ _ c.from-acted.ensures) c.mark-faults.ensures.exact c.if-closes.false in
      (t.0, t.1, on);
  answered =
      answered_on c.in-Ok-Answered.tally c.in-Ok-Answered.closes (g.W.Write.contents c.args.writer.now) (g.W.Write.contents c.turns.writer) (g.W.Write.contents c.turn.new.writer) c.if-closes.false c.turns.invariant.answered
      (rw c.in-Ok-Answered.field-0-is at c.in-Ok-Answered.ensures.framed);
}

pub returns-then-closes-clause-served : goal.returns-then-closes-clause-served
returns-then-closes-clause-served g c = λ h w st set.
    let r = c.turns.invariant.ran (c.turn.ensures.began h) w st set in
    let t = rw c.in-Ok-Answered.field-0-is at (c.in-Ok-Answered.ensures.turned h r.0 r.1 (run_settings c.args.context.settings.now c.turns.k c.args.context.now w r.0 _ _ _ _ c.turns.acted c.turns.faults r.2.0 set)) in (
      t.0,
      t.1,
      served_done (g.B.QueueBook.crash_leaves c.args.book.now) (g.B.QueueBook.crash_leaves c.turns.book) (g.B.QueueBook.crash_leaves c.turn.new.book) c.turns.k c.args.context.now w r.0 t.0
          (bytes_left g.R.Read c.args.input.now) (bytes_left g.R.Read c.turns.input) (bytes_left g.R.Read c.turn.new.input)
          (g.W.Write.contents c.args.writer.now) (g.W.Write.contents c.turns.writer) (g.W.Write.contents c.turn.new.writer)
          c.turns.acted c.turns.faults c.from-acted.result c.mark-faults.result c.in-Ok-Answered.tally c.in-Ok-Answered.closes
          c.turns.invariant.few r.2.0 r.2.1 t.2 (counted _ _ c.from-acted.ensures) c.mark-faults.ensures.exact c.if-closes.true,
    )

pub returns-in-Ok-Ended-clause-served : goal.returns-in-Ok-Ended-clause-served
returns-in-Ok-Ended-clause-served g c = λ h w st set.
    let r = c.turns.invariant.ran (c.turn.ensures.began h) w st set in
    let t = rw c.in-Ok-Ended.field-0-is at (c.in-Ok-Ended.ensures.turned h r.0 r.1 (run_settings c.args.context.settings.now c.turns.k c.args.context.now w r.0 _ _ _ _ c.turns.acted c.turns.faults r.2.0 set)) in (
      t.0,
      t.1,
      subst (λ (z : End). IfSome (bytes_left g.R.Read c.args.input.now) (IsServed (g.B.QueueBook.crash_leaves c.args.book.now) (g.B.QueueBook.crash_leaves c.turn.new.book) c.args.context.now w t.0
          (g.W.Write.contents c.args.writer.now) (g.W.Write.contents c.turn.new.writer) (record { acted = c.turns.acted; faults = c.mark.result; end = z }))) (sym c.end.ensures)
          (served_ended (g.B.QueueBook.crash_leaves c.args.book.now) (g.B.QueueBook.crash_leaves c.turns.book) (g.B.QueueBook.crash_leaves c.turn.new.book) c.turns.k c.args.context.now w r.0 t.0
          (bytes_left g.R.Read c.args.input.now) (bytes_left g.R.Read c.turns.input) (bytes_left g.R.Read c.turn.new.input)
          (g.W.Write.contents c.args.writer.now) (g.W.Write.contents c.turns.writer) (g.W.Write.contents c.turn.new.writer)
          c.turns.acted c.turns.faults c.mark.result c.in-Ok-Ended.finish c.turns.invariant.few r.2.0 r.2.1 t.2
          (c.mark.ensures.exact ∙ ap (λ b. c.turns.faults + (if b then 2 ^ c.turns.k else 0)) c.is_unavailable.ensures)),
    )

pub returns-in-Err-clause-broken : goal.returns-in-Err-clause-broken
returns-in-Err-clause-broken g c = λ h w st set.
    let r = c.turns.invariant.ran (c.turn.ensures.began h) w st set in
    let t = c.in-Err.ensures.turned h r.0 r.1 (run_settings c.args.context.settings.now c.turns.k c.args.context.now w r.0 _ _ _ _ c.turns.acted c.turns.faults r.2.0 set) in (
      t.0,
      t.1,
      stopped_at (g.B.QueueBook.crash_leaves c.args.book.now) (g.B.QueueBook.crash_leaves c.turns.book) (g.B.QueueBook.crash_leaves c.turn.new.book) c.turns.k c.args.context.now w r.0 t.0
          (bytes_left g.R.Read c.args.input.now) (bytes_left g.R.Read c.turns.input) (bytes_left g.R.Read c.turn.new.input)
          (g.W.Write.contents c.args.writer.now) (g.W.Write.contents c.turns.writer) (g.W.Write.contents c.turn.new.writer)
          c.turns.acted c.turns.faults c.from.result c.mark-in-Err.result c.in-Err.stopped
          c.turns.invariant.few r.2.0 r.2.1 t.2 (counted _ _ c.from.ensures) c.mark-in-Err.ensures.exact,
    )

pub returns-then-closes-clause-worked : goal.returns-then-closes-clause-worked
returns-then-closes-clause-worked g c = λ h w st set.
    let r = c.turns.invariant.ran (c.turn.ensures.began h) w st set in
    let t = rw c.in-Ok-Answered.field-0-is at (c.in-Ok-Answered.ensures.turned h r.0 r.1 (run_settings c.args.context.settings.now c.turns.k c.args.context.now w r.0 _ _ _ _ c.turns.acted c.turns.faults r.2.0 set)) in
    let all = worked_done (g.B.QueueBook.crash_leaves c.args.book.now) (g.B.QueueBook.crash_leaves c.turns.book) (g.B.QueueBook.crash_leaves c.turn.new.book) c.turns.k c.args.context.now w r.0 t.0
    (bytes_left g.R.Read c.args.input.now) (bytes_left g.R.Read c.turns.input) (bytes_left g.R.Read c.turn.new.input)
    (g.W.Write.contents c.args.writer.now) (g.W.Write.contents c.turns.writer) (g.W.Write.contents c.turn.new.writer)
    c.turns.acted c.turns.faults c.from-acted.result c.mark-faults.result c.in-Ok-Answered.tally c.in-Ok-Answered.closes
    c.turns.invariant.few r.2.0 r.2.1 t.2 (counted _ _ c.from-acted.ensures) c.mark-faults.ensures.exact in
    (t.0, t.1, (all.0, all.1, (None, refl, all.2)))

pub returns-in-Ok-Ended-clause-worked : goal.returns-in-Ok-Ended-clause-worked
returns-in-Ok-Ended-clause-worked g c = λ h w st set.
    let r = c.turns.invariant.ran (c.turn.ensures.began h) w st set in
    let t = rw c.in-Ok-Ended.field-0-is at (c.in-Ok-Ended.ensures.turned h r.0 r.1 (run_settings c.args.context.settings.now c.turns.k c.args.context.now w r.0 _ _ _ _ c.turns.acted c.turns.faults r.2.0 set)) in
    let all = worked_ended (g.B.QueueBook.crash_leaves c.args.book.now) (g.B.QueueBook.crash_leaves c.turns.book) (g.B.QueueBook.crash_leaves c.turn.new.book) c.turns.k c.args.context.now w r.0 t.0
    (bytes_left g.R.Read c.args.input.now) (bytes_left g.R.Read c.turns.input) (bytes_left g.R.Read c.turn.new.input)
    (g.W.Write.contents c.args.writer.now) (g.W.Write.contents c.turns.writer) (g.W.Write.contents c.turn.new.writer)
    c.turns.acted c.turns.faults c.mark.result c.in-Ok-Ended.finish c.turns.invariant.few r.2.0 r.2.1 t.2
    (c.mark.ensures.exact ∙ ap (λ b. c.turns.faults + (if b then 2 ^ c.turns.k else 0)) c.is_unavailable.ensures) in
    (t.0, t.1, (all.0, all.1, (Some c.in-Ok-Ended.finish, c.end.ensures, all.2)))

pub returns-in-Err-clause-worked : goal.returns-in-Err-clause-worked
returns-in-Err-clause-worked g c = λ h w st set.
    let r = c.turns.invariant.ran (c.turn.ensures.began h) w st set in
    let t = c.in-Err.ensures.turned h r.0 r.1 (run_settings c.args.context.settings.now c.turns.k c.args.context.now w r.0 _ _ _ _ c.turns.acted c.turns.faults r.2.0 set) in
    let all = worked_stopped (g.B.QueueBook.crash_leaves c.args.book.now) (g.B.QueueBook.crash_leaves c.turns.book) (g.B.QueueBook.crash_leaves c.turn.new.book) c.turns.k c.args.context.now w r.0 t.0
    (bytes_left g.R.Read c.args.input.now) (bytes_left g.R.Read c.turns.input) (bytes_left g.R.Read c.turn.new.input)
    (g.W.Write.contents c.args.writer.now) (g.W.Write.contents c.turns.writer) (g.W.Write.contents c.turn.new.writer)
    c.turns.acted c.turns.faults c.from.result c.mark-in-Err.result c.in-Err.stopped c.turns.invariant.few r.2.0 r.2.1 t.2 (counted _ _ c.from.ensures) c.mark-in-Err.ensures.exact in
    (t.0, t.1, all)

pub returns-then-closes-clause-live : goal.returns-then-closes-clause-live
returns-then-closes-clause-live g c = λ h live none.
    let clear = c.mark-faults.ensures.none none in
    (rw c.in-Ok-Answered.field-0-is at (c.in-Ok-Answered.ensures.live h (c.turns.invariant.live (c.turn.ensures.began h) live clear.0))) clear.1

pub returns-in-Ok-Ended-clause-live : goal.returns-in-Ok-Ended-clause-live
returns-in-Ok-Ended-clause-live g c = λ h live none.
    let clear = c.mark.ensures.none none in
    (rw c.in-Ok-Ended.field-0-is at (c.in-Ok-Ended.ensures.live h (c.turns.invariant.live (c.turn.ensures.began h) live clear.0))) (sym c.is_unavailable.ensures ∙ clear.1)

pub returns-in-Err-clause-live : goal.returns-in-Err-clause-live
returns-in-Err-clause-live g c = λ h live none.
    let clear = c.mark-in-Err.ensures.none none.0 in
    c.in-Err.ensures.live h (c.turns.invariant.live (c.turn.ensures.began h) live clear.0) (clear.1, none.1)

pub returns-then-closes-clause-framed : goal.returns-then-closes-clause-framed
returns-then-closes-clause-framed g c =
    framed_last (Answered c.in-Ok-Answered.tally c.in-Ok-Answered.closes) EndDone (g.W.Write.contents c.args.writer.now) (g.W.Write.contents c.turns.writer) (g.W.Write.contents c.turn.new.writer)
    c.turns.invariant.answered (rw c.in-Ok-Answered.field-0-is at c.in-Ok-Answered.ensures.framed) (c.if-closes.true, refl)

pub returns-in-Ok-Ended-clause-framed : goal.returns-in-Ok-Ended-clause-framed
returns-in-Ok-Ended-clause-framed g c =
    framed_last (Ended c.in-Ok-Ended.finish) _ (g.W.Write.contents c.args.writer.now) (g.W.Write.contents c.turns.writer) (g.W.Write.contents c.turn.new.writer)
    c.turns.invariant.answered (rw c.in-Ok-Ended.field-0-is at c.in-Ok-Ended.ensures.framed) c.end.ensures
