use Rattle.std.proofs.Common.{◌≡◌, sym, subst}
use Rattle.queue_types.specs.Event.{Event, expire}
use Rattle.queue_core.specs.Limits.{IsEvent}
use Rattle.arrivals.specs.Crash.{AsksAt, Carries}
use Rattle.arrivals.specs.declared.arrival.Arrived.TheVariants.{Sweep}
use Rattle.arrivals.specs.declared.arrival.Outcome.TheVariants.{Swept, Unswept}
use Rattle.arrivals.proofs.CrashLemmas.{carries_one}
use Rattle.arrivals.proofs.TakenLemmas.{jobs_swept, none_swept}
use Rattle.arrivals.proofs.taking.take_sweep.Goals as goal

is_event : (e : Event) → e ≡ expire → IsEvent e
is_event e is = subst IsEvent (sym is) tt

pub returns-in-Ok-clause-taken : goal.returns-in-Ok-clause-taken
returns-in-Ok-clause-taken g c = λ honest w s v.
    let a = c.in-Ok.ensures.crash honest w s in
    jobs_swept (g.B.QueueBook.stands c.sweep.new.book) (Carries (g.B.QueueBook.crash_leaves c.args.book.now) (g.B.QueueBook.crash_leaves c.sweep.new.book) (AsksAt c.args.now Sweep (Swept c.in-Ok.ended)) w)
    c.args.now c.in-Ok.ended w a.0 c.requires a.1 a.2
    (carries_one (g.B.QueueBook.crash_leaves c.args.book.now) (g.B.QueueBook.crash_leaves c.sweep.new.book) (λ e. e ≡ expire) _ c.args.now Sweep (Swept c.in-Ok.ended) w a.0
    is_event (λ e asks told stays. absurd (cc)) c.requires a.3) v

pub returns-in-Err-clause-taken : goal.returns-in-Err-clause-taken
returns-in-Err-clause-taken g c = λ honest w s v.
    let a = c.in-Err.ensures.crash honest w s in
    none_swept (g.B.QueueBook.stands c.sweep.new.book) (Carries (g.B.QueueBook.crash_leaves c.args.book.now) (g.B.QueueBook.crash_leaves c.sweep.new.book) (AsksAt c.args.now Sweep (Unswept c.in-Err.fault)) w)
    c.args.now c.in-Err.fault w a.0 c.requires a.1 a.2
    (carries_one (g.B.QueueBook.crash_leaves c.args.book.now) (g.B.QueueBook.crash_leaves c.sweep.new.book) (λ e. e ≡ expire) _ c.args.now Sweep (Unswept c.in-Err.fault) w a.0
    is_event (λ e asks told stays. (asks, stays)) c.requires a.3) v
