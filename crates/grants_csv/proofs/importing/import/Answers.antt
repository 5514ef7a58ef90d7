use Rattle.std.proofs.Common.{◌≡◌, Err, refl}
use Rattle.std.proofs.lemmas.Result.{IfErr-weaker}
use Rattle.queue_core.specs.Crash.{Carries, untaken}
use Rattle.grants_csv.specs.Fault.{fault}
use Rattle.grants_csv.specs.Import.{AskedBy}
use Rattle.grants_csv.proofs.ImportLemmas.{unread_imports, unread_replies, rows_import, rows_event}
use Rattle.grants_csv.proofs.Crashes.{rows_taken, rows_left}
use Rattle.grants_csv.proofs.importing.import.Goals as goal

pub take_rows-requires-clause-limits : goal.take_rows-requires-clause-limits
take_rows-requires-clause-limits g c = rw c.as_slice.ensures (c.in_ok-rows.ensures.few, c.in_ok-rows.ensures.limits)

pub returns-in_err-rows-clause-imports : goal.returns-in_err-rows-clause-imports
returns-in_err-rows-clause-imports g c = λ honest. unread_imports (g.B.QueueBook.stands c.args.book.now) c.args.now c.args.bytes.now c.in_err-rows.field-0.0 c.from_residual.result
    c.in_err-rows.ensures.read c.from_residual.ensures.0 c.from_residual.ensures.1

pub returns-clause-imports : goal.returns-clause-imports
returns-clause-imports g c = λ honest. rows_import (g.B.QueueBook.stands c.args.book.now) (λ w u. g.B.QueueBook.stands c.take_rows.new.book u) c.args.now c.args.bytes.now c.in_ok-rows.rows c.take_rows.result
    c.in_ok-rows.ensures.read (rw (← c.as_slice.ensures) (c.take_rows.ensures.added honest)) (rw (← c.as_slice.ensures) (c.take_rows.ensures.world honest)) (rw (← c.as_slice.ensures) (c.take_rows.ensures.refused honest)) c.take_rows.ensures.err

pub returns-in_err-rows-clause-crash : goal.returns-in_err-rows-clause-crash
returns-in_err-rows-clause-crash g c = λ honest w stands.
    let r = unread_imports
    (λ u. g.B.QueueBook.stands c.args.book.now u × Carries (g.B.QueueBook.crash_leaves c.args.book.now) (g.B.QueueBook.crash_leaves c.args.book.now) (AskedBy c.args.bytes.now) (c.from_residual.result ≡ Err fault) c.args.now w u)
    c.args.now c.args.bytes.now c.in_err-rows.field-0.0 c.from_residual.result
    c.in_err-rows.ensures.read c.from_residual.ensures.0 c.from_residual.ensures.1 w (stands, λ v left. (v, left, untaken refl refl)) in
    (r.0, r.1, r.2.0, r.2.1)

pub returns-clause-crash : goal.returns-clause-crash
returns-clause-crash g c = λ honest w stands.
    let r = rows_import (g.B.QueueBook.stands c.args.book.now)
    (λ w u. g.B.QueueBook.stands c.take_rows.new.book u × Carries (g.B.QueueBook.crash_leaves c.args.book.now) (g.B.QueueBook.crash_leaves c.take_rows.new.book) (AskedBy c.args.bytes.now) (c.take_rows.result ≡ Err fault) c.args.now w u)
    c.args.now c.args.bytes.now c.in_ok-rows.rows c.take_rows.result
    c.in_ok-rows.ensures.read (rw (← c.as_slice.ensures) (c.take_rows.ensures.added honest))
    (rows_taken (g.B.QueueBook.stands c.args.book.now) (g.B.QueueBook.stands c.take_rows.new.book) (g.B.QueueBook.crash_leaves c.args.book.now) (g.B.QueueBook.crash_leaves c.take_rows.new.book)
    c.args.now c.args.bytes.now c.in_ok-rows.rows c.take_rows.result _ c.in_ok-rows.ensures.read (rw (← c.as_slice.ensures) (c.take_rows.ensures.world honest)) (c.take_rows.ensures.live honest) (λ w u live stands. g.met.B.QueueBook.lasts c.take_rows.new.book w u honest live stands))
    (rw (← c.as_slice.ensures) (c.take_rows.ensures.refused honest))
    (rows_left (g.B.QueueBook.stands c.args.book.now) (g.B.QueueBook.stands c.take_rows.new.book) (g.B.QueueBook.crash_leaves c.args.book.now) (g.B.QueueBook.crash_leaves c.take_rows.new.book)
    c.args.now c.args.bytes.now c.in_ok-rows.rows c.take_rows.result c.in_ok-rows.ensures.read c.take_rows.ensures.err (rw (← c.as_slice.ensures) (c.take_rows.ensures.crash honest))) w stands in
    (r.0, r.1, r.2.0, r.2.1)

pub returns-clause-event : goal.returns-clause-event
returns-clause-event g c = rows_event c.args.bytes.now c.in_ok-rows.rows c.take_rows.result c.in_ok-rows.ensures.read c.in_ok-rows.ensures.few c.in_ok-rows.ensures.limits

pub returns-in_err-rows-clause-replies : goal.returns-in_err-rows-clause-replies
returns-in_err-rows-clause-replies g c = unread_replies c.args.bytes.now c.in_err-rows.field-0.0 c.from_residual.result c.in_err-rows.ensures.read c.from_residual.ensures.1

pub returns-clause-replies : goal.returns-clause-replies
returns-clause-replies g c = IfErr-weaker c.take_rows.result _ _ (λ f h rows has. h) c.take_rows.ensures.replies
