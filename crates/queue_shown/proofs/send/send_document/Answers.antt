use Rattle.std.proofs.Common.{IsTrue, rules, arith, sym, ◌∙◌}
use Rattle.std.proofs.KnownBytes.{Appends-nil}
use Rattle.sqlite.specs.Held.{state}
use Rattle.queue_tables.proofs.Entries.{distinct_of}
use Rattle.queue_shown.proofs.Damage.{damage_told, write_told}
use Rattle.queue_shown.proofs.PieceRows.{none_without}
use Rattle.queue_shown.proofs.RowByRow.{leaves_behind}
use Rattle.queue_shown.proofs.PiecesSent.{whole_sent, front_sent, there_shown}
use Rattle.queue_tables.proofs.Ending.{clean_before}
use Rattle.queue_tables.proofs.Leaving.{leaves_all, left_leaves, still_outside, survives_serves}
use Rattle.queue_shown.proofs.send.send_document.Goals as goal

pub returns-then-not-is_autocommit-clause-err : goal.returns-then-not-is_autocommit-clause-err
returns-then-not-is_autocommit-clause-err g c clean w d sound has there = (omega arith, Appends-nil (g.W.Write.contents c.args.out.now))

pub returns-then-not-is_autocommit-clause-leaves : goal.returns-then-not-is_autocommit-clause-leaves
returns-then-not-is_autocommit-clause-leaves g c = leaves_all (state g.S.Store c.args.conn.now)

pub returns-in-Ok-clause-leaves : goal.returns-in-Ok-clause-leaves
returns-in-Ok-clause-leaves g c =
    let outside : IsTrue c.is_autocommit.result = search rules in
    let sends = c.send_pieces.ensures.sends in
    left_leaves (state g.S.Store c.args.conn.now) (state g.S.Store c.send_pieces.new.conn) (c.is_autocommit.ensures.settled outside) (clean_before (state g.S.Store c.args.conn.now) (state g.S.Store c.send_pieces.new.conn) sends.survives.clean) (leaves_behind sends.survives)
    (still_outside c.args.conn.now.in_transaction c.send_pieces.new.conn.in_transaction c.is_autocommit.result c.is_autocommit.ensures.value outside sends.mode) (survives_serves (state g.S.Store c.args.conn.now) (state g.S.Store c.send_pieces.new.conn) (λ _. ⊥) sends.survives) sends.left

pub returns-in-Ok-clause-ok : goal.returns-in-Ok-clause-ok
returns-in-Ok-clause-ok g c clean w d sound has there =
    whole_sent (state g.S.Store c.args.conn.now) c.args.job c.args.n w d (distinct_of 1 w.jobs w.next sound.numbers) has (there_shown w c.args.job c.args.n d there)
    (g.W.Write.contents c.args.out.now) (g.W.Write.contents c.send_pieces.new.out) c.send_pieces.new.written (c.in-Ok.ensures.sends.sent (λ early. has.schema) clean)

pub returns-in-Err-clause-leaves : goal.returns-in-Err-clause-leaves
returns-in-Err-clause-leaves g c =
    let outside : IsTrue c.is_autocommit.result = search rules in
    let sends = c.send_pieces.ensures.sends in
    left_leaves (state g.S.Store c.args.conn.now) (state g.S.Store c.send_pieces.new.conn) (c.is_autocommit.ensures.settled outside) (clean_before (state g.S.Store c.args.conn.now) (state g.S.Store c.send_pieces.new.conn) sends.survives.clean) (leaves_behind sends.survives)
    (still_outside c.args.conn.now.in_transaction c.send_pieces.new.conn.in_transaction c.is_autocommit.result c.is_autocommit.ensures.value outside sends.mode) (survives_serves (state g.S.Store c.args.conn.now) (state g.S.Store c.send_pieces.new.conn) (λ _. ⊥) sends.survives) sends.left

pub returns-in-Err-clause-err : goal.returns-in-Err-clause-err
returns-in-Err-clause-err g c clean w d sound has there =
    front_sent (state g.S.Store c.args.conn.now) c.args.job c.args.n w d (distinct_of 1 w.jobs w.next sound.numbers) has (there_shown w c.args.job c.args.n d there)
    (g.W.Write.contents c.args.out.now) (g.W.Write.contents c.send_pieces.new.out) c.send_pieces.new.written (c.in-Err.ensures.sends.front (λ early. has.schema) clean)

pub returns-in-Err-clause-damaged : goal.returns-in-Err-clause-damaged
returns-in-Err-clause-damaged g c clean damaged =
    let told = damage_told c.in-Err.stop (sym c.cause_of.ensures ∙ damaged) in record {
      live = c.in-Err.ensures.sends.was_open clean told;
      none = λ w sound has. none_without (state g.S.Store c.args.conn.now) c.args.job c.args.n w has (c.in-Err.ensures.sends.damaged (λ early. has.schema) clean told);
    }

pub returns-in-Err-clause-writer_failed : goal.returns-in-Err-clause-writer_failed
returns-in-Err-clause-writer_failed g c clean unwritten = c.in-Err.ensures.sends.writer_failed clean (write_told c.in-Err.stop (sym c.cause_of.ensures ∙ unwritten))

pub returns-in-Ok-clause-counted : goal.returns-in-Ok-clause-counted
returns-in-Ok-clause-counted g c = c.send_pieces.ensures.sends.counted
