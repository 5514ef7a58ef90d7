use Rattle.std.proofs.Common.{◌+◌, List, [], ◌∷◌, ◌++◌, arith, ap, get_or, inl, length, length-append, refl, subst, take}
use Rattle.std.proofs.lemmas.List.{take_all, take_more}
use Rattle.arrivals.specs.Crash.{IsAskedBy, IsAtMostOneMore}
use Rattle.arrivals.proofs.CrashLemmas.{left_one}
use Rattle.arrivals.proofs.HistoryLemmas.{came_to_none, each_before_last, history_of, more_taken, none_taken, settings_after, taken_by}
use Rattle.arrivals.specs.History.{AreTaken}
use Rattle.arrivals.specs.Taken.{IsFaultless}
use Rattle.arrivals.specs.declared.arrival.Arrival.{Arrival}
use Rattle.arrivals.specs.declared.arrival.Arrived.TheVariants.{Connection}
use Rattle.arrivals.proofs.taking.take_all.Goals as goal

pub loop-arrival-init : goal.loop-arrival-init
loop-arrival-init g c = record {
  began = λ h. h;
  count = omega (arith, ap length c.in_ok-outcomes.ensures.items);
  room = c.in_ok-outcomes.ensures.capacity;
  live = λ honest live all. live;
  taken = λ honest w s set. none_taken g.B.QueueBook c.args.book.now w c.in_ok-outcomes.outcomes.items (g.W.Write.contents c.args.writer.now) c.in_ok-outcomes.ensures.items s;
}

-- past the end of a list
abbrev blank : Arrival
blank = record { moment = 0; what = Connection (record { ref_ptr = (0, 0); now = [] }) }

pub loop-arrival-preserved : goal.loop-arrival-preserved
loop-arrival-preserved g c = record {
  began = λ honest. c.loop-arrival.invariant.began (c.take-outcome.ensures.began honest);
  count = omega (arith, ap length c.push_reserved.ensures.items, length-append c.loop-arrival.outcomes.items (c.take-outcome.result ∷ []), c.loop-arrival.invariant.count);
  room = omega (arith, c.push_reserved.ensures.capacity, c.loop-arrival.invariant.room);
  live = λ honest live all.
      let each = each_before_last IsFaultless c.loop-arrival.outcomes.items c.take-outcome.result (rw c.push_reserved.ensures.items at all) in
      c.take-outcome.ensures.live honest (c.loop-arrival.invariant.live (c.take-outcome.ensures.began honest) live each.0) each.1;
  taken = λ honest w s set.
      let i = c.loop-arrival.arrival-index in
      let arrivals = c.args.arrivals.now in
      let t = c.loop-arrival.invariant.taken (c.take-outcome.ensures.began honest) w s set in
      let k = c.take-outcome.ensures.taken honest t.after t.stands_after (settings_after c.args.settings.now w t.after t.places t.run_is set) in
      let x = g.W.Write.contents c.args.writer.now in
      let z = g.W.Write.contents c.take-outcome.new.writer in
      taken_by g.B.QueueBook c.args.book.now c.take-outcome.new.book w x z (take i arrivals ++ get_or arrivals i blank ∷ []) (take (i + 1) arrivals)
      (c.loop-arrival.outcomes.items ++ c.take-outcome.result ∷ []) c.push_reserved.new.self.items (take_more arrivals i blank c.loop-arrival-test.true) c.push_reserved.ensures.items
      (more_taken c.run_keeps.ensures.joined g.B.QueueBook c.args.book.now c.loop-arrival.book c.take-outcome.new.book w (take i arrivals) c.loop-arrival.outcomes.items (get_or arrivals i blank)
      c.take-outcome.result x (g.W.Write.contents c.loop-arrival.writer) z t k);
}

pub returns-clause-history : goal.returns-clause-history
returns-clause-history g c = λ honest w s set. history_of c.run_keeps.ensures.sound c.run_keeps.ensures.moves c.run_keeps.ensures.balances g.B.QueueBook c.args.book.now c.loop-arrival.book w
    (take c.loop-arrival.arrival-index c.args.arrivals.now) c.args.arrivals.now c.loop-arrival.outcomes.items (g.W.Write.contents c.args.writer.now) (g.W.Write.contents c.loop-arrival.writer)
    (take_all c.loop-arrival.arrival-index c.args.arrivals.now c.loop-arrival-test.false)
    (g.met.B.QueueBook.sound c.args.book.now w (c.loop-arrival.invariant.began honest) s)
    (c.loop-arrival.invariant.taken honest w s set)

pub returns-clause-crash : goal.returns-clause-crash
returns-clause-crash g c = λ honest live w s set.
    let was = c.loop-arrival.invariant.began honest in
    let t = c.loop-arrival.invariant.taken honest w s set in
    let l = t.is_left w (g.met.B.QueueBook.lasts c.args.book.now w w was live s) in record {
      queue = t.after;
      stands = t.stands_after;
      places = t.places;
      came = (
        t.written,
        subst (λ (xs : List Arrival). AreTaken w xs c.loop-arrival.outcomes.items t.written t.places t.after)
            (take_all c.loop-arrival.arrival-index c.args.arrivals.now c.loop-arrival-test.false) t.comes,
      );
      are = t.are;
      run_is = t.run_is;
      left = l.0;
      leaves = l.1;
      one_more = subst (λ (xs : List Arrival). IsAtMostOneMore (IsAskedBy xs c.loop-arrival.outcomes.items w t.after) t.after l.0) (take_all c.loop-arrival.arrival-index c.args.arrivals.now c.loop-arrival-test.false)
          (left_one (IsAskedBy (take c.loop-arrival.arrival-index c.args.arrivals.now) c.loop-arrival.outcomes.items w t.after) w t.after l.0 l.2);
    }

pub returns-in_err-outcomes-clause-crash : goal.returns-in_err-outcomes-clause-crash
returns-in_err-outcomes-clause-crash g c = λ honest live w s set.
    record { queue = w; stands = s; places = []; came = came_to_none _ w c.args.arrivals.now c.from_residual.result c.from_residual.ensures.1; are = tt; run_is = refl; left = w; leaves = g.met.B.QueueBook.lasts c.args.book.now w w honest live s; one_more = inl refl }
