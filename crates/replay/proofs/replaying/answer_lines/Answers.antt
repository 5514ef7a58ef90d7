use Rattle.std.proofs.Common.{arith, ◌≡◌, ◌+◌, ◌++◌, ◌∙◌, ℕ, List, [], Option, refl, sym, subst}
use Rattle.std.specs.Io.KnownBytes.{Appends}
use Rattle.std.proofs.KnownBytes.{Appends-kept, Appends-nil, Appends-trans}
use Rattle.std.proofs.lemmas.Bool.Decides.{when_false, when_true}
use Rattle.std.proofs.lemmas.Result.{IfOk-weaker}
use Rattle.replay.proofs.SessionLemmas.{takes_settings}
use Rattle.replay.specs.Replay.{TakesLine, bad_line, broken, none, one_more, whole}
use Rattle.replay.specs.Session.{state}
use Rattle.replay.proofs.replaying.answer_lines.Goals as goal

pub loop-number-init : goal.loop-number-init
loop-number-init g c = record { began = λ h. h; moment = c.args.first.moment; taken = λ h w s set. (w, 0, [], refl, none, s, set, Appends-nil _) }

pub loop-number-preserved : goal.loop-number-preserved
loop-number-preserved g c = record {
  began = λ h. c.loop-number.invariant.began (c.take_line.ensures.began h);
  moment = rw c.in-Some.is at c.in_ok-next.ensures.moment;
  taken = λ h w s set.
      let r = c.loop-number.invariant.taken (c.take_line.ensures.began h) w s set in
      let given = when_true _ _ c.if-not-branch.false c.in_ok-next_line.ensures.given in
      let took = rw c.in-Some.is at (c.in_ok-next.ensures.taken h) in
      let t = took r.0 r.5 (c.at.ensures.settings ∙ r.6) in
      let takes = subst (λ (n : ℕ). TakesLine c.next_line.new.line (state n r.0) (state c.in-Some.next t.0) t.1) c.at.ensures.moment t.2 in
      let kept = takes_settings takes.request (state c.loop-number.now r.0) (state c.in-Some.next t.0) t.1 takes.takes in
      let counted = r.3 in (
        t.0,
        r.1 + 1,
        r.2 ++ t.1,
        omega (arith, counted),
        one_more r.1 r.2 t.1 _ _ _ _ _ r.4 given takes,
        t.3,
        r.6 ∙ sym kept,
        Appends-trans _ _ _ r.2 t.1 (Appends-kept _ _ _ _ r.7 c.in_ok-next_line.ensures.flushed) t.4,
      );
}

pub returns-then-not-branch-clause-status : goal.returns-then-not-branch-clause-status
returns-then-not-branch-clause-status g c = IfOk-weaker c.end.result _ _ (λ status it. let is = it.0 in omega (arith, is)) c.end.ensures.ended

pub returns-then-not-branch-clause-answered : goal.returns-then-not-branch-clause-answered
returns-then-not-branch-clause-answered g c = λ h. IfOk-weaker c.end.result _ _ (λ status it. rw it.0 (λ w s set.
    let r = c.loop-number.invariant.taken h w s set in
    let end = when_false _ _ c.if-not-branch.true c.in_ok-next_line.ensures.given in (
      state c.loop-number.now r.0,
      r.2,
      whole r.1 r.2 _ _ r.4 end,
      r.5,
      Appends-kept _ _ _ _ (Appends-kept _ _ _ _ r.7 c.in_ok-next_line.ensures.flushed) it.1,
    ))) c.end.ensures.ended

-- the text of the same line, over the same writer
told_as : {X : Type 0} (contents : X → Option (List ℕ)) (old same new : X) (number count : ℕ) → same ≡ old → count ≡ number
    → Appends (contents same) (contents new) (bad_line number) → Appends (contents old) (contents new) (bad_line count)
told_as {X} contents old same new number count is counted told =
    subst (λ (x : X). Appends (contents x) (contents new) (bad_line count)) is
    (subst (λ (k : ℕ). Appends (contents same) (contents new) (bad_line k)) (sym counted) told)

pub returns-in-None-clause-status : goal.returns-in-None-clause-status
returns-in-None-clause-status g c = IfOk-weaker c.end_at_bad_line.result _ _ (λ status it. let is = it.0 in omega (arith, is)) c.end_at_bad_line.ensures.ended

pub returns-in-None-clause-answered : goal.returns-in-None-clause-answered
returns-in-None-clause-answered g c = λ h. IfOk-weaker c.end_at_bad_line.result _ _ (λ status it. rw it.0 (λ w s set.
    let r = c.loop-number.invariant.taken (c.take_line.ensures.began h) w s set in
    let given = when_true _ _ c.if-not-branch.false c.in_ok-next_line.ensures.given in
    let bad = rw c.in-None.is at c.in_ok-next.ensures.bad in
    let told = told_as g.W.Write.contents _ _ _ _ _ bad.2 r.3 it.1 in (
      state c.loop-number.now r.0,
      r.2 ++ bad_line (r.1 + 1),
      broken r.1 r.2 _ _ _ _ r.4 given bad.0,
      subst (λ b. g.B.QueueBook.stands b r.0) (sym bad.1) r.5,
      Appends-trans _ _ _ r.2 (bad_line (r.1 + 1)) (Appends-kept _ _ _ _ r.7 c.in_ok-next_line.ensures.flushed) told,
    ))) c.end_at_bad_line.ensures.ended
