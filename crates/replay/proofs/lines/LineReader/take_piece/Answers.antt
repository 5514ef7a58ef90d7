use Rattle.std.proofs.Common.{arith, ◌≡◌, ◌+◌, ◌-◌, ◌≤◌, ◌∷◌, ◌++◌, drop, take, slice_range, sym, ap, ◌∙◌}
use Rattle.replay.proofs.LineLemmas.{range_drop, range_length}
use Rattle.replay.proofs.lines.LineReader.take_piece.Goals as goal

pub returns-in_ok-push-in-Some-clause-taken : goal.returns-in_ok-push-in-Some-clause-taken
returns-in_ok-push-in-Some-clause-taken c =
    let fields = c.self.inside in
    let come = slice_range c.as_slice.result.now fields.start fields.end in
    let place = c.in-Some.place in
    let feed = c.in-Some.ensures.feed in
    let same = ap (λ xs. slice_range xs fields.start fields.end) c.as_slice.ensures.value ∙ ap (λ u. u.come) c.self.view_is in
    let len = range_length c.as_slice.result.now fields.start fields.end in
    let within : fields.start + (place + 1) ≤ fields.end = omega (arith, len, feed.0, c.self.invariant) in
    let rest = ap (λ xs. drop (place + 1) (slice_range xs fields.start fields.end)) c.as_slice.ensures.value
    ∙ sym (range_drop fields.buffer.items fields.start fields.end (place + 1) within) in (
      take place come,
      c.in-Some.ensures.front,
      c.in_ok-push-in-Some.ensures,
      sym same ∙ feed.1 ∙ ap (λ l. take place come ++ 10 ∷ l) rest,
    )

pub returns-in_ok-push-in-None-clause-taken : goal.returns-in_ok-push-in-None-clause-taken
returns-in_ok-push-in-None-clause-taken c =
    let fields = c.self.inside in
    let same = ap (λ xs. slice_range xs fields.start fields.end) c.as_slice.ensures.value ∙ ap (λ u. u.come) c.self.view_is in
    let none : fields.end - fields.end ≡ 0 = omega arith in (
      slice_range c.as_slice.result.now fields.start fields.end,
      c.in-None.ensures.none,
      c.in_ok-push-in-None.ensures,
      (sym same, ap (λ k. take k (drop fields.end fields.buffer.items)) none),
    )
