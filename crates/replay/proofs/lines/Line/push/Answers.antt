use Rattle.std.proofs.Common.{rules, arith, ◌≡◌, ◌-◌, ◌++◌, ◌||◌, min, length, take, sym, ap, ◌∙◌}
use Rattle.std.specs.Prelude.{nat_lt}
use Rattle.std.proofs.lemmas.Grind.{common_steps}
use Rattle.replay.proofs.LineLemmas.{cut_more, front_more}
use Rattle.replay.proofs.lines.Line.push.Goals as goal

pub returns : goal.returns
returns c = λ bytes h.
    let old = c.args.self.now.bytes.items in
    let piece = c.args.piece.now in
    let count : c.min-kept.result ≡ min (length piece) (33554436 - length old) =
    omega (arith, c.args.self.now.bytes.ok.0, c.len.ensures, c.saturating_sub-room.ensures, c.min-kept.ensures) in
    let items : c.extend_from_slice.new.self.items ≡ old ++ take c.min-kept.result piece = search (rules, common_steps) in (
      items ∙ ap (λ k. old ++ take k piece) count ∙ sym (front_more 33554436 bytes piece old h.0),
      ap (λ k. c.args.self.now.is_cut || nat_lt k (length piece)) count ∙ cut_more 33554436 bytes piece old _ h.0 h.1,
    )
