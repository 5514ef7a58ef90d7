use Rattle.std.proofs.Common.{◌≡◌, Ok}
use Rattle.hex.specs.Hex.{decode_of}
use Rattle.replay.proofs.session.answer_digits.Goals as goal

pub returns-in_ok-answer_message-in-Ok-clause-answered : goal.returns-in_ok-answer_message-in-Ok-clause-answered
returns-in_ok-answer_message-in-Ok-clause-answered g c =
    let read : decode_of c.args.digits.now ≡ Ok c.as_slice.result.now = rw c.as_slice.ensures.value c.in-Ok.ensures.value in
    λ h w s set. let a = c.in_ok-answer_message-in-Ok.ensures.answered h w s set in (a.0, a.1, (c.as_slice.result.now, read, a.2), a.3, a.4)
