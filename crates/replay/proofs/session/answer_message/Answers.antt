use Rattle.std.proofs.Common.{[], ◌∷◌, ◌++◌, inl, inr, refl}
use Rattle.std.specs.Prelude.{codes}
use Rattle.std.specs.Io.KnownBytes.{Appends}
use Rattle.std.proofs.KnownBytes.{Appends-trans}
use Rattle.hex.specs.Hex.{encode_lower}
use Rattle.ipp_ops.specs.Answer.{bytes_of}
use Rattle.replay.specs.Session.{reply_line}
use Rattle.replay.proofs.session.answer_message.Goals as goal

pub returns-in_ok-write_all-in-Ok-2-clause-answered : goal.returns-in_ok-write_all-in-Ok-2-clause-answered
returns-in_ok-write_all-in-Ok-2-clause-answered g c = λ h w s set.
    let out = bytes_of c.in-Ok.reply in
    let a = c.in-Ok.ensures.reply h w s set in
    let contents = g.W.Write.contents in
    let hex : Appends (contents c.write_all.new.self) (contents c.put_hex.new.writer) (encode_lower out) = rw (← c.bytes.ensures) c.in_ok-put_hex-in-Ok.ensures in (
      a.0,
      reply_line out,
      inl (c.in-Ok.ensures.headed, out, a.1, refl),
      a.2,
      Appends-trans _ _ _ (codes "ipp ") (encode_lower out ++ 10 ∷ []) c.in_ok-write_all-in-Ok.ensures.bytes
          (Appends-trans _ _ _ (encode_lower out) (10 ∷ []) hex c.in_ok-write_all-in-Ok-2.ensures.bytes),
    )

pub returns-in_ok-write_all-in-Err-clause-answered : goal.returns-in_ok-write_all-in-Err-clause-answered
returns-in_ok-write_all-in-Err-clause-answered g c = λ h w s set. (
  w,
  codes "ipp short" ++ 10 ∷ [],
  inr (c.in-Err.ensures.short.0, refl, refl),
  c.in-Err.ensures.short.1 w s,
  c.in_ok-write_all-in-Err.ensures.bytes,
)
