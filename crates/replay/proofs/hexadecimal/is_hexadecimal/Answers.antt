use Rattle.replay.proofs.HexadecimalLemmas.{is_ok-decode_of}
use Rattle.replay.proofs.hexadecimal.is_hexadecimal.Goals as goal

pub returns-then-text-eq0 : goal.returns-then-text-eq0
returns-then-text-eq0 c = rw (is_ok-decode_of c.args.text.now, c.if-text-eq0.true) c.has_only_digits.ensures
