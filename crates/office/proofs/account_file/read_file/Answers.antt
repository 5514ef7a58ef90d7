use Rattle.std.proofs.Common.{rules}
use Rattle.office.proofs.Reading.{known_front}
use Rattle.office.proofs.account_file.read_file.Goals as goal

pub returns : goal.returns
returns g c = known_front c.read_to_end.new.buf.items c.args.most (g.R.Read.remaining c.args.reader) (search rules)
