use Rattle.std.proofs.Common.{◌≡◌}
use Rattle.replay.proofs.LineLemmas.{left_all}
use Rattle.replay.specs.Unread.{left}
use Rattle.replay.proofs.replaying.replay_over.Goals as goal

pub returns-clause-answered : goal.returns-clause-answered
returns-clause-answered g c =
    let all : left c.in_ok-lines.lines (g.R.Read.remaining c.args.input.now) ≡ g.R.Read.remaining c.args.input.now = left_all c.in_ok-lines.lines (g.R.Read.remaining c.args.input.now) c.in_ok-lines.ensures.0 in
    rw all at c.answer_lines.ensures.answered
