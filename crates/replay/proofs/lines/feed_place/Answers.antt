use Rattle.replay.proofs.LineLemmas.{feed_found, front_found, none_found}
use Rattle.replay.proofs.lines.feed_place.Goals as goal

pub returns-clause-none : goal.returns-clause-none
returns-clause-none c = none_found c.args.come.now c.memchr.result c.memchr.ensures

pub returns-clause-front : goal.returns-clause-front
returns-clause-front c = front_found c.args.come.now c.memchr.result c.memchr.ensures

pub returns-clause-feed : goal.returns-clause-feed
returns-clause-feed c = feed_found c.args.come.now c.memchr.result c.memchr.ensures
