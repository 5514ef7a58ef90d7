use Rattle.http_front.proofs.AnswerLemmas.{Laws}
use Rattle.http_front.proofs.BrokenLemmas.{broken_turns}
use Rattle.http_front.proofs.ConversationLemmas.{faultless_turns, one_conversation, same_requests}
use Rattle.http_front.proofs.law.one_conversation.Goals as goal
use Rattle.http_front.proofs.law.one_conversation.Goals.{After-one_verdict}

-- what the crates below promise
abbrev laws : After-one_verdict → Laws
laws c = record {
  heads = c.one_reading.ensures.heads;
  bodies = c.one_reading.ensures.bodies;
  whole_heads = c.one_reading.ensures.whole_heads;
  whole_bodies = c.one_reading.ensures.whole_bodies;
  one_text = c.one_spelling.ensures.one_text;
  one_verdict = c.one_verdict.ensures;
  one_report = c.one_line_reading.ensures;
}

pub returns-clause-requests : goal.returns-clause-requests
returns-clause-requests c = same_requests (laws c)

pub returns-clause-served : goal.returns-clause-served
returns-clause-served c = one_conversation (laws c)

pub returns-clause-faultless : goal.returns-clause-faultless
returns-clause-faultless c = faultless_turns (laws c)

pub returns-clause-broken : goal.returns-clause-broken
returns-clause-broken c = broken_turns (laws c)
