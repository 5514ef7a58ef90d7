use Rattle.http_head.proofs.FieldLemmas.{told}
use Rattle.http_head.proofs.fields.same_word.Goals as goal

pub returns : goal.returns
returns c = told _ _ _ c.eq_ignore_ascii_case.ensures.test
