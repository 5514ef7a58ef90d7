use Rattle.httparse.specs.Spans.{span_bytes}
use Rattle.http_head.proofs.FieldLemmas.{all_same_is}
use Rattle.http_head.proofs.framing.all_same.Goals as goal

pub returns : goal.returns
returns c = all_same_is c.are_as.result (span_bytes c.args.come.now) c.args.lengths.now _ c.are_as.ensures c.first_text.ensures
