use Rattle.httparse.specs.Spans.{span_bytes}
use Rattle.http_head.specs.Fields.{is_digits}
use Rattle.http_head.proofs.FieldLemmas.{all_over, there-map}
use Rattle.http_head.proofs.framing.is_misframed.Goals as goal

pub returns : goal.returns
returns c =
    let come = c.args.come.now in
    let digits = c.all_are_digits-digits.ensures in
    let over = all_over is_digits (span_bytes come) c.args.lengths.now in
    let coded = there-map (span_bytes come) c.args.codings.now in
    let told = there-map (span_bytes come) c.args.lengths.now in
    cc
