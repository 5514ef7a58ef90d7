use Rattle.std.proofs.Common.{◌∙◌, ap, map}
use Rattle.std.specs.List.{list_any}
use Rattle.httparse.specs.Spans.{span_bytes}
use Rattle.http_head.specs.Fields.{has_member}
use Rattle.http_head.proofs.FieldLemmas.{any_over}
use Rattle.http_head.proofs.checks.asks_for.Goals as goal

pub returns : goal.returns
returns c =
    c.any_has.ensures ∙ any_over (has_member c.args.word.now) (span_bytes c.args.come.now) c.as_slice.result.now
    ∙ ap (λ spans. list_any (has_member c.args.word.now) (map (span_bytes c.args.come.now) spans)) c.as_slice.ensures.value
    ∙ ap (list_any (has_member c.args.word.now)) c.values.ensures
