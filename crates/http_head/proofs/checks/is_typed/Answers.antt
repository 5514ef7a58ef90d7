use Rattle.std.proofs.Common.{◌∙◌, ap, map, sym}
use Rattle.std.specs.Prelude.{not}
use Rattle.std.specs.List.{list_all}
use Rattle.httparse.specs.Spans.{span_bytes}
use Rattle.http_head.specs.Checks.{is_type, is_identity}
use Rattle.http_head.specs.Framing.{is_there}
use Rattle.http_head.proofs.FieldLemmas.{all_over, there-map, three_are}
use Rattle.http_head.proofs.checks.is_typed.Goals as goal

pub returns : goal.returns
returns c =
    let come = c.args.come.now in
    three_are _ _ _ _ _ _
    (ap not c.is_empty.ensures ∙ sym (there-map (span_bytes come) c.values-types.result.items) ∙ ap is_there c.values-types.ensures)
    (c.are_types.ensures ∙ all_over (is_type c.args.asked.now) (span_bytes come) c.as_slice.result.now
    ∙ ap (λ l. list_all (is_type c.args.asked.now) (map (span_bytes come) l)) c.as_slice.ensures.value ∙ ap (list_all (is_type c.args.asked.now)) c.values-types.ensures)
    (c.are_identity.ensures ∙ all_over is_identity (span_bytes come) c.as_slice-2.result.now
    ∙ ap (λ l. list_all is_identity (map (span_bytes come) l)) c.as_slice-2.ensures.value ∙ ap (list_all is_identity) c.values-codings.ensures)
