use Rattle.std.proofs.Common.{◌≡◌, ◌∙◌, ap, map, rules, Bool, ◌&&◌}
use Rattle.std.specs.Prelude.{codes, ◌==◌, ◌||◌}
use Rattle.std.specs.List.{list_any}
use Rattle.httparse.specs.Spans.{span_bytes}
use Rattle.http_head.specs.Fields.{values, has_member}
use Rattle.http_head.specs.Targets.{routed, path_of, media_type_of}
use Rattle.http_head.specs.Checks.{codings, lengths, are_typed}
use Rattle.http_head.specs.Planned.{said, fields_at}
use Rattle.http_head.proofs.PlanLemmas.{refused_unrouted, refused_routed, planned, values_said, misframed_said, framing_said}
use Rattle.http_head.proofs.plan.plan_said.Goals as goal

pub returns-in_default : goal.returns-in_default
returns-in_default c =
    let come = c.args.come.now in
    let h = said come c.args.headers.now c.args.spans in
    let fields = c.first_of-fields.ensures.value in
    let C : map (span_bytes come) c.as_slice.result.now ≡ codings h = values_said come c.args.headers.now _ c.args.spans.headers (codes "transfer-encoding") _ _ c.as_slice.ensures.value c.values-codings.ensures fields in
    let L : map (span_bytes come) c.as_slice-2.result.now ≡ lengths h = values_said come c.args.headers.now _ c.args.spans.headers (codes "content-length") _ _ c.as_slice-2.ensures.value c.values-lengths.ensures fields in
    refused_unrouted h c.is_misframed-misframed.result c.routed.result c.unrouted_refusal.result (c.routed.ensures ∙ ap routed (c.path_of.ensures ∙ ap path_of c.text_at.ensures)) (search rules)
    (misframed_said _ _ _ _ _ c.is_misframed-misframed.ensures C L) c.unrouted_refusal.ensures

pub returns-in-Some-routed_refusal : goal.returns-in-Some-routed_refusal
returns-in-Some-routed_refusal c =
    let come = c.args.come.now in
    let h = said come c.args.headers.now c.args.spans in
    let fields = c.first_of-fields.ensures.value in
    let C : map (span_bytes come) c.as_slice.result.now ≡ codings h = values_said come c.args.headers.now _ c.args.spans.headers (codes "transfer-encoding") _ _ c.as_slice.ensures.value c.values-codings.ensures fields in
    let L : map (span_bytes come) c.as_slice-2.result.now ≡ lengths h = values_said come c.args.headers.now _ c.args.spans.headers (codes "content-length") _ _ c.as_slice-2.ensures.value c.values-lengths.ensures fields in
    let D : map (span_bytes come) c.as_slice-3.result.now ≡ codings h = values_said come c.args.headers.now _ c.args.spans.headers (codes "transfer-encoding") _ _ c.as_slice-3.ensures.value c.values-codings.ensures fields in
    let M : map (span_bytes come) c.as_slice-4.result.now ≡ lengths h = values_said come c.args.headers.now _ c.args.spans.headers (codes "content-length") _ _ c.as_slice-4.ensures.value c.values-lengths.ensures fields in
    let t = c.in-Some.target in
    refused_routed h t c.routed.result c.is_misframed-misframed.result c.framing_told-framing.result c.text_at-2.result.now c.is_typed-typed.result c.routed_refusal.result
    (c.routed.ensures ∙ ap routed (c.path_of.ensures ∙ ap path_of c.text_at.ensures)) (search rules)
    (misframed_said _ _ _ _ _ c.is_misframed-misframed.ensures C L)
    (framing_said _ _ _ _ _ D M c.framing_told-framing.ensures)
    c.text_at-2.ensures
    (c.is_typed-typed.ensures ∙ ap (λ a. are_typed a (values (codes "content-type") (fields_at come c.first_of-fields.result.now)) (values (codes "content-encoding") (fields_at come c.first_of-fields.result.now))) c.media_type.ensures
    ∙ ap (λ fs. are_typed (media_type_of t) (values (codes "content-type") (fields_at come fs)) (values (codes "content-encoding") (fields_at come fs))) fields)
    c.routed_refusal.ensures
    ∙ (search rules)

pub returns : goal.returns
returns c =
    let come = c.args.come.now in
    let h = said come c.args.headers.now c.args.spans in
    let fields = c.first_of-fields.ensures.value in
    let C : map (span_bytes come) c.as_slice.result.now ≡ codings h = values_said come c.args.headers.now _ c.args.spans.headers (codes "transfer-encoding") _ _ c.as_slice.ensures.value c.values-codings.ensures fields in
    let L : map (span_bytes come) c.as_slice-2.result.now ≡ lengths h = values_said come c.args.headers.now _ c.args.spans.headers (codes "content-length") _ _ c.as_slice-2.ensures.value c.values-lengths.ensures fields in
    let D : map (span_bytes come) c.as_slice-3.result.now ≡ codings h = values_said come c.args.headers.now _ c.args.spans.headers (codes "transfer-encoding") _ _ c.as_slice-3.ensures.value c.values-codings.ensures fields in
    let M : map (span_bytes come) c.as_slice-4.result.now ≡ lengths h = values_said come c.args.headers.now _ c.args.spans.headers (codes "content-length") _ _ c.as_slice-4.ensures.value c.values-lengths.ensures fields in
    let t = c.in-Some.target in
    planned h t c.routed.result c.is_misframed-misframed.result c.framing_told-framing.result c.text_at-2.result.now c.is_typed-typed.result ((c.args.spans.version == 1) && c.asks_for.result) ((c.args.spans.version == 0) || c.asks_for-2.result) c.routed_refusal.result
    (c.routed.ensures ∙ ap routed (c.path_of.ensures ∙ ap path_of c.text_at.ensures)) (search rules)
    (misframed_said _ _ _ _ _ c.is_misframed-misframed.ensures C L)
    (framing_said _ _ _ _ _ D M c.framing_told-framing.ensures)
    c.text_at-2.ensures
    (c.is_typed-typed.ensures ∙ ap (λ a. are_typed a (values (codes "content-type") (fields_at come c.first_of-fields.result.now)) (values (codes "content-encoding") (fields_at come c.first_of-fields.result.now))) c.media_type.ensures
    ∙ ap (λ fs. are_typed (media_type_of t) (values (codes "content-type") (fields_at come fs)) (values (codes "content-encoding") (fields_at come fs))) fields)
    c.routed_refusal.ensures
    (search rules)
    (ap (λ (b : Bool). (c.args.spans.version == 1) && b) (c.asks_for.ensures ∙ ap (λ fs. list_any (has_member (codes "100-continue")) (values (codes "expect") (fields_at come fs))) fields))
    (ap (λ (b : Bool). (c.args.spans.version == 0) || b) (c.asks_for-2.ensures ∙ ap (λ fs. list_any (has_member (codes "close")) (values (codes "connection") (fields_at come fs))) fields))
