-- What the checks of a head answer.
use Rattle.std.specs.Prelude.{◌≡◌, ℕ, List, None, Some, Result, MatchResult, map, take}
use Rattle.httparse.specs.Grammar.{RequestHead}
use Rattle.httparse.specs.declared.spans.HeaderSpan.{HeaderSpan}
use Rattle.httparse.specs.declared.spans.RequestSpans.{RequestSpans}
use Rattle.httparse.specs.Spans.{span_bytes, header_bytes}
use Rattle.http_head.specs.Found.{IsHeadAt}
use Rattle.http_head.specs.Fields.{FieldLine}
use Rattle.http_head.specs.Checks.{Head, head_of, refusal_of, plan_of}
use Rattle.http_head.specs.declared.end.Refusal.{Refusal}
use Rattle.http_head.specs.declared.plan.Plan.{Plan}

-- the names and the values that the spans cover
abbrev pub fields_at : List ℕ → List HeaderSpan → List FieldLine
fields_at come headers = map (header_bytes come) headers

-- what the spans cover of a head
abbrev pub said : List ℕ → List HeaderSpan → RequestSpans → Head
said come headers spans = record {
  method = span_bytes come spans.method;
  target = span_bytes come spans.path;
  minor = spans.version;
  fields = fields_at come (take spans.headers headers);
}

-- the plan of a head, or the first check that applies to it
abbrev pub IsPlanOf : Head → Result Plan Refusal → Type 0
IsPlanOf h result = MatchResult result (λ plan. (refusal_of h ≡ None) × (plan ≡ plan_of h)) (λ refusal. refusal_of h ≡ Some refusal)

-- it is so for the head at the front of what has come
abbrev pub IsPlanned : List ℕ → List HeaderSpan → RequestSpans → Result Plan Refusal → Type 0
IsPlanned come headers spans result = (h : RequestHead) → IsHeadAt come headers spans h → IsPlanOf (head_of h) result
