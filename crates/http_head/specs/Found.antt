-- A head that was found.
use Rattle.std.specs.Prelude.{◌≤◌, ℕ, List, length}
use Rattle.httparse.specs.Grammar.{RequestHead}
use Rattle.httparse.specs.declared.spans.HeaderSpan.{HeaderSpan}
use Rattle.httparse.specs.declared.spans.RequestSpans.{RequestSpans}
use Rattle.httparse.specs.Spans.{IsRequestAt, IsRequestWithin}
use Rattle.http_head.specs.Limits.{head_limit, field_limit}

-- the head stands at the front of what has come, and the spans cover its parts
pub record IsHeadAt (come : List ℕ) (headers : List HeaderSpan) (spans : RequestSpans) (h : RequestHead) : Type 0 where
  pub at : IsRequestAt come headers spans h
  pub within : IsRequestWithin come headers spans
  pub short : spans.len ≤ head_limit
  pub few : length h.fields ≤ field_limit
