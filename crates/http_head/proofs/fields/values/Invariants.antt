use Rattle.std.proofs.Common.{◌≡◌, ◌≤◌, take, map, length}
use Rattle.httparse.specs.Spans.{span_bytes, header_bytes}
use Rattle.http_head.specs.Fields.{values}
use Rattle.http_head.proofs.fields.values.Given as goal

abbrev pub invariant-loop-header : goal.invariant-loop-header
invariant-loop-header l = record {
  few : length l.found.items ≤ l.header-index;
  found : map (span_bytes l.come) l.found.items ≡ values l.name (map (header_bytes l.come) (take l.header-index l.headers));
}
