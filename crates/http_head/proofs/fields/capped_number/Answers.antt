use Rattle.std.proofs.Common.{rules}
use Rattle.http_head.proofs.FieldLemmas.{capped_more}
use Rattle.http_head.proofs.fields.capped_number.Goals as goal

pub loop-b-preserved : goal.loop-b-preserved
loop-b-preserved c = record {
  capped = search rules;
  value = λ digits. capped_more c.args.text.now c.loop-b.b-index c.loop-b.n c.from.result c.min-n.result (search rules) digits (c.loop-b.invariant.value digits) (search rules) (search rules);
}
