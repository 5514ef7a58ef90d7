use Rattle.std.proofs.Common.{◌≡◌, true, sym, ◌∙◌, ◌&&◌}
use Rattle.std.specs.List.{list_all}
use Rattle.std.specs.Prelude.{nat_le, length}
use Rattle.std.specs.Str.{is_utf8}
use Rattle.std.proofs.lemmas.Bool.{and_parts}
use Rattle.queue_core.specs.Limits.{is_batch_byte}
use Rattle.grants_csv.specs.File.{is_batch}
use Rattle.grants_csv.proofs.Tests.{chosen}
use Rattle.grants_csv.proofs.Texts.{batch_utf8}
use Rattle.grants_csv.proofs.row.batch_text.Goals as goal

pub returns-then-is_batch : goal.returns-then-is_batch
returns-then-is_batch c =
    let bytes = c.args.bytes.now in
    let batch : is_batch bytes ≡ true = sym c.is_batch.ensures ∙ c.if-is_batch.true in
    let parts = and_parts (nat_le 1 (length bytes) && nat_le (length bytes) 40) (list_all is_batch_byte bytes) batch in
    chosen (is_utf8 bytes) (is_batch bytes) _ bytes c.utf8_text.ensures (batch_utf8 bytes parts.1) batch
