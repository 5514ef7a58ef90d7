-- The values that a content stands for.
use Rattle.std.specs.Prelude.{List, map, string_bytes}
use Rattle.ipp_wire.specs.Message.{Value}
use Rattle.ipp_reply.specs.declared.content.Content.{Content as ContentRef}
use Rattle.ipp_reply.specs.declared.content.Content.TheVariants.{Integer, Enum, Text, Made, Moment, Reasons, Boolean, Texts, OperationIds, FormatNames}
use Rattle.queue_types.specs.Formats.{format_name, formats}
use Rattle.ipp_reply.specs.PrinterReply.{truth, operation_ids}
use Rattle.ipp_reply.specs.JobReply.{text, texts, integer, enumerated, moment, reason_words}

abbrev pub values_in : ContentRef → List Value
values_in (Integer n) = integer n
values_in (Enum n) = enumerated n
values_in (Text tag bytes) = text tag bytes.now
values_in (Made tag string) = text tag (string_bytes string)
values_in (Moment m) = moment m
values_in (Reasons r) = texts 0x44 (reason_words r)
values_in (Boolean b) = truth b
values_in (Texts tag words) = texts tag (map (λ w. w.now) words.now)
values_in OperationIds = operation_ids
values_in FormatNames = texts 0x49 (map format_name formats)
