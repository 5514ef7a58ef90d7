use Rattle.std.proofs.Common.{◌≡◌, [], ◌∷◌, ◌++◌, take}
use Rattle.std.specs.Prelude.{map}
use Rattle.ipp_reply.specs.PrinterReply.{attribute}
use Rattle.ipp_reply.specs.PrinterView.{printer_of}
use Rattle.ipp_reply.proofs.printer_reply.put_printer.Given as goal

abbrev pub invariant-rows : goal.invariant-rows
invariant-rows l = l.message ≡ record l.fn.message { groups = l.fn.message.groups ++ record { tag = 0x04; attributes = map (attribute (printer_of l.printer)) (take l.row-index l.rows) } ∷ [] }
