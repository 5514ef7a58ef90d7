use Rattle.std.proofs.Common.{[], ◌∷◌, take, arith, length-append}
use Rattle.std.specs.Prelude.{map}
use Rattle.ipp_reply.specs.declared.printer_reply.PrinterAttribute.TheVariants.{PrinterUriSupported}
use Rattle.ipp_reply.specs.PrinterReply.{attribute}
use Rattle.ipp_reply.specs.PrinterView.{printer_of}
use Rattle.ipp_reply.proofs.PrinterRows.{attribute_fits}
use Rattle.ipp_reply.proofs.Put.{row_more}
use Rattle.ipp_reply.proofs.printer_reply.put_printer.Goals as goal

pub put-requires-clause-fits : goal.put-requires-clause-fits
put-requires-clause-fits c = rw (c.name.ensures, c.content-content.ensures) (attribute_fits c.plain_attribute.ensures (printer_of c.args.printer) _ c.requires)

pub put-requires-clause-begun : goal.put-requires-clause-begun
put-requires-clause-begun c = rw c.rows.invariant (omega (arith, length-append c.args.message.now.groups (record { tag = 0x04; attributes = map (attribute (printer_of c.args.printer)) (take c.rows.row-index c.args.rows.now) } ∷ [])))

pub rows-preserved : goal.rows-preserved
rows-preserved c = rw (c.in_ok-put.ensures, c.name.ensures, c.content-content.ensures, c.rows.invariant) (row_more c.args.message.now c.args.message.now.groups 0x04 (attribute (printer_of c.args.printer)) c.args.rows.now c.rows.row-index PrinterUriSupported c.rows-test.true)
