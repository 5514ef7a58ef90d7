-- What each row of the printer's table says may stand in a message.
use Rattle.std.proofs.Common.{ℕ, ◌<◌, ◌^◌, List, length, refl, arith, lit<}
use Rattle.std.specs.Prelude.{codes}
use Rattle.std.specs.Int.{w32, to_be_bytes}
use Rattle.ipp_wire.specs.Message.{Attribute, IsAttribute, IsPlain, IsPlainAttribute}
use Rattle.queue_types.specs.Settings.{AreSettings}
use Rattle.ipp_reply.specs.declared.printer_reply.PrinterAttribute.{PrinterAttribute}
use Rattle.ipp_reply.specs.declared.printer_reply.PrinterAttribute.TheVariants.{PrinterUriSupported, PrinterName, IppVersionsSupported, OperationsSupported, DocumentFormatSupported}
use Rattle.ipp_reply.specs.PrinterReply.{Printer, name_of, values_of, attribute}
use Rattle.ipp_reply.proofs.Rows.{ArePlain, IsFitName, one, plain}

keyword_fits : (word : List ℕ) → length word < 2 ^ 15 → IsPlain (record { tag = 0x44; bytes = word })
keyword_fits word short = plain 0x44 word refl short

media_fits : (word : List ℕ) → length word < 2 ^ 15 → IsPlain (record { tag = 0x49; bytes = word })
media_fits word short = plain 0x49 word refl short

id_fits : (n : ℕ) → IsPlain (record { tag = 0x23; bytes = to_be_bytes w32 n })
id_fits n = plain 0x23 (to_be_bytes w32 n) refl (lit< tt)

values_fit : (p : Printer) (a : PrinterAttribute) → AreSettings p.settings → ArePlain (values_of p a)
values_fit p PrinterUriSupported s = one 0x45 _ refl (omega (arith, s.uri_fits))
values_fit p PrinterName s = one 0x42 _ refl (omega (arith, s.name_fits))
values_fit p IppVersionsSupported s = record { some = lit< tt; all = (keyword_fits (codes "1.1") (lit< tt), (keyword_fits (codes "2.0") (lit< tt), tt)) }
values_fit p OperationsSupported s = record { some = lit< tt; all = (id_fits 0x0002, (id_fits 0x0004, (id_fits 0x0005, (id_fits 0x0006, (id_fits 0x0008, (id_fits 0x0009, (id_fits 0x000A, (id_fits 0x000B, (id_fits 0x000C, (id_fits 0x000D, (id_fits 0x0039, tt))))))))))) }
values_fit p DocumentFormatSupported s = record { some = lit< tt; all = (media_fits (codes "application/octet-stream") (lit< tt), (media_fits (codes "application/pdf") (lit< tt), (media_fits (codes "application/postscript") (lit< tt), (media_fits (codes "image/jpeg") (lit< tt), (media_fits (codes "image/pwg-raster") (lit< tt), (media_fits (codes "image/urf") (lit< tt), (media_fits (codes "text/plain") (lit< tt), tt))))))) }
values_fit p _ s = one _ _ refl (lit< tt)

name_fits : (a : PrinterAttribute) → IsFitName (name_of a)
name_fits PrinterUriSupported = record { some = lit< tt; short = lit< tt }
name_fits _ = record { some = lit< tt; short = lit< tt }

-- each row's attribute may stand in a message
pub attribute_fits : ((a : Attribute) → IsPlainAttribute a → IsAttribute a) → (p : Printer) (a : PrinterAttribute) → AreSettings p.settings → IsAttribute (attribute p a)
attribute_fits law p a s =
    let named = name_fits a in
    let values = values_fit p a s in
    law (attribute p a) (record { named = named.some; short = named.short; valued = values.some; plain = values.all })
