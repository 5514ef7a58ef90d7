-- The document formats, in order; the first is the default (RFC 8011, sections 5.4.21 and 5.4.22).
use Rattle.std.specs.Prelude.{ℕ, List, [], ◌∷◌, codes}
use Rattle.queue_types.specs.declared.document.Format.{Format}
use Rattle.queue_types.specs.declared.document.Format.TheVariants.{OctetStream, Pdf, Postscript, Jpeg, PwgRaster, Urf, PlainText}

abbrev pub format_name : Format → List ℕ
format_name OctetStream = codes "application/octet-stream"
format_name Pdf = codes "application/pdf"
format_name Postscript = codes "application/postscript"
format_name Jpeg = codes "image/jpeg"
format_name PwgRaster = codes "image/pwg-raster"
format_name Urf = codes "image/urf"
format_name PlainText = codes "text/plain"

abbrev pub formats : List Format
formats = OctetStream ∷ Pdf ∷ Postscript ∷ Jpeg ∷ PwgRaster ∷ Urf ∷ PlainText ∷ []
