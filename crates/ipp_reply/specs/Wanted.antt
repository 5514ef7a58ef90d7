-- The rows that a reply is to have.
use Rattle.std.specs.Prelude.{ℕ, List, [], map}
use Rattle.ipp_wire.specs.Message.{Value}
use Rattle.ipp_reply.specs.declared.job_reply.JobAttribute.{JobAttribute}
use Rattle.ipp_reply.specs.declared.printer_reply.PrinterAttribute.{PrinterAttribute}
use Rattle.ipp_reply.specs.declared.wanted.Wanted.{Wanted}
use Rattle.ipp_reply.specs.declared.wanted.Wanted.TheVariants.{Job, Printer}

-- of each job that is shown, or of the printer, in this order
pub data Rows : Type 0 where
  of_job : List JobAttribute → Rows
  of_printer : List PrinterAttribute → Rows

abbrev pub no_rows : Rows
no_rows = of_job []

abbrev pub job_rows : Rows → List JobAttribute
job_rows (of_job rows) = rows
job_rows (of_printer rows) = []

abbrev pub printer_rows : Rows → List PrinterAttribute
printer_rows (of_job rows) = []
printer_rows (of_printer rows) = rows

-- rows of the code, by their content
abbrev pub rows_of : Wanted → Rows
rows_of (Job rows) = of_job rows.items
rows_of (Printer rows) = of_printer rows.items

-- the words that ask for rows: the bytes of each value
abbrev pub words_of : List Value → List (List ℕ)
words_of vs = map (λ v. v.bytes) vs
