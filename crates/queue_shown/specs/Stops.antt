-- How a document that was not sent whole is told of.
use Rattle.queue_core.specs.declared.book.SendCause.{SendCause}
use Rattle.queue_core.specs.declared.book.SendCause.TheVariants.{Book, Write as NotWritten}
use Rattle.queue_shown.specs.declared.send.Stop.{Stop}
use Rattle.queue_shown.specs.declared.send.Stop.TheVariants.{Tables, Write}
use Rattle.queue_tables.specs.Faults.{told_as}

abbrev pub told_cause : Stop → SendCause
told_cause (Tables fault) = Book (told_as fault)
told_cause Write = NotWritten
