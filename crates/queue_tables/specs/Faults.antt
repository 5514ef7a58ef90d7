-- How an error of the store is told.
use Rattle.sqlite.specs.declared.error.Error.{Error}
use Rattle.sqlite.specs.declared.error.Error.TheVariants.{SqliteFailure}
use Rattle.sqlite.specs.declared.error.ErrorCode.TheVariants.{OutOfMemory, ConstraintViolation}
use Rattle.sqlite_schema.specs.declared.schema.Constraint.TheVariants.{PrimaryKey}
use Rattle.queue_core.specs.declared.book.BookFault.{BookFault}
use Rattle.queue_core.specs.declared.book.BookFault.TheVariants.{Memory as BookMemory, Disk as BookDisk, Damaged as BookDamaged}
use Rattle.queue_tables.specs.declared.fault.Fault.{Fault}
use Rattle.queue_tables.specs.declared.fault.Fault.TheVariants.{Memory, Disk, Damaged}

-- a query was not run to its end
abbrev pub read_fault : Error → Fault
read_fault (SqliteFailure OutOfMemory) = Memory
read_fault _ = Disk

-- a value has not the form of its column
abbrev pub form_fault : Error → Fault
form_fault (SqliteFailure OutOfMemory) = Memory
form_fault _ = Damaged

-- a statement that writes was not run to its end: a constraint refused a row, or else it is told as of a query
abbrev pub write_fault : Error → Fault
write_fault (SqliteFailure (ConstraintViolation which)) = Damaged
write_fault e = read_fault e

-- of a row whose rowid the store chooses: where that is taken, the rowids are used up
abbrev pub insert_fault : Error → Fault
insert_fault (SqliteFailure (ConstraintViolation PrimaryKey)) = Disk
insert_fault e = write_fault e

abbrev pub told_as : Fault → BookFault
told_as Memory = BookMemory
told_as Disk = BookDisk
told_as Damaged = BookDamaged
