-- Why a book can't do what the office asks.
use Rattle.std.specs.Prelude.{◌≡◌, ◌⊎◌}
use Rattle.grants_csv.specs.declared.fault.ImportFault.{ImportFault}
use Rattle.queue_core.specs.declared.book.BookFault.{BookFault}
use Rattle.queue_core.specs.declared.book.BookFault.TheVariants as book
use Rattle.office.specs.declared.fault.OfficeFault.{OfficeFault}
use Rattle.office.specs.declared.fault.OfficeFault.TheVariants.{Memory, Disk, Damaged, Import, Io}

abbrev pub fault_of_book : BookFault → OfficeFault
fault_of_book book.Memory = Memory
fault_of_book book.Disk = Disk
fault_of_book book.Damaged = Damaged

-- a file or a stream failed, or there was no memory
abbrev pub IsOfStream : OfficeFault → Type 0
IsOfStream f = (f ≡ Memory) ⊎ (f ≡ Io)

-- an account file was refused
abbrev pub IsOfFile : OfficeFault → Type 0
IsOfFile f = (told : ImportFault) × (f ≡ Import told)
