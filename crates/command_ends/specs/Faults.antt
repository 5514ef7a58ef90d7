-- What becomes of the faults of the parts.
use Rattle.std.specs.Prelude.{◌≡◌, ◌⊎◌}
use Rattle.queue_core.specs.declared.book.BookFault.{BookFault}
use Rattle.queue_core.specs.declared.book.BookFault.TheVariants as book
use Rattle.queue_types.specs.declared.operators.NameFault.{NameFault}
use Rattle.queue_types.specs.declared.operators.NameFault.TheVariants as names
use Rattle.queue_types.specs.declared.settings.SettingFault.{SettingFault}
use Rattle.queue_types.specs.declared.settings.SettingFault.TheVariants as setting
use Rattle.office.specs.declared.fault.OfficeFault.{OfficeFault}
use Rattle.office.specs.declared.fault.OfficeFault.TheVariants as office
use Rattle.replay.specs.declared.fault.Fault.{Fault as ReplayFault}
use Rattle.replay.specs.declared.fault.Fault.TheVariants as replay
use Rattle.command_ends.specs.declared.fault.Fault.{Fault}
use Rattle.command_ends.specs.declared.fault.Fault.TheVariants.{Memory, Disk, Damaged, NoAccount, Import, BadSetting, Io}

abbrev pub fault_of_book : BookFault → Fault
fault_of_book book.Memory = Memory
fault_of_book book.Disk = Disk
fault_of_book book.Damaged = Damaged

abbrev pub fault_of_setting : SettingFault → Fault
fault_of_setting setting.Bad = BadSetting
fault_of_setting setting.Memory = Memory

-- the names of operators are a setting
abbrev pub fault_of_names : NameFault → Fault
fault_of_names names.Memory = Memory
fault_of_names _ = BadSetting

abbrev pub fault_of_office : OfficeFault → Fault
fault_of_office office.Memory = Memory
fault_of_office office.Disk = Disk
fault_of_office office.Damaged = Damaged
fault_of_office office.NoAccount = NoAccount
fault_of_office (office.Import told) = Import told
fault_of_office office.Io = Io

abbrev pub fault_of_replay : ReplayFault → Fault
fault_of_replay replay.Memory = Memory
fault_of_replay replay.Disk = Disk
fault_of_replay replay.Io = Io

-- a file or a stream failed, or there was no memory
abbrev pub IsOfStream : Fault → Type 0
IsOfStream fault = (fault ≡ Memory) ⊎ (fault ≡ Io)
