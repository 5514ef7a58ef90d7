-- The texts that tell of a refusal.
use Rattle.std.specs.Prelude.{ℕ, List, Option, ◌++◌, codes, take}
use Rattle.std.specs.Fmt.{decimal}
use Rattle.std.specs.Io.KnownBytes.{Appends}
use Rattle.grants_csv.specs.Fault.{code_of}
use Rattle.command_ends.specs.declared.fault.Fault.{Fault}
use Rattle.command_ends.specs.declared.fault.Fault.TheVariants.{Memory, Disk, Damaged, NoAccount, Import, BadSetting, Io}

abbrev pub fault_text : Fault → List ℕ
fault_text Memory = codes "memory"
fault_text Disk = codes "disk"
fault_text Damaged = codes "damaged"
fault_text NoAccount = codes "no account"
fault_text (Import told) = codes "import fault " ++ decimal (code_of told.cause) ++ codes " at row " ++ decimal told.row
fault_text BadSetting = codes "bad setting"
fault_text Io = codes "io"

-- the one line of a refusal
abbrev pub refusal_line : Fault → List ℕ
refusal_line fault = codes "printd: " ++ fault_text fault ++ codes "\n"

-- a front of the line of this refusal was written, where those were the known bytes before and these are after it; no contract tells where a stream fails
abbrev pub Tells : Fault → Option (List ℕ) → Option (List ℕ) → Type 0
Tells fault before after = (n : ℕ) × Appends before after (take n (refusal_line fault))
