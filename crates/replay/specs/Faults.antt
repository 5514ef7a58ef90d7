-- What may end a replay.
use Rattle.std.specs.Prelude.{◌≡◌, ◌⊎◌}
use Rattle.replay.specs.declared.fault.Fault.{Fault}
use Rattle.replay.specs.declared.fault.Fault.TheVariants.{Memory, Io}

-- a stream failed, or there was no memory
abbrev pub IsOfStream : Fault → Type 0
IsOfStream fault = (fault ≡ Memory) ⊎ (fault ≡ Io)
