-- When each refusal of reading comes.
use Rattle.std.specs.Prelude.{ℕ, ◌<◌, List, length}
use Rattle.ipp_wire.specs.declared.view.WireFault.{WireFault}
use Rattle.ipp_wire.specs.declared.view.WireFault.TheVariants.{Short, Malformed, Memory}
use Rattle.ipp_wire.specs.Message.{Message, Spells, IsStuck}

-- the bytes spell no message
abbrev pub IsMalformed : List ℕ → Type 0
IsMalformed b = (m : Message) → Spells m b → ⊥

-- under 8 bytes; or no message is spelled, and the longest open front ends there; or memory is short
abbrev pub IsFaultOf : List ℕ → WireFault → Type 0
IsFaultOf b Short = length b < 8
IsFaultOf b (Malformed at) = IsStuck b at × IsMalformed b
IsFaultOf b Memory = Unit {0}
