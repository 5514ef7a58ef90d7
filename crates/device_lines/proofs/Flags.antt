-- A fact for one value of a test.
use Rattle.std.proofs.Common.{Bool, true, false}
use Rattle.std.specs.Bool.{OnFalse, OnTrue}

pub on_false : (P : Type 0) (b : Bool) → P → OnFalse b P
on_false P true p = tt
on_false P false p = p

pub on_true : (P : Type 0) (b : Bool) → P → OnTrue b P
on_true P true p = p
on_true P false p = tt
