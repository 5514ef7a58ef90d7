-- Why there is no request head to answer.
use Rattle.std.specs.Prelude.{◌≡◌, List, ℕ, Option, Some, IfSome, ⊤}
use Rattle.httparse.specs.Grammar.{RequestHead}
use Rattle.http_head.specs.Checks.{head_of, refusal_of}
use Rattle.http_head.specs.Head.{BeginsHead, EndsWithoutHead}
use Rattle.http_head.specs.declared.fault.HeadFault.{HeadFault}
use Rattle.http_head.specs.declared.fault.HeadFault.TheVariants.{Ended, Refused, Read}

-- of the bytes left: they begin with no head, or with one that a check refuses; nothing is said of a failed read
abbrev pub IsHeadFault : Option (List ℕ) → HeadFault → Type 0
IsHeadFault left (Ended end) = IfSome left (λ bytes. EndsWithoutHead bytes end)
IsHeadFault left (Refused refusal) =
    IfSome left (λ bytes. (h : RequestHead) × (rest : List ℕ) × BeginsHead bytes h rest × (refusal_of (head_of h) ≡ Some refusal))
IsHeadFault left Read = ⊤
