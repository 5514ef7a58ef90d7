-- What a line of a replay says.
use Rattle.std.specs.Prelude.{◌≡◌, List, ℕ, ◌++◌, codes}
use Rattle.std.specs.Fmt.{decimal}
use Rattle.queue_core.specs.Limits.{IsMoment}
use Rattle.replay.specs.declared.request_line.RequestLine.{RequestLine}
use Rattle.replay.specs.declared.request_line.RequestLine.TheVariants.{Now, Ipp, Dev, Grant, Expire}

-- the bytes of the line are those of `now N`, `ipp HEX`, `dev LINE`, `grant B,A,P` or `expire`
abbrev pub Says : List ℕ → RequestLine → Type 0
Says line (Now n) = IsMoment n × (line ≡ codes "now " ++ decimal n)
Says line (Ipp digits) = line ≡ codes "ipp " ++ digits.now
Says line (Dev text) = line ≡ codes "dev " ++ text.now
Says line (Grant row) = line ≡ codes "grant " ++ row.now
Says line Expire = line ≡ codes "expire"
