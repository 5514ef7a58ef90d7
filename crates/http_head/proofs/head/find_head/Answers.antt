use Rattle.std.proofs.Common.{arith, refl, rules}
use Rattle.std.proofs.KnownBytes.{Keeps-refl}
use Rattle.http_head.proofs.HeadLemmas.{refused_full, refused_many, refused_never}
use Rattle.http_head.proofs.head.find_head.Goals as goal

pub fill-init : goal.fill-init
fill-init g c = record { kept = Keeps-refl _; never_more = search rules; unread = λ h rest reads. refl }

pub returns-in-Err-TooManyHeaders-clause-failed : goal.returns-in-Err-TooManyHeaders-clause-failed
returns-in-Err-TooManyHeaders-clause-failed g c =
    grind (arith, refused_many, c.fill.invariant.kept, c.bytes.ensures.value, c.in-Err-TooManyHeaders.ensures.no_room, c.in-Err-TooManyHeaders.ensures.too_many)

pub returns-in-Err-clause-failed : goal.returns-in-Err-clause-failed
returns-in-Err-clause-failed g c =
    grind (arith, refused_never, c.fill.invariant.kept, c.bytes.ensures.value, c.bytes.ensures.fits, c.in-Err.ensures.invalid)

pub returns-then-bytes-eq-MOST_HEAD_BYTES-clause-failed : goal.returns-then-bytes-eq-MOST_HEAD_BYTES-clause-failed
returns-then-bytes-eq-MOST_HEAD_BYTES-clause-failed g c =
    grind (arith, refused_full, c.fill.invariant.kept, c.bytes.ensures.value, c.bytes-in-fill.ensures.value, c.in-Ok-Partial.ensures.partial, c.in-Ok-Partial.ensures.unfinished)
