use Rattle.std.proofs.Common.{◌≡◌, Bool, true, false, ◌&&◌, ◌||◌}
use Rattle.ipp_reply.specs.Unsupported.{is_filled, unsupported_of}
use Rattle.ipp_request.specs.Unsupported.{is_strict}
use Rattle.ipp_request.specs.Request.{request_of}
use Rattle.ipp_request.proofs.unsupported.is_refused_for.Goals as goal

-- a is what was answered of x, b of y, and c of z

by_first : (a x y z : Bool) → a ≡ x → a ≡ true → a ≡ (x || (y && z))
by_first a true y z e t = e
by_first a false y z e t = absurd (cc)

by_last : (a b c x y z : Bool) → a ≡ x → a ≡ false → b ≡ y → b ≡ true → c ≡ z → c ≡ (x || (y && z))
by_last a b c true y z e f g t h = absurd (cc)
by_last a b c false true z e f g t h = h
by_last a b c false false z e f g t h = absurd (cc)

by_second : (a b x y z : Bool) → a ≡ x → a ≡ false → b ≡ y → b ≡ false → b ≡ (x || (y && z))
by_second a b true y z e f g t = absurd (cc)
by_second a b false true z e f g t = absurd (cc)
by_second a b false false z e f g t = t

pub returns-then-lists_known : goal.returns-then-lists_known
returns-then-lists_known c = by_first _ _ (is_strict (request_of c.args.request)) (is_filled (unsupported_of c.args.unsupported.now).job) (rw c.as_slice.ensures.value at c.lists_known.ensures) c.if-lists_known.true

pub returns-then-is_true : goal.returns-then-is_true
returns-then-is_true c = by_last _ _ _ _ (is_strict (request_of c.args.request)) (is_filled (unsupported_of c.args.unsupported.now).job) (rw c.as_slice.ensures.value at c.lists_known.ensures) c.if-lists_known.false c.is_true.ensures c.if-is_true.true (rw c.as_slice-then-is_true.ensures.value at c.is_filled.ensures)

pub returns-else-is_true : goal.returns-else-is_true
returns-else-is_true c = by_second _ _ _ (is_strict (request_of c.args.request)) (is_filled (unsupported_of c.args.unsupported.now).job) (rw c.as_slice.ensures.value at c.lists_known.ensures) c.if-lists_known.false c.is_true.ensures c.if-is_true.false
