use Rattle.std.proofs.Common.{◌≡◌, ◌∷◌, ◌++◌, ◌-◌, ◌<◌, length, get_or, take, drop, ap, sym, ◌∙◌, arith}
use Rattle.std.proofs.lemmas.List.{drop_more, take_rest}
use Rattle.ipp_wire.specs.Message.{text_bytes}
use Rattle.ipp_wire.proofs.Text.{no_value}
use Rattle.ipp_wire.proofs.reading.record_at.Goals as goal

pub returns-in_err-value-clause-none : goal.returns-in_err-value-clause-none
returns-in_err-value-clause-none c =
    let bytes = c.args.bytes.now in
    let long : 0 < length bytes = omega arith in
    let parts : take (length bytes - 1) (drop 1 bytes) ≡ text_bytes c.in_ok-name.name.now ++ c.in_ok-name.after.now = c.in_ok-name.ensures.some in
    let whole : bytes ≡ get_or bytes 0 0 ∷ (text_bytes c.in_ok-name.name.now ++ c.in_ok-name.after.now) = drop_more bytes 0 0 long ∙ ap (λ r. get_or bytes 0 0 ∷ r) (sym (take_rest bytes 1) ∙ parts) in
    rw c.from_residual-in_err-value.ensures (no_value bytes c.in_ok-name.after.now c.in_ok-name.name.now (get_or bytes 0 0) whole c.in_ok-name.ensures.short c.in_err-value.ensures.none)
