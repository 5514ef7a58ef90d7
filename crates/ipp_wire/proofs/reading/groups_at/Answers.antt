use Rattle.std.proofs.Common.{◌≡◌, ◌≢◌, ◌∷◌, ◌++◌, ◌-◌, ◌+◌, ◌<◌, List, ℕ, [], length, get_or, take, drop, ap, ◌∙◌, sym, length-append, length-drop, arith}
use Rattle.std.proofs.lemmas.List.{map_push, drop_more, take_rest}
use Rattle.std.proofs.lemmas.Result.{err_from_is_err_and}
use Rattle.std.specs.List.{flat_map}
use Rattle.ipp_wire.specs.declared.view.GroupView.{GroupView}
use Rattle.ipp_wire.specs.Message.{IsDelimiter, group_bytes}
use Rattle.ipp_wire.specs.Viewed.{group_of, groups_of, attributes_of}
use Rattle.ipp_wire.proofs.Standing.{moved, place_of_rest, groups_push}
use Rattle.ipp_wire.proofs.Pieces.{one_more_group, groups_fault, stop_at_end, stop_at_byte}
use Rattle.ipp_wire.proofs.reading.groups_at.Goals as goal
use Rattle.ipp_wire.proofs.reading.groups_at.Goals.{then-tag-eq0-via-then-tag-eq0, then-tag-eq0-via-else-tag-eq0+then-tag-ge-FIRST_VALUE_TAG}

-- the first byte, and the rest as the code takes it
front : (rest : List ℕ) → 0 < length rest → rest ≡ get_or rest 0 0 ∷ take (length rest - 1) (drop 1 rest)
front rest long = drop_more rest 0 0 long ∙ ap (λ (r : List ℕ). get_or rest 0 0 ∷ r) (sym (take_rest rest 1))

pub returns-in_default-clause-stuck : goal.returns-in_default-clause-stuck
returns-in_default-clause-stuck c = stop_at_end c.args.bytes.now (groups_of c.groups.groups.items) c.groups.rest.bytes.now c.groups.invariant.groups (omega arith)

pub returns-then-tag-eq0-clause-stuck : goal.returns-then-tag-eq0-clause-stuck
returns-then-tag-eq0-clause-stuck c =
    let rest = c.groups.rest.bytes.now in
    let tag = get_or rest 0 0 in
    let not_three : tag ≢ 3 = λ e. absurd (omega arith) in
    let none : IsDelimiter tag → ⊥ = λ d.
    let low : 0 < tag = d.0 in
    let high : tag < 16 = d.1 in
    elim c.then-tag-eq0.branch [ then-tag-eq0-via-then-tag-eq0 w ↦ absurd (omega arith) | then-tag-eq0-via-else-tag-eq0+then-tag-ge-FIRST_VALUE_TAG w ↦ absurd (omega arith) ] in
    stop_at_byte c.args.bytes.now (groups_of c.groups.groups.items) rest (take (length rest - 1) (drop 1 rest)) tag c.groups.invariant.groups (front rest (omega arith)) none not_three

pub returns-in_err-attrs-clause-stuck : goal.returns-in_err-attrs-clause-stuck
returns-in_err-attrs-clause-stuck c =
    let rest = c.groups.rest.bytes.now in
    let tag = get_or rest 0 0 in
    let delimiter : IsDelimiter tag = (omega arith, omega arith, omega arith) in
    let fault = err_from_is_err_and c.from_residual.result c.from_residual.ensures.1 in
    rw (fault.1, fault.2) (groups_fault c.in_err-attrs.field-0.0 c.args.bytes.now (groups_of c.groups.groups.items) tag rest (take (length rest - 1) (drop 1 rest)) c.groups.invariant.groups delimiter (front rest (omega arith)) c.in_err-attrs.ensures.stuck)

pub groups-preserved : goal.groups-preserved
groups-preserved c =
    let found = c.in_ok-attrs in
    let invariant = c.groups.invariant in
    let bytes = c.args.bytes in
    let gs = c.groups.groups.items in
    let rest = c.groups.rest.bytes in
    let tag = get_or rest.now 0 0 in
    let delimiter : IsDelimiter tag = (omega arith, omega arith, omega arith) in
    let g : GroupView = record { tag = tag; attrs = found.attrs } in
    let attrs = attributes_of found.attrs.items in
    let items : c.push.new.self.items ≡ gs ++ g ∷ [] = c.in_ok-push.ensures.items in
    let pushed : groups_of c.push.new.self.items ≡ groups_of gs ++ record { tag = tag; attributes = attrs } ∷ [] = ap groups_of items ∙ map_push group_of gs g in
    let before = flat_map group_bytes (groups_of gs) in
    let whole : length bytes.now ≡ length before + length rest.now = ap length invariant.groups.parts ∙ length-append before rest.now in
    record {
      groups = rw pushed (one_more_group bytes.now (groups_of gs) tag attrs rest.now (take (length rest.now - 1) (drop 1 rest.now)) found.after.now invariant.groups delimiter (front rest.now (omega arith)) found.ensures.ok found.ensures.no_more);
      stand = rw items (groups_push bytes.ref_ptr rest.ref_ptr (rest.ref_ptr.0, 1 + rest.ref_ptr.1) gs g invariant.stand (place_of_rest bytes.ref_ptr rest.ref_ptr (length bytes.now) (length rest.now) (length before) invariant.end whole) (moved rest.ref_ptr (1 + rest.ref_ptr.1) (rest.ref_ptr.1 + 1) (omega arith)) found.ensures.places);
      end = found.ensures.end ∙ moved rest.ref_ptr _ _ (omega (arith, c.in-len1-up.len_at_least, length-drop 1 rest.now)) ∙ invariant.end;
    }
