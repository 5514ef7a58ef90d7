-- A value, an attribute and a group more, each behind those before it.
use Rattle.std.proofs.Common.{◌≡◌, ℕ, ◌+◌, ◌<◌, List, [], ◌∷◌, ◌++◌, length, ap, subst, ◌∙◌, length-append, arith}
use Rattle.std.specs.List.{flat_map}
use Rattle.ipp_wire.specs.declared.view.GroupView.{GroupView}
use Rattle.ipp_wire.specs.declared.view.AttrView.{AttrView}
use Rattle.ipp_wire.specs.declared.view.ValueView.{ValueView}
use Rattle.ipp_wire.specs.Message.{Value, text_bytes, record_bytes, values_under, attribute_bytes, group_bytes}
use Rattle.ipp_wire.specs.Viewed.{value_of, values_of, attribute_of, attributes_of, group_of, groups_of}
use Rattle.ipp_wire.specs.Places.{byte_add, ValuesStand, AttributeStands, AttributesStand, GroupsStand}

-- the place between two parts, from where both end together
pub place_of_rest : (at rest : ℕ × ℕ) (all left front : ℕ) → byte_add rest left ≡ byte_add at all → all ≡ front + left → rest ≡ byte_add at front
place_of_rest at rest all left front e len =
    let block : rest.0 ≡ at.0 = ap (λ (p : ℕ × ℕ). p.0) e in
    let ends : rest.1 + left ≡ at.1 + all = ap (λ (p : ℕ × ℕ). p.1) e in
    let offset : rest.1 ≡ at.1 + front = omega (arith, ends, len) in
    subst (λ (b : ℕ). rest ≡ (b, at.1 + front)) block (ap (λ (n : ℕ). (rest.0, n)) offset)

length_record : (name : List ℕ) (v : Value) → length (record_bytes name v) ≡ 5 + length name + length v.bytes
length_record name v = omega (arith, length-append name (text_bytes v.bytes))

-- places at equal offsets
pub moved : (at : ℕ × ℕ) (m n : ℕ) → m ≡ n → ◌≡◌ {A = ℕ × ℕ} (at.0, m) (at.0, n)
moved at m n e = ap (λ (k : ℕ). (at.0, k)) e

further_push : (at p : ℕ × ℕ) (vs : List ValueView) (v : ValueView) → ValuesStand at 0 vs → p ≡ byte_add at (length (flat_map (record_bytes []) (values_of vs))) → v.bytes.ref_ptr ≡ byte_add p 5 → ValuesStand at 0 (vs ++ v ∷ [])
further_push at p [] v h e s = (subst (λ (q : ℕ × ℕ). v.bytes.ref_ptr ≡ byte_add q 5) (e ∙ moved at (at.1 + 0) at.1 (omega arith)) s, tt)
further_push at p (w ∷ vs) v h e s =
    let next : at.1 + length (flat_map (record_bytes []) (values_of (w ∷ vs))) ≡ at.1 + (5 + 0 + length w.bytes.now) + length (flat_map (record_bytes []) (values_of vs)) = omega (arith, length-append (record_bytes [] (value_of w)) (flat_map (record_bytes []) (values_of vs)), length_record [] (value_of w)) in
    (h.0, further_push (byte_add at (5 + 0 + length w.bytes.now)) p vs v h.1 (e ∙ moved at _ _ next) s)

pub values_push : (at p : ℕ × ℕ) (name : List ℕ) (vs : List ValueView) (v : ValueView) → 0 < length vs → ValuesStand at (length name) vs → p ≡ byte_add at (length (values_under name (values_of vs))) → v.bytes.ref_ptr ≡ byte_add p 5 → ValuesStand at (length name) (vs ++ v ∷ [])
values_push at p name [] v long h e s = absurd (omega arith)
values_push at p name (w ∷ vs) v long h e s =
    let next : at.1 + length (values_under name (values_of (w ∷ vs))) ≡ at.1 + (5 + length name + length w.bytes.now) + length (flat_map (record_bytes []) (values_of vs)) = omega (arith, length-append (record_bytes name (value_of w)) (flat_map (record_bytes []) (values_of vs)), length_record name (value_of w)) in
    (h.0, further_push (byte_add at (5 + length name + length w.bytes.now)) p vs v h.1 (e ∙ moved at _ _ next) s)

pub attributes_push : (at p : ℕ × ℕ) (attrs : List AttrView) (a : AttrView) → AttributesStand at attrs → p ≡ byte_add at (length (flat_map attribute_bytes (attributes_of attrs))) → AttributeStands p a → AttributesStand at (attrs ++ a ∷ [])
attributes_push at p [] a h e s = (subst (λ (q : ℕ × ℕ). AttributeStands q a) (e ∙ moved at (at.1 + 0) at.1 (omega arith)) s, tt)
attributes_push at p (b ∷ attrs) a h e s =
    let next : at.1 + length (flat_map attribute_bytes (attributes_of (b ∷ attrs))) ≡ at.1 + length (attribute_bytes (attribute_of b)) + length (flat_map attribute_bytes (attributes_of attrs)) = omega (arith, length-append (attribute_bytes (attribute_of b)) (flat_map attribute_bytes (attributes_of attrs))) in
    (h.0, attributes_push (byte_add at (length (attribute_bytes (attribute_of b)))) p attrs a h.1 (e ∙ moved at _ _ next) s)

pub groups_push : (at p inner : ℕ × ℕ) (gs : List GroupView) (g : GroupView) → GroupsStand at gs → p ≡ byte_add at (length (flat_map group_bytes (groups_of gs))) → inner ≡ byte_add p 1 → AttributesStand inner g.attrs.items → GroupsStand at (gs ++ g ∷ [])
groups_push at p inner [] g h e i s =
    let here : inner ≡ byte_add at 1 = i ∙ ap (λ (q : ℕ × ℕ). byte_add q 1) (e ∙ moved at (at.1 + 0) at.1 (omega arith)) in
    (subst (λ (q : ℕ × ℕ). AttributesStand q g.attrs.items) here s, tt)
groups_push at p inner (k ∷ gs) g h e i s =
    let next : at.1 + length (flat_map group_bytes (groups_of (k ∷ gs))) ≡ at.1 + length (group_bytes (group_of k)) + length (flat_map group_bytes (groups_of gs)) = omega (arith, length-append (group_bytes (group_of k)) (flat_map group_bytes (groups_of gs))) in
    (h.0, groups_push (byte_add at (length (group_bytes (group_of k)))) p inner gs g h.1 (e ∙ moved at _ _ next) i s)
