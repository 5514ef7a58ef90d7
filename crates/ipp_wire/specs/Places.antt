-- Where the slices of a view stand: each is the part of the input in which the spelling has its
-- bytes. A place is a block of memory and an offset in it, in bytes, as a slice's `ref_ptr` is.
use Rattle.std.specs.Prelude.{◌≡◌, ℕ, ◌+◌, List, [], ◌∷◌, length}
use Rattle.std.specs.List.{flat_map}
use denote.Ref.{Bor}
use Rattle.ipp_wire.specs.declared.view.View.{View}
use Rattle.ipp_wire.specs.declared.view.GroupView.{GroupView}
use Rattle.ipp_wire.specs.declared.view.AttrView.{AttrView}
use Rattle.ipp_wire.specs.declared.view.ValueView.{ValueView}
use Rattle.ipp_wire.specs.Message.{attribute_bytes, group_bytes}
use Rattle.ipp_wire.specs.Viewed.{attribute_of, group_of, groups_of}

-- the place so many bytes on, in the same block
abbrev pub byte_add : ℕ × ℕ → ℕ → ℕ × ℕ
byte_add place count = (place.0, place.1 + count)

-- where a slice ends
abbrev pub end_of : Bor (List ℕ) → ℕ × ℕ
end_of bytes = byte_add bytes.ref_ptr (length bytes.now)

-- records begin at the place, the first under a name of so many bytes: a value stands after its tag,
-- two lengths and the name
abbrev pub ValuesStand : ℕ × ℕ → ℕ → List ValueView → Type 0
ValuesStand place name_length [] = Unit {0}
ValuesStand place name_length (v ∷ vs) =
    (v.bytes.ref_ptr ≡ byte_add place (5 + name_length))
    × ValuesStand (byte_add place (5 + name_length + length v.bytes.now)) 0 vs

-- an attribute begins at the place: its name stands after a tag and a length
abbrev pub AttributeStands : ℕ × ℕ → AttrView → Type 0
AttributeStands place a =
    (a.name.ref_ptr ≡ byte_add place 3) × ValuesStand place (length a.name.now) a.values.items

-- attributes begin at the place, one behind the other
abbrev pub AttributesStand : ℕ × ℕ → List AttrView → Type 0
AttributesStand place [] = Unit {0}
AttributesStand place (a ∷ attrs) =
    AttributeStands place a × AttributesStand (byte_add place (length (attribute_bytes (attribute_of a)))) attrs

-- groups begin at the place, one behind the other, each with its delimiter tag
abbrev pub GroupsStand : ℕ × ℕ → List GroupView → Type 0
GroupsStand place [] = Unit {0}
GroupsStand place (g ∷ gs) =
    AttributesStand (byte_add place 1) g.attrs.items × GroupsStand (byte_add place (length (group_bytes (group_of g)))) gs

-- the input begins at the place: the groups stand after the head, and the payload after the byte
-- that ends them
abbrev pub ViewStands : ℕ × ℕ → View → Type 0
ViewStands place v =
    GroupsStand (byte_add place 8) v.groups.items
    × (v.payload.ref_ptr ≡ byte_add place (8 + length (flat_map group_bytes (groups_of v.groups.items)) + 1))
