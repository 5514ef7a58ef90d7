-- The message that a view shows: what its slices hold.
use Rattle.std.specs.Prelude.{ℕ, List, map}
use Rattle.ipp_wire.specs.declared.view.View.{View}
use Rattle.ipp_wire.specs.declared.view.GroupView.{GroupView}
use Rattle.ipp_wire.specs.declared.view.AttrView.{AttrView}
use Rattle.ipp_wire.specs.declared.view.ValueView.{ValueView}
use Rattle.ipp_wire.specs.Message.{Value, Attribute, Group, Message}

abbrev pub value_of : ValueView → Value
value_of v = record { tag = v.tag; bytes = v.bytes.now }

abbrev pub values_of : List ValueView → List Value
values_of vs = map value_of vs

-- the attribute of a name and values
abbrev pub attribute_with : List ℕ → List ValueView → Attribute
attribute_with name values = record { name = name; values = values_of values }

abbrev pub attribute_of : AttrView → Attribute
attribute_of a = attribute_with a.name.now a.values.items

abbrev pub attributes_of : List AttrView → List Attribute
attributes_of xs = map attribute_of xs

abbrev pub group_of : GroupView → Group
group_of g = record { tag = g.tag; attributes = attributes_of g.attrs.items }

abbrev pub groups_of : List GroupView → List Group
groups_of gs = map group_of gs

abbrev pub message_of : View → Message
message_of v = record { head = v.head; groups = groups_of v.groups.items; payload = v.payload.now }
