-- What the readers of the parts of a message find at the front of bytes. A message is also a row of
-- items, and the place in the row says which item may come next.
use Rattle.std.specs.Prelude.{◌≡◌, ℕ, ◌+◌, ◌-◌, ◌<◌, ◌≤◌, ◌≢◌, ◌^◌, List, [], ◌∷◌, ◌++◌, length}
use Rattle.std.specs.List.{flat_map, AllByRecursion}
use Rattle.ipp_wire.specs.declared.fault.ReadFault.{ReadFault}
use Rattle.ipp_wire.specs.declared.fault.ReadFault.TheVariants.{Memory, Stuck}
use Rattle.ipp_wire.specs.Message.{Value, Attribute, Group, IsValue, IsDelimiter, record_bytes, attribute_bytes, group_bytes, opens, closes, opened, closed, IsOpenAttribute, IsAttribute, IsGroup, IsOpenGroup, AllButLast}

-- a delimiter, a named value, or a further value
pub data Item : Type 0 where
  delimiter : ℕ → Item
  named : List ℕ → Value → Item
  further : Value → Item

abbrev pub item_bytes : Item → List ℕ
item_bytes (delimiter tag) = tag ∷ []
item_bytes (named name v) = record_bytes name v
item_bytes (further v) = record_bytes [] v

-- before the first delimiter, right after one, or in an attribute with so many collections open
pub data Place : Type 0 where
  outside : Place
  grouped : Place
  inside : ℕ → Place

-- no collection is open
abbrev pub IsWhole : Place → Type 0
IsWhole outside = Unit {0}
IsWhole grouped = Unit {0}
IsWhole (inside depth) = depth ≡ 0

abbrev pub IsInGroup : Place → Type 0
IsInGroup outside = ⊥
IsInGroup grouped = Unit {0}
IsInGroup (inside depth) = Unit {0}

-- how many collections are open after a value
abbrev pub depth_past : ℕ → Value → ℕ
depth_past depth v = depth + opens v - closes v

-- at this depth the value may stand
abbrev pub IsNestedAt : ℕ → Value → Type 0
IsNestedAt depth v = (closes v ≤ depth + opens v) × (depth + opens v ≤ closes v + 8)

-- the item may come next at the place
abbrev pub May : Place → Item → Type 0
May place (delimiter tag) = IsDelimiter tag × IsWhole place
May place (named name v) =
    (0 < length name) × (length name < 2 ^ 15) × IsValue v × IsNestedAt 0 v × IsInGroup place × IsWhole place
May outside (further v) = ⊥
May grouped (further v) = ⊥
May (inside depth) (further v) = IsValue v × IsNestedAt depth v

-- no item that may come next stands at the front
abbrev pub Halts : Place → List ℕ → Type 0
Halts place bytes = (i : Item) (rest : List ℕ) → May place i → bytes ≢ item_bytes i ++ rest

-- where open attributes and groups end
abbrev pub depth_of : Attribute → ℕ
depth_of a = opened a.values - closed a.values

abbrev pub place_in : Place → List Attribute → Place
place_in place [] = place
place_in place (a ∷ attrs) = place_in (inside (depth_of a)) attrs

abbrev pub place_of : Place → List Group → Place
place_of place [] = place
place_of place (g ∷ gs) = place_of (place_in grouped g.attributes) gs

-- neither an item nor the end of the groups stands at the front
pub record Stops (place : Place) (bytes : List ℕ) : Type 0 where
  pub no_item : Halts place bytes
  pub no_end : IsWhole place → (payload : List ℕ) → bytes ≢ 3 ∷ payload

-- ---- what the readers of the parts give

-- a record at the front of the bytes, and what is left
pub record ReadRecord (bytes name : List ℕ) (v : Value) (rest : List ℕ) : Type 0 where
  pub parts : bytes ≡ record_bytes name v ++ rest
  pub short : length name < 2 ^ 15
  pub value : IsValue v

-- no record stands at the front
abbrev pub NoRecord : List ℕ → Type 0
NoRecord bytes = (name : List ℕ) (v : Value) (rest : List ℕ) → length name < 2 ^ 15 → IsValue v
    → bytes ≢ record_bytes name v ++ rest

-- no further value that may come next stands at the front
abbrev pub NoFurther : Place → List ℕ → Type 0
NoFurther place bytes = (v : Value) (rest : List ℕ) → May place (further v)
    → bytes ≢ record_bytes [] v ++ rest

-- no named value that may come next stands at the front
abbrev pub NoNamed : Place → List ℕ → Type 0
NoNamed place bytes = (name : List ℕ) (v : Value) (rest : List ℕ) → May place (named name v)
    → bytes ≢ record_bytes name v ++ rest

-- an attribute at the front of the bytes, with all its values, and what is left
pub record ReadAttribute (bytes : List ℕ) (a : Attribute) (rest : List ℕ) : Type 0 where
  pub fits : IsAttribute a
  pub parts : bytes ≡ attribute_bytes a ++ rest
  pub last : NoFurther (inside 0) rest

-- attributes at the front of the bytes, and what is left
pub record ReadAttributes (bytes : List ℕ) (attrs : List Attribute) (rest : List ℕ) : Type 0 where
  pub fits : AllByRecursion IsAttribute attrs
  pub parts : bytes ≡ flat_map attribute_bytes attrs ++ rest
  pub last : NoFurther (place_in grouped attrs) rest

-- after an attribute whose collections aren't closed nothing may come next, with so many bytes left
pub record AttributeStuck (bytes : List ℕ) (left : ℕ) : Type 0 where
  pub attribute : Attribute
  pub rest : List ℕ
  pub fits : IsOpenAttribute attribute
  pub parts : bytes ≡ attribute_bytes attribute ++ rest
  pub left_is : length rest ≡ left
  pub stops : Stops (inside (depth_of attribute)) rest

-- the same after attributes, of which the last may be open
pub record AttributesStuck (bytes : List ℕ) (left : ℕ) : Type 0 where
  pub attributes : List Attribute
  pub rest : List ℕ
  pub fits : AllButLast IsAttribute IsOpenAttribute attributes
  pub parts : bytes ≡ flat_map attribute_bytes attributes ++ rest
  pub left_is : length rest ≡ left
  pub stops : Stops (place_in grouped attributes) rest

-- the same after groups, of which the last may be open
pub record GroupsStuck (bytes : List ℕ) (left : ℕ) : Type 0 where
  pub groups : List Group
  pub rest : List ℕ
  pub fits : AllButLast IsGroup IsOpenGroup groups
  pub parts : bytes ≡ flat_map group_bytes groups ++ rest
  pub left_is : length rest ≡ left
  pub stops : Stops (place_of outside groups) rest

-- a fact of how many bytes are left
abbrev pub OnStuck : ReadFault → (ℕ → Type 0) → Type 0
OnStuck Memory P = Unit {0}
OnStuck (Stuck left) P = P left
