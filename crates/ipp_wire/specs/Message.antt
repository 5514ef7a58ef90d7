-- What an IPP message is, and the bytes that spell it (RFC 8010, section 3). Numbers are big-endian.
use Rattle.std.specs.Prelude.{◌≡◌, ℕ, ◌+◌, ◌<◌, ◌≤◌, ◌≢◌, ◌^◌, ◌==◌, List, [], ◌∷◌, ◌++◌, length, take, slice_index, slice_range, if◌then◌else◌}
use Rattle.std.specs.List.{flat_map, sum_by, AllByRecursion}
use Rattle.std.specs.Int.{w16, w32, to_be_bytes, from_be_bytes}
use Rattle.ipp_wire.specs.declared.view.Head.{Head}

-- a value's tag and its bytes (sections 3.5.2 and 3.9)
pub record Value : Type 0 where
  pub tag : ℕ
  pub bytes : List ℕ

-- a name and its values; a collection is the row of its records (sections 3.1.3 and 3.1.6)
pub record Attribute : Type 0 where
  pub name : List ℕ
  pub values : List Value

-- a delimiter tag and the attributes after it (section 3.1.2)
pub record Group : Type 0 where
  pub tag : ℕ
  pub attributes : List Attribute

-- a request or a reply, whose payload is what the standard calls its data (section 3.1.1)
pub record Message : Type 0 where
  pub head : Head
  pub groups : List Group
  pub payload : List ℕ

-- ---- the spelling

-- two bytes of length, and that many bytes (sections 3.6 to 3.9)
abbrev pub text_bytes : List ℕ → List ℕ
text_bytes bytes = to_be_bytes w16 (length bytes) ++ bytes

-- a value under a name (section 3.1.4), which is empty where it is a further value (section 3.1.5)
abbrev pub record_bytes : List ℕ → Value → List ℕ
record_bytes name v = v.tag ∷ (text_bytes name ++ text_bytes v.bytes)

-- the first value stands under the name, and each further one under none (section 3.1.3)
abbrev pub values_under : List ℕ → List Value → List ℕ
values_under name [] = []
values_under name (v ∷ vs) = record_bytes name v ++ flat_map (record_bytes []) vs

abbrev pub attribute_bytes : Attribute → List ℕ
attribute_bytes a = values_under a.name a.values

-- the delimiter tag, and the attributes (section 3.1.2)
abbrev pub group_bytes : Group → List ℕ
group_bytes g = g.tag ∷ flat_map attribute_bytes g.attributes

-- the version, the operation or status code, and the request-id: eight bytes (section 3.4)
abbrev pub head_bytes : Head → List ℕ
head_bytes h = h.major ∷ h.minor ∷ (to_be_bytes w16 h.code ++ to_be_bytes w32 h.request_id)

-- the head, the groups, the end-of-attributes tag and the payload (section 3.1.1)
abbrev pub spelling : Message → List ℕ
spelling m = head_bytes m.head ++ flat_map group_bytes m.groups ++ 3 ∷ m.payload

-- the head that the first eight bytes are
abbrev pub head_of : List ℕ → Head
head_of b = record {
  major = slice_index b 0;
  minor = slice_index b 1;
  code = from_be_bytes w16 (slice_range b 2 4);
  request_id = from_be_bytes w32 (slice_range b 4 8);
}

-- ---- what has a spelling

-- a delimiter tag that begins a group: neither 0x00, nor 0x03, the end of the attributes (section 3.5.1)
abbrev pub IsDelimiter : ℕ → Type 0
IsDelimiter tag = (0 < tag) × (tag < 16) × (tag ≢ 3)

-- a value tag is 0x10 to 0xff (section 3.5.2), and a length at most 0x7fff (section 3.8)
pub record IsValue (v : Value) : Type 0 where
  pub tag_low : 16 ≤ v.tag
  pub tag_high : v.tag < 256
  pub short : length v.bytes < 2 ^ 15

-- 0x34 opens a collection, and 0x37 closes one (section 3.1.6)
abbrev pub opens : Value → ℕ
opens v = if v.tag == 0x34 then 1 else 0

abbrev pub closes : Value → ℕ
closes v = if v.tag == 0x37 then 1 else 0

-- how many collections the values open, and how many they close
abbrev pub opened : List Value → ℕ
opened vs = sum_by opens vs

abbrev pub closed : List Value → ℕ
closed vs = sum_by closes vs

-- after each value from 0 to 8 collections are open
abbrev pub IsNested : List Value → Type 0
IsNested vs = (k : ℕ)
    → (closed (take k vs) ≤ opened (take k vs)) × (opened (take k vs) ≤ closed (take k vs) + 8)

-- a name, and at least one value; collections may still be open at the end
pub record IsOpenAttribute (a : Attribute) : Type 0 where
  pub named : 0 < length a.name
  pub short : length a.name < 2 ^ 15
  pub valued : 0 < length a.values
  pub values : AllByRecursion IsValue a.values
  pub nested : IsNested a.values

-- each collection that is opened is closed
pub record IsAttribute (a : Attribute) : Type 0 where
  pub begun : IsOpenAttribute a
  pub closed : opened a.values ≡ closed a.values

pub record IsGroup (g : Group) : Type 0 where
  pub tag : IsDelimiter g.tag
  pub attributes : AllByRecursion IsAttribute g.attributes

-- the numbers fit their fields (section 3.4)
pub record IsHead (h : Head) : Type 0 where
  pub major : h.major < 2 ^ 8
  pub minor : h.minor < 2 ^ 8
  pub code : h.code < 2 ^ 16
  pub request_id : h.request_id < 2 ^ 32

pub record IsMessage (m : Message) : Type 0 where
  pub head : IsHead m.head
  pub groups : AllByRecursion IsGroup m.groups

-- b spells m
pub record Spells (m : Message) (b : List ℕ) : Type 0 where
  pub message : IsMessage m
  pub bytes : b ≡ spelling m

-- ---- attributes without collections

-- a value that opens no collection and closes none
pub record IsPlain (v : Value) : Type 0 where
  pub value : IsValue v
  pub opens_none : v.tag ≢ 0x34
  pub closes_none : v.tag ≢ 0x37

-- a name, and at least one value, each of them plain
pub record IsPlainAttribute (a : Attribute) : Type 0 where
  pub named : 0 < length a.name
  pub short : length a.name < 2 ^ 15
  pub valued : 0 < length a.values
  pub plain : AllByRecursion IsPlain a.values

-- ---- how far bytes are the beginning of a message

-- all but the last are P, and the last is Q
abbrev pub AllButLast : {A : Type 0} → (A → Type 0) → (A → Type 0) → List A → Type 0
AllButLast P Q [] = Unit {0}
AllButLast P Q (x ∷ []) = Q x
AllButLast P Q (x ∷ y ∷ ys) = P x × AllButLast P Q (y ∷ ys)

-- a group in whose last attribute collections may still be open
pub record IsOpenGroup (g : Group) : Type 0 where
  pub tag : IsDelimiter g.tag
  pub attributes : AllButLast IsAttribute IsOpenAttribute g.attributes

-- the first n bytes of b are a head and groups, in whose last attribute collections may still be open
pub record IsOpenFront (b : List ℕ) (n : ℕ) : Type 0 where
  pub head : Head
  pub groups : List Group
  pub head_fits : IsHead head
  pub groups_fit : AllButLast IsGroup IsOpenGroup groups
  pub within : n ≤ length b
  pub bytes : take n b ≡ head_bytes head ++ flat_map group_bytes groups

-- n is the length of the longest open front of b
pub record IsStuck (b : List ℕ) (n : ℕ) : Type 0 where
  pub front : IsOpenFront b n
  pub longest : (k : ℕ) → IsOpenFront b k → k ≤ n
