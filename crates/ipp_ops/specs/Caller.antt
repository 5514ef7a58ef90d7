-- Whose request it is (RFC 8011, section 4.2.1.1; RFC 8010, section 3.9).
use Rattle.std.specs.Prelude.{◌≡◌, ◌<◌, ◌^◌, ◌++◌, ℕ, List, [], ◌∷◌, Option, Some, None, codes, bytes_eq, find, length}
use Rattle.ipp_wire.specs.Message.{Value, Attribute, Group, Message, Spells, text_bytes}

-- the value is this name: nameWithoutLanguage, or nameWithLanguage, whose language says nothing of who it is
pub data IsName (v : Value) (name : List ℕ) : Type 0 where
  without_language : v.tag ≡ 0x42 → v.bytes ≡ name → IsName v name
  with_language : (language : List ℕ) → length language < 2 ^ 16 → length name < 2 ^ 16 → v.tag ≡ 0x36 → v.bytes ≡ text_bytes language ++ text_bytes name → IsName v name

-- the caller, by the attribute that names the user, where there is one: whom its one value names, and where that is nobody, anonymous
pub data IsCallerBy : Option Attribute → List ℕ → Type 0 where
  absent : IsCallerBy None (codes "anonymous")
  empty : (a : Attribute) (v : Value) → a.values ≡ v ∷ [] → IsName v [] → IsCallerBy (Some a) (codes "anonymous")
  named : (a : Attribute) (v : Value) (name : List ℕ) → a.values ≡ v ∷ [] → IsName v name → 0 < length name → IsCallerBy (Some a) name

-- the bytes spell a message whose first group is the operation's, and that group's first requesting-user-name says who the caller is
pub record IsCallerOf (b caller : List ℕ) : Type 0 where
  pub message : Message
  pub operation : Group
  pub others : List Group
  pub spelled : Spells message b
  pub first : message.groups ≡ operation ∷ others
  pub tag : operation.tag ≡ 0x01
  pub user : IsCallerBy (find (λ a. bytes_eq a.name (codes "requesting-user-name")) operation.attributes) caller
