-- The attributes that a reply lists as unsupported (RFC 8011, section 4.1.7).
use Rattle.std.specs.Prelude.{List, [], ◌∷◌, Bool, true, false, ◌||◌}
use Rattle.std.specs.List.{AllByRecursion}
use Rattle.ipp_wire.specs.Message.{Attribute, IsAttribute}
use Rattle.ipp_wire.specs.Viewed.{attributes_of}
use Rattle.ipp_reply.specs.declared.unsupported.Unsupported.{Unsupported as UnsupportedRef}

-- the attributes that are listed, by the group in which they were
pub record Unsupported : Type 0 where
  pub operation : List Attribute
  pub job : List Attribute

abbrev pub nothing : Unsupported
nothing = record { operation = []; job = [] }

abbrev pub is_filled : List Attribute → Bool
is_filled [] = false
is_filled (a ∷ attrs) = true

-- something is listed
abbrev pub is_listed : Unsupported → Bool
is_listed u = is_filled u.operation || is_filled u.job

-- each attribute that is listed may stand in a message
abbrev pub CanList : Unsupported → Type 0
CanList u = AllByRecursion IsAttribute u.operation × AllByRecursion IsAttribute u.job

-- ---- a list of the code, by its content

abbrev pub unsupported_of : UnsupportedRef → Unsupported
unsupported_of u = record { operation = attributes_of u.operation.items; job = attributes_of u.job.items }
