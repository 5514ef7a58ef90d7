-- The bare reply: a head, and an operation group with the charset and the natural language alone
-- (RFC 8011, section 4.1.4.2).
use Rattle.std.specs.Prelude.{ℕ, Bool, [], ◌∷◌, ◌==◌, ◌||◌, codes, if◌then◌else◌}
use Rattle.ipp_wire.specs.declared.view.Head.{Head}
use Rattle.ipp_wire.specs.Message.{Attribute, Message}

-- major version 1 or 2
abbrev pub is_known_version : Head → Bool
is_known_version h = h.major == 1 || h.major == 2

-- the request's version where it is known, else 1.1
abbrev pub bare_head : Head → ℕ → Head
bare_head h code = record {
  major = if is_known_version h then h.major else 1;
  minor = if is_known_version h then h.minor else 1;
  code = code;
  request_id = h.request_id;
}

-- charset utf-8
abbrev pub charset : Attribute
charset = record {
  name = codes "attributes-charset";
  values = record { tag = 0x47; bytes = codes "utf-8" } ∷ [];
}

-- naturalLanguage en
abbrev pub language : Attribute
language = record {
  name = codes "attributes-natural-language";
  values = record { tag = 0x48; bytes = codes "en" } ∷ [];
}

-- the whole reply, without payload
abbrev pub bare : Head → ℕ → Message
bare h code = record {
  head = bare_head h code;
  groups = record { tag = 1; attributes = charset ∷ language ∷ [] } ∷ [];
  payload = [];
}
