-- What the values of an attribute say (RFC 8010, section 3.9; RFC 8011, section 5.1).
use Rattle.std.specs.Prelude.{ℕ, ◌+◌, ◌==◌, List, [], ◌∷◌, Option, Some, None, Bool, true, false, ◌&&◌, ◌||◌, nat_le, nat_lt, length, drop, is_some, bytes_eq, if◌then◌else◌}
use Rattle.std.specs.List.{list_any, list_all}
use Rattle.std.specs.Option.{option_map_or}
use Rattle.std.specs.Str.{is_utf8}
use Rattle.std.specs.Int.{w16, w32, from_be_bytes}
use Rattle.ipp_wire.specs.Message.{Value}
use Rattle.queue_core.specs.Limits.{is_no_control}
use Rattle.ipp_request.specs.declared.attribute.Syntax.{Syntax}
use Rattle.ipp_request.specs.declared.attribute.Syntax.TheVariants.{Integer, Positive, Boolean, UserName, Title}
use Rattle.ipp_request.specs.Attributes.{Row, Support, anything, between, words, tags_of, limit_of}

-- ---- numbers and texts

-- a number of 4 bytes in two's complement: those from 2 ^ 31 on are below zero
abbrev pub number_of : List ℕ → Option ℕ
number_of bytes = if length bytes == 4 then Some (from_be_bytes w32 bytes) else None

abbrev pub is_within : ℕ → ℕ → ℕ → Bool
is_within low high n = nat_le low n && nat_le n high

-- at least 1
abbrev pub is_positive : ℕ → Bool
is_positive n = is_within 1 2147483647 n

-- what follows a length in two bytes and that many bytes
abbrev pub after_text : List ℕ → List ℕ
after_text bytes = drop (2 + from_be_bytes w16 bytes) bytes

-- the text behind a language, each with its length before it, and nothing more
abbrev pub behind_language : List ℕ → Option (List ℕ)
behind_language bytes = let rest = after_text bytes in if nat_le 2 (length rest) && length rest == 2 + from_be_bytes w16 rest then Some (drop 2 rest) else None

-- the text of a value: of a nameWithLanguage the name, else all of it
abbrev pub text_of : Value → Option (List ℕ)
text_of v = if v.tag == 0x36 then behind_language v.bytes else Some v.bytes

-- ---- the form

-- a number of 4 bytes, which may have to be at least 1; one byte, 0 or 1; UTF-8 without control characters, or
-- without a zero byte; else any octets
abbrev pub has_shape : Syntax → List ℕ → Bool
has_shape Integer text = is_some (number_of text)
has_shape Positive text = option_map_or is_positive (number_of text) false
has_shape Boolean text = bytes_eq text (0 ∷ []) || bytes_eq text (1 ∷ [])
has_shape UserName text = is_utf8 text && list_all is_no_control text
has_shape Title text = is_utf8 text && list_all (λ b. nat_le 1 b) text
has_shape _ text = true

-- the value has one of the tags of the syntax
abbrev pub is_tagged : Syntax → Value → Bool
is_tagged s v = list_any (λ tag. tag == v.tag) (tags_of s)

-- and its shape
abbrev pub is_shaped : Syntax → Value → Bool
is_shaped s v = is_tagged s v && option_map_or (has_shape s) (text_of v) false

-- the values are as the row asks
abbrev pub are_formed : Row → List Value → Bool
are_formed r vs = (r.many || length vs == 1) && list_all (is_shaped r.syntax) vs

-- ---- the length

-- a text is longer than its limit
abbrev pub passes : Option ℕ → List ℕ → Bool
passes limit text = option_map_or (λ n. nat_lt n (length text)) limit false

abbrev pub is_long : Syntax → Value → Bool
is_long s v = option_map_or (passes (limit_of s)) (text_of v) false

-- a value is longer than the limit of the row's syntax
abbrev pub any_long : Row → List Value → Bool
any_long r vs = list_any (is_long r.syntax) vs

-- ---- the support

-- there is one value, and it passes the test
abbrev pub one_value : (Value → Bool) → List Value → Bool
one_value test [] = false
one_value test (v ∷ []) = test v
one_value test (v ∷ w ∷ vs) = false

-- an integer within these bounds
abbrev pub is_number_within : ℕ → ℕ → Value → Bool
is_number_within low high v = v.tag == 0x21 && option_map_or (is_within low high) (number_of v.bytes) false

-- one of these keywords
abbrev pub is_among : List (List ℕ) → Value → Bool
is_among ws v = v.tag == 0x44 && list_any (λ w. bytes_eq w v.bytes) ws

abbrev pub are_supported : Support → List Value → Bool
are_supported anything vs = true
are_supported (between low high) vs = one_value (is_number_within low high) vs
are_supported (words ws) vs = one_value (is_among ws) vs
