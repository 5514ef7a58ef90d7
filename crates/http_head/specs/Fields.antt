-- Field lines (RFC 9110, section 5), and the words in their values.
use Rattle.std.specs.Prelude.{◌-◌, ◌==◌, nat_lt, nat_le, ◌&&◌, ◌||◌, not, bytes_eq, Bool, true, ℕ, List, length, take, drop, map, filter, Option, None, Some, codes, if◌then◌else◌, nat_eq}
use Rattle.std.specs.List.{list_any, list_all, position_or_len, suffix_len, slice_split, starts_with}
use Rattle.std.specs.Str.Parse.{digits_value}
use Rattle.std.specs.Char.{to_ascii_lowercase, is_ascii_digit}
use Rattle.http_head.specs.Limits.{digit_limit}

-- a field name, and a value without the white space around it (section 5.5)
abbrev pub FieldLine : Type 0
FieldLine = List ℕ × List ℕ

-- the same text, ASCII case aside
abbrev pub same_word : List ℕ → List ℕ → Bool
same_word a b = bytes_eq (map to_ascii_lowercase a) (map to_ascii_lowercase b)

-- field names compare without case (section 5.1)
abbrev pub is_named : List ℕ → FieldLine → Bool
is_named name f = same_word f.0 name

abbrev pub value_in : FieldLine → List ℕ
value_in f = f.1

-- the values of all field lines of that name
abbrev pub values : List ℕ → List FieldLine → List (List ℕ)
values name fields = map value_in (filter (is_named name) fields)

-- ---- white space

-- a space, and where tabs count too a tab (section 5.6.3)
abbrev pub is_blank : Bool → ℕ → Bool
is_blank tabs b = b == 32 || (tabs && b == 9)

abbrev pub front_cut : (ℕ → Bool) → List ℕ → List ℕ
front_cut p text = drop (position_or_len (λ b. not (p b)) text) text

abbrev pub end_cut : (ℕ → Bool) → List ℕ → List ℕ
end_cut p text = take (length text - suffix_len p text) text

-- the text without the blanks at both ends
abbrev pub trimmed : (ℕ → Bool) → List ℕ → List ℕ
trimmed p text = end_cut p (front_cut p text)

-- ---- lists and numbers

-- a member of the list that the value is (section 5.6.1) is that word
abbrev pub has_member : List ℕ → List ℕ → Bool
has_member word value = list_any (λ member. same_word (trimmed (is_blank true) member) word) (slice_split (λ b. b == 44) value)

-- one digit or more, within the limit
abbrev pub is_digits : List ℕ → Bool
is_digits text = nat_lt 0 (length text) && nat_le (length text) digit_limit && list_all is_ascii_digit text

-- there are digits, and their number has at most 32 bits
abbrev pub fits_word : List ℕ → Bool
fits_word text = nat_lt 0 (length text) && nat_lt (digits_value 10 text) 4294967296

-- a number in decimal without a leading zero, of 32 bits
abbrev pub number_in : List ℕ → Option ℕ
number_in text =
    if list_all is_ascii_digit text && not (starts_with nat_eq text (codes "0")) && fits_word text
    then Some (digits_value 10 text) else None
