-- The document format that a media type names (RFC 8011, sections 5.4.21 and 5.4.22).
use Rattle.std.specs.Prelude.{ℕ, ◌-◌, ◌==◌, List, Option, length, take, find}
use Rattle.std.specs.List.{before_first, suffix_len}
use Rattle.std.specs.Str.{str_eq_ignore_ascii_case, byte}
use Rattle.queue_types.specs.declared.document.Format.{Format}
use Rattle.queue_types.specs.Formats.{format_name, formats}

-- without the spaces at the end
abbrev pub trimmed : List ℕ → List ℕ
trimmed text = take (length text - suffix_len (λ b. b == byte " ") text) text

-- a media type without parameters and without the spaces before them
abbrev pub media_type : List ℕ → List ℕ
media_type bytes = trimmed (before_first (λ b. b == byte ";") bytes)

-- the supported format of a media type, ASCII case aside
abbrev pub format_of : List ℕ → Option Format
format_of bytes = find (λ f. str_eq_ignore_ascii_case (format_name f) (media_type bytes)) formats
