-- The limits of a request, in bytes unless said otherwise.
use Rattle.std.specs.Prelude.{ℕ}

-- a head, with the empty line that ends it
abbrev pub head_limit : ℕ
head_limit = 16384

-- the field lines of a head or of a trailer section: how many
abbrev pub field_limit : ℕ
field_limit = 64

-- the content of a body
abbrev pub content_limit : ℕ
content_limit = 16777216

-- the digits of a length that a head tells, as many as the greatest number of 64 bits has: how many
abbrev pub digit_limit : ℕ
digit_limit = 20

-- a chunk line, with its CR LF
abbrev pub line_limit : ℕ
line_limit = 1024

-- a trailer section, with the empty line that ends it
abbrev pub trailer_limit : ℕ
trailer_limit = 16384

-- a chunked body as it stands in the stream: chunk lines, content, trailer section
abbrev pub raw_limit : ℕ
raw_limit = 67108864
