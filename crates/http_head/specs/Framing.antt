-- How a body is framed (RFC 9112, section 6): by the field lines Transfer-Encoding (section 6.1) and Content-Length (section 6.2).
use Rattle.std.specs.Prelude.{◌+◌, ◌&&◌, ◌||◌, not, bytes_eq, Bool, true, false, ℕ, List, [], ◌∷◌, codes, if◌then◌else◌, min}
use Rattle.std.specs.List.{list_all}
use Rattle.std.specs.Str.Parse.{digits_value}
use Rattle.http_head.specs.Fields.{same_word, is_digits}
use Rattle.http_head.specs.Limits.{content_limit}
use Rattle.http_head.specs.declared.framing.Framing.{Framing}
use Rattle.http_head.specs.declared.framing.Framing.TheVariants.{Nothing, Sized, Chunked}

-- there is a value
abbrev pub is_there : {A : Type 0} → List A → Bool
is_there [] = false
is_there (value ∷ others) = true

-- the one transfer coding is chunked
abbrev pub is_chunked_alone : List (List ℕ) → Bool
is_chunked_alone [] = false
is_chunked_alone (value ∷ []) = same_word value (codes "chunked")
is_chunked_alone (value ∷ other ∷ others) = false

abbrev pub first_text : List (List ℕ) → List ℕ
first_text [] = []
first_text (text ∷ texts) = text

-- all the texts are the first
abbrev pub all_same : List (List ℕ) → Bool
all_same texts = list_all (λ other. bytes_eq other (first_text texts)) texts

-- both are there, or the transfer codings are not chunked alone, or the lengths are not digits, or differ in their texts: refused,
-- since a proxy may have read the stream in another way (section 6.3)
abbrev pub misframed : List (List ℕ) → List (List ℕ) → Bool
misframed codings lengths =
    (is_there codings && is_there lengths)
    || (is_there codings && not (is_chunked_alone codings))
    || (is_there lengths && not (list_all is_digits lengths && all_same lengths))

-- the length that the first of these values tells
abbrev pub first_number : List (List ℕ) → ℕ
first_number [] = 0
first_number (value ∷ others) = digits_value 10 value

-- the framing by transfer codings and lengths that are not misframed
abbrev pub framing : List (List ℕ) → List (List ℕ) → Framing
framing codings lengths = if is_there codings then Chunked else (if is_there lengths then Sized (first_number lengths) else Nothing)

-- a length over the limit is as good as the limit and one more
abbrev pub capped : Framing → Framing
capped Nothing = Nothing
capped (Sized n) = Sized (min n (content_limit + 1))
capped Chunked = Chunked

-- ---- of a framing

-- the length that is told
abbrev pub size_of : Framing → ℕ
size_of Nothing = 0
size_of (Sized n) = n
size_of Chunked = 0

abbrev pub is_chunked : Framing → Bool
is_chunked Chunked = true
is_chunked _ = false

abbrev pub is_untold : Framing → Bool
is_untold Nothing = true
is_untold _ = false
