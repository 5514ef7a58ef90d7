-- The checks of a request's known attributes, in order, each with when it applies and its status code (RFC 8011, sections 4.1 and 4.2,
-- appendix B).
use Rattle.std.specs.Prelude.{ℕ, List, [], ◌∷◌, Option, Bool, false, not, ◌&&◌, codes, bytes_eq, find, is_none}
use Rattle.std.specs.List.{list_any, list_all}
use Rattle.std.specs.Option.{option_map_or}
use Rattle.std.specs.Str.{str_eq_ignore_ascii_case}
use Rattle.ipp_wire.specs.Message.{Value}
use Rattle.ipp_request.specs.declared.attribute.OperationAttribute.{OperationAttribute}
use Rattle.ipp_request.specs.declared.attribute.OperationAttribute.TheVariants as key
use Rattle.ipp_ops.specs.declared.check.Check.{Check}
use Rattle.ipp_ops.specs.declared.check.Check.TheVariants.{Charset, Form, Length, Needed, Target, Compression, Format}
use Rattle.ipp_request.specs.Attributes.{Row, row, table, needs}
use Rattle.ipp_request.specs.Values.{are_formed, any_long}
use Rattle.ipp_request.specs.Formats.{format_of}
use Rattle.ipp_request.specs.Request.{Request, known, bytes_of, has, is_target}

-- ---- the attributes

-- a known attribute fails a test that its row makes
abbrev pub fails : (Row → List Value → Bool) → Request → OperationAttribute → Bool
fails test r k = option_map_or (λ a. test (row k) a.values) (known r k) false

abbrev pub some_fails : (Row → List Value → Bool) → Request → Bool
some_fails test r = list_any (fails test r) table

-- all of one of the lists that the operation needs are there
abbrev pub has_needed : Request → Bool
has_needed r = list_any (λ ks. list_all (has r) ks) (needs r.operation)

-- ---- the table

-- the check refuses the request
abbrev pub applies : Check → Request → Bool
applies Charset r = not (str_eq_ignore_ascii_case (bytes_of r key.AttributesCharset) (codes "utf-8"))
applies Form r = some_fails (λ row vs. not (are_formed row vs)) r
applies Length r = some_fails any_long r
applies Needed r = not (has_needed r)
applies Target r = not (is_target r)
applies Compression r = has r key.Compression && not (bytes_eq (bytes_of r key.Compression) (codes "none"))
applies Format r = has r key.DocumentFormat && is_none (format_of (bytes_of r key.DocumentFormat))

-- the status code with which it refuses
abbrev pub code : Check → ℕ
code Charset = 0x040D
code Form = 0x0400
code Length = 0x0409
code Needed = 0x0400
code Target = 0x0406
code Compression = 0x040F
code Format = 0x040A

-- the checks, in order
abbrev pub checks : List Check
checks = Charset ∷ Form ∷ Length ∷ Needed ∷ Target ∷ Compression ∷ Format ∷ []

-- the first check that refuses
abbrev pub refusal : Request → Option Check
refusal r = find (λ c. applies c r) checks
