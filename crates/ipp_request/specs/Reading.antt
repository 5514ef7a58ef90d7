-- The request that a message is, or what of its head or its groups refuses it (RFC 8011, sections 4.1.1 to 4.1.4, appendix B).
use Rattle.std.specs.Prelude.{ℕ, ◌==◌, List, [], ◌∷◌, Option, Result, Ok, Err, Bool, false, ◌&&◌, bytes_eq, if◌then◌else◌}
use Rattle.std.specs.Option.{ok_or}
use Rattle.std.specs.Result.{result_err}
use Rattle.ipp_wire.specs.declared.view.Head.{Head}
use Rattle.ipp_wire.specs.Bare.{is_known_version}
use Rattle.ipp_wire.specs.Message.{Attribute, Group, Message}
use Rattle.ipp_reply.specs.declared.operation.Operation.{Operation}
use Rattle.ipp_reply.specs.Operations.{operation_of}
use Rattle.ipp_request.specs.declared.attribute.OperationAttribute.{OperationAttribute}
use Rattle.ipp_request.specs.declared.attribute.OperationAttribute.TheVariants as key
use Rattle.ipp_request.specs.Attributes.{row}
use Rattle.ipp_request.specs.Values.{is_tagged, one_value}
use Rattle.ipp_request.specs.Request.{Request, request_for}

-- ---- the head

-- the operation that a head asks for, or the code that refuses it: the version is looked at first
abbrev pub operation_in : Head → Result Operation ℕ
operation_in h = if is_known_version h then ok_or (operation_of h.code) 0x0501 else Err 0x0503

abbrev pub head_refusal : Head → Option ℕ
head_refusal h = result_err (operation_in h)

-- ---- the groups

-- under the row's name one value, with a tag of its syntax
abbrev pub is_lone : OperationAttribute → Attribute → Bool
is_lone k a = bytes_eq a.name (row k).name && one_value (is_tagged (row k).syntax) a.values

-- the first two are the charset and the language
abbrev pub attributes_begin : List Attribute → Bool
attributes_begin (charset ∷ language ∷ attrs) = is_lone key.AttributesCharset charset && is_lone key.AttributesNaturalLanguage language
attributes_begin _ = false

-- the first group is that of the operation, and begins with charset and language
abbrev pub groups_begin : List Group → Bool
groups_begin [] = false
groups_begin (g ∷ gs) = g.tag == 0x01 && attributes_begin g.attributes

-- the request that a message is, or the code that refuses how its first group begins
abbrev pub begun_for : Operation → Message → Result Request ℕ
begun_for o m = if groups_begin m.groups then Ok (request_for o m) else Err 0x0400

abbrev pub request_by : Result Operation ℕ → Message → Result Request ℕ
request_by (Err code) m = Err code
request_by (Ok o) m = begun_for o m

abbrev pub request_in : Message → Result Request ℕ
request_in m = request_by (operation_in m.head) m
