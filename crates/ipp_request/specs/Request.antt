-- What a request says: its attributes, its caller and its target (RFC 8011, sections 4.1.1 to 4.1.6).
use Rattle.std.specs.Prelude.{ℕ, ◌≡◌, ◌≤◌, ◌++◌, ◌==◌, List, [], ◌∷◌, Option, Some, None, Bool, true, false, codes, length, bytes_eq, drop, find, if◌then◌else◌, is_some, unwrap_or, not, ◌&&◌, nat_eq}
use Rattle.std.specs.Option.{option_map_or, option_and_then}
use Rattle.std.specs.Str.{is_utf8}
use Rattle.std.specs.Char.{is_ascii_digit}
use Rattle.std.specs.Fmt.{decimal}
use Rattle.std.specs.Str.Parse.{digits_value}
use Rattle.std.specs.List.{starts_with, list_all}
use Rattle.ipp_wire.specs.Message.{Value, Attribute, Group, Message}
use Rattle.queue_types.specs.Uri.{path_of, printer_path}
use Rattle.ipp_reply.specs.declared.operation.Operation.{Operation}
use Rattle.ipp_request.specs.declared.attribute.OperationAttribute.{OperationAttribute}
use Rattle.ipp_request.specs.declared.attribute.OperationAttribute.TheVariants.{PrinterUri, JobUri, JobId, JobIds, RequestingUserName}
use Rattle.ipp_wire.specs.Viewed.{attributes_of}
use Rattle.ipp_request.specs.declared.request.Request.{Request as RequestRef}
use Rattle.ipp_request.specs.Attributes.{row, knows, is_on_job}
use Rattle.ipp_request.specs.Values.{number_of, is_positive, text_of}

-- ---- attributes

-- the operation that its head asks for, the attributes of its operation group and of its job group, and its payload
pub record Request : Type 0 where
  pub operation : Operation
  pub attributes : List Attribute
  pub job_attributes : List Attribute
  pub payload : List ℕ

-- the attributes of the first group of that tag
abbrev pub attributes_in : ℕ → List Group → List Attribute
attributes_in tag gs = option_map_or (λ g. g.attributes) (find (λ g. g.tag == tag) gs) []

abbrev pub request_for : Operation → Message → Request
request_for o m = record { operation = o; attributes = attributes_in 0x01 m.groups; job_attributes = attributes_in 0x02 m.groups; payload = m.payload }

-- the first attribute of that name
abbrev pub named : List ℕ → List Attribute → Option Attribute
named name attrs = find (λ a. bytes_eq a.name name) attrs

-- the first attribute of that name, where the operation knows it
abbrev pub known : Request → OperationAttribute → Option Attribute
known r k = if knows r.operation k then named (row k).name r.attributes else None

abbrev pub has : Request → OperationAttribute → Bool
has r k = is_some (known r k)

abbrev pub first_value : List Value → Option Value
first_value [] = None
first_value (v ∷ vs) = Some v

-- the first value of a known attribute
abbrev pub value_of : Request → OperationAttribute → Option Value
value_of r k = option_and_then (λ a. first_value a.values) (known r k)

-- its bytes, or none where there is no such attribute
abbrev pub bytes_of : Request → OperationAttribute → List ℕ
bytes_of r k = option_map_or (λ v. v.bytes) (value_of r k) []

-- its first value is the byte 1: true, where it is a boolean
abbrev pub is_true : Request → OperationAttribute → Bool
is_true r k = bytes_eq (bytes_of r k) (1 ∷ [])

-- a text, where it is not empty
abbrev pub filled : List ℕ → Option (List ℕ)
filled [] = None
filled (b ∷ bs) = if is_utf8 (b ∷ bs) then Some (b ∷ bs) else None

-- the text of a known attribute, where there is one that is not empty
abbrev pub text_in : Request → OperationAttribute → Option (List ℕ)
text_in r k = option_and_then (λ v. option_and_then filled (text_of v)) (value_of r k)

-- ---- the target

abbrev pub is_printer : List ℕ → Bool
is_printer uri = bytes_eq (path_of uri) printer_path

-- the number of a job in decimal: digits, the first not zero
abbrev pub number_in : List ℕ → Option ℕ
number_in text = if list_all is_ascii_digit text && not (starts_with nat_eq text (codes "0")) && is_positive (digits_value 10 text) then Some (digits_value 10 text) else None

-- the path under which the printer is found, and a slash: the path of a job goes on with its number
abbrev pub jobs_path : List ℕ
jobs_path = printer_path ++ codes "/"

-- the number of the job of that path
abbrev pub job_in : List ℕ → Option ℕ
job_in path = if starts_with nat_eq path jobs_path then number_in (drop (length jobs_path) path) else None

-- the path of the job of that number
pub record IsJobPath (path : List ℕ) (n : ℕ) : Type 0 where
  pub low : 1 ≤ n
  pub high : n ≤ 2147483647
  pub spelled : path ≡ jobs_path ++ decimal n

-- the number of a job-id, where it may be a job's
abbrev pub job_of_id : ℕ → Option ℕ
job_of_id n = if is_positive n then Some n else None

-- the job that a request is about: by job-uri where it is there, else by printer-uri and job-id
abbrev pub target_job : Request → Option ℕ
target_job r = if has r JobUri then job_in (path_of (bytes_of r JobUri)) else (if is_printer (bytes_of r PrinterUri) then option_and_then job_of_id (number_of (bytes_of r JobId)) else None)

-- the value may be a job's number
abbrev pub is_job_number : Value → Bool
is_job_number v = option_map_or is_positive (number_of v.bytes) false

-- what the request has of job-ids are numbers that jobs may have
abbrev pub are_job_numbers : Request → Bool
are_job_numbers r = option_map_or (λ a. list_all is_job_number a.values) (known r JobIds) true

-- this printer, or a job of it, is what the request is about
abbrev pub is_target : Request → Bool
is_target r = if is_on_job r.operation then is_some (target_job r) else is_printer (bytes_of r PrinterUri) && are_job_numbers r

-- ---- the caller

abbrev pub caller : Request → List ℕ
caller r = unwrap_or (text_in r RequestingUserName) (codes "anonymous")

-- ---- a request of the code, by its content

abbrev pub request_of : RequestRef → Request
request_of r = record { operation = r.operation; attributes = attributes_of r.attributes.now; job_attributes = attributes_of r.job_attributes.now; payload = r.payload.now }
