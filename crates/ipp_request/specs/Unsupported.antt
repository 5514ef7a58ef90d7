-- The attributes of a request that the printer doesn't take as they stand (RFC 8011, section 4.1.7).
use Rattle.std.specs.Prelude.{ℕ, List, [], ◌∷◌, Option, Some, None, not, ◌&&◌, ◌||◌, Bool, bytes_eq, find, filter, if◌then◌else◌, is_some, option_map}
use Rattle.std.specs.List.{filter_map, list_any}
use Rattle.ipp_wire.specs.Message.{Attribute}
use Rattle.ipp_reply.specs.declared.operation.Operation.{Operation}
use Rattle.ipp_request.specs.declared.unsupported.Source.{Source}
use Rattle.ipp_request.specs.declared.unsupported.Source.TheVariants.{OperationGroup, JobGroup}
use Rattle.ipp_request.specs.declared.attribute.OperationAttribute.{OperationAttribute}
use Rattle.ipp_request.specs.declared.attribute.OperationAttribute.TheVariants as key
use Rattle.ipp_reply.specs.Unsupported.{Unsupported, is_filled}
use Rattle.ipp_request.specs.Attributes.{Support, row, table, knows, makes_job, job_group_name, job_group_support, job_group_table}
use Rattle.ipp_request.specs.Values.{are_supported}
use Rattle.ipp_request.specs.Request.{Request, is_true}

-- the first attribute of each name
abbrev pub counted : List Attribute → List Attribute
counted [] = []
counted (a ∷ attrs) = a ∷ filter (λ b. not (bytes_eq a.name b.name)) (counted attrs)

-- the attribute of that name that an operation knows
abbrev pub attribute_named : Operation → List ℕ → Option OperationAttribute
attribute_named o name = find (λ k. bytes_eq (row k).name name && knows o k) table

abbrev pub is_known : Operation → List ℕ → Bool
is_known o name = is_some (attribute_named o name)

-- what is supported of an attribute of that name, where it is known
abbrev pub support_for : Source → List ℕ → Option Support
support_for (OperationGroup o) name = option_map (λ k. (row k).support) (attribute_named o name)
support_for JobGroup name = option_map job_group_support (find (λ k. bytes_eq (job_group_name k) name) job_group_table)

-- an unknown attribute is listed with one value of tag 0x10 without bytes, a known one with its own
abbrev pub listed_by : Option Support → Attribute → Option Attribute
listed_by None a = Some (record { name = a.name; values = record { tag = 0x10; bytes = [] } ∷ [] })
listed_by (Some s) a = if are_supported s a.values then None else Some a

abbrev pub listed : Source → Attribute → Option Attribute
listed s a = listed_by (support_for s a.name) a

-- in the request's order
abbrev pub listed_in : Source → List Attribute → List Attribute
listed_in s attrs = filter_map (listed s) (counted attrs)

-- the job group is looked at where the operation makes a job
abbrev pub unsupported : Request → Unsupported
unsupported r = record {
  operation = listed_in (OperationGroup r.operation) r.attributes;
  job = if makes_job r.operation then listed_in JobGroup r.job_attributes else [];
}

-- ---- what refuses

-- what is unsupported in the job group may not be ignored
abbrev pub is_strict : Request → Bool
is_strict r = is_true r key.IppAttributeFidelity

-- the list holds an attribute that the operation knows, or one of the job group that may not be ignored
abbrev pub is_refused_for : Request → Unsupported → Bool
is_refused_for r u = list_any (λ a. is_known r.operation a.name) u.operation || (is_strict r && is_filled u.job)
