-- What a request asks of a new job (RFC 8011, sections 4.2.1 and 5.2).
use Rattle.std.specs.Prelude.{ℕ, List, Option, Some, None, codes, if◌then◌else◌, unwrap_or}
use Rattle.std.specs.Option.{option_and_then}
use Rattle.ipp_wire.specs.Message.{Value, Attribute}
use Rattle.queue_types.specs.declared.document.Format.{Format}
use Rattle.queue_types.specs.declared.document.Format.TheVariants.{OctetStream}
use Rattle.queue_types.specs.Event.{NewJob}
use Rattle.ipp_request.specs.declared.attribute.OperationAttribute.TheVariants as key
use Rattle.ipp_request.specs.declared.attribute.JobGroupAttribute.{JobGroupAttribute}
use Rattle.ipp_request.specs.declared.attribute.JobGroupAttribute.TheVariants as in_job_group
use Rattle.ipp_request.specs.Attributes.{Support, row, job_group_name, job_group_support}
use Rattle.ipp_request.specs.Values.{number_of, are_supported}
use Rattle.ipp_request.specs.Formats.{format_of}
use Rattle.ipp_request.specs.Request.{Request, named, known, has, first_value, bytes_of, text_in}

abbrev pub first_number : List Value → Option ℕ
first_number vs = option_and_then (λ v. number_of v.bytes) (first_value vs)

-- the number of an attribute, where it is there and supported
abbrev pub supported_number : Support → Option Attribute → Option ℕ
supported_number s None = None
supported_number s (Some a) = if are_supported s a.values then first_number a.values else None

-- of the job group
abbrev pub job_group_number : Request → JobGroupAttribute → Option ℕ
job_group_number r k = supported_number (job_group_support k) (named (job_group_name k) r.job_attributes)

-- of the operation group where it is there, else of the job group
abbrev pub impressions : Request → Option ℕ
impressions r = if has r key.JobImpressions then supported_number (row key.JobImpressions).support (known r key.JobImpressions) else job_group_number r in_job_group.JobImpressions

-- job-name, else document-name
abbrev pub job_name : Request → List ℕ
job_name r = unwrap_or (text_in r key.JobName) (unwrap_or (text_in r key.DocumentName) (codes "untitled"))

abbrev pub new_job : Request → NewJob
new_job r = record { name = job_name r; copies = unwrap_or (job_group_number r in_job_group.Copies) 1; impressions = impressions r }

abbrev pub format : Request → Format
format r = unwrap_or (format_of (bytes_of r key.DocumentFormat)) OctetStream
