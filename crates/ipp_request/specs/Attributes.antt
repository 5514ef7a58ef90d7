-- The attributes that requests have, as two tables: a row for each (RFC 8011, sections 4, 5.2 and 5.3.17.2).
use Rattle.std.specs.Prelude.{ℕ, List, [], ◌∷◌, Option, Some, None, Bool, true, false, codes, map}
use Rattle.std.specs.List.{list_any}
use Rattle.ipp_reply.specs.declared.operation.Operation.{Operation}
use Rattle.ipp_reply.specs.declared.operation.Operation.TheVariants.{PrintJob, ValidateJob, CreateJob, SendDocument, CancelJob, GetJobAttributes, GetJobs, GetPrinterAttributes, HoldJob, ReleaseJob, CancelMyJobs}
use Rattle.ipp_request.specs.declared.attribute.OperationAttribute.{OperationAttribute}
use Rattle.ipp_request.specs.declared.attribute.OperationAttribute.TheVariants.{AttributesCharset, AttributesNaturalLanguage, PrinterUri, JobUri, JobId, RequestingUserName, JobName, DocumentName, IppAttributeFidelity, Compression, DocumentFormat, JobImpressions, RequestedAttributes, WhichJobs, Limit, MyJobs, LastDocument, JobIds, JobHoldUntil}
use Rattle.ipp_request.specs.declared.attribute.Syntax.{Syntax}
use Rattle.ipp_request.specs.declared.attribute.Syntax.TheVariants as syntaxes
use Rattle.ipp_request.specs.declared.attribute.Support.{Support as SupportRef}
use Rattle.ipp_request.specs.declared.attribute.Support.TheVariants.{Anything, Between, Words}
use Rattle.ipp_request.specs.declared.attribute.Row.{Row as RowRef}
use Rattle.ipp_request.specs.declared.attribute.JobGroupAttribute.{JobGroupAttribute}
use Rattle.ipp_request.specs.declared.attribute.JobGroupAttribute.TheVariants as in_job_group
use Rattle.ipp_reply.specs.Operations.{operations, is_operation}

-- which values are supported: any, one number within bounds, or one of these keywords
pub data Support : Type 0 where
  anything : Support
  between : ℕ → ℕ → Support
  words : List (List ℕ) → Support

-- ---- operation attributes

-- the value tags of a syntax (RFC 8010, section 3.5.2)
abbrev pub tags_of : Syntax → List ℕ
tags_of syntaxes.Charset = 0x47 ∷ []
tags_of syntaxes.NaturalLanguage = 0x48 ∷ []
tags_of syntaxes.Uri = 0x45 ∷ []
tags_of syntaxes.MediaType = 0x49 ∷ []
tags_of syntaxes.Keyword = 0x44 ∷ []
tags_of syntaxes.KeywordOrName = 0x44 ∷ 0x42 ∷ 0x36 ∷ []
tags_of syntaxes.Integer = 0x21 ∷ []
tags_of syntaxes.Positive = 0x21 ∷ []
tags_of syntaxes.Boolean = 0x22 ∷ []
tags_of syntaxes.UserName = 0x42 ∷ 0x36 ∷ []
tags_of syntaxes.Title = 0x42 ∷ 0x36 ∷ []

-- the limit of a value's octets, of a nameWithLanguage that of its name (section 5.1)
abbrev pub limit_of : Syntax → Option ℕ
limit_of syntaxes.Charset = None
limit_of syntaxes.NaturalLanguage = Some 63
limit_of syntaxes.Uri = Some 1023
limit_of syntaxes.MediaType = Some 255
limit_of syntaxes.Keyword = Some 255
limit_of syntaxes.KeywordOrName = Some 255
limit_of syntaxes.Integer = None
limit_of syntaxes.Positive = None
limit_of syntaxes.Boolean = None
limit_of syntaxes.UserName = Some 255
limit_of syntaxes.Title = Some 255

-- a row of the table: the syntax of the values, whether there may be several, which are supported, and
-- the operations that know the attribute
pub record Row : Type 0 where
  pub name : List ℕ
  pub syntax : Syntax
  pub many : Bool
  pub support : Support
  pub known_in : List Operation

-- the operation is one of these
abbrev pub is_one_of : List Operation → Operation → Bool
is_one_of os o = list_any (λ p. is_operation p o) os

-- the operations on one job
abbrev pub of_job : List Operation
of_job = SendDocument ∷ CancelJob ∷ GetJobAttributes ∷ HoldJob ∷ ReleaseJob ∷ []

-- those that a new job's attributes come with
abbrev pub of_new_job : List Operation
of_new_job = PrintJob ∷ ValidateJob ∷ CreateJob ∷ []

-- those that a document's attributes come with
abbrev pub of_document : List Operation
of_document = PrintJob ∷ ValidateJob ∷ SendDocument ∷ []

-- one value, of any content
abbrev pub one : List ℕ → Syntax → List Operation → Row
one name syntax known_in = record { name = name; syntax = syntax; many = false; support = anything; known_in = known_in }

-- from 0 to 100,000
abbrev pub impression_range : Support
impression_range = between 0 100000

-- held with no end
abbrev pub hold_words : Support
hold_words = words (codes "indefinite" ∷ [])

abbrev pub row : OperationAttribute → Row
row AttributesCharset = one (codes "attributes-charset") syntaxes.Charset operations
row AttributesNaturalLanguage = one (codes "attributes-natural-language") syntaxes.NaturalLanguage operations
row PrinterUri = one (codes "printer-uri") syntaxes.Uri operations
row JobUri = one (codes "job-uri") syntaxes.Uri of_job
row JobId = one (codes "job-id") syntaxes.Integer of_job
row RequestingUserName = one (codes "requesting-user-name") syntaxes.UserName operations
row JobName = one (codes "job-name") syntaxes.Title of_new_job
row DocumentName = one (codes "document-name") syntaxes.Title of_document
row IppAttributeFidelity = one (codes "ipp-attribute-fidelity") syntaxes.Boolean of_new_job
row Compression = one (codes "compression") syntaxes.Keyword of_document
row DocumentFormat = one (codes "document-format") syntaxes.MediaType (PrintJob ∷ ValidateJob ∷ SendDocument ∷ GetPrinterAttributes ∷ [])
row JobImpressions = record (one (codes "job-impressions") syntaxes.Integer of_new_job) { support = impression_range }
row RequestedAttributes = record (one (codes "requested-attributes") syntaxes.Keyword (GetJobAttributes ∷ GetJobs ∷ GetPrinterAttributes ∷ [])) { many = true }
row WhichJobs = record (one (codes "which-jobs") syntaxes.Keyword (GetJobs ∷ [])) { support = words (codes "not-completed" ∷ codes "completed" ∷ []) }
row Limit = one (codes "limit") syntaxes.Positive (GetJobs ∷ [])
row MyJobs = one (codes "my-jobs") syntaxes.Boolean (GetJobs ∷ [])
row LastDocument = one (codes "last-document") syntaxes.Boolean (SendDocument ∷ [])
row JobIds = record (one (codes "job-ids") syntaxes.Integer (CancelMyJobs ∷ [])) { many = true }
row JobHoldUntil = record (one (codes "job-hold-until") syntaxes.KeywordOrName (HoldJob ∷ [])) { support = hold_words }

-- the operation is one on a job
abbrev pub is_on_job : Operation → Bool
is_on_job o = is_one_of of_job o

-- the operation looks at the job group: it makes a job, or says whether one would be made
abbrev pub makes_job : Operation → Bool
makes_job o = is_one_of of_new_job o

-- the operation attributes
abbrev pub table : List OperationAttribute
table = AttributesCharset ∷ AttributesNaturalLanguage ∷ PrinterUri ∷ JobUri ∷ JobId ∷ RequestingUserName ∷ JobName ∷ DocumentName ∷ IppAttributeFidelity ∷ Compression ∷ DocumentFormat ∷ JobImpressions ∷ RequestedAttributes ∷ WhichJobs ∷ Limit ∷ MyJobs ∷ LastDocument ∷ JobIds ∷ JobHoldUntil ∷ []

-- the operation knows the attribute
abbrev pub knows : Operation → OperationAttribute → Bool
knows o k = is_one_of (row k).known_in o

-- by job-uri, or by printer-uri and job-id
abbrev pub job_target : List (List OperationAttribute)
job_target = (JobUri ∷ []) ∷ (PrinterUri ∷ JobId ∷ []) ∷ []

-- the attributes that the operation needs: all of one of these lists
abbrev pub needs : Operation → List (List OperationAttribute)
needs PrintJob = (PrinterUri ∷ []) ∷ []
needs ValidateJob = (PrinterUri ∷ []) ∷ []
needs CreateJob = (PrinterUri ∷ []) ∷ []
needs SendDocument = (JobUri ∷ LastDocument ∷ []) ∷ (PrinterUri ∷ JobId ∷ LastDocument ∷ []) ∷ []
needs CancelJob = job_target
needs GetJobAttributes = job_target
needs GetJobs = (PrinterUri ∷ []) ∷ []
needs GetPrinterAttributes = (PrinterUri ∷ []) ∷ []
needs HoldJob = job_target
needs ReleaseJob = job_target
needs CancelMyJobs = (PrinterUri ∷ []) ∷ []

-- ---- attributes of the job group

abbrev pub job_group_name : JobGroupAttribute → List ℕ
job_group_name in_job_group.Copies = codes "copies"
job_group_name in_job_group.JobHoldUntil = codes "job-hold-until"
job_group_name in_job_group.JobImpressions = codes "job-impressions"

abbrev pub job_group_support : JobGroupAttribute → Support
job_group_support in_job_group.Copies = between 1 999
job_group_support in_job_group.JobHoldUntil = hold_words
job_group_support in_job_group.JobImpressions = impression_range

abbrev pub job_group_table : List JobGroupAttribute
job_group_table = in_job_group.Copies ∷ in_job_group.JobHoldUntil ∷ in_job_group.JobImpressions ∷ []

-- ---- a row of the code, by its content

abbrev pub support_of : SupportRef → Support
support_of Anything = anything
support_of (Between low high) = between low high
support_of (Words ws) = words (map (λ w. w.now) ws.now)

abbrev pub row_of : RowRef → Row
row_of r = record { name = r.name.now; syntax = r.syntax; many = r.many; support = support_of r.support; known_in = r.known_in.now }
