-- The job attributes of a reply, as a table in order (RFC 8011, section 5.3).
use Rattle.std.specs.Prelude.{ℕ, ◌+◌, ◌/◌, List, [], ◌∷◌, ◌++◌, Option, Some, None, Bool, ◌||◌, map, filter, codes, bytes_eq, decimal, if◌then◌else◌}
use Rattle.std.specs.List.{list_any}
use Rattle.std.specs.Option.{option_to_list}
use Rattle.std.specs.Int.{w32, to_be_bytes}
use Rattle.ipp_wire.specs.Message.{Value, Attribute, Group}
use Rattle.queue_types.specs.declared.job.Job.{Job}
use Rattle.queue_types.specs.declared.job.Reason.{Reason}
use Rattle.queue_types.specs.declared.job.Reasons.{Reasons}
use Rattle.queue_types.specs.declared.job.Reason.TheVariants.{NoReason, JobIncoming, JobHoldUntilSpecified, JobPrinting, PrinterStopped, ProcessingToStopPoint, JobCanceledByUser, JobCanceledAtDevice, JobCanceledByOperator, AbortedBySystem, JobCompletedSuccessfully}
use Rattle.queue_types.specs.Job.{state, reasons}
use Rattle.ipp_reply.specs.declared.job_reply.JobAttribute.{JobAttribute}
use Rattle.ipp_reply.specs.declared.job_reply.JobAttribute.TheVariants.{JobUri, JobId, JobPrinterUri, JobName, JobOriginatingUserName, JobState, JobStateReasons, TimeAtCreation, TimeAtProcessing, TimeAtCompleted, JobPrinterUpTime, AttributesCharset, AttributesNaturalLanguage, JobKOctets, JobImpressions, JobImpressionsCompleted, NumberOfDocuments, Copies, JobHoldUntil}

-- ---- values

-- a text under its value tag
abbrev pub text : ℕ → List ℕ → List Value
text tag bytes = record { tag = tag; bytes = bytes } ∷ []

-- several texts under one value tag
abbrev pub texts : ℕ → List (List ℕ) → List Value
texts tag words = map (λ word. record { tag = tag; bytes = word }) words

abbrev pub integer : ℕ → List Value
integer n = record { tag = 0x21; bytes = to_be_bytes w32 n } ∷ []

abbrev pub enumerated : ℕ → List Value
enumerated n = record { tag = 0x23; bytes = to_be_bytes w32 n } ∷ []

-- a moment, or no-value where there is none
abbrev pub moment : Option ℕ → List Value
moment None = record { tag = 0x13; bytes = [] } ∷ []
moment (Some n) = integer n

abbrev pub reason_word : Reason → List ℕ
reason_word NoReason = codes "none"
reason_word JobIncoming = codes "job-incoming"
reason_word JobHoldUntilSpecified = codes "job-hold-until-specified"
reason_word JobPrinting = codes "job-printing"
reason_word PrinterStopped = codes "printer-stopped"
reason_word ProcessingToStopPoint = codes "processing-to-stop-point"
reason_word JobCanceledByUser = codes "job-canceled-by-user"
reason_word JobCanceledAtDevice = codes "job-canceled-at-device"
reason_word JobCanceledByOperator = codes "job-canceled-by-operator"
reason_word AbortedBySystem = codes "aborted-by-system"
reason_word JobCompletedSuccessfully = codes "job-completed-successfully"

abbrev pub reason_words : Reasons → List (List ℕ)
reason_words r = reason_word r.first ∷ map reason_word (option_to_list r.second)

-- ---- the table: name, group of names, values

abbrev pub name_of : JobAttribute → List ℕ
name_of JobUri = codes "job-uri"
name_of JobId = codes "job-id"
name_of JobPrinterUri = codes "job-printer-uri"
name_of JobName = codes "job-name"
name_of JobOriginatingUserName = codes "job-originating-user-name"
name_of JobState = codes "job-state"
name_of JobStateReasons = codes "job-state-reasons"
name_of TimeAtCreation = codes "time-at-creation"
name_of TimeAtProcessing = codes "time-at-processing"
name_of TimeAtCompleted = codes "time-at-completed"
name_of JobPrinterUpTime = codes "job-printer-up-time"
name_of AttributesCharset = codes "attributes-charset"
name_of AttributesNaturalLanguage = codes "attributes-natural-language"
name_of JobKOctets = codes "job-k-octets"
name_of JobImpressions = codes "job-impressions"
name_of JobImpressionsCompleted = codes "job-impressions-completed"
name_of NumberOfDocuments = codes "number-of-documents"
name_of Copies = codes "copies"
name_of JobHoldUntil = codes "job-hold-until"

-- the word by which a request asks for the row among others
abbrev pub family_of : JobAttribute → List ℕ
family_of Copies = codes "job-template"
family_of JobHoldUntil = codes "job-template"
family_of _ = codes "job-description"

abbrev pub values_of : List ℕ → ℕ → Job → JobAttribute → List Value
values_of uri now j JobUri = text 0x45 (uri ++ codes "/" ++ decimal j.number)
values_of uri now j JobId = integer j.number
values_of uri now j JobPrinterUri = text 0x45 uri
values_of uri now j JobName = text 0x42 j.name
values_of uri now j JobOriginatingUserName = text 0x42 j.owner
values_of uri now j JobState = enumerated (state j)
values_of uri now j JobStateReasons = texts 0x44 (reason_words (reasons j))
values_of uri now j TimeAtCreation = integer j.created
values_of uri now j TimeAtProcessing = moment j.begun
values_of uri now j TimeAtCompleted = moment j.ended
values_of uri now j JobPrinterUpTime = integer now
values_of uri now j AttributesCharset = text 0x47 (codes "utf-8")
values_of uri now j AttributesNaturalLanguage = text 0x48 (codes "en")
values_of uri now j JobKOctets = integer ((j.octets + 1023) / 1024)
values_of uri now j JobImpressions = integer j.impressions
values_of uri now j JobImpressionsCompleted = integer j.count
values_of uri now j NumberOfDocuments = integer j.documents
values_of uri now j Copies = integer j.copies
values_of uri now j JobHoldUntil = text 0x44 (if j.hold then codes "indefinite" else codes "no-hold")

abbrev pub table : List JobAttribute
table = JobUri ∷ JobId ∷ JobPrinterUri ∷ JobName ∷ JobOriginatingUserName ∷ JobState ∷ JobStateReasons ∷ TimeAtCreation ∷ TimeAtProcessing ∷ TimeAtCompleted ∷ JobPrinterUpTime ∷ AttributesCharset ∷ AttributesNaturalLanguage ∷ JobKOctets ∷ JobImpressions ∷ JobImpressionsCompleted ∷ NumberOfDocuments ∷ Copies ∷ JobHoldUntil ∷ []

-- ---- selection

-- the word selects the row
abbrev pub selects : JobAttribute → List ℕ → Bool
selects a word = bytes_eq word (name_of a) || bytes_eq word (codes "all") || bytes_eq word (family_of a)

-- the rows that the words select, each once and in the table's order
abbrev pub selected : List (List ℕ) → List JobAttribute
selected asked = filter (λ a. list_any (selects a) asked) table

-- ---- the group of a job

abbrev pub attribute : List ℕ → ℕ → Job → JobAttribute → Attribute
attribute uri now j a = record { name = name_of a; values = values_of uri now j a }

abbrev pub job_group : List ℕ → ℕ → List JobAttribute → Job → Group
job_group uri now rows j = record { tag = 0x02; attributes = map (attribute uri now j) rows }
