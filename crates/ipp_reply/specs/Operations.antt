-- The operations and their ids (RFC 8011, section 5.4.15; PWG 5100.11).
use Rattle.std.specs.Prelude.{ℕ, List, [], ◌∷◌, Option, ◌==◌, find, Bool}
use Rattle.ipp_reply.specs.declared.operation.Operation.{Operation}
use Rattle.ipp_reply.specs.declared.operation.Operation.TheVariants.{PrintJob, ValidateJob, CreateJob, SendDocument, CancelJob, GetJobAttributes, GetJobs, GetPrinterAttributes, HoldJob, ReleaseJob, CancelMyJobs}

abbrev pub id : Operation → ℕ
id PrintJob = 0x0002
id ValidateJob = 0x0004
id CreateJob = 0x0005
id SendDocument = 0x0006
id CancelJob = 0x0008
id GetJobAttributes = 0x0009
id GetJobs = 0x000A
id GetPrinterAttributes = 0x000B
id HoldJob = 0x000C
id ReleaseJob = 0x000D
id CancelMyJobs = 0x0039

-- by id
abbrev pub operations : List Operation
operations = PrintJob ∷ ValidateJob ∷ CreateJob ∷ SendDocument ∷ CancelJob ∷ GetJobAttributes ∷ GetJobs ∷ GetPrinterAttributes ∷ HoldJob ∷ ReleaseJob ∷ CancelMyJobs ∷ []

abbrev pub operation_of : ℕ → Option Operation
operation_of code = find (λ o. id o == code) operations

-- two operations are the same one
abbrev pub is_operation : Operation → Operation → Bool
is_operation o p = id o == id p
