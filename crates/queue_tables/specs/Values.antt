-- The values of one row, as a SELECT of all its columns shows them.
use Rattle.std.specs.Prelude.{ℕ, ℤ, pos, Bool, List, [], ◌∷◌, Option, slice_set}
use Rattle.sqlite.specs.declared.types.Value.{Value}
use Rattle.sqlite.specs.declared.types.Value.TheVariants.{Int, Text as Words, Blob}
use Rattle.sqlite.specs.Values.{or_null}
use Rattle.sqlite.specs.Order.{Row, column}
use Rattle.sqlite.specs.Ops.{binary}
use Rattle.sqlite.specs.Collation.TheVariants.{Binary}
use Rattle.sqlite_sql.specs.declared.ops.ArithOp.TheVariants.{Add}
use Rattle.sqlite_sql.specs.declared.ops.BinaryOp.TheVariants.{And, Arith, Compare}
use Rattle.sqlite_sql.specs.declared.ops.CompareOp.TheVariants.{Eq}
use Rattle.queue_types.specs.declared.job.Job.{Job}
use Rattle.queue_types.specs.Formats.{format_name}
use Rattle.queue_types.specs.declared.event.GrantRow.{GrantRow}
use Rattle.queue_types.specs.declared.event.KeptReport.{KeptReport}
use Rattle.queue_rows.specs.Codes.{phase_number, stopping_number, why_number, kind_number, flag_number, job_state_number}
use Rattle.queue_rows.specs.declared.rows.DocumentRow.{DocumentRow}
use Rattle.queue_rows.specs.declared.rows.MetaRow.{MetaRow}
use Rattle.queue_rows.specs.declared.rows.PolicyRow.{PolicyRow}

-- ---- one value

abbrev pub number : ℕ → Value
number n = Int (pos n)

abbrev pub truth : Bool → Value
truth b = number (flag_number b)

-- NULL where there is none
abbrev pub moment : Option ℕ → Value
moment = or_null number

-- ---- the columns of each table in order; a stored row has its rowid in column 0

abbrev pub meta_values : MetaRow → Row
meta_values m = number m.one ∷ number m.schema ∷ Words m.uri ∷ Words m.name ∷ number m.estimate ∷ Int m.epoch ∷ number m.next_number ∷ []

abbrev pub meta_view : Row → Row
meta_view r = column r 0 ∷ column r 2 ∷ column r 3 ∷ column r 4 ∷ column r 5 ∷ column r 6 ∷ column r 7 ∷ []

abbrev pub policy_values : PolicyRow → Row
policy_values p = number p.one ∷ number p.keep ∷ []

abbrev pub policy_view : Row → Row
policy_view r = column r 0 ∷ column r 2 ∷ []

abbrev pub operator_values : List ℕ → Row
operator_values name = Words name ∷ []

abbrev pub operator_view : Row → Row
operator_view r = column r 1 ∷ []

-- nothing of a job's documents stands in its row
abbrev pub job_values : Job → Row
job_values j =
    number j.number ∷ Words j.owner ∷ Words j.name ∷ number j.copies ∷ number j.impressions ∷ truth j.hold ∷ truth j.incoming ∷ number (phase_number j.phase) ∷ number (why_number j.phase j.stopping)
    ∷ number (stopping_number j.phase j.stopping) ∷ number j.count ∷ number j.created ∷ moment j.begun ∷ moment j.ended ∷ []

abbrev pub job_view : Row → Row
job_view r =
    column r 0 ∷ column r 2 ∷ column r 3 ∷ column r 4 ∷ column r 5 ∷ column r 6 ∷ column r 7 ∷ column r 8 ∷ column r 9 ∷ column r 10 ∷ column r 11 ∷ column r 12 ∷ column r 13 ∷ column r 14 ∷ []

-- of the columns why and stopping: 1 where a job is stopping and why is 0, and else 0
abbrev pub without_cause : Value → Value → Value
without_cause why stopping = binary And (binary (Compare Eq Binary) why (Int (pos 0))) (binary (Compare Eq Binary) stopping (Int (pos 1)))

-- with 1, which is by its user, in the column why of a job that is stopping and has 0 there, as older stores have
abbrev pub with_cause : Row → Row
with_cause v = slice_set v 8 (binary (Arith Add) (column v 8) (without_cause (column v 8) (column v 9)))

abbrev pub kept_job_view : Row → Row
kept_job_view r = with_cause (job_view r)

abbrev pub document_values : DocumentRow → Row
document_values d = number d.job ∷ number d.doc ∷ Words (format_name d.format) ∷ number d.octets ∷ []

abbrev pub document_view : Row → Row
document_view r = column r 1 ∷ column r 2 ∷ column r 3 ∷ column r 4 ∷ []

-- a piece by its job, its document and its number, with its bytes
abbrev pub piece_values : ℕ → ℕ → ℕ → List ℕ → Row
piece_values job doc piece bytes = number job ∷ number doc ∷ number piece ∷ Blob bytes ∷ []

abbrev pub piece_view : Row → Row
piece_view r = column r 1 ∷ column r 2 ∷ column r 3 ∷ column r 4 ∷ []

-- an account by its name, its free pages, and the sums of those reserved and printed
abbrev pub account_values : List ℕ → ℤ → ℤ → ℤ → Row
account_values name free set_aside done = Words name ∷ Int free ∷ Int set_aside ∷ Int done ∷ []

abbrev pub account_view : Row → Row
account_view r = column r 1 ∷ column r 2 ∷ column r 3 ∷ column r 4 ∷ []

abbrev pub grant_values : GrantRow → Row
grant_values g = Words g.batch ∷ Words g.account ∷ number g.pages ∷ []

abbrev pub grant_view : Row → Row
grant_view r = column r 1 ∷ column r 2 ∷ column r 3 ∷ []

abbrev pub report_values : KeptReport → Row
report_values k = number k.report.job ∷ number k.report.seq ∷ number (kind_number k.report.kind) ∷ number k.report.count ∷ number (job_state_number k.state) ∷ number k.total ∷ []

abbrev pub report_view : Row → Row
report_view r = column r 1 ∷ column r 2 ∷ column r 3 ∷ column r 4 ∷ column r 5 ∷ column r 6 ∷ []
