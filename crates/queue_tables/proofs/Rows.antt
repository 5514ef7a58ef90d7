-- What each INSERT of a row does.
use Rattle.std.proofs.Common.{◌≡◌, ℕ, ℤ, pos, List, [], ◌∷◌, ◌++◌, Ok, refl}
use Rattle.sqlite.specs.declared.types.Value.TheVariants.{Null, Int, Text as Words}
use Rattle.sqlite.specs.Order.{Row}
use Rattle.sqlite.specs.Cast.{cast_row}
use Rattle.sqlite.specs.State.{State, ExecutesInside}
use Rattle.queue_types.specs.declared.job.Job.{Job}
use Rattle.queue_types.specs.declared.event.GrantRow.{GrantRow}
use Rattle.queue_types.specs.declared.event.KeptReport.{KeptReport}
use Rattle.queue_rows.specs.Codes.{phase_number, stopping_number, why_number, kind_number, flag_number, job_state_number}
use Rattle.queue_rows.specs.declared.rows.MetaRow.{MetaRow}
use Rattle.queue_rows.specs.declared.rows.PolicyRow.{PolicyRow}
use Rattle.queue_tables.specs.Plain.{table_of}
use Rattle.queue_tables.specs.Tables.{book_schema, meta, operators, policy, jobs, documents, pieces, accounts, grants, reports}
use Rattle.queue_tables.specs.Values.{number, moment, meta_values, meta_view, operator_values, operator_view, policy_values, policy_view, job_values, job_view, document_view, piece_values, piece_view, account_values, account_view, grant_values, grant_view, report_values, report_view}
use Rattle.queue_tables.specs.Content.{Content, Holds}
use Rattle.queue_tables.specs.Steps.{with_meta_row, with_operator_row, with_policy_row, with_job_row, with_document_row, with_piece_row, with_account_row, with_grant_row, with_report_row}
use Rattle.queue_tables.proofs.Casts.{cast_null, cast_int, cast_moment}
use Rattle.queue_tables.proofs.Changing.{Left, inserts_row}
use Rattle.queue_tables.proofs.Held.{holds_meta, holds_operators, holds_policy, holds_jobs, holds_documents, holds_pieces, holds_accounts, holds_grants, holds_reports, reordered, at_end}
use Rattle.queue_tables.proofs.Statements.{insert_meta_text, insert_meta_terms, insert_meta_is, meta_still, insert_policy_text, insert_policy_terms, insert_policy_is, policy_still, insert_operator_text, insert_operator_terms, insert_operator_is, operators_still, insert_job_text, insert_job_terms, insert_job_is, jobs_still, insert_document_text, insert_document_terms, insert_document_is, documents_still, insert_piece_text, insert_piece_terms, insert_piece_is, pieces_still, insert_account_text, insert_account_terms, insert_account_is, accounts_still, insert_grant_text, insert_grant_terms, insert_grant_is, grants_still, insert_report_text, insert_report_terms, insert_report_is, reports_still}

-- the new row stands last
last : {K : Type 0} {view : Row → Row} {tree : ℕ} (v : Row) (vs : List Row) (old new : State) → Left K book_schema view tree (v ∷ vs) old new → Left K book_schema view tree (vs ++ v ∷ []) old new
last v vs old new l = record { schema_is = l.schema_is; sound = l.sound; rows = reordered (at_end v vs) l.rows; others = l.others }

-- ---- tables whose key is the rowid

meta_stored : MetaRow → Row
meta_stored m = number m.one ∷ Null ∷ number m.schema ∷ Words m.uri ∷ Words m.name ∷ number m.estimate ∷ Int m.epoch ∷ number m.next_number ∷ []

cast_meta : (m : MetaRow) → cast_row (table_of meta) (meta_stored m) ≡ meta_stored m
unfolding meta_stored
cast_meta m = rw (cast_null, cast_int (pos m.one), cast_int (pos m.schema), cast_int (pos m.estimate), cast_int m.epoch, cast_int (pos m.next_number)) refl

pub adds_meta : (old new : State) (m : MetaRow) (count : ℕ) (c : Content) → Holds c old → ExecutesInside 0 insert_meta_text (meta_values m) old new (Ok count) → Holds (with_meta_row (meta_values m) c) new
unfolding meta_stored
adds_meta old new m count c has h =
    holds_meta c _ old new has (last (meta_values m) c.meta old new (inserts_row book_schema insert_meta_text 0 meta insert_meta_terms 8 insert_meta_is.command insert_meta_is.plain refl (meta_still []) meta_view c.meta
    old new (meta_values m) _ _ (meta_values m) count has.schema refl (cast_meta m) refl has.rows.meta h.0)) h.1.is_open

policy_stored : PolicyRow → Row
policy_stored p = number p.one ∷ Null ∷ number p.keep ∷ []

cast_policy : (p : PolicyRow) → cast_row (table_of policy) (policy_stored p) ≡ policy_stored p
unfolding policy_stored
cast_policy p = rw (cast_null, cast_int (pos p.one), cast_int (pos p.keep)) refl

pub adds_policy : (old new : State) (p : PolicyRow) (count : ℕ) (c : Content) → Holds c old → ExecutesInside 0 insert_policy_text (policy_values p) old new (Ok count) → Holds (with_policy_row (policy_values p) c) new
unfolding policy_stored
adds_policy old new p count c has h =
    holds_policy c _ old new has (last (policy_values p) c.policy old new (inserts_row book_schema insert_policy_text 7 policy insert_policy_terms 3 insert_policy_is.command insert_policy_is.plain refl (policy_still []) policy_view c.policy
    old new (policy_values p) _ _ (policy_values p) count has.schema refl (cast_policy p) refl has.rows.policy h.0)) h.1.is_open

-- a job's row as it is stored
abbrev pub job_stored : Job → Row
job_stored j =
    number j.number ∷ Null ∷ Words j.owner ∷ Words j.name ∷ number j.copies ∷ number j.impressions ∷ number (flag_number j.hold) ∷ number (flag_number j.incoming) ∷ number (phase_number j.phase) ∷ number (why_number j.phase j.stopping)
    ∷ number (stopping_number j.phase j.stopping) ∷ number j.count ∷ number j.created ∷ moment j.begun ∷ moment j.ended ∷ []

pub cast_job : (j : Job) → cast_row (table_of jobs) (job_stored j) ≡ job_stored j
cast_job j = rw (
  cast_null,
  cast_int (pos j.number),
  cast_int (pos j.copies),
  cast_int (pos j.impressions),
  cast_int (pos (flag_number j.hold)),
  cast_int (pos (flag_number j.incoming)),
  cast_int (pos (phase_number j.phase)),
  cast_int (pos (why_number j.phase j.stopping)),
  cast_int (pos (stopping_number j.phase j.stopping)),
  cast_int (pos j.count),
  cast_int (pos j.created),
  cast_moment j.begun,
  cast_moment j.ended,
) refl

pub adds_job : (old new : State) (j : Job) (count : ℕ) (c : Content) → Holds c old → ExecutesInside 0 insert_job_text (job_values j) old new (Ok count) → Holds (with_job_row (job_values j) c) new
adds_job old new j count c has h =
    holds_jobs c _ old new has (last (job_values j) c.jobs old new (inserts_row book_schema insert_job_text 1 jobs insert_job_terms 15 insert_job_is.command insert_job_is.plain refl (jobs_still []) job_view c.jobs
    old new (job_values j) _ _ (job_values j) count has.schema refl (cast_job j) refl has.rows.jobs h.0)) h.1.is_open

-- ---- tables whose rowid is hidden

abbrev pub document_row : ℕ → ℕ → List ℕ → ℕ → Row
document_row job doc format octets = number job ∷ number doc ∷ Words format ∷ number octets ∷ []

pub cast_document : (job doc : ℕ) (format : List ℕ) (octets : ℕ) → cast_row (table_of documents) (Null ∷ document_row job doc format octets) ≡ Null ∷ document_row job doc format octets
cast_document job doc format octets = rw (cast_null, cast_int (pos job), cast_int (pos doc), cast_int (pos octets)) refl

pub adds_document : (old new : State) (job doc : ℕ) (format : List ℕ) (octets count : ℕ) (c : Content) → Holds c old
    → ExecutesInside 0 insert_document_text (number job ∷ number doc ∷ Words format ∷ number octets ∷ []) old new (Ok count) → Holds (with_document_row (number job ∷ number doc ∷ Words format ∷ number octets ∷ []) c) new
adds_document old new job doc format octets count c has h =
    let v : Row = document_row job doc format octets in
    holds_documents c _ old new has (last v c.documents old new (inserts_row book_schema insert_document_text 2 documents insert_document_terms 5 insert_document_is.command insert_document_is.plain refl (documents_still []) document_view c.documents
    old new v Null v v count has.schema refl (cast_document job doc format octets) refl has.rows.documents h.0)) h.1.is_open

pub cast_piece : (job doc piece : ℕ) (bytes : List ℕ) → cast_row (table_of pieces) (Null ∷ piece_values job doc piece bytes) ≡ Null ∷ piece_values job doc piece bytes
cast_piece job doc piece bytes = rw (cast_null, cast_int (pos job), cast_int (pos doc), cast_int (pos piece)) refl

pub adds_piece : (old new : State) (job doc piece : ℕ) (bytes : List ℕ) (count : ℕ) (c : Content) → Holds c old → ExecutesInside 0 insert_piece_text (piece_values job doc piece bytes) old new (Ok count)
    → Holds (with_piece_row (piece_values job doc piece bytes) c) new
adds_piece old new job doc piece bytes count c has h =
    let v = piece_values job doc piece bytes in
    holds_pieces c _ old new has (last v c.pieces old new (inserts_row book_schema insert_piece_text 3 pieces insert_piece_terms 5 insert_piece_is.command insert_piece_is.plain refl (pieces_still []) piece_view c.pieces
    old new v Null v v count has.schema refl (cast_piece job doc piece bytes) refl has.rows.pieces h.0)) h.1.is_open

pub cast_new_account : (name : List ℕ) (free set_aside done : ℤ) → cast_row (table_of accounts) (Null ∷ account_values name free set_aside done) ≡ Null ∷ account_values name free set_aside done
cast_new_account name free set_aside done = rw (cast_null, cast_int free, cast_int set_aside, cast_int done) refl

pub adds_account : (old new : State) (name : List ℕ) (free set_aside done : ℤ) (count : ℕ) (c : Content) → Holds c old → ExecutesInside 0 insert_account_text (account_values name free set_aside done) old new (Ok count)
    → Holds (with_account_row (account_values name free set_aside done) c) new
adds_account old new name free set_aside done count c has h =
    let v = account_values name free set_aside done in
    holds_accounts c _ old new has (last v c.accounts old new (inserts_row book_schema insert_account_text 4 accounts insert_account_terms 5 insert_account_is.command insert_account_is.plain refl (accounts_still []) account_view c.accounts
    old new v Null v v count has.schema refl (cast_new_account name free set_aside done) refl has.rows.accounts h.0)) h.1.is_open

pub cast_grant : (g : GrantRow) → cast_row (table_of grants) (Null ∷ grant_values g) ≡ Null ∷ grant_values g
cast_grant g = rw (cast_null, cast_int (pos g.pages)) refl

pub adds_grant : (old new : State) (g : GrantRow) (count : ℕ) (c : Content) → Holds c old → ExecutesInside 0 insert_grant_text (grant_values g) old new (Ok count) → Holds (with_grant_row (grant_values g) c) new
adds_grant old new g count c has h =
    let v = grant_values g in
    holds_grants c _ old new has (last v c.grants old new (inserts_row book_schema insert_grant_text 5 grants insert_grant_terms 4 insert_grant_is.command insert_grant_is.plain refl (grants_still []) grant_view c.grants
    old new v Null v v count has.schema refl (cast_grant g) refl has.rows.grants h.0)) h.1.is_open

pub cast_report : (k : KeptReport) → cast_row (table_of reports) (Null ∷ report_values k) ≡ Null ∷ report_values k
cast_report k = rw (cast_null, cast_int (pos k.report.job), cast_int (pos k.report.seq), cast_int (pos (kind_number k.report.kind)), cast_int (pos k.report.count), cast_int (pos (job_state_number k.state)), cast_int (pos k.total)) refl

pub adds_report : (old new : State) (k : KeptReport) (count : ℕ) (c : Content) → Holds c old → ExecutesInside 0 insert_report_text (report_values k) old new (Ok count) → Holds (with_report_row (report_values k) c) new
adds_report old new k count c has h =
    let v = report_values k in
    holds_reports c _ old new has (last v c.reports old new (inserts_row book_schema insert_report_text 6 reports insert_report_terms 7 insert_report_is.command insert_report_is.plain refl (reports_still []) report_view c.reports
    old new v Null v v count has.schema refl (cast_report k) refl has.rows.reports h.0)) h.1.is_open

pub cast_operator : (name : List ℕ) → cast_row (table_of operators) (Null ∷ operator_values name) ≡ Null ∷ operator_values name
cast_operator name = rw cast_null refl

pub adds_operator : (old new : State) (name : List ℕ) (count : ℕ) (c : Content) → Holds c old → ExecutesInside 0 insert_operator_text (operator_values name) old new (Ok count) → Holds (with_operator_row (operator_values name) c) new
adds_operator old new name count c has h =
    let v = operator_values name in
    holds_operators c _ old new has (last v c.operators old new (inserts_row book_schema insert_operator_text 8 operators insert_operator_terms 2 insert_operator_is.command insert_operator_is.plain refl (operators_still []) operator_view c.operators
    old new v Null v v count has.schema refl (cast_operator name) refl has.rows.operators h.0)) h.1.is_open
