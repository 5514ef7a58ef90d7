-- A new row of a table of the book is refused only where a row is like it, or its parent is missing.
use Rattle.std.proofs.Common.{◌≡◌, ℕ, ℤ, List, [], ◌∷◌, filter, true, false, Option, None, Some, inl, inr, refl, sym, subst, is_eq}
use Rattle.std.specs.Prelude.{⊤}
use Rattle.std.proofs.lemmas.Bool.{false_from_ne_true, both_ways, and_from}
use Rattle.sqlite.specs.declared.types.Value.{Value}
use Rattle.sqlite.specs.declared.types.Value.TheVariants.{Null, Int}
use Rattle.sqlite.specs.Order.{Row, value_cmp}
use Rattle.sqlite.specs.Ops.{binary}
use Rattle.sqlite.specs.Collation.TheVariants.{Binary}
use Rattle.sqlite.specs.Edit.{with_rowid}
use Rattle.sqlite.specs.Rowids.TheVariants.{Chosen}
use Rattle.sqlite.specs.Tree.{Trees, rowid}
use Rattle.sqlite.specs.State.{State}
use Rattle.sqlite_tied.specs.Compute.{everything}
use Rattle.sqlite_trees.specs.View.{is_int}
use Rattle.sqlite_value.specs.Keys.{plain}
use Rattle.sqlite_sql.specs.Ops.{is_true}
use Rattle.sqlite_sql.specs.declared.ops.BinaryOp.TheVariants.{Compare}
use Rattle.sqlite_sql.specs.declared.ops.CompareOp.TheVariants.{Eq}
use Rattle.sqlite_schema.specs.declared.schema.Kind.TheVariants.{Integer}
use Rattle.sqlite_schema.specs.Rules.{agree, is_of}
use Rattle.sqlite_rules.specs.Edit.{is_taken, id_in}
use Rattle.sqlite_rules.proofs.ListLemmas.{some_has, some_from}
use Rattle.sqlite_rules.proofs.TableLemmas.{int_is}
use Rattle.queue_types.specs.declared.job.Job.{Job}
use Rattle.queue_types.specs.declared.event.GrantRow.{GrantRow}
use Rattle.queue_types.specs.declared.event.KeptReport.{KeptReport}
use Rattle.queue_tables.specs.Plain.{table_of}
use Rattle.queue_tables.specs.Tables.{book_schema, jobs, documents, pieces, accounts, grants, operators, reports}
use Rattle.queue_tables.specs.Kept.{HasRows, HasOne}
use Rattle.queue_tables.specs.Values.{number, moment, job_values, job_view, document_view, piece_values, piece_view, account_values, account_view, grant_values, grant_view, operator_values, operator_view, report_values, report_view}
use Rattle.queue_tables.specs.Content.{Content, HoldsWhileOpen}
use Rattle.queue_tables.specs.Refusing.{IsRefused, IsRefusedByKey}
use Rattle.queue_tables.specs.Steps.{is_numbered, are_numbered, is_piece, is_named, is_granted}
use Rattle.queue_tables.proofs.Permuting.{has_at}
use Rattle.queue_tables.proofs.Refused.{refused_open}
use Rattle.queue_tables.proofs.Allowed.{CanEnter}
use Rattle.queue_tables.proofs.Entering.{enters, none_like, one_like}
use Rattle.queue_tables.proofs.Rows.{job_stored, cast_job, document_row, cast_document, cast_piece, cast_new_account, cast_grant, cast_operator, cast_report}
use Rattle.queue_tables.proofs.Statements.{insert_job_text, insert_job_terms, insert_job_is, jobs_still, insert_document_text, insert_document_terms, insert_document_is, documents_still, insert_piece_text, insert_piece_terms, insert_piece_is, pieces_still, insert_account_text, insert_account_terms, insert_account_is, accounts_still, insert_grant_text, insert_grant_terms, insert_grant_is, grants_still, insert_report_text, insert_report_terms, insert_report_is, reports_still, insert_operator_text, insert_operator_terms, insert_operator_is, operators_still}

-- ---- jobs, whose number is the rowid

pub moment_is : (o : Option ℕ) → is_of Integer (moment o) ≡ true
moment_is None = refl
moment_is (Some n) = refl

job_can : (db : Trees) (j : Job) → CanEnter book_schema db (table_of jobs) (job_stored j)
job_can db j = record { typed = rw (moment_is j.begun, moment_is j.ended) refl; present = refl; checked = refl; alone = refl; has_parents = refl }

-- a rowid that is the same is equal
same_number : (id : ℤ) (n : ℕ) → is_eq (value_cmp (Int id) (number n)) ≡ true → is_true (binary (Compare Eq Binary) (Int id) (number n)) ≡ true
unfolding binary
same_number id n e = rw e refl

job_free : (rows : List Row) (j : Job) (values : List Row) → HasRows ⊤ job_view values rows → filter (is_numbered j.number) values ≡ [] → is_taken rows (job_stored j) ≡ false
job_free rows j values has none = false_from_ne_true _ (λ taken.
    let it = some_has (λ (r : Row). is_eq (value_cmp (rowid r) (number j.number))) rows taken in
    let int = int_is (rowid it.0) (has_at (λ (r : Row). is_int (rowid r) ≡ true) rows it.0 (has.keyed tt).ints it.1) in
    let equal = same_number (id_in (rowid it.0)) j.number (subst (λ (v : Value). is_eq (value_cmp v (number j.number)) ≡ true) int it.2) in
    let found = subst (λ (v : Value). is_true (binary (Compare Eq Binary) v (number j.number)) ≡ true) (sym int) equal in
    both_ways _ (none_like job_view values rows has (is_numbered j.number) (λ (r : Row). is_numbered j.number (job_view r)) (λ r. refl) none)
    (some_from (λ (r : Row). is_numbered j.number (job_view r)) rows it.0 it.1 (and_from _ true found refl)))

pub job_enters : (old new : State) (j : Job) (c : Content) → HoldsWhileOpen c old → filter (is_numbered j.number) c.jobs ≡ [] → IsRefused insert_job_text (job_values j) old new → ⊥
job_enters old new j c holds none h =
    let has = holds (refused_open insert_job_text (job_values j) old new h.rule h.refused) in
    enters insert_job_text 1 jobs insert_job_terms 15 insert_job_is.command insert_job_is.plain refl (jobs_still []) (inr (inl refl)) old new (job_values j) _ _ h.rule c has refl
    (cast_job j) (job_can old.now.trees j) (λ _. job_free (old.now.trees 1) j c.jobs has.rows.jobs none) h.refused

-- ---- documents

module _ (db : Trees) (c : Content) (job doc : ℕ) (format : List ℕ) (octets : ℕ) where
  abbrev new_document : Row
  new_document = with_rowid Chosen (db 2) (Null ∷ document_row job doc format octets)

  document_can : HasRows ⊤ job_view c.jobs (db 1) → HasRows ⊥ document_view c.documents (db 2) → HasOne (is_numbered job) c.jobs → filter (are_numbered job doc) c.documents ≡ []
      → CanEnter book_schema db (table_of documents) new_document
  unfolding everything
  document_can above has one none =
      let unlike = none_like document_view c.documents (db 2) has (are_numbered job doc) (λ (r : Row). agree plain (1 ∷ 2 ∷ []) r (1 ∷ 2 ∷ []) new_document) (λ r. refl) none in
      let parent = one_like job_view c.jobs (db 1) above (is_numbered job) (λ (r : Row). agree plain (0 ∷ []) r (1 ∷ []) new_document) (λ r. refl) one in
      record { typed = refl; present = refl; checked = refl; alone = rw unlike refl; has_parents = rw parent refl }

pub document_enters : (old new : State) (job doc : ℕ) (format : List ℕ) (octets : ℕ) (c : Content) → HoldsWhileOpen c old → HasOne (is_numbered job) c.jobs → filter (are_numbered job doc) c.documents ≡ []
    → IsRefusedByKey insert_document_text (document_row job doc format octets) old new → ⊥
document_enters old new job doc format octets c holds one none h =
    let row = document_row job doc format octets in
    let has = holds (refused_open insert_document_text row old new h.rule h.refused) in
    enters insert_document_text 2 documents insert_document_terms 5 insert_document_is.command insert_document_is.plain refl (documents_still []) (inr (inr (inl refl))) old new row Null row h.rule c has refl
    (cast_document job doc format octets) (document_can old.now.trees c job doc format octets has.rows.jobs has.rows.documents one none) (λ e. absurd (h.not_rowid e)) h.refused

-- ---- pieces

module _ (db : Trees) (c : Content) (job doc piece : ℕ) (bytes : List ℕ) where
  abbrev new_piece : Row
  new_piece = with_rowid Chosen (db 4) (Null ∷ piece_values job doc piece bytes)

  piece_can : HasRows ⊥ document_view c.documents (db 2) → HasRows ⊥ piece_view c.pieces (db 4) → HasOne (are_numbered job doc) c.documents → filter (is_piece job doc piece) c.pieces ≡ []
      → CanEnter book_schema db (table_of pieces) new_piece
  unfolding everything
  piece_can above has one none =
      let unlike = none_like piece_view c.pieces (db 4) has (is_piece job doc piece) (λ (r : Row). agree plain (1 ∷ 2 ∷ 3 ∷ []) r (1 ∷ 2 ∷ 3 ∷ []) new_piece) (λ r. refl) none in
      let parent = one_like document_view c.documents (db 2) above (are_numbered job doc) (λ (r : Row). agree plain (1 ∷ 2 ∷ []) r (1 ∷ 2 ∷ []) new_piece) (λ r. refl) one in
      record { typed = refl; present = refl; checked = refl; alone = rw unlike refl; has_parents = rw parent refl }

pub piece_enters : (old new : State) (job doc piece : ℕ) (bytes : List ℕ) (c : Content) → HoldsWhileOpen c old → HasOne (are_numbered job doc) c.documents → filter (is_piece job doc piece) c.pieces ≡ []
    → IsRefusedByKey insert_piece_text (piece_values job doc piece bytes) old new → ⊥
piece_enters old new job doc piece bytes c holds one none h =
    let row = piece_values job doc piece bytes in
    let has = holds (refused_open insert_piece_text row old new h.rule h.refused) in
    enters insert_piece_text 3 pieces insert_piece_terms 5 insert_piece_is.command insert_piece_is.plain refl (pieces_still []) (inr (inr (inr (inl refl)))) old new row Null row h.rule c has refl
    (cast_piece job doc piece bytes) (piece_can old.now.trees c job doc piece bytes has.rows.documents has.rows.pieces one none) (λ e. absurd (h.not_rowid e)) h.refused

-- ---- accounts

module _ (db : Trees) (c : Content) (name : List ℕ) (free set_aside done : ℤ) where
  abbrev new_account : Row
  new_account = with_rowid Chosen (db 6) (Null ∷ account_values name free set_aside done)

  account_can : HasRows ⊤ account_view c.accounts (db 6) → filter (is_named name) c.accounts ≡ [] → CanEnter book_schema db (table_of accounts) new_account
  unfolding everything
  account_can has none =
      let unlike = none_like account_view c.accounts (db 6) has (is_named name) (λ (r : Row). agree plain (1 ∷ []) r (1 ∷ []) new_account) (λ r. refl) none in
      record { typed = refl; present = refl; checked = refl; alone = rw unlike refl; has_parents = refl }

pub account_enters : (old new : State) (name : List ℕ) (free set_aside done : ℤ) (c : Content) → HoldsWhileOpen c old → filter (is_named name) c.accounts ≡ []
    → IsRefusedByKey insert_account_text (account_values name free set_aside done) old new → ⊥
account_enters old new name free set_aside done c holds none h =
    let row = account_values name free set_aside done in
    let has = holds (refused_open insert_account_text row old new h.rule h.refused) in
    enters insert_account_text 4 accounts insert_account_terms 5 insert_account_is.command insert_account_is.plain refl (accounts_still []) (inr (inr (inr (inr (inl refl))))) old new row Null row h.rule c has refl
    (cast_new_account name free set_aside done) (account_can old.now.trees c name free set_aside done has.rows.accounts none) (λ e. absurd (h.not_rowid e)) h.refused

-- ---- grants

module _ (db : Trees) (c : Content) (g : GrantRow) where
  abbrev new_grant : Row
  new_grant = with_rowid Chosen (db 8) (Null ∷ grant_values g)

  grant_can : HasRows ⊤ account_view c.accounts (db 6) → HasRows ⊥ grant_view c.grants (db 8) → HasOne (is_named g.account) c.accounts → filter (is_granted g.batch g.account) c.grants ≡ []
      → CanEnter book_schema db (table_of grants) new_grant
  unfolding everything
  grant_can above has one none =
      let unlike = none_like grant_view c.grants (db 8) has (is_granted g.batch g.account) (λ (r : Row). agree plain (1 ∷ 2 ∷ []) r (1 ∷ 2 ∷ []) new_grant) (λ r. refl) none in
      let parent = one_like account_view c.accounts (db 6) above (is_named g.account) (λ (r : Row). agree plain (1 ∷ []) r (2 ∷ []) new_grant) (λ r. refl) one in
      record { typed = refl; present = refl; checked = refl; alone = rw unlike refl; has_parents = rw parent refl }

pub grant_enters : (old new : State) (g : GrantRow) (c : Content) → HoldsWhileOpen c old → HasOne (is_named g.account) c.accounts → filter (is_granted g.batch g.account) c.grants ≡ []
    → IsRefusedByKey insert_grant_text (grant_values g) old new → ⊥
grant_enters old new g c holds one none h =
    let row = grant_values g in
    let has = holds (refused_open insert_grant_text row old new h.rule h.refused) in
    enters insert_grant_text 5 grants insert_grant_terms 4 insert_grant_is.command insert_grant_is.plain refl (grants_still []) (inr (inr (inr (inr (inr (inl refl)))))) old new row Null row h.rule c has refl
    (cast_grant g) (grant_can old.now.trees c g has.rows.accounts has.rows.grants one none) (λ e. absurd (h.not_rowid e)) h.refused

-- ---- reports

module _ (db : Trees) (c : Content) (k : KeptReport) where
  abbrev new_report : Row
  new_report = with_rowid Chosen (db 10) (Null ∷ report_values k)

  report_can : HasRows ⊤ job_view c.jobs (db 1) → HasRows ⊥ report_view c.reports (db 10) → HasOne (is_numbered k.report.job) c.jobs → filter (are_numbered k.report.job k.report.seq) c.reports ≡ []
      → CanEnter book_schema db (table_of reports) new_report
  unfolding everything
  report_can above has one none =
      let unlike = none_like report_view c.reports (db 10) has (are_numbered k.report.job k.report.seq) (λ (r : Row). agree plain (1 ∷ 2 ∷ []) r (1 ∷ 2 ∷ []) new_report) (λ r. refl) none in
      let parent = one_like job_view c.jobs (db 1) above (is_numbered k.report.job) (λ (r : Row). agree plain (0 ∷ []) r (1 ∷ []) new_report) (λ r. refl) one in
      record { typed = refl; present = refl; checked = refl; alone = rw unlike refl; has_parents = rw parent refl }

pub report_enters : (old new : State) (k : KeptReport) (c : Content) → HoldsWhileOpen c old → HasOne (is_numbered k.report.job) c.jobs → filter (are_numbered k.report.job k.report.seq) c.reports ≡ []
    → IsRefusedByKey insert_report_text (report_values k) old new → ⊥
report_enters old new k c holds one none h =
    let row = report_values k in
    let has = holds (refused_open insert_report_text row old new h.rule h.refused) in
    enters insert_report_text 6 reports insert_report_terms 7 insert_report_is.command insert_report_is.plain refl (reports_still []) (inr (inr (inr (inr (inr (inr (inl refl))))))) old new row Null row h.rule c has refl
    (cast_report k) (report_can old.now.trees c k has.rows.jobs has.rows.reports one none) (λ e. absurd (h.not_rowid e)) h.refused

-- ---- operators

module _ (db : Trees) (c : Content) (name : List ℕ) where
  abbrev new_operator : Row
  new_operator = with_rowid Chosen (db 17) (Null ∷ operator_values name)

  operator_can : HasRows ⊤ operator_view c.operators (db 17) → filter (is_named name) c.operators ≡ [] → CanEnter book_schema db (table_of operators) new_operator
  unfolding everything
  operator_can has none =
      let unlike = none_like operator_view c.operators (db 17) has (is_named name) (λ (r : Row). agree plain (1 ∷ []) r (1 ∷ []) new_operator) (λ r. refl) none in
      record { typed = refl; present = refl; checked = refl; alone = rw unlike refl; has_parents = refl }

pub operator_enters : (old new : State) (name : List ℕ) (c : Content) → HoldsWhileOpen c old → filter (is_named name) c.operators ≡ [] → IsRefusedByKey insert_operator_text (operator_values name) old new → ⊥
operator_enters old new name c holds none h =
    let row = operator_values name in
    let has = holds (refused_open insert_operator_text row old new h.rule h.refused) in
    enters insert_operator_text 8 operators insert_operator_terms 2 insert_operator_is.command insert_operator_is.plain refl (operators_still []) (inr (inr (inr (inr (inr (inr (inr (inr (inl refl)))))))))
    old new row Null row h.rule c has refl
    (cast_operator name) (operator_can old.now.trees c name has.rows.operators none) (λ e. absurd (h.not_rowid e)) h.refused
