-- Tables that hold a sound queue have its rows as typed rows, and are read as them.
use Rattle.std.proofs.Common.{◌≡◌, inl, inr, ℕ, List, [], ◌∷◌, Option, None, Some, Bool, map, length, All, IsTrue, get_or, refl, sym, ap, subst, ◌∙◌}
use Rattle.std.specs.List.{AllByRecursion as Each}
use Rattle.std.specs.List.Sorted.{IsPermutation}
use Rattle.std.proofs.lemmas.List.Elements.{All-from_recursion, All-map}
use Rattle.sqlite.specs.Effect.{Database}
use Rattle.sqlite.specs.Order.{Row}
use Rattle.sqlite.specs.Schema.{Schema}
use Rattle.sqlite.specs.Tree.{Trees}
use Rattle.sqlite_schema.specs.Names.{same_name}
use Rattle.sqlite_keyed.proofs.ListLemmas.{ascending_from_map, ascending_weaker}
use Rattle.sqlite_trees.specs.Tree.{IsAscending}
use Rattle.queue_core.specs.Sound.{IsSound}
use Rattle.queue_core.specs.World.{World}
use Rattle.queue_types.specs.declared.event.Kind.{Kind}
use Rattle.queue_types.specs.declared.states.JobState.{JobState}
use Rattle.queue_rows.specs.Codes.{flag_number, job_state_number, kind_number}
use Rattle.queue_rows.specs.Pieces.{length_in}
use Rattle.queue_rows.specs.Rows.{Tables, bytes_of, job_row, meta_row, rows_of}
use Rattle.queue_rows.specs.Sound.{AreSoundRows}
use Rattle.queue_rows.specs.declared.rows.PieceRow.{PieceRow}
use Rattle.queue_rows.specs.Versions.{Version, operator_rows, policy_row, policy_rows, first_version, second_version, third_version}
use Rattle.queue_rows.specs.declared.rows.PolicyRow.{PolicyRow}
use Rattle.queue_tables.specs.Content.{Content, HasFirst, HasQueueOf, numbered_content}
use Rattle.queue_tables.specs.Kept.{AreKeyed}
use Rattle.queue_tables.specs.Tables.{schema_of}
use Rattle.queue_tables.specs.Values.{account_view, document_values, document_view, grant_values, grant_view, job_values, kept_job_view, meta_values, meta_view, operator_values, operator_view, policy_values, policy_view, piece_view, report_values, report_view}
use Rattle.queue_load.specs.Content.{content_in, piece_rows_in}
use Rattle.queue_load.specs.Keyed.{HasKeyedOperators, HasKeyedTables}
use Rattle.queue_load.specs.Loaded.{AreFormedRows, IsBare, IsFormedWhole, IsLong, IsTable, Piece, row_of, whole_piece}
use Rattle.queue_load.specs.Queues.{IsQueueIn}
use Rattle.queue_load.specs.Store.{AreAccountTables, AreJobTables, AreOperatorRows, ArePolicyRows, AreTables, HasAccountTables, HasJobTables, HasOperatorForm, HasPolicyForm, IsLoadable, has_all}
use Rattle.queue_load.specs.Tells.{IsFormedDocument, IsFormedMeta, IsFormedPiece, IsFormedPolicy, account_row_values}
use Rattle.queue_tables.proofs.Formed.{formed_job}
use Rattle.queue_tables.proofs.JobPut.{TellCourses}
use Rattle.queue_load.proofs.Contents.{content_is, shown_content}
use Rattle.queue_load.proofs.Formed.{formed_account, formed_documents, formed_grant, formed_meta, formed_operators, formed_pieces, formed_policy, formed_report}
use Rattle.queue_load.proofs.Injects.{same_account, same_bare, same_document, same_grant, same_meta, same_operator, same_piece, same_policy, same_report}
use Rattle.queue_load.proofs.Rising.{EntryBefore, PieceBefore, accounts_rise, documents_rise, entries_rise, grants_rise, jobs_rise, operators_rise, piece_less, pieces_rise, reports_rise}
use Rattle.queue_load.proofs.Unique.{Before, injected, one_order, table_up}
use Rattle.queue_load.proofs.Versions.{apart}

-- ---- pieces with their bytes

-- each row with the bytes at its place
with_bytes : List PieceRow → List (List ℕ) → List Piece
with_bytes [] bs = []
with_bytes (p ∷ ps) [] = []
with_bytes (p ∷ ps) (b ∷ bs) = record { row = p; bytes = b } ∷ with_bytes ps bs

whole_rows : (ps : List PieceRow) (bs : List (List ℕ)) → map whole_piece (with_bytes ps bs) ≡ piece_rows_in ps bs
unfolding with_bytes
whole_rows [] bs = refl
whole_rows (p ∷ ps) [] = refl
whole_rows (p ∷ ps) (b ∷ bs) = ap (λ (rs : List Row). whole_piece (record { row = p; bytes = b }) ∷ rs) (whole_rows ps bs)

their_rows : (ps : List PieceRow) (bs : List (List ℕ)) → map length bs ≡ map length_in ps → map row_of (with_bytes ps bs) ≡ ps
unfolding with_bytes
their_rows [] bs long = refl
their_rows (p ∷ ps) [] long = absurd cc
their_rows (p ∷ ps) (b ∷ bs) long =
    let more : map length bs ≡ map length_in ps = cc in
    ap (λ (qs : List PieceRow). p ∷ qs) (their_rows ps bs more)

each_long : (ps : List PieceRow) (bs : List (List ℕ)) → map length bs ≡ map length_in ps → Each IsLong (with_bytes ps bs)
unfolding with_bytes
each_long [] bs long = tt
each_long (p ∷ ps) [] long = tt
each_long (p ∷ ps) (b ∷ bs) long =
    let here : length b ≡ p.length = cc in
    let more : map length bs ≡ map length_in ps = cc in
    (here, each_long ps bs more)

each_formed : (ps : List PieceRow) (bs : List (List ℕ)) → map length bs ≡ map length_in ps → Each IsFormedPiece ps → Each IsFormedWhole (with_bytes ps bs)
unfolding with_bytes
each_formed [] bs long h = tt
each_formed (p ∷ ps) [] long h = tt
each_formed (p ∷ ps) (b ∷ bs) long h =
    let here : length b ≡ p.length = cc in
    let more : map length bs ≡ map length_in ps = cc in
    ((h.0, here), each_formed ps bs more h.1)

abbrev pub bytes_in : Piece → List ℕ
bytes_in p = p.bytes

their_bytes : (ps : List PieceRow) (bs : List (List ℕ)) → map length bs ≡ map length_in ps → map bytes_in (with_bytes ps bs) ≡ bs
unfolding with_bytes
their_bytes [] [] long = refl
their_bytes [] (b ∷ bs) long = absurd cc
their_bytes (p ∷ ps) [] long = refl
their_bytes (p ∷ ps) (b ∷ bs) long =
    let more : map length bs ≡ map length_in ps = cc in
    ap (λ (cs : List (List ℕ)). b ∷ cs) (their_bytes ps bs more)

any_row : {T : Type 0} → T → Type 0
any_row t = Unit {0}

-- ---- the tables of a queue

-- the tables that each version has
as_shown : (n : Version) (w : World) (db : Trees) → HasFirst (numbered_content n w) db → HasFirst (shown_content n w) db
as_shown n w db has = record { meta = has.meta; jobs = has.jobs; documents = has.documents; pieces = has.pieces; accounts = has.accounts; grants = has.grants; reports = has.reports }

first_of : (n : Version) (w : World) (db : Trees) → HasQueueOf n w db → HasFirst (shown_content n w) db
first_of first_version w db has = as_shown first_version w db has
first_of second_version w db has = as_shown second_version w db has.first
first_of third_version w db has = as_shown third_version w db has.second.first

-- the rows of policy have their form, are in the order of their key, and are read as they are
module _ (w : World) (d : Database) (same : IsPermutation (policy_values (policy_row w.settings.keep) ∷ []) (map policy_view (d.trees 15))) where
  one_formed : IsSound w → AreFormedRows IsFormedPolicy policy_values policy_view (d.trees 15)
  one_formed sound = record { items = policy_row w.settings.keep ∷ []; formed = All-from_recursion IsFormedPolicy (policy_row w.settings.keep ∷ []) (formed_policy w sound, tt); are = same }

  one_up : IsTable policy_values policy_view 1 (policy_row w.settings.keep ∷ []) (d.trees 15)
  one_up = table_up policy_values 1 policy_view (policy_row w.settings.keep ∷ []) (d.trees 15) (tt, tt) same

  one_read : (ps : List PolicyRow) → IsTable policy_values policy_view 1 ps (d.trees 15) → ps ≡ policy_row w.settings.keep ∷ []
  unfolding any_row
  one_read ps are =
      injected policy_values any_row (λ a b p q. same_policy a b) ps (policy_row w.settings.keep ∷ []) (λ k d low. tt) (λ k d low. tt)
      (one_order policy_values 1 policy_view (d.trees 15) (policy_row w.settings.keep ∷ []) ps (tt, tt) same are)

policy_formed : (n : Version) (w : World) (d : Database) → IsSound w → d.schema ≡ schema_of n → HasQueueOf n w d.trees → HasPolicyForm d
policy_formed first_version w d sound schema has = λ with. elim with [
  | inl second ↦ apart d.schema first_version second_version (λ e. cc) schema second
  | inr third ↦ apart d.schema first_version third_version (λ e. cc) schema third
]
policy_formed second_version w d sound schema has = λ with. one_formed w d has.policy.same sound
policy_formed third_version w d sound schema has = λ with. one_formed w d has.second.policy.same sound

policy_up : (n : Version) (w : World) (d : Database) → d.schema ≡ schema_of n → HasQueueOf n w d.trees → ArePolicyRows (policy_rows n w.settings.keep) d
policy_up first_version w d schema has = schema
policy_up second_version w d schema has = (inl schema, one_up w d has.policy.same)
policy_up third_version w d schema has = (inr schema, one_up w d has.second.policy.same)

policy_read : (n : Version) (w : World) (d : Database) (o : Option (List PolicyRow)) → d.schema ≡ schema_of n → HasQueueOf n w d.trees → ArePolicyRows o d → o ≡ policy_rows n w.settings.keep
policy_read first_version w d None schema has are = refl
policy_read first_version w d (Some ps) schema has are = elim are.0 [
  | inl second ↦ apart d.schema first_version second_version (λ e. cc) schema second
  | inr third ↦ apart d.schema first_version third_version (λ e. cc) schema third
]
policy_read second_version w d None schema has are = apart d.schema first_version second_version (λ e. cc) are schema
policy_read second_version w d (Some ps) schema has are = ap Some (one_read w d has.policy.same ps are.1)
policy_read third_version w d None schema has are = apart d.schema first_version third_version (λ e. cc) are schema
policy_read third_version w d (Some ps) schema has are = ap Some (one_read w d has.second.policy.same ps are.1)

-- so are those of operators
operators_formed : (n : Version) (w : World) (d : Database) → IsSound w → d.schema ≡ schema_of n → HasQueueOf n w d.trees → HasOperatorForm d
operators_formed first_version w d sound schema has = λ third. apart d.schema first_version third_version (λ e. cc) schema third
operators_formed second_version w d sound schema has = λ third. apart d.schema second_version third_version (λ e. cc) schema third
operators_formed third_version w d sound schema has = λ third. record { items = w.settings.operators; formed = formed_operators w sound; are = has.operators.same }

operators_up : (n : Version) (w : World) (d : Database) → IsSound w → d.schema ≡ schema_of n → HasQueueOf n w d.trees → AreOperatorRows (operator_rows n w.settings.operators) d
operators_up first_version w d sound schema has = inl schema
operators_up second_version w d sound schema has = inr schema
operators_up third_version w d sound schema has =
    (schema, table_up operator_values 1 operator_view w.settings.operators (d.trees 17) (operators_rise w.settings.operators sound.settings.operators_fit.rising) has.operators.same)

operators_read : (n : Version) (w : World) (d : Database) (o : Option (List (List ℕ))) → IsSound w → d.schema ≡ schema_of n → HasQueueOf n w d.trees → AreOperatorRows o d → o ≡ operator_rows n w.settings.operators
unfolding any_row
operators_read first_version w d None sound schema has are = refl
operators_read first_version w d (Some names) sound schema has are = apart d.schema first_version third_version (λ e. cc) schema are.0
operators_read second_version w d None sound schema has are = refl
operators_read second_version w d (Some names) sound schema has are = apart d.schema second_version third_version (λ e. cc) schema are.0
operators_read third_version w d None sound schema has are = elim are [
  | inl first ↦ apart d.schema first_version third_version (λ e. cc) first schema
  | inr second ↦ apart d.schema second_version third_version (λ e. cc) second schema
]
operators_read third_version w d (Some names) sound schema has are =
    ap Some (injected operator_values any_row (λ a b p q. same_operator a b) names w.settings.operators (λ k d low. tt) (λ k d low. tt)
    (one_order operator_values 1 operator_view (d.trees 17) w.settings.operators names (operators_rise w.settings.operators sound.settings.operators_fit.rising) has.operators.same are.1))

module _ (n : Version) (w : World) (d : Database) (sound : IsSound w) (are : AreSoundRows (rows_of n w)) (lengths : map length (bytes_of w) ≡ map length_in (rows_of n w).pieces) (schema : d.schema ≡ schema_of n) (has : HasQueueOf n w d.trees) where
  abbrev db : Trees
  db = d.trees

  held : HasFirst (content_in (rows_of n w) (bytes_of w)) db
  held = subst (λ (c : Content). HasFirst c db) (content_is n w) (first_of n w db has)

  wholes : List Piece
  wholes = with_bytes (rows_of n w).pieces (bytes_of w)

  wholes_held : IsPermutation (map whole_piece wholes) (map piece_view (db 4))
  unfolding wholes
  wholes_held = subst (λ (rs : List Row). IsPermutation rs (map piece_view (db 4))) (sym (whole_rows (rows_of n w).pieces (bytes_of w))) held.pieces.same

  wholes_long : All IsLong wholes
  unfolding wholes
  wholes_long = All-from_recursion IsLong wholes (each_long (rows_of n w).pieces (bytes_of w) lengths)

  wholes_rows : map row_of wholes ≡ (rows_of n w).pieces
  unfolding wholes
  wholes_rows = their_rows (rows_of n w).pieces (bytes_of w) lengths

  -- ---- which have their forms

  first_formed : HasJobTables db
  unfolding wholes
  first_formed =
      let documents = formed_documents w.jobs sound.entries in
      record {
        meta = record { items = meta_row n w ∷ []; formed = All-from_recursion IsFormedMeta (meta_row n w ∷ []) (formed_meta n w sound, tt); are = held.meta.same };
        jobs = record { items = (rows_of n w).jobs; formed = λ k d low. formed_job _ (are.tables.jobs.jobs k d low).sound; are = held.jobs.same };
        documents = record { items = (rows_of n w).documents; formed = All-from_recursion IsFormedDocument (rows_of n w).documents documents; are = held.documents.same };
        pieces = record {
          items = wholes;
          formed = All-from_recursion IsFormedWhole wholes (each_formed (rows_of n w).pieces (bytes_of w) lengths (formed_pieces (rows_of n w).documents documents));
          are = wholes_held;
        };
      }

  second_formed : HasAccountTables d
  second_formed = record {
    accounts = record {
      items = (rows_of n w).accounts;
      formed = λ k d low. formed_account (rows_of n w).grants are.tables.grants.grants (get_or (rows_of n w).accounts k d) (are.tables.grants.granted k d low);
      are = held.accounts.same;
    };
    grants = record { items = (rows_of n w).grants; formed = λ k d low. formed_grant _ (are.tables.grants.grants k d low); are = held.grants.same };
    reports = record {
      items = (rows_of n w).reports;
      formed = λ k d low. formed_report (rows_of n w).jobs are.tables.jobs.jobs _ (are.tables.reports.reports k d low) (are.tables.reports.there k d low);
      are = held.reports.same;
    };
    policy = policy_formed n w d sound schema has;
    operators = operators_formed n w d sound schema has;
  }

  -- ---- and are its rows in the order of their keys

  up : IsAscending EntryBefore w.jobs
  up = (entries_rise 1 w.jobs w.next sound.numbers).1

  wholes_up : IsAscending (Before whole_piece 3) wholes
  wholes_up =
      let rows : IsAscending PieceBefore (map row_of wholes) = subst (IsAscending PieceBefore) (sym wholes_rows) (pieces_rise w.jobs up) in
      ascending_weaker (λ a b. PieceBefore a.row b.row) (Before whole_piece 3) piece_less wholes (ascending_from_map PieceBefore row_of wholes rows)

  job_tables : AreJobTables (rows_of n w) db
  job_tables = record {
    meta = table_up meta_values 1 meta_view (rows_of n w).meta (db 0) (tt, tt) held.meta.same;
    jobs = table_up job_values 1 kept_job_view (rows_of n w).jobs (db 1) (jobs_rise w.jobs up) held.jobs.same;
    bare = All-map IsBare job_row w.jobs (λ k d low. (refl, refl));
    documents = table_up document_values 2 document_view (rows_of n w).documents (db 2) (documents_rise w.jobs up) held.documents.same;
    pieces = record { pieces = wholes; items_are = sym wholes_rows; long = wholes_long; table = table_up whole_piece 3 piece_view wholes (db 4) wholes_up wholes_held };
  }

  account_tables : AreAccountTables (rows_of n w) d
  account_tables = record {
    accounts = table_up account_row_values 1 account_view (rows_of n w).accounts (db 6) (accounts_rise (rows_of n w).accounts are.tables.grants.accounts_order) held.accounts.same;
    grants = table_up grant_values 2 grant_view (rows_of n w).grants (db 8) (grants_rise (rows_of n w).grants are.tables.grants.grants_order) held.grants.same;
    reports = table_up report_values 2 report_view (rows_of n w).reports (db 10) (reports_rise (rows_of n w).reports are.tables.reports.order) held.reports.same;
    policy = policy_up n w d schema has;
    operators = operators_up n w d sound schema has;
  }

  -- ---- and are read as them

  wholes_read : (ps : List Piece) → All IsLong ps → IsTable whole_piece piece_view 3 ps (db 4) → ps ≡ wholes
  wholes_read ps long table = injected whole_piece IsLong same_piece ps wholes long wholes_long (one_order whole_piece 3 piece_view (db 4) wholes ps wholes_up wholes_held table)

  bytes_read : (ps : List Piece) → All IsLong ps → IsTable whole_piece piece_view 3 ps (db 4) → map bytes_in ps ≡ bytes_of w
  unfolding wholes
  bytes_read ps long table = ap (map bytes_in) (wholes_read ps long table) ∙ their_bytes (rows_of n w).pieces (bytes_of w) lengths

  module _ (courses : TellCourses) (kinds : (k l : Kind) → kind_number k ≡ kind_number l → k ≡ l) (states : (s t : JobState) → job_state_number s ≡ job_state_number t → s ≡ t) (flags : (x y : Bool) → flag_number x ≡ flag_number y → x ≡ y)
      (t : Tables) (first : AreJobTables t db) (second : AreAccountTables t d) where
    meta_read : t.meta ≡ meta_row n w ∷ []
    unfolding any_row
    meta_read = injected meta_values any_row (λ a b p q. same_meta a b) t.meta (meta_row n w ∷ []) (λ k d low. tt) (λ k d low. tt) (one_order meta_values 1 meta_view (db 0) (meta_row n w ∷ []) t.meta (tt, tt) held.meta.same first.meta)

    jobs_read : t.jobs ≡ (rows_of n w).jobs
    jobs_read = injected job_values IsBare (same_bare courses flags) t.jobs (rows_of n w).jobs first.bare (All-map IsBare job_row w.jobs (λ k d low. (refl, refl)))
        (one_order job_values 1 kept_job_view (db 1) (rows_of n w).jobs t.jobs (jobs_rise w.jobs up) held.jobs.same first.jobs)

    documents_read : t.documents ≡ (rows_of n w).documents
    unfolding any_row
    documents_read = injected document_values any_row (λ a b p q. same_document a b) t.documents (rows_of n w).documents (λ k d low. tt) (λ k d low. tt)
        (one_order document_values 2 document_view (db 2) (rows_of n w).documents t.documents (documents_rise w.jobs up) held.documents.same first.documents)

    pieces_read : t.pieces ≡ (rows_of n w).pieces
    pieces_read = first.pieces.items_are ∙ ap (map row_of) (wholes_read first.pieces.pieces first.pieces.long first.pieces.table) ∙ wholes_rows

    accounts_read : t.accounts ≡ (rows_of n w).accounts
    unfolding any_row
    accounts_read = injected account_row_values any_row (λ a b p q. same_account a b) t.accounts (rows_of n w).accounts (λ k d low. tt) (λ k d low. tt)
        (one_order account_row_values 1 account_view (db 6) (rows_of n w).accounts t.accounts (accounts_rise (rows_of n w).accounts are.tables.grants.accounts_order) held.accounts.same second.accounts)

    grants_read : t.grants ≡ (rows_of n w).grants
    unfolding any_row
    grants_read = injected grant_values any_row (λ a b p q. same_grant a b) t.grants (rows_of n w).grants (λ k d low. tt) (λ k d low. tt)
        (one_order grant_values 2 grant_view (db 8) (rows_of n w).grants t.grants (grants_rise (rows_of n w).grants are.tables.grants.grants_order) held.grants.same second.grants)

    reports_read : t.reports ≡ (rows_of n w).reports
    unfolding any_row
    reports_read = injected report_values any_row (λ a b p q. same_report kinds states a b) t.reports (rows_of n w).reports (λ k d low. tt) (λ k d low. tt)
        (one_order report_values 2 report_view (db 10) (rows_of n w).reports t.reports (reports_rise (rows_of n w).reports are.tables.reports.order) held.reports.same second.reports)

    pub all_read : t ≡ rows_of n w
    all_read = λ i. record { meta = meta_read i; jobs = jobs_read i; documents = documents_read i; pieces = pieces_read i; accounts = accounts_read i; grants = grants_read i; reports = reports_read i; policy = policy_read n w d t.policy schema has second.policy i; operators = operators_read n w d t.operators sound schema has second.operators i }

has_tables : (n : Version) (s : Schema) → s ≡ schema_of n → IsTrue (has_all s)
unfolding same_name
has_tables first_version s is = subst (λ (t : Schema). IsTrue (has_all t)) (sym is) refl
has_tables second_version s is = subst (λ (t : Schema). IsTrue (has_all t)) (sym is) refl
has_tables third_version s is = subst (λ (t : Schema). IsTrue (has_all t)) (sym is) refl

module _ (w : World) (d : Database) (h : IsQueueIn w d) (are : AreSoundRows (rows_of h.version w)) (lengths : map length (bytes_of w) ≡ map length_in (rows_of h.version w).pieces) where
  pub loadable : IsLoadable d
  loadable = record {
    tables = has_tables h.version d.schema h.schema;
    first = first_formed h.version w d h.sound are lengths h.schema h.rows;
    second = second_formed h.version w d h.sound are lengths h.schema h.rows;
  }

  pub their_tables : AreTables (rows_of h.version w) d
  their_tables = record {
    tables = has_tables h.version d.schema h.schema;
    first = job_tables h.version w d h.sound are lengths h.schema h.rows;
    second = account_tables h.version w d h.sound are lengths h.schema h.rows;
  }

  pub bytes_back : {t : Tables} (first : AreJobTables t d.trees) → map bytes_in first.pieces.pieces ≡ bytes_of w
  bytes_back first = bytes_read h.version w d h.sound are lengths h.schema h.rows first.pieces.pieces first.pieces.long first.pieces.table

  pub read_back : (courses : TellCourses) (kinds : (k l : Kind) → kind_number k ≡ kind_number l → k ≡ l) (states : (s t : JobState) → job_state_number s ≡ job_state_number t → s ≡ t) (flags : (x y : Bool) → flag_number x ≡ flag_number y → x ≡ y)
      → (t : Tables) → AreTables t d → t ≡ rows_of h.version w
  read_back courses kinds states flags t read = all_read h.version w d h.sound are lengths h.schema h.rows courses kinds states flags t read.first read.second

-- ---- whose accounts and operators have rowids of their own

accounts_keyed : (n : Version) (w : World) (d : Database) → HasQueueOf n w d.trees → AreKeyed (d.trees 6)
accounts_keyed first_version w d has = has.accounts.keyed tt
accounts_keyed second_version w d has = has.first.accounts.keyed tt
accounts_keyed third_version w d has = has.second.first.accounts.keyed tt

operators_keyed : (n : Version) (w : World) (d : Database) → d.schema ≡ schema_of n → HasQueueOf n w d.trees → HasKeyedOperators d
operators_keyed first_version w d schema has = λ third. apart d.schema first_version third_version (λ e. cc) schema third
operators_keyed second_version w d schema has = λ third. apart d.schema second_version third_version (λ e. cc) schema third
operators_keyed third_version w d schema has = λ third. has.operators.keyed tt

pub tables_keyed : (w : World) (d : Database) → IsQueueIn w d → HasKeyedTables d
tables_keyed w d h = record { accounts = accounts_keyed h.version w d h.rows; operators = operators_keyed h.version w d h.schema h.rows }
