-- The values of a row tell the row.
use Rattle.std.proofs.Common.{◌≡◌, ℕ, ℤ, ◌==◌, List, Bool, cond, length, get_or, refl, sym, ap, ◌∙◌}
use Rattle.sqlite.specs.Order.{Row, column}
use Rattle.sqlite.specs.declared.types.Value.TheVariants.{Int, Text as Words, Blob}
use Rattle.queue_types.specs.declared.document.Format.{Format}
use Rattle.queue_types.specs.declared.document.Format.TheVariants.{OctetStream, Pdf, Postscript, Jpeg, PwgRaster, Urf, PlainText}
use Rattle.queue_types.specs.declared.event.GrantRow.{GrantRow}
use Rattle.queue_types.specs.declared.event.KeptReport.{KeptReport}
use Rattle.queue_types.specs.declared.event.Kind.{Kind}
use Rattle.queue_types.specs.declared.job.Job.{Job}
use Rattle.queue_types.specs.declared.states.JobState.{JobState}
use Rattle.queue_rows.specs.Codes.{flag_number, job_state_number, kind_number}
use Rattle.queue_rows.specs.declared.rows.AccountRow.{AccountRow}
use Rattle.queue_rows.specs.declared.rows.DocumentRow.{DocumentRow}
use Rattle.queue_rows.specs.declared.rows.MetaRow.{MetaRow}
use Rattle.queue_rows.specs.declared.rows.PolicyRow.{PolicyRow}
use Rattle.queue_types.specs.Formats.{format_name}
use Rattle.queue_tables.specs.Values.{document_values, grant_values, job_values, meta_values, operator_values, policy_values, number, report_values}
use Rattle.queue_tables.proofs.JobPut.{TellCourses, same_job}
use Rattle.queue_load.specs.Loaded.{IsBare, IsLong, Piece, whole_piece}
use Rattle.queue_load.specs.Tells.{account_row_values}

-- ---- one value

same_number : (m n : ℕ) → number m ≡ number n → m ≡ n
same_number m n e = cc

same_int : (m n : ℤ) → Int m ≡ Int n → m ≡ n
same_int m n e = cc

same_words : (s t : List ℕ) → Words s ≡ Words t → s ≡ t
same_words s t e = cc

same_blob : (s t : List ℕ) → Blob s ≡ Blob t → s ≡ t
same_blob s t e = cc

-- a media type by its length, and two of one length by their first letters
format_at : List ℕ → Format
format_at t =
    cond (length t == 24) OctetStream (cond (length t == 15) Pdf (cond (length t == 22) Postscript (cond (length t == 16) PwgRaster (cond (length t == 9) Urf (cond (get_or t 0 0 == 105) Jpeg PlainText)))))

format_found : (f : Format) → format_at (format_name f) ≡ f
unfolding format_at
format_found OctetStream = refl
format_found _ = refl

same_format : (f g : Format) → format_name f ≡ format_name g → f ≡ g
same_format f g e = sym (format_found f) ∙ ap format_at e ∙ format_found g

-- ---- a row

module _ (a b : Row) (e : a ≡ b) where
  at : (i : ℕ) → column a i ≡ column b i
  at i = ap (λ (r : Row). column r i) e

pub same_meta : (a b : MetaRow) → meta_values a ≡ meta_values b → a ≡ b
same_meta a b e =
    let c = at _ _ e in
    let o = same_number a.one b.one (c 0) in
    let s = same_number a.schema b.schema (c 1) in
    let u = same_words a.uri b.uri (c 2) in
    let n = same_words a.name b.name (c 3) in
    let p = same_number a.estimate b.estimate (c 4) in
    let q = same_int a.epoch b.epoch (c 5) in
    let t = same_number a.next_number b.next_number (c 6) in
    λ x. record { one = o x; schema = s x; uri = u x; name = n x; estimate = p x; epoch = q x; next_number = t x }

pub same_policy : (a b : PolicyRow) → policy_values a ≡ policy_values b → a ≡ b
same_policy a b e =
    let c = at _ _ e in
    let o = same_number a.one b.one (c 0) in
    let k = same_number a.keep b.keep (c 1) in
    λ x. record { one = o x; keep = k x }

pub same_operator : (a b : List ℕ) → operator_values a ≡ operator_values b → a ≡ b
same_operator a b e = same_words a b (at _ _ e 0)

pub same_bare : TellCourses → ((x y : Bool) → flag_number x ≡ flag_number y → x ≡ y)
    → (a b : Job) → IsBare a → IsBare b → job_values a ≡ job_values b → a ≡ b
same_bare courses flags a b p q e = same_job courses flags a b e p.0 p.1 ∙ (λ x. record b { documents = sym q.0 x; octets = sym q.1 x })

pub same_document : (a b : DocumentRow) → document_values a ≡ document_values b → a ≡ b
same_document a b e =
    let c = at _ _ e in
    let j = same_number a.job b.job (c 0) in
    let d = same_number a.doc b.doc (c 1) in
    let f = same_format a.format b.format (same_words _ _ (c 2)) in
    let o = same_number a.octets b.octets (c 3) in
    λ x. record { job = j x; doc = d x; format = f x; octets = o x }

pub same_piece : (a b : Piece) → IsLong a → IsLong b → whole_piece a ≡ whole_piece b → a ≡ b
same_piece a b p q e =
    let c = at _ _ e in
    let j = same_number a.row.job b.row.job (c 0) in
    let d = same_number a.row.doc b.row.doc (c 1) in
    let k = same_number a.row.piece b.row.piece (c 2) in
    let t = same_blob a.bytes b.bytes (c 3) in
    let n : a.row.length ≡ b.row.length = sym p ∙ ap length t ∙ q in
    λ x. record { row = record { job = j x; doc = d x; piece = k x; length = n x }; bytes = t x }

pub same_account : (a b : AccountRow) → account_row_values a ≡ account_row_values b → a ≡ b
same_account a b e =
    let c = at _ _ e in
    let n = same_words a.name b.name (c 0) in
    let f = same_int a.free b.free (c 1) in
    let r = same_number a.reserved b.reserved (c 2) in
    let p = same_number a.printed b.printed (c 3) in
    λ x. record { name = n x; free = f x; reserved = r x; printed = p x }

pub same_grant : (a b : GrantRow) → grant_values a ≡ grant_values b → a ≡ b
same_grant a b e =
    let c = at _ _ e in
    let t = same_words a.batch b.batch (c 0) in
    let n = same_words a.account b.account (c 1) in
    let p = same_number a.pages b.pages (c 2) in
    λ x. record { batch = t x; account = n x; pages = p x }

pub same_report : ((k l : Kind) → kind_number k ≡ kind_number l → k ≡ l) → ((s t : JobState) → job_state_number s ≡ job_state_number t → s ≡ t) → (a b : KeptReport) → report_values a ≡ report_values b → a ≡ b
same_report kinds states a b e =
    let c = at _ _ e in
    let j = same_number a.report.job b.report.job (c 0) in
    let s = same_number a.report.seq b.report.seq (c 1) in
    let k = kinds a.report.kind b.report.kind (same_number _ _ (c 2)) in
    let n = same_number a.report.count b.report.count (c 3) in
    let p = states a.state b.state (same_number _ _ (c 4)) in
    let t = same_number a.total b.total (c 5) in
    λ x. record { report = record { job = j x; seq = s x; kind = k x; count = n x }; state = p x; total = t x }
