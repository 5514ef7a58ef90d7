-- No document comes but what is sent.
use Rattle.std.proofs.Common.{◌≡◌, ◌⊎◌, ℕ, List, [], ◌∷◌, ◌++◌, refl, ap, sym, subst, ◌∙◌, inl, inr, Bool, true, false, cond}
use Rattle.std.specs.Prelude.{Option, Some, None, nat_eq, bytes_eq, option_map, fold}
use Rattle.std.specs.List.{AllByRecursion as Each}
use Rattle.std.specs.Option.{option_map_or}
use Rattle.std.proofs.lemmas.List.{append-nil}
use Rattle.queue_types.specs.Event.{Event, Call, Change, Decision, NewDocument, ask, tell, grant, expire, print_job, send_document}
use Rattle.queue_core.specs.World.{World, Entry, rows, cut, made_on, with_row, add_document, with_document}
use Rattle.queue_core.specs.Grants.{Taken, all_taken, none_taken, take_rows}
use Rattle.queue_core.specs.Machine.{step, decision, call_row, answered, refused, entered, new_job, new_document, new_refusal, unless_refused, is_sendable, document_sent, send_in, report_row, accepted_where, grant_row, of_own}
use Rattle.queue_core.specs.Reports.{reported, is_same_report}
use Rattle.queue_types.specs.declared.document.Document.{Document}
use Rattle.queue_types.specs.declared.document.Format.{Format}
use Rattle.queue_types.specs.declared.event.KeptReport.{KeptReport}
use Rattle.queue_types.specs.declared.event.Report.{Report}
use Rattle.queue_types.specs.declared.event.ReportRefusal.TheVariants.{Conflict}
use Rattle.queue_types.specs.declared.event.Reply.TheVariants.{Told, NotTold}
use Rattle.queue_types.specs.declared.event.Scene.{Scene}
use Rattle.queue_types.specs.declared.job.Job.{Job}
use Rattle.queue_core.proofs.Forms.{HasForm, prints, sends as sends_form, call_form}
use Rattle.queue_laws.specs.Documents.{documents_at, sent_by, sent_in}
use Rattle.queue_laws.specs.Doing.{entry_at}
use Rattle.queue_laws.specs.Entering.{documents_of}
use Rattle.queue_laws.proofs.Base.{each_map, equal, itself, passed}
use Rattle.queue_laws.proofs.OfNumber.{other_row_at}
use Rattle.queue_laws.proofs.OneDone.{number_at, with_row_at, document_at as document_put}

-- ---- what a change leaves

abbrev documents_in : Option Entry → List Document
documents_in o = option_map_or (λ (e : Entry). e.documents) o []

abbrev one : NewDocument → List Document
one d = record { format = d.format; bytes = d.bytes } ∷ []

-- what of it is for the job of number n
abbrev carried : ℕ → Option NewDocument → List Document
carried n None = []
carried n (Some d) = cond (nat_eq d.job n) (one d) []

-- these come at most, behind the others
abbrev pub Comes : List Document → List Document → List Document → Type 0
Comes ds before after = (after ≡ before) ⊎ (after ≡ before ++ ds)

one_put : (n : ℕ) (d : NewDocument) (e : Entry) → e.row.number ≡ n → Comes (carried n (Some d)) e.documents (add_document d e).documents
one_put n d e number =
    elim (nat_eq e.row.number d.job) as (λ t. nat_eq e.row.number d.job ≡ t → Comes (carried n (Some d)) e.documents (cond t (record e { documents = e.documents ++ one d }) e).documents) [
      | true ↦ λ is. inr (ap (λ t. e.documents ++ cond t (one d) []) (sym (ap (λ m. nat_eq m n) (sym (equal e.row.number d.job is) ∙ number) ∙ itself n)))
      | false ↦ λ other. inl refl
    ] refl

put_comes : (n : ℕ) (d : NewDocument) (es : List Entry) → Comes (carried n (Some d)) (documents_at n es) (documents_in (option_map (add_document d) (entry_at n es)))
put_comes n d es =
    elim (entry_at n es) as (λ o. entry_at n es ≡ o → Comes (carried n (Some d)) (documents_in o) (documents_in (option_map (add_document d) o))) [
      | None ↦ λ none. inl refl
      | Some e ↦ λ there. one_put n d e (number_at n es e there)
    ] refl

-- a row brings no document
fresh_row : (row : Job) (es : List Entry) → entry_at row.number es ≡ None → documents_at row.number (with_row es row) ≡ []
fresh_row row [] none = ap (λ t. documents_in (cond t (Some (record { row = row; documents = [] })) None)) (itself row.number)
fresh_row row (e ∷ es) none =
    elim (nat_eq e.row.number row.number) as (λ t. nat_eq e.row.number row.number ≡ t → cond t (Some e) (entry_at row.number es) ≡ None → documents_at row.number (cond t (record e { row = row } ∷ es) (e ∷ with_row es row)) ≡ []) [
      | true ↦ λ is none. absurd (cc)
      | false ↦ λ is none. ap (λ t. documents_in (cond t (Some e) (entry_at row.number (with_row es row)))) is ∙ fresh_row row es none
    ] refl none

module _ (n : ℕ) where
  row_same : (row : Job) (es : List Entry) → documents_at n (with_row es row) ≡ documents_at n es
  row_same row es =
      elim (nat_eq row.number n) as (λ t. nat_eq row.number n ≡ t → documents_at n (with_row es row) ≡ documents_at n es) [
        | true ↦ λ is.
            elim (entry_at n es) as (λ o. entry_at n es ≡ o → documents_at n (with_row es row) ≡ documents_in o) [
              | None ↦ λ none. ap (λ m. documents_at m (with_row es row)) (sym (equal row.number n is)) ∙ fresh_row row es (ap (λ m. entry_at m es) (equal row.number n is) ∙ none)
              | Some e ↦ λ there. ap documents_in (with_row_at n row es e (equal row.number n is) there)
            ] refl
        | false ↦ λ other. ap documents_in (other_row_at n row es other)
      ] refl

  rows_same : (rows : List Job) (es : List Entry) → documents_at n (fold with_row es rows) ≡ documents_at n es
  rows_same [] es = refl
  rows_same (row ∷ rows) es = rows_same rows (with_row es row) ∙ row_same row es

  document_comes : (o : Option NewDocument) (es : List Entry) → Comes (carried n o) (documents_at n es) (documents_at n (with_document es o))
  document_comes None es = inl refl
  document_comes (Some d) es = subst (λ o. Comes (carried n (Some d)) (documents_at n es) (documents_in o)) (sym (document_put n d es)) (put_comes n d es)

  made_comes : (c : Change) (w : World) → Comes (carried n c.document) (documents_at n w.jobs) (documents_at n (made_on c w).jobs)
  made_comes c w = subst (λ before. Comes (carried n c.document) before (documents_at n (made_on c w).jobs)) (rows_same c.jobs w.jobs) (document_comes c.document (fold with_row w.jobs c.jobs))

-- ---- what a decision sends

comes_by : (n : ℕ) (o : Option NewDocument) (ds before after : List Document) → (o ≡ None) ⊎ (carried n o ≡ ds) → Comes (carried n o) before after → Comes ds before after
comes_by n o ds before after sends (inl same) = inl same
comes_by n o ds before after (inl none) (inr more) = inl (more ∙ ap (λ o. before ++ carried n o) none ∙ append-nil before)
comes_by n o ds before after (inr is) (inr more) = inr (more ∙ ap (λ t. before ++ t) is)

none_either : (b : Bool) → [] ≡ cond {A = List Document} b [] []
none_either true = refl
none_either false = refl

carries : (n m : ℕ) (format : Format) (payload : List ℕ) → carried n (new_document m format payload) ≡ cond (nat_eq m n) (documents_of format payload) []
carries n m format [] = none_either (nat_eq m n)
carries n m format (b ∷ bytes) = refl

-- a document may come with it
abbrev has_payload : Call → Bool
has_payload (print_job j format payload) = true
has_payload (send_document m format payload last) = true
has_payload _ = false

form_sends_none : (s : Scene) (now : ℕ) (caller : List ℕ) (call : Call) (d : Decision) → HasForm s now caller call d → has_payload call ≡ false → d.change.document ≡ None
form_sends_none s now caller _ _ (prints new format payload room) none = absurd (cc)
form_sends_none s now caller _ _ (sends_form m format payload last j own can) none = absurd (cc)
form_sends_none s now caller _ _ _ none = refl

module _ (n : ℕ) where
  -- no document, or these for the job of number n
  abbrev Sends : List Document → Decision → Type 0
  Sends ds d = (d.change.document ≡ None) ⊎ (carried n d.change.document ≡ ds)

  unless_sends : (ds : List Document) (o : Option ℕ) (d : Decision) → Sends ds d → Sends ds (unless_refused o d)
  unless_sends ds None d sends = sends
  unless_sends ds (Some code) d sends = inl refl

  own_sends : (ds : List Document) (caller : List ℕ) (row : Job → Decision) (js : List Job) → Each (λ j. Sends ds (row j)) js → Sends ds (of_own caller row js)
  own_sends ds caller row [] each = inl refl
  own_sends ds caller row (j ∷ js) each = elim (bytes_eq j.owner caller) as (λ b. Sends ds (cond b (row j) (refused 0x0406))) [ true ↦ each.0 | false ↦ inl refl ]

  module _ (s : Scene) where
    payload_sends : (m : ℕ) (j : Job) (format : Format) (payload : List ℕ) (last : Bool) → j.number ≡ m → Sends (cond (nat_eq m n) (documents_of format payload) []) (send_in s j format payload last)
    payload_sends m j format payload last number =
        elim (is_sendable j payload) as (λ b. Sends (cond (nat_eq m n) (documents_of format payload) []) (cond b (document_sent s j format payload last) (refused 0x0404))) [
          | true ↦ inr (carries n j.number format payload ∙ ap (λ m. cond (nat_eq m n) (documents_of format payload) []) number)
          | false ↦ inl refl
        ]

    accepted_sends : (r : Report) (o : Option Job) → Sends [] (accepted_where s r o)
    accepted_sends r None = inl refl
    accepted_sends r (Some j) = inl refl

    report_sends : (now : ℕ) (r : Report) (js : List Job) (kept : Option KeptReport) → Sends [] (report_row s now r js kept)
    report_sends now r [] kept = inl refl
    report_sends now r (j ∷ js) None = accepted_sends r (reported r now j)
    report_sends now r (j ∷ js) (Some k) = elim (is_same_report r k.report) as (λ b. Sends [] (cond b (answered (Told k.state k.total)) (answered (NotTold Conflict)))) [ true ↦ inl refl | false ↦ inl refl ]

    file_sends : (taken : Taken) → Sends [] (grant_row taken)
    file_sends (all_taken new free repeats) = inl refl
    file_sends (none_taken fault row) = inl refl

  call_sends : (w : World) (now : ℕ) (caller : List ℕ) (call : Call) → Sends (sent_by w.next n call) (decision (cut w now (ask caller call)) now (ask caller call))
  call_sends w now caller (print_job j format payload) =
      let s : Scene = cut w now (ask caller (print_job j format payload)) in
      unless_sends (cond (nat_eq w.next n) (documents_of format payload) []) (new_refusal s) (entered s (new_job s now caller false j payload) (new_document s.next format payload)) (inr (carries n w.next format payload))
  call_sends w now caller (send_document m format payload last) =
      let s : Scene = cut w now (ask caller (send_document m format payload last)) in
      let ds : List Document = cond (nat_eq m n) (documents_of format payload) [] in
      own_sends ds caller (λ j. send_in s j format payload last) s.jobs
      (each_map (λ j. nat_eq j.number m ≡ true) (λ j. Sends ds (send_in s j format payload last)) s.jobs (λ j is. payload_sends s m j format payload last (equal j.number m is)) (passed (λ j. nat_eq j.number m) (rows w)))
  call_sends w now caller call = let s : Scene = cut w now (ask caller call) in inl (form_sends_none s now caller call (call_row s now caller call) (call_form s now caller call) refl)

  event_sends : (w : World) (now : ℕ) (e : Event) → Sends (sent_in w.next n e) (decision (cut w now e) now e)
  event_sends w now (ask caller call) = call_sends w now caller call
  event_sends w now (tell r) = let s : Scene = cut w now (tell r) in report_sends s now r s.jobs s.report
  event_sends w now (grant file) = file_sends (cut w now (grant file)) (take_rows file (cut w now (grant file)).known 1 [] [] 0)
  event_sends w now expire = inl refl

pub only_sent_come : (w : World) (now n : ℕ) (e : Event) → Comes (sent_in w.next n e) (documents_at n w.jobs) (documents_at n (step w now e).world.jobs)
only_sent_come w now n e =
    let d : Decision = decision (cut w now e) now e in
    comes_by n d.change.document (sent_in w.next n e) (documents_at n w.jobs) (documents_at n (made_on d.change w).jobs) (event_sends n w now e) (made_comes n d.change w)
