-- Documents stay with their job, and what is fetched of it is what was sent.
use Rattle.std.proofs.Common.{◌≡◌, ◌≢◌, ℕ, ◌+◌, List, [], ◌∷◌, ◌++◌, length, map, refl, ap, sym, subst, ◌∙◌, arith, append_assoc, Bool, true, false, cond}
use Rattle.std.specs.Prelude.{Option, Some, None, nat_eq, bytes_eq, option_map, fold, ◌||◌}
use Rattle.std.proofs.lemmas.List.{append-nil}
use Rattle.std.proofs.lemmas.Bool.{ne_eqb, true≢false}
use Rattle.std.proofs.lemmas.Option.{same_Some, none-some}
use Rattle.queue_types.specs.Event.{Event, NewJob, NewDocument, Change, Decision, ask, print_job, send_document}
use Rattle.queue_types.specs.Job.{state}
use Rattle.queue_core.specs.World.{World, Entry, rows, cut, made_on, with_row, add_document, with_document}
use Rattle.queue_core.specs.Machine.{Step, step, decision, refused, changed, is_sendable, sent, document_sent, send_in}
use Rattle.queue_core.specs.Runs.{Place, after, run}
use Rattle.queue_core.specs.Shown.{document_at}
use Rattle.queue_core.specs.Sound.{IsSound, Rise}
use Rattle.queue_types.specs.declared.document.Document.{Document}
use Rattle.queue_types.specs.declared.document.Format.{Format}
use Rattle.queue_types.specs.declared.event.Reply.TheVariants.{Jobs}
use Rattle.queue_types.specs.declared.event.Scene.{Scene}
use Rattle.queue_types.specs.declared.job.Job.{Job}
use Rattle.queue_laws.specs.Documents.{HasFirst}
use Rattle.queue_laws.specs.Doing.{entry_at}
use Rattle.queue_laws.specs.Entering.{Enters, documents_of}
use Rattle.queue_laws.specs.Replies.{refuses}
use Rattle.queue_laws.proofs.Base.{equal, first_below, itself}
use Rattle.queue_laws.proofs.Entered.{printed}
use Rattle.queue_laws.proofs.Fetched.{fetched, not_fetched}
use Rattle.queue_laws.proofs.OfNumber.{other_row_at}
use Rattle.queue_laws.proofs.OneDone.{by, number_at, row_at, with_row_at, document_at as document_put}
use Rattle.queue_laws.proofs.OneJob.{of_job}
use Rattle.queue_laws.proofs.OnSend.{added}

pub as_it_is : (n : ℕ) (es : List Entry) (x : Entry) → entry_at n es ≡ Some x → HasFirst n x.documents es
as_it_is n es x there = record { entry = x; more = []; there = there; documents = sym (append-nil x.documents) }

-- ---- what a change leaves

module _ (n : ℕ) (first : List Document) where
  row_has : (row : Job) (es : List Entry) → HasFirst n first es → HasFirst n first (with_row es row)
  row_has row es has =
      elim (nat_eq row.number n) as (λ t. nat_eq row.number n ≡ t → HasFirst n first (with_row es row)) [
        | true ↦ λ is. record { entry = record has.entry { row = row }; more = has.more; there = with_row_at n row es has.entry (equal row.number n is) has.there; documents = has.documents }
        | false ↦ λ other. record { entry = has.entry; more = has.more; there = other_row_at n row es other ∙ has.there; documents = has.documents }
      ] refl

  rows_have : (changed : List Job) (es : List Entry) → HasFirst n first es → HasFirst n first (fold with_row es changed)
  rows_have [] es has = has
  rows_have (row ∷ changed) es has = rows_have changed (with_row es row) (row_has row es has)

  document_has : (o : Option NewDocument) (es : List Entry) → HasFirst n first es → HasFirst n first (with_document es o)
  document_has None es has = has
  document_has (Some d) es has =
      let x : Entry = has.entry in
      let one : List Document = record { format = d.format; bytes = d.bytes } ∷ [] in
      elim (nat_eq x.row.number d.job) as (λ t. entry_at n (map (add_document d) es) ≡ Some (cond t (record x { documents = x.documents ++ one }) x) → HasFirst n first (map (add_document d) es)) [
        | true ↦ λ there. record { entry = record x { documents = x.documents ++ one }; more = has.more ++ one; there = there; documents = ap (λ t. t ++ one) has.documents ∙ append_assoc first has.more one }
        | false ↦ λ there. record { entry = x; more = has.more; there = there; documents = has.documents }
      ] (document_put n d es ∙ ap (option_map (add_document d)) has.there)

  made_has : (c : Change) (w : World) → HasFirst n first w.jobs → HasFirst n first (made_on c w).jobs
  made_has c w has = document_has c.document (fold with_row w.jobs c.jobs) (rows_have c.jobs w.jobs has)

  pub step_has : (w : World) (now : ℕ) (e : Event) → HasFirst n first w.jobs → HasFirst n first (step w now e).world.jobs
  step_has w now e has = made_has (decision (cut w now e) now e).change w has

  after_has : (w : World) (now : ℕ) (o : Option Event) → HasFirst n first w.jobs → HasFirst n first (after w now o).jobs
  after_has w now None has = has
  after_has w now (Some e) has = step_has w now e has

  pub run_has : (places : List Place) (w : World) → HasFirst n first w.jobs → HasFirst n first (run w places).jobs
  run_has [] w has = has
  run_has (p ∷ places) w has = run_has places (after w p.now p.event) (after_has w p.now p.event has)

-- ---- what is fetched

fetched_is : (w : World) (n : ℕ) (before : List Document) (sent d : Document) → HasFirst n (before ++ sent ∷ []) w.jobs → document_at w n (length before + 1) ≡ Some d → d ≡ sent
fetched_is w n before sent d has is =
    let x : Entry = has.entry in
    let can : Bool = nat_eq (state x.row) 3 || nat_eq (state x.row) 5 || nat_eq (state x.row) 6 in
    elim can as (λ t. can ≡ t → d ≡ sent) [
      | true ↦ λ yes. same_Some d sent (sym is ∙ fetched w n x has.there before has.more sent yes (has.documents ∙ append_assoc before (sent ∷ []) has.more))
      | false ↦ λ no. absurd (none-some d (sym (not_fetched w n x has.there (length before + 1) no) ∙ is))
    ] refl

-- a payload that is not empty is one document
one_document : (format : Format) (payload : List ℕ) → payload ≢ [] → documents_of format payload ≡ record { format = format; bytes = payload } ∷ []
one_document format [] some = absurd (some refl)
one_document format (b ∷ bytes) some = refl

later_is : (w : World) (places : List Place) (n : ℕ) (before : List Document) (format : Format) (payload : List ℕ) (d : Document) → payload ≢ [] → HasFirst n (before ++ documents_of format payload) w.jobs → document_at (run w places) n (length before + 1) ≡ Some d → d ≡ record { format = format; bytes = payload }
later_is w places n before format payload d some has =
    let sent : Document = record { format = format; bytes = payload } in
    fetched_is (run w places) n before sent d (run_has n (before ++ sent ∷ []) places w (subst (λ ds. HasFirst n (before ++ ds) w.jobs) (one_document format payload some) has))

-- ---- Print-Job

last_at : (n first : ℕ) (x : Entry) (es : List Entry) → x.row.number ≡ n → Rise first es n → entry_at n (es ++ x ∷ []) ≡ Some x
last_at n first x [] number rise = ap (λ t. cond t (Some x) None) (ap (λ m. nat_eq m n) number ∙ itself n)
last_at n first x (e ∷ es) number rise =
    let low = first_below (e.row.number + 1) n es rise.1 in
    ap (λ t. cond t (Some e) (entry_at n (es ++ x ∷ []))) (ne_eqb e.row.number n (λ same. omega arith)) ∙ last_at n (e.row.number + 1) x es number rise.1

told_same : (a b : Job) → Jobs (a ∷ []) ≡ Jobs (b ∷ []) → a ≡ b
told_same a b e = cc

pub printed_fetched : (w : World) (now : ℕ) (caller : List ℕ) (new : NewJob) (format : Format) (payload : List ℕ) (j : Job) (places : List Place) (d : Document) → IsSound w → payload ≢ [] → (step w now (ask caller (print_job new format payload))).reply ≡ Jobs (j ∷ []) → document_at (run (step w now (ask caller (print_job new format payload))).world places) j.number 1 ≡ Some d → d ≡ record { format = format; bytes = payload }
printed_fetched w now caller new format payload j places d sound some told =
    let s : Step = step w now (ask caller (print_job new format payload)) in
    let enters : Enters w now caller new false (documents_of format payload) s = printed w now caller new format payload sound (ap refuses told) in
    let number : w.next ≡ j.number = sym enters.number ∙ ap (λ (k : Job). k.number) (told_same enters.entry.row j (sym enters.reply ∙ told)) in
    let there : entry_at w.next s.world.jobs ≡ Some enters.entry = ap (entry_at w.next) enters.last ∙ last_at w.next 1 enters.entry w.jobs enters.number sound.numbers in
    let has : HasFirst w.next (documents_of format payload) s.world.jobs = subst (λ ds. HasFirst w.next ds s.world.jobs) enters.documents (as_it_is w.next s.world.jobs enters.entry there) in
    later_is s.world places j.number [] format payload d some (subst (λ m. HasFirst m (documents_of format payload) s.world.jobs) number has)

-- ---- Send-Document

module _ (w : World) (now n : ℕ) (caller : List ℕ) (e : Entry) (format : Format) (payload : List ℕ) (last : Bool) (there : entry_at n w.jobs ≡ Some e) where
  abbrev scene : Scene
  scene = cut w now (ask caller (send_document n format payload last))

  abbrev x : Job
  x = sent e.row payload last

  abbrev sends : Decision
  sends = document_sent scene e.row format payload last

  abbrev by_tests : Bool → Bool → Step
  by_tests own can = by w (cond own (cond can sends (refused 0x0404)) (refused 0x0406))

  abbrev HasIt : Step → Type 0
  HasIt s = refuses s.reply ≡ false → HasFirst n (e.documents ++ documents_of format payload) s.world.jobs

  taken_has : HasIt (by w sends)
  taken_has taken = as_it_is n (by w sends).world.jobs (record { row = x; documents = e.documents ++ documents_of format payload }) (added n w.jobs e x format payload (number_at n w.jobs e there) there)

  sent_has : HasIt (step w now (ask caller (send_document n format payload last)))
  sent_has = subst HasIt (sym (ap (by w) (of_job caller (rows w) (λ j. send_in scene j format payload last) n e.row (row_at n w.jobs e there) (bytes_eq e.row.owner caller) refl)))
      (elim (bytes_eq e.row.owner caller) as (λ own. HasIt (by_tests own (is_sendable e.row payload))) [
        | true ↦ elim (is_sendable e.row payload) as (λ can. HasIt (by_tests true can)) [ true ↦ taken_has | false ↦ λ never. absurd (true≢false never) ]
        | false ↦ λ never. absurd (true≢false never)
      ])

  pub sent_fetched : (places : List Place) (d : Document) → payload ≢ [] → refuses (step w now (ask caller (send_document n format payload last))).reply ≡ false → document_at (run (step w now (ask caller (send_document n format payload last))).world places) n (length e.documents + 1) ≡ Some d → d ≡ record { format = format; bytes = payload }
  sent_fetched places d some taken = later_is (step w now (ask caller (send_document n format payload last))).world places n e.documents format payload d some (sent_has taken)
