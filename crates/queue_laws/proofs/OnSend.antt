-- What Send-Document makes of a job.
use Rattle.std.proofs.Common.{◌≡◌, ◌≢◌, ℕ, ◌+◌, ◌<◌, ◌≤◌, List, [], ◌∷◌, ◌++◌, refl, ap, sym, ◌∙◌, arith, Bool, true, false, cond}
use Rattle.std.specs.Prelude.{Some, nat_le, length, option_map, ◌&&◌}
use Rattle.std.proofs.lemmas.Bool.Decides.{nat_tests}
use Rattle.std.proofs.lemmas.List.{append-nil, length-append}
use Rattle.std.proofs.lemmas.Bool.{ne_eqb, and_right, false_from_ne_true}
use Rattle.queue_types.specs.Event.{Decision, NewDocument}
use Rattle.queue_types.specs.Job.{state, state_in}
use Rattle.queue_core.specs.Limits.{FitsPhase}
use Rattle.queue_core.specs.World.{World, Entry, cut, with_row, add_document, with_document}
use Rattle.queue_core.specs.Machine.{Step, step, refused, document_count, new_document, is_sendable, sent, document_sent, send_in}
use Rattle.queue_core.specs.Sound.{IsSound}
use Rattle.queue_types.specs.declared.document.Document.{Document}
use Rattle.queue_types.specs.declared.document.Format.{Format}
use Rattle.queue_types.specs.declared.job.Job.{Job}
use Rattle.queue_types.specs.declared.job.Phase.{Phase}
use Rattle.queue_types.specs.declared.job.Phase.TheVariants.{Waiting}
use Rattle.queue_types.specs.declared.event.Reply.TheVariants.{Jobs}
use Rattle.queue_types.specs.declared.event.Scene.{Scene}
use Rattle.queue_laws.specs.Calls.{sends}
use Rattle.queue_laws.specs.Doing.{entry_at, HasOwn, IsOpenFor, IsSent, documents_with, sent_to}
use Rattle.queue_laws.specs.Entering.{documents_of}
use Rattle.queue_laws.specs.Steps.{not_possible}
use Rattle.queue_laws.proofs.Base.{itself}
use Rattle.queue_laws.proofs.OneDone.{by, own_step, number_at, sound_entry, with_row_at, document_at}

same_count : (format : Format) (payload : List ℕ) → document_count payload ≡ length (documents_of format payload)
same_count format [] = refl
same_count format (b ∷ bytes) = ap (λ t. cond t 0 1) (ne_eqb (length (b ∷ bytes)) 0 (λ same. omega arith))

is_most : (m n : ℕ) → m ≡ n → n ≤ 16 → nat_le m 16 ≡ true
is_most m n is h = grind (arith, nat_tests)

is_more : (m n : ℕ) → m ≡ n → 16 < n → nat_le m 16 ≡ false
is_more m n is h = grind (arith, nat_tests)

pub added : (n : ℕ) (es : List Entry) (e : Entry) (x : Job) (format : Format) (payload : List ℕ) → x.number ≡ n → entry_at n es ≡ Some e → entry_at n (with_document (with_row es x) (new_document x.number format payload)) ≡ Some (record { row = x; documents = e.documents ++ documents_of format payload })
added n es e x format [] number there = with_row_at n x es e number there ∙ ap (λ ds. Some (record { row = x; documents = ds })) (sym (append-nil e.documents))
added n es e x format (b ∷ bytes) number there =
    let d : NewDocument = record { job = x.number; format = format; bytes = b ∷ bytes } in
    document_at n d (with_row es x)
    ∙ ap (option_map (add_document d)) (with_row_at n x es e number there)
    ∙ ap (λ t. Some (cond t (record { row = x; documents = e.documents ++ record { format = format; bytes = b ∷ bytes } ∷ [] }) (record e { row = x }))) (itself x.number)

-- a job that is open for documents waits in state 4
open_state : (j : Job) (p : Phase) → FitsPhase p j → j.incoming ≡ true → state_in p j.hold j.incoming ≡ 4
open_state j Waiting fits is = ap (state_in Waiting j.hold) is ∙ elim j.hold as (λ b. state_in Waiting b true ≡ 4) [ true ↦ refl | false ↦ refl ]
open_state j _ fits is = let no = fits.1 in absurd (cc)

module _ (w : World) (now n : ℕ) (caller : List ℕ) (e : Entry) (d : Document) (last : Bool) (own : HasOwn caller n e w) where
  abbrev scene : Scene
  scene = cut w now (sends caller n d last)

  abbrev x : Job
  x = sent e.row d.bytes last

  abbrev takes_it : Decision
  takes_it = document_sent scene e.row d.format d.bytes last

  send_step : (b : Bool) → is_sendable e.row d.bytes ≡ b → step w now (sends caller n d last) ≡ by w (cond b takes_it (refused 0x0404))
  send_step b is = ap (by w) (own_step w n caller (λ j. send_in scene j d.format d.bytes last) e own) ∙ ap (λ b. by w (cond b takes_it (refused 0x0404))) is

  same_row : x ≡ (sent_to e d last).row
  same_row = ap (λ k. record x { documents = e.row.documents + k }) (same_count d.format d.bytes)

  count_after : IsSound w → e.row.documents + document_count d.bytes ≡ length (documents_with e d)
  count_after sound =
      let here = sound_entry n w.jobs e sound.entries own.there in
      ap (λ k. e.row.documents + k) (same_count d.format d.bytes)
      ∙ ap (λ k. k + length (documents_of d.format d.bytes)) here.documents
      ∙ sym (length-append e.documents (documents_of d.format d.bytes))

  pub taken_step : IsSound w → IsOpenFor e d → step w now (sends caller n d last) ≡ by w takes_it
  taken_step sound can = send_step true (ap (λ b. b && nat_le (e.row.documents + document_count d.bytes) 16) can.incoming ∙ is_most (e.row.documents + document_count d.bytes) (length (documents_with e d)) (count_after sound) can.few)

  pub is_added : IsSound w → IsOpenFor e d → IsSent n (sent_to e d last) (step w now (sends caller n d last))
  is_added sound can = record {
    job =
        ap (λ (s : Step). entry_at n s.world.jobs) (taken_step sound can)
        ∙ added n w.jobs e x d.format d.bytes (number_at n w.jobs e own.there) own.there
        ∙ ap (λ r. Some (record { row = r; documents = documents_with e d })) same_row;
    reply = ap (λ (s : Step). s.reply) (taken_step sound can) ∙ ap (λ r. Jobs (r ∷ [])) same_row;
  }

  pub closed_refused : e.row.incoming ≡ false → step w now (sends caller n d last) ≡ not_possible w
  closed_refused incoming = send_step false (ap (λ b. b && nat_le (e.row.documents + document_count d.bytes) 16) incoming)

  pub full_refused : IsSound w → 16 < length (documents_with e d) → step w now (sends caller n d last) ≡ not_possible w
  full_refused sound many = send_step false (ap (λ b. e.row.incoming && b) (is_more (e.row.documents + document_count d.bytes) (length (documents_with e d)) (count_after sound) many) ∙ and_right e.row.incoming false refl)

  pub other_state_refused : IsSound w → state e.row ≢ 4 → step w now (sends caller n d last) ≡ not_possible w
  other_state_refused sound other =
      let here = sound_entry n w.jobs e sound.entries own.there in
      closed_refused (false_from_ne_true e.row.incoming (λ is. other (open_state e.row e.row.phase here.row.phase is)))
