-- Send-Document keeps a world sound, and its jobs move along the allowed pairs.
use Rattle.std.proofs.Common.{◌≡◌, ℕ, pos, ◌+ℤ◌, ◌-ℤ◌, suc, ◌+◌, ◌*◌, ◌≤◌, ◌<◌, List, [], ◌∷◌, ◌++◌, length, map, refl, ap, sym, ◌∙◌, arith, subst, inl, inr, Bool, true, false, cond}
use Rattle.std.specs.Prelude.{Some, IsTrue, ◌⊎◌, nat_eq, nat_le, not, sum_by, ◌&&◌, bytes_eq, option_map}
use Rattle.std.specs.FinMap.{get}
use Rattle.std.proofs.lemmas.Int.{ints}
use Rattle.std.specs.List.{AllByRecursion as Each}
use Rattle.std.proofs.lemmas.Bool.{eqb-true}
use Rattle.std.proofs.lemmas.Bool.Decides.{nat_tests}
use Rattle.std.proofs.lemmas.List.{length_push}
use Rattle.std.proofs.lemmas.List.Sums.{sum_by_push}
use Rattle.queue_core.specs.World.{World, Entry, cut, made_on, with_row, with_document, add_document}
use Rattle.queue_types.specs.Event.{NewDocument, ask, send_document}
use Rattle.queue_types.specs.Job.{state_in}
use Rattle.queue_core.specs.Machine.{refused, document_count, new_document, is_sendable, sent, document_sent, send_in, of_own, taken}
use Rattle.queue_core.specs.Limits.{IsSoundJob, FitsPhase}
use Rattle.queue_core.specs.Runs.{Follows, is_pair}
use Rattle.queue_core.specs.Sound.{IsSound, IsSoundEntry, IsSoundDocument, Rise}
use Rattle.queue_types.specs.declared.document.Document.{Document}
use Rattle.queue_types.specs.declared.document.Format.{Format}
use Rattle.queue_types.specs.declared.job.Job.{Job}
use Rattle.queue_types.specs.declared.job.Phase.{Phase}
use Rattle.queue_types.specs.declared.job.Phase.TheVariants.{Waiting}
use Rattle.queue_types.specs.declared.event.Scene.{Scene}
use Rattle.queue_core.proofs.Keep.{at, ne_from_gt}
use Rattle.queue_core.proofs.Fair.{first_sound}
use Rattle.queue_core.proofs.Ordered.{each-append}
use Rattle.queue_core.proofs.Own.{Keeps, unchanged, changed_keeps, own_keeps, found_at, itself}
use Rattle.queue_core.proofs.Rows.{Replaces, same_job, still_sound, row_entries, rows_of, back, kept_amount}

-- ---- the job within its limits

-- a document more, of at most 16,777,216 bytes, or nothing more
pub octets_fit : (none : Bool) (o d len : ℕ) → o ≤ d * 16777216 → len ≤ 16777216 → (none ≡ true → len ≡ 0) → o + len ≤ (d + cond none 0 1) * 16777216
octets_fit true o d len old new nothing = let zero = nothing refl in omega arith
octets_fit false o d len old new nothing = omega arith

pub one_fits : (none : Bool) (len : ℕ) → len ≤ 16777216 → (none ≡ true → len ≡ 0) → len ≤ cond none 0 1 * 16777216
one_fits true len new nothing = let zero = nothing refl in omega arith
one_fits false len new nothing = omega arith

open_job : (j : Job) (p : Phase) (payload : List ℕ) (last : Bool) → j.incoming ≡ true → FitsPhase p j → FitsPhase p (sent j payload last)
open_job j Waiting payload last is fits = fits
open_job j _ payload last is fits = let no = fits.1 in absurd (cc)

both : (a : Bool) (n : ℕ) → (a && nat_le n 16) ≡ true → (a ≡ true) × (n ≤ 16)
both true n e = (refl, grind (arith, nat_tests))
both false n e = absurd (cc)

pub sent_sound : (j : Job) (payload : List ℕ) (last : Bool) → IsSoundJob j → is_sendable j payload ≡ true → length payload ≤ 16777216 → IsSoundJob (sent j payload last)
sent_sound j payload last s sendable fits =
    let able = both j.incoming (j.documents + document_count payload) sendable in
    let octets = octets_fit (nat_eq (length payload) 0) j.octets j.documents (length payload) s.octets fits (eqb-true (length payload) 0) in
    still_sound (sent j payload last) j (same_job j) s s.count s.begun s.ended able.1 octets (open_job j j.phase payload last able.0 s.phase)

-- ---- its documents

rows-add : (d : NewDocument) (es : List Entry) → rows_of (map (add_document d) es) ≡ rows_of es
rows-add d [] = refl
rows-add d (e ∷ es) =
    let here : (add_document d e).row ≡ e.row = elim (nat_eq e.row.number d.job) as (λ b. (cond b (record e { documents = e.documents ++ record { format = d.format; bytes = d.bytes } ∷ [] }) e).row ≡ e.row) [ true ↦ refl | false ↦ refl ] in
    let rest : rows_of (map (add_document d) es) ≡ rows_of es = rows-add d es in
    cc

rows-document : (n : ℕ) (format : Format) (payload : List ℕ) (es : List Entry) → rows_of (with_document es (new_document n format payload)) ≡ rows_of es
rows-document n format [] es = refl
rows-document n format (b ∷ bytes) es = rows-add (record { job = n; format = format; bytes = b ∷ bytes }) es

-- entries of greater numbers get none
none_added : (d : NewDocument) (first next : ℕ) (es : List Entry) → d.job < first → Rise first es next → map (add_document d) es ≡ es
none_added d first next [] low rise = refl
none_added d first next (e ∷ es) low rise =
    let least = rise.0 in
    let here : add_document d e ≡ e = ap (λ t. cond t (record e { documents = e.documents ++ record { format = d.format; bytes = d.bytes } ∷ [] }) e) (ne_from_gt e.row.number d.job (omega arith)) in
    let rest : map (add_document d) es ≡ es = none_added d (e.row.number + 1) next es (omega arith) rise.1 in
    cc

abbrev plain : NewDocument → Document
plain d = record { format = d.format; bytes = d.bytes }

-- the job of number x gets the document, and the others stay
added : (x j : Job) (d : NewDocument) (first next : ℕ) (es : List Entry) → d.job ≡ x.number → at x.number es ≡ Some j → Rise first es next
    → ((e : Entry) → e.row ≡ j → IsSoundEntry e → IsSoundEntry (record { row = x; documents = e.documents ++ plain d ∷ [] }))
    → Each IsSoundEntry es → Each IsSoundEntry (map (add_document d) (with_row es x))
added x j d first next [] same there rise grows each = absurd (cc)
added x j d first next (e ∷ es) same there rise grows each =
    elim (nat_eq e.row.number x.number) as (λ t. nat_eq e.row.number x.number ≡ t → cond t (Some e.row) (at x.number es) ≡ Some j → Each IsSoundEntry (map (add_document d) (cond t (record e { row = x } ∷ es) (e ∷ with_row es x)))) [
      | true ↦ λ is there.
          let n : e.row.number ≡ x.number = eqb-true e.row.number x.number is in
          let row : e.row ≡ j = cc in
          let here : add_document d (record e { row = x }) ≡ record { row = x; documents = e.documents ++ plain d ∷ [] } = ap (λ t. cond t (record { row = x; documents = e.documents ++ plain d ∷ [] }) (record e { row = x })) (ap (nat_eq x.number) same ∙ itself x.number) in
          let rest : map (add_document d) es ≡ es = none_added d (e.row.number + 1) next es (omega arith) rise.1 in
          (subst IsSoundEntry (sym here) (grows e row each.0), subst (Each IsSoundEntry) (sym rest) each.1)
      | false ↦ λ is there.
          let here : add_document d e ≡ e = ap (λ t. cond t (record e { documents = e.documents ++ plain d ∷ [] }) e) (ap (nat_eq e.row.number) same ∙ is) in
          (subst IsSoundEntry (sym here) each.0, added x j d (e.row.number + 1) next es same there rise.1 grows each.1)
    ] refl there

not_empty : (n : ℕ) → nat_eq (suc n) 0 ≡ false
not_empty n = grind (arith, nat_tests)

pub one_document : (b : ℕ) (bytes : List ℕ) → document_count (b ∷ bytes) ≡ 1
one_document b bytes = ap (λ t. cond t 0 1) (not_empty (length bytes))

-- the entries once the job has the payload
sent_entries : (w : World) (j : Job) (format : Format) (payload : List ℕ) (last : Bool) → IsSound w → is_sendable j payload ≡ true → length payload ≤ 16777216 → at j.number w.jobs ≡ Some j → Each IsSoundEntry (with_document (with_row w.jobs (sent j payload last)) (new_document j.number format payload))
sent_entries w j format [] last sound sendable fits there =
    row_entries w.jobs (sent j [] last) j there (record { documents = omega arith; octets = omega arith; sound = λ s. sent_sound j [] last s sendable fits }) sound.entries
sent_entries w j format (b ∷ bytes) last sound sendable fits there =
    let d : NewDocument = record { job = j.number; format = format; bytes = b ∷ bytes } in
    added (sent j (b ∷ bytes) last) j d 1 w.next w.jobs refl there sound.numbers
    (λ e r s.
    let documents : j.documents ≡ length e.documents = ap (λ (k : Job). k.documents) (sym r) ∙ s.documents in
    let octets : j.octets ≡ sum_by (λ d. length d.bytes) e.documents = ap (λ (k : Job). k.octets) (sym r) ∙ s.octets in
    record {
      row = sent_sound j (b ∷ bytes) last (subst IsSoundJob r s.row) sendable fits;
      documents = omega (arith, length_push e.documents (plain d), documents, one_document b bytes);
      octets = omega (arith, sum_by_push (λ (d : Document). length d.bytes) e.documents (plain d), octets);
      sizes = each-append IsSoundDocument e.documents (plain d ∷ []) s.sizes ((omega arith, fits), tt);
    })
    sound.entries

-- ---- the event

-- an open job goes on waiting
sends_on : (hold new : Bool) → (state_in Waiting hold new ≡ state_in Waiting hold true) ⊎ IsTrue (is_pair (state_in Waiting hold true) (state_in Waiting hold new))
sends_on true new = inl refl
sends_on false true = inl refl
sends_on false false = inr refl

-- a job that takes as many pages as before gives none back
nothing_back : (b : Bool) (pages : ℕ) → cond b (pos pages -ℤ pos pages) (pos 0) ≡ pos 0
nothing_back true pages = omega (arith, ints)
nothing_back false pages = refl

waits_in : (j : Job) (p : Phase) → j.incoming ≡ true → FitsPhase p j → p ≡ Waiting
waits_in j Waiting is fits = refl
waits_in j _ is fits = let no = fits.1 in absurd (cc)

module _ (w : World) (now : ℕ) (caller : List ℕ) (n : ℕ) (format : Format) (payload : List ℕ) (last : Bool) (sound : IsSound w) (fits : length payload ≤ 16777216) where
  abbrev scene : Scene
  scene = cut w now (ask caller (send_document n format payload last))

  replaced : (j : Job) → Replaces (sent j payload last) j
  replaced j = record { number = refl; owner = refl; count = refl; live = omega arith }

  -- no account is looked up, and by the balance none moves: a document takes no pages
  free_stays : (j : Job) (q : List ℕ) → get w.free q ≡ option_map (λ f. f +ℤ back (sent j payload last) j q) (get w.free q)
  free_stays j q = kept_amount (get w.free q) ∙ ap (λ z. option_map (λ f. f +ℤ z) (get w.free q)) (sym (nothing_back (bytes_eq j.owner q) (taken j)))

  follows : (j : Job) → IsSoundJob j → j.incoming ≡ true → Follows (Some j) (Some (sent j payload last))
  follows j s is =
      subst (λ p. (state_in p j.hold (not last) ≡ state_in p j.hold j.incoming) ⊎ IsTrue (is_pair (state_in p j.hold j.incoming) (state_in p j.hold (not last)))) (sym (waits_in j j.phase is s.phase))
      (subst (λ i. (state_in Waiting j.hold (not last) ≡ state_in Waiting j.hold i) ⊎ IsTrue (is_pair (state_in Waiting j.hold i) (state_in Waiting j.hold (not last)))) (sym is) (sends_on j.hold (not last)))

  row : (j : Job) (rest : List Job) → scene.jobs ≡ j ∷ rest → j.owner ≡ caller → Keeps w (made_on (send_in scene j format payload last).change w)
  row j rest e own =
      elim (is_sendable j payload) as (λ b. is_sendable j payload ≡ b → Keeps w (made_on (cond b (document_sent scene j format payload last) (refused 0x0404)).change w)) [
        | true ↦ λ is.
            let s = first_sound w now (ask caller (send_document n format payload last)) sound j rest e in
            let there = found_at w now caller (send_document n format payload last) n sound refl j (sent j payload last) rest e (replaced j) in
            changed_keeps w now caller (send_document n format payload last) n sound refl j (sent j payload last) rest (new_document j.number format payload) e (replaced j) (free_stays j)
            (rows-document j.number format payload (with_row w.jobs (sent j payload last))) (sent_entries w j format payload last sound is fits there) (λ none h. h)
            (follows j s (both j.incoming (j.documents + document_count payload) is).0)
        | false ↦ λ is. unchanged w sound
      ] refl

  pub send_keeps : Keeps w (made_on (of_own caller (λ j. send_in scene j format payload last) scene.jobs).change w)
  send_keeps = own_keeps w now caller (send_document n format payload last) n sound refl (λ j. send_in scene j format payload last) row
