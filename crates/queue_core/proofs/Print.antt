-- Print-Job and Create-Job keep a world sound: a row enters under the next number, and has taken nothing.
use Rattle.std.proofs.Common.{◌≡◌, ℕ, ◌+◌, ◌≤◌, ◌<◌, ◌^◌, List, [], ◌∷◌, ◌++◌, length, map, refl, ap, sym, ◌∙◌, arith, subst, inr, Bool, true, false, cond}
use Rattle.std.specs.Prelude.{Option, Some, None, IfSome, nat_eq, nat_le, nat_lt, unwrap_or}
use Rattle.std.proofs.lemmas.Bool.{eqb-true}
use Rattle.std.proofs.lemmas.Bool.Decides.{nat_tests}
use Rattle.queue_types.specs.Settings.{AreSettings}
use Rattle.queue_types.specs.Event.{NewJob, NewDocument, ask, print_job, create_job}
use Rattle.queue_core.specs.World.{World, Entry, rows, cut, new_scene, made_on, with_row, with_document, add_document, live_jobs}
use Rattle.queue_core.specs.Machine.{entered, new_job, new_document, new_refusal, unless_refused, print_job_row, create_job_row}
use Rattle.queue_core.specs.Limits.{IsMoment, IsOwner, IsNewJob, IsSoundJob}
use Rattle.queue_core.specs.Sound.{IsSound, IsSoundEntry, Rise}
use Rattle.queue_types.specs.declared.document.Document.{Document}
use Rattle.queue_types.specs.declared.document.Format.{Format}
use Rattle.queue_types.specs.declared.document.Format.TheVariants.{OctetStream}
use Rattle.queue_types.specs.declared.job.Job.{Job}
use Rattle.queue_types.specs.declared.event.Scene.{Scene}
use Rattle.queue_core.proofs.Enter.{fresh, first_below, with_row_new, with_document_new, with_new, new_row_keeps}
use Rattle.queue_core.proofs.Moves.{new_moves}
use Rattle.queue_core.proofs.Own.{Keeps, unchanged, itself}
use Rattle.queue_core.proofs.Send.{one_fits, one_document}

-- ---- the new job is within its limits

stands_in : (o : Option ℕ) (n : ℕ) → IfSome o (λ k. k ≤ 100000) → n ≤ 100000 → unwrap_or o n ≤ 100000
stands_in None n h k = k
stands_in (Some m) n h k = h

few : (none : Bool) → cond none 0 1 ≤ 16
few true = omega arith
few false = omega arith

pub new_job_sound : (s : Scene) (now : ℕ) (caller : List ℕ) (incoming : Bool) (j : NewJob) (payload : List ℕ) → AreSettings s.settings → 1 ≤ s.next → s.next < 2 ^ 31 → IsMoment now → IsOwner caller → IsNewJob j → length payload ≤ 16777216 → IsSoundJob (new_job s now caller incoming j payload)
new_job_sound s now caller incoming j payload settings some room moment owner new fits = record {
  number = (some, room);
  owner = owner;
  name = new.name;
  copies = new.copies;
  impressions = stands_in j.impressions s.settings.estimate new.impressions settings.estimate_fits;
  count = omega arith;
  created = moment;
  begun = tt;
  ended = tt;
  documents = few (nat_eq (length payload) 0);
  octets = one_fits (nat_eq (length payload) 0) (length payload) fits (eqb-true (length payload) 0);
  phase = (refl, refl, refl, refl);
}

abbrev pub refused_by : Bool → Bool → Option ℕ
refused_by full past = cond full (Some 0x0404) (cond past (Some 0x0506) None)

neither : (full past : Bool) → refused_by full past ≡ None → (full ≡ false) × (past ≡ false)
neither true past is = absurd (cc)
neither false true is = absurd (cc)
neither false false is = (refl, refl)

-- a scene that does not refuse has room for a live job and a number
pub not_refused : (s : Scene) → new_refusal s ≡ None → (s.live < 100) × (s.next < 2 ^ 31)
not_refused s is =
    let free = (neither (nat_le 100 s.live) (nat_lt 2147483647 s.next) is).0 in
    let left = (neither (nat_le 100 s.live) (nat_lt 2147483647 s.next) is).1 in
    (grind (arith, nat_tests), grind (arith, nat_tests))

-- ---- its document

abbrev documents : Format → List ℕ → List Document
documents format [] = []
documents format (b ∷ bytes) = record { format = format; bytes = b ∷ bytes } ∷ []

-- the row and its document stand at the end
jobs_after : (x : Job) (format : Format) (payload : List ℕ) (es : List Entry) → Rise 1 es x.number → with_document (with_row es x) (new_document x.number format payload) ≡ es ++ record { row = x; documents = documents format payload } ∷ []
jobs_after x format [] es rise = with_row_new x 1 es rise
jobs_after x format (b ∷ bytes) es rise =
    let d : NewDocument = record { job = x.number; format = format; bytes = b ∷ bytes } in
    let added : add_document d (fresh x) ≡ record { row = x; documents = documents format (b ∷ bytes) } = ap (λ t. cond t (record { row = x; documents = documents format (b ∷ bytes) }) (fresh x)) (itself x.number) in
    ap (map (add_document d)) (with_row_new x 1 es rise)
    ∙ with_document_new x d 1 es refl rise
    ∙ ap (λ e. es ++ e ∷ []) added

entry_sound : (s : Scene) (now : ℕ) (caller : List ℕ) (incoming : Bool) (j : NewJob) (format : Format) (payload : List ℕ) → length payload ≤ 16777216 → IsSoundJob (new_job s now caller incoming j payload) → IsSoundEntry (record { row = new_job s now caller incoming j payload; documents = documents format payload })
entry_sound s now caller incoming j format [] fits sound = record { row = sound; documents = refl; octets = refl; sizes = tt }
entry_sound s now caller incoming j format (b ∷ bytes) fits sound = record { row = sound; documents = one_document b bytes; octets = omega arith; sizes = ((omega arith, fits), tt) }

-- ---- the event

-- Print-Job and Create-Job share their scene
module _ (w : World) (now : ℕ) (caller : List ℕ) (incoming : Bool) (j : NewJob) (format : Format) (payload : List ℕ) (sound : IsSound w) (moment : IsMoment now) (owner : IsOwner caller) (new : IsNewJob j) (fits : length payload ≤ 16777216) where
  abbrev scene : Scene
  scene = new_scene w caller

  abbrev x : Job
  x = new_job scene now caller incoming j payload

  abbrev n : Entry
  n = record { row = x; documents = documents format payload }

  entered_keeps : live_jobs caller (rows w) < 100 → w.next < 2 ^ 31 → Keeps w (made_on (entered scene x (new_document w.next format payload)).change w)
  entered_keeps live room =
      let job : IsSoundJob x = new_job_sound scene now caller incoming j payload sound.settings (first_below 1 w.next w.jobs sound.numbers) room moment owner new fits in
      let kept : Keeps w (with_new w n) = record {
        sound = new_row_keeps w n sound refl room (entry_sound scene now caller incoming j format payload fits job) refl refl (refl, refl, refl) live;
        moves = λ k. new_moves k n w.jobs (inr refl);
      } in
      subst (λ es. Keeps w (record w { jobs = es; next = w.next + 1 })) (sym (jobs_after x format payload w.jobs sound.numbers)) kept

  new_keeps : Keeps w (made_on (unless_refused (new_refusal scene) (entered scene x (new_document w.next format payload))).change w)
  new_keeps =
      elim (new_refusal scene) as (λ o. new_refusal scene ≡ o → Keeps w (made_on (unless_refused o (entered scene x (new_document w.next format payload))).change w)) [
        | None ↦ λ is. entered_keeps (not_refused scene is).0 (not_refused scene is).1
        | Some code ↦ λ is. unchanged w sound
      ] refl

pub print_keeps : (w : World) (now : ℕ) (caller : List ℕ) (j : NewJob) (format : Format) (payload : List ℕ) → IsSound w → IsMoment now → IsOwner caller → IsNewJob j → length payload ≤ 16777216 → Keeps w (made_on (print_job_row (cut w now (ask caller (print_job j format payload))) now caller j format payload).change w)
print_keeps w now caller j format payload sound moment owner new fits = new_keeps w now caller false j format payload sound moment owner new fits

-- without a document its format does not matter
pub create_keeps : (w : World) (now : ℕ) (caller : List ℕ) (j : NewJob) → IsSound w → IsMoment now → IsOwner caller → IsNewJob j → Keeps w (made_on (create_job_row (cut w now (ask caller (create_job j))) now caller j).change w)
create_keeps w now caller j sound moment owner new = new_keeps w now caller true j OctetStream [] sound moment owner new (omega arith)
