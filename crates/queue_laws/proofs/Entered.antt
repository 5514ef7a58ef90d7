-- A new row stands at the end.
use Rattle.std.proofs.Common.{◌≡◌, ℕ, List, [], ◌∷◌, ◌++◌, map, refl, ap, ◌∙◌, Bool, true, false, cond}
use Rattle.std.specs.Prelude.{Option, Some, None}
use Rattle.queue_types.specs.Event.{Decision, NewJob, NewDocument, ask, print_job, create_job, validate_job}
use Rattle.queue_core.specs.World.{World, Entry, cut, new_scene, made_on, with_row, add_document, with_document}
use Rattle.queue_core.specs.Machine.{Step, step, answered, new_job, new_document, entered, new_refusal, unless_refused}
use Rattle.queue_core.specs.Sound.{IsSound, Rise}
use Rattle.queue_types.specs.declared.document.Format.{Format}
use Rattle.queue_types.specs.declared.document.Format.TheVariants.{OctetStream}
use Rattle.queue_types.specs.declared.event.Reply.TheVariants.{Jobs, Done}
use Rattle.queue_types.specs.declared.event.Scene.{Scene}
use Rattle.queue_types.specs.declared.job.Job.{Job}
use Rattle.queue_core.proofs.Enter.{with_row_new, with_document_new}
use Rattle.queue_laws.specs.Entering.{Enters, documents_of}
use Rattle.queue_laws.specs.Replies.{refuses}
use Rattle.queue_laws.proofs.Base.{fresh, itself}

jobs_after : (x : Job) (format : Format) (payload : List ℕ) (es : List Entry) → Rise 1 es x.number → with_document (with_row es x) (new_document x.number format payload) ≡ es ++ record { row = x; documents = documents_of format payload } ∷ []
jobs_after x format [] es rise = with_row_new x 1 es rise
jobs_after x format (b ∷ bytes) es rise =
    let d : NewDocument = record { job = x.number; format = format; bytes = b ∷ bytes } in
    let added : add_document d (fresh x) ≡ record { row = x; documents = documents_of format (b ∷ bytes) } = ap (λ t. cond t (record { row = x; documents = documents_of format (b ∷ bytes) }) (fresh x)) (itself x.number) in
    ap (map (add_document d)) (with_row_new x 1 es rise)
    ∙ with_document_new x d 1 es refl rise
    ∙ ap (λ e. es ++ e ∷ []) added

abbrev by : World → Decision → Step
by w d = record { world = made_on d.change w; reply = d.reply }

module _ (w : World) (now : ℕ) (caller : List ℕ) (incoming : Bool) (new : NewJob) (format : Format) (payload : List ℕ) (sound : IsSound w) where
  abbrev scene : Scene
  scene = new_scene w caller

  abbrev x : Job
  x = new_job scene now caller incoming new payload

  abbrev enters : Decision
  enters = entered scene x (new_document scene.next format payload)

  entered_here : Enters w now caller new incoming (documents_of format payload) (by w enters)
  entered_here = record {
    entry = record { row = x; documents = documents_of format payload };
    last = jobs_after x format payload w.jobs sound.numbers;
    number = refl;
    next = refl;
    owner = refl;
    held = refl;
    state = refl;
    incoming = refl;
    documents = refl;
    name = refl;
    copies = refl;
    impressions = refl;
    created = refl;
    count = refl;
    accounts = λ a. refl;
    reply = refl;
  }

  pub enters_unless : refuses (unless_refused (new_refusal scene) enters).reply ≡ false → Enters w now caller new incoming (documents_of format payload) (by w (unless_refused (new_refusal scene) enters))
  enters_unless = elim (new_refusal scene) as (λ o. refuses (unless_refused o enters).reply ≡ false → Enters w now caller new incoming (documents_of format payload) (by w (unless_refused o enters))) [
    | None ↦ λ taken. entered_here
    | Some code ↦ λ taken. absurd (cc)
  ]

pub printed : (w : World) (now : ℕ) (caller : List ℕ) (new : NewJob) (format : Format) (payload : List ℕ) → IsSound w → refuses (step w now (ask caller (print_job new format payload))).reply ≡ false → Enters w now caller new false (documents_of format payload) (step w now (ask caller (print_job new format payload)))
printed w now caller new format payload sound = enters_unless w now caller false new format payload sound

pub created : (w : World) (now : ℕ) (caller : List ℕ) (new : NewJob) → IsSound w → refuses (step w now (ask caller (create_job new))).reply ≡ false → Enters w now caller new true [] (step w now (ask caller (create_job new)))
created w now caller new sound = enters_unless w now caller true new OctetStream [] sound

-- ---- Validate-Job

alike : (o : Option ℕ) (d : Decision) (js : List Job) → d.reply ≡ Jobs js → refuses (unless_refused o d).reply ≡ true → (unless_refused o (answered Done)).reply ≡ (unless_refused o d).reply
alike None d js is e = let no : refuses d.reply ≡ false = ap refuses is in absurd (cc)
alike (Some code) d js is e = refl

taken : (o : Option ℕ) (d : Decision) → refuses (unless_refused o d).reply ≡ false → (unless_refused o (answered Done)).reply ≡ Done
taken None d e = refl
taken (Some code) d e = absurd (cc)

pub refused_alike : (w : World) (now : ℕ) (caller : List ℕ) (new : NewJob) (format : Format) (payload : List ℕ) → refuses (step w now (ask caller (print_job new format payload))).reply ≡ true → (step w now (ask caller (validate_job new))).reply ≡ (step w now (ask caller (print_job new format payload))).reply
refused_alike w now caller new format payload =
    let s : Scene = cut w now (ask caller (print_job new format payload)) in
    let x : Job = new_job s now caller false new payload in
    alike (new_refusal s) (entered s x (new_document s.next format payload)) (x ∷ []) refl

pub taken_alike : (w : World) (now : ℕ) (caller : List ℕ) (new : NewJob) (format : Format) (payload : List ℕ) → refuses (step w now (ask caller (print_job new format payload))).reply ≡ false → (step w now (ask caller (validate_job new))).reply ≡ Done
taken_alike w now caller new format payload =
    let s : Scene = cut w now (ask caller (print_job new format payload)) in
    taken (new_refusal s) (entered s (new_job s now caller false new payload) (new_document s.next format payload))
