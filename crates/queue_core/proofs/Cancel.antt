-- Cancel-Job, Hold-Job, Release-Job and Get-Job-Attributes keep a world sound, and its jobs move along the allowed pairs.
use Rattle.std.proofs.Common.{◌≡◌, ◌≢◌, ℕ, ℤ, List, [], ◌∷◌, refl, ap, sym, subst, arith, inl, inr, Bool, true, false, cond}
use Rattle.std.specs.Prelude.{Option, Some, None, IsTrue, ◌⊎◌, ◌||◌, bytes_eq}
use Rattle.std.specs.FinMap.{get}
use Rattle.queue_types.specs.Operators.{is_operator}
use Rattle.queue_core.specs.World.{World, cut, made_on, found_row, owner_row}
use Rattle.queue_types.specs.Event.{ask, cancel_job, hold_job, release_job}
use Rattle.queue_types.specs.Job.{state_in, estimate}
use Rattle.queue_core.specs.Machine.{becomes, refused, answered, canceled_by, cause, is_cancelable, cancel_row, of_own, of_seen, hold_in, let_print, release_in, has_pages}
use Rattle.queue_core.specs.Limits.{IsMoment, FitsPhase}
use Rattle.queue_core.specs.Runs.{Follows, is_pair}
use Rattle.queue_core.specs.Sound.{IsSound}
use Rattle.queue_types.specs.declared.job.Job.{Job}
use Rattle.queue_types.specs.declared.job.Phase.TheVariants.{Waiting}
use Rattle.queue_types.specs.declared.job.Why.{Why}
use Rattle.queue_types.specs.declared.job.Why.TheVariants.{ByUser, AtDevice, ByOperator}
use Rattle.queue_types.specs.declared.event.Scene.{Scene}
use Rattle.queue_types.specs.declared.event.Reply.TheVariants.{Jobs, Done}
use Rattle.queue_core.proofs.Own.{Keeps, unchanged, becomes_keeps, own_keeps, seen_keeps}
use Rattle.queue_core.proofs.Many.{replaced, keeps_documents, stays_idle, follows}
use Rattle.queue_core.proofs.Rows.{Replaces, KeepsDocuments, same_job, still_sound}

-- ---- the jobs that come of it

abbrev pub held : Bool → Job → Job
held hold j = record j { hold = hold }

holds : (hold : Bool) (j : Job) → Replaces (held hold j) j
holds hold j = record { number = refl; owner = refl; count = refl; live = omega arith }

pub held_documents : (hold : Bool) (j : Job) → j.phase ≡ Waiting → KeepsDocuments (held hold j) j
held_documents hold j is = record {
  documents = refl;
  octets = refl;
  sound = λ s. still_sound (held hold j) j (same_job j) s s.count s.begun s.ended s.documents s.octets (subst (λ q. FitsPhase q (held hold j)) (sym is) (subst (λ q. FitsPhase q j) is s.phase));
}

-- a waiting job moves between pending and pending-held
waits_on : (hold incoming new : Bool) → (state_in Waiting new incoming ≡ state_in Waiting hold incoming) ⊎ IsTrue (is_pair (state_in Waiting hold incoming) (state_in Waiting new incoming))
waits_on true false false = inr refl
waits_on false false true = inr refl
waits_on true true true = inl refl
waits_on false true true = inl refl
waits_on _ _ _ = inl refl

held_follows : (hold : Bool) (j : Job) → j.phase ≡ Waiting → Follows (Some j) (Some (held hold j))
held_follows hold j is = subst (λ p. (state_in p hold j.incoming ≡ state_in p j.hold j.incoming) ⊎ IsTrue (is_pair (state_in p j.hold j.incoming) (state_in p hold j.incoming))) (sym is) (waits_on j.hold j.incoming hold)

-- ---- Cancel-Job

-- the device asks nobody to stop a job
pub asks_to_stop : (caller : List ℕ) (j : Job) → cause caller j ≢ AtDevice
asks_to_stop caller j = elim (bytes_eq j.owner caller) as (λ (b : Bool). cond b ByUser ByOperator ≢ AtDevice) [ true ↦ λ e. absurd (cc) | false ↦ λ e. absurd (cc) ]

pub cancel_keeps : (w : World) (now : ℕ) (caller : List ℕ) (n : ℕ) (sound : IsSound w) → IsMoment now
    → Keeps w (made_on (of_seen w.settings.operators caller (λ j. cancel_row (cut w now (ask caller (cancel_job n))) now (cause caller j) j) (cut w now (ask caller (cancel_job n))).jobs).change w)
cancel_keeps w now caller n sound moment =
    seen_keeps w now caller (cancel_job n) n sound refl (λ j. cancel_row (cut w now (ask caller (cancel_job n))) now (cause caller j) j)
    (λ j rest e.
    let why : Why = cause caller j in
    elim (is_cancelable j) as (λ b. is_cancelable j ≡ b → Keeps w (made_on (cond b (becomes (cut w now (ask caller (cancel_job n))) (canceled_by why now j)) (refused 0x0404)).change w)) [
      | true ↦ λ can. becomes_keeps w now caller (cancel_job n) n sound refl j (canceled_by why now j) rest j.owner e (ap (owner_row w.free) e) refl (replaced why now j j.phase refl can)
          (keeps_documents why now j j.phase (asks_to_stop caller j) moment refl can) (λ none h. stays_idle why now j j.phase can h) (follows why now j j.phase refl can)
      | false ↦ λ can. unchanged w sound
    ] refl)

-- ---- Hold-Job

pub hold_keeps : (w : World) (now : ℕ) (caller : List ℕ) (n : ℕ) (sound : IsSound w) → Keeps w (made_on (of_own caller (λ j. hold_in j.phase (cut w now (ask caller (hold_job n))) j) (cut w now (ask caller (hold_job n))).jobs).change w)
hold_keeps w now caller n sound =
    own_keeps w now caller (hold_job n) n sound refl (λ j. hold_in j.phase (cut w now (ask caller (hold_job n))) j)
    (λ j rest e own.
    elim j.phase as (λ p. j.phase ≡ p → Keeps w (made_on (hold_in p (cut w now (ask caller (hold_job n))) j).change w)) [
      | Waiting ↦ λ is. becomes_keeps w now caller (hold_job n) n sound refl j (held true j) rest caller e refl own (holds true j) (held_documents true j is) (λ none h. (h.0, h.1, refl)) (held_follows true j is)
      | _ ↦ λ is. unchanged w sound
    ] refl)

-- ---- Release-Job

-- who has pages has an account
has_account : (caller : List ℕ) (o : Option ℤ) (pages : ℕ) → has_pages (found_row caller o) pages ≡ true → o ≡ None → ⊥
has_account caller None pages has none = absurd (cc)
has_account caller (Some f) pages has none = absurd (cc)

module _ (w : World) (now : ℕ) (caller : List ℕ) (n : ℕ) (sound : IsSound w) where
  abbrev release_scene : Scene
  release_scene = cut w now (ask caller (release_job n))

  let_print_keeps : (j : Job) (rest : List Job) → release_scene.jobs ≡ j ∷ rest → j.owner ≡ caller → j.phase ≡ Waiting → Keeps w (made_on (let_print release_scene j).change w)
  let_print_keeps j rest e own is =
      elim (has_pages release_scene.free (estimate j)) as (λ b. has_pages release_scene.free (estimate j) ≡ b → Keeps w (made_on (cond b (becomes release_scene (held false j)) (refused 0x0404)).change w)) [
        | true ↦ λ has. becomes_keeps w now caller (release_job n) n sound refl j (held false j) rest caller e refl own (holds false j) (held_documents false j is)
            (λ none h. absurd (has_account caller (get w.free caller) (estimate j) has (subst (λ a. get w.free a ≡ None) own none))) (held_follows false j is)
        | false ↦ λ has. unchanged w sound
      ] refl

  pub release_keeps : Keeps w (made_on (of_own caller (λ j. release_in j.phase release_scene j) release_scene.jobs).change w)
  release_keeps =
      own_keeps w now caller (release_job n) n sound refl (λ j. release_in j.phase release_scene j)
      (λ j rest e own.
      elim j.phase as (λ p. j.phase ≡ p → Keeps w (made_on (release_in p release_scene j).change w)) [
        | Waiting ↦ λ is. elim j.hold as (λ b. Keeps w (made_on (cond b (let_print release_scene j) (answered Done)).change w)) [ true ↦ let_print_keeps j rest e own is | false ↦ unchanged w sound ]
        | _ ↦ λ is. unchanged w sound
      ] refl)

-- ---- Get-Job-Attributes

pub show_keeps : (w : World) (operators : List (List ℕ)) (caller : List ℕ) (js : List Job) → IsSound w → Keeps w (made_on (of_seen operators caller (λ j. answered (Jobs (j ∷ []))) js).change w)
show_keeps w operators caller [] sound = unchanged w sound
show_keeps w operators caller (j ∷ js) sound =
    elim (bytes_eq j.owner caller || is_operator operators caller) as (λ (b : Bool). Keeps w (made_on (cond b (answered (Jobs (j ∷ []))) (refused 0x0406)).change w)) [ true ↦ unchanged w sound | false ↦ unchanged w sound ]
