-- What an operation on one job takes of its owner's free pages, and gives back.
use Rattle.std.proofs.Common.{◌≡◌, ℕ, ℤ, pos, ◌+ℤ◌, ◌-ℤ◌, ◌+◌, ◌-◌, List, [], ◌∷◌, map, refl, ap, ◌∙◌, arith, Bool, true, false, cond}
use Rattle.std.specs.Prelude.{Some, None, bytes_eq, fold, option_map, ◌≤ℤ◌}
use Rattle.std.specs.FinMap.{get}
use Rattle.std.proofs.lemmas.Int.{ints}
use Rattle.queue_types.specs.Event.{Call, ask, hold_job, release_job, cancel_job}
use Rattle.queue_types.specs.Job.{is_live_in, is_live, estimate, owed}
use Rattle.queue_core.specs.World.{World, Entry, rows, cut, made_on, numbered, found_row, owner_row, put_free}
use Rattle.queue_core.specs.Machine.{Step, step, becomes, credited, returned, taken}
use Rattle.queue_core.specs.Limits.{FitsPhase}
use Rattle.queue_core.specs.Sound.{IsSound}
use Rattle.queue_core.proofs.Own.{gives_back, moved_from}
use Rattle.queue_types.specs.declared.document.Document.{Document}
use Rattle.queue_types.specs.declared.job.Job.{Job}
use Rattle.queue_types.specs.declared.job.Phase.{Phase}
use Rattle.queue_types.specs.declared.job.Phase.TheVariants.{Waiting, Canceled}
use Rattle.queue_types.specs.declared.job.Why.{Why}
use Rattle.queue_types.specs.declared.job.Why.TheVariants.{ByUser, ByOperator}
use Rattle.queue_types.specs.declared.event.Scene.{Scene}
use Rattle.queue_laws.specs.Calls.{sends}
use Rattle.queue_laws.specs.Doing.{HasOwn, HasHeld, IsOpenFor, entry_at}
use Rattle.queue_laws.specs.Jobs.{Waits, IsAtDevice}
use Rattle.queue_laws.specs.Operating.{HasOthers}
use Rattle.queue_laws.specs.Steps.{MovesFree}
use Rattle.queue_laws.proofs.Base.{own_key, same_key, named}
use Rattle.queue_laws.proofs.OneDone.{row_at, sound_entry, is_waiting}
use Rattle.queue_laws.proofs.OnHold.{waiting_step as hold_step}
use Rattle.queue_laws.proofs.OnRelease.{enough_step}
use Rattle.queue_laws.proofs.OnCancel.{MayCancel, own_may, others_may, waiting_step as cancel_step, begun_step}
use Rattle.queue_laws.proofs.OnSend.{taken_step}

-- ---- amounts

pub nothing_owed : (b : Bool) → cond {A = ℕ} b 0 0 ≡ 0
nothing_owed true = refl
nothing_owed false = refl

all_back : (owing count : ℕ) (f : ℤ) → f +ℤ (pos (owing + count) -ℤ pos (0 + count)) ≡ f +ℤ pos owing
all_back owing count f = omega (arith, ints)

none_back : (n : ℕ) (f : ℤ) → f +ℤ (pos n -ℤ pos n) ≡ f
none_back n f = omega (arith, ints)

pays : (p : Phase) (hold : Bool) (count pages : ℕ) (f : ℤ) → p ≡ Waiting → hold ≡ true → count ≡ 0 → f +ℤ (pos (cond (is_live_in p) (cond hold 0 (pages - count)) 0 + count) -ℤ pos (cond (is_live_in p) (pages - count) 0 + count)) ≡ f -ℤ pos pages
pays Waiting true count pages f is held none = omega (arith, ints)
pays Waiting false count pages f is held none = absurd (cc)
pays _ hold count pages f is held none = absurd (cc)

none_printed : (j : Job) (p : Phase) → p ≡ Waiting → FitsPhase p j → j.count ≡ 0
none_printed j Waiting is fits = fits.0
none_printed j _ is fits = absurd (cc)

module _ (w : World) (now n : ℕ) (caller : List ℕ) (e : Entry) (free : ℤ) where
  free_after : (account : List ℕ) → entry_at n w.jobs ≡ Some e → bytes_eq e.row.owner account ≡ true → get w.free account ≡ Some free → (call : Call) → (cut w now (ask caller call)).jobs ≡ numbered n (rows w)
      → (cut w now (ask caller call)).free ≡ found_row account (get w.free account) → (x : Job) → x.number ≡ e.row.number → x.owner ≡ e.row.owner
      → get (made_on (becomes (cut w now (ask caller call)) x).change w).free account ≡ Some (free +ℤ (pos (taken e.row) -ℤ pos (taken x)))
  free_after account there own has call jobs looked_up x number owner =
      let s : Scene = cut w now (ask caller call) in
      let at = named n (rows w) e.row (row_at n w.jobs e there) in
      ap (λ rows. get (fold put_free w.free (map (credited s.jobs (x ∷ [])) rows)) account) looked_up
      ∙ moved_from w.free account account s.jobs (x ∷ []) (get w.free account) refl
      ∙ ap (λ t. cond t (option_map (λ f. f +ℤ returned s.jobs account (x ∷ [])) (get w.free account)) (get w.free account)) (own_key account account refl)
      ∙ ap (option_map (λ f. f +ℤ returned s.jobs account (x ∷ []))) has
      ∙ ap (λ z. Some (free +ℤ z)) (ap (λ js. returned js account (x ∷ [])) (jobs ∙ at.is) ∙ gives_back e.row x at.rest account number ∙ ap (λ b. cond b (pos (taken e.row) -ℤ pos (taken x)) (pos 0)) (ap (λ a. bytes_eq a account) owner ∙ own))

  -- Cancel-Job looks up the account of the job's owner
  looks_up : (account : List ℕ) → entry_at n w.jobs ≡ Some e → bytes_eq e.row.owner account ≡ true → (cut w now (ask caller (cancel_job n))).free ≡ found_row account (get w.free account)
  looks_up account there own =
      let at = named n (rows w) e.row (row_at n w.jobs e there) in
      ap (owner_row w.free) at.is ∙ ap (λ a. found_row a (get w.free a)) (same_key e.row.owner account own)

  pub held_free : HasOwn caller n e w → Waits e.row → MovesFree w caller free (free +ℤ pos (owed e.row)) (step w now (ask caller (hold_job n)))
  held_free own low account = ap (λ (s : Step). get s.world.free caller) (hold_step w now n caller e own low)
      ∙ free_after caller own.there own.owned account (hold_job n) refl refl (record e.row { hold = true }) refl refl
      ∙ ap (λ k. Some (free +ℤ (pos (taken e.row) -ℤ pos (k + e.row.count)))) (nothing_owed (is_live e.row))
      ∙ ap Some (all_back (owed e.row) e.row.count free)

  pub released_free : HasHeld caller n e w → IsSound w → pos (estimate e.row) ≤ℤ free → MovesFree w caller free (free -ℤ pos (estimate e.row)) (step w now (ask caller (release_job n)))
  released_free is sound enough account =
      let here = sound_entry n w.jobs e sound.entries is.own.there in
      let waits = is_waiting e.row is.waits in
      ap (λ (s : Step). get s.world.free caller) (enough_step w now n caller e free is account enough)
      ∙ free_after caller is.own.there is.own.owned account (release_job n) refl refl (record e.row { hold = false }) refl refl
      ∙ ap Some (pays e.row.phase e.row.hold e.row.count (estimate e.row) free waits is.held (none_printed e.row e.row.phase waits here.row.phase))

  -- whoever cancels it
  canceled_pages : (why : Why) (account : List ℕ) → MayCancel w n caller e why → bytes_eq e.row.owner account ≡ true → Waits e.row → MovesFree w account free (free +ℤ pos (owed e.row)) (step w now (ask caller (cancel_job n)))
  canceled_pages why account may own low has = ap (λ (s : Step). get s.world.free account) (cancel_step w now n caller e why may low)
      ∙ free_after account may.there own has (cancel_job n) refl (looks_up account may.there own) (record e.row { phase = Canceled why; hold = false; incoming = false; ended = Some now }) refl refl
      ∙ ap Some (all_back (owed e.row) e.row.count free)

  stopped_pages : (why : Why) (account : List ℕ) → MayCancel w n caller e why → bytes_eq e.row.owner account ≡ true → IsAtDevice e.row → e.row.stopping ≡ None → MovesFree w account free free (step w now (ask caller (cancel_job n)))
  stopped_pages why account may own at mark has = ap (λ (s : Step). get s.world.free account) (begun_step w now n caller e why may at None mark)
      ∙ free_after account may.there own has (cancel_job n) refl (looks_up account may.there own) (record e.row { stopping = Some why }) refl refl
      ∙ ap Some (none_back (taken e.row) free)

  pub canceled_free : HasOwn caller n e w → Waits e.row → MovesFree w caller free (free +ℤ pos (owed e.row)) (step w now (ask caller (cancel_job n)))
  canceled_free own low = canceled_pages ByUser caller (own_may w n caller e own) own.owned low

  pub stopped_free : HasOwn caller n e w → IsAtDevice e.row → e.row.stopping ≡ None → MovesFree w caller free free (step w now (ask caller (cancel_job n)))
  stopped_free own at mark = stopped_pages ByUser caller (own_may w n caller e own) own.owned at mark

  pub operators_free : HasOthers caller n e w → Waits e.row → MovesFree w e.row.owner free (free +ℤ pos (owed e.row)) (step w now (ask caller (cancel_job n)))
  operators_free others low = canceled_pages ByOperator e.row.owner (others_may w n caller e others) (own_key e.row.owner e.row.owner refl) low

  pub operators_none : HasOthers caller n e w → IsAtDevice e.row → e.row.stopping ≡ None → MovesFree w e.row.owner free free (step w now (ask caller (cancel_job n)))
  operators_none others at mark = stopped_pages ByOperator e.row.owner (others_may w n caller e others) (own_key e.row.owner e.row.owner refl) at mark

  pub sent_free : (d : Document) (last : Bool) → HasOwn caller n e w → IsSound w → IsOpenFor e d → MovesFree w caller free free (step w now (sends caller n d last))
  sent_free d last own sound can account = ap (λ (s : Step). get s.world.free caller) (taken_step w now n caller e d last own sound can) ∙ account
