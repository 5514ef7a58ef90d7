-- The parts of a change, one after another in one transaction, and the worlds that the tables stand for between them.
use Rattle.std.proofs.Common.{◌≡◌, Result, Ok, None, IfSome, unwrap_or}
use Rattle.std.specs.Prelude.{⊤}
use Rattle.std.specs.FinMap.{get}
use Rattle.sqlite.specs.State.{State}
use Rattle.queue_types.specs.Event.{Change, Decision}
use Rattle.queue_core.specs.Book.{IsDecisionOn}
use Rattle.queue_core.specs.Limits.{IsSoundChange}
use Rattle.queue_core.specs.Sound.{IsSound}
use Rattle.queue_core.specs.World.{World, AreNew, made_on}
use Rattle.queue_tables.specs.declared.fault.Fault.{Fault}
use Rattle.queue_tables.specs.Content.{Content, content_of}
use Rattle.queue_tables.specs.Making.{Makes, MakesQueue}
use Rattle.queue_tables.specs.Steps.{AreCovered, CanGrant, CanKeep, CanPut, CanTake, with_added, with_frees, with_grants, with_kept, with_next, with_puts}
use Rattle.queue_tables.proofs.Covered.{sound_covered}
use Rattle.queue_tables.proofs.Decided.{new_report}
use Rattle.queue_tables.proofs.Decisions.{formed_entries, have_accounts, jobs_fit, keeps_report, takes_document}
use Rattle.queue_tables.proofs.Documents.{few_made}
use Rattle.queue_tables.proofs.Entries.{sound_summable}
use Rattle.queue_tables.proofs.Making.{made_then, seen_as}

-- the world is sound and so is what the change makes of it, and what it adds is not there yet
pub record Suits (c : Change) (w : World) : Type 0 where
  pub sound : IsSound w
  pub within : IsSoundChange c
  pub made : IsSound (made_on c w)
  pub grants : AreNew w.grants c.grants
  pub report : IfSome c.report (λ k. get w.reports (k.report.job, k.report.seq) ≡ None)

-- so it is with a decision of the machine, by the laws of decisions
pub of_decision : {T : Type 0} {old new : State} {r : Result T Fault} {after : World → Content} (d : Decision) → ((w : World) (d : Decision) → IsSound w → IsDecisionOn w d → IsSoundChange d.change)
    → ((w : World) (d : Decision) → IsSound w → IsDecisionOn w d → IsSound (made_on d.change w)) → ((w : World) (d : Decision) → IsSound w → IsDecisionOn w d → AreNew w.grants d.change.grants)
    → Makes old new r (Suits d.change) content_of after → Makes old new r (λ w. IsSound w × IsDecisionOn w d) content_of after
of_decision d within made grants makes = seen_as makes (λ w. w) (λ w it. record {
  sound = it.0;
  within = within w d it.0 it.1;
  made = made w d it.0 it.1;
  grants = grants w d it.0 it.1;
  report = new_report w d it.1;
})

-- ---- each part after those before it

abbrev pub after_frees : Change → World → World
after_frees c w = with_frees c.free w

abbrev pub after_jobs : Change → World → World
after_jobs c w = with_puts c.jobs (after_frees c w)

abbrev pub after_document : Change → World → World
after_document c w = with_added c.document (after_jobs c w)

abbrev pub after_grants : Change → World → World
after_grants c w = with_grants c.grants (after_document c w)

abbrev pub after_report : Change → World → World
after_report c w = with_kept c.report (after_grants c w)

pub frees_put : {T : Type 0} {old new : State} {r : Result T Fault} (c : Change) → MakesQueue old new r AreCovered (with_frees c.free) → MakesQueue old new r (Suits c) (after_frees c)
frees_put c made = seen_as made (λ w. w) (λ w suits. sound_covered w suits.sound)

module _ {S T : Type 0} {first old new : State} {x : S} {r : Result T Fault} (c : Change) where
  pub jobs_put : MakesQueue {T = S} first old (Ok x) (Suits c) (after_frees c) → MakesQueue old new r (CanPut c.jobs) (with_puts c.jobs) → MakesQueue first new r (Suits c) (after_jobs c)
  jobs_put yet made = made_then (after_frees c) yet made (λ w suits. record {
    summable = sound_summable w suits.sound;
    formed = formed_entries w.jobs suits.sound.entries;
    amounts = jobs_fit c.jobs suits.within.jobs;
    few = few_made c w suits.made;
  })

  pub document_added : MakesQueue {T = S} first old (Ok x) (Suits c) (after_jobs c) → MakesQueue old new r (λ w. IfSome c.document (λ d. CanTake d w)) (with_added c.document) → MakesQueue first new r (Suits c) (after_document c)
  document_added yet made = made_then (after_jobs c) yet made (λ w suits. takes_document c w suits.sound suits.within suits.made)

  pub grants_added : MakesQueue {T = S} first old (Ok x) (Suits c) (after_document c) → MakesQueue old new r (CanGrant c.grants) (with_grants c.grants) → MakesQueue first new r (Suits c) (after_grants c)
  grants_added yet made = made_then (after_document c) yet made (λ w suits. record { fresh = suits.grants; accounts = have_accounts c w suits.made })

  pub report_kept : MakesQueue {T = S} first old (Ok x) (Suits c) (after_grants c) → MakesQueue old new r (λ w. IfSome c.report (λ k. CanKeep k w)) (with_kept c.report) → MakesQueue first new r (Suits c) (after_report c)
  report_kept yet made = made_then (after_grants c) yet made (λ w suits. keeps_report c w suits.sound suits.made suits.report)

  pub next_put : MakesQueue {T = S} first old (Ok x) (Suits c) (after_report c) → MakesQueue old new r (λ w. ⊤) (λ w. with_next (unwrap_or c.next w.next) w) → MakesQueue first new r (Suits c) (made_on c)
  next_put yet made = made_then (after_report c) yet made (λ w suits. tt)
