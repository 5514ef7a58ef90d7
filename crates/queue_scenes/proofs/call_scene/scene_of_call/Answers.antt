use Rattle.std.proofs.Common.{inl, inr, ap, sym, ◌∙◌}
use Rattle.queue_types.specs.Event.{ask, call_of}
use Rattle.queue_core.specs.World.{cut}
use Rattle.queue_tables.proofs.Telling.{tells_as}
use Rattle.queue_scenes.proofs.call_scene.scene_of_call.Goals as goal

pub returns-in-PrintJob-clause-reads : goal.returns-in-PrintJob-clause-reads
returns-in-PrintJob-clause-reads g c =
    tells_as c.scene_of_new.ensures.reads (λ w sound s is settings_are.
    is settings_are ∙ (elim c.in-PrintJob.is [
      | inl it ↦ ap (λ call. cut w 0 (ask c.args.caller.now (call_of call))) (sym it.3)
      | inr (inl it) ↦ ap (λ call. cut w 0 (ask c.args.caller.now (call_of call))) (sym it.1)
      | inr (inr it) ↦ ap (λ call. cut w 0 (ask c.args.caller.now (call_of call))) (sym it.1)
    ]))

pub returns-in-SendDocument-clause-reads : goal.returns-in-SendDocument-clause-reads
returns-in-SendDocument-clause-reads g c =
    tells_as c.scene_of_job.ensures.reads (λ w sound s is settings_are.
    is settings_are ∙ (elim c.in-SendDocument.is [
      | inl it ↦ ap (λ call. cut w 0 (ask c.args.caller.now (call_of call))) (sym it.3)
      | inr it ↦ ap (λ call. cut w 0 (ask c.args.caller.now (call_of call))) (sym it)
    ]))

pub returns-in-CancelJob-clause-reads : goal.returns-in-CancelJob-clause-reads
returns-in-CancelJob-clause-reads g c =
    tells_as c.scene_of_cancel.ensures.reads (λ w sound s is settings_are. is settings_are ∙ ap (λ call. cut w 0 (ask c.args.caller.now (call_of call))) (sym c.in-CancelJob.is))

pub returns-in-HoldJob-clause-reads : goal.returns-in-HoldJob-clause-reads
returns-in-HoldJob-clause-reads g c =
    tells_as c.scene_of_job_and_account.ensures.reads (λ w sound s is settings_are.
    is settings_are ∙ (elim c.in-HoldJob.is [
      | inl it ↦ ap (λ call. cut w 0 (ask c.args.caller.now (call_of call))) (sym it)
      | inr it ↦ ap (λ call. cut w 0 (ask c.args.caller.now (call_of call))) (sym it)
    ]))

pub returns-in-CancelMyJobs-clause-reads : goal.returns-in-CancelMyJobs-clause-reads
returns-in-CancelMyJobs-clause-reads g c =
    tells_as c.scene_of_my_jobs.ensures.reads (λ w sound s is settings_are. is settings_are ∙ ap (λ call. cut w 0 (ask c.args.caller.now (call_of call))) (sym c.in-CancelMyJobs.is))

pub returns-in-GetJobs-clause-reads : goal.returns-in-GetJobs-clause-reads
returns-in-GetJobs-clause-reads g c =
    tells_as c.scene_of_shown.ensures.reads (λ w sound s is settings_are. is settings_are ∙ ap (λ call. cut w 0 (ask c.args.caller.now (call_of call))) (sym c.in-GetJobs.is))

pub returns-in-GetPrinterAttributes-clause-reads : goal.returns-in-GetPrinterAttributes-clause-reads
returns-in-GetPrinterAttributes-clause-reads g c =
    tells_as c.scene_of_printer.ensures.reads (λ w sound s is settings_are. is settings_are ∙ ap (λ call. cut w 0 (ask c.args.caller.now (call_of call))) (sym c.in-GetPrinterAttributes.is))
