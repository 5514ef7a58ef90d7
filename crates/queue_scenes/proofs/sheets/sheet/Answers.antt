use Rattle.std.proofs.Common.{◌∙◌, sym, refl, rules}
use Rattle.queue_scenes.proofs.Bounds.{account_fits}
use Rattle.queue_scenes.proofs.SheetLemmas.{granted_of, no_sheet, whole_sheet}
use Rattle.queue_tables.proofs.Leaving.{leaves_then}
use Rattle.queue_tables.proofs.Telling.{fails_behind, refuses, tells, told, told_then}
use Rattle.queue_scenes.proofs.sheets.sheet.Goals as goal

pub returns-in_default-clause-reads : goal.returns-in_default-clause-reads
returns-in_default-clause-reads g c = tells (told c.in_ok-found.ensures.reads c.in_ok-found.ensures.live) (λ w sound is. no_sheet w c.args.account.now (sym c.in_default.is ∙ is))

pub returns-in_err-granted-clause-reads : goal.returns-in_err-granted-clause-reads
returns-in_err-granted-clause-reads g c = refuses (told c.in_ok-found.ensures.reads c.in_ok-found.ensures.live) c.in_ok-found.ensures.live (λ d w sound is.
    let fits = account_fits w c.args.account.now sound c.in-Some.pages (sym c.in-Some.is ∙ is) in
    c.in_err-granted.ensures.damaged fits.0 fits.1 fits.3 fits.4) _ c.from_residual-in_err-granted.ensures.1

pub returns-in_err-jobs-clause-reads : goal.returns-in_err-jobs-clause-reads
returns-in_err-jobs-clause-reads g c = fails_behind c.find_account.ensures.reads.leaves c.in_err-jobs.ensures.reads _ c.from_residual-in_err-jobs.ensures.1

pub returns-in_err-name-clause-reads : goal.returns-in_err-name-clause-reads
returns-in_err-name-clause-reads g c = record { leaves = leaves_then _ _ _ c.find_account.ensures.reads.leaves c.in_ok-jobs.ensures.reads.leaves; found = search rules; damaged = search rules }

pub returns-clause-reads : goal.returns-clause-reads
returns-clause-reads g c = tells (told_then (told c.in_ok-found.ensures.reads c.in_ok-found.ensures.live) (told c.in_ok-jobs.ensures.reads c.in_ok-jobs.ensures.live)) (λ w sound is.
    let found = sym c.in-Some.is ∙ is.0 in
    whole_sheet w c.args.account.now c.in-Some.pages _ found c.in_ok-name.ensures (c.from.ensures ∙ granted_of w c.args.account.now c.in-Some.pages _ sound found c.in_ok-granted.ensures.sum) (search rules) refl refl is.1)
