use Rattle.std.proofs.Common.{◌≡◌, ap, sym, ◌∙◌, subst}
use Rattle.std.proofs.lemmas.Result.{err_from_is_err_and}
use Rattle.queue_types.specs.Event.{change_of, decision_of}
use Rattle.queue_core.specs.World.{made_on}
use Rattle.queue_core.specs.Sound.{IsSound}
use Rattle.list_book.specs.Lists.{put_rows, world_of}
use Rattle.list_book.specs.Tables.{grants_map}
use Rattle.queue_core.specs.Order.{AreRising}
use Rattle.list_book.proofs.ByNumber.{rising_made}
use Rattle.list_book.proofs.Put.{has_its_job, same_world}
use Rattle.list_book.proofs.Totals.{AddUp, accounts_after, fits_after, sound_same, tidy_same, totals_after, totals_same}
use Rattle.list_book.proofs.book.ListBookQueueBook.apply.Goals as goal

pub invariant_of-self : goal.invariant_of-self
invariant_of-self c =
    let l = c.self.inside.lists in
    let same = c.in_err-document.ensures.same in
    (tidy_same l _ same c.self.invariant.0, sound_same l _ same c.self.invariant.1, totals_same l _ same c.self.invariant.2)

pub returns-in_err-document-clause-err : goal.returns-in_err-document-clause-err
returns-in_err-document-clause-err c =
    let p = err_from_is_err_and c.from_residual.result c.from_residual.ensures.1 in
    rw p.1 (λ w h. (same_world c.self.inside.lists _ c.in_err-document.ensures.same ∙ c.self.view_is ∙ h.0, h.1))

pub write-requires-clause-there : goal.write-requires-clause-there
write-requires-clause-there c =
    let stood = c.requires.decided (world_of c.self.inside.lists) tt (sym c.self.view_is, c.self.invariant.1) in
    rw c.in_ok-document.ensures.document (has_its_job _ (change_of c.args.decision.change) (c.decisions_are_sound.ensures.within _ (decision_of c.args.decision) c.self.invariant.1 stood).document)

pub write-requires-clause-rising : goal.write-requires-clause-rising
write-requires-clause-rising c =
    let stood = c.requires.decided (world_of c.self.inside.lists) tt (sym c.self.view_is, c.self.invariant.1) in
    subst (λ js. AreRising (put_rows js (change_of c.args.decision.change).jobs)) (sym c.in_ok-document.ensures.same.jobs)
    (rising_made c.self.inside.lists (change_of c.args.decision.change) c.self.invariant.0 (c.decisions_are_sound.ensures.made _ (decision_of c.args.decision) c.self.invariant.1 stood))

pub write-requires-clause-accounts : goal.write-requires-clause-accounts
write-requires-clause-accounts c =
    let stood = c.requires.decided (world_of c.self.inside.lists) tt (sym c.self.view_is, c.self.invariant.1) in
    accounts_after c.self.inside.lists c.prepare.new.lists (change_of c.args.decision.change) c.in_ok-document.ensures.same (c.decisions_are_sound.ensures.made _ (decision_of c.args.decision) c.self.invariant.1 stood)

pub write-requires-clause-most : goal.write-requires-clause-most
write-requires-clause-most c =
    let l = c.self.inside.lists in
    let change = change_of c.args.decision.change in
    let stood = c.requires.decided (world_of l) tt (sym c.self.view_is, c.self.invariant.1) in
    let new = c.decisions_are_sound.ensures.new_grants _ (decision_of c.args.decision) c.self.invariant.1 stood in
    fits_after l c.prepare.new.lists change c.self.invariant.2 c.in_ok-document.ensures.same (c.decisions_are_sound.ensures.made _ (decision_of c.args.decision) c.self.invariant.1 stood)
    (λ a. c.new_grants_add_up.ensures a change.grants (grants_map l.grants.entries) new)

pub invariant_of-self-2 : goal.invariant_of-self-2
invariant_of-self-2 c =
    let l = c.self.inside.lists in
    let change = change_of c.args.decision.change in
    let stood = c.requires.decided (world_of l) tt (sym c.self.view_is, c.self.invariant.1) in
    let made : world_of c.write.new.lists ≡ made_on change (world_of l) = c.write.ensures.made ∙ ap (made_on change) (same_world l c.prepare.new.lists c.in_ok-document.ensures.same) in
    let new = c.decisions_are_sound.ensures.new_grants _ (decision_of c.args.decision) c.self.invariant.1 stood in
    let adds : AddUp l change = λ a. c.new_grants_add_up.ensures a change.grants (grants_map l.grants.entries) new in (
      c.write.ensures.tidy,
      subst IsSound (sym made) (c.decisions_are_sound.ensures.made _ (decision_of c.args.decision) c.self.invariant.1 stood),
      totals_after l c.prepare.new.lists c.write.new.lists change c.self.invariant.2 c.in_ok-document.ensures.same adds made c.write.ensures.totals,
    )

pub returns-clause-ok : goal.returns-clause-ok
returns-clause-ok c = λ w h.
    let made : world_of c.write.new.lists ≡ made_on (change_of c.args.decision.change) (world_of c.self.inside.lists) = c.write.ensures.made ∙ ap (made_on (change_of c.args.decision.change)) (same_world c.self.inside.lists c.prepare.new.lists c.in_ok-document.ensures.same) in
    let is : world_of c.self.inside.lists ≡ w = c.self.view_is ∙ h.0 in
    (made ∙ ap (made_on (change_of c.args.decision.change)) is, c.decisions_are_sound.ensures.made w (decision_of c.args.decision) h.1 (c.requires.decided w tt h))
