use Rattle.std.proofs.Common.{sym, ◌∙◌, subst, inl}
use Rattle.std.proofs.lemmas.Result.{err_from_is_err_and}
use Rattle.sqlite.specs.Files.{over_files}
use Rattle.queue_types.specs.Settings.{SettingValues}
use Rattle.queue_core.specs.World.{empty_queue}
use Rattle.queue_store.specs.Kept.{StandsFor}
use Rattle.commands.proofs.FaultLemmas.{of_book}
use Rattle.commands.proofs.StoreLemmas.{is_no_setting}
use Rattle.commands.proofs.new_store.make_store.Goals as goal

pub returns-clause-made : goal.returns-clause-made
returns-clause-made g c =
    let at = c.in_ok-settings.ensures.ok in
    (at.0, subst (λ (s : SettingValues). StandsFor over_files c.in_ok-book.book (empty_queue s)) at.1 c.in_ok-book.ensures.stands)

pub returns-in_err-book-clause-bad : goal.returns-in_err-book-clause-bad
returns-in_err-book-clause-bad g c =
    let p = err_from_is_err_and c.from_residual-in_err-book.result c.from_residual-in_err-book.ensures.1 in
    rw p.1 (λ bad epoch s. is_no_setting _ (sym p.2 ∙ bad))

pub returns-in_err-book-clause-told : goal.returns-in_err-book-clause-told
returns-in_err-book-clause-told g c =
    let p = err_from_is_err_and c.from_residual-in_err-book.result c.from_residual-in_err-book.ensures.1 in
    rw p.1 (inl (of_book _ _ p.2))
