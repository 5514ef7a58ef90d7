use Rattle.std.proofs.Common.{◌∙◌, ap, refl, sym, inl, inr}
use Rattle.std.proofs.lemmas.Result.{err_from_is_err_and}
use Rattle.command_ends.specs.Faults.{fault_of_office}
use Rattle.commands.proofs.FaultLemmas.{of_either, of_file, of_import, of_stream}
use Rattle.commands.proofs.CrashLemmas.{all_or_none, lasts}
use Rattle.commands.proofs.office_commands.import_bytes_at.Goals as goal

pub returns-clause-taken : goal.returns-clause-taken
returns-clause-taken g c = λ honest w stands. let it = c.in_ok-import_bytes.ensures.taken honest w stands in (it.1, it.3, (it.0, it.2, it.4))

pub returns-in_err-import_bytes-clause-why : goal.returns-in_err-import_bytes-clause-why
returns-in_err-import_bytes-clause-why g c = λ honest.
    let p = err_from_is_err_and c.from_residual.result c.from_residual.ensures.1 in
    rw p.1 (λ w stands. elim (c.in_err-import_bytes.ensures.why honest w stands) [
      | inl file ↦ (w, file.3, inl ((file.0, p.2 ∙ ap fault_of_office file.1, file.2), refl, file.4))
      | inr told ↦ (told.2, told.4, inr (of_stream _ _ p.2 told.0, (told.1, told.3)))
    ])

pub returns-in_err-import_bytes-clause-still_live : goal.returns-in_err-import_bytes-clause-still_live
returns-in_err-import_bytes-clause-still_live g c = λ honest live.
    let p = err_from_is_err_and c.from_residual.result c.from_residual.ensures.1 in
    rw p.1 (λ other. c.in_err-import_bytes.ensures.still_live honest live (λ is. other (p.2 ∙ ap fault_of_office is)))

pub returns-in_err-import_bytes-clause-unread : goal.returns-in_err-import_bytes-clause-unread
returns-in_err-import_bytes-clause-unread g c = λ told is.
    let p = err_from_is_err_and c.from_residual.result c.from_residual.ensures.1 in
    rw p.1 (of_either _ _ told _ p.2 (c.in_err-import_bytes.ensures.unread told is))

pub returns-in_err-import_bytes-clause-refused : goal.returns-in_err-import_bytes-clause-refused
returns-in_err-import_bytes-clause-refused g c =
    let p = err_from_is_err_and c.from_residual.result c.from_residual.ensures.1 in
    rw p.1 (λ told is. c.in_err-import_bytes.ensures.refused told (of_file _ told (sym p.2 ∙ is)))

pub returns-in_err-import_bytes-clause-told : goal.returns-in_err-import_bytes-clause-told
returns-in_err-import_bytes-clause-told g c =
    let p = err_from_is_err_and c.from_residual.result c.from_residual.ensures.1 in
    rw p.1 (of_import _ _ p.2 c.in_err-import_bytes.ensures.told)

pub returns-in_err-import_bytes-clause-quiet : goal.returns-in_err-import_bytes-clause-quiet
returns-in_err-import_bytes-clause-quiet g c =
    let p = err_from_is_err_and c.from_residual.result c.from_residual.ensures.1 in
    rw p.1 (λ told is. c.in_err-import_bytes.ensures.quiet (told, of_file _ told (sym p.2 ∙ is)))

pub returns-in_err-import_bytes-clause-crash : goal.returns-in_err-import_bytes-clause-crash
returns-in_err-import_bytes-clause-crash g c = λ honest live w stands.
    let it = c.import_bytes.ensures.crash honest w stands in
    let left = it.2 w (lasts g.S.Store g.met.S.Store.settled c.args.book.now w (c.import_bytes.ensures.began honest) live stands) in
    (it.0, it.1, (left.0, left.1, all_or_none left.2))

pub returns-clause-crash : goal.returns-clause-crash
returns-clause-crash g c = λ honest live w stands.
    let it = c.import_bytes.ensures.crash honest w stands in
    let left = it.2 w (lasts g.S.Store g.met.S.Store.settled c.args.book.now w (c.import_bytes.ensures.began honest) live stands) in
    (it.0, it.1, (left.0, left.1, all_or_none left.2))
