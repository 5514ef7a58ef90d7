use Rattle.std.proofs.Common.{Err, ap, refl, sym, ◌∙◌}
use Rattle.std.proofs.lemmas.Result.{err_from_is_err_and}
use Rattle.commands.proofs.StoreLemmas.{at_any_second, is_bad, is_stream}
use Rattle.commands.proofs.new_store.new_settings.Goals as goal

pub returns-clause-ok : goal.returns-clause-ok
returns-clause-ok g c = let ok = rw c.none.ensures at c.in_ok-settings.ensures.ok in (_, ok)

pub returns-in_err-epoch-clause-bad : goal.returns-in_err-epoch-clause-bad
returns-in_err-epoch-clause-bad g c =
    let p = err_from_is_err_and c.from_residual.result c.from_residual.ensures.1 in
    rw p.1 (λ bad epoch s. is_stream p.0 p.2.0 bad)

pub returns-in_err-settings-clause-bad : goal.returns-in_err-settings-clause-bad
returns-in_err-settings-clause-bad g c =
    let p = err_from_is_err_and c.from_residual-in_err-settings.result c.from_residual-in_err-settings.ensures.1 in
    let refused = rw c.none.ensures at c.in_err-settings.ensures.bad in
    rw p.1 (λ bad epoch s. refused.0 (ap Err (is_bad _ (sym p.2 ∙ bad))) (at_any_second c.args.words epoch _ s))

pub returns-clause-fits : goal.returns-clause-fits
returns-clause-fits g c = let fits = rw c.none.ensures at c.in_ok-settings.ensures.fits in λ epoch. at_any_second c.args.words _ epoch (fits refl)
