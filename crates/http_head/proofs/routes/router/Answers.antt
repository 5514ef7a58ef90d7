use Rattle.std.proofs.Common.{[], refl, subst, sym}
use Rattle.std.proofs.lemmas.Result.{err_from_is_err_and}
use Rattle.matchit.proofs.OnLiterals.{matchit_on_literals}
use Rattle.http_head.specs.Routes.{AreFree, table}
use Rattle.http_head.proofs.routes.router.Goals as goal

pub returns-clause-routes : goal.returns-clause-routes
unfolding matchit_on_literals
returns-clause-routes c = rw (c.in_ok-add.ensures.added, c.new-router.ensures) refl

free : AreFree table []
unfolding matchit_on_literals
free = (refl, (refl, (refl, (refl, (refl, tt)))))

pub returns-in_err-add-clause-wanting : goal.returns-in_err-add-clause-wanting
returns-in_err-add-clause-wanting c =
    let told = err_from_is_err_and c.from_residual.result c.from_residual.ensures.1 in
    rw (told.1, told.2) (c.in_err-add.ensures.wanting (subst (AreFree table) (sym c.new-router.ensures) free))
