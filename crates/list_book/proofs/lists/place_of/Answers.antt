use Rattle.std.proofs.Common.{eq-eqb}
use Rattle.std.proofs.lemmas.Bool.{OnFalse_at, OnTrue_at}
use Rattle.std.proofs.lemmas.List.Elements.{All-from_recursion}
use Rattle.list_book.proofs.Put.{put_at, put_none}
use Rattle.list_book.proofs.ByNumber.{absent, found, ne_from_lt, nowhere}
use Rattle.list_book.proofs.lists.place_of.Goals as goal

pub returns-then-is_at-clause-within : goal.returns-then-is_at-clause-within
returns-then-is_at-clause-within c = (OnTrue_at c.if-is_at.true c.is_at.ensures.yes).0

pub returns-then-is_at-clause-some : goal.returns-then-is_at-clause-some
returns-then-is_at-clause-some c =
    let here = OnTrue_at c.if-is_at.true c.is_at.ensures.yes in
    λ x. put_at _ _ _ here.0 (λ k d h. ne_from_lt _ _ (c.smaller_than-i.ensures.before k d h)) x (eq-eqb _ _ (here.1 x)) x

pub returns-then-is_at-clause-there : goal.returns-then-is_at-clause-there
returns-then-is_at-clause-there c =
    let here = OnTrue_at c.if-is_at.true c.is_at.ensures.yes in
    λ d. found c.args.jobs.now c.smaller_than-i.result c.args.number d c.requires here.0 (here.1 d)

pub returns-else-is_at-clause-none : goal.returns-else-is_at-clause-none
returns-else-is_at-clause-none c =
    let other = OnFalse_at c.if-is_at.false c.is_at.ensures.no in
    λ x. let each = absent c.args.jobs.now c.smaller_than-i.result c.args.number x c.requires c.smaller_than-i.ensures.before c.smaller_than-i.ensures.behind (other x) in
    put_none _ _ (λ k d h. All-from_recursion _ _ each k d h) x

pub returns-else-is_at-clause-nowhere : goal.returns-else-is_at-clause-nowhere
returns-else-is_at-clause-nowhere c =
    nowhere c.args.jobs.now c.smaller_than-i.result c.args.number c.requires c.smaller_than-i.ensures.before c.smaller_than-i.ensures.behind (OnFalse_at c.if-is_at.false c.is_at.ensures.no)
