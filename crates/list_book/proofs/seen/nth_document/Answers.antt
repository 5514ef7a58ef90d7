use Rattle.std.proofs.Common.{rules, tests}
use Rattle.std.specs.Prelude.{Some, None, nat_eq}
use Rattle.std.proofs.lemmas.Iterator.{YieldsList-from_slice}
use Rattle.std.proofs.lemmas.Iterator.Consumers.{YieldsList-at, YieldsList-from_filter, nth_from_yields_List}
use Rattle.list_book.proofs.SeenLemmas.{nth_is}
use Rattle.list_book.proofs.seen.nth_document.Goals as goal

pub returns-in_err-kept : goal.returns-in_err-kept
returns-in_err-kept c =
    let ks = c.args.documents.now in
    let job = c.args.job in
    rw c.from_residual-in_err-kept.ensures (nth_is job c.args.n c.in_ok-before.before ks None c.in_ok-before.ensures.0 c.in_ok-before.ensures.1
    (nth_from_yields_List None c.nth.new.self _ c.in_err-kept.ensures.ran (YieldsList-from_filter _ (λ x. nat_eq x.job job) (YieldsList-at c.filter.ensures.source (YieldsList-from_slice ks cc)) c.filter.ensures.closure (λ x r q k. search (rules, tests)))))

pub returns : goal.returns
returns c =
    let ks = c.args.documents.now in
    let job = c.args.job in
    nth_is job c.args.n c.in_ok-before.before ks (Some c.in_ok-kept.kept.now) c.in_ok-before.ensures.0 c.in_ok-before.ensures.1
    (nth_from_yields_List (Some c.in_ok-kept.kept) c.nth.new.self c.in_ok-before.before c.in_ok-kept.ensures.ran (YieldsList-from_filter _ (λ x. nat_eq x.job job) (YieldsList-at c.filter.ensures.source (YieldsList-from_slice ks cc)) c.filter.ensures.closure (λ x r q k. search (rules, tests))))
