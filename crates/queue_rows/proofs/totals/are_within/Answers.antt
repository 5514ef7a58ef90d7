use Rattle.std.proofs.Common.{◌<◌, ◌≤◌, ℕ, List, Bor, arith, rules, tests}
use Rattle.std.specs.BTreeMap as tree
use Rattle.std.specs.Cmp.{eq_by_cmp_equiv}
use Rattle.std.specs.Cmp.Lexicographic.{on_texts}
use Rattle.std.proofs.lemmas.Bool.{MatchBool-at_true}
use Rattle.std.proofs.lemmas.Iterator.{cases_from_all}
use Rattle.std.proofs.lemmas.Iterator.Consumers.{YieldsList-from_rest}
use Rattle.std.proofs.lemmas.Iterator.Search.{true_from_All}
use Rattle.std.proofs.lemmas.List.Elements.{All-from_all_within}
use Rattle.std.proofs.lemmas.Map.Keys.{IsDistinct-from_sorted}
use Rattle.std.proofs.lemmas.Map.Views.{IfSome-lookup_from_All, All-values_from_lookup}
use Rattle.queue_rows.specs.Totals.{total_in}
use Rattle.queue_rows.proofs.AmountLemmas.{within_some, some_within}
use Rattle.queue_rows.proofs.totals.are_within.Goals as goal

abbrev text_of : Bor (List ℕ) → List ℕ
text_of k = k.now

pub returns : goal.returns
unfolding total_in
returns c =
    let most = c.args.most in
    let entries = c.args.sums.now.entries in
    let Fits = λ (x : ℕ). x ≤ most in
    let r = cases_from_all _ _ _ Fits (λ (x : ℕ). most < x) c.all.ensures.ran (YieldsList-from_rest (tree.values c.args.sums.now) c.values.ensures.rest) (λ x q k. search (rules, tests)) (λ x q k. search (rules, tests)) in (
      λ t q. within_some _ most (IfSome-lookup_from_All Fits _ entries (All-from_all_within Fits (tree.values c.args.sums.now) (MatchBool-at_true _ _ t r))),
      λ all. true_from_All Fits (λ (x : ℕ). most < x) _ _ (λ x p q. absurd (omega arith)) r (All-values_from_lookup (eq_by_cmp_equiv (on_texts text_of)) Fits entries (IsDistinct-from_sorted _ _ c.values.ensures.ordered) (λ k. some_within _ most (all k.now))),
    )
