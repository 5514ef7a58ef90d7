use Rattle.std.proofs.Common.{◌≡◌, ap, sym, ◌∙◌, cond, ◌&&◌, List, ℕ, Option}
use Rattle.std.specs.Prelude.{Some, bytes_eq, find, option_map}
use Rattle.std.specs.HashMap.{get}
use Rattle.queue_core.specs.Grants.{row_under}
use Rattle.queue_core.specs.Tally.{is_key_of, is_same_key}
use Rattle.queue_types.specs.declared.event.GrantRow.{GrantRow}
use Rattle.queue_core.proofs.GrantLemmas.{no_pages, pages_again, pages_push}
use Rattle.queue_core.proofs.grants.add_key.Goals as goal

pub returns-clause-before : goal.returns-clause-before
returns-clause-before c rows are =
    c.in_ok-before.ensures.old
    ∙ are (record { batch = c.as_str.result; account = c.as_str-2.result })
    ∙ ap (λ (b : List ℕ). option_map (λ (g : GrantRow). g.pages) (find (λ (g : GrantRow). bytes_eq g.batch b && bytes_eq g.account c.as_str-2.result.now) rows)) c.as_str.ensures
    ∙ ap (λ (a : List ℕ). option_map (λ (g : GrantRow). g.pages) (find (λ (g : GrantRow). bytes_eq g.batch c.args.grant.now.batch && bytes_eq g.account a) rows)) c.as_str-2.ensures

pub returns-clause-new : goal.returns-clause-new
returns-clause-new c rows are none q =
    let r = c.args.grant.now in
    let under : option_map (λ (g : GrantRow). g.pages) (row_under r rows) ≡ c.in_ok-before.before = sym (returns-clause-before c rows are) in
    c.in_ok-before.ensures.updates.0 q
    ∙ ap (λ t. cond t (Some r.pages) (get is_same_key c.args.pages.now q))
    (ap (λ (t : List ℕ). bytes_eq t q.batch.now && bytes_eq c.as_str-2.result.now q.account.now) c.as_str.ensures
    ∙ ap (λ (t : List ℕ). bytes_eq r.batch q.batch.now && bytes_eq t q.account.now) c.as_str-2.ensures)
    ∙ ap (λ (o : Option ℕ). cond (is_key_of r q) (Some r.pages) o) (are q)
    ∙ pages_push rows r q (no_pages (row_under r rows) (under ∙ none))

pub returns-clause-again : goal.returns-clause-again
returns-clause-again c rows are there q =
    let r = c.args.grant.now in
    let under : option_map (λ (g : GrantRow). g.pages) (row_under r rows) ≡ c.in_ok-before.before = sym (returns-clause-before c rows are) in
    c.in_ok-before.ensures.updates.0 q
    ∙ ap (λ t. cond t (Some r.pages) (get is_same_key c.args.pages.now q))
    (ap (λ (t : List ℕ). bytes_eq t q.batch.now && bytes_eq c.as_str-2.result.now q.account.now) c.as_str.ensures
    ∙ ap (λ (t : List ℕ). bytes_eq r.batch q.batch.now && bytes_eq t q.account.now) c.as_str-2.ensures)
    ∙ ap (λ (o : Option ℕ). cond (is_key_of r q) (Some r.pages) o) (are q)
    ∙ pages_again rows r q (under ∙ there)
