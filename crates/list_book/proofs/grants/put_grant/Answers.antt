use Rattle.std.proofs.Common.{ap, ◌∙◌, List, ℕ}
use Rattle.std.specs.FinMap.{insert}
use Rattle.list_book.specs.Tables.{grants_map}
use Rattle.list_book.proofs.Keyed.{grant_put}
use Rattle.list_book.proofs.grants.put_grant.Goals as goal

pub returns-clause-grants : goal.returns-clause-grants
returns-clause-grants c =
    let old = grants_map c.args.grants.now.entries in
    grant_put c.args.grants.now.entries c.insert.new.self.entries (c.from_text.result, c.from_text-2.result) c.args.row.pages (λ q. c.in-Ok.ensures.updates.0 q)
    ∙ ap (λ (batch : List ℕ). insert old (batch, c.from_text-2.result) c.args.row.pages) c.from_text.ensures
    ∙ ap (λ (account : List ℕ). insert old (c.args.row.batch, account) c.args.row.pages) c.from_text-2.ensures
