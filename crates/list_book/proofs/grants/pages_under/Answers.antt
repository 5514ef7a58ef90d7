use Rattle.std.proofs.Common.{◌∙◌, sym}
use Rattle.list_book.proofs.Keyed.{grant_at}
use Rattle.list_book.proofs.grants.pages_under.Goals as goal

pub returns : goal.returns
returns c = c.copied.ensures ∙ c.get.ensures.value ∙ sym (grant_at c.args.grants.now.entries c.args.key.now)
