use Rattle.std.proofs.Common.{sym, ◌∙◌}
use Rattle.queue_scenes.proofs.Bounds.{account_fits}
use Rattle.queue_tables.proofs.Telling.{refuses, told}
use Rattle.queue_scenes.proofs.accounts.free_rows.Goals as goal

pub returns-in_err-free-clause-reads : goal.returns-in_err-free-clause-reads
returns-in_err-free-clause-reads g c = refuses (told c.in_ok-found.ensures.reads c.in_ok-found.ensures.live) c.in_ok-found.ensures.live (λ d w sound is.
    c.in_err-free.ensures.damaged (account_fits w c.args.name.now sound c.in-Some.pages (sym c.in-Some.is ∙ is))) _ c.from_residual-in_err-free.ensures.1
