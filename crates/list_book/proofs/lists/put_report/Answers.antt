use Rattle.std.proofs.Common.{ap, sym, ◌∙◌}
use Rattle.queue_core.specs.World.{with_report}
use Rattle.list_book.specs.Lists.{reports_map}
use Rattle.list_book.proofs.Keyed.{report_put}
use Rattle.list_book.proofs.lists.put_report.Goals as goal

pub returns-in-Ok : goal.returns-in-Ok
returns-in-Ok c =
    report_put c.args.reports.now.entries c.insert.new.self.entries c.in-Some.k (λ q. c.in-Ok.ensures.updates.0 q)
    ∙ ap (with_report (reports_map c.args.reports.now.entries)) (sym c.in-Some.is)
