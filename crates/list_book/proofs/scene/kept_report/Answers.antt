use Rattle.std.proofs.Common.{◌∙◌, sym}
use Rattle.list_book.proofs.Keyed.{report_at}
use Rattle.list_book.proofs.scene.kept_report.Goals as goal

pub returns : goal.returns
returns c = c.copied.ensures ∙ c.get.ensures.value ∙ sym (report_at c.args.reports.now.entries (c.args.job, c.args.seq))
