use Rattle.queue_laws.proofs.Books.{grants_kept, reports_kept}
use Rattle.queue_laws.proofs.LeftAlone.{next_drawn}
use Rattle.queue_laws.proofs.alone.records_are_left_alone.Goals as goal

pub returns-clause-grants : goal.returns-clause-grants
returns-clause-grants c = grants_kept

pub returns-clause-reports : goal.returns-clause-reports
returns-clause-reports c = reports_kept

pub returns-clause-next : goal.returns-clause-next
returns-clause-next c = next_drawn
