use Rattle.std.proofs.lemmas.Result.{IfErr-weaker, IfOk-weaker}
use Rattle.sqlite.specs.Order.{column}
use Rattle.queue_tables.proofs.Columns.{optional, unread}
use Rattle.queue_tables.proofs.read.moment_at.Goals as goal

pub returns-clause-ok : goal.returns-clause-ok
returns-clause-ok c = IfOk-weaker c.value.result _ _ (λ o read. optional (column c.args.row.now c.args.at) o read) c.value.ensures.ok

pub returns-clause-err : goal.returns-clause-err
returns-clause-err c = IfErr-weaker c.value.result _ _ (λ e told damaged low o small. unread (column c.args.row.now c.args.at) (told damaged low) o small) c.value.ensures.err
