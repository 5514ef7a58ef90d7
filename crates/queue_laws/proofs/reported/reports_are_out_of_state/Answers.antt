use Rattle.queue_laws.proofs.Moving.{unstarted, unstopped, unresumed, uncounted, undone, unfailed, unhalted, waiting_unbegun}
use Rattle.queue_laws.proofs.reported.reports_are_out_of_state.Goals as goal

pub returns-clause-unstarted : goal.returns-clause-unstarted
returns-clause-unstarted c w now r j is = unstarted w now r j is.job is.new is.kind

pub returns-clause-unstopped : goal.returns-clause-unstopped
returns-clause-unstopped c w now r j is = unstopped w now r j is.job is.new is.kind

pub returns-clause-unresumed : goal.returns-clause-unresumed
returns-clause-unresumed c w now r j is = unresumed w now r j is.job is.new is.kind

pub returns-clause-uncounted : goal.returns-clause-uncounted
returns-clause-uncounted c w now r j is = uncounted w now r j is.job is.new is.kind

pub returns-clause-undone : goal.returns-clause-undone
returns-clause-undone c w now r j is = undone w now r j is.job is.new is.kind

pub returns-clause-unfailed : goal.returns-clause-unfailed
returns-clause-unfailed c w now r j is = unfailed w now r j is.job is.new is.kind

pub returns-clause-unhalted : goal.returns-clause-unhalted
returns-clause-unhalted c w now r j is = unhalted w now r j is.job is.new is.kind

pub returns-clause-waiting : goal.returns-clause-waiting
returns-clause-waiting c = waiting_unbegun
