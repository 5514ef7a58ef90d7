use Rattle.std.proofs.lemmas.Result.{IfOk-weaker}
use Rattle.queue_store.proofs.Closing.{copied_queue}
use Rattle.queue_store.proofs.open.TableBook+FileStore+D.close_files.Goals as goal

pub returns-clause-honest : goal.returns-clause-honest
returns-clause-honest g c = IfOk-weaker c.copy_log.result _ _ (λ files copied clean. (copied clean).was_clean) c.copy_log.ensures.copied

pub returns-clause-copied : goal.returns-clause-copied
returns-clause-copied g c = IfOk-weaker c.copy_log.result _ _ (λ files copied clean w stands. copied_queue c.args.self files (copied clean) w stands) c.copy_log.ensures.copied
