use Rattle.queue_store.proofs.laws.kept_alone_is_kept.Goals as goal

pub returns : goal.returns
returns c = λ image w kept. record { db = kept.db; held = kept.alone.both; book = kept.book }
