use Rattle.ipp_reply.proofs.reply.reply_message.Goals as goal

pub put_jobs-requires-clause-jobs : goal.put_jobs-requires-clause-jobs
put_jobs-requires-clause-jobs c = rw c.as_slice.ensures (rw c.in-Jobs.is at c.requires.sound)
