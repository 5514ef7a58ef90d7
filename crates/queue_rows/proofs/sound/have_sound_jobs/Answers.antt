use Rattle.std.proofs.Common.{arith}
use Rattle.queue_rows.proofs.sound.have_sound_jobs.Goals as goal

pub returns : goal.returns
returns c = (
  λ t. record {
    rise = c.numbers_rise.ensures.0 (cc (c.if-not-numbers_rise.false));
    last = omega arith;
    jobs = c.jobs_are_sound.ensures.0 (cc (c.if-not-jobs_are_sound.false));
    grouped = c.documents_follow.ensures.0 (cc (c.if-not-documents_follow.false));
    sizes = c.documents_have_sizes.ensures.0 (cc (c.if-not-documents_have_sizes.false));
    pieces = c.pieces_follow.ensures.0 t;
  },
  λ s. c.pieces_follow.ensures.1 s.pieces,
)
