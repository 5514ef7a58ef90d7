use Rattle.queue_load.proofs.Telling.{both, hands_on, tells}
use Rattle.queue_load.proofs.rows.fill_jobs.Goals as goal

pub returns-in_err-rows-2 : goal.returns-in_err-rows-2
returns-in_err-rows-2 g c = record { reads = hands_on _ c.in_err-rows-2.field-0.0 c.from_residual-in_err-rows-2.ensures.1 (both _ c.in_ok-rows.ensures.reads c.in_err-rows-2.ensures.reads) (λ all. all.jobs) }

pub returns-in_err-rows-3 : goal.returns-in_err-rows-3
returns-in_err-rows-3 g c =
    record { reads = hands_on _ c.in_err-rows-3.field-0.0 c.from_residual-in_err-rows-3.ensures.1 (both _ (both _ c.in_ok-rows.ensures.reads c.in_ok-rows-2.ensures.reads) c.in_err-rows-3.ensures.reads) (λ all. all.documents) }

pub returns-in_err-rows-4 : goal.returns-in_err-rows-4
returns-in_err-rows-4 g c =
    record { reads = hands_on _ c.in_err-rows-4.field-0.0 c.from_residual-in_err-rows-4.ensures.1 (both _ (both _ (both _ c.in_ok-rows.ensures.reads c.in_ok-rows-2.ensures.reads) c.in_ok-rows-3.ensures.reads) c.in_err-rows-4.ensures.reads) (λ all. all.pieces) }

pub returns : goal.returns
returns g c =
    record {
      reads = tells (both _ (both _ (both _ c.in_ok-rows.ensures.reads c.in_ok-rows-2.ensures.reads) c.in_ok-rows-3.ensures.reads) c.in_ok-rows-4.ensures.reads)
          (λ read. record { meta = read.0.0.0; jobs = read.0.0.1.0; bare = read.0.0.1.1; documents = read.0.1; pieces = read.1 });
    }
