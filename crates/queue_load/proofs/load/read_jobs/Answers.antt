use Rattle.std.proofs.Common.{refl}
use Rattle.sqlite.specs.Held.{state}
use Rattle.queue_tables.specs.Forms.{IsFormedJob}
use Rattle.queue_tables.specs.Values.{job_values}
use Rattle.queue_load.specs.Loaded.{IsBare}
use Rattle.queue_load.specs.Tells.{TellsJob, IsNoJob}
use Rattle.queue_tables.specs.Tables.{schema_of}
use Rattle.queue_load.proofs.Telling.{reads_by}
use Rattle.queue_load.proofs.Texts.{jobs_query, jobs_is, jobs_reads}
use Rattle.queue_load.proofs.Whole.{knows, table_read, table_formless, told_all}
use Rattle.queue_load.proofs.load.read_jobs.Goals as goal

pub read_table-requires : goal.read_table-requires
read_table-requires g c = record { query = jobs_is.query }

pub returns : goal.returns
returns g c =
    let first = state g.S.Store c.args.conn.now in
    let it = c.read_table.ensures in
    record {
      reads = reads_by c.read_table.result it.leaves it.same (knows jobs_query jobs_is jobs_reads first) it.read it.formless
          (λ n schema v has. (
            table_read jobs_query jobs_is (schema_of n) (jobs_reads n) TellsJob job_values (λ t r told. told.0) (λ a b. refl) first v.items schema has,
            told_all TellsJob IsBare (λ t r told. (told.1, told.2)) v.items has.rows has.told,
          ))
          (λ n schema found. table_formless jobs_query jobs_is (schema_of n) (jobs_reads n) job_values IsFormedJob IsNoJob (λ r none t f. none t f) first schema found);
    }
