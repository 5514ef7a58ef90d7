-- What has become of a job, in the columns of its row.
use Rattle.std.specs.Prelude.{◌≡◌}
use Rattle.sqlite.specs.Order.{Row, column}
use Rattle.queue_rows.specs.Codes.{phase_number, stopping_number, why_number}
use Rattle.queue_tables.specs.Values.{moment, number, truth}
use Rattle.queue_tables.specs.declared.read.Course.{Course}

pub record IsCourseIn (row : Row) (c : Course) : Type 0 where
  pub hold : column row 5 ≡ truth c.hold
  pub incoming : column row 6 ≡ truth c.incoming
  pub phase : column row 7 ≡ number (phase_number c.phase)
  pub why : column row 8 ≡ number (why_number c.phase c.stopping)
  pub stopping : column row 9 ≡ number (stopping_number c.phase c.stopping)
  pub count : column row 10 ≡ number c.count
  pub begun : column row 12 ≡ moment c.begun
  pub ended : column row 13 ≡ moment c.ended
