use Rattle.queue_rows.proofs.CodeLemmas.{same_course, same_kind, same_job_state, same_flag}
use Rattle.queue_rows.proofs.laws.numbers_tell_names.Goals as goal

pub returns-clause-courses : goal.returns-clause-courses
returns-clause-courses c = same_course

pub returns-clause-kinds : goal.returns-clause-kinds
returns-clause-kinds c = same_kind

pub returns-clause-states : goal.returns-clause-states
returns-clause-states c = same_job_state

pub returns-clause-flags : goal.returns-clause-flags
returns-clause-flags c = same_flag
