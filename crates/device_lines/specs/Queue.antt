-- The device's queue as text.
use Rattle.std.specs.Prelude.{ℕ, List, ◌++◌, codes, decimal, flat_map}
use Rattle.queue_types.specs.declared.job.Job.{Job}

-- JOB COPIES DOCUMENTS OCTETS and a line feed
abbrev pub job_line : Job → List ℕ
job_line j = decimal j.number ++ codes " " ++ decimal j.copies ++ codes " " ++ decimal j.documents ++ codes " " ++ decimal j.octets ++ codes "\n"

-- a line for each job, in their order
unfoldable pub queue_lines : List Job → List ℕ
queue_lines js = flat_map job_line js
