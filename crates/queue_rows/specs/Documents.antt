-- The rows of documents: a job's are numbered from 1, and stand in the order of the jobs.
use Rattle.std.specs.Prelude.{◌≡◌, ℕ, ◌+◌, ◌≤◌, ◌==◌, List, [], ◌∷◌, map, take, drop, length}
use Rattle.std.specs.List.{range_with_len, prefix_len}
use Rattle.queue_types.specs.declared.document.Document.{Document}
use Rattle.queue_types.specs.declared.job.Job.{Job}
use Rattle.queue_rows.specs.declared.rows.DocumentRow.{DocumentRow}

-- the rows of a job's documents, numbered from doc on
abbrev pub documents_from : ℕ → ℕ → List Document → List DocumentRow
documents_from job doc [] = []
documents_from job doc (d ∷ ds) = record { job = job; doc = doc; format = d.format; octets = length d.bytes } ∷ documents_from job (doc + 1) ds

abbrev pub HasSize : DocumentRow → Type 0
HasSize d = (1 ≤ d.octets) × (d.octets ≤ 16777216)

-- how many documents of that job stand first
abbrev pub next_of : ℕ → List DocumentRow → ℕ
next_of number ds = prefix_len (λ d. d.job == number) ds

-- at most 16, numbered from 1
abbrev pub IsGroup : ℕ → List DocumentRow → Type 0
IsGroup number ds = (next_of number ds ≤ 16) × (map (λ d. d.doc) (take (next_of number ds) ds) ≡ range_with_len 1 (next_of number ds))

-- each job's documents stand in turn, and no others
abbrev pub AreGrouped : List Job → List DocumentRow → Type 0
AreGrouped [] ds = ds ≡ []
AreGrouped (j ∷ js) ds = IsGroup j.number ds × AreGrouped js (drop (next_of j.number ds) ds)
