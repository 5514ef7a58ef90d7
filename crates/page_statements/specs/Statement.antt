-- The text of an account's statement.
use Rattle.std.specs.Prelude.{ℕ, ◌-◌, List, [], ◌++◌, codes, decimal, flat_map, length, replicate}
use Rattle.std.specs.Fmt.{signed_decimal}
use Rattle.queue_types.specs.Job.{state, owed}
use Rattle.queue_types.specs.declared.job.Job.{Job}
use Rattle.queue_types.specs.declared.sheet.AccountSheet.{AccountSheet}

-- the spaces that a text of some columns leaves
abbrev pub padding : ℕ → List ℕ → List ℕ
padding columns text = replicate (columns - length text) 32

abbrev pub left : ℕ → List ℕ → List ℕ
left columns text = text ++ padding columns text

abbrev pub right : ℕ → List ℕ → List ℕ
right columns text = padding columns text ++ text

-- a label and a number of pages
abbrev pub amount : List ℕ → List ℕ → List ℕ
amount label pages = left 10 label ++ right 14 pages ++ codes "\n"

-- a line of the table
abbrev pub row : List ℕ → List ℕ → List ℕ → List ℕ → List ℕ
row job state reserved printed = right 10 job ++ codes " " ++ right 5 state ++ codes " " ++ right 9 reserved ++ codes " " ++ right 9 printed ++ codes "\n"

abbrev pub job_row : Job → List ℕ
job_row j = row (decimal j.number) (decimal (state j)) (decimal (owed j)) (decimal j.count)

-- the account, and what of its pages is granted, free, reserved and printed
abbrev pub amounts : AccountSheet → List ℕ
amounts s = codes "account " ++ s.account ++ codes "\n"
    ++ amount (codes "granted") (decimal s.granted)
    ++ amount (codes "free") (signed_decimal s.free)
    ++ amount (codes "reserved") (decimal s.reserved)
    ++ amount (codes "printed") (decimal s.printed)

-- the jobs between a header and the totals
abbrev pub table : AccountSheet → List ℕ
table s = row (codes "job") (codes "state") (codes "reserved") (codes "printed")
    ++ flat_map job_row s.jobs
    ++ row (codes "total") [] (decimal s.reserved) (decimal s.printed)

abbrev pub sheet_text : AccountSheet → List ℕ
sheet_text s = amounts s ++ table s
