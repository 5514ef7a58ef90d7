-- Rows that the code can hold: numbers within their width, texts in UTF-8.
use Rattle.std.specs.Prelude.{◌^◌, ◌<◌, List, IfSome}
use Rattle.std.specs.Str.{IsUtf8}
use Rattle.std.specs.List.{AllByRecursion as Each}
use Rattle.queue_types.specs.declared.job.Job.{Job}
use Rattle.queue_core.specs.World.{Entry}

pub record IsFormedJob (j : Job) : Type 0 where
  pub number : j.number < 2 ^ 32
  pub owner : IsUtf8 j.owner
  pub name : IsUtf8 j.name
  pub copies : j.copies < 2 ^ 32
  pub impressions : j.impressions < 2 ^ 32
  pub count : j.count < 2 ^ 32
  pub created : j.created < 2 ^ 32
  pub begun : IfSome j.begun (λ n. n < 2 ^ 32)
  pub ended : IfSome j.ended (λ n. n < 2 ^ 32)

abbrev pub AreFormed : List Entry → Type 0
AreFormed es = Each (λ e. IsFormedJob e.row) es
