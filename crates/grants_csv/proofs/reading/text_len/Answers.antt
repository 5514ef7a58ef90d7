use Rattle.grants_csv.proofs.Marks.{stripped_len}
use Rattle.grants_csv.proofs.reading.text_len.Goals as goal

pub returns : goal.returns
returns c =
    rw c.unwrap_or.ensures (
    let left = stripped_len c.args.bytes c.strip_prefix.result c.strip_prefix.ensures.cases in
    record { len = left.0; within = left.1 })
