use Rattle.std.proofs.Common.{Ok, Err}
use Rattle.device_lines.specs.declared.line.LineFault.TheVariants.{Syntax, Range}
use Rattle.device_lines.proofs.Readings.{exact, read_within}
use Rattle.device_lines.proofs.line.read_report.Goals as goal

pub returns : goal.returns
returns c =
    let form = rw c.in_ok-form.ensures.ok_part at c.read_form.ensures.some in
    let reads = read_within c.args.line.now c.in_ok-form.form c.within.result c.ok_or-2.result form c.within.ensures.some c.within.ensures.none c.ok_or-2.ensures.value in
    let is = exact c.args.line.now c.ok_or-2.result reads in
    record { ok = λ r. is (Ok r); syntax = is (Err Syntax); range = is (Err Range) }
