use Rattle.std.proofs.Common.{◌≡◌, IsTrue, false, refl, rules}
use Rattle.queue_tables.specs.declared.fault.Fault.TheVariants.{Damaged, Memory}
use Rattle.queue_load.proofs.Telling.{reads_by, reads_none}
use Rattle.queue_load.proofs.queue.check_rows.Goals as goal

pub returns-in_err-are_sound_rows : goal.returns-in_err-are_sound_rows
returns-in_err-are_sound_rows g c = record { reads = reads_none _ Memory c.from_residual.ensures.1 (λ d. absurd cc) }

pub returns-then-not-branch : goal.returns-then-not-branch
returns-then-not-branch g c =
    let unsound : c.in_ok-are_sound_rows.field-0 ≡ false = search rules in
    record { reads = reads_none _ Damaged refl (λ d form. form.0 (c.in_ok-are_sound_rows.ensures.damaged unsound)) }

pub returns : goal.returns
returns g c =
    let sound : IsTrue c.in_ok-are_sound_rows.field-0 = search rules in
    let reads = c.check_keys.ensures.reads in
    record { reads = reads_by c.check_keys.result reads.leaves reads.same (λ fits. fits) reads.read reads.damaged (λ n schema u keyed. (c.in_ok-are_sound_rows.ensures.sound sound, keyed)) (λ n schema bad form. bad form.1) }
