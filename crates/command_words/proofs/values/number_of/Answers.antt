use Rattle.std.proofs.Common.{refl, arith}
use Rattle.clap.specs.Words.{found_of}
use Rattle.command_words.proofs.ValueLemmas.{number_read, number_unread}
use Rattle.command_words.proofs.values.number_of.Goals as goal

pub returns-in-Some-clause-number : goal.returns-in-Some-clause-number
returns-in-Some-clause-number c =
    number_read (found_of c.args.matches.now) c.args.option.name.now c.args.option.limits.least c.args.option.limits.most c.in-Some.number c.in-Some.number
    (λ t e. (c.in-Some.ensures.value t e).0.1) (λ low high. refl)

pub returns-in_default-clause-number : goal.returns-in_default-clause-number
returns-in_default-clause-number c =
    number_read (found_of c.args.matches.now) c.args.option.name.now c.args.option.limits.least c.args.option.limits.most c.in-Some.number c.args.option.limits.least
    (λ t e. (c.in-Some.ensures.value t e).0.1) (λ low high. absurd (omega arith))

pub returns-in_default-2-clause-number : goal.returns-in_default-2-clause-number
returns-in_default-2-clause-number c =
    number_read (found_of c.args.matches.now) c.args.option.name.now c.args.option.limits.least c.args.option.limits.most c.in-Some.number c.args.option.limits.least
    (λ t e. (c.in-Some.ensures.value t e).0.1) (λ low high. absurd (omega arith))

pub returns-in_default-3-clause-number : goal.returns-in_default-3-clause-number
returns-in_default-3-clause-number c =
    number_unread (found_of c.args.matches.now) c.args.option.name.now c.args.option.limits.least c.args.option.limits.most c.args.option.limits.least (omega arith)
    (λ t e p. (c.in_default.ensures.value t e).1.0 p)
