use Rattle.std.proofs.Common.{◌≤◌, length, sym, subst, List, ℕ}
use Rattle.http_wire.proofs.WriteLemmas.{phrase_short}
use Rattle.http_wire.proofs.respond.phrase_of.Goals as goal

pub returns-clause-short : goal.returns-clause-short
returns-clause-short c = subst (λ (l : List ℕ). length l ≤ 40) (sym c.phrase_text.ensures) (phrase_short c.args.refusal)
