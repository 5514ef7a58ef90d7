use Rattle.queue_laws.proofs.Filed.{all_repeats}
use Rattle.queue_laws.proofs.OneRow.{other_pages, too_many_pages, new_pages}
use Rattle.std.proofs.Common.{[], ◌∷◌}
use Rattle.queue_laws.proofs.accounts.one_row_is_taken.Goals as goal

pub returns-clause-none : goal.returns-clause-none
returns-clause-none c = λ w now. all_repeats w now [] tt

pub returns-clause-again : goal.returns-clause-again
returns-clause-again c = λ w now g there. all_repeats w now (g ∷ []) (there, tt)

pub returns-clause-conflict : goal.returns-clause-conflict
returns-clause-conflict c = other_pages

pub returns-clause-too_many : goal.returns-clause-too_many
returns-clause-too_many c = too_many_pages

pub returns-clause-new : goal.returns-clause-new
returns-clause-new c = new_pages
