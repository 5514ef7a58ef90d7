use Rattle.std.proofs.Common.{List, ℕ, ap, ◌∙◌, is_eq}
use Rattle.std.specs.List.{list_any}
use Rattle.std.specs.Ordering.{nat_cmp}
use Rattle.queue_tables.proofs.Ending.{if_ok}
use Rattle.queue_scenes.proofs.Picked.{has_key}
use Rattle.queue_scenes.proofs.own_numbers.in_order.Goals as goal

pub returns-clause-same : goal.returns-clause-same
returns-clause-same c =
    if_ok c.keys_of.result _ _ (λ v is q. has_key q v.items ∙ ap (λ (ks : List ℕ). list_any (λ k. is_eq (nat_cmp q k)) ks) is ∙ c.in_ok-set.ensures q) c.keys_of.ensures.kept
