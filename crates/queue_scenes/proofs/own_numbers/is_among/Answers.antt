use Rattle.std.proofs.Common.{◌∙◌}
use Rattle.queue_scenes.proofs.Picked.{found_among}
use Rattle.queue_scenes.proofs.own_numbers.is_among.Goals as goal

pub returns : goal.returns
returns c rise = c.is_ok.ensures.value ∙ found_among c.args.numbers.now c.args.number c.binary_search.result c.binary_search.ensures.position rise
