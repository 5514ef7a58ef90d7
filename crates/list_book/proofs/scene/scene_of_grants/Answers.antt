use Rattle.std.proofs.Common.{sym, ◌∙◌}
use Rattle.std.proofs.lemmas.Result.{IfOk-weaker}
use Rattle.list_book.proofs.SeenLemmas.{grants_scene_is, known_is}
use Rattle.list_book.proofs.scene.scene_of_grants.Goals as goal

pub returns : goal.returns
returns c =
    IfOk-weaker c.grants_scene.result _ _ (λ s is now. is ∙ sym (grants_scene_is c.args.lists.now now c.args.rows.now _
    (c.in_ok-known.ensures ∙ known_is c.args.lists.now c.args.rows.now c.requires))) c.grants_scene.ensures.scene
