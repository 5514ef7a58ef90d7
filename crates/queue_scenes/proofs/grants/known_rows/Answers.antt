use Rattle.std.proofs.Common.{◌++◌, ◌∷◌, [], List, All, ap, map, sym, subst, ◌∙◌}
use Rattle.std.proofs.lemmas.List.{take_all}
use Rattle.std.proofs.lemmas.List.Elements.{All-push}
use Rattle.queue_core.specs.Limits.{IsKnown}
use Rattle.queue_core.specs.World.{known_grant}
use Rattle.queue_types.specs.declared.event.KnownGrant.{KnownGrant}
use Rattle.queue_scenes.proofs.Known.{known_more}
use Rattle.queue_tables.proofs.Telling.{fails_behind, tells, told, told_as, told_then}
use Rattle.queue_scenes.proofs.grants.known_rows.Goals as goal

pub loop-row-preserved : goal.loop-row-preserved
loop-row-preserved g c =
    let first = c.loop-row.invariant in
    let made = c.in_ok-known.ensures in
    record {
      read = told_as (told_then first.read (told made.reads made.live)) (λ w sound is.
          c.in_ok-push.ensures.items ∙ (λ t. is.0 t ++ is.1 t ∷ []) ∙ known_more w c.args.rows.now c.loop-row.row-index c.row-item.result c.loop-row-test.true c.row-item.is);
      within = subst (λ (ks : List KnownGrant). All IsKnown ks) (sym c.in_ok-push.ensures.items) (All-push IsKnown c.loop-row.all.items c.in_ok-known.field-0 first.within made.within);
    }

pub returns-in_err-known-clause-reads : goal.returns-in_err-known-clause-reads
returns-in_err-known-clause-reads g c = fails_behind c.loop-row.invariant.read.leaves c.in_err-known.ensures.reads _ c.from_residual.ensures.1

pub returns-clause-reads : goal.returns-clause-reads
returns-clause-reads g c = tells c.loop-row.invariant.read (λ w sound is. is ∙ ap (map (known_grant w)) (take_all c.loop-row.row-index c.args.rows.now c.loop-row-test.false))
