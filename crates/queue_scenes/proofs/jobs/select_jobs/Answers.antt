use Rattle.std.proofs.Common.{◌∙◌}
use Rattle.sqlite.specs.Held.{state}
use Rattle.sqlite.specs.Values.{bound}
use Rattle.queue_tables.specs.Content.{content_of}
use Rattle.queue_tables.proofs.Columns.{map_err}
use Rattle.queue_tables.proofs.Ending.{if_ok}
use Rattle.queue_tables.proofs.Leaving.{leaves_then, shown_still, holds_after}
use Rattle.queue_scenes.proofs.jobs.select_jobs.Goals as goal

pub returns-clause-leaves : goal.returns-clause-leaves
returns-clause-leaves g c = leaves_then _ _ _ c.select.ensures.leaves c.whole_jobs.ensures.leaves

pub returns-clause-reads : goal.returns-clause-reads
returns-clause-reads g c jobs selects =
    let first = c.select.ensures.leaves in
    let live = c.in_ok-rows.ensures.live in
    let shown = shown_still c.args.sql.now (bound c.args.params.now) (state g.S.Store c.args.conn.now) (state g.S.Store c.select.new.conn) c.in_ok-rows.rows.items c.requires.query in
    record {
      leaves = leaves_then _ _ _ first c.whole_jobs.ensures.leaves;
      found = λ clean.
          let early = c.whole_jobs.ensures.leaves.clean clean in
          if_ok c.whole_jobs.result _ _ (λ v it w sound has.
          it w (jobs w) sound (holds_after first early (content_of w) has (live early)) (selects.rows w sound) (c.as_slice.ensures.value ∙ selects.shows w sound has c.in_ok-rows.rows.items (shown (c.in_ok-rows.ensures.shown early))))
          (c.whole_jobs.ensures.found clean);
      damaged = λ clean.
          let early = c.whole_jobs.ensures.leaves.clean clean in
          map_err c.whole_jobs.result _ _ (λ e it d. record {
            live = first.opened early (live early);
            none = λ w sound has.
                it d w (jobs w) sound (holds_after first early (content_of w) has (live early)) (selects.rows w sound) (c.as_slice.ensures.value ∙ selects.shows w sound has c.in_ok-rows.rows.items (shown (c.in_ok-rows.ensures.shown early)));
          })
          (c.whole_jobs.ensures.damaged clean);
    }
