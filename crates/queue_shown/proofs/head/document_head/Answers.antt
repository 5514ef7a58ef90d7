use Rattle.std.proofs.Common.{◌∙◌, sym, ap, rules, option_map}
use Rattle.std.proofs.lemmas.Result.{IfErr-weaker, IfOk-weaker}
use Rattle.queue_core.specs.Shown.{head_of}
use Rattle.queue_tables.specs.Content.{content_of}
use Rattle.queue_shown.proofs.Fetching.{not_shown, is_shown}
use Rattle.queue_tables.proofs.Leaving.{holds_after, leaves_then, none_before}
use Rattle.queue_shown.proofs.head.document_head.Goals as goal

pub returns-then-not-is_shown-clause-reads : goal.returns-then-not-is_shown-clause-reads
returns-then-not-is_shown-clause-reads g c =
    let first = c.in_ok-is_shown.ensures.reads in record {
      leaves = first.leaves;
      found = λ clean w sound has. ap (option_map head_of) (sym (not_shown w c.args.job c.args.n c.in_ok-is_shown.is_shown (search rules) (first.found clean w sound has)));
      damaged = λ clean. tt;
    }

pub returns-clause-reads : goal.returns-clause-reads
returns-clause-reads g c =
    let first = c.in_ok-is_shown.ensures.reads in
    let last = c.find_head.ensures.reads in record {
      leaves = leaves_then _ _ _ first.leaves last.leaves;
      found = λ clean.
          let early = last.leaves.clean clean in
          IfOk-weaker c.find_head.result _ _ (λ h found w sound has.
          found w sound (holds_after first.leaves early (content_of w) has (c.in_ok-is_shown.ensures.live early))
          ∙ ap (option_map head_of) (sym (is_shown w c.args.job c.args.n c.in_ok-is_shown.is_shown (search rules) (first.found early w sound has)))) (last.found clean);
      damaged = λ clean. IfErr-weaker c.find_head.result _ _ (λ e told d. none_before first.leaves (last.leaves.clean clean) (told d)) (last.damaged clean);
    }
