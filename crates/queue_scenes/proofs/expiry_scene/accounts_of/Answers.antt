use Rattle.std.proofs.Common.{◌≡◌, All, Bor, List, [], ℕ, get_or, ◌++◌, ◌∙◌, sym, subst, ap}
use Rattle.std.proofs.lemmas.List.{get_or_default, take_all}
use Rattle.std.proofs.lemmas.List.Elements.{All-append}
use Rattle.queue_core.specs.Limits.{IsAmount}
use Rattle.queue_core.specs.World.{rows_of_accounts}
use Rattle.queue_types.specs.declared.event.FreeRow.{FreeRow}
use Rattle.queue_tables.proofs.Telling.{fails_behind, tells, told, told_as, told_then}
use Rattle.queue_scenes.specs.Expiry.{texts}
use Rattle.queue_scenes.proofs.Owners.{accounts_more}
use Rattle.queue_scenes.proofs.expiry_scene.accounts_of.Goals as goal

pub loop-name-preserved : goal.loop-name-preserved
loop-name-preserved g c =
    let first = c.loop-name.invariant in
    let found = c.in_ok-found.ensures in
    let items = c.in_ok-append.ensures.items in
    let names : List (Bor (List ℕ)) = c.args.names.now in
    let i = c.loop-name.name-index in
    let name : Bor (List ℕ) = get_or names i (record { ref_ptr = (0, 0); now = [] }) in
    let at : name ≡ get_or names i name = get_or_default names i (record { ref_ptr = (0, 0); now = [] }) name c.loop-name-test.true in
    record {
      read = told_as (told_then first.read (told found.reads found.live)) (λ w sound is.
          items ∙ (λ t. is.0 t ++ is.1 t) ∙ sym (accounts_more w.free names i name c.loop-name-test.true at));
      within = subst (λ (rs : List FreeRow). All (λ (a : FreeRow). IsAmount a.free) rs) (sym items) (All-append (λ (a : FreeRow). IsAmount a.free) c.loop-name.free.items c.in_ok-found.found.items first.within found.within);
    }

pub returns-in_err-found-clause-reads : goal.returns-in_err-found-clause-reads
returns-in_err-found-clause-reads g c = fails_behind c.loop-name.invariant.read.leaves c.in_err-found.ensures.reads _ c.from_residual.ensures.1

pub returns-clause-reads : goal.returns-clause-reads
returns-clause-reads g c = tells c.loop-name.invariant.read (λ w sound is. is ∙ ap (λ ns. rows_of_accounts w.free (texts ns)) (take_all c.loop-name.name-index c.args.names.now c.loop-name-test.false))
