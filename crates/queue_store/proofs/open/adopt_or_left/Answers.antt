use Rattle.std.proofs.Common.{◌≡◌, ◌∙◌, ap, inl, inr, refl, subst}
use Rattle.sqlite.specs.Effect.{Database}
use Rattle.sqlite.specs.State.{State, Opens}
use Rattle.sqlite.specs.Files.{file_state, over_files}
use Rattle.sqlite_trees.proofs.Doubt.{no_doubt}
use Rattle.sqlite_trees.specs.Tree.{Trees}
use Rattle.sqlite_wal.specs.Files.{image_at}
use Rattle.queue_core.specs.World.{World}
use Rattle.queue_tables.specs.Content.{IsBookOf}
use Rattle.queue_store.specs.Crash.{IsKept}
use Rattle.queue_store.proofs.Adopting.{fits_in, kept_in}
use Rattle.queue_store.proofs.Again.{fits_again, found_again, kept_queue}
use Rattle.queue_store.proofs.Unharmed.{book_in, same_behind}
use Rattle.queue_store.proofs.open.adopt_or_left.Goals as goal

now_is : (s : State) (db : Trees) → Opens s → s.committed.trees ≡ db → s.now.trees ≡ db
now_is s db opened is = ap (λ (d : Database). d.trees) opened.clean ∙ is

pub returns-in-Ok : goal.returns-in-Ok
returns-in-Ok g c =
    let image = image_at g.S.Start in
    let before = file_state c.args.conn in
    let opened = c.requires.opened in
    let found = c.requires.found in
    let adopted = c.in-Ok.ensures.adopted in
    let again = λ (w : World) (left : IsKept image w). fits_again before image opened found c.trees_list_one_schema.ensures w left in
    let kept = kept_in before image opened found over_files c.in-Ok.book in record {
      stands = λ fits. adopted.stands (fits_in before image opened found fits);
      kept = λ fits honest. kept (adopted.was_clean honest) (adopted.takes (fits_in before image opened found fits) honest);
      again = λ w left. found_again over_files c.in-Ok.book image c.tables_hold_one_queue.ensures c.trees_list_one_schema.ensures (λ honest. kept (adopted.was_clean honest) (adopted.takes (again w left) honest)) w left;
      live = λ w left honest. (adopted.stands (again w left) honest).live;
      damaged = λ w left. tt;
      unharmed = λ fits db held. tt;
    }

pub returns-in-Err : goal.returns-in-Err
returns-in-Err g c =
    let image = image_at g.S.Start in
    let before = file_state c.args.conn in
    let opened = c.requires.opened in
    let found = c.requires.found in
    let adopted = c.in-Err.ensures.adopted in record {
      stands = λ fits. tt;
      kept = λ fits. tt;
      again = λ w left. tt;
      live = λ w left. tt;
      damaged = λ w left faultless told.
          let clean = no_doubt _ faultless.0 in
          adopted.damaged (fits_again before image opened found c.trees_list_one_schema.ensures w left) clean told w (kept_queue before image opened found c.trees_list_one_schema.ensures w left (adopted.clean clean));
      unharmed = λ fits db held clean at may.
          let sure = no_doubt _ clean in
          let was = adopted.clean sure in
          let same = same_behind image db held (λ _. inl refl) c.args.conn (opened was) (found was) in
          elim (adopted.left (fits_in before image opened found fits) sure at may) [
            | inl stays ↦ inl (same at stays)
            | inr taken ↦ inr (taken.0, subst (IsBookOf taken.0) (now_is before db (opened was).0 ((found was).holds db held)) (book_in taken.0 before taken.1 ((opened was).1 (opened was).0.is_open).0), taken.2)
          ];
    }
