use Rattle.std.proofs.Common.{◌≡◌, refl, ◌∙◌}
use Rattle.queue_core.specs.declared.book.BookFault.TheVariants.{Damaged as BookDamaged}
use Rattle.queue_types.specs.Event.{decision_of}
use Rattle.queue_tables.specs.Faults.{told_as}
use Rattle.queue_tables.specs.declared.fault.Fault.{Fault}
use Rattle.queue_tables.specs.declared.fault.Fault.TheVariants.{Damaged}
use Rattle.queue_store.proofs.Results.{err_same}
use Rattle.queue_store.proofs.queue_book.TableBookQueueBook.apply.Goals as goal

pub returns-clause-ok : goal.returns-clause-ok
returns-clause-ok g c w stands honest =
    let was = stands (c.make.ensures.commits.clean honest) in
    let decided = c.requires.decided w (c.make.ensures.commits.clean honest) stands in
    record {
      sound = c.decisions_are_sound.ensures.made w (decision_of c.args.decision) was.sound decided;
      settings_are = was.settings_are;
      holds = λ is_open. c.in_ok-make.ensures.commits.made honest w (was.sound, decided) (was.holds (c.make.ensures.commits.opened honest is_open));
      settled = λ is_open. c.in_ok-make.ensures.commits.settled honest;
      outside = λ is_open. c.make.ensures.mode ∙ was.outside (c.make.ensures.commits.opened honest is_open);
      unlimited = λ is_open. c.make.ensures.commits.serves.limit ∙ was.unlimited (c.make.ensures.commits.opened honest is_open);
    }

pub returns-in_err-make-clause-err : goal.returns-in_err-make-clause-err
returns-in_err-make-clause-err g c = err_same _ _ _ c.from_residual.ensures.1 (λ w stood honest.
    let was = stood (c.make.ensures.commits.clean honest) in
    record {
      sound = was.sound;
      settings_are = was.settings_are;
      holds = λ is_open. c.in_err-make.ensures.commits.refused honest w (was.holds (c.make.ensures.commits.opened honest is_open)) is_open;
      settled = λ is_open. c.in_err-make.ensures.commits.still_settled honest (was.settled (c.make.ensures.commits.opened honest is_open)) is_open;
      outside = λ is_open. c.make.ensures.mode ∙ was.outside (c.make.ensures.commits.opened honest is_open);
      unlimited = λ is_open. c.make.ensures.commits.serves.limit ∙ was.unlimited (c.make.ensures.commits.opened honest is_open);
    })

pub returns-clause-crash : goal.returns-clause-crash
returns-clause-crash g c honest live w stands =
    let was = stands (c.make.ensures.commits.clean honest) in
    c.make.ensures.commits.crash honest w (was.sound, c.requires.decided w (c.make.ensures.commits.clean honest) stands) (was.holds live) (was.settled live)

pub returns-in_err-make-clause-crash : goal.returns-in_err-make-clause-crash
returns-in_err-make-clause-crash g c honest live w stands =
    let was = stands (c.make.ensures.commits.clean honest) in
    c.make.ensures.commits.crash honest w (was.sound, c.requires.decided w (c.make.ensures.commits.clean honest) stands) (was.holds live) (was.settled live)

-- only Damaged is told as Damaged
told_damaged : (f : Fault) → told_as f ≡ BookDamaged → f ≡ Damaged
told_damaged Damaged e = refl
told_damaged _ e = absurd cc

pub returns-in_err-make-clause-damaged : goal.returns-in_err-make-clause-damaged
returns-in_err-make-clause-damaged g c honest = err_same _ _ _ c.from_residual.ensures.1 (λ told w stands.
    let began = c.make.ensures.commits.clean honest in
    let was = stands began in
    let decided = c.requires.decided w began stands in
    c.in_err-make.ensures.commits.damaged honest (told_damaged c.in_err-make.field-0.0 told) w (was.sound, decided) was.holds)
