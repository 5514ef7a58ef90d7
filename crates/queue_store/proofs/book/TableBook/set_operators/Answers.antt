use Rattle.std.proofs.Common.{◌≡◌, subst, ◌∙◌}
use Rattle.queue_types.specs.Settings.{AreSettings}
use Rattle.queue_core.specs.World.{World}
use Rattle.queue_tables.specs.Steps.{with_operators}
use Rattle.queue_store.proofs.Keeping.{sound_with}
use Rattle.queue_store.proofs.Results.{err_same, on_any_err, told_damaged}
use Rattle.queue_store.specs.Kept.{StandsFor}
use Rattle.queue_store.specs.Laws.{open_lasts}
use Rattle.queue_store.proofs.book.TableBook.set_operators.Goals as goal

pub returns-in_err-try_clone-clause-crash : goal.returns-in_err-try_clone-clause-crash
returns-in_err-try_clone-clause-crash g c = λ honest live w stands. open_lasts (with_operators c.args.operators.now w) stands (g.met.S.Store.settled c.args.self.now.conn.store) honest live

pub returns-in_err-settings-clause-crash : goal.returns-in_err-settings-clause-crash
returns-in_err-settings-clause-crash g c = λ honest live w stands. open_lasts (with_operators c.args.operators.now w) stands (g.met.S.Store.settled c.args.self.now.conn.store) honest live

pub returns-in_err-set_operators-clause-kept : goal.returns-in_err-set_operators-clause-kept
returns-in_err-set_operators-clause-kept g c =
    let new = record c.args.self.now { conn = c.set_operators.new.conn } in
    on_any_err _ ((w : World) → StandsFor g.S.Store c.args.self.now w → StandsFor g.S.Store new w) (λ w stood honest.
    let commits = c.in_err-set_operators.ensures.commits in
    let was = stood (commits.clean honest) in
    record {
      sound = was.sound;
      settings_are = was.settings_are;
      holds = λ is_open. commits.refused honest w (was.holds (commits.opened honest is_open)) is_open;
      settled = λ is_open. commits.still_settled honest (was.settled (commits.opened honest is_open)) is_open;
      outside = λ is_open. c.set_operators.ensures.mode ∙ was.outside (commits.opened honest is_open);
      unlimited = λ is_open. commits.serves.limit ∙ was.unlimited (commits.opened honest is_open);
    })

pub returns-in_err-set_operators-clause-crash : goal.returns-in_err-set_operators-clause-crash
returns-in_err-set_operators-clause-crash g c = λ honest live w stands.
    let was = stands (c.set_operators.ensures.commits.clean honest) in
    c.set_operators.ensures.commits.crash honest w was.sound (was.holds live) (was.settled live)

pub returns-clause-crash : goal.returns-clause-crash
returns-clause-crash g c = λ honest live w stands.
    let was = stands (c.set_operators.ensures.commits.clean honest) in
    c.set_operators.ensures.commits.crash honest w was.sound (was.holds live) (was.settled live)

pub returns-in_err-set_operators-clause-damaged : goal.returns-in_err-set_operators-clause-damaged
returns-in_err-set_operators-clause-damaged g c = λ honest. err_same _ _ _ c.from_residual-in_err-set_operators.ensures.1 (λ told w stands.
    let was = stands (c.set_operators.ensures.commits.clean honest) in
    c.in_err-set_operators.ensures.commits.damaged honest (told_damaged c.in_err-set_operators.field-0.0 told) w was.sound was.holds)

pub returns-clause-done : goal.returns-clause-done
returns-clause-done g c = λ w stands honest.
    let commits = c.in_ok-set_operators.ensures.commits in
    let was = stands (commits.clean honest) in
    let settings : c.in_ok-settings.settings ≡ (with_operators c.args.operators.now w).settings = c.in_ok-settings.ensures.same ∙ (λ i. record (was.settings_are i) { operators = c.in_ok-try_clone.ensures.same i }) in
    record {
      sound = sound_with c.args.operators.now w (subst AreSettings settings c.in_ok-settings.ensures.limits) was.sound;
      settings_are = settings;
      holds = λ is_open. commits.made honest w was.sound (was.holds (commits.opened honest is_open));
      settled = λ is_open. commits.settled honest;
      outside = λ is_open. c.set_operators.ensures.mode ∙ was.outside (commits.opened honest is_open);
      unlimited = λ is_open. commits.serves.limit ∙ was.unlimited (commits.opened honest is_open);
    }
