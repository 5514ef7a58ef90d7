use Rattle.std.proofs.Common.{ap, arith, refl, subst, sym, inl, inr}
use Rattle.std.proofs.lemmas.Result.{IfErr-weaker, on_ok_weaker}
use Rattle.commands.specs.Work.{AreIn, HasEnded}
use Rattle.commands.specs.declared.work.Work.TheVariants.{Import, Statement, Expire, Operators, Serve}
use Rattle.commands.proofs.EndingLemmas.{both, both_ok, by_four, or_same}
use Rattle.commands.proofs.WorkLemmas.{ended}
use Rattle.commands.proofs.work.work_on.Goals as goal

pub returns-in-Import : goal.returns-in-Import
returns-in-Import g c =
    subst (λ work. HasEnded g.S.Store (AreIn c.args.opened.file) work c.args.book.now c.import_into.new.book (g.W.Write.contents c.args.output.now) (g.W.Write.contents c.import_into.new.output) c.import_into.result) (sym c.in-Import.is)
    (ended g.S.Store (AreIn c.args.opened.file) (Import c.in-Import.field-0) c.args.book.now c.import_into.new.book (g.W.Write.contents c.args.output.now) (g.W.Write.contents c.import_into.new.output) c.import_into.result c.import_into.ensures.written
    (λ honest. on_ok_weaker c.import_into.result (λ told. record {
      began = c.import_into.ensures.began honest;
      done = told.0;
      live = λ leaves. told.1;
    }) (both_ok c.import_into.result _ _ (c.import_into.ensures.taken honest) (c.import_into.ensures.live honest)))
    (IfErr-weaker c.import_into.result _ _ (λ fault it. record {
      told = it.0;
      quiet = or_same g.W.Write.contents _ _ it.1;
    }) (both c.import_into.result _ _ c.import_into.ensures.told c.import_into.ensures.quiet))
    (λ honest. IfErr-weaker c.import_into.result _ _ (λ fault told. record {
      began = c.import_into.ensures.began honest;
      refused = λ w stands. let it = told.0 w stands in (
        it.0,
        it.1,
        (record { why = told.1 w stands; left = elim it.2.0 [ inl same ↦ inl (same.0, ap g.W.Write.contents same.1) | inr taken ↦ inr taken ] }, it.2.1),
      );
    }) (both c.import_into.result _ _ (c.import_into.ensures.left honest) (c.import_into.ensures.why honest))))

pub returns-in-Statement : goal.returns-in-Statement
returns-in-Statement g c =
    subst (λ work. HasEnded g.S.Store (AreIn c.args.opened.file) work c.args.book.now c.print_from.new.book (g.W.Write.contents c.args.output.now) (g.W.Write.contents c.print_from.new.output) c.print_from.result) (sym c.in-Statement.is)
    (ended g.S.Store (AreIn c.args.opened.file) (Statement c.in-Statement.words) c.args.book.now c.print_from.new.book (g.W.Write.contents c.args.output.now) (g.W.Write.contents c.print_from.new.output) c.print_from.result c.print_from.ensures.written
    (λ honest. on_ok_weaker c.print_from.result (λ told. record {
      began = c.print_from.ensures.began honest;
      done = λ w stands. let it = told.0 w stands in (
        w,
        c.print_from.ensures.kept w stands,
        ((refl, it), λ live. (w, c.print_from.ensures.crash honest live w stands, (refl, refl))),
      );
      live = λ leaves. told.1;
    }) (both_ok c.print_from.result _ _ (c.print_from.ensures.printed honest) (c.print_from.ensures.live honest)))
    (IfErr-weaker c.print_from.result _ _ (λ fault it. record {
      told = it.0;
      quiet = or_same g.W.Write.contents _ _ it.1;
    }) (both c.print_from.result _ _ c.print_from.ensures.told c.print_from.ensures.quiet))
    (λ honest. by_four c.print_from.result _ _ _ _ _ (c.print_from.ensures.damaged honest) (c.print_from.ensures.unknown honest) (c.print_from.ensures.known honest) c.print_from.ensures.quiet (λ fault damaged unknown known quiet. record {
      began = c.print_from.ensures.began honest;
      refused = λ w stands. (
        w,
        c.print_from.ensures.kept w stands,
        (
          record { undamaged = λ is. damaged is w stands; unknown = λ is. unknown is w stands; known = λ none. known w stands none; stays = refl; quiet = or_same g.W.Write.contents _ _ quiet },
          λ live. (w, c.print_from.ensures.crash honest live w stands, (refl, refl)),
        ),
      );
    })))

pub returns-in-Expire : goal.returns-in-Expire
returns-in-Expire g c =
    subst (λ work. HasEnded g.S.Store (AreIn c.args.opened.file) work c.args.book.now c.expire_in.new.book (g.W.Write.contents c.args.output.now) (g.W.Write.contents c.expire_in.new.output) c.expire_in.result) (sym c.in-Expire.is)
    (ended g.S.Store (AreIn c.args.opened.file) (Expire c.in-Expire.field-0) c.args.book.now c.expire_in.new.book (g.W.Write.contents c.args.output.now) (g.W.Write.contents c.expire_in.new.output) c.expire_in.result c.expire_in.ensures.written
    (λ honest. on_ok_weaker c.expire_in.result (λ told. record {
      began = c.expire_in.ensures.began honest;
      done = told.0;
      live = λ leaves. told.1;
    }) (both_ok c.expire_in.result _ _ (c.expire_in.ensures.expired honest) (c.expire_in.ensures.live honest)))
    (IfErr-weaker c.expire_in.result _ _ (λ fault it. record {
      told = it.0;
      quiet = or_same g.W.Write.contents _ _ it.1;
    }) (both c.expire_in.result _ _ c.expire_in.ensures.told c.expire_in.ensures.quiet))
    (λ honest. IfErr-weaker c.expire_in.result _ _ (λ fault told. record {
      began = c.expire_in.ensures.began honest;
      refused = λ w stands. let it = told.0 w stands in (
        it.0,
        it.1,
        (
          record { undamaged = λ is. told.1 is w stands; left = elim it.2.0 [ inl same ↦ inl (same.0, ap g.W.Write.contents same.1) | inr ended ↦ inr ended ] },
          it.2.1,
        ),
      );
    }) (both c.expire_in.result _ _ (c.expire_in.ensures.left honest) (c.expire_in.ensures.damaged honest))))

pub returns-in-Operators : goal.returns-in-Operators
returns-in-Operators g c =
    subst (λ work. HasEnded g.S.Store (AreIn c.args.opened.file) work c.args.book.now c.set_operators_in.new.book (g.W.Write.contents c.args.output.now) (g.W.Write.contents c.set_operators_in.new.output) c.set_operators_in.result) (sym c.in-Operators.is)
    (ended g.S.Store (AreIn c.args.opened.file) (Operators c.in-Operators.work) c.args.book.now c.set_operators_in.new.book (g.W.Write.contents c.args.output.now) (g.W.Write.contents c.set_operators_in.new.output) c.set_operators_in.result c.set_operators_in.ensures.written
    (λ honest. on_ok_weaker c.set_operators_in.result (λ told. record {
      began = c.set_operators_in.ensures.began honest;
      done = told.0;
      live = λ leaves. told.1;
    }) (both_ok c.set_operators_in.result _ _ (c.set_operators_in.ensures.set honest) (c.set_operators_in.ensures.live honest)))
    (IfErr-weaker c.set_operators_in.result _ _ (λ fault it. record {
      told = it.0;
      quiet = or_same g.W.Write.contents _ _ it.1;
    }) (both c.set_operators_in.result _ _ c.set_operators_in.ensures.told c.set_operators_in.ensures.quiet))
    (λ honest. IfErr-weaker c.set_operators_in.result _ _ (λ fault told. record {
      began = c.set_operators_in.ensures.began honest;
      refused = λ w stands. let it = told.0 w stands in (
        it.0,
        it.1,
        (
          record { undamaged = λ is. told.1 is w stands; left = elim it.2.0 [ inl same ↦ inl (same.0, ap g.W.Write.contents same.1) | inr set ↦ inr set ] },
          it.2.1,
        ),
      );
    }) (both c.set_operators_in.result _ _ (c.set_operators_in.ensures.left honest) (c.set_operators_in.ensures.damaged honest))))

pub returns-in-Serve : goal.returns-in-Serve
returns-in-Serve g c =
    subst (λ work. HasEnded g.S.Store (AreIn c.args.opened.file) work c.args.book.now c.serve_book.new.book (g.W.Write.contents c.args.output.now) (g.W.Write.contents c.serve_book.new.output) c.serve_book.result) (sym c.in-Serve.is)
    (ended g.S.Store (AreIn c.args.opened.file) (Serve c.in-Serve.words) c.args.book.now c.serve_book.new.book (g.W.Write.contents c.args.output.now) (g.W.Write.contents c.serve_book.new.output) c.serve_book.result c.serve_book.ensures.written
    (λ honest. on_ok_weaker c.serve_book.result (λ told. record {
      began = c.serve_book.ensures.began honest;
      done = λ w stands. let it = told w stands in (
        it.0.queue,
        it.0.stands,
        (
          (it.0.counts, it.0.are, it.1.0, it.1.1),
          λ live.
              let left = it.0.left live in
              let is = it.1.0 in
              (left.0, left.1, (it.0.counts, it.0.are, omega (arith, is), left.2)),
        ),
      );
      live = λ leaves. absurd leaves;
    }) (c.serve_book.ensures.served honest))
    (IfErr-weaker c.serve_book.result _ _ (λ fault it. record {
      told = it.0;
      quiet = elim it.1 [ inl stream ↦ inl stream | inr told ↦ inr (inr told) ];
    }) (both c.serve_book.result _ _ c.serve_book.ensures.told c.serve_book.ensures.stopped))
    (λ honest. IfErr-weaker c.serve_book.result _ _ (λ fault it. record {
      began = c.serve_book.ensures.began honest;
      refused = λ w stands. let end = it.0 w stands in (
        end.0.queue,
        end.0.stands,
        (
          record { undamaged = λ is. it.1 is w stands; counts = end.0.counts; are = end.0.are; few = end.1.0; told = end.1.1 },
          λ live. let left = end.0.left live in (left.0, left.1, (end.0.counts, end.0.are, end.1.0, left.2)),
        ),
      );
    }) (both c.serve_book.result _ _ (c.serve_book.ensures.err honest) (c.serve_book.ensures.damaged honest))))
