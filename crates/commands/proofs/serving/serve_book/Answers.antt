use Rattle.std.proofs.Common.{◌∙◌, arith, inl, inr, subst, sym}
use Rattle.std.proofs.KnownBytes.{Appends-trans}
use Rattle.std.proofs.lemmas.Result.{err_from_is_err_and, IfErr-weaker, on_ok_weaker}
use Rattle.command_ends.specs.Faults.{IsOfStream}
use Rattle.print_server.specs.Lines.{listening_line, served_lines}
use Rattle.commands.proofs.FaultLemmas.{no_damage, of_serve_stream}
use Rattle.commands.proofs.CrashLemmas.{none_served}
use Rattle.commands.proofs.serving.serve_book.Goals as goal

pub returns-clause-served : goal.returns-clause-served
returns-clause-served g c = λ honest. on_ok_weaker c.serve_at.result (λ served w stands.
    let same = c.service-service.ensures.settings ∙ c.in_ok-started.ensures.settings w (c.serve_at.ensures.began honest) stands in
    let end = served w stands same in (
      end.0,
      (
        end.1.0,
        Appends-trans (g.W.Write.contents c.args.output.now) (g.W.Write.contents c.start.new.output) (g.W.Write.contents c.serve_at.new.output)
            (listening_line c.args.words.port) (served_lines end.0.counts) c.in_ok-started.ensures.told end.1.1,
      ),
    )) (c.serve_at.ensures.served honest)

pub returns-clause-written : goal.returns-clause-written
returns-clause-written g c = on_ok_weaker c.serve_at.result (λ told. (
  told.0,
  told.1,
  Appends-trans (g.W.Write.contents c.args.output.now) (g.W.Write.contents c.start.new.output) (g.W.Write.contents c.serve_at.new.output)
      (listening_line c.args.words.port) (served_lines told.0) c.in_ok-started.ensures.told told.2,
)) c.serve_at.ensures.written

pub returns-clause-stopped : goal.returns-clause-stopped
returns-clause-stopped g c = IfErr-weaker c.serve_at.result _ _ (λ fault stopped. elim stopped [
  | inl stream ↦ inl stream
  | inr told ↦ inr (
    told.0,
    told.1,
    Appends-trans (g.W.Write.contents c.args.output.now) (g.W.Write.contents c.start.new.output) (g.W.Write.contents c.serve_at.new.output)
        (listening_line c.args.words.port) (served_lines told.0) c.in_ok-started.ensures.told told.2,
  )
]) c.serve_at.ensures.stopped

pub returns-clause-err : goal.returns-clause-err
returns-clause-err g c = λ honest. IfErr-weaker c.serve_at.result _ _ (λ fault left w stands.
    let it = left w stands (c.service-service.ensures.settings ∙ c.in_ok-started.ensures.settings w (c.serve_at.ensures.began honest) stands) in (
      it.0,
      (
        it.1.0,
        elim it.1.1 [
          | inl stream ↦ inl stream
          | inr told ↦ inr (
              Appends-trans (g.W.Write.contents c.args.output.now) (g.W.Write.contents c.start.new.output) (g.W.Write.contents c.serve_at.new.output)
              (listening_line c.args.words.port) (served_lines it.0.counts) c.in_ok-started.ensures.told told
              )
        ],
      ),
    )) (c.serve_at.ensures.err honest)

pub returns-clause-damaged : goal.returns-clause-damaged
returns-clause-damaged g c = λ honest. IfErr-weaker c.serve_at.result _ _ (λ fault never is w stands.
    never is w stands (c.service-service.ensures.settings ∙ c.in_ok-started.ensures.settings w (c.serve_at.ensures.began honest) stands)) (c.serve_at.ensures.damaged honest)

pub returns-in_err-started-clause-stopped : goal.returns-in_err-started-clause-stopped
returns-in_err-started-clause-stopped g c =
    let p = err_from_is_err_and c.from_residual.result c.from_residual.ensures.1 in
    rw p.1 (inl (subst IsOfStream (sym p.2) c.in_err-started.ensures.stream))

pub returns-in_err-started-clause-err : goal.returns-in_err-started-clause-err
returns-in_err-started-clause-err g c = λ honest.
    let p = err_from_is_err_and c.from_residual.result c.from_residual.ensures.1 in
    rw p.1 (λ w stands. (none_served g.S.Store g.met.S.Store.settled c.args.book.now w honest stands, (omega arith, inl (subst IsOfStream (sym p.2) c.in_err-started.ensures.stream))))

pub returns-in_err-started-clause-damaged : goal.returns-in_err-started-clause-damaged
returns-in_err-started-clause-damaged g c = λ honest.
    let p = err_from_is_err_and c.from_residual.result c.from_residual.ensures.1 in
    rw p.1 (λ is. absurd (no_damage _ (subst IsOfStream (sym p.2) c.in_err-started.ensures.stream) is))

pub returns-in_err-started-clause-told : goal.returns-in_err-started-clause-told
returns-in_err-started-clause-told g c =
    let p = err_from_is_err_and c.from_residual.result c.from_residual.ensures.1 in
    rw p.1 (of_serve_stream _ (subst IsOfStream (sym p.2) c.in_err-started.ensures.stream))
