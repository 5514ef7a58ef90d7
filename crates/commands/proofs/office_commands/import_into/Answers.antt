use Rattle.std.proofs.Common.{refl, subst, inl, inr}
use Rattle.std.proofs.lemmas.Result.{IfErr-weaker, on_ok_weaker}
use Rattle.queue_core.specs.World.{World}
use Rattle.queue_store.specs.Kept.{StandsFor, shown_by}
use Rattle.commands.proofs.EndingLemmas.{any_err, both, both_ok, under}
use Rattle.commands.proofs.FaultLemmas.{no_file}
use Rattle.commands.specs.Work.{AreIn, taken, untaken}
use Rattle.commands.proofs.WorkLemmas.{import_of, in_read}
use Rattle.commands.proofs.CrashLemmas.{beside, known_of_all, lasts}
use Rattle.commands.proofs.office_commands.import_into.Goals as goal

pub returns-clause-taken : goal.returns-clause-taken
returns-clause-taken g c = λ honest. on_ok_weaker c.import_bytes_at.result (λ told w stands.
    let it = told.0 w stands in
    let read = in_read c.args.file c.in_ok-bytes.bytes c.in_ok-bytes.was c.as_slice.result.now c.as_slice.ensures.value in
    let all = import_of (AreIn c.args.file) c.in_ok-now.now c.in_ok-now.ensures.moment c.as_slice.result.now read w it.0 it.2.0 it.2.1 in (
      it.0,
      it.1,
      (
        (it.2.0, all, it.2.2),
        λ live. (it.0, lasts g.S.Store g.met.S.Store.settled c.import_bytes_at.new.book it.0 honest told.1 it.1, taken (it.2.0, all) refl),
      ),
    )) (both_ok c.import_bytes_at.result _ _ (c.import_bytes_at.ensures.taken honest) (c.import_bytes_at.ensures.live honest))

pub returns-clause-left : goal.returns-clause-left
returns-clause-left g c = λ honest. IfErr-weaker c.import_bytes_at.result _ _ (λ fault told w stands.
    let read = in_read c.args.file c.in_ok-bytes.bytes c.in_ok-bytes.was c.as_slice.result.now c.as_slice.ensures.value in
    let all = import_of (AreIn c.args.file) c.in_ok-now.now c.in_ok-now.ensures.moment c.as_slice.result.now read w in
    let end = told.0 w stands in
    elim end.2 [
      | inl file ↦ (
        w,
        subst (λ (z : World). StandsFor g.S.Store c.import_bytes_at.new.book z) file.1 end.1,
        (
          inl (refl, file.2),
          λ live.
              let it = c.import_bytes_at.ensures.crash honest live w stands in
              beside _ w it.0 it.2.0 (shown_by g.S.Store c.import_bytes_at.new.book) it.2.1 (known_of_all _ _ w it.0 it.2.0 (λ v told. (told.0, all v told.0 told.1)) it.2.2),
        ),
      )
      | inr it ↦ (
        end.0,
        end.1,
        (
          inr (it.0, (it.1.0, all end.0 it.1.0 it.1.1)),
          λ live. (
            end.0,
            lasts g.S.Store g.met.S.Store.settled c.import_bytes_at.new.book end.0 honest (told.1 live (no_file fault _ it.0)) end.1,
            taken (it.1.0, all end.0 it.1.0 it.1.1) refl,
          ),
        ),
      )
    ]) (both c.import_bytes_at.result _ _ (c.import_bytes_at.ensures.why honest) (under c.import_bytes_at.result _ _ (c.import_bytes_at.ensures.still_live honest)))

pub returns-in_err-now-clause-left : goal.returns-in_err-now-clause-left
returns-in_err-now-clause-left g c = λ honest. any_err c.from_residual.result _ (λ fault w stands. (
  w,
  stands,
  (inl (refl, refl), λ live. (w, lasts g.S.Store g.met.S.Store.settled c.args.book.now w honest live stands, untaken refl refl)),
))

pub returns-in_err-bytes-clause-left : goal.returns-in_err-bytes-clause-left
returns-in_err-bytes-clause-left g c = λ honest. any_err c.from_residual-in_err-bytes.result _ (λ fault w stands. (
  w,
  stands,
  (inl (refl, refl), λ live. (w, lasts g.S.Store g.met.S.Store.settled c.args.book.now w honest live stands, untaken refl refl)),
))

pub returns-clause-quiet : goal.returns-clause-quiet
returns-clause-quiet g c = IfErr-weaker c.import_bytes_at.result _ _ (λ fault it. elim it.0 [
  | inl stream ↦ inl stream
  | inr file ↦ inr (it.1 file.0 file.1)
]) (both c.import_bytes_at.result _ _ c.import_bytes_at.ensures.told c.import_bytes_at.ensures.quiet)

pub returns-clause-why : goal.returns-clause-why
returns-clause-why g c = λ honest. IfErr-weaker c.import_bytes_at.result _ _ (λ fault told w stands. elim (told w stands).2 [
  | inl file ↦ inr (record {
    now = c.in_ok-now.now;
    moment = c.in_ok-now.ensures.moment;
    bytes = c.as_slice.result.now;
    read = in_read c.args.file c.in_ok-bytes.bytes c.in_ok-bytes.was c.as_slice.result.now c.as_slice.ensures.value;
    refused = file.0;
  })
  | inr it ↦ inl it.0
]) (c.import_bytes_at.ensures.why honest)
