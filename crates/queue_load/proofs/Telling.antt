-- What reads of whole tables tell, one after another.
use Rattle.std.proofs.Common.{◌≡◌, Result, Ok, Err, IfOk, IfErr, IsErrAnd, IsTrue, OnOk, ap, sym, subst, ◌∙◌}
use Rattle.std.proofs.lemmas.Result.{IfErr-weaker, IfOk-weaker}
use Rattle.sqlite.specs.Effect.{Database}
use Rattle.sqlite.specs.State.{State, HasCleanDisk, IsUnchanged}
use Rattle.queue_rows.specs.Versions.{Version}
use Rattle.sqlite.proofs.Callers.{unchanged_then}
use Rattle.queue_tables.specs.Leaving.{LeavesTables}
use Rattle.queue_tables.specs.Tables.{schema_of}
use Rattle.queue_tables.specs.declared.fault.Fault.{Fault}
use Rattle.queue_tables.specs.declared.fault.Fault.TheVariants.{Damaged}
use Rattle.queue_tables.proofs.Ending.{on_ok}
use Rattle.queue_tables.proofs.Leaving.{leaves_all, leaves_then}
use Rattle.queue_tables.proofs.Reading.{unchanged_open}
use Rattle.queue_load.specs.Reads.{HasBook, ReadsTable}

-- what rows that were read, or a formless one of them, say of a table
pub reads_by : {T : Type 0} {old new : State} {Read : T → Type 0} {Bad : Type 0} {IsRead : Database → T → Type 0} {HaveForm : Database → Type 0} {Known : Type 0} (r : Result T Fault)
    → LeavesTables old new → (HasCleanDisk new → OnOk r (IsUnchanged old new)) → (HasBook old → Known) → (Known → HasCleanDisk new → IfOk r Read) → (Known → HasCleanDisk new → IfErr r (λ e. e ≡ Damaged → Bad))
    → ((n : Version) → old.now.schema ≡ schema_of n → (x : T) → Read x → IsRead old.now x) → ((n : Version) → old.now.schema ≡ schema_of n → Bad → ¬ HaveForm old.now) → ReadsTable old new r IsRead HaveForm
reads_by r leaves same known read bad ok err = record {
  leaves = leaves;
  same = same;
  read = λ fits clean. let it = fits (leaves.clean clean) in IfOk-weaker r _ _ (ok it.0 it.1) (read (known fits) clean);
  damaged = λ fits clean. let it = fits (leaves.clean clean) in IfErr-weaker r _ _ (λ e told d. err it.0 it.1 (told d)) (bad (known fits) clean);
}

-- nothing was read
pub reads_none : {T : Type 0} {s : State} {IsRead : Database → T → Type 0} {HaveForm : Database → Type 0} (r : Result T Fault) (e : Fault) → IsErrAnd r (λ f. f ≡ e) → (e ≡ Damaged → ¬ HaveForm s.now) → ReadsTable s s r IsRead HaveForm
reads_none (Ok x) e same bad = absurd same
reads_none (Err f) e same bad = record { leaves = leaves_all _; same = λ clean. tt; read = λ fits clean. tt; damaged = λ fits clean d. bad (sym same ∙ d) }

-- it isn't there
pub reads_without : {T : Type 0} (s : State) (x : T) {IsRead : Database → T → Type 0} {HaveForm : Database → Type 0} → (HasCleanDisk s → IsTrue s.is_open) → ((n : Version) → s.now.schema ≡ schema_of n → IsRead s.now x) → ReadsTable s s (Ok x) IsRead HaveForm
reads_without s x live read = record { leaves = leaves_all s; same = λ clean. unchanged_open s (live clean); read = λ fits clean. let it = fits clean in read it.0 it.1; damaged = λ fits clean. tt }

-- what an Ok makes of what was read
pub tells : {T U : Type 0} {old new : State} {x : T} {y : U} {IsRead : Database → T → Type 0} {IsTold : Database → U → Type 0} {Formed HaveForm : Database → Type 0}
    → ReadsTable old new (Ok x) IsRead Formed → (IsRead old.now x → IsTold old.now y) → ReadsTable old new (Ok y) IsTold HaveForm
tells reads then = record { leaves = reads.leaves; same = reads.same; read = λ fits clean. then (reads.read fits clean); damaged = λ fits clean. tt }

-- an error that a `?` hands on
pub hands_on : {T U : Type 0} {old new : State} {IsRead : Database → T → Type 0} {IsTold : Database → U → Type 0} {Formed HaveForm : Database → Type 0} (r : Result U Fault) (e : Fault)
    → IsErrAnd r (λ f. f ≡ e) → ReadsTable old new (Err e) IsRead Formed → (HaveForm old.now → Formed old.now) → ReadsTable old new r IsTold HaveForm
hands_on (Ok y) e same reads within = absurd same
hands_on (Err f) e same reads within = record {
  leaves = reads.leaves;
  same = λ clean. tt;
  read = λ fits clean. tt;
  damaged = λ fits clean d form. reads.damaged fits clean (sym same ∙ d) (within form);
}

-- one table after others
pub both : {T U : Type 0} {a b c : State} {x : T} {First : Database → T → Type 0} {Next : Database → U → Type 0} {Formed HaveForm : Database → Type 0} (r : Result U Fault)
    → ReadsTable a b (Ok x) First Formed → ReadsTable b c r Next HaveForm → ReadsTable a c r (λ db y. First db x × Next db y) HaveForm
both {T} {U} {a} {b} {c} {x} {First} {Next} {Formed} {HaveForm} r first last = record {
  leaves = leaves_then a b c first.leaves last.leaves;
  same = λ clean. on_ok r _ _ (unchanged_then a b c (first.same (last.leaves.clean clean))) (last.same clean);
  read = λ fits clean.
      let is = now_is (last.leaves.clean clean) in
      IfOk-weaker r _ _ (λ y read. (first.read fits (last.leaves.clean clean), subst (λ (d : Database). Next d y) is read)) (last.read (fits_still fits (last.leaves.clean clean)) clean);
  damaged = λ fits clean.
      let is = now_is (last.leaves.clean clean) in
      IfErr-weaker r _ _ (λ e told d form. told d (subst (λ (d : Database). HaveForm d) (sym is) form)) (last.damaged (fits_still fits (last.leaves.clean clean)) clean);
}
  where
    now_is : HasCleanDisk b → b.now ≡ a.now
    now_is early = (first.same early).0.now_is

    fits_still : HasBook a → HasCleanDisk b → HasBook b
    fits_still fits early again = let it = fits (first.leaves.clean early) in (it.0, ap (λ (d : Database). d.schema) (now_is early) ∙ it.1)
