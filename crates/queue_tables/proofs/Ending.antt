-- How a transaction ends.
use Rattle.std.proofs.Common.{◌≡◌, ◌⊎◌, inl, inr, sym, ap, subst, ◌∙◌, List, ℕ, Option, None, Some, IsTrue, true, false, Bool, not, Result, Ok, Err, OnOk, IfErr, IsErrAnd, ◌≤◌, arith}
use Rattle.sqlite.specs.declared.error.Error.{Error}
use Rattle.sqlite.specs.Effect.{Database, IsDatabase}
use Rattle.sqlite.specs.State.{State, HasCleanDisk, IsRolledBack, Shows, IsUnchanged, FailsToQuery, FailsToShow, IsNotRun}
use Rattle.sqlite.specs.Order.{Row}
use Rattle.sqlite.specs.Clock.{timed}
use Rattle.sqlite_resolve.specs.declared.compiled.Compiled.{Compiled}
use Rattle.sqlite_schema.specs.declared.command.Returning.{Returning}
use Rattle.sqlite_trees.specs.View.{doubt}
use Rattle.queue_tables.specs.Content.{Content, Holds, HasContent}
use Rattle.queue_tables.specs.declared.fault.Fault.{Fault}
use Rattle.queue_tables.specs.declared.fault.Fault.TheVariants.{Damaged}
use Rattle.std.proofs.lemmas.Result.{on_ok_weaker}
pub use Rattle.std.proofs.lemmas.Result.{IfOk-weaker as if_ok}

-- a database with the same schema and rows has the same content
pub same_holds : (c : Content) (old new : State) → Holds c old → new.now ≡ old.now → IsTrue new.is_open → Holds c new
same_holds c old new has same is_open = record {
  schema = ap (λ (d : Database). d.schema) same ∙ has.schema;
  sound = subst IsDatabase (sym same) has.sound;
  rows = subst (λ (d : Database). HasContent c d.trees) (sym same) has.rows;
  live = is_open;
}

-- what a commit leaves
pub committed_holds : (c : Content) (old new : State) (mode : Bool) → Holds c old → Shows old new old.now old.now mode → Holds c new
committed_holds c old new mode h s = same_holds c old new h s.now_is s.is_open

pub on_ok : {A E : Type 0} (r : Result A E) (P Q : Type 0) → (P → Q) → OnOk r P → OnOk r Q
on_ok r P Q = on_ok_weaker r

pub clean_before : (old new : State) → doubt old.is_clean ≤ doubt new.is_clean → HasCleanDisk new → HasCleanDisk old
clean_before old new le clean = omega (arith, le, clean)

pub unchanged_holds : (c : Content) (old new : State) → Holds c old → IsUnchanged old new → Holds c new
unchanged_holds c old new h same = same_holds c old new h same.0.now_is same.0.is_open

-- a query that fails changes nothing, or what was begun is undone
pub query_fails : (sql : List ℕ) (params : Row) (old new : State) (e : Error) → FailsToQuery sql params old new e → IsUnchanged old new ⊎ IsRolledBack old new
unfolding FailsToQuery IsNotRun
query_fails sql params old new e (inl (inl refused)) = inl refused.1
query_fails sql params old new e (inl (inr failed)) = inr failed.3
query_fails sql params old new e (inr h) = shown_fails h.0 (timed params h.0.formats h.1.now) h.0.returning h.2
  where
    shown_fails : (c : Compiled) (given : Row) (r : Option Returning) → FailsToShow old new sql c given e r → IsUnchanged old new ⊎ IsRolledBack old new
    shown_fails c given None it = inl it.3
    shown_fails c given (Some what) (inl refused) = inl refused.1
    shown_fails c given (Some what) (inr failed) = inr failed.3

-- outside of a transaction nothing is said of the inside
pub not_inside : {P : Type 0} (outside inside : Bool) → outside ≡ not inside → IsTrue outside → IsTrue inside → P
not_inside outside true is out within = absurd (let both = sym out ∙ is in cc)
not_inside outside false is out within = absurd (let both = within in cc)

-- an error that a `?` hands on
pub err_after : {T : Type 0} (r : Result T Fault) (e : Fault) (P : Type 0) → IsErrAnd r (λ f. f ≡ e) → (e ≡ Damaged → P) → IfErr r (λ f. f ≡ Damaged → P)
err_after (Err f) e P same then = λ d. then (sym same ∙ d)
err_after (Ok x) e P same then = tt
