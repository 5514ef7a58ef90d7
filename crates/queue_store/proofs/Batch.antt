-- A text of several statements, which a transaction runs in turn.
use Rattle.std.proofs.Common.{true, ◌≡◌, ◌<◌, ℕ, zero, suc, List, [], ◌∷◌, ◌++◌, length, take, drop, None, Some, Ok, inl, inr, sym, ap, subst, subst₂, ◌∙◌, arith}
use Rattle.std.proofs.Math.Seq.{take-append_seam, drop-append_seam}
use Rattle.std.proofs.lemmas.Bool.{cases_Bool}
use Rattle.sqlite.specs.Batch.{RunInTurn, first_len}
use Rattle.sqlite.specs.Clock.{timed}
use Rattle.sqlite.specs.Held.{Held, state}
use Rattle.sqlite.specs.Listing.{understood}
use Rattle.sqlite.specs.State.{ExecutesIn, Runs, State, shows_rows, text_of}
use Rattle.sqlite.proofs.Callers.{IsPlain, command_of, statement_of}
use Rattle.sqlite_schema.specs.declared.command.Command.{Command}
use Rattle.sqlite_trees.specs.declared.store.Store.{Ghosts}

-- what the kit's `runs_as` says of a statement by itself, of one in a text of several
pub runs_in_batch : (sql : List ℕ) (old new : State) (command : Command) → command_of (understood old.now.schema sql) ≡ command → IsPlain (understood old.now.schema sql)
    → (count : ℕ) → ExecutesIn true sql [] old new (Ok count) → Runs old new None command (statement_of sql (understood old.now.schema sql)) [] count
unfolding ExecutesIn
runs_in_batch sql old new command is plain count h =
    let known = sym h.1.is in
    let bare = subst IsPlain (sym known) plain in
    let ran : Runs old new h.0.returning h.0.command (text_of sql h.0) (timed [] h.0.formats h.1.now) count = elim (cases_Bool (shows_rows true h.0)) [
      | inl shows ↦ absurd (let e = (rw shows at h.2).0 in cc)
      | inr runs ↦ rw runs at h.2
    ] in
    subst₂ (λ k t. Runs old new None k t [] count) (ap command_of known ∙ is) (ap (statement_of sql) known) (rw (bare.0, bare.1) at ran)

-- the first statement of a text, with its semicolon, ran, and then the rest
pub first_ran : {S : Type 0} (g : Ghosts S) (most : ℕ) (sql rest : List ℕ) (old new : Held S) → first_len (sql ++ rest) ≡ length sql → 0 < length sql → RunInTurn g (Some 0) most (sql ++ rest) old new (Ok tt)
    → (mid : Held S) × (count : ℕ) × ExecutesIn true sql [] (state g old) (state g mid) (Ok count) × (less : ℕ) × RunInTurn g (Some 0) less rest mid new (Ok tt)
first_ran g most [] rest old new len some ran = absurd (omega arith)
first_ran g zero (b ∷ sql) rest old new len some ran = absurd ran
first_ran g (suc most) (b ∷ sql) rest old new len some (inl failed) = absurd (let no = failed.1 in cc)
first_ran g (suc most) (b ∷ sql) rest old new len some (inr ran) =
    let text = b ∷ sql ++ rest in
    let first : take (first_len text) text ≡ b ∷ sql = ap (λ n. take n text) len ∙ take-append_seam (b ∷ sql) rest in
    let others : drop (first_len text) text ≡ rest = ap (λ n. drop n text) len ∙ drop-append_seam (b ∷ sql) rest in (
      ran.0,
      ran.1,
      subst (λ (t : List ℕ). ExecutesIn true t [] (state g old) (state g ran.0) (Ok ran.1)) first ran.2.runs,
      most,
      subst (λ (t : List ℕ). RunInTurn g (Some 0) most t ran.0 new (Ok tt)) others ran.3,
    )
