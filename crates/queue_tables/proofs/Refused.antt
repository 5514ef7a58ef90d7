-- What stands behind a write that a constraint refused.
use Rattle.std.proofs.Common.{◌≡◌, ◌⊎◌, inl, inr, ℕ, zero, suc, ◌/◌, List, [], ◌∷◌, ◌++◌, length, slice_get, Option, Some, None, option_map, Ok, Err, Result, sym, ap, subst, subst₂, ◌∙◌, append-nil, length-append, IsTrue, false, arith}
use Rattle.std.proofs.lemmas.Bool.{cases_Bool}
use Rattle.sqlite.specs.declared.types.Value.TheVariants.{Null}
use Rattle.sqlite.specs.declared.error.Error.{Error}
use Rattle.sqlite.specs.declared.error.Error.TheVariants.{SqliteFailure}
use Rattle.sqlite.specs.declared.error.ErrorCode.TheVariants.{ConstraintViolation}
use Rattle.sqlite.specs.Order.{Row}
use Rattle.sqlite.specs.Term.{Term}
use Rattle.sqlite.specs.Program.{overlay}
use Rattle.sqlite.specs.Schema.{Schema}
use Rattle.sqlite.specs.Source.TheVariants.{Values}
use Rattle.sqlite.specs.Command.{Command}
use Rattle.sqlite.specs.Command.TheVariants.{Insert, Update}
use Rattle.sqlite.specs.Edit.{edit_of, Edit, Applies}
use Rattle.sqlite.specs.Rowids.TheVariants.{Chosen, Given}
use Rattle.sqlite.specs.Tree.{Trees}
use Rattle.sqlite.specs.Does.{Does, OnRows, Concludes}
use Rattle.sqlite.specs.Rows.{Written, Task, Edited, Inserts, Updates}
use Rattle.sqlite.specs.Effect.{Database, value_rows, edit_error, RefusesSource, RefusesQuery}
use Rattle.sqlite.specs.Clock.{timed}
use Rattle.sqlite.specs.Listing.{understood}
use Rattle.sqlite.specs.State.{State, mode_of, store_error, ExecutesInside, ExecutesIn, IsNotRun, IsNoStatement, IsMisplaced, IsUnchanged, RunsCommand, IsStatement, text_of, shows_rows}
use Rattle.sqlite.proofs.Callers.{IsPlain, command_of, statement_of, one_step}
use Rattle.sqlite_resolve.specs.declared.compiled.Compiled.{Compiled}
use Rattle.sqlite_trees.specs.declared.error.StoreError.{StoreError}
use Rattle.sqlite_trees.specs.declared.error.StoreError.TheVariants.{OutOfMemory}
use Rattle.sqlite_schema.specs.declared.program.Program.{Program}
use Rattle.sqlite_schema.specs.declared.schema.Constraint.{Constraint}
use Rattle.sqlite_schema.specs.declared.schema.Constraint.TheVariants.{ForeignKey}
use Rattle.sqlite_schema.specs.declared.schema.Keys.TheVariants.{Enforced}
use Rattle.sqlite_schema.specs.declared.schema.Among.TheVariants.{All as EachKey}
use Rattle.sqlite_schema.specs.Rules.{Refers}
use Rattle.sqlite_rules.specs.declared.error.Refusal.{Refusal}
use Rattle.sqlite_rules.specs.declared.error.Refusal.TheVariants.{Violates}
use Rattle.sqlite_rules.specs.Action.{works, Leads, Writes}
use Rattle.sqlite_rules.specs.Edit.{IsRefused, taken_by}
use Rattle.sqlite_rules.specs.Calls.{ids_of}
use Rattle.queue_tables.specs.Plain.{Plain, table_of}
use Rattle.queue_tables.proofs.PlainQueries.{plain_query}
use Rattle.queue_tables.proofs.Writing.{IsListing, lists, same_value, went}

abbrev pub told : Constraint → Error
told rule = SqliteFailure (ConstraintViolation rule)

-- ---- no other way of a statement ends in such an error

no_store : (rule : Constraint) (cause : StoreError) → told rule ≡ store_error cause → ⊥
no_store rule OutOfMemory e = cc
no_store rule _ e = cc

no_statement : (s : State) (sql : List ℕ) (params : Row) (rule : Constraint) → IsNoStatement s sql params (told rule) → ⊥
no_statement s sql params rule (inl bad) = let e = bad.2 in cc
no_statement s sql params rule (inr it) = elim it.2 [
  | inl many ↦ let e = many.1 in cc
  | inr rest ↦ elim rest [ inl given ↦ let e = given.1 in cc | inr clock ↦ let e = clock.1 in cc ]
]

not_run : (old new : State) (sql : List ℕ) (params : Row) (rule : Constraint) → IsNotRun old new sql params (told rule) → ⊥
unfolding IsNotRun
not_run old new sql params rule (inl none) = no_statement old sql params rule none.0
not_run old new sql params rule (inr fails) = no_store rule fails.0 fails.1

misplaced : (s : State) (command : Command) (rule : Constraint) → IsMisplaced s command (told rule) → ⊥
misplaced s command rule (inl state) = let e = state.0 in cc
misplaced s command rule (inr mark) = let e = mark.0 in cc

module _ (sql : List ℕ) (params : Row) (old new : State) (rule : Constraint) where
  -- its command was refused, and all is as it was
  pub record RanRefused : Type 0 where
    pub c : Compiled
    pub it : IsStatement old sql params c
    pub did : Does old.step_limit (mode_of old) (timed params c.formats it.now) old.now (text_of sql c) c.returning c.command (Err (Some (told rule)))
    pub same : IsUnchanged old new

  ran_into : (c : Compiled) (it : IsStatement old sql params c) → RunsCommand old new sql c (timed params c.formats it.now) (Err (told rule)) → RanRefused
  ran_into c it (inr fails) = absurd (no_store rule fails.0 fails.1)
  ran_into c it (inl refused) = record {
    c = c;
    it = it;
    did = elim refused.0 [ inl place ↦ absurd (misplaced old c.command rule place) | inr does ↦ does.1 ];
    same = refused.1;
  }

  ran_refused : ExecutesInside 0 sql params old new (Err (told rule)) → RanRefused
  unfolding ExecutesIn
  ran_refused (inr ends) = absurd (let e = ends.1 in cc)
  ran_refused (inl h) = elim h.0 [
    | inl none ↦ absurd (not_run old new sql params rule none)
    | inr ran ↦ elim (cases_Bool (shows_rows false ran.0)) [
      | inl shows ↦ absurd (let e = (rw shows at ran.2).0 in cc)
      | inr runs ↦ ran_into ran.0 ran.1 (rw runs at ran.2)
    ]
  ]

  -- it is refused only on a connection that is open
  pub refused_open : ExecutesInside 0 sql params old new (Err (told rule)) → IsTrue old.is_open
  refused_open h = (ran_refused h).same.0.was_open

  module _ (schema : Schema) (has : old.now.schema ≡ schema) (command : Command) (is : command_of (understood schema sql) ≡ command) (plain : IsPlain (understood schema sql)) where
    -- the command was refused
    abbrev pub WasRefused : Type 0
    WasRefused = Does old.step_limit (mode_of old) params old.now (statement_of sql (understood schema sql)) None command (Err (Some (told rule))) × IsUnchanged old new

    pub refused_as : ExecutesInside 0 sql params old new (Err (told rule)) → WasRefused
    refused_as h =
        let r = ran_refused h in
        let known = sym r.it.is ∙ ap (λ s. understood s sql) has in
        let bare = subst IsPlain (sym known) plain in
        (subst₂ (λ k t. Does old.step_limit (mode_of old) params old.now t None k (Err (Some (told rule)))) (ap command_of known ∙ is) (ap (statement_of sql) known) (rw (bare.0, bare.1, append-nil params) at r.did), r.same)

-- ---- which part of a write refused

-- a part that refused did so itself, or a later one did
stops : {B E R : Type 0} {e : E} {Stops : E → Type 0} → ((stop : E) × Stops stop × (◌≡◌ {A = Result B E} (Err e) (Err stop))) ⊎ R → Stops e ⊎ R
stops {B} {E} {R} {e} {Stops} (inl stopped) = let same : e ≡ stopped.0 = let it = stopped.2 in cc in inl (subst Stops (sym same) stopped.1)
stops (inr on) = inr on

-- the edit is refused, or some row would lack a parent after it
abbrev pub IsRefusedWrite : Schema → Trees → Edit → Constraint → Type 0
IsRefusedWrite schema db edit rule =
    IsRefused schema Enforced db edit (Violates rule) ⊎ ((next : Trees) × Applies schema Enforced db edit next × (¬ Refers EachKey schema next) × (rule ≡ ForeignKey))

-- Where no foreign key acts, it is the edit that is refused.
one_refused : (schema : Schema) (db : Trees) (why : Refusal) (edit : Edit) → works schema Enforced 0 edit.table.tree (taken_by db edit) edit.news ≡ []
    → Writes schema Enforced db edit (Err (Some why)) → IsRefused schema Enforced db edit why
one_refused schema db why edit none (inl refused) = let same : why ≡ refused.0 = let e = refused.2 in cc in subst (IsRefused schema Enforced db edit) (sym same) refused.1
one_refused schema db why edit none (inr (inl big)) = absurd (let e = big.3 in cc)
one_refused schema db why edit none (inr (inr went)) = absurd (settled went.2.0 (rw none at went.2.1))
  where
    settled : (n : ℕ) → Leads schema Enforced n went.0 [] (Err (Some why)) → ⊥
    settled zero h = let e = h.1 in cc
    settled (suc n) h = omega (arith, ap length h.2, length-append h.0 (h.1 ∷ []))

violates : (rule : Constraint) (why : Refusal) → told rule ≡ edit_error why → why ≡ Violates rule
violates rule (Violates other) e = cc
violates rule _ e = absurd cc

refusal_of : (rule : Constraint) (why : Option Refusal) → ◌≡◌ {A = Option Error} (Some (told rule)) (option_map edit_error why) → why ≡ Some (Violates rule)
refusal_of rule None e = absurd cc
refusal_of rule (Some why) e = let same : told rule ≡ edit_error why = cc in ap (λ (w : Refusal). Some w) (violates rule why same)

edit_refused : (schema : Schema) (db : Trees) (rule : Constraint) (edit : Edit) → works schema Enforced 0 edit.table.tree (taken_by db edit) edit.news ≡ []
    → Edited schema Enforced db edit (Err (Some (told rule))) → IsRefused schema Enforced db edit (Violates rule)
edit_refused schema db rule edit none h = one_refused schema db (Violates rule) edit none (subst (λ (w : Option Refusal). Writes schema Enforced db edit (Err w)) (refusal_of rule h.0 h.2) h.1)

no_query : (limit : Option ℕ) (db : Database) (q : Program) (params : Row) (rule : Constraint) → RefusesQuery limit db q params (told rule) → ⊥
no_query limit db q params rule (inl typed) = let e = typed.0 in cc
no_query limit db q params rule (inr (inl over)) = let e = over.0 in cc
no_query limit db q params rule (inr (inr cut)) = let e = cut.0 in cc

no_source : (limit : Option ℕ) (db : Database) (params : Row) (terms : List Term) (width : ℕ) (rule : Constraint) → RefusesSource limit db params (Values terms width) (told rule) → ⊥
no_source limit db params terms width rule (inl typed) = let e = typed.0 in cc
no_source limit db params terms width rule (inr cut) = let e = cut.0 in cc

-- the foreign keys are tested last
unparented : (task : Task) (s : State) (rule : Constraint) (w : Written) → Concludes task (mode_of s) None w (Err (Some (told rule))) → (¬ Refers EachKey task.schema w.trees) × (rule ≡ ForeignKey)
unparented task s rule w h = elim (stops h) [
  | inl tested ↦ (tested.0, let e = tested.1 in cc)
  | inr on ↦ absurd (elim (stops on.2) [
    | inl shown ↦ let e = shown in cc
    | inr more ↦ let e = more.2 in cc
  ])
]

module _ (schema : Schema) (sql : List ℕ) (at : ℕ) (p : Plain) (terms : List Term) (width : ℕ)
    (is : command_of (understood schema sql) ≡ Insert at (Values terms width)) (plain : IsPlain (understood schema sql))
    (placed : slice_get schema.tables at ≡ Some (table_of p)) (still : (news : List Row) → works schema Enforced 0 p.tree [] news ≡ []) where
  module _ (limit : Option ℕ) (params row : Row) (rule : Constraint) (one : value_rows params width (length terms / width) terms ≡ row ∷ []) (db : Trees) where
    abbrev task_of : Task
    task_of = record { limit = limit; keys = Enforced; schema = schema; table = table_of p; params = params }

    abbrev edit_with : List Row → Edit
    edit_with rows = edit_of db (table_of p) [] Chosen 0 rows

    given_one : (rows : List Row) → rows ≡ value_rows (params ++ []) width (length terms / width) terms → rows ≡ row ∷ []
    given_one rows e = e ∙ rw (append-nil params) one

    edit_stopped : Inserts task_of (Values terms width) db (Err (Some (told rule))) → IsRefused schema Enforced db (edit_with (row ∷ [])) (Violates rule)
    edit_stopped h = elim (stops h) [
      | inl unread ↦ absurd (no_source limit (record { schema = schema; trees = db }) (params ++ []) terms width rule unread)
      | inr given ↦ elim (stops given.2) [
        | inl uncounted ↦ absurd (let e = uncounted in cc)
        | inr counted ↦
            let none : counted.0 ≡ None = let e = counted.1 in cc in
            elim (stops counted.2) [
              | inl refused ↦ subst (λ (rows : List Row). IsRefused schema Enforced db (edit_with rows) (Violates rule)) (given_one given.0 given.1.1) (edit_refused schema db rule (edit_with given.0) (still _) refused)
              | inr edited ↦ absurd (elim (stops edited.2) [ inl uncounted ↦ let e = uncounted in cc | inr more ↦ let e = more.2 in cc ])
            ]
      ]
    ]

    edit_done : (w : Written) → Inserts task_of (Values terms width) db (Ok w) → Applies schema Enforced db (edit_with (row ∷ [])) w.trees
    edit_done w h =
        let given = went h in
        let counted = went given.2 in
        let written = went counted.2 in
        let noted = went written.2 in
        let trees : w.trees ≡ written.0 = ap (λ (it : Written). it.trees) (same_value noted.2) ∙ same_value noted.1 in
        let applied = one_step schema Enforced db written.0 (edit_with given.0) (still _) written.1 in
        subst (λ (t : Trees). Applies schema Enforced db (edit_with (row ∷ [])) t) (sym trees) (subst (λ (rows : List Row). Applies schema Enforced db (edit_with rows) written.0) (given_one given.0 given.1.1) applied)

  -- an INSERT of one row of terms is refused
  pub insert_refused : (old new : State) (params row : Row) (rule : Constraint) → old.now.schema ≡ schema → value_rows params width (length terms / width) terms ≡ row ∷ []
      → ExecutesInside 0 sql params old new (Err (told rule)) → IsRefusedWrite schema old.now.trees (edit_of old.now.trees (table_of p) [] Chosen 0 (row ∷ [])) rule
  insert_refused old new params row rule has one h =
      let db = old.now.trees in
      let command = Insert at (Values terms width) in
      let text = statement_of sql (understood schema sql) in
      let task : Task = record { limit = old.step_limit; keys = Enforced; schema = schema; table = table_of p; params = params } in
      let did = subst (λ s. Does old.step_limit (mode_of old) params (record old.now { schema = s }) text None command (Err (Some (told rule)))) has (refused_as sql params old new rule schema has command is plain h).0 in
      let found : OnRows task (mode_of old) None command db (Err (Some (told rule))) = rw placed at did in
      elim (stops found) [
        | inl stopped ↦ inl (edit_stopped old.step_limit params row rule one db stopped)
        | inr done ↦ let none = unparented task old rule done.0 done.2 in inr (done.0.trees, edit_done old.step_limit params row rule one db done.0 done.1, none.0, none.1)
      ]

module _ (schema : Schema) (sql : List ℕ) (at : ℕ) (p : Plain) (terms project : List Term)
    (is : command_of (understood schema sql) ≡ Update at (record { lets = []; body = plain_query p.tree terms project [] })) (plain : IsPlain (understood schema sql))
    (placed : slice_get schema.tables at ≡ Some (table_of p)) (plainly : (db : Trees) → overlay db [] p.tree ≡ db p.tree)
    (still : (olds news : List Row) → works schema Enforced 0 p.tree olds news ≡ []) where
  abbrev pub IsRefusedUpdate : Trees → Row → Constraint → Type 0
  IsRefusedUpdate db params rule =
      (rows : List Row) × IsListing p.tree terms project [] params (db p.tree) rows × IsRefusedWrite schema db (edit_of db (table_of p) (ids_of rows) Given 1 rows) rule

  module _ (limit : Option ℕ) (params : Row) (rule : Constraint) (db : Trees) where
    abbrev task_to : Task
    task_to = record { limit = limit; keys = Enforced; schema = schema; table = table_of p; params = params }

    abbrev query : Program
    query = record { lets = []; body = plain_query p.tree terms project [] }

    abbrev edit_to : List Row → Edit
    edit_to rows = edit_of db (table_of p) (ids_of rows) Given 1 rows

    update_stopped : Updates task_to query params db (Err (Some (told rule))) → IsRefusedUpdate db params rule
    update_stopped h = elim (stops h) [
      | inl unread ↦ absurd (no_query limit (record { schema = schema; trees = db }) query params rule unread)
      | inr given ↦ elim (stops given.2) [
        | inl refused ↦ (given.0, lists p.tree terms project [] params db given.0 (plainly db) (given.1.answer Null), inl (edit_refused schema db rule (edit_to given.0) (still _ _) refused))
        | inr edited ↦ absurd (let e = edited.2 in cc)
      ]
    ]

    update_done : (w : Written) → Updates task_to query params db (Ok w) → (¬ Refers EachKey schema w.trees) × (rule ≡ ForeignKey) → IsRefusedUpdate db params rule
    update_done w h none =
        let given = went h in
        let written = went given.2 in
        let trees : w.trees ≡ written.0 = ap (λ (it : Written). it.trees) (same_value written.2) in
        let applied = one_step schema Enforced db written.0 (edit_to given.0) (still _ _) written.1 in
        (given.0, lists p.tree terms project [] params db given.0 (plainly db) (given.1.answer Null), inr (w.trees, subst (λ (t : Trees). Applies schema Enforced db (edit_to given.0) t) (sym trees) applied, none.0, none.1))

  -- an UPDATE of the rows that pass WHERE is refused
  pub update_refused : (old new : State) (params : Row) (rule : Constraint) → old.now.schema ≡ schema → ExecutesInside 0 sql params old new (Err (told rule)) → IsRefusedUpdate old.now.trees params rule
  update_refused old new params rule has h =
      let db = old.now.trees in
      let command = Update at (record { lets = []; body = plain_query p.tree terms project [] }) in
      let text = statement_of sql (understood schema sql) in
      let task : Task = record { limit = old.step_limit; keys = Enforced; schema = schema; table = table_of p; params = params } in
      let did = subst (λ s. Does old.step_limit (mode_of old) params (record old.now { schema = s }) text None command (Err (Some (told rule)))) has (refused_as sql params old new rule schema has command is plain h).0 in
      let found : OnRows task (mode_of old) None command db (Err (Some (told rule))) = rw placed at did in
      elim (stops found) [
        | inl stopped ↦ update_stopped old.step_limit params rule db stopped
        | inr done ↦ update_done old.step_limit params rule db done.0 done.1 (unparented task old rule done.0 done.2)
      ]
