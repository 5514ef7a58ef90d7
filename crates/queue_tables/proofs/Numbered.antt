-- The number of the schema is put.
use Rattle.std.proofs.Common.{◌≡◌, ℕ, ℤ, pos, List, [], ◌∷◌, Ok, true, refl, sym, ap, subst, ◌∙◌}
use Rattle.sqlite.specs.Cast.{cast_row}
use Rattle.sqlite.specs.Order.{Row, column}
use Rattle.sqlite.specs.State.{State, ExecutesInside}
use Rattle.sqlite.specs.Tree.{rowid}
use Rattle.sqlite.specs.declared.types.Value.{Value}
use Rattle.sqlite.specs.declared.types.Value.TheVariants.{Null, Int, Text as Words}
use Rattle.queue_core.specs.World.{World}
use Rattle.queue_rows.specs.Rows.{meta_row}
use Rattle.queue_rows.specs.Versions.{Version}
use Rattle.queue_rows.specs.declared.rows.MetaRow.{MetaRow}
use Rattle.queue_tables.proofs.Casts.{cast_null, cast_int}
use Rattle.queue_tables.proofs.Changing.{updates_row}
use Rattle.queue_tables.proofs.Held.{holds_meta}
use Rattle.queue_tables.proofs.Numbers.{numbered_meta}
use Rattle.queue_tables.proofs.PlainQueries.{shown_of}
use Rattle.queue_tables.proofs.Statements.{meta_still, update_next_where, update_schema_is, update_schema_terms, update_schema_text}
use Rattle.queue_tables.specs.Content.{Holds, content_of, numbered_content}
use Rattle.queue_tables.specs.Kept.{replaced}
use Rattle.queue_tables.specs.Plain.{table_of}
use Rattle.queue_tables.specs.Steps.{is_numbered}
use Rattle.queue_tables.specs.Tables.{book_schema, meta}
use Rattle.queue_tables.specs.Values.{number, meta_values, meta_view}

schema_put : ℕ → Row → Row
schema_put n v = column v 0 ∷ number n ∷ column v 2 ∷ column v 3 ∷ column v 4 ∷ column v 5 ∷ column v 6 ∷ []

unfoldable schema_stored : MetaRow → ℕ → ℤ → Row
schema_stored m n id = Int id ∷ Null ∷ number n ∷ Words m.uri ∷ Words m.name ∷ number m.estimate ∷ Int m.epoch ∷ number m.next_number ∷ []

cast_schema : (m : MetaRow) (n : ℕ) (id : ℤ) → cast_row (table_of meta) (schema_stored m n id) ≡ schema_stored m n id
unfolding schema_stored
cast_schema m n id = rw (cast_null, cast_int id, cast_int (pos n), cast_int (pos m.estimate), cast_int m.epoch, cast_int (pos m.next_number)) refl

schema_shown : (m : MetaRow) (n : ℕ) (r : Row) (id : ℤ) → rowid r ≡ Int id → meta_view r ≡ meta_values m → shown_of update_schema_terms (number n ∷ []) r ≡ Int id ∷ schema_stored m n id
unfolding schema_stored
schema_shown m n r id keyed is =
    let c : column r 3 ≡ Words m.uri = ap (λ (v : Row). column v 2) is in
    let d : column r 4 ≡ Words m.name = ap (λ (v : Row). column v 3) is in
    let e : column r 5 ≡ number m.estimate = ap (λ (v : Row). column v 4) is in
    let f : column r 6 ≡ Int m.epoch = ap (λ (v : Row). column v 5) is in
    let g : column r 7 ≡ number m.next_number = ap (λ (v : Row). column v 6) is in
    rw (keyed, c, d, e, f, g) refl

schema_view : (m : MetaRow) (n : ℕ) (r : Row) (id : ℤ) → rowid r ≡ Int id → meta_view r ≡ meta_values m → meta_view (schema_stored m n id) ≡ schema_put n (meta_values m)
unfolding schema_stored schema_put
schema_view m n r id keyed is =
    let first : Int id ≡ number m.one = sym keyed ∙ ap (λ (v : Row). column v 0) is in
    ap (λ (v : Value). v ∷ number n ∷ Words m.uri ∷ Words m.name ∷ number m.estimate ∷ Int m.epoch ∷ number m.next_number ∷ []) first

schema_id : (m : MetaRow) (n : ℕ) (id : ℤ) → rowid (schema_stored m n id) ≡ Int id
unfolding schema_stored
schema_id m n id = refl

put_one : (m : MetaRow) (n : ℕ) → is_numbered 1 (meta_values m) ≡ true → replaced (is_numbered 1) (schema_put n) (meta_values m ∷ []) ≡ meta_values (record m { schema = n }) ∷ []
unfolding schema_put
put_one m n is = rw is refl

pub numbers_schema : (old new : State) (count : ℕ) (v : Version) (w : World) → Holds (numbered_content v w) old → ExecutesInside 0 update_schema_text (number 3 ∷ []) old new (Ok count) → Holds (content_of w) new
numbers_schema old new count v w has h =
    let m = meta_row v w in
    let c = numbered_content v w in
    let is : is_numbered 1 (meta_values m) ≡ true = numbered_meta m refl in
    let l = updates_row book_schema update_schema_text 0 meta update_next_where update_schema_terms update_schema_is.command update_schema_is.plain refl (λ db. refl) meta_still
    meta_view c.meta (is_numbered 1) (schema_put 3)
    old new (number 3 ∷ []) (meta_values m) (schema_stored m 3) count has.schema
    (λ r. refl)
    (λ r id keyed like. (schema_shown m 3 r id keyed like, cast_schema m 3 id, schema_id m 3 id, schema_view m 3 r id keyed like))
    has.rows.meta (rw is refl) h.0 in
    subst (λ (vs : List Row). Holds (record c { meta = vs }) new) (put_one m 3 is) (holds_meta c _ old new has l h.1.is_open)
