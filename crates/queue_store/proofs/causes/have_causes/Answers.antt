use Rattle.std.proofs.Common.{eq-eqb, length, sym, ◌∙◌}
use Rattle.std.proofs.lemmas.Bool.{eqb-true}
use Rattle.sqlite.specs.Held.{state}
use Rattle.queue_store.proofs.Stopping.{selection_is, shows_lacking}
use Rattle.queue_store.proofs.causes.have_causes.Goals as goal

pub select-requires : goal.select-requires
select-requires g c = record { query = selection_is.shows.query }

pub returns-clause-found : goal.returns-clause-found
returns-clause-found g c = λ schema clean.
    let rows = c.in_ok-rows.rows.items in
    let it = shows_lacking (state g.S.Store c.args.conn.now) (state g.S.Store c.select.new.conn) rows schema (c.in_ok-rows.ensures.shown clean) in
    let empty = rw c.as_slice.ensures.value at c.is_empty.ensures in
    (λ yes. it.0 (eqb-true (length rows) 0 (sym empty ∙ yes)), λ caused. empty ∙ eq-eqb (length rows) 0 (it.1 caused))
