use Rattle.std.proofs.Common.{All, arith, rules, sym, subst}
use Rattle.sqlite.specs.Held.{state}
use Rattle.queue_tables.proofs.Statements.{select_octets_is}
use Rattle.queue_tables.specs.Sizes.{IsLengthRow}
use Rattle.queue_tables.proofs.Ending.{err_after}
use Rattle.queue_tables.proofs.Sizes.{lengths_shown, sizes_fit, sizes_shown}
use Rattle.queue_tables.proofs.document_sizes.sizes_of.Goals as goal

pub select-requires : goal.select-requires
select-requires g c = record { query = select_octets_is.shows.query }

pub returns-clause-found : goal.returns-clause-found
returns-clause-found g c clean w k sound has there =
    let it = sizes_shown (state g.S.Store c.args.conn.now) (state g.S.Store c.select.new.conn) c.args.job c.in_ok-found.found.items w k sound has there (rw (c.params-to_sql.ensures) at (c.in_ok-found.ensures.shown clean)) in
    (search (rules, it.0), search (rules, it.1))

pub returns-then-len-clause-damaged : goal.returns-then-len-clause-damaged
returns-then-len-clause-damaged g c clean d w k sound has there =
    let it = sizes_shown (state g.S.Store c.args.conn.now) (state g.S.Store c.select.new.conn) c.args.job c.in_ok-found.found.items w k sound has there (rw (c.params-to_sql.ensures) at (c.in_ok-found.ensures.shown clean)) in
    let fit = sizes_fit c.args.job w k sound there in
    omega (arith, it.0, fit.0)

pub returns-in_err-octets-clause-damaged : goal.returns-in_err-octets-clause-damaged
returns-in_err-octets-clause-damaged g c clean = err_after _ c.in_err-octets.field-0.0 _ c.from_residual-in_err-octets.ensures.1 (λ d w k sound has there.
    let are = lengths_shown (state g.S.Store c.args.conn.now) (state g.S.Store c.select.new.conn) c.args.job c.in_ok-found.found.items w k sound has there (rw (c.params-to_sql.ensures) at (c.in_ok-found.ensures.shown clean)) in
    c.in_err-octets.ensures.damaged (subst (All IsLengthRow) (sym c.as_slice.ensures.value) are) d)

pub returns-then-octets-from-clause-damaged : goal.returns-then-octets-from-clause-damaged
returns-then-octets-from-clause-damaged g c clean d w k sound has there =
    let it = sizes_shown (state g.S.Store c.args.conn.now) (state g.S.Store c.select.new.conn) c.args.job c.in_ok-found.found.items w k sound has there (rw (c.params-to_sql.ensures) at (c.in_ok-found.ensures.shown clean)) in
    let fit = sizes_fit c.args.job w k sound there in
    let sum = rw c.as_slice.ensures.value at c.in_ok-octets.ensures.sum in
    let past = rw (c.from.ensures, c.from-2.ensures) at c.if-octets-from.true in
    omega (arith, it.0, it.1, fit.1, sum, past)
