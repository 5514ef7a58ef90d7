use Rattle.std.proofs.Common.{[], IsTrue, arith, rules}
use Rattle.std.proofs.lemmas.Result.{IfErr-weaker, IfOk-weaker}
use Rattle.sqlite.specs.Given.{HasGiven, IsPlain}
use Rattle.sqlite.specs.Held.{state}
use Rattle.sqlite.specs.Listing.{understood}
use Rattle.sqlite.specs.State.{State, CommitsShowing, HasCleanDisk, IsUnchanged}
use Rattle.sqlite.proofs.Callers.{begun_plain, unchanged_then}
use Rattle.sqlite.proofs.StateLemmas.{survives_then}
use Rattle.queue_tables.proofs.Ending.{clean_before, on_ok, query_fails}
use Rattle.queue_tables.proofs.Leaving.{begun_unchanged, leaves_all, left_leaves, query_stays, still_outside, survives_serves}
use Rattle.queue_tables.proofs.Reading.{left_then, plain_at}
use Rattle.queue_load.specs.Reads.{IsUnderstood}
use Rattle.queue_load.proofs.Loading.{same_read, same_formless}
use Rattle.queue_load.proofs.table.read_table.Goals.{After-read_rows}
use Rattle.queue_load.proofs.table.read_table.Given.{Over}
use Rattle.queue_load.proofs.table.read_table.Goals as goal

-- the query that has begun, before its first row
module _ (g : Over) (c : After-read_rows g) where
  abbrev old : State
  old = state g.S.Store c.args.conn.now

  abbrev first : State
  first = state g.S.Store c.in_ok-rows.rows.conn.now

  abbrev now : State
  now = state g.S.Store c.read_rows.new.rows.conn.now

  early : HasCleanDisk first → HasCleanDisk old
  early = clean_before old first c.in_ok-rows.ensures.survives.clean

  mid : HasCleanDisk now → HasCleanDisk first
  mid = clean_before first now c.read_rows.ensures.reads.survives.clean

  same : HasCleanDisk first → IsUnchanged old first
  same clean = begun_unchanged g.S.Store c.args.sql.now [] c.args.conn.now c.in_ok-rows.rows.conn.now c.requires.query (c.in_ok-rows.ensures.begun clean)

  plain : IsUnderstood c.args.sql.now old → HasCleanDisk first → IsPlain (understood old.now.schema c.args.sql.now)
  plain fits clean = fits (early clean)

  given : IsUnderstood c.args.sql.now old → HasCleanDisk first → HasGiven g.S.Store c.args.sql.now [] c.in_ok-rows.rows.conn.now []
  given fits clean = (begun_plain g.S.Store c.args.sql.now [] c.args.conn.now c.in_ok-rows.rows.conn.now (plain fits clean) (c.in_ok-rows.ensures.begun clean)).0

pub returns-then-not-is_autocommit-clause-leaves : goal.returns-then-not-is_autocommit-clause-leaves
returns-then-not-is_autocommit-clause-leaves g c = leaves_all (state g.S.Store c.args.conn.now)

pub returns-in_err-rows-clause-leaves : goal.returns-in_err-rows-clause-leaves
returns-in_err-rows-clause-leaves g c =
    let old = state g.S.Store c.args.conn.now in
    let new = state g.S.Store c.query.follows.lender-at-none in
    let held = rw c.in_err-rows.was at c.query.follows.holds-at-none in
    let outside : IsTrue c.is_autocommit.result = search rules in
    left_leaves old new (c.is_autocommit.ensures.settled outside) (λ clean. omega (arith, held.survives.clean)) (query_stays c.args.sql.now [] old new c.requires.query held.survives)
    (still_outside old.in_transaction new.in_transaction c.is_autocommit.result c.is_autocommit.ensures.value outside held.mode) (survives_serves old new (CommitsShowing c.args.sql.now [] old) held.survives)
    (λ clean. query_fails c.args.sql.now [] old new c.in_err-rows.field-0.0 (held.err clean))

pub returns-clause-leaves : goal.returns-clause-leaves
returns-clause-leaves g c =
    let it = (goal.at.returns-clause-leaves g c).After-read_rows in
    let outside : IsTrue c.is_autocommit.result = search rules in
    let reads = c.read_rows.ensures.reads in
    let survives = survives_then (old g it) (first g it) (now g it) (CommitsShowing c.args.sql.now [] (old g it)) (λ _. ⊥) (CommitsShowing c.args.sql.now [] (old g it)) (λ clean db commits. commits) (λ clean db none. absurd none) c.in_ok-rows.ensures.survives reads.survives in
    let kept = left_leaves (old g it) (now g it) (c.is_autocommit.ensures.settled outside) (clean_before (old g it) (now g it) survives.clean) (query_stays c.args.sql.now [] (old g it) (now g it) c.requires.query survives)
    (still_outside (old g it).in_transaction (now g it).in_transaction c.is_autocommit.result c.is_autocommit.ensures.value outside (λ before. reads.mode (c.in_ok-rows.ensures.mode before)))
    (survives_serves (old g it) (now g it) (CommitsShowing c.args.sql.now [] (old g it)) survives)
    (λ clean. let was = same g it (mid g it clean) in left_then (old g it) (first g it) (now g it) was (reads.left clean was.0.is_open)) in
    search (rules, kept)

pub returns-clause-same : goal.returns-clause-same
returns-clause-same g c clean =
    let it = (goal.at.returns-clause-same g c).After-read_rows in
    let late : HasCleanDisk (now g it) = search rules in
    let was = same g it (mid g it late) in
    let kept = on_ok c.read_rows.result _ _ (unchanged_then (old g it) (first g it) (now g it) was) (c.read_rows.ensures.reads.same late was.0.is_open) in
    search (rules, kept)

pub returns-clause-read : goal.returns-clause-read
returns-clause-read g c fits clean =
    let it = (goal.at.returns-clause-read g c).After-read_rows in
    let late : HasCleanDisk (now g it) = search rules in
    let was = same g it (mid g it late) in
    IfOk-weaker c.read_rows.result _ _ (λ v has. same_read c.args.sql.now (old g it) (first g it) was.0.now_is g.T.TableRow.tells v.items has)
    (c.read_rows.ensures.reads.read late was.0.is_open c.args.sql.now (plain_at c.args.sql.now (old g it).now (first g it).now (plain g it fits (mid g it late)) was.0.now_is) (given g it fits (mid g it late)))

pub returns-clause-formless : goal.returns-clause-formless
returns-clause-formless g c fits clean =
    let it = (goal.at.returns-clause-formless g c).After-read_rows in
    let late : HasCleanDisk (now g it) = search rules in
    let was = same g it (mid g it late) in
    IfErr-weaker c.read_rows.result _ _ (λ e told d. same_formless c.args.sql.now (old g it) (first g it) was.0.now_is g.T.TableRow.is_formless (told d)) (c.read_rows.ensures.reads.formless late was.0.is_open c.args.sql.now (given g it fits (mid g it late)))
