use Rattle.std.proofs.Common.{[], ◌∷◌, FitsSigned, ℤ, filter, rules, subst, sym, w64}
use Rattle.std.proofs.lemmas.Int.{to_z-of_z}
use Rattle.sqlite.specs.declared.types.Value.TheVariants.{Int}
use Rattle.sqlite.specs.Held.{state}
use Rattle.queue_core.specs.World.{has_expired, rows}
use Rattle.queue_scenes.specs.Jobs.{Selects}
use Rattle.queue_scenes.proofs.Lists.{selects_expired}
use Rattle.queue_scenes.proofs.Statements.{select_expired, select_expired_is}
use Rattle.queue_scenes.proofs.expiry_scene.jobs_until.Goals as goal

pub select_jobs-requires : goal.select_jobs-requires
select_jobs-requires g c = record { query = select_expired_is.shows.query }

pub returns-clause-reads : goal.returns-clause-reads
returns-clause-reads g c = λ keep now is.
    let old = state g.S.Store c.args.conn.now in
    let fits : FitsSigned w64 c.args.moment = search rules in
    let bound = to_z-of_z w64 c.args.moment fits in
    let reads = rw (c.params-to_sql.ensures, bound) at c.select_jobs.ensures.reads in
    reads _ (subst (λ (z : ℤ). Selects select_expired.text (Int z ∷ []) old (λ w. filter (has_expired keep now) (rows w))) (sym is) (selects_expired keep now old))
