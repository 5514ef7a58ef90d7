-- What the texts that read parts of the tables mean.
use Rattle.std.proofs.Common.{pos, [], ◌∷◌, codes, true, refl}
use Rattle.sqlite.specs.declared.types.Value.TheVariants.{Int}
use Rattle.sqlite.specs.Term.{lit, col, op2}
use Rattle.sqlite_sql.specs.declared.ops.BinaryOp.TheVariants.{Arith, Compare}
use Rattle.sqlite_sql.specs.declared.ops.ArithOp.TheVariants.{Add}
use Rattle.sqlite_sql.specs.declared.ops.CompareOp.TheVariants.{Eq, Lt, Le, Gt}
use Rattle.sqlite.specs.Collation.TheVariants.{Binary}
use Rattle.sqlite_value.specs.Keys.{ascending as plain_key}
use Rattle.sqlite_value.specs.declared.keys.Key.{Key}
use Rattle.sqlite_resolve.specs.Compile.{first}
use Rattle.sqlite_tied.specs.Compute.{everything}
use Rattle.sqlite.specs.Listing.{understood}
use Rattle.queue_tables.proofs.Statements.{IsLimited, IsSelection, Selection, jobs_selected}

abbrev pub descending : Key
descending = record { collation = Binary; descending = true }

-- ---- the next number

abbrev pub select_next : Selection
select_next = record {
  text = codes "SELECT next_number FROM meta WHERE one = 1";
  names = codes "next_number" ∷ [];
  tree = 0;
  filter = op2 (Compare Eq Binary) (col 1 0) (lit (Int (pos 1))) ∷ [];
  terms = col 1 7 ∷ [];
  order = [];
}

pub select_next_is : IsSelection select_next
unfolding understood first everything
select_next_is = record { shows = record { command = refl; plain = (refl, refl); query = refl; unlisted = refl }; plainly = λ db. refl }

-- ---- a grant

abbrev pub select_grant : Selection
select_grant = record {
  text = codes "SELECT pages FROM grants WHERE batch = ?1 AND account = ?2";
  names = codes "pages" ∷ [];
  tree = 8;
  filter = op2 (Compare Eq Binary) (col 1 1) (col 0 0) ∷ op2 (Compare Eq Binary) (col 1 2) (col 0 1) ∷ [];
  terms = col 1 3 ∷ [];
  order = [];
}

pub select_grant_is : IsSelection select_grant
unfolding understood first everything
select_grant_is = record { shows = record { command = refl; plain = (refl, refl); query = refl; unlisted = refl }; plainly = λ db. refl }

-- ---- a report

abbrev pub select_report : Selection
select_report = record {
  text = codes "SELECT kind, count, state, total FROM reports WHERE job = ?1 AND seq = ?2";
  names = codes "kind" ∷ codes "count" ∷ codes "state" ∷ codes "total" ∷ [];
  tree = 10;
  filter = op2 (Compare Eq Binary) (col 1 1) (col 0 0) ∷ op2 (Compare Eq Binary) (col 1 2) (col 0 1) ∷ [];
  terms = col 1 3 ∷ col 1 4 ∷ col 1 5 ∷ col 1 6 ∷ [];
  order = [];
}

pub select_report_is : IsSelection select_report
unfolding understood first everything
select_report_is = record { shows = record { command = refl; plain = (refl, refl); query = refl; unlisted = refl }; plainly = λ db. refl }

-- ---- the jobs that may start

abbrev pub select_pending : Selection
select_pending = jobs_selected (codes " FROM jobs WHERE phase = 0 AND hold = 0 AND incoming = 0 ORDER BY number") (op2 (Compare Eq Binary) (col 1 8) (lit (Int (pos 0))) ∷ op2 (Compare Eq Binary) (col 1 6) (lit (Int (pos 0))) ∷ op2 (Compare Eq Binary) (col 1 7) (lit (Int (pos 0))) ∷ []) ((col 1 0, plain_key Binary) ∷ [])

pub select_pending_is : IsSelection select_pending
unfolding understood first everything
select_pending_is = record { shows = record { command = refl; plain = (refl, refl); query = refl; unlisted = refl }; plainly = λ db. refl }

-- ---- the jobs that have expired

abbrev pub select_expired : Selection
select_expired = jobs_selected (codes " FROM jobs WHERE phase = 0 AND hold + incoming > 0 AND created <= ?1 ORDER BY number")
    (op2 (Compare Eq Binary) (col 1 8) (lit (Int (pos 0))) ∷ op2 (Compare Gt Binary) (op2 (Arith Add) (col 1 6) (col 1 7)) (lit (Int (pos 0))) ∷ op2 (Compare Le Binary) (col 1 12) (col 0 0) ∷ []) ((col 1 0, plain_key Binary) ∷ [])

pub select_expired_is : IsSelection select_expired
unfolding understood first everything
select_expired_is = record { shows = record { command = refl; plain = (refl, refl); query = refl; unlisted = refl }; plainly = λ db. refl }

-- ---- all jobs of an owner

abbrev pub select_own : Selection
select_own = jobs_selected (codes " FROM jobs WHERE owner = ?1 ORDER BY number") (op2 (Compare Eq Binary) (col 1 2) (col 0 0) ∷ []) ((col 1 0, plain_key Binary) ∷ [])

pub select_own_is : IsSelection select_own
unfolding understood first everything
select_own_is = record { shows = record { command = refl; plain = (refl, refl); query = refl; unlisted = refl }; plainly = λ db. refl }

-- ---- an owner's live jobs

abbrev pub select_own_live : Selection
select_own_live = jobs_selected (codes " FROM jobs WHERE owner = ?1 AND phase < 3 ORDER BY number") (op2 (Compare Eq Binary) (col 1 2) (col 0 0) ∷ op2 (Compare Lt Binary) (col 1 8) (lit (Int (pos 3))) ∷ []) ((col 1 0, plain_key Binary) ∷ [])

pub select_own_live_is : IsSelection select_own_live
unfolding understood first everything
select_own_live_is = record { shows = record { command = refl; plain = (refl, refl); query = refl; unlisted = refl }; plainly = λ db. refl }

-- ---- so many of them, by the rank of their state

abbrev pub select_live : Selection
select_live = jobs_selected (codes " FROM jobs WHERE owner = ?1 AND phase < 3 ORDER BY (phase = 0) + (hold + incoming > 0), number LIMIT ?2") select_own_live.filter
    ((op2 (Arith Add) (op2 (Compare Eq Binary) (col 1 8) (lit (Int (pos 0)))) (op2 (Compare Gt Binary) (op2 (Arith Add) (col 1 6) (col 1 7)) (lit (Int (pos 0)))), plain_key Binary) ∷ (col 1 0, plain_key Binary) ∷ [])

pub select_live_is : IsLimited select_live 1
unfolding understood first everything
select_live_is = record { shows = record { command = refl; plain = (refl, refl); query = refl; unlisted = refl }; plainly = λ db. refl }

-- of all callers
abbrev pub select_all_live : Selection
select_all_live = jobs_selected (codes " FROM jobs WHERE phase < 3 ORDER BY (phase = 0) + (hold + incoming > 0), number LIMIT ?1") (op2 (Compare Lt Binary) (col 1 8) (lit (Int (pos 3))) ∷ []) select_live.order

pub select_all_live_is : IsLimited select_all_live 0
unfolding understood first everything
select_all_live_is = record { shows = record { command = refl; plain = (refl, refl); query = refl; unlisted = refl }; plainly = λ db. refl }

-- ---- so many of an owner's jobs that ended

abbrev pub select_ended : Selection
select_ended = jobs_selected (codes " FROM jobs WHERE owner = ?1 AND ended > 0 ORDER BY ended DESC, number DESC LIMIT ?2") (op2 (Compare Eq Binary) (col 1 2) (col 0 0) ∷ op2 (Compare Gt Binary) (col 1 14) (lit (Int (pos 0))) ∷ []) ((col 1 14, descending) ∷ (col 1 0, descending) ∷ [])

pub select_ended_is : IsLimited select_ended 1
unfolding understood first everything
select_ended_is = record { shows = record { command = refl; plain = (refl, refl); query = refl; unlisted = refl }; plainly = λ db. refl }

-- of all callers
abbrev pub select_all_ended : Selection
select_all_ended = jobs_selected (codes " FROM jobs WHERE ended > 0 ORDER BY ended DESC, number DESC LIMIT ?1") (op2 (Compare Gt Binary) (col 1 14) (lit (Int (pos 0))) ∷ []) select_ended.order

pub select_all_ended_is : IsLimited select_all_ended 0
unfolding understood first everything
select_all_ended_is = record { shows = record { command = refl; plain = (refl, refl); query = refl; unlisted = refl }; plainly = λ db. refl }
