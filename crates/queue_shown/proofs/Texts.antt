-- What the texts that read the tables mean.
use Rattle.std.proofs.Common.{[], ◌∷◌, codes, refl}
use Rattle.sqlite.specs.Term.{col, op2}
use Rattle.sqlite_sql.specs.declared.ops.BinaryOp.TheVariants.{Compare}
use Rattle.sqlite_sql.specs.declared.ops.CompareOp.TheVariants.{Eq}
use Rattle.sqlite.specs.Collation.TheVariants.{Binary}
use Rattle.sqlite_value.specs.Keys.{ascending as plain_key}
use Rattle.sqlite_resolve.specs.Compile.{first}
use Rattle.sqlite_tied.specs.Compute.{everything}
use Rattle.sqlite.specs.Listing.{understood}
use Rattle.queue_tables.proofs.Statements.{IsSelection, Selection}

-- ---- SELECT jobs: what the state of a job comes from

abbrev pub select_state : Selection
select_state = record {
  text = codes "SELECT hold, incoming, phase, why, stopping FROM jobs WHERE number = ?1";
  names = codes "hold" ∷ codes "incoming" ∷ codes "phase" ∷ codes "why" ∷ codes "stopping" ∷ [];
  tree = 1;
  filter = op2 (Compare Eq Binary) (col 1 0) (col 0 0) ∷ [];
  terms = col 1 6 ∷ col 1 7 ∷ col 1 8 ∷ col 1 9 ∷ col 1 10 ∷ [];
  order = [];
}

pub select_state_is : IsSelection select_state
unfolding understood first everything
select_state_is = record { shows = record { command = refl; plain = (refl, refl); query = refl; unlisted = refl }; plainly = λ db. refl }

-- ---- SELECT documents: one document

abbrev pub select_head : Selection
select_head = record {
  text = codes "SELECT format, octets FROM documents WHERE job = ?1 AND doc = ?2";
  names = codes "format" ∷ codes "octets" ∷ [];
  tree = 2;
  filter = op2 (Compare Eq Binary) (col 1 1) (col 0 0) ∷ op2 (Compare Eq Binary) (col 1 2) (col 0 1) ∷ [];
  terms = col 1 3 ∷ col 1 4 ∷ [];
  order = [];
}

pub select_head_is : IsSelection select_head
unfolding understood first everything
select_head_is = record { shows = record { command = refl; plain = (refl, refl); query = refl; unlisted = refl }; plainly = λ db. refl }

-- ---- SELECT pieces: those of a document

abbrev pub select_pieces : Selection
select_pieces = record {
  text = codes "SELECT bytes FROM pieces WHERE job = ?1 AND doc = ?2 ORDER BY piece";
  names = codes "bytes" ∷ [];
  tree = 4;
  filter = op2 (Compare Eq Binary) (col 1 1) (col 0 0) ∷ op2 (Compare Eq Binary) (col 1 2) (col 0 1) ∷ [];
  terms = col 1 4 ∷ [];
  order = (col 1 3, plain_key Binary) ∷ [];
}

pub select_pieces_is : IsSelection select_pieces
unfolding understood first everything
select_pieces_is = record { shows = record { command = refl; plain = (refl, refl); query = refl; unlisted = refl }; plainly = λ db. refl }
