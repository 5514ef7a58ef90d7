-- A document on its way out.
use Rattle.std.proofs.Common.{◌≡◌, inl, inr, ℕ, List, [], ◌∷◌, ◌⊎◌, ◌++◌, length, Option, sym, subst, append-nil}
use Rattle.std.specs.Io.KnownBytes.{Appends}
use Rattle.sqlite.specs.Order.{Row}
use Rattle.sqlite_schema.specs.declared.schema.Schema.{Schema}
use Rattle.sqlite.specs.Listing.{understood}
use Rattle.sqlite.specs.State.{State, Begins}
use Rattle.sqlite.proofs.Callers.{IsPlain}
use Rattle.queue_tables.specs.Tables.{book_schema}
use Rattle.queue_tables.proofs.Reading.{answers_same, begins_at}
use Rattle.queue_shown.specs.Sent.{pieces_select, bytes_of, FindsNoBlob, HasSent, HasSentFront}
use Rattle.queue_shown.proofs.Texts.{select_pieces_is}

pub pieces_plain_in : (schema : Schema) → schema ≡ book_schema → IsPlain (understood schema pieces_select)
pieces_plain_in schema has = subst (λ (s : Schema). IsPlain (understood s pieces_select)) (sym has) select_pieces_is.shows.plain

-- whole pieces so far
pub front_whole : (params : Row) (s : State) (a b : Option (List ℕ)) (rows : List Row) (n : ℕ) → Begins pieces_select params s rows → Appends a b (bytes_of rows) → n ≡ length (bytes_of rows) → HasSentFront params s a b n
front_whole params s a b rows n begins p e = record { bytes = bytes_of rows; appends = p; count = e; front = inr (rows, begins, [], sym (append-nil (bytes_of rows))) }

-- what was sent, where the tables were the same
module _ (params : Row) (old now : State) (a b : Option (List ℕ)) (n : ℕ) (same : now.now ≡ old.now) where
  pub same_sent : HasSent params now a b n → HasSent params old a b n
  same_sent h = record { rows = h.rows; all = answers_same pieces_select params old now h.rows same h.all; appends = h.appends; count = h.count }

  begins_there : {bytes : List ℕ} → (bytes ≡ []) ⊎ ((rows : List Row) × Begins pieces_select params now rows × (rest : List ℕ) × (bytes_of rows ≡ bytes ++ rest))
      → (bytes ≡ []) ⊎ ((rows : List Row) × Begins pieces_select params old rows × (rest : List ℕ) × (bytes_of rows ≡ bytes ++ rest))
  begins_there (inl none) = inl none
  begins_there (inr some) = inr (some.0, begins_at pieces_select params old now some.0 same some.1, some.2, some.3)

  pub same_front : HasSentFront params now a b n → HasSentFront params old a b n
  same_front h = record { bytes = h.bytes; appends = h.appends; count = h.count; front = begins_there h.front }

pub same_found : (params : Row) (old now : State) → now.now ≡ old.now → FindsNoBlob params now → FindsNoBlob params old
same_found params old now same h = record { before = h.before; row = h.row; there = begins_at pieces_select params old now (h.before ++ h.row ∷ []) same h.there; bare = h.bare }
