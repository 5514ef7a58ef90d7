-- Sound rows and sound worlds are one and the same.
use Rattle.std.proofs.Common.{◌≡◌, ℕ, List, [], ◌∷◌, Bool, true, false, Result, Ok, Err, IfOk, IsTrue, ◌↔◌, length, map, sym, ap, subst, ◌∙◌, arith}
use Rattle.queue_core.specs.Sound.{IsSound}
use Rattle.queue_core.specs.World.{World}
use Rattle.queue_rows.specs.Pieces.{length_in}
use Rattle.queue_rows.specs.Rows.{Tables, meta_row, rows_of, bytes_of, HaveWorld, StandForSoundWorlds, StandForNoSoundWorld}
use Rattle.queue_rows.specs.Sound.{AreSoundRows}
use Rattle.queue_rows.specs.Versions.{IsOf, Version}
use Rattle.queue_rows.specs.declared.rows.MetaRow.{MetaRow}
use Rattle.queue_rows.proofs.WorldHas.{fits_back, has_rows, rows_back, version_of}
use Rattle.queue_rows.proofs.WorldOf.{FitTogether, world_from}
use Rattle.queue_rows.proofs.WorldOnly.{world_back, rows_are_sound}
use Rattle.queue_rows.proofs.WorldSound.{sound_world}

fits : (t : Tables) → AreSoundRows t → FitTogether t
fits t h = record {
  no_documents = λ k d lt. let j = h.tables.jobs.jobs k d lt in (j.bare, omega (arith, j.bare, j.sound.octets));
  grouped = h.tables.jobs.grouped;
  pieces = h.tables.jobs.pieces;
  grants = h.tables.grants.grants_order;
  accounts = h.tables.grants.accounts_order;
  reports = h.tables.reports.order;
  sums = λ k d lt. let b = h.tables.owners.balanced k d lt in (b.reserved, b.printed);
}

world_for : (t : Tables) (bs : List (List ℕ)) → map length bs ≡ map length_in t.pieces → AreSoundRows t → HaveWorld t bs
world_for t bs lengths h = record {
  world = world_from h.row t bs;
  sound = sound_world t bs lengths h;
  version = version_of t.policy t.operators;
  fits = fits_back h.row t bs h.row.schema h.meta.schema;
  rows = rows_back h.row t bs lengths h.only h.meta (fits t h);
  bytes = (has_rows h.row t bs lengths (fits t h)).pieces;
}

pub sound_rows : {E : Type 0} (r : Result Bool E) (t : Tables) → IfOk r (λ b. IsTrue b ↔ AreSoundRows t) → IfOk r (λ b. IsTrue b → StandForSoundWorlds t)
sound_rows (Ok b) t h = λ passed bs lengths. world_for t bs lengths (h.0 passed)
sound_rows (Err e) t h = tt

pub damaged_rows : {E : Type 0} (r : Result Bool E) (t : Tables) → IfOk r (λ b. IsTrue b ↔ AreSoundRows t) → IfOk r (λ b. b ≡ false → StandForNoSoundWorld t)
damaged_rows (Ok b) t h = λ failed n w sound of same. let passed : b ≡ true = h.1 (subst AreSoundRows same (rows_are_sound n w of sound)) in absurd (cc (passed, failed))
damaged_rows (Err e) t h = tt

-- the row of `meta` is the first
abbrev first_meta : MetaRow → List MetaRow → MetaRow
first_meta m [] = m
first_meta m (x ∷ xs) = x

pub one_world : (m n : Version) (v w : World) → IsSound v → IsSound w → IsOf m v → IsOf n w → rows_of m v ≡ rows_of n w → bytes_of v ≡ bytes_of w → v ≡ w
one_world m n v w left right of_left of_right same bytes =
    let meta : meta_row m v ≡ meta_row n w = ap (λ (t : Tables). first_meta (meta_row m v) t.meta) same in
    sym (world_back m v of_left left) ∙ (λ i. world_from (meta i) (same i) (bytes i)) ∙ world_back n w of_right right
