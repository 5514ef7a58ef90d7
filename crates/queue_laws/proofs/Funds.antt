-- The free pages of accounts as rows are put.
use Rattle.std.proofs.Common.{◌≡◌, ℕ, ℤ, ◌+ℤ◌, List, map, refl, ap, ◌∙◌, false, cond}
use Rattle.std.specs.Prelude.{Some, bytes_eq, option_map, fold}
use Rattle.std.specs.FinMap.{FinMap, get, get-insert}
use Rattle.std.specs.Cmp.Lexicographic.{nat_list_cmp_total}
use Rattle.std.proofs.lemmas.Map.Text.{is_eq-slice_cmp}
use Rattle.queue_core.specs.World.{put_free, found_row, text_cmp}
use Rattle.queue_core.specs.Machine.{credited, returned}
use Rattle.queue_types.specs.declared.event.FreeRow.{FreeRow}
use Rattle.queue_types.specs.declared.job.Job.{Job}
use Rattle.queue_core.proofs.Own.{moved_from}

pub one_row : (m : FinMap text_cmp ℤ) (f : FreeRow) (a : List ℕ) → get (put_free m f) a ≡ cond (bytes_eq a f.account) (Some f.free) (get m a)
one_row m f a = get-insert nat_list_cmp_total m f.account f.free a ∙ ap (λ t. cond t (Some f.free) (get m a)) (is_eq-slice_cmp a f.account)

-- another account keeps what it has
pub others_free : (m : FinMap text_cmp ℤ) (a q : List ℕ) (before js : List Job) → bytes_eq q a ≡ false → get (fold put_free m (map (credited before js) (found_row a (get m a)))) q ≡ get m q
others_free m a q before js other = moved_from m a q before js (get m a) refl ∙ ap (λ t. cond t (option_map (λ f. f +ℤ returned before a js) (get m a)) (get m q)) other
