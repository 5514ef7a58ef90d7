-- A document of a sound queue has 1 to 16,777,216 bytes.
use Rattle.std.proofs.Common.{◌≡◌, inl, inr, ℕ, ◌-◌, ◌==◌, nat_lt, suc, zero, List, [], ◌∷◌, Option, Some, None, slice_get, subst}
use Rattle.std.specs.List.{AllByRecursion as Each}
use Rattle.std.proofs.lemmas.Bool.{cases_Bool}
use Rattle.queue_core.specs.Sound.{IsSound, IsSoundDocument, IsSoundEntry}
use Rattle.queue_core.specs.World.{Entry, World}
use Rattle.queue_types.specs.declared.document.Document.{Document}
use Rattle.queue_shown.specs.Fetched.{document_in, nth_document}

sound_nth : (ds : List Document) (i : ℕ) (d : Document) → Each IsSoundDocument ds → slice_get ds i ≡ Some d → IsSoundDocument d
sound_nth [] i d all there = absurd cc
sound_nth (x ∷ ds) zero d all there = let is : x ≡ d = cc in subst IsSoundDocument is all.0
sound_nth (x ∷ ds) (suc i) d all there = sound_nth ds i d all.1 there

sound_of : (e : Entry) (n : ℕ) (d : Document) → IsSoundEntry e → nth_document (Some e) n ≡ Some d → IsSoundDocument d
sound_of e n d sound there = elim (cases_Bool (nat_lt 0 n)) [
  | inl some ↦ sound_nth e.documents (n - 1) d sound.sizes (rw some at there)
  | inr none ↦ absurd (let no : ◌≡◌ {A = Option Document} None (Some d) = rw none at there in cc)
]

sound_document : (job n : ℕ) (es : List Entry) (d : Document) → Each IsSoundEntry es → document_in es job n ≡ Some d → IsSoundDocument d
sound_document job n [] d all there = absurd cc
sound_document job n (e ∷ es) d all there = elim (cases_Bool (e.row.number == job)) [
  | inl same ↦ sound_of e n d all.0 (rw same at there)
  | inr apart ↦ sound_document job n es d all.1 (rw apart at there)
]

pub document_fits : (w : World) (job n : ℕ) (d : Document) → IsSound w → document_in w.jobs job n ≡ Some d → IsSoundDocument d
document_fits w job n d sound there = sound_document job n w.jobs d sound.entries there
