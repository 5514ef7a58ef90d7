-- The rows of a sound queue have the forms in which they are read.
use Rattle.std.proofs.Common.{◌≡◌, inl, inr, ℕ, ◌+◌, ◌^◌, ◌<◌, ◌≤◌, ◌==◌, suc, zero, List, [], ◌∷◌, Bool, true, IsTrue, cond, All, length, bytes_eq, ap, subst, arith, rules}
use Rattle.std.specs.List.{AllByRecursion as Each, flat_map, list_all, range_with_len}
use Rattle.std.specs.Str.{IsAscii, IsUtf8}
use Rattle.std.proofs.lemmas.Bool.{and_parts, cases_Bool, eqb-true}
use Rattle.std.proofs.lemmas.Bool.Decides.{nat_tests}
use Rattle.std.proofs.lemmas.List.Elements.{All-head, All-tail}
use Rattle.std.proofs.lemmas.List.Sums.{sum_by-cons}
use Rattle.std.proofs.lemmas.Slice.Eq.{bytes_eq-Decides}
use Rattle.std.proofs.lemmas.Str.{IsUtf8-from_ascii}
use Rattle.sqlite_keyed.proofs.ListLemmas.{all_map, all-flat_map, all_weaker}
use Rattle.queue_core.specs.Grants.{pages_to}
use Rattle.queue_core.specs.Limits.{IsOwner, is_batch_byte}
use Rattle.queue_types.specs.Settings.{is_uri_byte}
use Rattle.queue_core.specs.Sound.{IsSound, IsSoundDocument, IsSoundEntry}
use Rattle.queue_core.specs.World.{Entry, World}
use Rattle.queue_types.specs.declared.document.Document.{Document}
use Rattle.queue_types.specs.declared.event.GrantRow.{GrantRow}
use Rattle.queue_types.specs.declared.event.KeptReport.{KeptReport}
use Rattle.queue_types.specs.declared.job.Job.{Job}
use Rattle.queue_rows.specs.Documents.{documents_from}
use Rattle.queue_rows.specs.Grants.{IsGrantRow}
use Rattle.queue_rows.specs.Jobs.{IsJobRow, has_number}
use Rattle.queue_rows.specs.Pieces.{piece_of, pieces_in, pieces_of}
use Rattle.queue_rows.specs.Reports.{IsReportRow}
use Rattle.queue_rows.specs.Rows.{document_rows, meta_row}
use Rattle.queue_rows.specs.Versions.{Version, number_of, policy_row, first_version, second_version, third_version}
use Rattle.queue_rows.specs.declared.rows.AccountRow.{AccountRow}
use Rattle.queue_rows.specs.declared.rows.DocumentRow.{DocumentRow}
use Rattle.queue_load.specs.Tells.{IsFormedAccount, IsFormedDocument, IsFormedGrant, IsFormedMeta, IsFormedOperator, IsFormedPolicy, IsFormedPiece, IsFormedReport}
use Rattle.queue_load.proofs.Rising.{range_rises}

-- ---- texts of ASCII

module _ (p : ℕ → Bool) (low : (b : ℕ) → p b ≡ true → b < 128) where
  ascii_at : (t : List ℕ) → list_all p t ≡ true → IsAscii t
  ascii_at [] h i = omega arith
  ascii_at (b ∷ bs) h zero = low b (and_parts _ _ h).0
  ascii_at (b ∷ bs) h (suc i) = ascii_at bs (and_parts _ _ h).1 i

  ascii_text : (t : List ℕ) → list_all p t ≡ true → IsUtf8 t
  ascii_text t h = IsUtf8-from_ascii t (ascii_at t h)

uri_low : (b : ℕ) → is_uri_byte b ≡ true → b < 128
uri_low b h = grind (arith, nat_tests)

batch_low : (b : ℕ) → is_batch_byte b ≡ true → b < 128
batch_low b h = grind (arith, nat_tests)

-- ---- meta

small : (n : Version) → number_of n < 2 ^ 32
small first_version = omega arith
small second_version = omega arith
small third_version = omega arith

pub formed_policy : (w : World) → IsSound w → IsFormedPolicy (policy_row w.settings.keep)
formed_policy w sound = record { one = omega arith; keep = omega (arith, sound.settings.keep_fits) }

pub formed_operators : (w : World) → IsSound w → All IsFormedOperator w.settings.operators
formed_operators w sound = λ k d low. (sound.settings.operators_fit.each k d low).owner.utf8

pub formed_meta : (n : Version) (w : World) → IsSound w → IsFormedMeta (meta_row n w)
formed_meta n w sound = record {
  one = omega arith;
  schema = small n;
  uri = ascii_text is_uri_byte uri_low w.settings.uri sound.settings.uri_bytes;
  name = sound.settings.name_utf8;
  estimate = omega (arith, sound.settings.estimate_fits);
  next_number = omega (arith, sound.next);
}

-- ---- documents and pieces

formed_from : (job doc : ℕ) (ds : List Document) → job < 2 ^ 31 → doc + length ds ≤ 100 → Each IsSoundDocument ds → Each IsFormedDocument (documents_from job doc ds)
formed_from job doc [] low few h = tt
formed_from job doc (d ∷ ds) low few h = (record { job = omega (arith, low); doc = omega (arith, few); octets = omega (arith, h.0.1) }, formed_from job (doc + 1) ds low (omega (arith, few)) h.1)

pub formed_documents : (es : List Entry) → Each IsSoundEntry es → Each IsFormedDocument (flat_map document_rows es)
formed_documents es h = all-flat_map IsFormedDocument document_rows es (all_weaker IsSoundEntry (λ e. Each IsFormedDocument (document_rows e)) (λ e s. formed_from e.row.number 1 e.documents s.row.number.1 (omega (arith, s.documents, s.row.documents)) s.sizes) es h)

formed_piece : (d : DocumentRow) → IsFormedDocument d → (k : ℕ) → k < pieces_in d.octets → IsFormedPiece (piece_of d k)
formed_piece d h k low = record { job = h.job; doc = h.doc; piece = omega (arith, low, h.octets); length = omega arith }

pub formed_pieces : (ds : List DocumentRow) → Each IsFormedDocument ds → Each IsFormedPiece (flat_map pieces_of ds)
formed_pieces ds h = all-flat_map IsFormedPiece pieces_of ds (all_weaker IsFormedDocument (λ d. Each IsFormedPiece (pieces_of d)) (λ d f.
    all_map IsFormedPiece (piece_of d) (range_with_len 0 (pieces_in d.octets)) (all_weaker _ (λ k. IsFormedPiece (piece_of d k)) (λ k b. formed_piece d f k (omega (arith, b.1))) (range_with_len 0 (pieces_in d.octets)) (range_rises 0 (pieces_in d.octets)).1)) ds h)

-- ---- grants and accounts

pub formed_grant : (g : GrantRow) → IsGrantRow g → IsFormedGrant g
formed_grant g h = record { batch = ascii_text is_batch_byte batch_low g.batch h.0.letters; account = h.1.utf8; pages = omega (arith, h.3) }

same_name : (a b : List ℕ) → bytes_eq a b ≡ true → a ≡ b
same_name a b e = search (rules, bytes_eq-Decides)

-- an account with pages granted has the name that a grant has
named : (a : List ℕ) (gs : List GrantRow) → All IsGrantRow gs → 1 ≤ pages_to a gs → IsOwner a
named a [] all some = absurd (omega (arith, some))
named a (g ∷ gs) all some =
    let pages = λ (g : GrantRow). cond (bytes_eq g.account a) g.pages 0 in
    elim (cases_Bool (bytes_eq g.account a)) [
      | inl here ↦ subst IsOwner (same_name g.account a here) (All-head IsGrantRow g gs all).1
      | inr other ↦
          let none : pages g ≡ 0 = ap (λ (b : Bool). cond b g.pages 0) other in
          let all_is = sum_by-cons pages g gs in
          named a gs (All-tail IsGrantRow g gs all) (omega (arith, some, none, all_is))
    ]

pub formed_account : (gs : List GrantRow) → All IsGrantRow gs → (a : AccountRow) → 1 ≤ pages_to a.name gs → IsFormedAccount a
formed_account gs all a some = (named a.name gs all some).utf8

-- ---- reports

numbered : (n : ℕ) (js : List Job) → All IsJobRow js → IsTrue (has_number n js) → n < 2 ^ 31
numbered n [] all is = absurd cc
numbered n (j ∷ js) all is = elim (cases_Bool (j.number == n)) [
  | inl same ↦ let here : j.number ≡ n = eqb-true j.number n same in omega (arith, here, (All-head IsJobRow j js all).sound.number.1)
  | inr other ↦ numbered n js (All-tail IsJobRow j js all) (rw other at is)
]

pub formed_report : (js : List Job) → All IsJobRow js → (k : KeptReport) → IsReportRow k → IsTrue (has_number k.report.job js) → IsFormedReport k
formed_report js all k h there = record {
  job = let low : k.report.job < 2 ^ 31 = numbered k.report.job js all there in omega (arith, low);
  seq = omega (arith, h.seq.1);
  count = omega (arith, h.count);
  total = omega (arith, h.total);
}
