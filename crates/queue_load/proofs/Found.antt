-- Typed rows that stand for sound queues: the tables hold one.
use Rattle.std.proofs.Common.{◌≡◌, inl, inr, Option, ℕ, ℤ, pos, ◌+◌, ◌<◌, ◌≤◌, List, [], ◌∷◌, map, length, All, refl, sym, ap, subst, subst₂, ◌∙◌, arith, Less}
use Rattle.std.specs.Ordering.{int_cmp}
use Rattle.std.specs.List.Sorted.{IsPermutation}
use Rattle.std.proofs.lemmas.List.Elements.{All-cons, All-tail}
use Rattle.std.proofs.lemmas.Int.{ints}
use Rattle.sqlite.specs.Effect.{Database}
use Rattle.sqlite.specs.Order.{Row}
use Rattle.queue_core.specs.Sound.{Rise}
use Rattle.queue_core.specs.World.{Entry, World}
use Rattle.queue_types.specs.declared.job.Job.{Job}
use Rattle.queue_rows.specs.Pieces.{length_in}
use Rattle.queue_rows.specs.Rows.{Tables, HaveWorld, StandForSoundWorlds, rows_of, bytes_of, job_row, meta_row}
use Rattle.queue_rows.specs.declared.rows.MetaRow.{MetaRow}
use Rattle.queue_rows.specs.declared.rows.PieceRow.{PieceRow}
use Rattle.queue_rows.specs.Versions.{Version, operator_rows, policy_row, policy_rows, first_version, second_version, third_version}
use Rattle.queue_rows.specs.declared.rows.PolicyRow.{PolicyRow}
use Rattle.queue_tables.specs.Content.{Content, HasFirst, HasQueueOf, numbered_content}
use Rattle.queue_tables.specs.Kept.{AreKeyed}
use Rattle.queue_tables.specs.Tables.{schema_of}
use Rattle.queue_tables.specs.Values.{meta_values, meta_view, policy_values, policy_view, job_values, kept_job_view, piece_view}
use Rattle.queue_load.specs.Content.{content_in, piece_rows_in}
use Rattle.queue_load.specs.Keyed.{HasKeyedTables}
use Rattle.queue_load.specs.Loaded.{IsLong, Piece, row_of, whole_piece}
use Rattle.queue_load.specs.Queues.{HasQueue}
use Rattle.queue_load.specs.Store.{AreOperatorRows, ArePolicyRows, AreTables}
use Rattle.queue_load.proofs.Contents.{content_is, shown_content}
use Rattle.queue_load.proofs.KeyLemmas.{Rises, keyed_by}
use Rattle.queue_load.proofs.Queues.{bytes_in}
use Rattle.queue_load.proofs.Versions.{apart}

beside_is : (ps : List Piece) → map whole_piece ps ≡ piece_rows_in (map row_of ps) (map bytes_in ps)
beside_is [] = refl
beside_is (p ∷ ps) = ap (λ (rs : List Row). whole_piece p ∷ rs) (beside_is ps)

long_is : (ps : List Piece) → All IsLong ps → map length (map bytes_in ps) ≡ map length_in (map row_of ps)
long_is [] all = refl
long_is (p ∷ ps) all =
    let first : length p.bytes ≡ p.row.length = all 0 p (omega arith) in
    let more : map length (map bytes_in ps) ≡ map length_in (map row_of ps) = long_is ps (All-tail IsLong p ps all) in
    λ i. first i ∷ more i

-- ---- numbers of jobs rise

abbrev number_of : Job → ℤ
number_of j = pos j.number

less_int : (a b : ℕ) → a < b → int_cmp (pos a) (pos b) ≡ Less
less_int a b low = grind (arith, ints)

later : (a b : ℕ) (es : List Entry) (next : ℕ) → b ≤ a → Rise a es next → Rise b es next
later a b [] next low rise = omega (arith, low, rise)
later a b (e ∷ es) next low rise = (omega (arith, low, rise.0), rise.1)

above : (n : ℕ) (es : List Entry) (next : ℕ) → Rise (n + 1) es next → All (λ j. int_cmp (pos n) (number_of j) ≡ Less) (map job_row es)
above n [] next rise = λ k d low. absurd (omega (arith, low))
above n (e ∷ es) next rise =
    let lower : Rise (n + 1) es next = later (e.row.number + 1) (n + 1) es next (omega (arith, rise.0)) rise.1 in
    All-cons (λ j. int_cmp (pos n) (number_of j) ≡ Less) (job_row e) (map job_row es) (less_int n e.row.number (omega (arith, rise.0))) (above n es next lower)

numbers_rise : (first : ℕ) (es : List Entry) (next : ℕ) → Rise first es next → Rises number_of (map job_row es)
numbers_rise first [] next rise = tt
numbers_rise first (e ∷ es) next rise = (above e.row.number es next rise.1, numbers_rise (e.row.number + 1) es next rise.1)

abbrev one_of : MetaRow → ℤ
one_of m = pos m.one

abbrev key_of : PolicyRow → ℤ
key_of p = pos p.one

-- ---- the whole

module _ (t : Tables) (d : Database) (are : AreTables t d) (keyed : HasKeyedTables d) where
  bytes : List (List ℕ)
  bytes = map bytes_in are.first.pieces.pieces

  lengths : map length bytes ≡ map length_in t.pieces
  unfolding bytes
  lengths = long_is are.first.pieces.pieces are.first.pieces.long ∙ ap (map length_in) (sym are.first.pieces.items_are)

  pieces_are : map whole_piece are.first.pieces.pieces ≡ piece_rows_in t.pieces bytes
  unfolding bytes
  pieces_are = beside_is are.first.pieces.pieces ∙ ap (λ (ps : List PieceRow). piece_rows_in ps (map bytes_in are.first.pieces.pieces)) (sym are.first.pieces.items_are)

  module _ (have : HaveWorld t bytes) where
    holds : HasFirst (shown_content have.version have.world) d.trees
    holds =
        let w = have.world in
        let n = have.version in
        let is : shown_content n w ≡ content_in t bytes = content_is n w ∙ subst₂ (λ (u : Tables) (bs : List (List ℕ)). content_in (rows_of n w) (bytes_of w) ≡ content_in u bs) have.rows have.bytes refl in
        let meta_keyed : AreKeyed (d.trees 0) = keyed_by one_of meta_values meta_view (λ m. refl) (λ r. refl) (meta_row n w ∷ []) (d.trees 0) ((λ k e low. absurd (omega (arith, low))), tt)
        (subst (λ (ms : List MetaRow). IsPermutation (map meta_values ms) (map meta_view (d.trees 0))) (sym (ap (λ (u : Tables). u.meta) have.rows)) are.first.meta.same) in
        let jobs_keyed : AreKeyed (d.trees 1) = keyed_by number_of job_values kept_job_view (λ j. refl) (λ r. refl) (map job_row w.jobs) (d.trees 1) (numbers_rise 1 w.jobs w.next have.sound.numbers)
        (subst (λ (js : List Job). IsPermutation (map job_values js) (map kept_job_view (d.trees 1))) (sym (ap (λ (u : Tables). u.jobs) have.rows)) are.first.jobs.same) in
        subst (λ (c : Content). HasFirst c d.trees) (sym is) (record {
          meta = record { same = are.first.meta.same; keyed = λ k. meta_keyed };
          jobs = record { same = are.first.jobs.same; keyed = λ k. jobs_keyed };
          documents = record { same = are.first.documents.same; keyed = λ k. absurd k };
          pieces = record { same = subst (λ (rs : List Row). IsPermutation rs (map piece_view (d.trees 4))) pieces_are are.first.pieces.table.same; keyed = λ k. absurd k };
          accounts = record { same = are.second.accounts.same; keyed = λ k. keyed.accounts };
          grants = record { same = are.second.grants.same; keyed = λ k. absurd k };
          reports = record { same = are.second.reports.same; keyed = λ k. absurd k };
        })

    policy_are : ArePolicyRows (policy_rows have.version have.world.settings.keep) d
    policy_are = subst (λ (o : Option (List PolicyRow)). ArePolicyRows o d) (sym (ap (λ (u : Tables). u.policy) have.rows)) are.second.policy

    operators_are : AreOperatorRows (operator_rows have.version have.world.settings.operators) d
    operators_are = subst (λ (o : Option (List (List ℕ))). AreOperatorRows o d) (sym (ap (λ (u : Tables). u.operators) have.rows)) are.second.operators

  -- in tables of that version
  as_numbered : (n : Version) (w : World) → HasFirst (shown_content n w) d.trees → HasFirst (numbered_content n w) d.trees
  as_numbered n w has = record { meta = has.meta; jobs = has.jobs; documents = has.documents; pieces = has.pieces; accounts = has.accounts; grants = has.grants; reports = has.reports }

  policy_keyed : (w : World) → IsPermutation (policy_values (policy_row w.settings.keep) ∷ []) (map policy_view (d.trees 15)) → AreKeyed (d.trees 15)
  policy_keyed w same = keyed_by key_of policy_values policy_view (λ p. refl) (λ r. refl) (policy_row w.settings.keep ∷ []) (d.trees 15) ((λ k e low. absurd (omega (arith, low))), tt) same

  found_in : (n : Version) (w : World) → HasFirst (shown_content n w) d.trees → ArePolicyRows (policy_rows n w.settings.keep) d → AreOperatorRows (operator_rows n w.settings.operators) d → (d.schema ≡ schema_of n) × HasQueueOf n w d.trees
  found_in first_version w has schema operators = (schema, as_numbered first_version w has)
  found_in second_version w has policy operators = (
    elim operators [ inl first ↦ elim policy.0 [ inl second ↦ second | inr third ↦ apart d.schema first_version third_version (λ e. cc) first third ] | inr second ↦ second ],
    record { first = as_numbered second_version w has; policy = record { same = policy.1.same; keyed = λ k. policy_keyed w policy.1.same } },
  )
  found_in third_version w has policy operators = (
    operators.0,
    record {
      second = record { first = as_numbered third_version w has; policy = record { same = policy.1.same; keyed = λ k. policy_keyed w policy.1.same } };
      operators = record { same = operators.1.same; keyed = λ k. keyed.operators operators.0 };
    },
  )

  pub queue_found : StandForSoundWorlds t → HasQueue t d
  queue_found stand =
      let have = stand bytes lengths in
      let found = found_in have.version have.world (holds have) (policy_are have) (operators_are have) in
      record { world = have.world; queue = record { version = have.version; fits = have.fits; sound = have.sound; schema = found.0; rows = found.1 }; rows = have.rows }
