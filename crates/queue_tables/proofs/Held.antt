-- One table is written, and the others are as they were.
use Rattle.std.proofs.Common.{◌≡◌, ◌≢◌, ◌==◌, ◌||◌, if◌then◌else◌, ℕ, inl, inr, List, IsTrue, sym, subst}
use Rattle.std.specs.List.Sorted.{IsPermutation}
use Rattle.std.specs.Prelude.{⊤, T}
use Rattle.std.proofs.lemmas.Bool.{cases_Bool, eqb-false, eqb-true}
use Rattle.std.proofs.lemmas.List.Sorted.{IsPermutation-refl, IsPermutation-sym, IsPermutation-trans, IsPermutation-to_front}
use Rattle.std.proofs.Common.{map, [], ◌∷◌, ◌++◌}
use Rattle.sqlite.specs.Order.{Row}
use Rattle.sqlite.specs.State.{State}
use Rattle.queue_tables.specs.Kept.{HasRows}
use Rattle.queue_tables.specs.Tables.{book_schema}
use Rattle.queue_tables.specs.Values.{meta_view, operator_view, policy_view, job_view, document_view, piece_view, account_view, grant_view, report_view}
use Rattle.queue_tables.specs.Content.{Content, Holds}
use Rattle.queue_tables.proofs.Changing.{Left}

moved : {K : Type 0} {view : Row → Row} {values a b : List Row} → b ≡ a → HasRows K view values a → HasRows K view values b
moved {K} {view} {values} e h = subst (HasRows K view values) (sym e) h

-- ---- the table in a tree

-- whether rows of it are put anew, which their rowids tell apart
abbrev keyed : ℕ → Type 0
keyed t = T (t == 0 || (t == 1 || (t == 6 || (t == 15 || t == 17))))

abbrev view_of : ℕ → Row → Row
view_of t =
    if t == 0 then meta_view else (if t == 1 then job_view else (if t == 2 then document_view else (if t == 4 then piece_view else (if t == 6 then account_view else (if t == 8 then grant_view else (if t == 15 then policy_view else (if t == 17 then operator_view else report_view)))))))

abbrev with_table : ℕ → List Row → Content → Content
with_table t values c = record {
  meta = if t == 0 then values else c.meta;
  jobs = if t == 1 then values else c.jobs;
  documents = if t == 2 then values else c.documents;
  pieces = if t == 4 then values else c.pieces;
  accounts = if t == 6 then values else c.accounts;
  grants = if t == 8 then values else c.grants;
  reports = if t == 10 then values else c.reports;
  policy = if t == 15 then values else c.policy;
  operators = if t == 17 then values else c.operators;
}

module _ (tree : ℕ) (c : Content) (values : List Row) (old new : State) (has : Holds c old) (l : Left (keyed tree) book_schema (view_of tree) tree values old new) where
  one_table : (t : ℕ) (had : List Row) → (t ≢ tree → new.now.trees t ≡ old.now.trees t) → HasRows (keyed t) (view_of t) had (old.now.trees t)
      → HasRows (keyed t) (view_of t) (if tree == t then values else had) (new.now.trees t)
  one_table t had others rows = elim (cases_Bool (tree == t)) [
    | inl same ↦ rw same (subst (λ (k : ℕ). HasRows (keyed k) (view_of k) values (new.now.trees k)) (eqb-true tree t same) l.rows)
    | inr apart ↦ rw apart (moved (others (λ e. eqb-false tree t apart (sym e))) rows)
  ]

  holds_table : IsTrue new.is_open → Holds (with_table tree values c) new
  holds_table is_open = record {
    schema = l.schema_is;
    sound = l.sound;
    rows = record {
      meta = one_table 0 c.meta l.others.0 has.rows.meta;
      jobs = one_table 1 c.jobs l.others.1.0 has.rows.jobs;
      documents = one_table 2 c.documents l.others.1.1.0 has.rows.documents;
      pieces = one_table 4 c.pieces l.others.1.1.1.0 has.rows.pieces;
      accounts = one_table 6 c.accounts l.others.1.1.1.1.0 has.rows.accounts;
      grants = one_table 8 c.grants l.others.1.1.1.1.1.0 has.rows.grants;
      reports = one_table 10 c.reports l.others.1.1.1.1.1.1.0 has.rows.reports;
      policy = one_table 15 c.policy l.others.1.1.1.1.1.1.1.0 has.rows.policy;
      operators = one_table 17 c.operators l.others.1.1.1.1.1.1.1.1.0 has.rows.operators;
    };
    live = is_open;
  }

-- ---- each of the tables

pub holds_meta : (c : Content) (values : List Row) (old new : State) → Holds c old → Left ⊤ book_schema meta_view 0 values old new → IsTrue new.is_open → Holds (record c { meta = values }) new
holds_meta = holds_table 0

pub holds_jobs : (c : Content) (values : List Row) (old new : State) → Holds c old → Left ⊤ book_schema job_view 1 values old new → IsTrue new.is_open → Holds (record c { jobs = values }) new
holds_jobs = holds_table 1

pub holds_documents : (c : Content) (values : List Row) (old new : State) → Holds c old → Left ⊥ book_schema document_view 2 values old new → IsTrue new.is_open → Holds (record c { documents = values }) new
holds_documents = holds_table 2

pub holds_pieces : (c : Content) (values : List Row) (old new : State) → Holds c old → Left ⊥ book_schema piece_view 4 values old new → IsTrue new.is_open → Holds (record c { pieces = values }) new
holds_pieces = holds_table 4

pub holds_accounts : (c : Content) (values : List Row) (old new : State) → Holds c old → Left ⊤ book_schema account_view 6 values old new → IsTrue new.is_open → Holds (record c { accounts = values }) new
holds_accounts = holds_table 6

pub holds_grants : (c : Content) (values : List Row) (old new : State) → Holds c old → Left ⊥ book_schema grant_view 8 values old new → IsTrue new.is_open → Holds (record c { grants = values }) new
holds_grants = holds_table 8

pub holds_reports : (c : Content) (values : List Row) (old new : State) → Holds c old → Left ⊥ book_schema report_view 10 values old new → IsTrue new.is_open → Holds (record c { reports = values }) new
holds_reports = holds_table 10

pub holds_policy : (c : Content) (values : List Row) (old new : State) → Holds c old → Left ⊤ book_schema policy_view 15 values old new → IsTrue new.is_open → Holds (record c { policy = values }) new
holds_policy = holds_table 15

pub holds_operators : (c : Content) (values : List Row) (old new : State) → Holds c old → Left ⊤ book_schema operator_view 17 values old new → IsTrue new.is_open → Holds (record c { operators = values }) new
holds_operators = holds_table 17

-- ---- contents that are alike

pub reordered : {K : Type 0} {view : Row → Row} {values others rows : List Row} → IsPermutation values others → HasRows K view values rows → HasRows K view others rows
reordered {K} {view} {values} {others} {rows} p h = record { same = IsPermutation-trans others values (map view rows) (IsPermutation-sym values others p) h.same; keyed = h.keyed }

pub same_order : {X : Type 0} {xs ys : List X} → xs ≡ ys → IsPermutation xs ys
same_order {X} {xs} {ys} e = subst (IsPermutation xs) e (IsPermutation-refl xs)

-- the new row stands last
pub at_end : (v : Row) (vs : List Row) → IsPermutation (v ∷ vs) (vs ++ v ∷ [])
at_end v vs = IsPermutation-sym (vs ++ v ∷ []) (v ∷ vs) (IsPermutation-to_front vs v)

-- rows in another order are the same content
pub record IsLike (c d : Content) : Type 0 where
  pub meta : IsPermutation c.meta d.meta
  pub jobs : IsPermutation c.jobs d.jobs
  pub documents : IsPermutation c.documents d.documents
  pub pieces : IsPermutation c.pieces d.pieces
  pub accounts : IsPermutation c.accounts d.accounts
  pub grants : IsPermutation c.grants d.grants
  pub reports : IsPermutation c.reports d.reports
  pub policy : IsPermutation c.policy d.policy
  pub operators : IsPermutation c.operators d.operators

pub like_holds : (c d : Content) (s : State) → IsLike c d → Holds c s → Holds d s
like_holds c d s l h = record {
  schema = h.schema;
  sound = h.sound;
  rows = record {
    meta = reordered l.meta h.rows.meta;
    jobs = reordered l.jobs h.rows.jobs;
    documents = reordered l.documents h.rows.documents;
    pieces = reordered l.pieces h.rows.pieces;
    accounts = reordered l.accounts h.rows.accounts;
    grants = reordered l.grants h.rows.grants;
    reports = reordered l.reports h.rows.reports;
    policy = reordered l.policy h.rows.policy;
    operators = reordered l.operators h.rows.operators;
  };
  live = h.live;
}
