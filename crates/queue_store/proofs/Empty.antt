-- Tables without rows.
use Rattle.std.proofs.Common.{◌≡◌, ℕ, ℤ, pos, List, [], ◌∷◌, map, length, IsTrue, sym, ap, subst, ◌∙◌, arith}
use Rattle.std.specs.declared.cmp.Ordering.{Ordering}
use Rattle.std.specs.FinMap.{empty, entries, from_sorted, empty_of_len, len-entries, entries-from_sorted}
use Rattle.std.proofs.lemmas.List.Sorted.{IsPermutation-refl}
use Rattle.sqlite.specs.Effect.{IsDatabase}
use Rattle.sqlite.specs.Order.{Row}
use Rattle.sqlite.specs.State.{State}
use Rattle.queue_types.specs.Settings.{SettingValues}
use Rattle.queue_core.specs.World.{empty_queue, text_cmp, grant_cmp, report_cmp}
use Rattle.queue_types.specs.declared.event.KeptReport.{KeptReport}
use Rattle.queue_rows.specs.Rows.{grant_row}
use Rattle.queue_tables.specs.Content.{Holds, content_of}
use Rattle.queue_tables.specs.Kept.{AreKeyed, HasRows}
use Rattle.queue_tables.specs.Values.{meta_values, operator_values, policy_values, account_values, grant_values, report_values}
use Rattle.queue_store.proofs.Schemas.{IsMade, schema14}
use Rattle.queue_store.specs.New.{no_content, new_content, new_meta, new_policy}
use Rattle.queue_store.proofs.Made.{all_made}

none_keyed : AreKeyed []
none_keyed = record { ints = λ k d low. absurd (omega (arith, low)); apart = λ id. omega arith }

pub no_rows : {K : Type 0} (view : Row → Row) (rows : List Row) → rows ≡ [] → HasRows K view [] rows
no_rows {K} view rows none = subst (λ (rs : List Row). HasRows K view [] rs) (sym none) (record { same = IsPermutation-refl []; keyed = λ k. none_keyed })

pub made_holds : (s : State) → IsMade schema14 s → IsDatabase s.now → IsTrue s.is_open → Holds no_content s
made_holds s m sound is_open = record {
  schema = m.schema_is ∙ all_made;
  sound = sound;
  rows = record {
    meta = no_rows _ _ m.empty.0;
    jobs = no_rows _ _ m.empty.1.0;
    documents = no_rows _ _ m.empty.1.1.0;
    pieces = no_rows _ _ m.empty.1.1.1.0;
    accounts = no_rows _ _ m.empty.1.1.1.1.0;
    grants = no_rows _ _ m.empty.1.1.1.1.1.0;
    reports = no_rows _ _ m.empty.1.1.1.1.1.1.0;
    policy = no_rows _ _ m.empty.1.1.1.1.1.1.1.0;
    operators = no_rows _ _ m.empty.1.1.1.1.1.1.1.1.0;
  };
  live = is_open;
}

no_entries : {K X : Type 0} (R : K → K → Ordering) → [] ≡ entries (empty {K = K} {X = X} {R = R})
no_entries {K} {X} R = sym (ap entries (sym (empty_of_len (from_sorted {K = K} {X = X} {R = R} []) (len-entries _ ∙ ap length (entries-from_sorted R [] tt)))) ∙ entries-from_sorted R [] tt)

pub new_is : (s : SettingValues) → new_content (new_meta s) (new_policy s) s.operators ≡ content_of (empty_queue s)
new_is s = λ i. record {
  meta = meta_values (new_meta s) ∷ [];
  jobs = [];
  documents = [];
  pieces = [];
  accounts = map (λ (a : List ℕ × ℤ). account_values a.0 a.1 (pos 0) (pos 0)) (no_entries text_cmp i);
  grants = map (λ (g : (List ℕ × List ℕ) × ℕ). grant_values (grant_row g)) (no_entries grant_cmp i);
  reports = map (λ (r : (ℕ × ℕ) × KeptReport). report_values r.1) (no_entries report_cmp i);
  policy = policy_values (new_policy s) ∷ [];
  operators = map operator_values s.operators;
}
