-- A queue without jobs, grants and reports is sound.
use Rattle.std.proofs.Common.{◌≡◌, ℕ, pos, ◌+ℤ◌, ◌+◌, ◌≤◌, List, [], ap, sym, ◌∙◌, arith, subst, false}
use Rattle.std.specs.Prelude.{Option, None, IsSome, IfSome, is_some, sum_by, bytes_eq, if◌then◌else◌}
use Rattle.std.specs.FinMap.{empty, entries, get-empty, from_sorted, empty_of_len, len-entries, entries-from_sorted}
use Rattle.std.specs.declared.cmp.Ordering.{Ordering}
use Rattle.std.proofs.Common.{length}
use Rattle.queue_types.specs.Settings.{SettingValues, AreSettings}
use Rattle.queue_core.specs.World.{empty_queue, grant_cmp, text_cmp, report_cmp, granted}
use Rattle.queue_core.specs.Sound.{IsSound, IsKept, reserved, printed}
use Rattle.queue_core.specs.Limits.{IsGrant}

no_entries : {K X : Type 0} (R : K → K → Ordering) → entries (empty {K = K} {X = X} {R = R}) ≡ []
no_entries {K} {X} R = ap entries (sym (empty_of_len (from_sorted {K = K} {X = X} {R = R} []) (len-entries _ ∙ ap length (entries-from_sorted R [] tt)))) ∙ entries-from_sorted R [] tt

not_some : {X : Type 0} (o : Option X) → o ≡ None → IsSome o → ⊥
not_some o e h = let no : is_some o ≡ false = ap is_some e in absurd (cc)

pub empty_sound : (s : SettingValues) → AreSettings s → IsSound (empty_queue s)
empty_sound s settings = record {
  settings = settings;
  numbers = omega arith;
  next = omega arith;
  entries = tt;
  live = λ u. omega arith;
  grants = λ b a. subst (λ o. IfSome o (IsGrant b a)) (sym (get-empty grant_cmp (b, a))) tt;
  most = λ a. subst (λ es. sum_by (λ (g : (List ℕ × List ℕ) × ℕ). if bytes_eq g.0.1 a then g.1 else 0) es ≤ 1000000000) (sym (no_entries grant_cmp)) (omega arith);
  accounts = λ a. (λ h. absurd (not_some _ (get-empty text_cmp a) h), λ h. absurd (not_some _ (get-empty grant_cmp (h.0, a)) h.1));
  reports = λ n m. subst (λ o. IfSome o (IsKept (empty_queue s) n m)) (sym (get-empty report_cmp (n, m))) tt;
  counts = tt;
  idle = tt;
  balances = λ a. subst (λ o. IfSome o (λ f. pos (granted a (empty_queue s)) ≡ f +ℤ pos (reserved a (empty_queue s) + printed a (empty_queue s)))) (sym (get-empty text_cmp a)) tt;
}
