-- What the book's tables have under a key: reports, grants and accounts.
use Rattle.std.proofs.Common.{◌≡◌, ℕ, ◌+◌, List, [], ◌∷◌, refl, ap, sym, ◌∙◌, Bool, true, false, cond, ◌&&◌, rules}
use Rattle.std.specs.Prelude.{Option, Some, None, IsSome, is_some, bytes_eq, nat_eq, option_map, ℤ}
use Rattle.std.specs.Cmp.{IsTotalOrder, unsigned_tied}
use Rattle.std.specs.Cmp.Lexicographic.{nat_list_cmp_total}
use Rattle.std.specs.FinMap.{IsAntisymmetric, get, insert}
use Rattle.std.specs.Map.{lookup}
use Rattle.std.specs.Ordering.{eq_by_cmp, is_eq, nat_cmp, ordering_then}
use Rattle.std.specs.declared.cmp.Ordering.{Ordering}
use Rattle.std.specs.declared.cmp.Ordering.TheVariants.{Less}
use Rattle.std.proofs.lemmas.Cmp.{nat_cmp_total, then_total, on_total}
use Rattle.std.proofs.lemmas.Map.Lookups.{exact_unsigned, exact_bytes, exact_pairs}
use Rattle.std.proofs.lemmas.Map.Text.{is_eq-slice_cmp}
use Rattle.std.proofs.lemmas.Slice.Eq.{bytes_eq-Decides}
use Rattle.queue_core.specs.World.{grant_cmp, report_cmp, text_cmp}
use Rattle.queue_types.specs.declared.event.KeptReport.{KeptReport}
use Rattle.list_book.specs.declared.accounts.Account.{Account}
use Rattle.list_book.specs.Lists.{reports_map}
use Rattle.list_book.specs.Tables.{Accounts, Grants, free_map, free_rows, grants_map}
use Rattle.list_book.proofs.ByKey.{value_at, put_at_key, same_at_keys}

both : (a b : Ordering) → is_eq (ordering_then a b) ≡ (is_eq a && is_eq b)
both Less b = refl
both _ b = refl

-- ---- reports, by job and sequence number

abbrev pub Reports : Type 0
Reports = List ((ℕ × ℕ) × KeptReport)

-- the two keys are one
abbrev pub is_key : ℕ × ℕ → ℕ × ℕ → Bool
is_key q k = nat_eq q.0 k.0 && nat_eq q.1 k.1

report_total : IsTotalOrder report_cmp
report_total = then_total (on_total (λ (p : ℕ × ℕ). p.0) nat_cmp_total) (on_total (λ (p : ℕ × ℕ). p.1) nat_cmp_total)

report_exact : IsAntisymmetric report_cmp
report_exact = exact_pairs nat_cmp nat_cmp exact_unsigned exact_unsigned

report_tied : (q k : ℕ × ℕ) → eq_by_cmp report_cmp q k ≡ is_key q k
report_tied q k =
    both (nat_cmp q.0 k.0) (nat_cmp q.1 k.1)
    ∙ ap (λ t. t && is_eq (nat_cmp q.1 k.1)) (unsigned_tied q.0 k.0)
    ∙ ap (λ t. nat_eq q.0 k.0 && t) (unsigned_tied q.1 k.1)

pub report_at : (es : Reports) (q : ℕ × ℕ) → get (reports_map es) q ≡ lookup (is_key q) es
report_at es q = value_at report_cmp report_total report_exact is_key report_tied es q

-- a table that has this report at its key, and else what the other has
pub report_put : (es fs : Reports) (k : KeptReport) → ((q : ℕ × ℕ) → lookup (is_key q) fs ≡ cond (is_key (k.report.job, k.report.seq) q) (Some k) (lookup (is_key q) es)) → reports_map fs ≡ insert (reports_map es) (k.report.job, k.report.seq) k
report_put es fs k puts = put_at_key report_cmp report_total report_exact is_key report_tied es fs (k.report.job, k.report.seq) k puts

pub same_reports : (es fs : Reports) → ((q : ℕ × ℕ) → lookup (is_key q) fs ≡ lookup (is_key q) es) → reports_map fs ≡ reports_map es
same_reports es fs alike = same_at_keys report_cmp report_total report_exact is_key report_tied es fs alike

-- ---- grants, by batch and account

abbrev pub is_grant_key : List ℕ × List ℕ → List ℕ × List ℕ → Bool
is_grant_key q k = bytes_eq q.0 k.0 && bytes_eq q.1 k.1

pub grant_total : IsTotalOrder grant_cmp
grant_total = then_total (on_total (λ (p : List ℕ × List ℕ). p.0) nat_list_cmp_total) (on_total (λ (p : List ℕ × List ℕ). p.1) nat_list_cmp_total)

pub grant_exact : IsAntisymmetric grant_cmp
grant_exact = exact_pairs text_cmp text_cmp exact_bytes exact_bytes

grant_tied : (q k : List ℕ × List ℕ) → eq_by_cmp grant_cmp q k ≡ is_grant_key q k
grant_tied q k =
    both (text_cmp q.0 k.0) (text_cmp q.1 k.1)
    ∙ ap (λ t. t && is_eq (text_cmp q.1 k.1)) (is_eq-slice_cmp q.0 k.0)
    ∙ ap (λ t. bytes_eq q.0 k.0 && t) (is_eq-slice_cmp q.1 k.1)

pub grant_at : (es : Grants) (q : List ℕ × List ℕ) → get (grants_map es) q ≡ lookup (is_grant_key q) es
grant_at es q = value_at grant_cmp grant_total grant_exact is_grant_key grant_tied es q

pub grant_put : (es fs : Grants) (k : List ℕ × List ℕ) (pages : ℕ) → ((q : List ℕ × List ℕ) → lookup (is_grant_key q) fs ≡ cond (is_grant_key k q) (Some pages) (lookup (is_grant_key q) es)) → grants_map fs ≡ insert (grants_map es) k pages
grant_put es fs k pages puts = put_at_key grant_cmp grant_total grant_exact is_grant_key grant_tied es fs k pages puts

pub same_grants : (es fs : Grants) → ((q : List ℕ × List ℕ) → lookup (is_grant_key q) fs ≡ lookup (is_grant_key q) es) → grants_map fs ≡ grants_map es
same_grants es fs alike = same_at_keys grant_cmp grant_total grant_exact is_grant_key grant_tied es fs alike

-- ---- accounts, by name

text_tied : (q k : List ℕ) → eq_by_cmp text_cmp q k ≡ bytes_eq q k
text_tied q k = is_eq-slice_cmp q k

shown : (b : Bool) (x : Account) (o : Option Account) (p : Option ℤ) → p ≡ option_map (λ y. y.free) o → cond b (Some x.free) p ≡ option_map (λ y. y.free) (cond b (Some x) o)
shown true x o p e = refl
shown false x o p e = e

free_found : (q : List ℕ) (es : Accounts) → lookup (bytes_eq q) (free_rows es) ≡ option_map (λ y. y.free) (lookup (bytes_eq q) es)
free_found q [] = refl
free_found q (e ∷ es) = shown (bytes_eq q e.0) e.1 (lookup (bytes_eq q) es) _ (free_found q es)

pub free_at : (es : Accounts) (q : List ℕ) → get (free_map es) q ≡ option_map (λ y. y.free) (lookup (bytes_eq q) es)
free_at es q = value_at text_cmp nat_list_cmp_total exact_bytes bytes_eq text_tied (free_rows es) q ∙ free_found q es

-- the account x stands at k in the table fs, and else what the other has
abbrev pub PutsAccount : Accounts → Accounts → List ℕ → Account → Type 0
PutsAccount es fs k x = (q : List ℕ) → lookup (bytes_eq q) fs ≡ cond (bytes_eq k q) (Some x) (lookup (bytes_eq q) es)

pub free_put : (es fs : Accounts) (k : List ℕ) (x : Account) → PutsAccount es fs k x → free_map fs ≡ insert (free_map es) k x.free
free_put es fs k x puts = put_at_key text_cmp nat_list_cmp_total exact_bytes bytes_eq text_tied (free_rows es) (free_rows fs) k x.free (λ q.
    free_found q fs ∙ ap (option_map (λ y. y.free)) (puts q) ∙ sym (shown (bytes_eq k q) x (lookup (bytes_eq q) es) _ (free_found q es)))

pub same_free : (es fs : Accounts) → ((q : List ℕ) → option_map (λ y. y.free) (lookup (bytes_eq q) fs) ≡ option_map (λ y. y.free) (lookup (bytes_eq q) es)) → free_map fs ≡ free_map es
same_free es fs alike = same_at_keys text_cmp nat_list_cmp_total exact_bytes bytes_eq text_tied (free_rows es) (free_rows fs) (λ q. free_found q fs ∙ alike q ∙ sym (free_found q es))

same_name : (a b : List ℕ) → bytes_eq a b ≡ true → a ≡ b
same_name a b e = search (rules, bytes_eq-Decides)

-- an account that has other free pages, and else is as before
abbrev pub with_free : Account → ℤ → Account
with_free x pages = record { free = pages; granted = x.granted }

-- an account that has more pages granted, and else is as before
abbrev pub with_more : Account → ℕ → Account
with_more x pages = record { free = x.free; granted = x.granted + pages }

pub free_stays : (es fs : Accounts) (k : List ℕ) (x : Account) (pages : ℕ) → lookup (bytes_eq k) es ≡ Some x → PutsAccount es fs k (with_more x pages) → free_map fs ≡ free_map es
free_stays es fs k x pages there puts = same_free es fs (λ q.
    ap (option_map (λ y. y.free)) (puts q)
    ∙ elim (bytes_eq k q) as (λ b. bytes_eq k q ≡ b → option_map (λ y. y.free) (cond b (Some (with_more x pages)) (lookup (bytes_eq q) es)) ≡ option_map (λ y. y.free) (lookup (bytes_eq q) es)) [
      | true ↦ λ e. ap (option_map (λ y. y.free)) (sym there ∙ ap (λ n. lookup (bytes_eq n) es) (same_name k q e))
      | false ↦ λ e. refl
    ] refl)

pub free_found_at : (es : Accounts) (k : List ℕ) (x : Account) → Some x ≡ lookup (bytes_eq k) es → Some x.free ≡ get (free_map es) k
free_found_at es k x there = sym (free_at es k ∙ ap (option_map (λ y. y.free)) (sym there))

pub free_nowhere : (es : Accounts) (k : List ℕ) → None ≡ lookup (bytes_eq k) es → None ≡ get (free_map es) k
free_nowhere es k none = sym (free_at es k ∙ ap (option_map (λ y. y.free)) (sym none))

-- an account that has free pages is there
pub is_there : (es : Accounts) (k : List ℕ) → IsSome (get (free_map es) k) → lookup (bytes_eq k) es ≡ None → ⊥
is_there es k some none = let gone : is_some (get (free_map es) k) ≡ false = ap is_some (free_at es k ∙ ap (option_map (λ y. y.free)) none) in cc
