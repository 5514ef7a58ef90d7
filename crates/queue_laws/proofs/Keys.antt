-- The keys of reports and grants.
use Rattle.std.proofs.Common.{◌≡◌, ℕ, List, refl, ap, ◌∙◌, ◌&&◌}
use Rattle.std.specs.Prelude.{nat_eq, bytes_eq}
use Rattle.std.specs.Ordering.{is_eq, nat_cmp, ordering_then}
use Rattle.std.specs.declared.cmp.Ordering.{Ordering}
use Rattle.std.specs.declared.cmp.Ordering.TheVariants.{Less}
use Rattle.std.specs.Cmp.{unsigned_tied}
use Rattle.std.proofs.lemmas.Cmp.{nat_list_eq_equiv}
use Rattle.std.proofs.lemmas.Map.Text.{is_eq-slice_cmp}
use Rattle.queue_core.specs.World.{text_cmp}
use Rattle.queue_core.proofs.Maps.{is_report_key, is_grant_key}

both : (a b : Ordering) → is_eq (ordering_then a b) ≡ (is_eq a && is_eq b)
both Less b = refl
both _ b = refl

-- a grant's key is a batch and an account
pub grant_key : (b a : List ℕ) (batch account : List ℕ) → is_grant_key (b, a) (batch, account) ≡ (bytes_eq batch b && bytes_eq account a)
grant_key b a batch account =
    both (text_cmp b batch) (text_cmp a account)
    ∙ ap (λ t. t && is_eq (text_cmp a account)) (is_eq-slice_cmp b batch ∙ nat_list_eq_equiv.symm b batch)
    ∙ ap (λ t. bytes_eq batch b && t) (is_eq-slice_cmp a account ∙ nat_list_eq_equiv.symm a account)

pub report_test : (n s m t : ℕ) → is_report_key (n, s) (m, t) ≡ (nat_eq n m && nat_eq s t)
report_test n s m t = both (nat_cmp n m) (nat_cmp s t) ∙ (λ i. unsigned_tied n m i && unsigned_tied s t i)
