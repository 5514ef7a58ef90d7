use Rattle.std.proofs.Common.{◌≤◌, ℕ, get_or, subst, sym}
use Rattle.queue_rows.proofs.sound.have_sound_grants.Goals as goal

pub returns-then-not-grants_are_within : goal.returns-then-not-grants_are_within
returns-then-not-grants_are_within c = (
  λ t. absurd cc,
  λ s. absurd (let within = c.grants_are_within.ensures.1 (λ a. subst (λ (n : ℕ). n ≤ 1000000000) (sym (c.requires a)) (s.most a)) in cc (within, c.if-not-grants_are_within.true)),
)

pub returns-then-not-accounts_have_grants : goal.returns-then-not-accounts_have_grants
returns-then-not-accounts_have_grants c = (
  λ t. absurd cc,
  λ s. absurd (let have = c.accounts_have_grants.ensures.1 (λ k d lt. subst (λ (n : ℕ). 1 ≤ n) (sym (c.requires (get_or c.args.accounts.now k d).name)) (s.granted k d lt)) in cc (have, c.if-not-accounts_have_grants.true)),
)

pub returns : goal.returns
returns c =
    let names = c.in_ok-names.ensures in (
      λ t. record {
        grants = c.grants_are_sound.ensures.0 (cc (c.if-not-grants_are_sound.false));
        grants_order = c.are_in_order.ensures.0 (cc (c.if-not-are_in_order.false));
        accounts_order = c.are_in_order-else-not-are_in_order.ensures.0 (cc (c.if-not-are_in_order-2.false));
        most = λ a. subst (λ (n : ℕ). n ≤ 1000000000) (c.requires a) (c.grants_are_within.ensures.0 (cc (c.if-not-grants_are_within.false)) a);
        named = λ k d lt. subst (λ (n : ℕ). 1 ≤ n) (names (get_or c.args.grants.now k d).account) (c.grants_have_accounts.ensures.0 t k d lt);
        granted = λ k d lt. subst (λ (n : ℕ). 1 ≤ n) (c.requires (get_or c.args.accounts.now k d).name) (c.accounts_have_grants.ensures.0 (cc (c.if-not-accounts_have_grants.false)) k d lt);
      },
      λ s. c.grants_have_accounts.ensures.1 (λ k d lt. subst (λ (n : ℕ). 1 ≤ n) (sym (names (get_or c.args.grants.now k d).account)) (s.named k d lt)),
    )
