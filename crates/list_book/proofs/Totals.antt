-- What is granted to each account, once a change is written.
use Rattle.std.proofs.Common.{◌≡◌, ℕ, ◌<◌, ◌+◌, ◌≤◌, ◌^◌, List, [], ◌∷◌, refl, ap, sym, subst, ◌∙◌, arith, true, false, cond}
use Rattle.std.specs.Prelude.{ℤ, IsSome, is_some, Some, fold, bytes_eq}
use Rattle.std.specs.Cmp.{eq_by_cmp_equiv}
use Rattle.std.specs.Cmp.Lexicographic.{nat_list_eq_equiv}
use Rattle.std.specs.FinMap.{FinMap, get, get-insert}
use Rattle.std.specs.Ordering.{eq_by_cmp}
use Rattle.std.proofs.lemmas.List.Sums.{sum_by-cons}
use Rattle.queue_types.specs.Event.{Change}
use Rattle.queue_core.specs.Grants.{pages_to}
use Rattle.queue_core.specs.Sound.{IsSound}
use Rattle.queue_core.specs.World.{World, granted, granted_in, grant_cmp, made_on, put_free, put_grant, text_cmp}
use Rattle.queue_types.specs.declared.event.GrantRow.{GrantRow}
use Rattle.list_book.specs.declared.lists.Lists.{Lists}
use Rattle.list_book.specs.Lists.{AreTotals, HaveSameItems, IsTidy, world_of}
use Rattle.list_book.specs.Tables.{HaveAccounts, free_map, grants_map, total_of}
use Rattle.list_book.proofs.Keyed.{grant_total}
use Rattle.list_book.proofs.Put.{same_world}

-- a row's pages are among those that go to its account
pub pages_first : (g : GrantRow) (rows : List GrantRow) → pages_to g.account (g ∷ rows) ≡ g.pages + pages_to g.account rows
pages_first g rows =
    sum_by-cons (λ (r : GrantRow). cond (bytes_eq r.account g.account) r.pages 0) g rows
    ∙ ap (λ b. cond b g.pages 0 + pages_to g.account rows) (nat_list_eq_equiv.refl g.account)

-- what is put stays there
stays : (m : FinMap grant_cmp ℕ) (g : GrantRow) (q : List ℕ × List ℕ) → IsSome (get m q) → IsSome (get (put_grant m g) q)
stays m g q there =
    ap is_some (get-insert grant_total m (g.batch, g.account) g.pages q)
    ∙ elim (eq_by_cmp grant_cmp q (g.batch, g.account)) as (λ b. is_some (cond b (Some g.pages) (get m q)) ≡ true) [ true ↦ refl | false ↦ there ]

all_stay : (m : FinMap grant_cmp ℕ) (rows : List GrantRow) (q : List ℕ × List ℕ) → IsSome (get m q) → IsSome (get (fold put_grant m rows) q)
all_stay m [] q there = there
all_stay m (g ∷ rows) q there = all_stay (put_grant m g) rows q (stays m g q there)

put_there : (m : FinMap grant_cmp ℕ) (g : GrantRow) → IsSome (get (put_grant m g) (g.batch, g.account))
put_there m g =
    let key : List ℕ × List ℕ = (g.batch, g.account) in
    ap is_some (get-insert grant_total m key g.pages key ∙ ap (λ b. cond b (Some g.pages) (get m key)) ((eq_by_cmp_equiv grant_total).refl key))

-- where each account that has a grant is there, the new grants are to such accounts
pub have_accounts : (m : FinMap grant_cmp ℕ) (rows : List GrantRow) (free : FinMap text_cmp ℤ) → ((a batch : List ℕ) → IsSome (get (fold put_grant m rows) (batch, a)) → IsSome (get free a)) → HaveAccounts free rows
have_accounts m [] free has = tt
have_accounts m (g ∷ rows) free has =
    (has g.account g.batch (all_stay (put_grant m g) rows (g.batch, g.account) (put_there m g)), have_accounts (put_grant m g) rows free has)

-- the accounts of a change's new grants are there
pub accounts_after : (l m : Lists) (c : Change) → HaveSameItems l m → IsSound (made_on c (world_of l)) → HaveAccounts (fold put_free (free_map m.accounts.entries) c.free) c.grants
accounts_after l m c same sound =
    subst (λ free. HaveAccounts (fold put_free free c.free) c.grants) (sym same.free)
    (have_accounts (grants_map l.grants.entries) c.grants (fold put_free (free_map l.accounts.entries) c.free) (λ a batch there. (sound.accounts a).1 (batch, there)))

-- the pages that the new grants add to each account are those of its rows
abbrev pub AddUp : Lists → Change → Type 0
AddUp l c = (a : List ℕ) → granted_in a (fold put_grant (grants_map l.grants.entries) c.grants) ≡ granted_in a (grants_map l.grants.entries) + pages_to a c.grants

pub fits_after : (l m : Lists) (c : Change) → AreTotals l → HaveSameItems l m → IsSound (made_on c (world_of l)) → AddUp l c → (a : List ℕ) → total_of m.accounts.entries a + pages_to a c.grants < 2 ^ 32
fits_after l m c totals same sound adds a =
    let most : granted_in a (fold put_grant (grants_map l.grants.entries) c.grants) ≤ 1000000000 = sound.most a in
    let more = adds a in
    let before = totals a in
    let kept = same.totals a in
    omega (arith, most, more, before, kept)

pub totals_after : (l m n : Lists) (c : Change) → AreTotals l → HaveSameItems l m → AddUp l c → world_of n ≡ made_on c (world_of l) → ((a : List ℕ) → total_of n.accounts.entries a ≡ total_of m.accounts.entries a + pages_to a c.grants) → AreTotals n
totals_after l m n c totals same adds made counted a =
    counted a ∙ ap (λ t. t + pages_to a c.grants) (same.totals a ∙ totals a) ∙ sym (adds a) ∙ ap (λ (w : World). granted a w) (sym made)

-- the same lists, with whatever room, stay as they are to be
pub tidy_same : (l m : Lists) → HaveSameItems l m → IsTidy l.jobs.items l.documents.items → IsTidy m.jobs.items m.documents.items
tidy_same l m same tidy = subst (λ js. IsTidy js m.documents.items) (sym same.jobs) (subst (λ ds. IsTidy l.jobs.items ds) (sym same.documents) tidy)

pub sound_same : (l m : Lists) → HaveSameItems l m → IsSound (world_of l) → IsSound (world_of m)
sound_same l m same sound = subst IsSound (sym (same_world l m same)) sound

pub totals_same : (l m : Lists) → HaveSameItems l m → AreTotals l → AreTotals m
totals_same l m same totals a = same.totals a ∙ totals a ∙ ap (granted_in a) (sym same.grants)
