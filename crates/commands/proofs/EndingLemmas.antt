-- How a call ended, and the exit status of a program whose words are read.
use Rattle.std.proofs.Common.{◌≡◌, ◌≢◌, ◌≤◌, ◌⊎◌, ℕ, [], Result, Ok, Err, IfOk, IfErr, IsErrAnd, IsOk, OnOk, ap, refl, subst, sym, arith, true, false, inl, inr}
use Rattle.clap.specs.Kinds.{IsAmong, Kinds}
use Rattle.clap.specs.declared.error.kind.ErrorKind.{ErrorKind}
use Rattle.clap.specs.declared.error.kind.ErrorKind.TheVariants.{DisplayHelp, DisplayVersion}
use Rattle.commands.specs.Words.{AreWrong, AskForText}

-- what holds where a call was done, or refused
pub any_err : {A E : Type 0} (r : Result A E) (Q : E → Type 0) → ((e : E) → Q e) → IfErr r Q
any_err (Ok a) Q q = tt
any_err (Err e) Q q = q e

pub both : {A E : Type 0} (r : Result A E) (P Q : E → Type 0) → IfErr r P → IfErr r Q → IfErr r (λ e. P e × Q e)
both (Ok a) P Q p q = tt
both (Err e) P Q p q = (p, q)

pub both_ok : {A E : Type 0} (r : Result A E) (X Y : Type 0) → OnOk r X → OnOk r Y → OnOk r (X × Y)
both_ok (Ok a) X Y x y = (x, y)
both_ok (Err e) X Y x y = tt

pub all_ok : {A E : Type 0} (r : Result A E) (P Q : A → Type 0) → IfOk r P → IfOk r Q → IfOk r (λ a. P a × Q a)
all_ok (Ok a) P Q p q = (p, q)
all_ok (Err e) P Q p q = tt

pub under : {A E : Type 0} (r : Result A E) (X : Type 0) (P : E → Type 0) → (X → IfErr r P) → IfErr r (λ e. X → P e)
under (Ok a) X P p = tt
under (Err e) X P p = p

pub by_four : {A E : Type 0} (r : Result A E) (P Q R S T : E → Type 0) → IfErr r P → IfErr r Q → IfErr r R → IfErr r S → ((e : E) → P e → Q e → R e → S e → T e) → IfErr r T
by_four (Ok a) P Q R S T p q r s then_t = tt
by_four (Err e) P Q R S T p q r s then_t = then_t e p q r s

-- what a call is refused with is handed on, beside what is given back
pub handed_on : {A B E X : Type 0} (r : Result A E) (s : Result B (E × X)) (Q : E → Type 0) → IfOk r (λ a. IsOk s) → IfErr r (λ e. IsErrAnd s (λ told. told.0 ≡ e)) → IfErr r Q
    → IfErr s (λ told. Q told.0)
handed_on r (Ok b) Q done refused q = tt
handed_on (Ok a) (Err f) Q done refused q = absurd (let no : false ≡ true = done in cc)
handed_on (Err e) (Err f) Q done refused q = subst Q (sym refused) q

-- a writer that stays as it was keeps what it holds
pub or_same : {S W C : Type 0} (contents : W → C) (new old : W) → S ⊎ (new ≡ old) → S ⊎ (contents new ≡ contents old)
or_same contents new old quiet = elim quiet [ inl s ↦ inl s | inr same ↦ inr (ap contents same) ]

-- words without faults have none
pub none_among : (faults : Kinds) (kind : ErrorKind) → IsAmong kind faults → faults ≡ [] → ⊥
none_among faults kind among none = subst (IsAmong kind) none among

-- a fault of wrong words asks for no text
pub asks_nothing : (faults : Kinds) (kind : ErrorKind) → IsAmong kind faults → AreWrong faults → (kind ≢ DisplayHelp) × (kind ≢ DisplayVersion)
asks_nothing faults kind among wrong =
    let P : ErrorKind → Type 0 = λ k. IsAmong k faults in
    ((λ e. wrong.1 (subst P e among)), λ e. wrong.2 (subst P e among))

-- one that asks for a text alone does
pub asks_text : (faults : Kinds) (kind : ErrorKind) → IsAmong kind faults → AskForText faults → (kind ≡ DisplayHelp) ⊎ (kind ≡ DisplayVersion)
asks_text faults kind among text = elim text [
  | inl help ↦ elim (subst (IsAmong kind) help among) [ inl is ↦ inl is | inr never ↦ absurd never ]
  | inr version ↦ elim (subst (IsAmong kind) version among) [ inl is ↦ inr is | inr never ↦ absurd never ]
]

-- so it has a fault
pub asks_something : (faults : Kinds) → faults ≡ [] → AskForText faults → ⊥
asks_something faults none text = elim text [ inl help ↦ cc | inr version ↦ cc ]

-- the status of a command is its own, or 1
pub at_most : {E : Type 0} (X : Type 0) (outcome : Result ℕ E) (status most : ℕ) → IfOk outcome (λ own. (status ≡ own) × X) → IfErr outcome (λ fault. status ≡ 1)
    → IfOk outcome (λ own. own ≤ most) → 1 ≤ most → status ≤ most
at_most X (Ok own) status most done refused bound some = let same : status ≡ own = done.0 in let fits : own ≤ most = bound in omega arith
at_most X (Err fault) status most done refused bound some = let is : status ≡ 1 = refused in omega arith

pub at_least_one : {A B E : Type 0} (X : Type 0) (outcome : Result ℕ E) (status : ℕ) → IfOk outcome (λ own. (status ≡ own) × X) → IfErr outcome (λ fault. status ≡ 1)
    → IfOk outcome (λ own. A → B → own ≡ 2) → A → B → 1 ≤ status
at_least_one X (Ok own) status done refused two a b = let same : status ≡ own = done.0 in let is : own ≡ 2 = two a b in omega arith
at_least_one X (Err fault) status done refused two a b = let is : status ≡ 1 = refused in omega arith

-- what else holds of a command that ended with a status but 1
pub but_one : {E : Type 0} (X : Type 0) (outcome : Result ℕ E) (status : ℕ) → IfOk outcome (λ own. (status ≡ own) × X) → IfErr outcome (λ fault. status ≡ 1)
    → status ≢ 1 → IsOk outcome × X
but_one X (Ok own) status done refused other = (refl, done.1)
but_one X (Err fault) status done refused other = absurd (other refused)

-- what holds where wrong words have this status
pub at_status : {E : Type 0} (X : Type 0) (P : ℕ → Type 0) (outcome : Result ℕ E) (status : ℕ) → IfOk outcome (λ own. (status ≡ own) × X)
    → IsOk outcome → IfOk outcome P → P status
at_status X P (Ok own) status done ok p = subst P (sym done.0) p
at_status X P (Err fault) status done ok p = absurd (let no : false ≡ true = ok in cc)
