-- Tables are those of one version, which the tables that are there tell.
use Rattle.std.proofs.Common.{◌≡◌, ◌⊎◌, inl, inr, ℕ, ◌==◌, Bool, false, true, cond, length, refl, sym, ap, ◌∙◌}
use Rattle.sqlite.specs.Schema.{Schema}
use Rattle.sqlite_schema.specs.Names.{same_name}
use Rattle.queue_rows.specs.Versions.{Version, first_version, second_version, third_version}
use Rattle.queue_tables.specs.Tables.{schema_of}
use Rattle.queue_load.specs.Store.{IsWithOperators, IsWithPolicy, has_operators, has_policy}

-- the version with that many tables
version_with : ℕ → Version
version_with n = cond (n == 7) first_version (cond (n == 8) second_version third_version)

version_found : (n : Version) → version_with (length (schema_of n).tables) ≡ n
unfolding version_with
version_found first_version = refl
version_found second_version = refl
version_found third_version = refl

one_version : (m n : Version) (s : Schema) → s ≡ schema_of m → s ≡ schema_of n → m ≡ n
one_version m n s is other = sym (version_found m) ∙ ap (λ (t : Schema). version_with (length t.tables)) (sym is ∙ other) ∙ version_found n

-- no tables are those of two
pub apart : {Any : Type 0} (s : Schema) (m n : Version) → (m ≡ n → ⊥) → s ≡ schema_of m → s ≡ schema_of n → Any
apart s m n other is also = absurd (other (one_version m n s is also))

-- the test of a schema says otherwise
refuted : {Any : Type 0} (has : Schema → Bool) (s t : Schema) → s ≡ t → has s ≡ true → has t ≡ false → Any
refuted has s t same there lacking = absurd (let e : true ≡ false = sym there ∙ ap has same ∙ lacking in cc)

-- the first version lacks the table policy, the others have it
pub without_policy : (n : Version) (s : Schema) → s ≡ schema_of n → has_policy s ≡ false → s ≡ schema_of first_version
unfolding same_name
without_policy first_version s is none = is
without_policy second_version s is none = refuted has_policy (schema_of second_version) s (sym is) refl none
without_policy third_version s is none = refuted has_policy (schema_of third_version) s (sym is) refl none

pub with_policy : (n : Version) (s : Schema) → s ≡ schema_of n → has_policy s ≡ true → IsWithPolicy s
unfolding same_name
with_policy first_version s is some = refuted has_policy s (schema_of first_version) is some refl
with_policy second_version s is some = inl is
with_policy third_version s is some = inr is

-- the first two lack the table operators, the third has it
pub without_operators : (n : Version) (s : Schema) → s ≡ schema_of n → has_operators s ≡ false → (s ≡ schema_of first_version) ⊎ (s ≡ schema_of second_version)
unfolding same_name
without_operators first_version s is none = inl is
without_operators second_version s is none = inr is
without_operators third_version s is none = refuted has_operators (schema_of third_version) s (sym is) refl none

pub lacks_operators : {Any : Type 0} (s : Schema) → s ≡ schema_of third_version → has_operators s ≡ false → Any
unfolding same_name
lacks_operators s is none = refuted has_operators (schema_of third_version) s (sym is) refl none

pub with_operators : (n : Version) (s : Schema) → s ≡ schema_of n → has_operators s ≡ true → IsWithOperators s
unfolding same_name
with_operators first_version s is some = refuted has_operators s (schema_of first_version) is some refl
with_operators second_version s is some = refuted has_operators s (schema_of second_version) is some refl
with_operators third_version s is some = is
