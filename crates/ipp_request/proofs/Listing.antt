-- What is listed of attributes that come one after the other.
use Rattle.std.proofs.Common.{◌≡◌, ℕ, ◌<◌, ◌+◌, List, [], ◌∷◌, ◌++◌, Bool, true, false, ◌||◌, length, take, get_or, refl, sym, ap, ◌∙◌}
use Rattle.std.specs.Prelude.{Option, Some, None, filter, not, bytes_eq, cond, if◌then◌else◌}
use Rattle.std.specs.List.{list_any, filter_map, cons_option}
use Rattle.std.specs.Option.{option_to_list}
use Rattle.std.specs.Ordering.{is_eq, nat_cmp}
use Rattle.std.specs.Cmp.Lexicographic.{slice_cmp}
use Rattle.std.proofs.lemmas.List.{map_more, append-nil}
use Rattle.std.proofs.lemmas.List.Elements.{filter-append, filter_map-append}
use Rattle.std.proofs.lemmas.List.Folds.{list_any-append}
use Rattle.std.proofs.lemmas.Map.Text.{is_eq-slice_cmp}
use Rattle.ipp_wire.specs.declared.view.AttrView.{AttrView}
use Rattle.ipp_wire.specs.Message.{Attribute}
use Rattle.ipp_wire.specs.Viewed.{attribute_of, attributes_of}
use Rattle.ipp_request.specs.declared.unsupported.Source.{Source}
use Rattle.ipp_request.specs.Unsupported.{counted, listed}

-- an attribute before has that name
abbrev pub has_name : List Attribute → List ℕ → Bool
has_name attrs name = list_any (λ a. bytes_eq a.name name) attrs

last_kept : (p : Attribute → Bool) (x : Attribute) (same any : Bool) → p x ≡ not same → filter p (if any then [] else x ∷ []) ≡ (if same || any then [] else x ∷ [])
last_kept p x true true e = refl
last_kept p x true false e = rw e refl
last_kept p x false true e = refl
last_kept p x false false e = rw e refl

-- one attribute more counts where none before has its name
counted_more : (xs : List Attribute) (x : Attribute) → counted (xs ++ x ∷ []) ≡ counted xs ++ (if has_name xs x.name then [] else x ∷ [])
counted_more [] x = refl
counted_more (a ∷ xs) x =
    let p : Attribute → Bool = λ b. not (bytes_eq a.name b.name) in
    ap (λ (t : List Attribute). a ∷ filter p t) (counted_more xs x)
    ∙ ap (λ (t : List Attribute). a ∷ t) (filter-append p (counted xs) (if has_name xs x.name then [] else x ∷ []))
    ∙ ap (λ (t : List Attribute). a ∷ (filter p (counted xs) ++ t)) (last_kept p x (bytes_eq a.name x.name) (has_name xs x.name) refl)

alone : (o : Option Attribute) → cons_option o [] ≡ option_to_list o
alone None = refl
alone (Some a) = refl

-- a first attribute of its name is listed behind the others
pub first_listed : (s : Source) (xs : List Attribute) (x : Attribute) → has_name xs x.name ≡ false → filter_map (listed s) (counted (xs ++ x ∷ [])) ≡ filter_map (listed s) (counted xs) ++ option_to_list (listed s x)
first_listed s xs x e =
    ap (λ (t : List Attribute). filter_map (listed s) t) (counted_more xs x ∙ ap (λ b. counted xs ++ (if b then [] else x ∷ [])) e)
    ∙ filter_map-append (listed s) (counted xs) (x ∷ [])
    ∙ ap (λ (t : List Attribute). filter_map (listed s) (counted xs) ++ t) (alone (listed s x))

-- a later one isn't
pub later_skipped : (s : Source) (xs : List Attribute) (x : Attribute) → has_name xs x.name ≡ true → filter_map (listed s) (counted (xs ++ x ∷ [])) ≡ filter_map (listed s) (counted xs)
later_skipped s xs x e =
    ap (λ (t : List Attribute). filter_map (listed s) t) (counted_more xs x ∙ ap (λ b. counted xs ++ (if b then [] else x ∷ [])) e ∙ append-nil (counted xs))

either : (old same : Bool) → cond same true old ≡ (old || (same || false))
either true true = refl
either true false = refl
either false true = refl
either false false = refl

-- the names that were seen, with one more
pub names_more : (xs : List Attribute) (x : Attribute) (q : List ℕ) (old : Bool) → old ≡ has_name xs q → cond (is_eq (slice_cmp nat_cmp x.name q)) true old ≡ has_name (xs ++ x ∷ []) q
names_more xs x q old e =
    ap (λ b. cond b true old) (is_eq-slice_cmp x.name q) ∙ either old (bytes_eq x.name q)
    ∙ ap (λ b. b || (bytes_eq x.name q || false)) e ∙ sym (list_any-append (λ a. bytes_eq a.name q) xs (x ∷ []))

-- the attributes up to a place, with the one there
pub attributes_more : (xs : List AttrView) (i : ℕ) (d : AttrView) → i < length xs → attributes_of (take (i + 1) xs) ≡ attributes_of (take i xs) ++ attribute_of (get_or xs i d) ∷ []
attributes_more xs i d below = map_more attribute_of xs i d below
