use Rattle.std.proofs.Common.{◌≡◌, List, [], ◌∷◌, ℕ, Bool, true, false, Option, refl, sym, ◌∙◌, cond, rules, tests}
use Rattle.std.specs.Prelude.{Some, None, MatchOption, bytes_eq, find, ◌≢◌}
use Rattle.std.specs.List.{AllByRecursion as Each}
use Rattle.std.proofs.lemmas.Iterator.{YieldsList-from_slice}
use Rattle.std.proofs.lemmas.Iterator.Adapters.{option_map_id}
use Rattle.std.proofs.lemmas.Iterator.Consumers.{YieldsList-from_copied}
use Rattle.std.proofs.lemmas.Iterator.Search.{find_from_yields_List}
use Rattle.std.proofs.lemmas.Slice.Eq.{bytes_eq-Decides}
use Rattle.queue_types.specs.Formats.{format_name, formats}
use Rattle.queue_types.specs.declared.document.Format.{Format}
use Rattle.queue_types.specs.declared.document.Format.TheVariants.{OctetStream, Pdf, Postscript, Jpeg, PwgRaster, Urf, PlainText}
use Rattle.queue_types.proofs.document.Format.from_name.Goals as goal

abbrev IsOther : List ℕ → Format → Type 0
IsOther name f = name ≢ format_name f

behind : (name : List ℕ) (f : Format) (fs : List Format) (found : Option Format) → IsOther name f → MatchOption found (Each (IsOther name) fs) (λ g. name ≡ format_name g) → MatchOption found (Each (IsOther name) (f ∷ fs)) (λ g. name ≡ format_name g)
behind name f fs None other rest = (other, rest)
behind name f fs (Some g) other rest = rest

here_or_behind : (name : List ℕ) (f : Format) (fs : List Format) (found : Option Format) (b : Bool) → bytes_eq (format_name f) name ≡ b → MatchOption found (Each (IsOther name) fs) (λ g. name ≡ format_name g)
    → MatchOption (cond b (Some f) found) (Each (IsOther name) (f ∷ fs)) (λ g. name ≡ format_name g)
here_or_behind name f fs found true is rest = sym ((bytes_eq-Decides (format_name f) name).0 is)
here_or_behind name f fs found false is rest = behind name f fs found (λ e. let same = (bytes_eq-Decides (format_name f) name).1 (sym e) in absurd (cc)) rest

first_named : (name : List ℕ) (fs : List Format) → MatchOption (find (λ f. bytes_eq (format_name f) name) fs) (Each (IsOther name) fs) (λ g. name ≡ format_name g)
first_named name [] = tt
first_named name (f ∷ fs) = here_or_behind name f fs _ (bytes_eq (format_name f) name) refl (first_named name fs)

each_other : (name : List ℕ) → Each (IsOther name) formats → (f : Format) → IsOther name f
each_other name none OctetStream = none.0
each_other name none Pdf = none.1.0
each_other name none Postscript = none.1.1.0
each_other name none Jpeg = none.1.1.1.0
each_other name none PwgRaster = none.1.1.1.1.0
each_other name none Urf = none.1.1.1.1.1.0
each_other name none PlainText = none.1.1.1.1.1.1.0

named : (name : List ℕ) (found : Option Format) → MatchOption found (Each (IsOther name) formats) (λ g. name ≡ format_name g) → MatchOption found ((f : Format) → name ≢ format_name f) (λ g. name ≡ format_name g)
named name None none = each_other name none
named name (Some g) same = same

pub returns : goal.returns
returns c =
    let name = c.args.name.now in
    let found : c.find.result ≡ find (λ f. bytes_eq (format_name f) name) formats =
    sym (option_map_id c.find.result)
    ∙ find_from_yields_List (λ f. bytes_eq (format_name f) name) _ _ c.find.result c.find.ensures.ran (YieldsList-from_copied (YieldsList-from_slice formats cc)) (λ x b q k. search (rules, tests)) in
    rw found (named name _ (first_named name formats))
