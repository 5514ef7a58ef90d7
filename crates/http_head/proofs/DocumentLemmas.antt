-- The path of a document, by the numbers of its job and of the document.
use Rattle.std.proofs.Common.{◌≡◌, ◌≢◌, ◌∙◌, ℕ, ◌+◌, ◌<◌, ◌^◌, List, [], ◌∷◌, ◌++◌, ◌&&◌, Bool, true, false, Option, Some, None, length, take, drop, get_or, refl, sym, ap, arith, append_assoc, length-append, length-drop, decimal}
use Rattle.std.specs.Prelude.{codes, if◌then◌else◌, not, nat_lt, nat_eq, option_map, ◌==◌}
use Rattle.std.specs.List.{before_first, after_first, position_or_len, list_all, starts_with}
use Rattle.std.specs.Char.{is_ascii_digit}
use Rattle.std.specs.Str.{IsAscii, is_utf8}
use Rattle.std.specs.Str.Parse.{AllDigits, digits_value}
use Rattle.std.proofs.Math.Seq.{drop-append_seam, take-append_seam}
use Rattle.std.proofs.lemmas.Bool.{and_parts, ltb-true, ne_eqb}
use Rattle.std.proofs.lemmas.Bool.Decides.{nat_tests}
use Rattle.std.proofs.lemmas.Fmt.{IsAscii-decimal, decimal-digits_value, decimal_is_IsNumeral, decimal_nonempty, digits_decimal, digits_value-decimal, first_decimal}
use Rattle.std.proofs.lemmas.List.Sums.{passes_at_first, split_at_first}
use Rattle.std.proofs.lemmas.Option.{cond_some}
use Rattle.std.proofs.lemmas.Str.{IsAscii-append, IsUtf8-from_ascii, is_utf8-from_IsUtf8}
use Rattle.std.proofs.lemmas.Str.Ascii.{IsAscii-cons, IsAscii-nil}
use Rattle.std.proofs.lemmas.Str.Parse.{digit_from_value}
use Rattle.http_head.proofs.FieldLemmas.{model}
use Rattle.matchit.specs.Route.{scan}
use Rattle.matchit.specs.Router.{RouteOf}
use Rattle.matchit.specs.Seek.{first}
use Rattle.http_head.proofs.PrefixLemmas.{begins_with, leads_with}
use Rattle.http_head.proofs.RouteLemmas.{AreInSegment, of_document}
use Rattle.http_head.specs.Fields.{fits_word, number_in}
use Rattle.http_head.specs.Routes.{IsSegment, route_of, routes, value_of}
use Rattle.http_head.specs.Targets.{both, document_prefix, numbers_in, routed, target_of}
use Rattle.http_head.specs.declared.routes.Route.{Route}
use Rattle.http_head.specs.declared.routes.Route.TheVariants.{Document as DocumentRoute}
use Rattle.http_head.specs.declared.target.Target.TheVariants.{Document}

abbrev is_slash : ℕ → Bool
is_slash b = b == 47

-- ---- a number

digits_in_segment : (ds : List ℕ) → AllDigits 10 ds → AreInSegment ds
digits_in_segment [] d = tt
digits_in_segment (c ∷ cs) d = let r = digit_from_value c d.0 in ((omega (arith, r), λ e. omega (arith, r, e)), digits_in_segment cs d.1)

decimal_segment : (n : ℕ) → n < 2 ^ 32 → IsSegment (decimal n)
decimal_segment n small = (decimal_nonempty n (omega arith), digits_in_segment (decimal n) (decimal_is_IsNumeral n (omega arith)).0.1)

no_zero : (ds : List ℕ) → 48 < get_or ds 0 0 → starts_with nat_eq ds (codes "0") ≡ false
no_zero [] h = absurd (omega arith)
no_zero (c ∷ ds) h = grind (arith, nat_tests)

not_zero : (ds : List ℕ) → not (starts_with nat_eq ds (codes "0")) ≡ true → get_or ds 0 0 ≢ 48
not_zero [] h = λ e. omega (arith, e)
not_zero (c ∷ ds) h = λ e. grind (arith, nat_tests)

number_of_decimal : (n : ℕ) → 0 < n → n < 2 ^ 32 → number_in (decimal n) ≡ Some n
number_of_decimal n some small =
    let digits : list_all is_ascii_digit (decimal n) ≡ true = digits_decimal model n (omega arith) in
    let plain = no_zero (decimal n) (first_decimal n some (omega arith)) in
    let there = decimal_nonempty n (omega arith) in
    let long : nat_lt 0 (length (decimal n)) ≡ true = grind (arith, nat_tests) in
    let value : digits_value 10 (decimal n) ≡ n = digits_value-decimal model n (omega arith) in
    let fits : nat_lt n 4294967296 ≡ true = grind (arith, nat_tests) in
    rw (digits, plain, long, value, fits) refl

-- what a text is that tells a number
record Tells (text : List ℕ) (n : ℕ) : Type 0 where
  some : 0 < length text
  is : text ≡ decimal n

told : (text : List ℕ) (n : ℕ) → number_in text ≡ Some n → Tells text n
told text n h =
    let t = cond_some (list_all is_ascii_digit text && not (starts_with nat_eq text (codes "0")) && fits_word text) (digits_value 10 text) n h in
    let p = and_parts (list_all is_ascii_digit text && not (starts_with nat_eq text (codes "0"))) (fits_word text) t.0 in
    let q = and_parts (list_all is_ascii_digit text) (not (starts_with nat_eq text (codes "0"))) p.0 in
    let r = and_parts (nat_lt 0 (length text)) (nat_lt (digits_value 10 text) 4294967296) p.1 in
    let some = ltb-true _ _ r.0 in
    let small = ltb-true _ _ r.1 in
    record {
      some = some;
      is = sym (decimal-digits_value model text q.0 some (λ zero. absurd (not_zero text q.1 zero)) (omega (arith, small))) ∙ ap decimal t.1;
    }

-- ---- two numbers round a slash

at_slash : (a b : List ℕ) → AreInSegment a → position_or_len is_slash (a ++ 47 ∷ b) ≡ length a
at_slash [] b is = refl
at_slash (c ∷ a) b is = let e : (c == 47) ≡ false = ne_eqb c 47 is.0.1 in rw e (omega (arith, at_slash a b is.1))

before_slash : (a b : List ℕ) → AreInSegment a → before_first is_slash (a ++ 47 ∷ b) ≡ a
before_slash a b is = ap (λ k. take k (a ++ 47 ∷ b)) (at_slash a b is) ∙ take-append_seam a (47 ∷ b)

after_slash : (a b : List ℕ) → AreInSegment a → after_first is_slash (a ++ 47 ∷ b) ≡ b
after_slash a b is =
    let end : List ℕ = 47 ∷ [] in
    ap (λ k. drop (k + 1) (a ++ 47 ∷ b)) (at_slash a b is)
    ∙ ap (λ k. drop k (a ++ 47 ∷ b)) (sym (length-append a end))
    ∙ ap (λ l. drop (length (a ++ end)) l) (sym (append_assoc a end b))
    ∙ drop-append_seam (a ++ end) b

numbers_of_decimals : (job n : ℕ) → 0 < job → job < 2 ^ 32 → 0 < n → n < 2 ^ 32 → numbers_in (decimal job ++ 47 ∷ decimal n) ≡ Some (job, n)
numbers_of_decimals job n some small some_n small_n =
    let segment = (decimal_segment job small).1 in
    rw (before_slash (decimal job) (decimal n) segment, after_slash (decimal job) (decimal n) segment, number_of_decimal job some small, number_of_decimal n some_n small_n) refl

both_are : (a b : Option ℕ) (m n : ℕ) → both a b ≡ Some (m, n) → (a ≡ Some m) × (b ≡ Some n)
both_are None b m n h = absurd cc
both_are (Some a) None m n h = absurd cc
both_are (Some a) (Some b) m n h = let e : (a, b) ≡ (m, n) = cc in (ap (λ (p : ℕ × ℕ). Some p.0) e, ap (λ (p : ℕ × ℕ). Some p.1) e)

pub numbers_told : (text : List ℕ) (job n : ℕ) → numbers_in text ≡ Some (job, n) → text ≡ decimal job ++ codes "/" ++ decimal n
numbers_told text job n h =
    let front = before_first is_slash text in
    let end = after_first is_slash text in
    let place = position_or_len is_slash text in
    let each = both_are (number_in front) (number_in end) job n h in
    let first = told front job each.0 in
    let last = told end n each.1 in
    let there : place < length text = omega (arith, last.some, length-drop (place + 1) text) in
    let slash : get_or text place 0 ≡ 47 = let passes = passes_at_first is_slash text 0 there in grind (arith, nat_tests) in
    split_at_first is_slash text 0 there
    ∙ ap (λ b. front ++ b ∷ end) slash
    ∙ ap (λ l. l ++ 47 ∷ end) first.is
    ∙ ap (λ l. decimal job ++ 47 ∷ l) last.is
    ∙ sym (append_assoc (decimal job) (codes "/") (decimal n))

-- ---- the path

all_ascii : (bs : List ℕ) → list_all (λ b. nat_lt b 128) bs ≡ true → IsAscii bs
all_ascii [] h = IsAscii-nil
all_ascii (b ∷ bs) h = let e = and_parts (nat_lt b 128) (list_all (λ c. nat_lt c 128) bs) h in IsAscii-cons b bs (ltb-true _ _ e.0) (all_ascii bs e.1)

path_ascii : (job n : ℕ) → job < 2 ^ 32 → n < 2 ^ 32 → IsAscii (codes "/device/document/" ++ decimal job ++ codes "/" ++ decimal n)
path_ascii job n small small_n =
    let prefix = IsAscii-append (codes "/device/document/") (decimal job) (all_ascii (codes "/device/document/") refl) (IsAscii-decimal job (omega arith)) in
    let front = IsAscii-append (codes "/device/document/" ++ decimal job) (codes "/") prefix (all_ascii (codes "/") refl) in
    IsAscii-append (codes "/device/document/" ++ decimal job ++ codes "/") (decimal n) front (IsAscii-decimal n (omega arith))

routed_as : (path : List ℕ) → is_utf8 path ≡ true → route_of path ≡ Some DocumentRoute → routed path ≡ Some (Document (numbers_in (drop (length document_prefix) path)))
routed_as path text route = rw (text, route) refl

pub document_numbered : (job n : ℕ) → 0 < job → job < 2 ^ 32 → 0 < n → n < 2 ^ 32
    → routed (codes "/device/document/" ++ decimal job ++ codes "/" ++ decimal n) ≡ Some (Document (Some (job, n)))
document_numbered job n some small some_n small_n =
    let path = codes "/device/document/" ++ decimal job ++ codes "/" ++ decimal n in
    let text = is_utf8-from_IsUtf8 path (IsUtf8-from_ascii path (path_ascii job n small small_n)) in
    let route = of_document (decimal job) (decimal n) (decimal_segment job small) (decimal_segment n small_n) in
    routed_as path text route
    ∙ ap (λ l. Some (Document (numbers_in l))) (append_assoc (decimal job) (codes "/") (decimal n))
    ∙ ap (λ o. Some (Document o)) (numbers_of_decimals job n some small some_n small_n)

-- ---- no other path

is_document : Route → Bool
is_document DocumentRoute = true
is_document _ = false

abbrev of_document_route : RouteOf Route → Bool
of_document_route r = is_document r.value

routes_lead : leads_with of_document_route (codes "/device/document/") routes ≡ true
unfolding scan is_document
routes_lead = refl

kind_of : (r : Route) → r ≡ DocumentRoute → is_document r ≡ true
unfolding is_document
kind_of r is = ap is_document is

-- the route that was found
found : (o : Option (RouteOf Route)) (route : Route) → option_map value_of o ≡ Some route → (r : RouteOf Route) × (o ≡ Some r) × (r.value ≡ route)
found None route is = absurd cc
found (Some r) route is = (r, refl, cc)

begins_so : (path : List ℕ) → route_of path ≡ Some DocumentRoute → path ≡ document_prefix ++ drop (length document_prefix) path
unfolding route_of
begins_so path is =
    let r = found (first routes path) DocumentRoute is in
    begins_with of_document_route (codes "/device/document/") path routes r.0 routes_lead r.1 (kind_of r.0.value r.2)

target_told : (text : Bool) (path : List ℕ) (route : Option Route) (job n : ℕ) → (if text then option_map (target_of path) route else None) ≡ Some (Document (Some (job, n)))
    → (route ≡ Some DocumentRoute) × (numbers_in (drop (length document_prefix) path) ≡ Some (job, n))
target_told false path route job n is = absurd cc
target_told true path None job n is = absurd cc
target_told true path (Some DocumentRoute) job n is = (refl, cc)
target_told true path (Some _) job n is = absurd cc

pub path_told : (path : List ℕ) (job n : ℕ) → routed path ≡ Some (Document (Some (job, n))) → path ≡ codes "/device/document/" ++ decimal job ++ codes "/" ++ decimal n
path_told path job n is =
    let told = target_told (is_utf8 path) path (route_of path) job n is in
    begins_so path told.0 ∙ ap (λ l. document_prefix ++ l) (numbers_told (drop (length document_prefix) path) job n told.1)
