-- Bytes have one verdict, and a job's path is spelled in one way.
use Rattle.std.proofs.Common.{◌≡◌, ℕ, ◌<◌, ◌≤◌, ◌^◌, List, [], ◌∷◌, ◌++◌, Bool, true, false, ◌&&◌, length, get_or, refl, sym, ap, subst, ◌∙◌, arith, Result, Ok, Err}
use Rattle.std.specs.Prelude.{Some, None, codes, drop, take, not, nat_eq, nat_le, if◌then◌else◌}
use Rattle.std.specs.Char.{is_ascii_digit}
use Rattle.std.specs.Fmt.{decimal}
use Rattle.std.specs.List.{starts_with, list_all}
use Rattle.std.specs.Result.{result_err}
use Rattle.std.specs.Str.Parse.{digits_value}
use Rattle.std.specs.Cmp.Lexicographic.{same_text}
use Rattle.std.proofs.lemmas.List.{take-append-drop}
use Rattle.std.proofs.lemmas.Fmt.{first_decimal, digits_decimal, digits_value-decimal, decimal-digits_value}
use Rattle.std.proofs.lemmas.Nat.{from_be_bytes-to_be_bytes_2, from_be_bytes-to_be_bytes_4}
use Rattle.std.proofs.lemmas.Bool.{and_parts, leb-true}
use Rattle.std.proofs.lemmas.Option.{cond_some}
use Rattle.ipp_wire.specs.Message.{Message, Spells, head_of, spelling}
use Rattle.ipp_wire.proofs.Spelled.{head_eq}
use Rattle.ipp_reply.specs.Unsupported.{nothing}
use Rattle.ipp_reply.specs.declared.operation.Operation.{Operation}
use Rattle.ipp_ops.specs.Answer.{IsVerdictOn, by_head, malformed, request}
use Rattle.ipp_request.specs.Reading.{head_refusal, operation_in, request_by}
use Rattle.ipp_request.specs.Request.{IsJobPath, job_in, number_in}
use Rattle.ipp_request.specs.Values.{is_positive}
use Rattle.ipp_ops.specs.Verdict.{Verdict, refused, verdict, request_verdict}
use Rattle.ipp_request.proofs.Numbers.{model}

-- ---- one verdict

-- the bytes of a message begin with its head
head_spelled : (m : Message) (b : List ℕ) → Spells m b → m.head ≡ head_of b
head_spelled m b s =
    head_eq m.head (head_of (spelling m)) refl refl (sym (from_be_bytes-to_be_bytes_2 m.head.code s.message.head.code)) (sym (from_be_bytes-to_be_bytes_4 m.head.request_id s.message.head.request_id))
    ∙ ap head_of (sym s.bytes)

by_refusal : (o : Result Operation ℕ) (m : Message) (code : ℕ) → result_err o ≡ Some code → request_verdict (request_by o m) ≡ refused code nothing
by_refusal (Err k) m code e = let same : k ≡ code = cc in ap (λ (c : ℕ). refused c nothing) same
by_refusal (Ok o) m code e = absurd (cc)

-- the verdict on a message whose head is refused
head_refused : (m : Message) (b : List ℕ) (code : ℕ) → Spells m b → head_refusal (head_of b) ≡ Some code → verdict m ≡ refused code nothing
head_refused m b code s e = by_refusal (operation_in m.head) m code (ap head_refusal (head_spelled m b s) ∙ e)

pub one_verdict : ((m n : Message) (b : List ℕ) → Spells m b → Spells n b → m ≡ n) → (b : List ℕ) (v w : Verdict) → IsVerdictOn b v → IsVerdictOn b w → v ≡ w
one_verdict one b v w (by_head c h) (by_head d k) = let same : c ≡ d = cc in ap (λ (x : ℕ). refused x nothing) same
one_verdict one b v w (by_head c h) (malformed k q) = absurd (cc)
one_verdict one b v w (by_head c h) (request n s) = sym (head_refused n b c s h)
one_verdict one b v w (malformed h p) (by_head d k) = absurd (cc)
one_verdict one b v w (malformed h p) (malformed k q) = refl
one_verdict one b v w (malformed h p) (request n s) = absurd (p n s)
one_verdict one b v w (request m s) (by_head d k) = head_refused m b d s k
one_verdict one b v w (request m s) (malformed k q) = absurd (q m s)
one_verdict one b v w (request m s) (request n t) = ap verdict (one m n b s t)

-- ---- a job's path

abbrev printer_path : List ℕ
printer_path = codes "/ipp/print/"

printer_first : (path : List ℕ) → starts_with nat_eq path printer_path ≡ true → path ≡ printer_path ++ drop 11 path
printer_first path h = let same : printer_path ≡ take 11 path = same_text printer_path (take 11 path) (sym h) in sym (take-append-drop 11 path) ∙ ap (λ (t : List ℕ). t ++ drop 11 path) (sym same)

none_first : (ds : List ℕ) → not (starts_with nat_eq ds (codes "0")) ≡ true → get_or ds 0 0 ≡ 48 → length ds ≡ 1
none_first [] h e = absurd (cc)
none_first (d ∷ ds) h e = let P : ℕ → Type 0 = λ x. not (starts_with nat_eq (x ∷ ds) (codes "0")) ≡ true in let zero_first : false ≡ true = subst P e h in absurd (cc)

not_empty : (ds : List ℕ) → is_positive (digits_value 10 ds) ≡ true → 0 < length ds
not_empty [] h = absurd (cc)
not_empty (d ∷ ds) h = omega arith

abbrev Spelled : List ℕ → ℕ → Type 0
Spelled ds n = (1 ≤ n) × (n ≤ 2147483647) × (ds ≡ decimal n)

spelled : (ds : List ℕ) (n : ℕ) → number_in ds ≡ Some n → Spelled ds n
spelled ds n h =
    let v = digits_value 10 ds in
    let e = cond_some (list_all is_ascii_digit ds && not (starts_with nat_eq ds (codes "0")) && is_positive v) v n h in
    let f = and_parts (list_all is_ascii_digit ds && not (starts_with nat_eq ds (codes "0"))) (is_positive v) e.0 in
    let g = and_parts (list_all is_ascii_digit ds) (not (starts_with nat_eq ds (codes "0"))) f.0 in
    let within = and_parts (nat_le 1 v) (nat_le v 2147483647) f.1 in
    let high : v ≤ 2147483647 = leb-true _ _ within.1 in
    let same : decimal v ≡ ds = decimal-digits_value model ds g.0 (not_empty ds f.1) (none_first ds g.1) (omega (arith, high)) in
    subst (λ (x : ℕ). Spelled ds x) e.1 (leb-true _ _ within.0, high, sym same)

chosen_path : (b : Bool) (path : List ℕ) (n : ℕ) → (b ≡ true → path ≡ printer_path ++ drop 11 path) → (if b then number_in (drop 11 path) else None) ≡ Some n → IsJobPath path n
chosen_path true path n first h =
    let number = spelled (drop 11 path) n h in
    record { low = number.0; high = number.1; spelled = first refl ∙ ap (λ (t : List ℕ). printer_path ++ t) number.2 }
chosen_path false path n first h = absurd (cc)

pub path_named : (path : List ℕ) (n : ℕ) → job_in path ≡ Some n → IsJobPath path n
path_named path n h = chosen_path (starts_with nat_eq path printer_path) path n (printer_first path) h

above_zero : (ds : List ℕ) → 48 < get_or ds 0 0 → not (starts_with nat_eq ds (codes "0")) ≡ true
above_zero [] h = absurd (omega arith)
above_zero (d ∷ ds) h = grind arith

positive : (n : ℕ) → 1 ≤ n → n ≤ 2147483647 → is_positive n ≡ true
positive n low high = grind arith

all_true : (a b c : Bool) (v n : ℕ) → a ≡ true → b ≡ true → c ≡ true → v ≡ n → (if a && b && c then Some v else None) ≡ Some n
all_true true true true v n e f g h = ap Some h
all_true true true false v n e f g h = absurd (cc)
all_true true false c v n e f g h = absurd (cc)
all_true false b c v n e f g h = absurd (cc)

number_found : (n : ℕ) → 1 ≤ n → n ≤ 2147483647 → number_in (decimal n) ≡ Some n
number_found n low high =
    let small : n < 2 ^ 64 = omega arith in
    let value : digits_value 10 (decimal n) ≡ n = digits_value-decimal model n small in
    all_true (list_all is_ascii_digit (decimal n)) (not (starts_with nat_eq (decimal n) (codes "0"))) (is_positive (digits_value 10 (decimal n))) (digits_value 10 (decimal n)) n
    (digits_decimal model n small) (above_zero (decimal n) (first_decimal n (omega arith) small)) (ap is_positive value ∙ positive n low high) value

pub path_found : (path : List ℕ) (n : ℕ) → IsJobPath path n → job_in path ≡ Some n
path_found path n h = ap job_in h.spelled ∙ number_found n h.low h.high
