-- What the bytes left of a connection begin with: where those that have come hold no head, none within the limits; where a head was found, that one.
use Rattle.std.proofs.Common.{◌≡◌, Option, Ok, Err, ℕ, zero, suc, ◌≤◌, List, [], ◌∷◌, ◌++◌, None, Some, IfSome, length, take, drop, refl, sym, ap, ◌∙◌, subst, append_assoc, arith, take-append-drop, inl, inr, length-append}
use Rattle.std.specs.Io.KnownBytes.{Consumes, Keeps}
use Rattle.std.proofs.lemmas.List.{take-append-le, take_all}
use Rattle.std.proofs.Math.Seq.{take-append_seam}
use Rattle.httparse.specs.Grammar.{RequestHead, HasNoRequest, MayBecomeRequest, NeverHasRequest, print_request}
use Rattle.httparse.specs.Spans.{RequestOverflows, RequestExceeds}
use Rattle.httparse.specs.declared.spans.HeaderSpan.{HeaderSpan}
use Rattle.httparse.specs.declared.spans.RequestSpans.{RequestSpans}
use Rattle.http_head.specs.Fault.{IsHeadFault}
use Rattle.http_head.specs.Found.{IsHeadAt}
use Rattle.http_head.specs.Left.{left}
use Rattle.http_head.specs.Head.{HasNoHead, EndsWithoutHead}
use Rattle.http_head.specs.Limits.{head_limit, field_limit}
use Rattle.http_head.specs.Planned.{IsPlanned}
use Rattle.http_head.specs.Received.{TakesPlan}
use Rattle.http_head.specs.declared.end.Finish.TheVariants.{Refused}
use Rattle.http_head.specs.declared.end.Refusal.{Refusal}
use Rattle.http_head.specs.declared.end.Refusal.TheVariants.{BadRequest, HeaderFieldsTooLarge}
use Rattle.http_head.specs.declared.fault.HeadFault.TheVariants as fault
use Rattle.http_head.specs.declared.plan.Plan.{Plan}

-- a front that is no longer than another front begins it
pub front_of : (a b c d : List ℕ) → a ++ b ≡ c ++ d → length c ≤ length a → a ≡ c ++ drop (length c) a
front_of a b c d e h =
    let t : take (length c) a ≡ c = sym (take-append-le (length c) a b h) ∙ ap (take (length c)) e ∙ take-append_seam c d in
    sym (take-append-drop (length c) a) ∙ ap (λ l. l ++ drop (length c) a) t

-- no whole head in as many bytes as a head may have
pub no_head_in_full : (come more : List ℕ) → head_limit ≤ length come → HasNoRequest come → HasNoHead (come ++ more)
no_head_in_full come more full none h rest b =
    let fits : length (print_request h) ≤ length come = omega (arith, b.short) in
    none h (drop (length (print_request h)) come) (b.reads.0, front_of come more (print_request h) rest b.reads.1 fits)

pub no_head_in_many : (come more : List ℕ) → RequestOverflows field_limit come → HasNoHead (come ++ more)
no_head_in_many come more over h rest b = omega (arith, over more h rest b.reads, b.few)

pub exceeds_more : (come more : List ℕ) → RequestExceeds field_limit come → RequestExceeds field_limit (come ++ more)
exceeds_more come more x =
    let front = x.0 in
    let rest = x.1 in
    (front, rest ++ more, ap (λ l. l ++ more) x.2 ∙ append_assoc front rest more, x.3, x.4, x.5)

-- what has come, where it is no more than n bytes, begins the first n of it and more
fronted : (n : ℕ) (come more : List ℕ) → length come ≤ n → (rest : List ℕ) × (take n (come ++ more) ≡ come ++ rest)
fronted n [] more fits = (take n more, refl)
fronted zero (b ∷ come) more fits = absurd (omega (arith, fits))
fronted (suc n) (b ∷ come) more fits = let r = fronted n come more (omega (arith, fits)) in (r.0, ap (λ l. b ∷ l) r.1)

full_is_front : (come more : List ℕ) → length come ≡ head_limit → take head_limit (come ++ more) ≡ come
full_is_front come more full = take-append-le head_limit come more (omega (arith, full)) ∙ take_all head_limit come (omega (arith, full))

pub refused_full : (bytes r : Option (List ℕ)) (come : List ℕ) → Keeps bytes (left come r) → length come ≡ head_limit → HasNoRequest come → MayBecomeRequest come
    → IfSome bytes (λ xs. EndsWithoutHead xs (Refused HeaderFieldsTooLarge))
refused_full None r come p full none may = tt
refused_full (Some x) None come p full none may = absurd p
refused_full (Some x) (Some y) come p full none may =
    let enough : head_limit ≤ length come = omega (arith, full) in
    let all : head_limit ≤ length (come ++ y) = omega (arith, full, length-append come y) in
    subst (λ xs. EndsWithoutHead xs (Refused HeaderFieldsTooLarge)) p
    (inr (refl, no_head_in_full come y enough none, inl (all, subst MayBecomeRequest (sym (full_is_front come y full)) may)))

-- what can never begin a head can't with more behind it
pub refused_never : (bytes r : Option (List ℕ)) (come : List ℕ) → Keeps bytes (left come r) → length come ≤ head_limit → NeverHasRequest come
    → IfSome bytes (λ xs. EndsWithoutHead xs (Refused BadRequest))
refused_never None r come p fits never = tt
refused_never (Some x) None come p fits never = absurd p
refused_never (Some x) (Some y) come p fits never =
    let on = fronted head_limit come y fits in
    subst (λ xs. EndsWithoutHead xs (Refused BadRequest)) p
    (inl (refl, subst NeverHasRequest (sym on.1) (λ more. subst HasNoRequest (sym (append_assoc come on.0 more)) (never (on.0 ++ more)))))

pub refused_many : (bytes r : Option (List ℕ)) (come : List ℕ) → Keeps bytes (left come r) → RequestOverflows field_limit come → RequestExceeds field_limit come
    → IfSome bytes (λ xs. EndsWithoutHead xs (Refused HeaderFieldsTooLarge))
refused_many None r come p over many = tt
refused_many (Some x) None come p over many = absurd p
refused_many (Some x) (Some y) come p over many =
    subst (λ xs. EndsWithoutHead xs (Refused HeaderFieldsTooLarge)) p
    (inr (refl, no_head_in_many come y over, inr (exceeds_more come y many)))

-- ---- a head at the front of what has come

module _ (come : List ℕ) (headers : List HeaderSpan) (spans : RequestSpans) where
  begun : (x y : List ℕ) (h : RequestHead) → IsHeadAt come headers spans h → x ≡ come ++ y → x ≡ print_request h ++ (drop spans.len come ++ y)
  begun x y h found is = is ∙ ap (λ l. l ++ y) found.at.reads.1 ∙ append_assoc (print_request h) (drop spans.len come) y

  within_limit : (h : RequestHead) → IsHeadAt come headers spans h → length (print_request h) ≤ head_limit
  within_limit h found = subst (λ n. n ≤ head_limit) found.at.len found.short

  consumed : (bytes r : Option (List ℕ)) (h : RequestHead) → Keeps bytes (left come r) → IsHeadAt come headers spans h → Consumes bytes (left (drop spans.len come) r) (print_request h)
  consumed None r h kept found = tt
  consumed (Some x) None h kept found = absurd kept
  consumed (Some x) (Some y) h kept found = begun x y h found (sym kept)

  -- one that passes the checks is taken
  pub taken_plan : (bytes r : Option (List ℕ)) (plan : Plan) → Keeps bytes (left come r) → (h : RequestHead) × IsHeadAt come headers spans h → IsPlanned come headers spans (Ok plan)
      → TakesPlan bytes (left (drop spans.len come) r) plan
  taken_plan bytes r plan kept it planned =
      let h = it.0 in
      let found = it.1 in
      let passed = planned h found in (
        h,
        record { valid = found.at.reads.0; short = within_limit h found; few = found.few; taken = consumed bytes r h kept found },
        passed.0,
        passed.1,
      )

  -- one that a check refuses stands there
  pub refused_plan : (bytes r : Option (List ℕ)) (refusal : Refusal) → Keeps bytes (left come r) → (h : RequestHead) × IsHeadAt come headers spans h → IsPlanned come headers spans (Err refusal)
      → IsHeadFault bytes (fault.Refused refusal)
  refused_plan None r refusal kept it planned = tt
  refused_plan (Some x) None refusal kept it planned = absurd kept
  refused_plan (Some x) (Some y) refusal kept it planned =
      let h = it.0 in
      let found = it.1 in (
        h,
        drop spans.len come ++ y,
        record { reads = (found.at.reads.0, begun x y h found (sym kept)); short = within_limit h found; few = found.few },
        planned h found,
      )
