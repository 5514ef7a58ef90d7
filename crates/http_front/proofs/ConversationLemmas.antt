-- Two readings of one stream have the same turns.
use Rattle.std.proofs.Common.{◌≡◌, ◌≢◌, ◌≤◌, ◌+◌, ◌*◌, ◌⊎◌, ◌∙◌, ℕ, Bool, true, false, List, [], ◌∷◌, ◌++◌, Option, Some, None, length, map, append_assoc, inl, inr, refl, sym, ap, ap₂, subst, arith, if◌then◌else◌}
use Rattle.std.specs.List.{count_by, flat_map}
use Rattle.queue_core.specs.World.{World}
use Rattle.http_head.specs.declared.end.End.{End}
use Rattle.http_head.specs.declared.end.End.TheVariants.{Refused as EndRefused}
use Rattle.http_head.specs.declared.end.Finish.{Finish}
use Rattle.http_front.specs.Connections.{Answers, AreTurns, EndsAt, GoesOn, bits, end_told, ends_by_fault, flag_of, world_after, written_for}
use Rattle.http_front.specs.Conversations.{AreSameRequests, MayEndAs}
use Rattle.http_front.specs.Ends.{IsEnd}
use Rattle.http_front.specs.Turns.{Turn, IsTurn, acts, closes_at, request_bytes}
use Rattle.http_front.proofs.AnswerLemmas.{Laws, one_request, one_turn}
use Rattle.http_front.proofs.EndLemmas.{EndKind, available, end_kind, end_no_turn, one_last, same_available, same_ends}

-- the first request, and the others behind it
pub behind : (s : Turn) (ss : List Turn) (r : List ℕ) → flat_map request_bytes (s ∷ ss) ++ r ≡ request_bytes s ++ (flat_map request_bytes ss ++ r)
behind s ss r = append_assoc (request_bytes s) (flat_map request_bytes ss) r

pub same_list : (s t : Turn) (ss ts : List Turn) → s ≡ t → ss ≡ ts → (s ∷ ss) ≡ (t ∷ ts)
same_list s t ss ts e f = ap₂ (λ (z : Turn) (zs : List Turn). z ∷ zs) e f

pub same_requests : Laws → (now later : ℕ) (w v : World) (ss ts : List Turn) (r q : List ℕ) → AreTurns now w ss → AreTurns later v ts
    → flat_map request_bytes ss ++ r ≡ flat_map request_bytes ts ++ q → AreSameRequests ss ts
same_requests laws now later w v [] ts r q are also e = tt
same_requests laws now later w v (s ∷ ss) [] r q are also e = tt
same_requests laws now later w v (s ∷ ss) (t ∷ ts) r q are also e =
    let one = one_request laws now later w v s t (flat_map request_bytes ss ++ r) (flat_map request_bytes ts ++ q) are.0 also.0 (sym (behind s ss r) ∙ e ∙ behind t ts q) in
    (one.0, same_requests laws now later s.after t.after ss ts r q are.1 also.1 one.1)

-- ---- the bits of faults

same_bits : (b c : Bool) (x y : ℕ) → (if b then 1 else 0) + 2 * x ≡ (if c then 1 else 0) + 2 * y → (b ≡ c) × (x ≡ y)
same_bits true true x y e = (refl, omega (arith, e))
same_bits false false x y e = (refl, omega (arith, e))
same_bits true false x y e = absurd (omega (arith, e))
same_bits false true x y e = absurd (omega (arith, e))

pub no_bits : (b : Bool) (x : ℕ) → (if b then 1 else 0) + 2 * x ≡ 0 → (b ≡ false) × (x ≡ 0)
no_bits true x e = absurd (omega (arith, e))
no_bits false x e = (refl, omega (arith, e))

-- behind some, the last is set
some_bits : (bs : List Bool) → 1 ≤ bits (bs ++ true ∷ [])
some_bits [] = omega arith
some_bits (true ∷ bs) = omega arith
some_bits (false ∷ bs) = let more = some_bits bs in omega (arith, more)

pub no_last : (bs : List Bool) (b : Bool) → bits (bs ++ b ∷ []) ≡ 0 → b ≡ false
no_last bs true e = absurd (let some = some_bits bs in omega (arith, some, e))
no_last bs false e = refl

abbrev pub flags : List Turn → Bool → List Bool
flags ts last = map flag_of ts ++ last ∷ []

-- a fault at the end, and one request more behind which there is a fault too
no_more_bits : (t : Turn) (ts : List Turn) → bits (true ∷ []) ≡ bits (flags (t ∷ ts) true) → ⊥
no_more_bits t ts e = let some = some_bits (map flag_of ts) in let same = same_bits true t.is_fault 0 (bits (map flag_of ts ++ true ∷ [])) e in omega (arith, some, same.1)

-- ---- the turns from request k on, and the end behind them

abbrev pub EndsOn : ℕ → World → List Turn → List ℕ → Option Finish → List ℕ → Type 0
EndsOn k w [] rest None last = ⊥
EndsOn k w [] rest (Some end) last = IsEnd w rest end last
EndsOn k w (t ∷ ts) rest end last = ((closes_at k t ≡ true) × (ts ≡ []) × (last ≡ []) × (end ≡ None)) ⊎ ((closes_at k t ≡ false) × EndsOn (k + 1) t.after ts rest end last)

goes_ends : (k : ℕ) (w : World) (ts : List Turn) (rest : List ℕ) (end : Finish) (last : List ℕ) → GoesOn k ts → IsEnd (world_after w ts) rest end last → EndsOn k w ts rest (Some end) last
goes_ends k w [] rest end last g e = e
goes_ends k w (t ∷ ts) rest end last g e = inr (g.0, goes_ends (k + 1) t.after ts rest end last g.1 e)

closes_ends : (k : ℕ) (w : World) (front : List Turn) (t : Turn) (rest : List ℕ) → GoesOn k front → closes_at (k + length front) t ≡ true → EndsOn k w (front ++ t ∷ []) rest None []
closes_ends k w [] t rest g c = let e : k + 0 ≡ k = omega arith in inl (subst (λ (n : ℕ). closes_at n t ≡ true) e c, refl, refl, refl)
closes_ends k w (s ∷ front) t rest g c =
    let e : k + length (s ∷ front) ≡ (k + 1) + length front = omega arith in
    inr (g.0, closes_ends (k + 1) s.after front t rest g.1 (subst (λ (n : ℕ). closes_at n t ≡ true) e c))

pub ends_on : (w : World) (ts : List Turn) (rest : List ℕ) (end : Option Finish) (last : List ℕ) → EndsAt (world_after w ts) ts rest end last → EndsOn 0 w ts rest end last
ends_on w ts rest None last h =
    let front = h.1.front in
    let t = h.1.last in
    let e : length front ≡ 0 + length front = omega arith in
    subst (λ (l : List ℕ). EndsOn 0 w ts rest None l) (sym h.0) (subst (λ (us : List Turn). EndsOn 0 w us rest None []) (sym h.1.turns_are)
    (closes_ends 0 w front t rest h.1.goes_on (subst (λ (n : ℕ). closes_at n t ≡ true) e h.1.closes)))
ends_on w ts rest (Some end) last h = goes_ends 0 w ts rest end last h.0 h.1

-- where no turn is left, it ends there
pub kind_at : (k : ℕ) (w : World) (bytes : List ℕ) (end : Option Finish) (last : List ℕ) → EndsOn k w [] bytes end last → ends_by_fault end ≡ false
    → (f : Finish) × (end ≡ Some f) × EndKind w bytes f last
kind_at k w bytes None last ends whole = absurd ends
kind_at k w bytes (Some f) last ends whole = (f, refl, end_kind w bytes f last ends whole)

-- no request is closed and goes on
pub not_both : (k : ℕ) (s t : Turn) (A : Type 0) → s ≡ t → closes_at k s ≡ true → closes_at k t ≡ false → A
not_both k s t A e c d = let no : true ≡ false = sym c ∙ ap (closes_at k) e ∙ d in absurd cc

-- ---- the same faults and ends

-- where the one ends, the other doesn't go on
no_further : Laws → (now k : ℕ) (w : World) (t : Turn) (ts : List Turn) (r q : List ℕ) (f g : Option Finish) (l : List ℕ) (a : Bool) → ends_by_fault f ≡ a → ends_by_fault g ≡ a → IsTurn now w t
    → r ≡ flat_map request_bytes (t ∷ ts) ++ q → EndsOn k w [] r f l → bits (flags [] (ends_by_fault f)) ≡ bits (flags (t ∷ ts) (ends_by_fault g)) → ⊥
no_further laws now k w t ts r q f g l true x y is e end same =
    no_more_bits t ts (ap (λ (b : Bool). bits (b ∷ [])) (sym x) ∙ same ∙ ap (λ (b : Bool). bits (flags (t ∷ ts) b)) y)
no_further laws now k w t ts r q f g l false x y is e end same =
    let kind = kind_at k w r f l end x in
    end_no_turn laws now w t r (flat_map request_bytes ts ++ q) kind.0 l is (e ∙ behind t ts q) kind.2

pub same_turns : Laws → (now k : ℕ) (w : World) (ss ts : List Turn) (r q : List ℕ) (f g : Option Finish) (l m : List ℕ) → AreTurns now w ss → AreTurns now w ts
    → flat_map request_bytes ss ++ r ≡ flat_map request_bytes ts ++ q → EndsOn k w ss r f l → EndsOn k w ts q g m
    → ends_by_fault f ≡ ends_by_fault g → bits (flags ss (ends_by_fault f)) ≡ bits (flags ts (ends_by_fault g)) → (ss ≡ ts) × (r ≡ q)
same_turns laws now k w [] [] r q f g l m are also e x y same bits_are = (refl, e)
same_turns laws now k w [] (t ∷ ts) r q f g l m are also e x y same bits_are =
    absurd (no_further laws now k w t ts r q f g l (ends_by_fault f) refl (sym same) also.0 e x bits_are)
same_turns laws now k w (s ∷ ss) [] r q f g l m are also e x y same bits_are =
    absurd (no_further laws now k w s ss q r g f m (ends_by_fault g) refl same are.0 (sym e) y (sym bits_are))
same_turns laws now k w (s ∷ ss) (t ∷ ts) r q f g l m are also e x y same bits_are =
    let first = same_bits s.is_fault t.is_fault (bits (flags ss (ends_by_fault f))) (bits (flags ts (ends_by_fault g))) bits_are in
    let one = one_turn laws now w s t (flat_map request_bytes ss ++ r) (flat_map request_bytes ts ++ q) are.0 also.0 (sym (behind s ss r) ∙ e ∙ behind t ts q) first.0 in
    let goal : Type 0 = ((s ∷ ss) ≡ (t ∷ ts)) × (r ≡ q) in
    elim x [
      | inl c ↦ elim y [
        | inl d ↦ (
          same_list s t ss ts one.0 (c.1 ∙ sym d.1),
          ap (λ (zs : List Turn). flat_map request_bytes zs ++ r) (sym c.1) ∙ one.1 ∙ ap (λ (zs : List Turn). flat_map request_bytes zs ++ q) d.1,
        )
        | inr d ↦ not_both k s t goal one.0 c.0 d.0
      ]
      | inr c ↦ elim y [
        | inl d ↦ not_both k t s goal (sym one.0) d.0 c.0
        | inr d ↦ (
            let rest = same_turns laws now (k + 1) s.after ss ts r q f g l m are.1 (subst (λ (z : Turn). AreTurns now z.after ts) (sym one.0) also.1) one.1 c.1
            (subst (λ (z : Turn). EndsOn (k + 1) z.after ts q g m) (sym one.0) d.1) same first.1 in
            (same_list s t ss ts one.0 rest.0, rest.1)
            )
      ]
    ]

-- ---- what is written last

pub same_last : Laws → (k : ℕ) (w : World) (ts : List Turn) (rest : List ℕ) (f g : Option Finish) (l m : List ℕ) → EndsOn k w ts rest f l → EndsOn k w ts rest g m
    → end_told f ≡ end_told g → ends_by_fault f ≡ false → ends_by_fault g ≡ false → l ≡ m
same_last laws k w [] rest None g l m x y e a b = absurd x
same_last laws k w [] rest (Some f) None l m x y e a b = absurd y
same_last laws k w [] rest (Some f) (Some g) l m x y e a b = one_last laws w rest f g l m (end_kind w rest f l x a) (end_kind w rest g m y b) e
same_last laws k w (t ∷ ts) rest f g l m (inl c) (inl d) e a b = c.2 ∙ sym d.2
same_last laws k w (t ∷ ts) rest f g l m (inl c) (inr d) e a b = not_both k t t (l ≡ m) refl c.0 d.0
same_last laws k w (t ∷ ts) rest f g l m (inr c) (inl d) e a b = not_both k t t (l ≡ m) refl d.0 c.0
same_last laws k w (t ∷ ts) rest f g l m (inr c) (inr d) e a b = same_last laws (k + 1) t.after ts rest f g l m c.1 d.1 e a b

pub same_ends_on : Laws → (k : ℕ) (w : World) (ts : List Turn) (rest : List ℕ) (f g : Option Finish) (l m : List ℕ) → EndsOn k w ts rest f l → EndsOn k w ts rest g m
    → ends_by_fault f ≡ false → ends_by_fault g ≡ false → (end_told f ≡ end_told g) ⊎ MayEndAs rest f g
same_ends_on laws k w [] rest None g l m x y a b = absurd x
same_ends_on laws k w [] rest (Some f) None l m x y a b = absurd y
same_ends_on laws k w [] rest (Some f) (Some g) l m x y a b = same_ends laws w rest f g l m (end_kind w rest f l x a) (end_kind w rest g m y b)
same_ends_on laws k w (t ∷ ts) rest f g l m (inl c) (inl d) a b = inl (ap end_told (c.3 ∙ sym d.3))
same_ends_on laws k w (t ∷ ts) rest f g l m (inl c) (inr d) a b = not_both k t t ((end_told f ≡ end_told g) ⊎ MayEndAs rest f g) refl c.0 d.0
same_ends_on laws k w (t ∷ ts) rest f g l m (inr c) (inl d) a b = not_both k t t ((end_told f ≡ end_told g) ⊎ MayEndAs rest f g) refl d.0 c.0
same_ends_on laws k w (t ∷ ts) rest f g l m (inr c) (inr d) a b = same_ends_on laws (k + 1) t.after ts rest f g l m c.1 d.1 a b

-- ---- the answers to a stream, twice

pub one_conversation : Laws → (now : ℕ) (w u v : World) (stream written other : List ℕ) (acted n faults : ℕ) (end : End)
    → (a : Answers now w stream written u acted faults end) → (b : Answers now w stream other v n faults end)
    → (a.turns ≡ b.turns) × (a.rest ≡ b.rest) × (u ≡ v) × (acted ≡ n) × (end ≢ EndRefused 503 → written ≡ other)
one_conversation laws now w u v stream written other acted n faults end a b =
    let ends_a = ends_on w a.turns a.rest a.finish a.last a.ends in
    let ends_b = ends_on w b.turns b.rest b.finish b.last b.ends in
    let ends = sym a.end_is ∙ b.end_is in
    let same = same_turns laws now 0 w a.turns b.turns a.rest b.rest a.finish b.finish a.last b.last a.are b.are (sym a.stream_is ∙ b.stream_is) ends_a ends_b
    (same_available a.finish b.finish ends) (sym a.faults_are ∙ b.faults_are) in (
      same.0,
      same.1,
      a.world ∙ ap (world_after w) same.0 ∙ sym b.world,
      a.acted_is ∙ ap (λ (ts : List Turn). count_by acts ts) same.0 ∙ sym b.acted_is,
      λ told.
          let last = same_last laws 0 w b.turns b.rest a.finish b.finish a.last b.last
          (subst (λ (ts : List Turn). EndsOn 0 w ts b.rest a.finish a.last) same.0 (subst (λ (z : List ℕ). EndsOn 0 w a.turns z a.finish a.last) same.1 ends_a)) ends_b ends
          (available a.finish (λ e. told (a.end_is ∙ e))) (available b.finish (λ e. told (b.end_is ∙ e))) in
          a.written_is ∙ ap₂ (λ (ts : List Turn) (z : List ℕ). written_for 0 ts ++ z) same.0 last ∙ sym b.written_is,
    )

-- ---- without a fault

pub faultless_turns : Laws → (now : ℕ) (w u v : World) (stream written other : List ℕ) (acted n : ℕ) (end last : End)
    → (a : Answers now w stream written u acted 0 end) → (b : Answers now w stream other v n 0 last)
    → (a.turns ≡ b.turns) × (a.rest ≡ b.rest) × (u ≡ v) × (acted ≡ n) × (end ≡ last → written ≡ other) × ((end ≡ last) ⊎ MayEndAs a.rest a.finish b.finish)
faultless_turns laws now w u v stream written other acted n end last a b =
    let ends_a = ends_on w a.turns a.rest a.finish a.last a.ends in
    let ends_b = ends_on w b.turns b.rest b.finish b.last b.ends in
    let none_a = no_last (map flag_of a.turns) (ends_by_fault a.finish) (sym a.faults_are) in
    let none_b = no_last (map flag_of b.turns) (ends_by_fault b.finish) (sym b.faults_are) in
    let same = same_turns laws now 0 w a.turns b.turns a.rest b.rest a.finish b.finish a.last b.last a.are b.are (sym a.stream_is ∙ b.stream_is) ends_a ends_b
    (none_a ∙ sym none_b) (sym a.faults_are ∙ b.faults_are) in
    let ends = subst (λ (ts : List Turn). EndsOn 0 w ts a.rest b.finish b.last) (sym same.0) (subst (λ (z : List ℕ). EndsOn 0 w b.turns z b.finish b.last) (sym same.1) ends_b) in (
      same.0,
      same.1,
      a.world ∙ ap (world_after w) same.0 ∙ sym b.world,
      a.acted_is ∙ ap (λ (ts : List Turn). count_by acts ts) same.0 ∙ sym b.acted_is,
      λ told.
          a.written_is
          ∙ ap₂ (λ (ts : List Turn) (z : List ℕ). written_for 0 ts ++ z) same.0
          (same_last laws 0 w a.turns a.rest a.finish b.finish a.last b.last ends_a ends (sym a.end_is ∙ told ∙ b.end_is) none_a none_b)
          ∙ sym b.written_is,
      elim (same_ends_on laws 0 w a.turns a.rest a.finish b.finish a.last b.last ends_a ends none_a none_b) [
        | inl e ↦ inl (a.end_is ∙ e ∙ sym b.end_is)
        | inr either ↦ inr either
      ],
    )
