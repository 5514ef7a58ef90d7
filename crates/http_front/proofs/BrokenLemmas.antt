-- Answers to a stream that were broken off are a front of those that were not.
use Rattle.std.proofs.Common.{◌≡◌, ◌+◌, ◌⊎◌, ◌∙◌, ℕ, Bool, false, List, [], ◌∷◌, ◌++◌, Option, None, Some, length, map, append_assoc, append-nil, inl, inr, refl, sym, ap, subst, arith}
use Rattle.std.specs.List.{flat_map}
use Rattle.httparse.specs.Grammar.{RequestHead}
use Rattle.queue_core.specs.World.{World}
use Rattle.http_head.specs.Checks.{head_of, plan_of, refusal_of}
use Rattle.http_head.specs.Ends.{is_unavailable}
use Rattle.http_head.specs.Head.{BeginsHead}
use Rattle.http_head.specs.declared.end.End.{End}
use Rattle.http_head.specs.declared.end.Finish.{Finish}
use Rattle.http_wire.specs.Responses.{interim_response, last_response, refusal_response, success_response}
use Rattle.http_front.specs.Connections.{Answers, AreTurns, Breaks, GoesOn, bits, ends_by_fault, flag_of, world_after, written_for}
use Rattle.http_front.specs.Conversations.{MayEndAs}
use Rattle.http_front.specs.Ends.{IsBegun, IsEnd, answered, ended, interim, nothing}
use Rattle.http_front.specs.Turns.{Turn, IsTurn, answer_bytes, closes_at, plan, request_bytes}
use Rattle.http_front.proofs.AnswerLemmas.{Laws, one_turn, turn_head}
use Rattle.http_front.proofs.ConversationLemmas.{EndsOn, behind, ends_on, flags, kind_at, no_bits, no_last, not_both, same_list}
use Rattle.http_front.proofs.EndLemmas.{EndKind, EndsBehind, by_body, by_check, by_decline, end_kind, end_no_turn, headed, headless, one_last, same_ends}

-- ---- the turns

-- of the turns that a connection goes on behind, the answers to the stream begin with the same
record Front (now k : ℕ) (w : World) (ss ts : List Turn) (r q : List ℕ) (f : Option Finish) (l : List ℕ) : Type 0 where
  more : List Turn
  all : ss ≡ ts ++ more
  are : AreTurns now (world_after w ts) more
  stream : flat_map request_bytes more ++ r ≡ q
  ends : EndsOn k (world_after w ts) more r f l
  none : bits (flags more (ends_by_fault f)) ≡ 0

front_turns : Laws → (now k : ℕ) (w : World) (ss ts : List Turn) (r q : List ℕ) (f : Option Finish) (l : List ℕ) (b : Bool) → AreTurns now w ss → AreTurns now w ts
    → flat_map request_bytes ss ++ r ≡ flat_map request_bytes ts ++ q → EndsOn k w ss r f l → GoesOn k ts
    → bits (flags ss (ends_by_fault f)) ≡ 0 → bits (flags ts b) ≡ 0 → Front now (k + length ts) w ss ts r q f l
front_turns laws now k w ss [] r q f l b are also e x goes none clear =
    let same : k ≡ k + 0 = omega arith in
    record { more = ss; all = refl; are = are; stream = e; ends = subst (λ (n : ℕ). EndsOn n w ss r f l) same x; none = none }
front_turns laws now k w [] (t ∷ ts) r q f l b are also e x goes none clear =
    let kind = kind_at k w r f l x (no_last [] (ends_by_fault f) none) in
    absurd (end_no_turn laws now w t r (flat_map request_bytes ts ++ q) kind.0 l also.0 (e ∙ behind t ts q) kind.2)
front_turns laws now k w (s ∷ ss) (t ∷ ts) r q f l b are also e (inl c) goes none clear =
    let first = no_bits s.is_fault (bits (flags ss (ends_by_fault f))) none in
    let second = no_bits t.is_fault (bits (flags ts b)) clear in
    let one = one_turn laws now w s t (flat_map request_bytes ss ++ r) (flat_map request_bytes ts ++ q) are.0 also.0 (sym (behind s ss r) ∙ e ∙ behind t ts q) (first.0 ∙ sym second.0) in
    not_both k s t (Front now (k + length (t ∷ ts)) w (s ∷ ss) (t ∷ ts) r q f l) one.0 c.0 goes.0
front_turns laws now k w (s ∷ ss) (t ∷ ts) r q f l b are also e (inr c) goes none clear =
    let first = no_bits s.is_fault (bits (flags ss (ends_by_fault f))) none in
    let second = no_bits t.is_fault (bits (flags ts b)) clear in
    let one = one_turn laws now w s t (flat_map request_bytes ss ++ r) (flat_map request_bytes ts ++ q) are.0 also.0 (sym (behind s ss r) ∙ e ∙ behind t ts q) (first.0 ∙ sym second.0) in
    let rest = front_turns laws now (k + 1) t.after ss ts r q f l b (subst (λ (z : Turn). AreTurns now z.after ss) one.0 are.1) also.1 one.1
    (subst (λ (z : Turn). EndsOn (k + 1) z.after ss r f l) one.0 c.1) goes.1 first.1 second.1 in
    let count : (k + 1) + length ts ≡ k + length (t ∷ ts) = omega arith in
    record {
      more = rest.more;
      all = same_list s t ss (ts ++ rest.more) one.0 rest.all;
      are = rest.are;
      stream = rest.stream;
      ends = subst (λ (n : ℕ). EndsOn n (world_after t.after ts) rest.more r f l) count rest.ends;
      none = rest.none;
    }

are_front : (now : ℕ) (w : World) (ts us : List Turn) → AreTurns now w (ts ++ us) → AreTurns now w ts × AreTurns now (world_after w ts) us
are_front now w [] us are = (tt, are)
are_front now w (t ∷ ts) us are = let rest = are_front now t.after ts us are.1 in ((are.0, rest.0), rest.1)

-- the request that stands there is the next
next_in : Laws → (now k : ℕ) (w : World) (ss : List Turn) (r q rest : List ℕ) (t : Turn) (f : Option Finish) (l : List ℕ) → AreTurns now w ss → flat_map request_bytes ss ++ r ≡ q
    → EndsOn k w ss r f l → bits (flags ss (ends_by_fault f)) ≡ 0 → IsTurn now w t → q ≡ request_bytes t ++ rest → t.is_fault ≡ false → (more : List Turn) × (ss ≡ t ∷ more)
next_in laws now k w [] r q rest t f l are stream x none is e clear =
    let kind = kind_at k w r f l x (no_last [] (ends_by_fault f) none) in
    absurd (end_no_turn laws now w t r rest kind.0 l is (stream ∙ e) kind.2)
next_in laws now k w (s ∷ ss) r q rest t f l are stream x none is e clear =
    let first = no_bits s.is_fault (bits (flags ss (ends_by_fault f))) none in
    let one = one_turn laws now w s t (flat_map request_bytes ss ++ r) rest are.0 is (sym (behind s ss r) ∙ stream ∙ e) (first.0 ∙ sym clear) in
    (ss, ap (λ (z : Turn). z ∷ ss) one.0)

-- ---- what is written

written_join : (k : ℕ) (ts us : List Turn) → written_for k (ts ++ us) ≡ written_for k ts ++ written_for (k + length ts) us
written_join k [] us = let e : k ≡ k + 0 = omega arith in ap (λ n. written_for n us) e
written_join k (t ∷ ts) us =
    let e : (k + 1) + length ts ≡ k + length (t ∷ ts) = omega arith in
    ap (λ l. answer_bytes k t ++ l) (written_join (k + 1) ts us ∙ ap (λ n. written_for (k + 1) ts ++ written_for n us) e)
    ∙ sym (append_assoc (answer_bytes k t) (written_for (k + 1) ts) (written_for (k + length (t ∷ ts)) us))

-- behind a head that passes the checks, its interim response is the first that is written
interim_behind : (w : World) (h : RequestHead) (rest : List ℕ) (f : Finish) (l : List ℕ) → EndsBehind w h rest f l → refusal_of (head_of h) ≡ None
    → (more : List ℕ) × (l ≡ interim_response (plan_of (head_of h)) ++ more)
interim_behind w h rest _ _ (by_check r check) passes = let no : Some r ≡ None = sym check ∙ passes in absurd cc
interim_behind w h rest _ _ (by_body end is ends) passes = (last_response end, refl)
interim_behind w h rest _ _ (by_decline raw content more r at is body declines) passes = (refusal_response r, refl)

interim_end : Laws → (w : World) (bytes : List ℕ) (f : Finish) (l : List ℕ) (h : RequestHead) (rest : List ℕ) → EndKind w bytes f l → BeginsHead bytes h rest → refusal_of (head_of h) ≡ None
    → (more : List ℕ) × (l ≡ interim_response (plan_of (head_of h)) ++ more)
interim_end laws w bytes _ _ h rest (headless f none) begins passes = absurd (laws.whole_heads bytes h rest f begins none)
interim_end laws w bytes _ _ h rest (headed k more f l starts ends) begins passes =
    let same = laws.heads bytes k h more rest starts begins in
    interim_behind w h more f l (subst (λ (z : RequestHead). EndsBehind w z more f l) same.0 ends) passes

interim_first : Laws → (now k : ℕ) (w : World) (ss : List Turn) (r q : List ℕ) (f : Option Finish) (l : List ℕ) (h : RequestHead) (rest : List ℕ) → AreTurns now w ss → flat_map request_bytes ss ++ r ≡ q
    → EndsOn k w ss r f l → ends_by_fault f ≡ false → BeginsHead q h rest → refusal_of (head_of h) ≡ None
    → (more : List ℕ) × (written_for k ss ++ l ≡ interim_response (plan_of (head_of h)) ++ more)
interim_first laws now k w [] r q f l h rest are stream x whole begins passes =
    let kind = kind_at k w r f l x whole in
    interim_end laws w r kind.0 l h rest kind.2 (subst (λ (z : List ℕ). BeginsHead z h rest) (sym stream) begins) passes
interim_first laws now k w (s ∷ ss) r q f l h rest are stream x whole begins passes =
    let same = laws.heads q s.head h (s.raw ++ (flat_map request_bytes ss ++ r)) rest (turn_head now w s q (flat_map request_bytes ss ++ r) are.0 (sym stream ∙ behind s ss r)) begins in
    let success = success_response s.media_type s.reply (closes_at k s) in
    let others = written_for (k + 1) ss in (
      success ++ (others ++ l),
      append_assoc (answer_bytes k s) others l ∙ append_assoc (interim_response (plan s)) success (others ++ l)
          ∙ ap (λ (z : RequestHead). interim_response (plan_of (head_of z)) ++ (success ++ (others ++ l))) same.0,
    )

-- what was begun is the first that is written, unless it is an end that may be told in more than one way
abbrev BeginsSo : ℕ → List Turn → List ℕ → List ℕ → List ℕ → Option Finish → Type 0
BeginsSo k ss l q begun f = ((more : List ℕ) × (written_for k ss ++ l ≡ begun ++ more)) ⊎ ((g : Finish) × MayEndAs q (Some g) f)

ended_first : Laws → (now k : ℕ) (w : World) (ss : List Turn) (r q last : List ℕ) (end : Finish) (f : Option Finish) (l : List ℕ) → AreTurns now w ss → flat_map request_bytes ss ++ r ≡ q
    → EndsOn k w ss r f l → ends_by_fault f ≡ false → IsEnd w q end last → is_unavailable end ≡ false → BeginsSo k ss l q last f
ended_first laws now k w [] r q last end f l are stream x whole is clear =
    let kind = end_kind w q end last is clear in
    let found = kind_at k w r f l x whole in
    let also = subst (λ (z : List ℕ). EndKind w z found.0 l) stream found.2 in
    elim (same_ends laws w q end found.0 last l kind also) [
      | inl e ↦ inl ([], sym (one_last laws w q end found.0 last l kind also e) ∙ sym (append-nil last))
      | inr either ↦ inr (end, subst (λ (z : Option Finish). MayEndAs q (Some end) z) (sym found.1) either)
    ]
ended_first laws now k w (s ∷ ss) r q last end f l are stream x whole is clear =
    absurd (end_no_turn laws now w s q (flat_map request_bytes ss ++ r) end last are.0 (sym stream ∙ behind s ss r) (end_kind w q end last is clear))

begun_first : Laws → (now k : ℕ) (w : World) (ss : List Turn) (r q begun : List ℕ) (broken : List Turn) (b : Bool) (f : Option Finish) (l : List ℕ) → AreTurns now w ss → flat_map request_bytes ss ++ r ≡ q
    → EndsOn k w ss r f l → bits (flags ss (ends_by_fault f)) ≡ 0 → AreTurns now w broken → IsBegun k w q begun broken b → b ≡ false
    → (more : List Turn) × (ss ≡ broken ++ more) × BeginsSo k ss l q begun f
begun_first laws now k w ss r q _ _ _ f l are stream x none also nothing clear = (ss, refl, inl (written_for k ss ++ l, refl))
begun_first laws now k w ss r q _ _ _ f l are stream x none also (interim h rest begins passes) clear =
    (ss, refl, inl (interim_first laws now k w ss r q f l h rest are stream x (no_last (map flag_of ss) (ends_by_fault f) none) begins passes))
begun_first laws now k w ss r q _ _ _ f l are stream x none also (ended end last is) clear =
    (ss, refl, ended_first laws now k w ss r q last end f l are stream x (no_last (map flag_of ss) (ends_by_fault f) none) is clear)
begun_first laws now k w ss r q _ _ _ f l are stream x none also (answered t rest e) clear =
    let found = next_in laws now k w ss r q rest t f l are stream x none also.0 e clear in (
      found.0,
      found.1,
      inl (written_for (k + 1) found.0 ++ l, ap (λ (zs : List Turn). written_for k zs ++ l) found.1 ∙ append_assoc (answer_bytes k t) (written_for (k + 1) found.0) l),
    )

-- ---- the whole connection

written_front : (written other done begun front unwritten more last : List ℕ) → written ≡ done ++ last → last ≡ begun ++ more → begun ≡ front ++ unwritten → other ≡ done ++ front
    → written ≡ other ++ (unwritten ++ more)
written_front written other done begun front unwritten more last e f g h =
    e ∙ ap (λ (z : List ℕ). done ++ z) (f ∙ ap (λ (z : List ℕ). z ++ more) g ∙ append_assoc front unwritten more) ∙ sym (append_assoc done front (unwritten ++ more))
    ∙ ap (λ (z : List ℕ). z ++ (unwritten ++ more)) (sym h)

pub broken_turns : Laws → (now : ℕ) (w u v : World) (stream written other : List ℕ) (acted n : ℕ) (end : End)
    → (a : Answers now w stream written u acted 0 end) → (b : Breaks now w stream other v n 0)
    → (more : List Turn) × (a.turns ≡ (b.turns ++ b.broken) ++ more)
    × (((unwritten : List ℕ) × (written ≡ other ++ unwritten)) ⊎ ((f : Finish) × MayEndAs b.rest (Some f) a.finish))
broken_turns laws now w u v stream written other acted n end a b =
    let are = are_front now w b.turns b.broken b.are in
    let front = front_turns laws now 0 w a.turns b.turns a.rest b.rest a.finish a.last b.fault_last a.are are.0 (sym a.stream_is ∙ b.stream_is)
    (ends_on w a.turns a.rest a.finish a.last a.ends) b.goes_on (sym a.faults_are) (sym b.faults_are) in
    let count : 0 + length b.turns ≡ length b.turns = omega arith in
    let more = begun_first laws now (length b.turns) (world_after w b.turns) front.more a.rest b.rest b.begun b.broken b.fault_last a.finish a.last front.are front.stream
    (subst (λ (j : ℕ). EndsOn j (world_after w b.turns) front.more a.rest a.finish a.last) count front.ends) front.none are.1 b.begins (no_last (map flag_of b.turns) b.fault_last (sym b.faults_are)) in
    let written_is : written ≡ written_for 0 b.turns ++ (written_for (length b.turns) front.more ++ a.last) =
    a.written_is ∙ ap (λ (zs : List Turn). written_for 0 zs ++ a.last) front.all
    ∙ ap (λ (z : List ℕ). z ++ a.last) (written_join 0 b.turns front.more ∙ ap (λ (j : ℕ). written_for 0 b.turns ++ written_for j front.more) count)
    ∙ append_assoc (written_for 0 b.turns) (written_for (length b.turns) front.more) a.last in (
      more.0,
      front.all ∙ ap (λ (zs : List Turn). b.turns ++ zs) more.1 ∙ sym (append_assoc b.turns b.broken more.0),
      elim more.2 [
        | inl x ↦ inl (
          b.unwritten ++ x.0,
          written_front written other (written_for 0 b.turns) b.begun b.front b.unwritten x.0 (written_for (length b.turns) front.more ++ a.last) written_is x.1 b.begun_is b.written_is,
        )
        | inr either ↦ inr either
      ],
    )
