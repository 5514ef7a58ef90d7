-- A run of turns goes on by one turn, and ends.
use Rattle.std.proofs.Common.{◌≡◌, Option, Bool, true, false, ℕ, ◌+◌, ◌^◌, ◌≤◌, List, [], ◌∷◌, ◌++◌, None, Some, Ok, Err, IfSome, length, map, refl, sym, ap, ◌∙◌, subst, append_assoc, append-nil, length-append, arith, if◌then◌else◌}
use Rattle.std.proofs.Common.{IfOk, Result, Bor, option_copied}
use Rattle.std.specs.Result.{result_ok}
use Rattle.std.specs.List.{flat_map}
use Rattle.std.specs.Io.KnownBytes.{Consumes, Appends}
use Rattle.std.proofs.lemmas.Grind.{flat_map-append}
use Rattle.std.proofs.lemmas.List.{map_push, length-map}
use Rattle.std.proofs.Math.Nat.{pow-suc}
use Rattle.std.proofs.KnownBytes.{Consumes-nil, Appends-nil, Appends-trans, Consumes-trans}
use Rattle.queue_core.specs.World.{World}
use Rattle.queue_types.specs.Settings.{SettingValues}
use Rattle.http_head.specs.Left.{left}
use Rattle.http_head.specs.Ends.{is_unavailable, end_of}
use Rattle.http_head.specs.declared.end.Finish.{Finish}
use Rattle.http_head.specs.declared.end.End.TheVariants.{Done}
use Rattle.http_front.specs.Turns.{Turn, IsTurn, request_bytes, answer_bytes, acts, closes_at, last_request, most_requests}
use Rattle.http_front.specs.Ends.{IsEnd, IsBegun}
use Rattle.http_front.specs.Connections.{AreTurns, GoesOn, EndsAt, IsServed, IsStopped, Worked, written_for, world_after, bits, flag_of, end_told, ends_by_fault}
use Rattle.http_front.specs.Crash.{CarriesAll}
use Rattle.http_front.specs.Turned.{IsTurned, TellsFault}
use Rattle.http_front.proofs.CrashLemmas.{carries_more}
use Rattle.http_front.proofs.Runs.{Ran, RanOn}
use Rattle.http_front.proofs.WorkedLemmas.{are_more, count_one, counts_more, turns_settings, worked_on, worlds_more}
use Rattle.http_front.specs.declared.outcome.Stopped.{Stopped}
use Rattle.http_front.specs.declared.outcome.Tally.{Tally}
use Rattle.http_front.specs.declared.outcome.Turned.TheVariants.{Answered, Ended}

zero_plus : (n : ℕ) → n ≡ 0 + n
zero_plus n = omega arith

-- ---- the settings stay

ran_settings : (now : ℕ) (w u : World) (r s v x : Option (List ℕ)) (acted faults : ℕ) → Ran now w u r s v x acted faults → u.settings ≡ w.settings
ran_settings now w u r s v x acted faults run = ap (λ (z : World). z.settings) run.world ∙ turns_settings now w run.turns run.are

pub run_settings : (set : SettingValues) (k now : ℕ) (w u : World) (r s v x : Option (List ℕ)) (acted faults : ℕ) → RanOn k now w u r s v x acted faults → set ≡ w.settings → set ≡ u.settings
run_settings set k now w u r s v x acted faults h e = e ∙ sym (ran_settings now w u r s v x acted faults h.run)

-- ---- one more turn at the end

written_more : (k : ℕ) (ts : List Turn) (t : Turn) → written_for k (ts ++ t ∷ []) ≡ written_for k ts ++ answer_bytes (k + length ts) t
written_more k [] t =
    let e : k ≡ k + 0 = omega arith in
    append-nil (answer_bytes k t) ∙ ap (λ n. answer_bytes n t) e
written_more k (s ∷ ts) t =
    let e : (k + 1) + length ts ≡ k + length (s ∷ ts) = omega arith in
    ap (λ l. answer_bytes k s ++ l) (written_more (k + 1) ts t ∙ ap (λ n. written_for (k + 1) ts ++ answer_bytes n t) e)
    ∙ sym (append_assoc (answer_bytes k s) (written_for (k + 1) ts) (answer_bytes (k + length (s ∷ ts)) t))

requests_more : (ts : List Turn) (t : Turn) → flat_map request_bytes (ts ++ t ∷ []) ≡ flat_map request_bytes ts ++ request_bytes t
requests_more ts t = flat_map-append request_bytes ts (t ∷ []) ∙ ap (λ l. flat_map request_bytes ts ++ l) (append-nil (request_bytes t))

goes_more : (k : ℕ) (ts : List Turn) (t : Turn) → GoesOn k ts → closes_at (k + length ts) t ≡ false → GoesOn k (ts ++ t ∷ [])
goes_more k [] t g h = let e : k + 0 ≡ k = omega arith in (subst (λ n. closes_at n t ≡ false) e h, tt)
goes_more k (s ∷ ts) t g h =
    let e : k + length (s ∷ ts) ≡ (k + 1) + length ts = omega arith in
    (g.0, goes_more (k + 1) ts t g.1 (subst (λ n. closes_at n t ≡ false) e h))

bits_more : (fs : List Bool) (f : Bool) → bits (fs ++ f ∷ []) ≡ bits fs + (if f then 2 ^ length fs else 0)
bits_more [] true = refl
bits_more [] false = refl
bits_more (g ∷ fs) true = let e = bits_more fs true in let p = pow-suc 2 (length fs) in omega (arith, e, p)
bits_more (g ∷ fs) false = let e = bits_more fs false in omega (arith, e)

flags_more : (ts : List Turn) (t : Turn) → bits (map flag_of (ts ++ t ∷ [])) ≡ bits (map flag_of ts) + (if t.is_fault then 2 ^ length ts else 0)
flags_more ts t =
    ap bits (map_push flag_of ts t) ∙ bits_more (map flag_of ts) t.is_fault
    ∙ ap (λ n. bits (map flag_of ts) + (if t.is_fault then 2 ^ n else 0)) (length-map ts flag_of)

-- ---- runs

abbrev pub ran_none : (now : ℕ) (w : World) (r v : Option (List ℕ)) → RanOn 0 now w w r r v v 0 0
ran_none now w r v = record {
  run = record { turns = []; are = tt; taken = Consumes-nil r; written = Appends-nil v; world = refl; acted_is = refl; faults_are = refl };
  count = refl;
  goes_on = tt;
}

abbrev ran_more : (k now : ℕ) (w u p : World) (r s q v x y : Option (List ℕ)) (acted faults n m : ℕ) (t : Turn)
    → (run : Ran now w u r s v x acted faults) → length run.turns ≡ k
    → IsTurn now u t → Consumes s q (request_bytes t) → Appends x y (answer_bytes k t) → p ≡ t.after
    → n ≡ (if acts t then 1 else 0) → m ≡ faults + (if t.is_fault then 2 ^ k else 0)
    → Ran now w p r q v y (acted + n) m
ran_more k now w u p r s q v x y acted faults n m t run count is taken written world acted_is faults_are = record {
  turns = run.turns ++ t ∷ [];
  are = are_more now w run.turns (t ∷ []) run.are (subst (λ z. IsTurn now z t) run.world is, tt);
  taken = subst (λ l. Consumes r q l) (sym (requests_more run.turns t)) (Consumes-trans r s q _ _ run.taken taken);
  written = subst (λ l. Appends v y l)
      (ap (λ j. written_for 0 run.turns ++ answer_bytes j t) (sym count ∙ zero_plus (length run.turns)) ∙ sym (written_more 0 run.turns t))
      (Appends-trans v x y _ _ run.written written);
  world = world ∙ sym (worlds_more w run.turns (t ∷ []));
  acted_is = (let e = counts_more run.turns (t ∷ []) in let one = count_one t in omega (arith, e, one, acted_is, run.acted_is));
  faults_are = faults_are ∙ ap (λ z. z + (if t.is_fault then 2 ^ k else 0)) run.faults_are
      ∙ ap (λ j. bits (map flag_of run.turns) + (if t.is_fault then 2 ^ j else 0)) (sym count) ∙ sym (flags_more run.turns t);
}

-- a request was answered
abbrev ran_turned : (before after : World → World → Type 0) (k now : ℕ) (w u p : World) (r s q v x y : Option (List ℕ)) (acted faults n m : ℕ) (tally : Tally) (c : Bool)
    → RanOn k now w u r s v x acted faults → IsTurned before after now k u p s q x y (Ok (Answered tally c)) → n ≡ (if tally.acted then 1 else 0) → m ≡ faults + (if tally.is_fault then 2 ^ k else 0)
    → Ran now w p r q v y (acted + n) m
ran_turned before after k now w u p r s q v x y acted faults n m tally c h turned acted_is faults_are =
    ran_more k now w u p r s q v x y acted faults n m turned.turn h.run h.count turned.is turned.taken turned.written turned.world
    (acted_is ∙ ap (λ b. if b then 1 else 0) turned.acted_is) (faults_are ∙ ap (λ b. faults + (if b then 2 ^ k else 0)) turned.fault_is)

pub ran_on : (before between after : World → World → Type 0) (k now : ℕ) (w u p : World) (r s q v x y : Option (List ℕ)) (acted faults n m : ℕ) (tally : Tally) (c : Bool)
    → (h : RanOn k now w u r s v x acted faults) → CarriesAll before between now h.run.turns w u
    → IsTurned between after now k u p s q x y (Ok (Answered tally c))
    → n ≡ (if tally.acted then 1 else 0) → m ≡ faults + (if tally.is_fault then 2 ^ k else 0) → c ≡ false
    → (j : RanOn (k + 1) now w p r q v y (acted + n) m) × CarriesAll before after now j.run.turns w p
ran_on before between after k now w u p r s q v x y acted faults n m tally c h left turned acted_is faults_are c_is = (
  record {
    run = ran_turned between after k now w u p r s q v x y acted faults n m tally c h turned acted_is faults_are;
    count = (let e = length-append h.run.turns (turned.turn ∷ []) in omega (arith, e, h.count));
    goes_on = goes_more 0 h.run.turns turned.turn h.goes_on
        (subst (λ j. closes_at j turned.turn ≡ false) (sym h.count ∙ zero_plus (length h.run.turns)) (sym turned.closes_is ∙ c_is));
  },
  carries_more before between after now h.run.turns (turned.turn ∷ []) w u p h.run.world left turned.carries,
)

-- ---- ends

answers_from : (before after : World → World → Type 0) (now : ℕ) (w u : World) (r s v x y : Option (List ℕ)) (acted faults m : ℕ) (finish : Option Finish) (run : Ran now w u r s v x acted faults) → CarriesAll before after now run.turns w u
    → length run.turns ≤ most_requests → IfSome s (λ rest. (last : List ℕ) × EndsAt u run.turns rest finish last × Appends x y last)
    → m ≡ faults + (if ends_by_fault finish then 2 ^ length run.turns else 0)
    → IfSome r (IsServed before after now w u v y (record { acted = acted; faults = m; end = end_told finish }))
answers_from before after now w u None s v x y acted faults m finish run l few ends faults_are = tt
answers_from before after now w u (Some stream) None v x y acted faults m finish run l few ends faults_are = absurd run.taken
answers_from before after now w u (Some stream) (Some rest) v x y acted faults m finish run l few ends faults_are = record {
  written = written_for 0 run.turns ++ ends.0;
  appended = Appends-trans v x y _ _ run.written ends.2;
  answers = record {
    turns = run.turns;
    rest = rest;
    last = ends.0;
    finish = finish;
    end_is = refl;
    stream_is = run.taken;
    few = few;
    are = run.are;
    ends = subst (λ z. EndsAt z run.turns rest finish ends.0) run.world ends.1;
    written_is = refl;
    world = run.world;
    settings = ran_settings now w u (Some stream) (Some rest) v x acted faults run;
    acted_is = run.acted_is;
    faults_are = faults_are ∙ ap (λ z. z + (if ends_by_fault finish then 2 ^ length run.turns else 0)) run.faults_are
        ∙ ap (λ j. bits (map flag_of run.turns) + (if ends_by_fault finish then 2 ^ j else 0)) (sym (length-map run.turns flag_of))
        ∙ sym (bits_more (map flag_of run.turns) (ends_by_fault finish));
  };
  carries = l;
}

ended_at : (u : World) (s x y : Option (List ℕ)) (end : Finish) (turns : List Turn) → GoesOn 0 turns
    → IfSome s (λ bytes. (last : List ℕ) × IsEnd u bytes end last × Appends x y last)
    → IfSome s (λ rest. (last : List ℕ) × EndsAt u turns rest (Some end) last × Appends x y last)
ended_at u None x y end turns g h = tt
ended_at u (Some rest) x y end turns g h = (h.0, (g, h.1), h.2)

-- the connection ended behind these turns
carries_ended : (before between after : World → World → Type 0) (now : ℕ) (turns : List Turn) (w u p : World) → u ≡ world_after w turns → CarriesAll before between now turns w u → CarriesAll between after now [] u p
    → CarriesAll before after now turns w p
carries_ended before between after now turns w u p is h left =
    subst (λ (ts : List Turn). CarriesAll before after now ts w p) (append-nil turns) (carries_more before between after now turns [] w u p is h left)

pub served_ended : (before between after : World → World → Type 0) (k now : ℕ) (w u p : World) (r s q v x y : Option (List ℕ)) (acted faults m : ℕ) (end : Finish)
    → k ≤ last_request → (h : RanOn k now w u r s v x acted faults) → CarriesAll before between now h.run.turns w u
    → IsTurned between after now k u p s q x y (Ok (Ended end))
    → m ≡ faults + (if is_unavailable end then 2 ^ k else 0)
    → IfSome r (IsServed before after now w p v y (record { acted = acted; faults = m; end = end_of end }))
served_ended before between after k now w u p r s q v x y acted faults m end few h left turned faults_are =
    subst (λ (z : World). IfSome r (IsServed before after now w z v y (record { acted = acted; faults = m; end = end_of end }))) (sym turned.1)
    (answers_from before after now w u r s v x y acted faults m (Some end) h.run
    (carries_ended before between after now h.run.turns w u u h.run.world left (subst (λ (z : World). CarriesAll between after now [] u z) turned.1 turned.2))
    (let e = h.count in omega (arith, e, few)) (ended_at u s x y end h.run.turns h.goes_on turned.0)
    (faults_are ∙ ap (λ j. faults + (if is_unavailable end then 2 ^ j else 0)) (sym h.count)))

closed_at : (u : World) (s y : Option (List ℕ)) (turns front : List Turn) (t : Turn) → turns ≡ front ++ t ∷ [] → GoesOn 0 front → closes_at (length front) t ≡ true
    → IfSome s (λ rest. (last : List ℕ) × EndsAt u turns rest None last × Appends y y last)
closed_at u None y turns front t e g c = tt
closed_at u (Some rest) y turns front t e g c = ([], (refl, record { front = front; last = t; turns_are = e; goes_on = g; closes = c }), Appends-nil y)

pub served_done : (before between after : World → World → Type 0) (k now : ℕ) (w u p : World) (r s q v x y : Option (List ℕ)) (acted faults n m : ℕ) (tally : Tally) (c : Bool)
    → k ≤ last_request → (h : RanOn k now w u r s v x acted faults) → CarriesAll before between now h.run.turns w u
    → IsTurned between after now k u p s q x y (Ok (Answered tally c))
    → n ≡ (if tally.acted then 1 else 0) → m ≡ faults + (if tally.is_fault then 2 ^ k else 0) → c ≡ true
    → IfSome r (IsServed before after now w p v y (record { acted = acted + n; faults = m; end = Done }))
served_done before between after k now w u p r s q v x y acted faults n m tally c few h left turned acted_is faults_are c_is =
    let t = turned.turn in
    let run = ran_turned between after k now w u p r s q v x y acted faults n m tally c h turned acted_is faults_are in
    let e = length-append h.run.turns (t ∷ []) in
    answers_from before after now w p r q v y y (acted + n) m m None run (carries_more before between after now h.run.turns (t ∷ []) w u p h.run.world left turned.carries)
    (omega (arith, e, h.count, few))
    (closed_at p q y run.turns h.run.turns t refl h.goes_on
    (subst (λ j. closes_at j t ≡ true) (sym h.count) (sym turned.closes_is ∙ c_is)))
    (omega arith)

-- ---- broken off

pub stopped_at : (before between after : World → World → Type 0) (k now : ℕ) (w u p : World) (r s q v x y : Option (List ℕ)) (acted faults n m : ℕ) (f : Stopped) → k ≤ last_request
    → (h : RanOn k now w u r s v x acted faults) → CarriesAll before between now h.run.turns w u → IsTurned between after now k u p s q x y (Err f)
    → n ≡ (if f.tally.acted then 1 else 0) → m ≡ faults + (if f.tally.is_fault then 2 ^ k else 0)
    → IfSome r (IsStopped before after now w p v y (record { acted = acted + n; faults = m; cause = f.cause }))
stopped_at before between after k now w u p None s q v x y acted faults n m f few h left turned acted_is faults_are = tt
stopped_at before between after k now w u p (Some stream) None q v x y acted faults n m f few h left turned acted_is faults_are = absurd h.run.taken
stopped_at before between after k now w u p (Some stream) (Some rest) q v x y acted faults n m f few h left turned acted_is faults_are =
    let turns = h.run.turns in
    let one = turned.one in
    let begun = turned.begun in record {
      written = written_for 0 turns ++ begun.2.front;
      appended = Appends-trans v x y (written_for 0 turns) begun.2.front h.run.written begun.2.written;
      breaks = record {
        turns = turns;
        rest = rest;
        begun = begun.0;
        broken = one.turns;
        fault_last = f.tally.is_fault;
        front = begun.2.front;
        unwritten = begun.2.rest;
        stream_is = h.run.taken;
        few = (let e = h.count in omega (arith, e, few));
        are = are_more now w turns one.turns h.run.are (subst (λ (z : World). AreTurns now z one.turns) h.run.world one.are);
        goes_on = h.goes_on;
        begins = subst (λ (z : World). IsBegun (length turns) z rest begun.0 one.turns f.tally.is_fault) h.run.world (subst (λ (j : ℕ). IsBegun j u rest begun.0 one.turns f.tally.is_fault) (sym h.count) begun.1);
        world = one.world ∙ ap (λ (z : World). world_after z one.turns) h.run.world ∙ sym (worlds_more w turns one.turns);
        settings = one.settings ∙ ran_settings now w u (Some stream) (Some rest) v x acted faults h.run;
        begun_is = begun.2.is;
        written_is = refl;
        acted_is = (let e = counts_more turns one.turns in let i = h.run.acted_is in let j = one.acted_is in omega (arith, e, i, j, acted_is));
        faults_are = faults_are ∙ ap (λ z. z + (if f.tally.is_fault then 2 ^ k else 0)) h.run.faults_are
            ∙ ap (λ j. bits (map flag_of turns) + (if f.tally.is_fault then 2 ^ j else 0)) (sym h.count ∙ sym (length-map turns flag_of))
            ∙ sym (bits_more (map flag_of turns) f.tally.is_fault);
      };
      carries = carries_more before between after now turns one.turns w u p h.run.world left turned.carries;
    }

-- ---- whatever the bytes were

abbrev worked_of : (most now : ℕ) (w u : World) (r s v x : Option (List ℕ)) (acted faults : ℕ) (run : Ran now w u r s v x acted faults) → length run.turns ≤ most → Worked most now w u acted
worked_of most now w u r s v x acted faults run few =
    record { turns = run.turns; few = few; are = run.are; world = run.world; settings = ran_settings now w u r s v x acted faults run; acted_is = run.acted_is }

-- the bits of all these requests, and of none behind them
no_mark : (turns : List Turn) (m : ℕ) → m ≡ bits (map flag_of turns) → m ≡ bits (map flag_of turns ++ false ∷ [])
no_mark turns m is = let e : m ≡ m + 0 = omega arith in e ∙ ap (λ n. n + 0) is ∙ sym (bits_more (map flag_of turns) false)

-- and one bit more, of the end
end_mark : (turns : List Turn) (k faults m : ℕ) (f : Bool) → length turns ≡ k → faults ≡ bits (map flag_of turns) → m ≡ faults + (if f then 2 ^ k else 0) → m ≡ bits (map flag_of turns ++ f ∷ [])
end_mark turns k faults m f count is more =
    more ∙ ap (λ n. n + (if f then 2 ^ k else 0)) is ∙ ap (λ j. bits (map flag_of turns) + (if f then 2 ^ j else 0)) (sym count ∙ sym (length-map turns flag_of)) ∙ sym (bits_more (map flag_of turns) f)

-- or of the request whose answer was broken off
stop_mark : (turns ones : List Turn) (k faults m : ℕ) (f : Bool) → length turns ≡ k → faults ≡ bits (map flag_of turns) → m ≡ faults + (if f then 2 ^ k else 0) → length ones ≤ 1 → TellsFault ones f
    → (last : Bool) × (m ≡ bits (map flag_of (turns ++ ones) ++ last ∷ []))
stop_mark turns [] k faults m f count is more few tells = (f, end_mark turns k faults m f count is more ∙ ap (λ (ts : List Turn). bits (map flag_of ts ++ f ∷ [])) (sym (append-nil turns)))
stop_mark turns (t ∷ []) k faults m f count is more few tells = (
  false,
  no_mark (turns ++ t ∷ []) m
      (more ∙ ap (λ n. n + (if f then 2 ^ k else 0)) is ∙ ap (λ b. bits (map flag_of turns) + (if b then 2 ^ k else 0)) tells
      ∙ ap (λ j. bits (map flag_of turns) + (if t.is_fault then 2 ^ j else 0)) (sym count) ∙ sym (flags_more turns t)),
)
stop_mark turns (t ∷ s ∷ ts) k faults m f count is more few tells = absurd (omega (arith, few))

pub worked_done : (before between after : World → World → Type 0) (k now : ℕ) (w u p : World) (r s q v x y : Option (List ℕ)) (acted faults n m : ℕ) (tally : Tally) (c : Bool)
    → k ≤ last_request → (h : RanOn k now w u r s v x acted faults) → CarriesAll before between now h.run.turns w u
    → IsTurned between after now k u p s q x y (Ok (Answered tally c))
    → n ≡ (if tally.acted then 1 else 0) → m ≡ faults + (if tally.is_fault then 2 ^ k else 0)
    → (j : Worked most_requests now w p (acted + n)) × CarriesAll before after now j.turns w p × (m ≡ bits (map flag_of j.turns ++ false ∷ []))
worked_done before between after k now w u p r s q v x y acted faults n m tally c few h left turned acted_is faults_are =
    let run = ran_turned between after k now w u p r s q v x y acted faults n m tally c h turned acted_is faults_are in (
      worked_of most_requests now w p r q v y (acted + n) m run (let e = length-append h.run.turns (turned.turn ∷ []) in omega (arith, e, h.count, few)),
      carries_more before between after now h.run.turns (turned.turn ∷ []) w u p h.run.world left turned.carries,
      no_mark run.turns m run.faults_are,
    )

pub worked_ended : (before between after : World → World → Type 0) (k now : ℕ) (w u p : World) (r s q v x y : Option (List ℕ)) (acted faults m : ℕ) (end : Finish)
    → k ≤ last_request → (h : RanOn k now w u r s v x acted faults) → CarriesAll before between now h.run.turns w u
    → IsTurned between after now k u p s q x y (Ok (Ended end)) → m ≡ faults + (if is_unavailable end then 2 ^ k else 0)
    → (j : Worked most_requests now w p acted) × CarriesAll before after now j.turns w p × (m ≡ bits (map flag_of j.turns ++ is_unavailable end ∷ []))
worked_ended before between after k now w u p r s q v x y acted faults m end few h left turned faults_are =
    subst (λ z. (j : Worked most_requests now w z acted) × CarriesAll before after now j.turns w p × (m ≡ bits (map flag_of j.turns ++ is_unavailable end ∷ []))) (sym turned.1) (
      worked_of most_requests now w u r s v x acted faults h.run (let e = h.count in omega (arith, e, few)),
      carries_ended before between after now h.run.turns w u p h.run.world left turned.2,
      end_mark h.run.turns k faults m (is_unavailable end) h.count h.run.faults_are faults_are,
    )

pub worked_stopped : (before between after : World → World → Type 0) (k now : ℕ) (w u p : World) (r s q v x y : Option (List ℕ)) (acted faults n m : ℕ) (f : Stopped)
    → k ≤ last_request → (h : RanOn k now w u r s v x acted faults) → CarriesAll before between now h.run.turns w u
    → IsTurned between after now k u p s q x y (Err f) → n ≡ (if f.tally.acted then 1 else 0) → m ≡ faults + (if f.tally.is_fault then 2 ^ k else 0)
    → (j : Worked most_requests now w p (acted + n)) × CarriesAll before after now j.turns w p × ((last : Bool) × (m ≡ bits (map flag_of j.turns ++ last ∷ [])))
worked_stopped before between after k now w u p r s q v x y acted faults n m f few h left turned acted_is faults_are = (
  worked_on last_request 1 most_requests now w u p acted (if f.tally.acted then 1 else 0) (acted + n) refl (ap (λ z. acted + z) (sym acted_is))
      (worked_of last_request now w u r s v x acted faults h.run (let e = h.count in omega (arith, e, few))) turned.one,
  carries_more before between after now h.run.turns turned.one.turns w u p h.run.world left turned.carries,
  stop_mark h.run.turns turned.one.turns k faults m f.tally.is_fault h.count h.run.faults_are faults_are turned.one.few turned.fault_is,
)

-- ---- the router

pub router_of : {X E : Type 0} (res : Result X E) (o : Option X) (p : Option (Bor X)) (x : Bor X) (v : X) → IfOk res (λ r. r ≡ v) → o ≡ result_ok res → option_copied p ≡ o → p ≡ Some x → x.now ≡ v
router_of (Ok y) o p x v h e f g =
    let a : option_copied p ≡ Some x.now = ap option_copied g in
    let b : Some x.now ≡ Some y = sym a ∙ f ∙ e in
    let c : x.now ≡ y = cc in
    c ∙ h
router_of (Err z) o p x v h e f g =
    let a : option_copied p ≡ Some x.now = ap option_copied g in
    let b : Some x.now ≡ None = sym a ∙ f ∙ e in
    absurd (cc)

-- ---- the beginning

left_nothing : (r : Option (List ℕ)) → left [] r ≡ r
left_nothing None = refl
left_nothing (Some xs) = refl

-- where nothing has come, all is left that the reader has
pub left_at_first : (come : List ℕ) (q r : Option (List ℕ)) → come ≡ [] → q ≡ r → left come q ≡ r
left_at_first come q r e f = ap (λ (l : List ℕ). left l q) e ∙ left_nothing q ∙ f
