-- What a crash leaves, from one connection to the next.
use Rattle.std.proofs.Common.{◌≡◌, ◌∙◌, ℕ, List, [], ◌∷◌, ◌++◌, inl, inr, refl, ap, subst, sym}
use Rattle.std.specs.Prelude.{IsErr}
use Rattle.queue_types.specs.Event.{expire}
use Rattle.queue_core.specs.Crash.{Carries as CarriesSweep, Leaves, broken_off, taken, untaken}
use Rattle.queue_core.specs.Machine.{step}
use Rattle.queue_core.specs.World.{World}
use Rattle.http_front.specs.Crash.{CarriesAll, IsAtMostOneMore as IsAtMostOneMoreIn, IsLeft as IsLeftAt}
use Rattle.http_front.specs.Turns.{Turn}
use Rattle.print_server.specs.Connections.{AreConnections, Carries, IsAtMostOneMore, IsAtMostOneMoreAt, IsConnection, IsLeft}
use Rattle.print_server.proofs.ConnectionLemmas.{joined, one}

-- where nothing is done, all stays
pub carries_none : (before : World → World → Type 0) (w : World) → Carries before before w [] w refl
carries_none before w = λ v left. (v, left, inl (refl, refl))

-- behind the sweep of a connection a crash leaves y, and behind its requests x
left_at : (w v u x y : World) (acted : ℕ) (c : IsConnection w acted u) → Leaves (λ e. e ≡ expire) (IsErr c.sweep) c.now w v c.swept y → IsLeftAt c.now c.worked.turns c.swept y u x
    → IsLeft w (acted ∷ []) u (one w u acted c) v x
left_at w v u x y acted c swept (inr h) = inr (inl (inr h))
left_at w v u x y acted c (untaken p q) (inl e) = inl (e.0 ∙ p, e.1 ∙ q)
left_at w v u x y acted c (taken f asks p q) (inl e) = inr (inl (inr (inl (e.1 ∙ q ∙ sym e.0))))
left_at w v u x y acted c (broken_off f asks failed p q) (inl e) =
    let same : u ≡ w = e.0 ∙ p in
    inr (inl (inl (failed, same, e.1 ∙ q ∙ (λ i. (step (sym same i) c.now (asks i)).world))))

-- one connection, whose sweep comes first
pub carries_at : (before between after : World → World → Type 0) (w u : World) (acted : ℕ) (c : IsConnection w acted u)
    → CarriesSweep before between (λ e. e ≡ expire) (IsErr c.sweep) c.now w c.swept → CarriesAll between after c.now c.worked.turns c.swept u → Carries before after w (acted ∷ []) u (one w u acted c)
carries_at before between after w u acted c sweeps works = λ v left.
    let s = sweeps v left in
    let l = works s.0 s.1 in
    (l.0, l.1, left_at w v u l.0 s.0 acted c s.2 l.2)

-- a look at the book behind them
pub carries_seen : (before between after : World → World → Type 0) (w : World) (counts : List ℕ) (u : World) (are : AreConnections w counts u)
    → ((z x : World) → between z x → after z x) → Carries before between w counts u are → Carries before after w counts u are
carries_seen before between after w counts u are seen c = λ v left. let l = c v left in (l.0, seen u l.0 l.1, l.2)

-- a crash that leaves the queue leaves no more
unchanged : (w : World) (counts : List ℕ) (u : World) (are : AreConnections w counts u) (x : World) → x ≡ u → IsAtMostOneMore w counts u are x
unchanged w [] u are x is = is
unchanged w (n ∷ rest) u are x is = inl (inr (inl is))

-- a request of connections behind which nothing was done, and one of those that came behind others
more_before : (w v p x : World) (front rest : List ℕ) (a : AreConnections w front v) (b : AreConnections v rest p) → p ≡ v → IsAtMostOneMore w front v a x
    → IsAtMostOneMore w (front ++ rest) p (joined w v p front rest a b) x
more_before w v p x [] rest a b same is = unchanged w rest p (joined w v p [] rest a b) x (is ∙ sym same)
more_before w v p x (n ∷ front) rest a b same (inl h) = inl (subst (λ (z : World). IsAtMostOneMoreAt a.1 z x) (sym same) h)
more_before w v p x (n ∷ front) rest a b same (inr h) = inr (more_before a.0 v p x front rest a.2 b same h)

more_behind : (w v p x : World) (front rest : List ℕ) (a : AreConnections w front v) (b : AreConnections v rest p) → IsAtMostOneMore v rest p b x
    → IsAtMostOneMore w (front ++ rest) p (joined w v p front rest a b) x
more_behind w v p x [] rest a b h = coe 0 1 (i. IsAtMostOneMore (a i) rest p (coe 0 i (j. AreConnections (a j) rest p) b) x) h
more_behind w v p x (n ∷ front) rest a b h = inr (more_behind a.0 v p x front rest a.2 b h)

left_more : (w v u x p y : World) (front rest : List ℕ) (a : AreConnections w front u) (b : AreConnections u rest p) → IsLeft w front u a v x → IsLeft u rest p b x y
    → IsLeft w (front ++ rest) p (joined w u p front rest a b) v y
left_more w v u x p y front rest a b (inl e) (inl f) = inl (f.0 ∙ e.0, f.1 ∙ e.1)
left_more w v u x p y front rest a b (inr h) (inl f) = inr (more_before w u p y front rest a b f.0 (subst (λ (z : World). IsAtMostOneMore w front u a z) (sym f.1) h))
left_more w v u x p y front rest a b h (inr t) = inr (more_behind w u p y front rest a b t)

-- connections behind others
pub carries_on : (before between after : World → World → Type 0) (w u p : World) (front rest : List ℕ) (a : AreConnections w front u) (b : AreConnections u rest p)
    → Carries before between w front u a → Carries between after u rest p b → Carries before after w (front ++ rest) p (joined w u p front rest a b)
carries_on before between after w u p front rest a b h c = λ v left.
    let r = h v left in
    let t = c r.0 r.1 in
    (t.0, t.1, left_more w v u r.0 p t.0 front rest a b r.2 t.2)

-- where a crash left just the queue before them
pub left_one : (w : World) (counts : List ℕ) (u : World) (are : AreConnections w counts u) (x : World) → IsLeft w counts u are w x → IsAtMostOneMore w counts u are x
left_one w counts u are x (inl e) = unchanged w counts u are x (e.1 ∙ sym e.0)
left_one w counts u are x (inr h) = h

-- it grants nothing and changes no settings
pub left_grants : ((now : ℕ) (w : World) (turns : List Turn) (u x : World) → IsAtMostOneMoreIn now w turns u x → x.grants ≡ u.grants)
    → (w : World) (counts : List ℕ) (u : World) (are : AreConnections w counts u) (x : World) → IsAtMostOneMore w counts u are x → x.grants ≡ u.grants
left_grants one w [] u are x is = ap (λ (z : World). z.grants) is
left_grants one w (n ∷ rest) u are x (inl (inl h)) = ap (λ (z : World). z.grants) h.2
left_grants one w (n ∷ rest) u are x (inl (inr h)) = one are.1.now are.1.swept are.1.worked.turns u x h
left_grants one w (n ∷ rest) u are x (inr h) = left_grants one are.0 rest u are.2 x h

more_settings : (now : ℕ) (w : World) (turns : List Turn) (u x : World) → IsAtMostOneMoreIn now w turns u x → x.settings ≡ u.settings
more_settings now w turns u x (inl e) = ap (λ (z : World). z.settings) e
more_settings now w turns u x (inr h) = ap (λ (z : World). z.settings) h.2

pub left_settings : (w : World) (counts : List ℕ) (u : World) (are : AreConnections w counts u) (x : World) → IsAtMostOneMore w counts u are x → x.settings ≡ u.settings
left_settings w [] u are x is = ap (λ (z : World). z.settings) is
left_settings w (n ∷ rest) u are x (inl (inl h)) = ap (λ (z : World). z.settings) h.2
left_settings w (n ∷ rest) u are x (inl (inr h)) = more_settings are.1.now are.1.swept are.1.worked.turns u x h
left_settings w (n ∷ rest) u are x (inr h) = left_settings are.0 rest u are.2 x h
