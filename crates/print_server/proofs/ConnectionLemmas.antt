-- Connections one after another, and the lines that tell of them.
use Rattle.std.proofs.Common.{◌≡◌, ◌≢◌, ◌∙◌, ℕ, List, [], ◌∷◌, ◌++◌, Option, Result, Ok, Err, IfErr, IfOk, IsErrOf, OnErr, OnOk, ap, sym, subst, refl, arith, append-nil}
use Rattle.std.specs.Io.KnownBytes.{Appends}
use Rattle.std.proofs.KnownBytes.{Appends-trans}
use Rattle.std.proofs.lemmas.Grind.{flat_map-append}
use Rattle.queue_core.specs.World.{World}
use Rattle.queue_core.specs.declared.book.BookFault.{BookFault}
use Rattle.queue_core.specs.declared.book.BookFault.TheVariants.{Memory, Disk, Damaged}
use Rattle.queue_core.specs.Sweep.{Sweeps}
use Rattle.http_front.specs.Connections.{Worked}
use Rattle.http_front.specs.Turns.{most_requests}
use Rattle.print_server.specs.Connections.{AreConnections, IsConnection}
use Rattle.print_server.specs.Lines.{served_line, served_lines}
use Rattle.print_server.specs.declared.serving.Standing.{Standing}
use Rattle.print_server.specs.declared.serving.Standing.TheVariants.{Live, Unseen}

-- a connection that was not served has changed nothing
pub worked_none : (now : ℕ) (w : World) → Worked most_requests now w w 0
worked_none now w = record { turns = []; few = omega arith; are = tt; world = refl; settings = refl; acted_is = refl }

-- ---- a sweep

pub swept_settings : (w v : World) (now : ℕ) (r : Result ℕ BookFault) → Sweeps w now v r → v.settings ≡ w.settings
swept_settings w v now (Ok n) s = ap (λ (z : World). z.settings) s.1
swept_settings w v now (Err e) s = ap (λ (z : World). z.settings) s

swept_grants : (w v : World) (now : ℕ) (r : Result ℕ BookFault) → Sweeps w now v r → v.grants ≡ w.grants
swept_grants w v now (Ok n) s = ap (λ (z : World). z.grants) s.1
swept_grants w v now (Err e) s = ap (λ (z : World). z.grants) s

-- ---- connections

pub settings_after : (w u : World) (counts : List ℕ) → AreConnections w counts u → u.settings ≡ w.settings
settings_after w u [] is = ap (λ (z : World). z.settings) is
settings_after w u (n ∷ rest) h = settings_after h.0 u rest h.2 ∙ h.1.worked.settings ∙ swept_settings w h.1.swept h.1.now h.1.sweep h.1.sweeps

pub grants_after : ((most now : ℕ) (w u : World) (acted : ℕ) → Worked most now w u acted → u.grants ≡ w.grants) → (w u : World) (counts : List ℕ) → AreConnections w counts u
    → u.grants ≡ w.grants
grants_after kept w u [] is = ap (λ (z : World). z.grants) is
grants_after kept w u (n ∷ rest) h = grants_after kept h.0 u rest h.2 ∙ kept most_requests h.1.now h.1.swept h.0 n h.1.worked ∙ swept_grants w h.1.swept h.1.now h.1.sweep h.1.sweeps

abbrev pub one : (w u : World) (acted : ℕ) → IsConnection w acted u → AreConnections w (acted ∷ []) u
one w u acted c = (u, c, refl)

abbrev pub joined : (w v u : World) (front rest : List ℕ) → AreConnections w front v → AreConnections v rest u → AreConnections w (front ++ rest) u
joined w v u [] rest is h = subst (λ (z : World). AreConnections z rest u) is h
joined w v u (n ∷ front) rest g h = (g.0, g.1, joined g.0 v u front rest g.2 h)

pub told_one : (v x : Option (List ℕ)) (acted : ℕ) → Appends v x (served_line acted) → Appends v x (served_lines (acted ∷ []))
told_one v x acted h = subst (λ (l : List ℕ). Appends v x l) (sym (append-nil (served_line acted))) h

pub told_on : (v x y : Option (List ℕ)) (front rest : List ℕ) → Appends v x (served_lines front) → Appends x y (served_lines rest) → Appends v y (served_lines (front ++ rest))
told_on v x y front rest g h =
    subst (λ (l : List ℕ). Appends v y l) (sym (flat_map-append served_line front rest)) (Appends-trans v x y (served_lines front) (served_lines rest) g h)

pub on_err : {X E : Type 0} (r : Result X E) (B : Type 0) → B → OnErr r B
on_err (Ok x) B h = tt
on_err (Err e) B h = h

pub if_err : {X E : Type 0} (r : Result X E) (P : E → Type 0) → ((e : E) → P e) → IfErr r P
if_err (Ok x) P h = tt
if_err (Err e) P h = h e

-- ---- a look at the book

-- it tells damage only where the book did
pub seen_damaged : {A : Type 0} (look : Result A BookFault) (result : Result Standing BookFault) (P : Type 0) → IfOk look (λ a. result ≡ Ok Live) → (IsErrOf look Memory → result ≡ Ok Unseen)
    → IfErr look (λ e. e ≢ Memory → result ≡ Err e) → IfErr look (λ e. e ≡ Damaged → P) → IfErr result (λ e. e ≡ Damaged → P)
seen_damaged (Ok a) result P whole wanting lost damaged = subst (λ (z : Result Standing BookFault). IfErr z (λ e. e ≡ Damaged → P)) (sym whole) tt
seen_damaged (Err Memory) result P whole wanting lost damaged = subst (λ (z : Result Standing BookFault). IfErr z (λ e. e ≡ Damaged → P)) (sym (wanting refl)) tt
seen_damaged (Err Disk) result P whole wanting lost damaged = subst (λ (z : Result Standing BookFault). IfErr z (λ e. e ≡ Damaged → P)) (sym (lost (λ other. absurd cc))) (λ is. absurd cc)
seen_damaged (Err Damaged) result P whole wanting lost damaged = subst (λ (z : Result Standing BookFault). IfErr z (λ e. e ≡ Damaged → P)) (sym (lost (λ other. absurd cc))) damaged

-- and that the book is live only where it answered
pub seen_live : {A : Type 0} (look : Result A BookFault) (result : Result Standing BookFault) (P : Type 0) → (IsErrOf look Memory → result ≡ Ok Unseen)
    → IfErr look (λ e. e ≢ Memory → result ≡ Err e) → OnOk look P → result ≡ Ok Live → P
seen_live (Ok a) result P wanting lost live is = live
seen_live (Err Memory) result P wanting lost live is = absurd (let no : Ok Unseen ≡ Ok Live = sym (wanting refl) ∙ is in cc)
seen_live (Err Disk) result P wanting lost live is = absurd (let no : Err Disk ≡ Ok Live = sym (lost (λ other. absurd cc)) ∙ is in cc)
seen_live (Err Damaged) result P wanting lost live is = absurd (let no : Err Damaged ≡ Ok Live = sym (lost (λ other. absurd cc)) ∙ is in cc)

-- want of memory is no error of it
pub seen_wanting : {A : Type 0} (look : Result A BookFault) (result : Result Standing BookFault) → IfOk look (λ a. result ≡ Ok Live) → (IsErrOf look Memory → result ≡ Ok Unseen)
    → IfErr look (λ e. e ≢ Memory → result ≡ Err e) → result ≢ Err Memory
seen_wanting (Ok a) result whole wanting lost is = absurd (let no : Ok Live ≡ Err Memory = sym whole ∙ is in cc)
seen_wanting (Err Memory) result whole wanting lost is = absurd (let no : Ok Unseen ≡ Err Memory = sym (wanting refl) ∙ is in cc)
seen_wanting (Err Disk) result whole wanting lost is = absurd (let no : Err Disk ≡ Err Memory = sym (lost (λ other. absurd cc)) ∙ is in cc)
seen_wanting (Err Damaged) result whole wanting lost is = absurd (let no : Err Damaged ≡ Err Memory = sym (lost (λ other. absurd cc)) ∙ is in cc)
