-- A job of the caller's own changes, and the free pages of its account where that is looked up: the world stays sound, and its jobs move along
-- the allowed pairs.
use Rattle.std.proofs.Common.{◌≡◌, ℕ, ℤ, pos, ◌+ℤ◌, ◌-ℤ◌, List, [], ◌∷◌, map, refl, ap, sym, ◌∙◌, arith, eq-eqb, Bool, true, false, cond}
use Rattle.std.specs.Prelude.{Option, Some, None, ◌||◌, nat_eq, bytes_eq, option_map, filter, fold}
use Rattle.std.specs.List.{AllByRecursion as Each}
use Rattle.std.specs.Option.{option_map_or}
use Rattle.std.specs.FinMap.{FinMap, get, get-insert}
use Rattle.std.specs.Cmp.Lexicographic.{nat_list_cmp_total}
use Rattle.std.proofs.lemmas.Bool.Decides.{nat_tests}
use Rattle.std.proofs.lemmas.Cmp.{nat_list_eq_equiv}
use Rattle.std.proofs.lemmas.Int.{ints}
use Rattle.std.proofs.lemmas.Map.Text.{is_eq-slice_cmp}
use Rattle.queue_core.specs.World.{World, rows, cut, made_on, text_cmp, put_free, found_row, job_at, with_row, with_document}
use Rattle.queue_types.specs.Event.{Call, Decision, NewDocument, ask}
use Rattle.queue_types.specs.Operators.{is_operator}
use Rattle.queue_core.specs.Machine.{taken, credited, returned, changed, becomes, refused, of_own, of_seen}
use Rattle.queue_core.specs.Runs.{Follows, MovesAlong}
use Rattle.queue_core.specs.Sound.{IsSound, IsSoundEntry, IsIdle}
use Rattle.queue_types.specs.declared.job.Job.{Job}
use Rattle.queue_types.specs.declared.event.Scene.{Scene}
use Rattle.queue_core.proofs.Keep.{at}
pub use Rattle.queue_core.proofs.Keep.{same_key}
use Rattle.queue_core.proofs.Moves.{stays, row_moves}
use Rattle.queue_core.proofs.Rows.{Replaces, KeepsDocuments, row_keeps, row_entries, rows_of, back, kept_amount}

pub itself : (n : ℕ) → nat_eq n n ≡ true
itself n = eq-eqb n n refl

-- the first of the rows of that number is the job of that number
pub first_named : (n : ℕ) (js : List Job) (k : Job) (rest : List Job) → filter (λ j. nat_eq j.number n) js ≡ k ∷ rest → (job_at n js ≡ Some k) × (k.number ≡ n)
first_named n [] k rest e = absurd (cc)
first_named n (j ∷ js) k rest e =
    elim (nat_eq j.number n) as (λ t. nat_eq j.number n ≡ t → cond t (j ∷ filter (λ j. nat_eq j.number n) js) (filter (λ j. nat_eq j.number n) js) ≡ k ∷ rest → (cond t (Some j) (job_at n js) ≡ Some k) × (k.number ≡ n)) [
      | true ↦ λ is e. let same : j ≡ k = cc in let here : j.number ≡ n = grind (arith, nat_tests) in (ap Some same, ap (λ (t : Job). t.number) (sym same) ∙ here)
      | false ↦ λ is e. first_named n js k rest e
    ] refl e

nothing : (z : ℤ) → pos 0 +ℤ z ≡ z
nothing z = omega (arith, ints)

-- what one row's change gives back
pub gives_back : (j x : Job) (rest : List Job) (a : List ℕ) → x.number ≡ j.number → returned (j ∷ rest) a (x ∷ []) ≡ back x j a
gives_back j x rest a e =
    ap (λ t. pos 0 +ℤ cond (bytes_eq x.owner a) (pos (option_map_or taken (cond t (Some j) (job_at x.number rest)) 0) -ℤ pos (taken x)) (pos 0)) (ap (λ n. nat_eq j.number n) e ∙ itself j.number)
    ∙ nothing (back x j a)

-- the accounts after the owner's row has got what comes back
abbrev pub moved : FinMap text_cmp ℤ → List ℕ → List Job → List Job → FinMap text_cmp ℤ
moved m a before js = fold put_free m (map (credited before js) (found_row a (get m a)))

pub moved_from : (m : FinMap text_cmp ℤ) (a q : List ℕ) (before js : List Job) (o : Option ℤ) → get m a ≡ o → get (fold put_free m (map (credited before js) (found_row a o))) q ≡ cond (bytes_eq q a) (option_map (λ f. f +ℤ returned before a js) o) (get m q)
moved_from m a q before js None e =
    elim (bytes_eq q a) as (λ t. bytes_eq q a ≡ t → get m q ≡ cond t None (get m q)) [
      | true ↦ λ is. ap (get m) (same_key q a is) ∙ e
      | false ↦ λ is. refl
    ] refl
moved_from m a q before js (Some f) e =
    get-insert nat_list_cmp_total m a (f +ℤ returned before a js) q
    ∙ ap (λ t. cond t (Some (f +ℤ returned before a js)) (get m q)) (is_eq-slice_cmp q a)

-- each account's free pages move by what comes back to it
pub moved_get : (m : FinMap text_cmp ℤ) (j x : Job) (rest : List Job) → x.number ≡ j.number → (q : List ℕ) → get (moved m x.owner (j ∷ rest) (x ∷ [])) q ≡ option_map (λ f. f +ℤ back x j q) (get m q)
moved_get m j x rest number q =
    moved_from m x.owner q (j ∷ rest) (x ∷ []) (get m x.owner) refl
    ∙ elim (bytes_eq q x.owner) as (λ t. bytes_eq q x.owner ≡ t → cond t (option_map (λ f. f +ℤ returned (j ∷ rest) x.owner (x ∷ [])) (get m x.owner)) (get m q) ≡ option_map (λ f. f +ℤ back x j q) (get m q)) [
      | true ↦ λ is. ap (λ z. option_map (λ f. f +ℤ z) (get m x.owner)) (gives_back j x rest x.owner number) ∙ ap (λ a. option_map (λ f. f +ℤ back x j a) (get m a)) (sym (same_key q x.owner is))
      | false ↦ λ is. kept_amount (get m q) ∙ ap (λ t. option_map (λ f. f +ℤ cond t (pos (taken j) -ℤ pos (taken x)) (pos 0)) (get m q)) (sym (nat_list_eq_equiv.symm x.owner q ∙ is))
    ] refl

-- a sound world comes, and its jobs have moved along the allowed pairs
pub record Keeps (old new : World) : Type 0 where
  pub sound : IsSound new
  pub moves : MovesAlong old new

pub unchanged : (w : World) → IsSound w → Keeps w w
unchanged w sound = record { sound = sound; moves = stays w }

-- a call about the job of number n, on the scene that it needs
module _ (w : World) (now : ℕ) (caller : List ℕ) (call : Call) (n : ℕ) (sound : IsSound w) (named : (cut w now (ask caller call)).jobs ≡ filter (λ j. nat_eq j.number n) (rows w)) where
  abbrev scene : Scene
  scene = cut w now (ask caller call)

  pub found : (j : Job) (rest : List Job) → scene.jobs ≡ j ∷ rest → (job_at n (rows w) ≡ Some j) × (j.number ≡ n)
  found j rest e = first_named n (rows w) j rest (sym named ∙ e)

  pub found_at : (j x : Job) (rest : List Job) → scene.jobs ≡ j ∷ rest → Replaces x j → at x.number w.jobs ≡ Some j
  found_at j x rest e fits = ap (λ m. job_at m (rows w)) (fits.number ∙ (found j rest e).1) ∙ (found j rest e).0

  -- the accounts after the decision by which the job becomes x
  abbrev pub free_after : Job → FinMap text_cmp ℤ
  free_after x = fold put_free w.free (map (credited scene.jobs (x ∷ [])) scene.free)

  -- the job becomes x, and may get a document
  pub changed_keeps : (j x : Job) (rest : List Job) (document : Option NewDocument) → scene.jobs ≡ j ∷ rest → Replaces x j
      → ((q : List ℕ) → get (free_after x) q ≡ option_map (λ f. f +ℤ back x j q) (get w.free q))
      → rows_of (with_document (with_row w.jobs x) document) ≡ rows_of (with_row w.jobs x)
      → Each IsSoundEntry (with_document (with_row w.jobs x) document)
      → (get w.free x.owner ≡ None → IsIdle j → IsIdle x) → Follows (Some j) (Some x)
      → Keeps w (made_on (record (changed scene (x ∷ [])) { document = document }) w)
  changed_keeps j x rest document e fits free same entries idle follows =
      let there : at x.number w.jobs ≡ Some j = found_at j x rest e fits in
      let es = with_document (with_row w.jobs x) document in
      record {
        sound = row_keeps w (free_after x) es x j sound there fits same entries idle free;
        moves = row_moves w (free_after x) es x j same there follows;
      }

  -- where the account of the job's owner is looked up, it moves by the balance
  free_moves : (j x : Job) (rest : List Job) (account : List ℕ) → scene.jobs ≡ j ∷ rest → scene.free ≡ found_row account (get w.free account) → j.owner ≡ account → Replaces x j → (q : List ℕ) → get (free_after x) q ≡ option_map (λ f. f +ℤ back x j q) (get w.free q)
  free_moves j x rest account e looked_up own fits q =
      ap (λ js. get (fold put_free w.free (map (credited js (x ∷ [])) scene.free)) q) e
      ∙ ap (λ rows. get (fold put_free w.free (map (credited (j ∷ rest) (x ∷ [])) rows)) q) looked_up
      ∙ ap (λ a. get (moved w.free a (j ∷ rest) (x ∷ [])) q) (sym (fits.owner ∙ own))
      ∙ moved_get w.free j x rest fits.number q

  -- the job becomes x, and keeps its documents
  pub becomes_keeps : (j x : Job) (rest : List Job) (account : List ℕ) → scene.jobs ≡ j ∷ rest → scene.free ≡ found_row account (get w.free account) → j.owner ≡ account → Replaces x j → KeepsDocuments x j → (get w.free x.owner ≡ None → IsIdle j → IsIdle x) → Follows (Some j) (Some x) → Keeps w (made_on (becomes scene x).change w)
  becomes_keeps j x rest account e looked_up own fits keeps idle follows =
      changed_keeps j x rest None e fits (free_moves j x rest account e looked_up own fits) refl (row_entries w.jobs x j (found_at j x rest e fits) keeps sound.entries) idle follows

  rows_keep : (row : Job → Decision) → ((j : Job) (rest : List Job) → scene.jobs ≡ j ∷ rest → j.owner ≡ caller → Keeps w (made_on (row j).change w)) → (js : List Job) → scene.jobs ≡ js → Keeps w (made_on (of_own caller row js).change w)
  rows_keep row each [] e = unchanged w sound
  rows_keep row each (j ∷ rest) e =
      elim (bytes_eq j.owner caller) as (λ b. bytes_eq j.owner caller ≡ b → Keeps w (made_on (cond b (row j) (refused 0x0406)).change w)) [
        | true ↦ λ own. each j rest e (same_key j.owner caller own)
        | false ↦ λ own. unchanged w sound
      ] refl

  -- what each job of the caller's own keeps, the call keeps
  pub own_keeps : (row : Job → Decision) → ((j : Job) (rest : List Job) → scene.jobs ≡ j ∷ rest → j.owner ≡ caller → Keeps w (made_on (row j).change w)) → Keeps w (made_on (of_own caller row scene.jobs).change w)
  own_keeps row each = rows_keep row each scene.jobs refl

  rows_seen : (row : Job → Decision) → ((j : Job) (rest : List Job) → scene.jobs ≡ j ∷ rest → Keeps w (made_on (row j).change w)) → (js : List Job) → scene.jobs ≡ js → Keeps w (made_on (of_seen w.settings.operators caller row js).change w)
  rows_seen row each [] e = unchanged w sound
  rows_seen row each (j ∷ rest) e =
      elim (bytes_eq j.owner caller || is_operator w.settings.operators caller) as (λ (b : Bool). Keeps w (made_on (cond b (row j) (refused 0x0406)).change w)) [
        | true ↦ each j rest e
        | false ↦ unchanged w sound
      ]

  -- what each job keeps that the caller may see, the call keeps
  pub seen_keeps : (row : Job → Decision) → ((j : Job) (rest : List Job) → scene.jobs ≡ j ∷ rest → Keeps w (made_on (row j).change w)) → Keeps w (made_on (of_seen w.settings.operators caller row scene.jobs).change w)
  seen_keeps row each = rows_seen row each scene.jobs refl
