-- What came of an import, by what the reading of the file and the machine say.
use Rattle.std.proofs.Common.{◌≡◌, ◌≤◌, ℕ, List, length, Result, Ok, Err, ◌⊎◌, inl, inr, refl, subst, sym}
use Rattle.std.specs.Prelude.{All, IfErr, IfOk, IsErr, MatchResult, OnErr}
use Rattle.std.specs.Result.{IsErrAnd}
use Rattle.queue_types.specs.Event.{grant}
use Rattle.queue_types.specs.declared.event.GrantRow.{GrantRow}
use Rattle.queue_core.specs.Limits.{IsEvent, IsGrantRow}
use Rattle.queue_core.specs.Machine.{step}
use Rattle.queue_core.specs.World.{World}
use Rattle.grants_csv.specs.Fault.{IsOfFileUnlessFault, fault}
use Rattle.grants_csv.specs.File.{rows_of}
use Rattle.grants_csv.specs.Import.{Adds, Imports, IsRowRefusal, Refuses}
use Rattle.grants_csv.specs.declared.fault.ImportFault.{ImportFault}
use Rattle.grants_csv.specs.declared.importing.Imported.{Imported}
use Rattle.queue_types.specs.declared.event.Reply.{Reply}
use Rattle.queue_types.specs.declared.event.Reply.TheVariants.{NotAdded}

-- a fault refuses whatever the machine replies
fault_refuses : (r : Reply) (f : ImportFault) → f ≡ fault → Refuses r f
fault_refuses (NotAdded why row) f e = inr e
fault_refuses _ f e = e

unread_by : (w : World) (now : ℕ) (file : List ℕ) (f : ImportFault) (read : Result (List GrantRow) ImportFault) → IsOfFileUnlessFault file (Err f) read
    → MatchResult read (λ rows. Refuses (step w now (grant rows)).reply f) (λ bad. (f ≡ bad) ⊎ ((f ≡ fault) × (length file ≤ 16777216)))
unread_by w now file f (Ok rows) (inl e) = cc
unread_by w now file f (Ok rows) (inr e) = let is = e.0 in fault_refuses (step w now (grant rows)).reply f cc
unread_by w now file f (Err bad) (inl e) = inl (cc)
unread_by w now file f (Err bad) (inr e) = let is = e.0 in inr (cc, e.1)

-- a file that has no rows, or can't be read
pub unread_imports : (held : World → Type 0) (now : ℕ) (file : List ℕ) (f : ImportFault) (r : Result Imported ImportFault) → IsOfFileUnlessFault file (Err f) (rows_of file)
    → IsErr r → IsErrAnd r (λ e. e ≡ f) → (w : World) → held w → (u : World) × Imports w now file u r × held u
unread_imports held now file f (Ok n) read is same w s = cc
unread_imports held now file f (Err e) read is same w s =
    (w, (unread_by w now file e (rows_of file) (subst (λ (x : ImportFault). IsOfFileUnlessFault file (Err x) (rows_of file)) (sym same) read), refl), s)

-- it is refused for no row
pub unread_replies : (file : List ℕ) (f : ImportFault) (r : Result Imported ImportFault) → IsOfFileUnlessFault file (Err f) (rows_of file) → IsErrAnd r (λ e. e ≡ f)
    → IfErr r (λ e. (rows : List GrantRow) → rows_of file ≡ Ok rows → (e ≡ fault) ⊎ IsRowRefusal e)
unread_replies file f (Ok n) read same = tt
unread_replies file f (Err e) (inl is) same = λ rows has. absurd (cc)
unread_replies file f (Err e) (inr is) same = let told = is.0 in λ rows has. inl (cc)

pub read_by : (file : List ℕ) (rows : List GrantRow) → IsOfFileUnlessFault file (Ok rows) (rows_of file) → rows_of file ≡ Ok rows
read_by file rows (inl e) = sym e
read_by file rows (inr e) = let is = e.0 in cc

refused_by : (w : World) (now : ℕ) (file : List ℕ) (f : ImportFault) (read : Result (List GrantRow) ImportFault) (rows : List GrantRow) → read ≡ Ok rows
    → Refuses (step w now (grant rows)).reply f → MatchResult read (λ rs. Refuses (step w now (grant rs)).reply f) (λ bad. (f ≡ bad) ⊎ ((f ≡ fault) × (length file ≤ 16777216)))
refused_by w now file f read rows e r = subst (λ x. MatchResult x (λ rs. Refuses (step w now (grant rs)).reply f) (λ bad. (f ≡ bad) ⊎ ((f ≡ fault) × (length file ≤ 16777216)))) (sym e) r

-- a file with rows
pub rows_import : (old : World → Type 0) (new : World → World → Type 0) (now : ℕ) (file : List ℕ) (rows : List GrantRow) (r : Result Imported ImportFault) → IsOfFileUnlessFault file (Ok rows) (rows_of file)
    → IfOk r (λ n. (w : World) → old w → Adds (step w now (grant rows)).reply n)
    → IfOk r (λ n. (w : World) → old w → new w (step w now (grant rows)).world)
    → IfErr r (λ f. (w : World) → old w → Refuses (step w now (grant rows)).reply f)
    → OnErr r ((w : World) → old w → new w w)
    → (w : World) → old w → (u : World) × Imports w now file u r × new w u
rows_import old new now file rows (Ok n) read adds made refuses kept w s =
    ((step w now (grant rows)).world, (rows, read_by file rows read, adds w s, refl), made w s)
rows_import old new now file rows (Err f) read adds made refuses kept w s =
    (w, (refused_by w now file f (rows_of file) rows (read_by file rows read) (refuses w s), refl), kept w s)

ok_same : (xs ys : List GrantRow) (r : Result (List GrantRow) ImportFault) → r ≡ Ok xs → r ≡ Ok ys → xs ≡ ys
ok_same xs ys r e f = cc

-- the rows that a file was read as, if any, are an event
pub rows_event : (file : List ℕ) (rows : List GrantRow) (r : Result Imported ImportFault) → IsOfFileUnlessFault file (Ok rows) (rows_of file)
    → length rows ≤ 16777216 → All IsGrantRow rows → IfOk r (λ n. (rs : List GrantRow) → rows_of file ≡ Ok rs → IsEvent (grant rs))
rows_event file rows (Ok n) read few limits =
    λ rs e. subst (λ (x : List GrantRow). IsEvent (grant x)) (ok_same rows rs (rows_of file) (read_by file rows read) e) (few, limits)
rows_event file rows (Err f) read few limits = tt
