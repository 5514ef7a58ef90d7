-- What comes of a line of the device and of an account file, as one place of a run.
use Rattle.std.proofs.Common.{◌≡◌, ℕ, Bool, true, false, List, [], ◌∷◌, Bor, Option, None, Some, Ok, Err, inl, inr, refl, subst}
use Rattle.std.specs.Prelude.{IfSome, MatchBool}
use Rattle.std.proofs.KnownBytes.{Appends-nil}
use Rattle.queue_types.specs.Event.{Event, grant, expire}
use Rattle.queue_types.specs.declared.event.GrantRow.{GrantRow}
use Rattle.queue_core.specs.Limits.{IsEvent, IsMoment}
use Rattle.queue_core.specs.Runs.{after}
use Rattle.queue_core.specs.Sweep.{Sweeps}
use Rattle.queue_core.specs.World.{World}
use Rattle.queue_core.specs.declared.book.BookFault.{BookFault}
use Rattle.device_lines.specs.Reports.{IsReported, IsUntaken, Tells, is_fault_line}
use Rattle.grants_csv.specs.File.{rows_of}
use Rattle.grants_csv.specs.Import.{Imports, grants}
use Rattle.grants_csv.specs.declared.fault.ImportFault.{ImportFault}
use Rattle.grants_csv.specs.declared.importing.Imported.{Imported}
use Rattle.arrivals.specs.Taken.{IsTaken, Takes}
use Rattle.arrivals.specs.declared.arrival.Arrived.TheVariants.{Line, AccountFile, Sweep}
use Rattle.arrivals.specs.declared.arrival.Outcome.TheVariants.{Told, Imported as ImportedRows, Refused, Swept, Unswept}

-- ---- a line

-- the laws of lines
abbrev pub LinesWithin : Type 0
LinesWithin = (line : List ℕ) (e : Option Event) → Tells line e → IfSome e IsEvent

abbrev pub LinesDone : Type 0
LinesDone = (now : ℕ) (w u : World) (line out : List ℕ) → IsReported w now line u out → (e : Option Event) × Tells line e × (u ≡ after w now e)

asks_by : (b c : Bool) (e : Option Event) (line : List ℕ) → b ≡ c → MatchBool b (e ≡ None) (Tells line e) → MatchBool c (e ≡ None) (Tells line e)
asks_by b c e line flag h = subst (λ (x : Bool). MatchBool x (e ≡ None) (Tells line e)) flag h

pub line_taken : LinesWithin → LinesDone → (new left : World → Type 0) (now : ℕ) (line : Bor (List ℕ)) (out : List ℕ) (w u : World) (b : Bool) → b ≡ is_fault_line out → IsMoment now
    → MatchBool b (IsUntaken line.now out × (u ≡ w)) (IsReported w now line.now u out) → new u → left u → (v : Option (List ℕ)) → IsTaken new left w v v (Takes now w (Line line) (Told out))
line_taken are done new left now line out w u true flag moment brings s l v = record {
  after = u;
  stands_after = s;
  written = [];
  appended = Appends-nil v;
  places = record { now = now; event = None } ∷ [];
  are = ((moment, tt), tt);
  run_is = brings.1;
  comes = (
    refl,
    record {
      answers = inr brings;
      event = None;
      asks = asks_by true (is_fault_line out) None line.now flag refl;
      place = record { only = refl; world = brings.1 };
    },
  );
  is_left = l;
}
line_taken are done new left now line out w u false flag moment brings s l v =
    let e = done now w u line.now out brings in record {
      after = u;
      stands_after = s;
      written = [];
      appended = Appends-nil v;
      places = record { now = now; event = e.0 } ∷ [];
      are = ((moment, are line.now e.0 e.1), tt);
      run_is = e.2;
      comes = (
        refl,
        record {
          answers = inl brings;
          event = e.0;
          asks = asks_by false (is_fault_line out) e.0 line.now flag e.1;
          place = record { only = refl; world = e.2 };
        },
      );
      is_left = l;
    }

-- ---- an account file

pub file_taken : (new left : World → Type 0) (now : ℕ) (file : Bor (List ℕ)) (n : Imported) (w u : World) → IsMoment now
    → ((rows : List GrantRow) → rows_of file.now ≡ Ok rows → IsEvent (grant rows))
    → Imports w now file.now u (Ok n) → new u → left u → (v : Option (List ℕ)) → IsTaken new left w v v (Takes now w (AccountFile file) (ImportedRows n))
file_taken new left now file n w u moment event i s l v = record {
  after = u;
  stands_after = s;
  written = [];
  appended = Appends-nil v;
  places = record { now = now; event = Some (grant i.0) } ∷ [];
  are = ((moment, event i.0 i.1), tt);
  run_is = i.3;
  comes = (refl, i, (Some (grant i.0), grants i.0 i.1, record { only = refl; world = i.3 }));
  is_left = l;
}

pub file_refused : (new left : World → Type 0) (now : ℕ) (file : Bor (List ℕ)) (f : ImportFault) (w u : World) → IsMoment now
    → Imports w now file.now u (Err f) → new u → left u → (v : Option (List ℕ)) → IsTaken new left w v v (Takes now w (AccountFile file) (Refused f))
file_refused new left now file f w u moment i s l v = record {
  after = u;
  stands_after = s;
  written = [];
  appended = Appends-nil v;
  places = record { now = now; event = None } ∷ [];
  are = ((moment, tt), tt);
  run_is = i.1;
  comes = (refl, i, record { only = refl; world = i.1 });
  is_left = l;
}

-- ---- a sweep

pub jobs_swept : (new left : World → Type 0) (now n : ℕ) (w u : World) → IsMoment now → Sweeps {E = BookFault} w now u (Ok n) → new u → left u → (v : Option (List ℕ)) → IsTaken new left w v v (Takes now w Sweep (Swept n))
jobs_swept new left now n w u moment swept s l v = record {
  after = u;
  stands_after = s;
  written = [];
  appended = Appends-nil v;
  places = record { now = now; event = Some expire } ∷ [];
  are = ((moment, tt), tt);
  run_is = swept.1;
  comes = (refl, swept, record { only = refl; world = swept.1 });
  is_left = l;
}

pub none_swept : (new left : World → Type 0) (now : ℕ) (f : BookFault) (w u : World) → IsMoment now → Sweeps w now u (Err f) → new u → left u → (v : Option (List ℕ)) → IsTaken new left w v v (Takes now w Sweep (Unswept f))
none_swept new left now f w u moment swept s l v = record {
  after = u;
  stands_after = s;
  written = [];
  appended = Appends-nil v;
  places = record { now = now; event = None } ∷ [];
  are = ((moment, tt), tt);
  run_is = swept;
  comes = (refl, swept, record { only = refl; world = swept });
  is_left = l;
}
