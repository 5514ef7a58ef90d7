-- Rows that were read, and those that follow them.
use Rattle.std.proofs.Common.{◌≡◌, ℕ, zero, suc, ◌<◌, ◌+◌, List, [], ◌∷◌, ◌++◌, Bool, true, false, Option, Some, None, Ok, Err, refl, sym, ap, append_assoc, inl, inr, ◌∙◌, add-one, arith}
use Rattle.std.specs.Prelude.{Result, if◌then◌else◌}
use Rattle.std.proofs.lemmas.List.{append-nil}
use denote.Ref.{Bor}
use Rattle.csv.specs.Machine.{Read, next_record}
use Rattle.csv.specs.Reading.{default_config, records_from, records_next}
use Rattle.csv.specs.declared.parser.State.{State}
use Rattle.csv.specs.declared.reader.Reader.{Reader}
use Rattle.queue_types.specs.declared.event.GrantRow.{GrantRow}
use Rattle.grants_csv.specs.Fault.{IsUnlessFault, at_row, fault}
use Rattle.grants_csv.specs.File.{add_row, is_header, row_of, rows_from, rows_under}
use Rattle.grants_csv.specs.Records.{Gives, IsAt}
use Rattle.grants_csv.specs.declared.fault.ImportFault.{ImportFault}
use Rattle.grants_csv.specs.declared.fault.ImportCause.TheVariants.{Header}

-- these rows, and then the others
abbrev pub after : List GrantRow → Result (List GrantRow) ImportFault → Result (List GrantRow) ImportFault
after xs (Err f) = Err f
after xs (Ok ys) = Ok (xs ++ ys)

-- a result that is no error is the one that was wanted
pub ok_wanted : {A : Type 0} (x : A) (r : Result A ImportFault) → IsUnlessFault (Ok x) r → r ≡ Ok x
ok_wanted x r (inl e) = sym e
ok_wanted x r (inr e) = absurd (cc)

after_ok : (xs : List GrantRow) (g : GrantRow) (r : Result GrantRow ImportFault) (rest : Result (List GrantRow) ImportFault)
    → r ≡ Ok g → after xs (add_row r rest) ≡ after (xs ++ g ∷ []) rest
after_ok xs g (Err f) rest h = absurd (cc)
after_ok xs g (Ok k) (Err f) h = refl
after_ok xs g (Ok k) (Ok ys) h = let e : k ≡ g = cc in rw e (ap Ok (sym (append_assoc xs (g ∷ []) ys)))

after_err : (xs : List GrantRow) (f : ImportFault) (r : Result GrantRow ImportFault) (rest : Result (List GrantRow) ImportFault)
    → r ≡ Err f → after xs (add_row r rest) ≡ Err f
after_err xs f (Err k) rest h = let e : k ≡ f = cc in ap (λ x. Err x) e
after_err xs f (Ok g) rest h = absurd (cc)

-- one more row was read
pub row_more : (b : Reader (Bor (List ℕ))) (fields : List (List ℕ)) (o : Option Read) (n k : ℕ) (xs : List GrantRow) (g : GrantRow)
    → Gives b true fields o → row_of (n + 1) fields ≡ Ok g
    → (s : State) × (left : List ℕ) × IsAt b s left
    × (after xs (rows_from (n + 1) (records_next (records_from default_config k) o)) ≡ after (xs ++ g ∷ []) (rows_from (n + 1 + 1) (records_from default_config k s left)))
unfolding rows_from
row_more b fields None n k xs g gives row = absurd (cc)
row_more b fields (Some p) n k xs g gives row =
    (p.1, p.2, gives.2, after_ok xs g (row_of (n + 1) p.0) (rows_from (n + 1 + 1) (records_from default_config k p.1 p.2)) (rw gives.1 at row))

-- the next row is none
pub row_bad : (b : Reader (Bor (List ℕ))) (fields : List (List ℕ)) (o : Option Read) (n k : ℕ) (xs : List GrantRow) (f : ImportFault)
    → Gives b true fields o → row_of (n + 1) fields ≡ Err f
    → after xs (rows_from (n + 1) (records_next (records_from default_config k) o)) ≡ Err f
unfolding rows_from
row_bad b fields None n k xs f gives row = absurd (cc)
row_bad b fields (Some p) n k xs f gives row =
    after_err xs f (row_of (n + 1) p.0) (rows_from (n + 1 + 1) (records_from default_config k p.1 p.2)) (rw gives.1 at row)

-- there is no other row
pub row_none : (b : Reader (Bor (List ℕ))) (fields : List (List ℕ)) (o : Option Read) (n k : ℕ) (xs : List GrantRow)
    → Gives b false fields o → after xs (rows_from (n + 1) (records_next (records_from default_config k) o)) ≡ Ok xs
unfolding rows_from
row_none b fields None n k xs gives = ap Ok (append-nil xs)
row_none b fields (Some p) n k xs gives = absurd (cc (gives.0))

-- ---- the header

header_chosen : (r : Result (List GrantRow) ImportFault) (h b : Bool) (e : Result (List GrantRow) ImportFault) → h ≡ b → (if h then r else e) ≡ (if b then r else e)
header_chosen r h b e q = ap (λ x. if x then r else e) q

pub header_good : (b : Reader (Bor (List ℕ))) (fields : List (List ℕ)) (o : Option Read) (k : ℕ)
    → Gives b true fields o → is_header fields ≡ true
    → (s : State) × (left : List ℕ) × IsAt b s left × (rows_under (records_next (records_from default_config k) o) ≡ rows_from 1 (records_from default_config k s left))
header_good b fields None k gives h = absurd (cc)
header_good b fields (Some p) k gives h =
    (p.1, p.2, gives.2, header_chosen (rows_from 1 (records_from default_config k p.1 p.2)) (is_header p.0) true _ (rw gives.1 at h))

pub header_bad : (b : Reader (Bor (List ℕ))) (fields : List (List ℕ)) (o : Option Read) (k : ℕ)
    → Gives b true fields o → is_header fields ≡ false → rows_under (records_next (records_from default_config k) o) ≡ Err (at_row Header 0)
header_bad b fields None k gives h = absurd (cc)
header_bad b fields (Some p) k gives h = header_chosen (rows_from 1 (records_from default_config k p.1 p.2)) (is_header p.0) false _ (rw gives.1 at h)

pub header_none : (b : Reader (Bor (List ℕ))) (fields : List (List ℕ)) (o : Option Read) (k : ℕ)
    → Gives b false fields o → rows_under (records_next (records_from default_config k) o) ≡ Err (at_row Header 0)
header_none b fields None k gives = refl
header_none b fields (Some p) k gives = absurd (cc (gives.0))

-- ---- turns of the loop over rows

pub after_nil : (r : Result (List GrantRow) ImportFault) → r ≡ after [] r
after_nil (Err f) = refl
after_nil (Ok xs) = refl

-- a turn that found no record
pub turn_none : (b : Reader (Bor (List ℕ))) (fields : List (List ℕ)) (n k : ℕ) (xs : List GrantRow) (s : State) (left : List ℕ) (whole : Result (List GrantRow) ImportFault)
    → whole ≡ after xs (rows_from (n + 1) (records_from default_config k s left)) → 0 < k → Gives b false fields (next_record default_config s [] [] left) → whole ≡ Ok xs
unfolding records_from
turn_none b fields n zero xs s left whole so_far more gives = absurd (omega arith)
turn_none b fields n (suc k) xs s left whole so_far more gives = so_far ∙ row_none b fields (next_record default_config s [] [] left) n k xs gives

-- a turn that found a row that is none
pub turn_bad : (b : Reader (Bor (List ℕ))) (fields : List (List ℕ)) (n k : ℕ) (xs : List GrantRow) (s : State) (left : List ℕ) (whole : Result (List GrantRow) ImportFault) (f : ImportFault)
    → whole ≡ after xs (rows_from (n + 1) (records_from default_config k s left)) → 0 < k → Gives b true fields (next_record default_config s [] [] left)
    → IsUnlessFault (Err f) (row_of (n + 1) fields) → IsUnlessFault (Err f) whole
unfolding records_from
turn_bad b fields n zero xs s left whole f so_far more gives row = absurd (omega arith)
turn_bad b fields n (suc k) xs s left whole f so_far more gives (inl e) = inl (sym (so_far ∙ row_bad b fields (next_record default_config s [] [] left) n k xs f gives (sym e)))
turn_bad b fields n (suc k) xs s left whole f so_far more gives (inr e) = let same : f ≡ fault = cc in inr (ap (λ x. Err x) same)

-- a turn that read a row
pub turn_more : (b : Reader (Bor (List ℕ))) (fields : List (List ℕ)) (n k most : ℕ) (xs : List GrantRow) (s : State) (left : List ℕ) (whole : Result (List GrantRow) ImportFault) (g : GrantRow)
    → whole ≡ after xs (rows_from (n + 1) (records_from default_config k s left)) → 0 < k → n + k ≡ most → Gives b true fields (next_record default_config s [] [] left)
    → IsUnlessFault (Ok g) (row_of (n + 1) fields)
    → (s2 : State) × (left2 : List ℕ) × (k2 : ℕ) × IsAt b s2 left2 × (n + 1 + k2 ≡ most)
    × (whole ≡ after (xs ++ g ∷ []) (rows_from (n + 1 + 1) (records_from default_config k2 s2 left2)))
unfolding records_from
turn_more b fields n zero most xs s left whole g so_far more sum gives row = absurd (omega arith)
turn_more b fields n (suc k) most xs s left whole g so_far more sum gives row =
    let (s2, left2, there, e) = row_more b fields (next_record default_config s [] [] left) n k xs g gives (ok_wanted g (row_of (n + 1) fields) row) in
    (s2, left2, k, there, omega (arith, sum), so_far ∙ e)

-- no turn is left
pub turns_end : (n k : ℕ) (xs : List GrantRow) (s : State) (left : List ℕ) (whole : Result (List GrantRow) ImportFault)
    → whole ≡ after xs (rows_from (n + 1) (records_from default_config k s left)) → k ≡ 0 → whole ≡ Ok xs
unfolding records_from rows_from
turns_end n zero xs s left whole so_far none = so_far ∙ ap (λ x. Ok x) (append-nil xs)
turns_end n (suc k) xs s left whole so_far none = absurd (omega arith)

-- ---- the file

pub file_none : (b : Reader (Bor (List ℕ))) (fields : List (List ℕ)) (most : ℕ) (s : State) (left : List ℕ)
    → Gives b false fields (next_record default_config s [] [] left) → rows_under (records_from default_config (most + 1) s left) ≡ Err (at_row Header 0)
unfolding records_from
file_none b fields most s left gives = rw (add-one most) (header_none b fields (next_record default_config s [] [] left) most gives)

pub file_bad : (b : Reader (Bor (List ℕ))) (fields : List (List ℕ)) (most : ℕ) (s : State) (left : List ℕ)
    → Gives b true fields (next_record default_config s [] [] left) → is_header fields ≡ false → rows_under (records_from default_config (most + 1) s left) ≡ Err (at_row Header 0)
unfolding records_from
file_bad b fields most s left gives h = rw (add-one most) (header_bad b fields (next_record default_config s [] [] left) most gives h)

pub file_good : (b : Reader (Bor (List ℕ))) (fields : List (List ℕ)) (most : ℕ) (s : State) (left : List ℕ)
    → Gives b true fields (next_record default_config s [] [] left) → is_header fields ≡ true
    → (s2 : State) × (left2 : List ℕ) × IsAt b s2 left2 × (rows_under (records_from default_config (most + 1) s left) ≡ rows_from 1 (records_from default_config most s2 left2))
unfolding records_from
file_good b fields most s left gives h = rw (add-one most) (header_good b fields (next_record default_config s [] [] left) most gives h)
