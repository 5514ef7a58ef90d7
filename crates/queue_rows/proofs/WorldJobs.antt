-- Jobs and documents of the world that rows stand for.
use Rattle.std.proofs.Common.{◌≡◌, ℕ, ◌+◌, ◌*◌, ◌≤◌, suc, zero, List, [], ◌∷◌, ◌++◌, length, map, take, drop, sum_by, min, All, refl, sym, ap, subst, ◌∙◌, arith}
use Rattle.std.specs.List.{concat, flat_map, range_with_len, AllByRecursion as Each}
use Rattle.std.proofs.lemmas.List.{length-append, length-take-le, length-map, take-map, drop-map, take-append-drop}
use Rattle.std.proofs.lemmas.List.Elements.{All-take, All-drop, All-append, All-from_recursion}
use Rattle.std.proofs.lemmas.List.Sums.{sum_by-cons, sum_by-append, prefix_len-le-length}
use Rattle.std.proofs.lemmas.List.FromFn.{length-map-range_with_len, map-range_with_len_more}
use Rattle.queue_core.specs.World.{Entry}
use Rattle.queue_core.specs.Sound.{Rise, IsSoundEntry, IsSoundDocument}
use Rattle.queue_core.specs.Limits.{IsSoundJob}
use Rattle.queue_types.specs.declared.document.Document.{Document}
use Rattle.queue_types.specs.declared.job.Job.{Job}
use Rattle.queue_rows.proofs.Filled.{octets_of, with_group, filled}
use Rattle.queue_rows.specs.Documents.{next_of, AreGrouped, HasSize}
use Rattle.queue_rows.specs.Jobs.{NumbersRise}
use Rattle.queue_rows.specs.Pieces.{piece_of, pieces_of, pieces_in, length_in}
use Rattle.queue_rows.proofs.WorldOf.{documents_in, entries_in}
use Rattle.queue_rows.specs.declared.rows.DocumentRow.{DocumentRow}
use Rattle.queue_rows.proofs.GroupLemmas.{is_of}

pub each_map : {X : Type 0} (P Q : X → Type 0) → ((x : X) → P x → Q x) → (xs : List X) → Each P xs → Each Q xs
each_map P Q one [] h = tt
each_map P Q one (x ∷ xs) h = (one x h.0, each_map P Q one xs h.1)

abbrev pub row_of : Entry → Job
row_of e = e.row

pub rows_in : (js : List Job) (ds : List DocumentRow) (all : List Document) → map row_of (entries_in js ds all) ≡ filled js ds
rows_in [] ds all = refl
rows_in (j ∷ js) ds all = ap (λ (l : List Job). with_group j ds ∷ l) (rows_in js (drop (next_of j.number ds) ds) (drop (next_of j.number ds) all))

-- ---- numbers

pub rise_from : (first : ℕ) (es : List Entry) (next : ℕ) → NumbersRise first (map row_of es) next → Rise first es next
rise_from first [] next h = h
rise_from first (e ∷ es) next h = (h.0, rise_from (e.row.number + 1) es next h.1)

pub rise_to : (first : ℕ) (es : List Entry) (next : ℕ) → Rise first es next → NumbersRise first (map row_of es) next
rise_to first [] next h = h
rise_to first (e ∷ es) next h = (h.0, rise_to (e.row.number + 1) es next h.1)

-- ---- lengths of pieces

-- of so many octets, the octets of the first n pieces
pub pieces_sum_more : (d : DocumentRow) (n : ℕ) → sum_by length_in (map (piece_of d) (range_with_len 0 n)) ≡ min d.octets (n * 65536) → sum_by length_in (map (piece_of d) (range_with_len 0 (n + 1))) ≡ min d.octets ((n + 1) * 65536)
pieces_sum_more d n h =
    ap (sum_by length_in) (map-range_with_len_more (piece_of d) 0 n n (omega arith)) ∙ sum_by-append length_in (map (piece_of d) (range_with_len 0 n)) (piece_of d n ∷ [])
    ∙ omega (arith, h, sum_by-cons length_in (piece_of d n) [])

pub pieces_sum : (d : DocumentRow) (n : ℕ) → sum_by length_in (map (piece_of d) (range_with_len 0 n)) ≡ min d.octets (n * 65536)
pieces_sum d zero = omega arith
pieces_sum d (suc n) =
    let one : suc n ≡ n + 1 = omega arith in
    subst (λ (m : ℕ). sum_by length_in (map (piece_of d) (range_with_len 0 m)) ≡ min d.octets (m * 65536)) (sym one) (pieces_sum_more d n (pieces_sum d n))

pub octets_in_pieces : (d : DocumentRow) → sum_by length_in (pieces_of d) ≡ d.octets
octets_in_pieces d = pieces_sum d (pieces_in d.octets) ∙ omega arith

pub length_concat : (bs : List (List ℕ)) → length (concat bs) ≡ sum_by length bs
length_concat [] = refl
length_concat (b ∷ bs) = length-append b (concat bs) ∙ ap (λ (n : ℕ). length b + n) (length_concat bs) ∙ sym (sum_by-cons length b bs)

pub sum_mapped : {X Y : Type 0} (f : X → ℕ) (g : Y → ℕ) (xs : List X) (ys : List Y) → map f xs ≡ map g ys → sum_by f xs ≡ sum_by g ys
sum_mapped f g [] [] e = refl
sum_mapped f g (x ∷ xs) (y ∷ ys) e =
    let here : f x ≡ g y = cc in
    let rest : map f xs ≡ map g ys = cc in
    sum_by-cons f x xs ∙ ap (λ (n : ℕ). n + sum_by f xs) here ∙ ap (λ (n : ℕ). g y + n) (sum_mapped f g xs ys rest) ∙ sym (sum_by-cons g y ys)
sum_mapped f g _ _ e = absurd cc

-- the front of a list that maps to a joined one, and what follows
pub mapped_front : {X Y Z : Type 0} (f : X → Z) (g : Y → Z) (xs : List X) (as' bs : List Y) → map f xs ≡ map g (as' ++ bs) → (map f (take (length as') xs) ≡ map g as') × (map f (drop (length as') xs) ≡ map g bs)
mapped_front f g xs [] bs e = (refl, e)
mapped_front f g [] (a ∷ as') bs e = absurd cc
mapped_front f g (x ∷ xs) (a ∷ as') bs e =
    let here : f x ≡ g a = cc in
    let rest : map f xs ≡ map g (as' ++ bs) = cc in
    let later = mapped_front f g xs as' bs rest in
    let front : map f (take (length as') xs) ≡ map g as' = later.0 in
    (cc, later.1)

abbrev pub size_of : Document → ℕ
size_of d = length d.bytes

pub sizes_in : (ds : List DocumentRow) (bs : List (List ℕ)) → map length bs ≡ map length_in (flat_map pieces_of ds) → map size_of (documents_in ds bs) ≡ map octets_of ds
sizes_in [] bs e = refl
sizes_in (d ∷ ds) bs e =
    let count : length (pieces_of d) ≡ pieces_in d.octets = length-map-range_with_len (piece_of d) 0 (pieces_in d.octets) in
    let parts = mapped_front length length_in bs (pieces_of d) (flat_map pieces_of ds) e in
    let front : map length (take (pieces_in d.octets) bs) ≡ map length_in (pieces_of d) = ap (λ (n : ℕ). map length (take n bs)) (sym count) ∙ parts.0 in
    let rest : map length (drop (pieces_in d.octets) bs) ≡ map length_in (flat_map pieces_of ds) = ap (λ (n : ℕ). map length (drop n bs)) (sym count) ∙ parts.1 in
    let here : length (concat (take (pieces_in d.octets) bs)) ≡ d.octets = length_concat (take (pieces_in d.octets) bs) ∙ sum_mapped length length_in (take (pieces_in d.octets) bs) (pieces_of d) front ∙ octets_in_pieces d in
    ap (λ (n : ℕ). n ∷ map size_of (documents_in ds (drop (pieces_in d.octets) bs))) here ∙ ap (λ (l : List ℕ). d.octets ∷ l) (sizes_in ds (drop (pieces_in d.octets) bs) rest)

-- ---- entries

pub take_mapped : {X Y Z : Type 0} (f : X → Z) (g : Y → Z) (n : ℕ) (xs : List X) (ys : List Y) → map f xs ≡ map g ys → map f (take n xs) ≡ map g (take n ys)
take_mapped f g n xs ys e = sym (take-map f n xs) ∙ ap (take n) e ∙ take-map g n ys

pub drop_mapped : {X Y Z : Type 0} (f : X → Z) (g : Y → Z) (n : ℕ) (xs : List X) (ys : List Y) → map f xs ≡ map g ys → map f (drop n xs) ≡ map g (drop n ys)
drop_mapped f g n xs ys e = sym (drop-map f n xs) ∙ ap (drop n) e ∙ drop-map g n ys

pub same_length : {X Y Z : Type 0} (f : X → Z) (g : Y → Z) (xs : List X) (ys : List Y) → map f xs ≡ map g ys → length xs ≡ length ys
same_length f g xs ys e = sym (length-map xs f) ∙ ap length e ∙ length-map ys g

pub sizes_sound : (all : List Document) (ds : List DocumentRow) → map size_of all ≡ map octets_of ds → All HasSize ds → Each IsSoundDocument all
sizes_sound [] ds e h = tt
sizes_sound (x ∷ all) [] e h = absurd cc
sizes_sound (x ∷ all) (d ∷ ds) e h =
    let here : size_of x ≡ octets_of d = cc in
    let rest : map size_of all ≡ map octets_of ds = cc in
    let size = h 0 d (omega arith) in
    ((omega (arith, here, size.0), omega (arith, here, size.1)), sizes_sound all ds rest (λ k y lt. h (suc k) y (omega arith)))

pub sizes_told : (all : List Document) (ds : List DocumentRow) → map size_of all ≡ map octets_of ds → Each IsSoundDocument all → Each HasSize ds
sizes_told all [] e h = tt
sizes_told [] (d ∷ ds) e h = absurd cc
sizes_told (x ∷ all) (d ∷ ds) e h =
    let here : size_of x ≡ octets_of d = cc in
    let rest : map size_of all ≡ map octets_of ds = cc in
    ((omega (arith, here, h.0.0), omega (arith, here, h.0.1)), sizes_told all ds rest h.1)

pub entries_sound : (js : List Job) (ds : List DocumentRow) (all : List Document) → map size_of all ≡ map octets_of ds → All HasSize ds → Each IsSoundJob (filled js ds) → Each IsSoundEntry (entries_in js ds all)
entries_sound [] ds all e sizes h = tt
entries_sound (j ∷ js) ds all e sizes h =
    let n = next_of j.number ds in
    let front : map size_of (take n all) ≡ map octets_of (take n ds) = take_mapped size_of octets_of n all ds e in
    let short : n ≤ length ds = prefix_len-le-length (is_of j.number) ds in
    let same : length all ≡ length ds = same_length size_of octets_of all ds e in
    let many : length (take n all) ≡ n = length-take-le n all (omega arith) in (
      record {
        row = h.0;
        documents = sym many;
        octets = sym (sum_mapped size_of octets_of (take n all) (take n ds) front);
        sizes = sizes_sound (take n all) (take n ds) front (All-take HasSize n ds sizes);
      },
      entries_sound js (drop n ds) (drop n all) (drop_mapped size_of octets_of n all ds e) (All-drop HasSize n ds sizes) h.1,
    )

pub rows_told : (js : List Job) (ds : List DocumentRow) (all : List Document) → Each IsSoundEntry (entries_in js ds all) → Each IsSoundJob (filled js ds)
rows_told [] ds all h = tt
rows_told (j ∷ js) ds all h = (h.0.row, rows_told js (drop (next_of j.number ds) ds) (drop (next_of j.number ds) all) h.1)

-- where no document is left over
pub all_sizes_told : (js : List Job) (ds : List DocumentRow) (all : List Document) → map size_of all ≡ map octets_of ds → AreGrouped js ds → Each IsSoundEntry (entries_in js ds all) → All HasSize ds
all_sizes_told [] ds all e none h = λ k d lt. absurd (let gone : length ds ≡ 0 = ap length none in omega arith)
all_sizes_told (j ∷ js) ds all e group h =
    let n = next_of j.number ds in
    let front : map size_of (take n all) ≡ map octets_of (take n ds) = take_mapped size_of octets_of n all ds e in
    let first : All HasSize (take n ds) = All-from_recursion HasSize (take n ds) (sizes_told (take n all) (take n ds) front h.0.sizes) in
    let later : All HasSize (drop n ds) = all_sizes_told js (drop n ds) (drop n all) (drop_mapped size_of octets_of n all ds e) group.1 h.1 in
    subst (All HasSize) (take-append-drop n ds) (All-append HasSize (take n ds) (drop n ds) first later)
