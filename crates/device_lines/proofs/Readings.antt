-- A line spells at most one report, so what it is read as is the one reading.
use Rattle.std.proofs.Common.{◌≡◌, ◌↔◌, ◌<◌, ◌^◌, ◌++◌, ◌∷◌, ℕ, List, [], Option, Some, None, IfSome, IfNone, Result, Ok, Err, ok_or, decimal, append_assoc, refl, sym, ap, ◌∙◌, subst, arith}
use Rattle.queue_core.specs.Limits.{IsReport}
use Rattle.queue_types.specs.declared.event.Kind.{Kind}
use Rattle.queue_types.specs.declared.event.Report.{Report}
use Rattle.device_lines.specs.Forms.{report_of}
use Rattle.device_lines.specs.Lines.{Spells, Reads, kind_word, line_of}
use Rattle.device_lines.specs.declared.line.Form.{Form}
use Rattle.device_lines.specs.declared.line.LineFault.{LineFault}
use Rattle.device_lines.specs.declared.line.LineFault.TheVariants.{Syntax, Range}
use Rattle.device_lines.proofs.Cuts.{number_cut, kind_cut}

-- ---- what stands behind each part of a line

abbrev pub count_on : Report → List ℕ
count_on r = decimal r.count ++ 10 ∷ []

abbrev pub kind_on : Report → List ℕ
kind_on r = kind_word r.kind ++ 32 ∷ count_on r

abbrev pub seq_on : Report → List ℕ
seq_on r = decimal r.seq ++ 32 ∷ kind_on r

line_is : (r : Report) → line_of r ≡ decimal r.job ++ 32 ∷ seq_on r
line_is r = simp append_assoc

pub after_job : (line : List ℕ) (r : Report) (job : ℕ) (rest : List ℕ) → Spells line r → (job < 10 ^ 10) × (line ≡ decimal job ++ 32 ∷ rest) → rest ≡ seq_on r
after_job line r job rest h p = (number_cut 32 job r.job rest (seq_on r) (omega arith) p.0 h.job (sym p.1 ∙ h.bytes ∙ line_is r)).1

pub after_seq : (line : List ℕ) (r : Report) (seq : ℕ) (from rest : List ℕ) → Spells line r → from ≡ seq_on r → (seq < 10 ^ 10) × (from ≡ decimal seq ++ 32 ∷ rest) → rest ≡ kind_on r
after_seq line r seq from rest h e p = (number_cut 32 seq r.seq rest (kind_on r) (omega arith) p.0 h.seq (sym p.1 ∙ e)).1

pub after_kind : (r : Report) (k : Kind) (from rest : List ℕ) → from ≡ kind_on r → from ≡ kind_word k ++ 32 ∷ rest → rest ≡ count_on r
after_kind r k from rest e p = (kind_cut k r.kind rest (count_on r) (sym p ∙ e)).1

pub after_count : (line : List ℕ) (r : Report) (count : ℕ) (from rest : List ℕ) → Spells line r → from ≡ count_on r → (count < 10 ^ 10) × (from ≡ decimal count ++ 10 ∷ rest) → rest ≡ []
after_count line r count from rest h e p = (number_cut 10 count r.count rest [] (omega arith) p.0 h.count (sym p.1 ∙ e)).1

-- ---- one reading

one_report : (line : List ℕ) (r s : Report) → Spells line r → Spells line s → r ≡ s
one_report line r s p q =
    let e = sym (line_is r) ∙ sym p.bytes ∙ q.bytes ∙ line_is s in
    let job = number_cut 32 r.job s.job (seq_on r) (seq_on s) (omega arith) p.job q.job e in
    let seq = number_cut 32 r.seq s.seq (kind_on r) (kind_on s) (omega arith) p.seq q.seq job.1 in
    let kind = kind_cut r.kind s.kind (count_on r) (count_on s) seq.1 in
    let count = number_cut 10 r.count s.count [] [] (omega arith) p.count q.count kind.1 in
    λ i. record { job = job.0 i; seq = seq.0 i; kind = kind.0 i; count = count.0 i }

pub one_reading : (line : List ℕ) (y z : Result Report LineFault) → Reads line y → Reads line z → y ≡ z
one_reading line (Ok r) (Ok s) g h = ap Ok (one_report line r s g.0 h.0)
one_reading line (Ok r) (Err Syntax) g h = absurd (h r g.0)
one_reading line (Ok r) (Err Range) g h = absurd (h.2 (subst IsReport (one_report line r h.0 g.0 h.1) g.1))
one_reading line (Err Syntax) (Ok s) g h = absurd (g s h.0)
one_reading line (Err Syntax) (Err Syntax) g h = refl
one_reading line (Err Syntax) (Err Range) g h = absurd (g h.0 h.1)
one_reading line (Err Range) (Ok s) g h = absurd (g.2 (subst IsReport (one_report line s g.0 h.0 g.1) h.1))
one_reading line (Err Range) (Err Syntax) g h = absurd (h g.0 g.1)
one_reading line (Err Range) (Err Range) g h = refl

-- a reading is the only one
pub exact : (line : List ℕ) (y : Result Report LineFault) → Reads line y → (z : Result Report LineFault) → (y ≡ z) ↔ Reads line z
exact line y h z = (λ e. subst (Reads line) e h, λ g. one_reading line y z h g)

-- ---- what the steps of reading say

-- a line of the form, within the limits or not
pub read_within : (line : List ℕ) (f : Form) (o : Option Report) (y : Result Report LineFault) → Spells line (report_of f)
    → IfSome o (λ r. (r ≡ report_of f) × IsReport r) → IfNone o (IsReport (report_of f) → ⊥) → y ≡ ok_or o Range → Reads line y
read_within line f (Some r) y h some none e = rw e (subst (Spells line) (sym some.0) h, some.1)
read_within line f None y h some none e = rw e (report_of f, h, none)

-- what is refused is read so
pub refused_reads : (line : List ℕ) (f : LineFault) (y : Result Report LineFault) → y ≡ Err f
    → (y ≡ Err Syntax) ↔ Reads line (Err Syntax) → (y ≡ Err Range) ↔ Reads line (Err Range) → Reads line (Err f)
refused_reads line Syntax y e syntax range = syntax.0 e
refused_reads line Range y e syntax range = range.0 e
