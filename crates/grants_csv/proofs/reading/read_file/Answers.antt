use Rattle.std.proofs.Common.{◌∙◌, sym, inl}
use Rattle.std.proofs.lemmas.Result.{IfErr-weaker, on_ok_weaker}
use Rattle.csv.specs.declared.parser.State.TheVariants as st
use Rattle.grants_csv.proofs.Rows.{file_bad, file_good, file_none}
use Rattle.grants_csv.proofs.reading.read_file.Goals as goal
use Rattle.grants_csv.proofs.reading.read_file.Goals.{then-not-branch-via-then-not-branch, then-not-branch-via-else-not-branch+then-not-is_header}

pub returns-then-not-branch-clause-refused : goal.returns-then-not-branch-clause-refused
returns-then-not-branch-clause-refused c = λ left here. inl (sym (
    let first = c.in_ok-next_record.ensures.read st.StartRecord left here in
    elim c.then-not-branch.branch [
      | then-not-branch-via-then-not-branch w ↦ file_none _ _ c.args.most st.StartRecord left (rw w.if-not-branch.true at first)
      | then-not-branch-via-else-not-branch+then-not-is_header w ↦ file_bad _ _ c.args.most st.StartRecord left (rw w.if-not-branch.false at first) (sym w.is_header.ensures ∙ w.if-not-is_header.true)
    ]))

pub returns-clause-read : goal.returns-clause-read
returns-clause-read c = on_ok_weaker c.read_rows.result (λ h left here.
    let (s2, left2, there, e) = file_good _ _ c.args.most st.StartRecord left (rw c.if-not-branch.false at c.in_ok-next_record.ensures.read st.StartRecord left here) (sym c.is_header.ensures ∙ c.if-not-is_header.false) in
    rw e (h s2 left2 there)) c.read_rows.ensures.read

pub returns-clause-refused : goal.returns-clause-refused
returns-clause-refused c = IfErr-weaker c.read_rows.result _ _ (λ f h left here.
    let (s2, left2, there, e) = file_good _ _ c.args.most st.StartRecord left (rw c.if-not-branch.false at c.in_ok-next_record.ensures.read st.StartRecord left here) (sym c.is_header.ensures ∙ c.if-not-is_header.false) in
    rw e (h s2 left2 there)) c.read_rows.ensures.refused
