use Rattle.std.proofs.Common.{◌≡◌, ◌++◌, List, ℕ, true, length, take, drop, nat_eq, sym, ap, ◌∙◌, take-append-drop}
use Rattle.std.specs.Prelude.{codes}
use Rattle.std.specs.Cmp.Lexicographic.{pointwise, same_text}
use Rattle.queue_types.specs.Uri.{printer_path}
use Rattle.ipp_request.specs.Request.{job_in, number_in}
use Rattle.ipp_request.proofs.target.job_in.Goals as goal

-- behind the printer's path and a slash stands the number
behind : (path front rest number : List ℕ) → front ≡ printer_path → pointwise nat_eq (take (length front) path) front ≡ true → rest ≡ drop (length front) path
    → pointwise nat_eq (take 1 rest) (codes "/") ≡ true → number ≡ drop 1 rest → number_in number ≡ job_in path
behind path front rest number printer begins left slash last =
    let slashed : rest ≡ codes "/" ++ number =
    sym (take-append-drop 1 rest) ∙ ap (λ (t : List ℕ). t ++ drop 1 rest) (same_text (take 1 rest) (codes "/") (sym slash)) ∙ ap (λ (t : List ℕ). codes "/" ++ t) (sym last) in
    let whole : path ≡ printer_path ++ codes "/" ++ number =
    sym (take-append-drop (length front) path) ∙ ap (λ (t : List ℕ). t ++ drop (length front) path) (same_text (take (length front) path) front (sym begins) ∙ printer)
    ∙ ap (λ (t : List ℕ). printer_path ++ t) (sym left ∙ slashed) in
    sym (ap job_in whole)

pub returns : goal.returns
returns c =
    let first = c.in_ok-behind.ensures.cases in
    let second = c.in_ok-strip_prefix.ensures.cases in
    c.number_in.ensures ∙ behind c.args.path.now c.as_bytes.result.now c.in_ok-behind.behind.now c.in_ok-strip_prefix.field-0.now c.as_bytes.ensures.value first.0 first.1 second.0 second.1
