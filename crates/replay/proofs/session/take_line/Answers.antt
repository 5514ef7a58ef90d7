use Rattle.std.proofs.Common.{◌≡◌, ℕ, List, [], refl, subst}
use Rattle.std.proofs.lemmas.Bool.{OnTrue_at}
use Rattle.std.proofs.KnownBytes.{Appends-nil}
use Rattle.replay.specs.RequestLine.{Says}
use Rattle.replay.specs.declared.request_line.RequestLine.{RequestLine}
use Rattle.replay.specs.declared.request_line.RequestLine.TheVariants.{Now, Ipp, Dev, Grant, Expire}
use Rattle.replay.proofs.session.take_line.Goals as goal

-- the bytes say this, by other names
said : (line bytes : List ℕ) (request form : RequestLine) → bytes ≡ line → request ≡ form → Says bytes request → Says line form
said line bytes request form same is says =
    subst (λ (r : RequestLine). Says line r) is (subst (λ (b : List ℕ). Says b request) same says)

pub returns-in-Now-clause-taken : goal.returns-in-Now-clause-taken
returns-in-Now-clause-taken g c =
    let says = said c.args.line.now.bytes.items c.as_slice.result.now c.in-Some.request (Now c.in-Now.moment) c.as_slice.ensures.value c.in-Now.is c.in-Some.ensures.said in
    λ h w s set. (w, [], record { request = Now c.in-Now.moment; says = says; whole = tt; takes = (refl, refl, refl) }, s, Appends-nil _)

pub returns-then-branch-clause-taken : goal.returns-then-branch-clause-taken
returns-then-branch-clause-taken g c =
    let says = said c.args.line.now.bytes.items c.as_slice.result.now c.in-Some.request (Ipp c.in-Ipp.digits) c.as_slice.ensures.value c.in-Ipp.is c.in-Some.ensures.said in
    λ h w s set. let a = OnTrue_at c.if-branch.true (c.in_ok-answer_digits-in-Ipp.ensures.answered h) w s set in
    (a.0, a.1, record { request = Ipp c.in-Ipp.digits; says = says; whole = c.if-line.false; takes = (refl, a.2) }, a.3, a.4)

pub returns-in_ok-answer_device-in-Dev-clause-taken : goal.returns-in_ok-answer_device-in-Dev-clause-taken
returns-in_ok-answer_device-in-Dev-clause-taken g c =
    let says = said c.args.line.now.bytes.items c.as_slice.result.now c.in-Some.request (Dev c.in-Dev.text) c.as_slice.ensures.value c.in-Dev.is c.in-Some.ensures.said in
    λ h w s set. let a = c.in_ok-answer_device-in-Dev.ensures.answered h w s in
    (a.0, a.1, record { request = Dev c.in-Dev.text; says = says; whole = tt; takes = (refl, a.2) }, a.3, a.4)

pub returns-in_ok-import_row-in-Grant-clause-taken : goal.returns-in_ok-import_row-in-Grant-clause-taken
returns-in_ok-import_row-in-Grant-clause-taken g c =
    let says = said c.args.line.now.bytes.items c.as_slice.result.now c.in-Some.request (Grant c.in-Grant.row) c.as_slice.ensures.value c.in-Grant.is c.in-Some.ensures.said in
    λ h w s set. let a = c.in_ok-import_row-in-Grant.ensures.answered h w s in
    (a.0, a.1, record { request = Grant c.in-Grant.row; says = says; whole = tt; takes = (refl, a.2) }, a.3, a.4)

pub returns-in_ok-expire_jobs-in-Expire-clause-taken : goal.returns-in_ok-expire_jobs-in-Expire-clause-taken
returns-in_ok-expire_jobs-in-Expire-clause-taken g c =
    let says = said c.args.line.now.bytes.items c.as_slice.result.now c.in-Some.request Expire c.as_slice.ensures.value c.in-Expire.is c.in-Some.ensures.said in
    λ h w s set. let a = c.in_ok-expire_jobs-in-Expire.ensures.answered h w s in
    (a.0, a.1, record { request = Expire; says = says; whole = tt; takes = (refl, a.2) }, a.3, a.4)
