-- The status of a refusal (RFC 9110, section 15; RFC 6585, section 5), and how a connection ended.
use Rattle.std.specs.Prelude.{ℕ, Bool, true, false}
use Rattle.http_head.specs.declared.end.End.{End}
use Rattle.http_head.specs.declared.end.End.TheVariants.{Closed, Cut, Refused}
use Rattle.http_head.specs.declared.end.Finish.{Finish}
use Rattle.http_head.specs.declared.end.Finish.TheVariants.{Closed as FinishClosed, Cut as FinishCut, Refused as FinishRefused}
use Rattle.http_head.specs.declared.end.Refusal.{Refusal}
use Rattle.http_head.specs.declared.end.Refusal.TheVariants.{BadRequest, NotFound, OnlyPostAllowed, OnlyGetAllowed, LengthRequired, ContentTooLarge, UnsupportedMediaType, HeaderFieldsTooLarge, ServiceUnavailable}

-- the status code
abbrev pub code_of : Refusal → ℕ
code_of BadRequest = 400
code_of NotFound = 404
code_of OnlyPostAllowed = 405
code_of OnlyGetAllowed = 405
code_of LengthRequired = 411
code_of ContentTooLarge = 413
code_of UnsupportedMediaType = 415
code_of HeaderFieldsTooLarge = 431
code_of ServiceUnavailable = 503

-- the end with the status code alone
abbrev pub end_of : Finish → End
end_of FinishClosed = Closed
end_of FinishCut = Cut
end_of (FinishRefused r) = Refused (code_of r)

-- it is a fault of the server's own
abbrev pub is_unavailable : Finish → Bool
is_unavailable (FinishRefused ServiceUnavailable) = true
is_unavailable _ = false
