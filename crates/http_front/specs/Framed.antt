-- What is written over any book, also one that is not honest: each response has as many bytes of content as its head tells (RFC 9112, section 6.2),
-- and the last alone ends the connection (section 9.6).
use Rattle.std.specs.Prelude.{◌≡◌, ◌⊎◌, Bool, false, true, ℕ, List, [], ◌++◌, Option, codes}
use Rattle.std.specs.Io.KnownBytes.{Appends}
use Rattle.queue_types.specs.Formats.{format_name}
use Rattle.queue_types.specs.declared.document.Format.{Format}
use Rattle.http_head.specs.Ends.{end_of}
use Rattle.http_head.specs.declared.end.End.{End}
use Rattle.http_head.specs.declared.end.End.TheVariants.{Done}
use Rattle.http_wire.specs.Responses.{continue_response, last_response, success_response}
use Rattle.http_front.specs.declared.outcome.Replied.{Replied}
use Rattle.http_front.specs.declared.outcome.Replied.TheVariants.{Answered as ReplyAnswered, Declined}
use Rattle.http_front.specs.declared.outcome.Tally.{Tally}
use Rattle.http_front.specs.declared.outcome.Turned.{Turned}
use Rattle.http_front.specs.declared.outcome.Turned.TheVariants.{Answered, Ended}

-- the media types of responses: of a reply of IPP, of lines, and of a document by its format
pub data IsMediaType : List ℕ → Type 0 where
  of_ipp : IsMediaType (codes "application/ipp")
  of_lines : IsMediaType (codes "text/plain")
  of_document : (format : Format) → IsMediaType (format_name format)

-- a whole request has a whole response, or nothing yet where it is declined; the writer's bytes went from v to x
abbrev pub IsFramed : Bool → Option (List ℕ) → Option (List ℕ) → Replied → Type 0
IsFramed closes v x (ReplyAnswered tally) = (media_type : List ℕ) × (content : List ℕ) × IsMediaType media_type × Appends v x (success_response media_type content closes)
IsFramed closes v x (Declined r) = Appends v x []

-- the response that ends a turn
abbrev pub IsFinal : Turned → List ℕ → Type 0
IsFinal (Answered tally closes) bytes = (media_type : List ℕ) × (content : List ℕ) × IsMediaType media_type × (bytes ≡ success_response media_type content closes)
IsFinal (Ended end) bytes = bytes ≡ last_response end

-- what stands before it: nothing, or 100 Continue
abbrev pub IsInterim : List ℕ → Type 0
IsInterim bytes = (bytes ≡ []) ⊎ (bytes ≡ continue_response)

-- it alone was written, or behind 100 Continue
abbrev pub IsTurnFramed : Option (List ℕ) → Option (List ℕ) → Turned → Type 0
IsTurnFramed v x turned = (interim : List ℕ) × (final : List ℕ) × IsInterim interim × IsFinal turned final × Appends v x (interim ++ final)

-- whole answers, one behind the other, none of which says that the connection closes
pub data AreAnswers : List ℕ → Type 0 where
  none : AreAnswers []
  one_more : (tally : Tally) (before interim final : List ℕ) → AreAnswers before → IsInterim interim → IsFinal (Answered tally false) final
      → AreAnswers (before ++ (interim ++ final))

-- they were written
abbrev pub AreAnswered : Option (List ℕ) → Option (List ℕ) → Type 0
AreAnswered v x = (bytes : List ℕ) × AreAnswers bytes × Appends v x bytes

-- the turn ends the connection so: by an answer that says that it closes, or with no answer
abbrev pub IsLast : Turned → End → Type 0
IsLast (Answered tally closes) end = (closes ≡ true) × (end ≡ Done)
IsLast (Ended finish) end = end ≡ end_of finish

-- such answers were written, and behind them the response of the one turn that ends the connection
abbrev pub AreFramed : Option (List ℕ) → Option (List ℕ) → End → Type 0
AreFramed v x end =
    (before : List ℕ) × (interim : List ℕ) × (final : List ℕ) × (turned : Turned) × AreAnswers before × IsInterim interim
    × IsFinal turned final × IsLast turned end × Appends v x (before ++ (interim ++ final))
