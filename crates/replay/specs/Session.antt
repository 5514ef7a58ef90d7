-- What a line of a replay brings about, and the text that answers it.
use Rattle.std.specs.Prelude.{◌≡◌, ◌<◌, ◌≤◌, ◌⊎◌, ℕ, Bool, true, List, [], ◌∷◌, ◌++◌, Result, Ok, Err, IsErr, IsOkAnd, codes, length}
use Rattle.std.specs.Fmt.{decimal}
use Rattle.device_lines.specs.Reports.{AnswersLine}
use Rattle.grants_csv.specs.Fault.{code_of}
use Rattle.grants_csv.specs.Import.{Imports}
use Rattle.grants_csv.specs.declared.fault.ImportFault.{ImportFault}
use Rattle.grants_csv.specs.declared.importing.Imported.{Imported}
use Rattle.hex.specs.Hex.{decode_of, encode_lower}
use Rattle.ipp_ops.specs.Answer.{BringsReply}
use Rattle.queue_core.specs.Sweep.{Sweeps}
use Rattle.queue_core.specs.World.{World}
use Rattle.queue_core.specs.declared.book.BookFault.{BookFault}
use Rattle.replay.specs.declared.request_line.RequestLine.{RequestLine}
use Rattle.replay.specs.declared.request_line.RequestLine.TheVariants.{Now, Ipp, Dev, Grant, Expire}

-- where a session is: the moment at which requests come, and the queue
pub record State : Type 0 where
  pub now : ℕ
  pub queue : World

-- the queue is this world, and requests come at this moment
abbrev pub state : ℕ → World → State
state now w = record { now = now; queue = w }

-- `ipp `, the reply in lower-case hexadecimal, and a line feed
abbrev pub reply_line : List ℕ → List ℕ
reply_line out = codes "ipp " ++ encode_lower out ++ 10 ∷ []

-- the text answers the message at this moment: it has the reply to a message with a head, which has 8 bytes (RFC 8010, section 3.1.1),
-- or says that the message is too short for one
abbrev pub AnswersMessage : World → ℕ → List ℕ → World → List ℕ → Type 0
AnswersMessage old now message new text =
    ((8 ≤ length message) × (out : List ℕ) × BringsReply old now message new out × (text ≡ reply_line out))
    ⊎ ((length message < 8) × (new ≡ old) × (text ≡ codes "ipp short" ++ 10 ∷ []))

-- the digits stand for a message, and the text answers it
abbrev pub AnswersDigits : World → ℕ → List ℕ → World → List ℕ → Type 0
AnswersDigits old now digits new text = (message : List ℕ) × (decode_of digits ≡ Ok message) × AnswersMessage old now message new text

-- the account file with this one row
abbrev pub file_of : List ℕ → List ℕ
file_of row = codes "batch,account,pages\n" ++ row ++ 10 ∷ []

-- `grant new N repeats M` or `grant refused CODE`
abbrev pub import_line : Result Imported ImportFault → List ℕ
import_line (Ok n) = codes "grant new " ++ decimal n.added ++ codes " repeats " ++ decimal n.repeats ++ 10 ∷ []
import_line (Err f) = codes "grant refused " ++ decimal (code_of f.cause) ++ 10 ∷ []

-- the text tells what became of the account file at this moment
abbrev pub AnswersFile : World → ℕ → List ℕ → World → List ℕ → Type 0
AnswersFile old now file new text = (answer : Result Imported ImportFault) × Imports old now file new answer × (text ≡ import_line answer)

-- `expired N`, or `expire refused` after a fault
abbrev pub sweep_line : Result ℕ BookFault → List ℕ
sweep_line (Ok n) = codes "expired " ++ decimal n ++ 10 ∷ []
sweep_line (Err f) = codes "expire refused" ++ 10 ∷ []

-- the text is the answer to a sweep at this moment
abbrev pub AnswersSweep : World → ℕ → World → List ℕ → Type 0
AnswersSweep old now new text = (answer : Result ℕ BookFault) × Sweeps old now new answer × (text ≡ sweep_line answer)

-- `now N` sets the moment and has no answer; the others are answered at the moment that was set last
abbrev pub Takes : RequestLine → State → State → List ℕ → Type 0
Takes (Now n) old new text = (new.now ≡ n) × (new.queue ≡ old.queue) × (text ≡ [])
Takes (Ipp digits) old new text = (new.now ≡ old.now) × AnswersDigits old.queue old.now digits.now new.queue text
Takes (Dev line) old new text = (new.now ≡ old.now) × AnswersLine old.queue old.now (line.now ++ 10 ∷ []) new.queue text
Takes (Grant row) old new text = (new.now ≡ old.now) × AnswersFile old.queue old.now (file_of row.now) new.queue text
Takes Expire old new text = (new.now ≡ old.now) × AnswersSweep old.queue old.now new.queue text

-- the digits stand for no message of at most 16,777,216 bytes
abbrev pub IsNoMessage : List ℕ → Type 0
IsNoMessage digits = IsErr (decode_of digits) ⊎ IsOkAnd (decode_of digits) (λ message. 16777216 < length message)

-- a message alone is refused, of a line that was cut or for itself
abbrev pub IsRefused : Bool → RequestLine → Type 0
IsRefused is_cut (Now n) = ⊥
IsRefused is_cut (Dev line) = ⊥
IsRefused is_cut (Grant row) = ⊥
IsRefused is_cut Expire = ⊥
IsRefused is_cut (Ipp digits) = (is_cut ≡ true) ⊎ IsNoMessage digits.now
