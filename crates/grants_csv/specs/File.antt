-- What an account file says: under a header, rows of a batch, an account and pages. Records are those of RFC 4180
-- as `csv` reads them by default, and a byte order mark at the front is no part of the first.
use Rattle.std.specs.Prelude.{ℕ, ◌+◌, ◌==◌, ◌&&◌, List, [], ◌∷◌, Bool, false, not, nat_le, nat_lt, length, codes, bytes_eq, Option, Some, None, Result, Ok, Err, if◌then◌else◌}
use Rattle.std.specs.List.{list_all}
use Rattle.std.specs.Char.{is_ascii_digit}
use Rattle.std.specs.Str.{is_utf8}
use Rattle.std.specs.Str.Parse.{digits_value}
use Rattle.csv.specs.Reading.{default_config, records, strip_bom}
use Rattle.queue_core.specs.Limits.{is_batch_byte, is_no_control}
use Rattle.queue_types.specs.declared.event.GrantRow.{GrantRow}
use Rattle.grants_csv.specs.Fault.{at_row}
use Rattle.grants_csv.specs.declared.fault.ImportFault.{ImportFault}
use Rattle.grants_csv.specs.declared.fault.ImportCause.TheVariants.{Header, Form, Range}

-- ---- one row

-- 1 to 40 letters, digits, '-', '.' or '_' of ASCII
abbrev pub is_batch : List ℕ → Bool
is_batch t = nat_le 1 (length t) && nat_le (length t) 40 && list_all is_batch_byte t

-- 1 to 255 octets of UTF-8 without control bytes
abbrev pub is_account : List ℕ → Bool
is_account t = nat_le 1 (length t) && nat_le (length t) 255 && is_utf8 t && list_all is_no_control t

abbrev pub has_leading_zero : List ℕ → Bool
has_leading_zero [] = false
has_leading_zero (b ∷ []) = false
has_leading_zero (b ∷ c ∷ rest) = b == 48

-- decimal digits without a leading zero, of any length; `0` is one
abbrev pub is_number : List ℕ → Bool
is_number t = nat_le 1 (length t) && list_all is_ascii_digit t && not (has_leading_zero t)

-- the fields of a row
abbrev pub has_form : List (List ℕ) → Bool
has_form (batch ∷ account ∷ pages ∷ []) = is_batch batch && is_account account && is_number pages
has_form _ = false

-- the number that digits spell, where it is 1 to 1,000,000
abbrev pub pages_in : List ℕ → Option ℕ
pages_in digits = if nat_le 1 (digits_value 10 digits) && nat_le (digits_value 10 digits) 1000000 then Some (digits_value 10 digits) else None

abbrev pub grant_in : ℕ → List ℕ → List ℕ → Option ℕ → Result GrantRow ImportFault
grant_in n batch account None = Err (at_row Range n)
grant_in n batch account (Some pages) = Ok (record { batch = batch; account = account; pages = pages })

-- the grant of row n, or why it is none
abbrev pub row_of : ℕ → List (List ℕ) → Result GrantRow ImportFault
row_of n (batch ∷ account ∷ pages ∷ []) =
    if has_form (batch ∷ account ∷ pages ∷ []) then grant_in n batch account (pages_in pages) else Err (at_row Form n)
row_of n _ = Err (at_row Form n)

-- ---- all rows

abbrev pub add_row : Result GrantRow ImportFault → Result (List GrantRow) ImportFault → Result (List GrantRow) ImportFault
add_row (Err f) rest = Err f
add_row (Ok g) (Err f) = Err f
add_row (Ok g) (Ok gs) = Ok (g ∷ gs)

-- the grants of the rows from number n on, or why the first bad row is none
unfoldable pub rows_from : ℕ → List (List (List ℕ)) → Result (List GrantRow) ImportFault
rows_from n [] = Ok []
rows_from n (r ∷ rest) = add_row (row_of n r) (rows_from (n + 1) rest)

-- the record `batch,account,pages`
abbrev pub is_header : List (List ℕ) → Bool
is_header (batch ∷ account ∷ pages ∷ []) = bytes_eq batch (codes "batch") && bytes_eq account (codes "account") && bytes_eq pages (codes "pages")
is_header _ = false

abbrev pub rows_under : List (List (List ℕ)) → Result (List GrantRow) ImportFault
rows_under [] = Err (at_row Header 0)
rows_under (first ∷ rest) = if is_header first then rows_from 1 rest else Err (at_row Header 0)

-- the grants of a file, or why it has none
abbrev pub rows_of : List ℕ → Result (List GrantRow) ImportFault
rows_of bytes = if nat_lt 16777216 (length bytes) then Err (at_row Range 0) else rows_under (records default_config (strip_bom bytes))
