-- What a printer is set up with.
use Rattle.std.specs.Prelude.{ℕ, ℤ, ◌≤◌, ◌≡◌, ◌==◌, ◌&&◌, ◌||◌, List, length, Bool, true, nat_le, not, bytes_eq}
use Rattle.std.specs.List.{list_all}
use Rattle.std.specs.Str.{IsUtf8, byte}
use Rattle.queue_types.specs.Operators.{AreOperators}
use Rattle.queue_types.specs.Uri.{path_of, printer_path}

pub record SettingValues : Type 0 where
  -- the printer's URI
  pub uri : List ℕ
  pub name : List ℕ
  -- the pages set aside for one copy of a job that does not say its impressions
  pub estimate : ℕ
  -- the second of the clock, since 1970, that is moment 1
  pub epoch : ℤ
  -- the seconds for which a held or open job is kept; 0 keeps it without end
  pub keep : ℕ
  -- the callers who see every job and may cancel it, in the order of their bytes
  pub operators : List (List ℕ)

-- a printable character of ASCII that begins neither a query nor a fragment
abbrev pub is_uri_byte : ℕ → Bool
is_uri_byte b = nat_le 32 b && nat_le b 126 && not (b == byte "?" || b == byte "#")

pub record AreSettings (s : SettingValues) : Type 0 where
  pub uri_some : 1 ≤ length s.uri
  pub uri_fits : length s.uri ≤ 255
  pub uri_bytes : list_all is_uri_byte s.uri ≡ true
  pub uri_path : bytes_eq (path_of s.uri) printer_path ≡ true
  pub name_some : 1 ≤ length s.name
  pub name_fits : length s.name ≤ 127
  pub name_utf8 : IsUtf8 s.name
  pub estimate_fits : s.estimate ≤ 100000
  pub keep_fits : s.keep ≤ 2147483647
  pub operators_fit : AreOperators s.operators
