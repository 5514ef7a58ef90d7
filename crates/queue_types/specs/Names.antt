-- The names of users and accounts.
use Rattle.std.specs.Prelude.{ℕ, ◌≤◌, ◌==◌, ◌&&◌, List, length, Bool, IsTrue, not, nat_le}
use Rattle.std.specs.List.{list_all}
use Rattle.std.specs.Str.{IsUtf8}

abbrev pub is_no_control : ℕ → Bool
is_no_control b = nat_le 32 b && not (b == 127)

-- an owner's or account's name: 1 to 255 octets of UTF-8 without control bytes
pub record IsOwner (t : List ℕ) : Type 0 where
  pub some : 1 ≤ length t
  pub fits : length t ≤ 255
  pub utf8 : IsUtf8 t
  pub printable : IsTrue (list_all is_no_control t)
