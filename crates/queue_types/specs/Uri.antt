-- The path of a URI (RFC 3986, section 3.3). A query or a fragment before the path, which ends an authority (section 3.2), is not looked for.
use Rattle.std.specs.Prelude.{List, [], ◌∷◌, ℕ, ◌==◌, ◌||◌, if◌then◌else◌, codes, drop, nat_eq}
use Rattle.std.specs.List.{starts_with, before_first, position_or_len}
use Rattle.std.specs.Str.{byte}

-- what follows the first "://"
abbrev pub behind_mark : List ℕ → List ℕ
behind_mark [] = []
behind_mark (b ∷ bs) = if starts_with nat_eq (b ∷ bs) (codes "://") then drop 2 bs else behind_mark bs

-- from the first slash behind "://", up to the query or the fragment
abbrev pub path_of : List ℕ → List ℕ
path_of uri = let rest = behind_mark uri in before_first (λ b. b == byte "?" || b == byte "#") (drop (position_or_len (λ b. b == byte "/") rest) rest)

-- the path under which the printer is found
abbrev pub printer_path : List ℕ
printer_path = codes "/ipp/print"
