-- The bytes that are read of a file.
use Rattle.std.specs.Prelude.{◌≡◌, ℕ, List, Option, Some, None, option_map, take, IfSome}

-- a front of the file's bytes
pub known_front : (items : List ℕ) (most : ℕ) (known : Option (List ℕ)) → IfSome (option_map (take most) known) (λ xs. items ≡ xs) → IfSome known (λ file. items ≡ take most file)
known_front items most None read = read
known_front items most (Some file) read = read
