-- The names that a file is written under before it takes its place.
use Rattle.std.specs.Prelude.{ℕ, List, ◌++◌, Option, codes, decimal, option_map}
use Rattle.std.specs.Path.{path_file_name, path_with_file_name}

-- beside a file: hidden in its folder, and with a number
abbrev pub beside : List ℕ → ℕ → Option (List ℕ)
beside name number = option_map (λ last. path_with_file_name name (codes "." ++ (last ++ (codes ".ttp-" ++ decimal number)))) (path_file_name name)
