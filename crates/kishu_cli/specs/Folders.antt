-- The folder in which the name of a file stands.
use Rattle.std.specs.Prelude.{ℕ, List, [], ◌∷◌, Option, Some, None}
use Rattle.std.specs.Path.{path_parent}

-- where a path names no folder, it is the working folder, `.`
abbrev pub or_working : Option (List ℕ) → List ℕ
or_working None = 46 ∷ []
or_working (Some []) = 46 ∷ []
or_working (Some (c ∷ cs)) = c ∷ cs

abbrev pub folder_of : List ℕ → List ℕ
folder_of path = or_working (path_parent path)
