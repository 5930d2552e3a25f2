-- The names that are unbound, and the record of accesses (Python Language Reference 3, "Naming and binding").
use Rattle.std.specs.Prelude.{ℕ, List, [], ◌∷◌, if◌then◌else◌}
use Rattle.std.specs.Cmp.Lexicographic.{slice_cmp}
use Rattle.std.specs.Ordering.{nat_cmp, match_ordering}
use Rattle.std.specs.Str.{bytes_eq}
use Rattle.kishu_meaning.specs.values.Values.{Names}

-- the names, with this one not bound
abbrev pub unbind : List ℕ → Names → Names
unbind name [] = []
unbind name (n ∷ ns) = if bytes_eq name n.0 then ns else n ∷ unbind name ns

-- the names that were accessed, in byte order and each once, with this one among them
abbrev pub with_access : List ℕ → List (List ℕ) → List (List ℕ)
with_access name [] = name ∷ []
with_access name (x ∷ xs) = match_ordering (slice_cmp nat_cmp name x) (name ∷ x ∷ xs) (x ∷ xs) (x ∷ with_access name xs)

-- with each of these
abbrev pub with_accesses : List (List ℕ) → List (List ℕ) → List (List ℕ)
with_accesses [] xs = xs
with_accesses (name ∷ names) xs = with_accesses names (with_access name xs)
