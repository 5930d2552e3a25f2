-- Paths go by parents: a graph with two branches, of commits without cells.
use Rattle.std.specs.Prelude.{◌≡◌, ℕ, [], ◌∷◌, List, None, refl}
use Rattle.kishu_language.specs.declared.profile.Profile.TheVariants.{One}
use Rattle.kishu_meaning.specs.values.Values.{empty}
use Rattle.kishu_store.specs.Graph.{Commit, Graph}
use Rattle.kishu_history.specs.Versions.{Stop}
use Rattle.kishu_history.specs.Tables.{Row, Change, no_change, rows_from}
use Rattle.kishu_history.specs.Paths.{stops, table_at, with_change}

abbrev child_of : ℕ → Commit
child_of parent = record { parent = parent; profile = One; cells = [] }

-- the children of the root are 1 and 2, and 3 is one of 1
abbrev branches : Graph
branches = record { commits = child_of 1 ∷ child_of 0 ∷ child_of 0 ∷ []; branches = []; head = record { commit = 3; branch = None }; records = 3 }

abbrev stop : ℕ → Stop
stop c = record { commit = c; state = empty }

to_third : stops branches 3 ≡ stop 3 ∷ stop 1 ∷ []
to_third = refl

to_second : stops branches 2 ≡ stop 2 ∷ []
to_second = refl

to_root : stops branches 0 ≡ []
to_root = refl

-- ---- and so do tables

abbrev group : ℕ → List (List ℕ)
group letter = (letter ∷ []) ∷ []

-- each commit stores one group of its own
abbrev of : ℕ → Change
of = with_change (with_change (with_change (λ c. no_change) 1 (record { dropped = []; stored = rows_from 1 20 ((group 97, 5) ∷ []) })) 2 (record { dropped = []; stored = rows_from 2 40 ((group 98, 5) ∷ []) })) 3 (record { dropped = []; stored = rows_from 3 60 ((group 99, 5) ∷ []) })

abbrev row : ℕ → (commit place : ℕ) → Row
row letter commit place = record { group = group letter; version = commit; place = place; len = 5 }

table_third : table_at branches of 3 ≡ row 97 1 20 ∷ row 99 3 60 ∷ []
table_third = refl

table_second : table_at branches of 2 ≡ row 98 2 40 ∷ []
table_second = refl

table_root : table_at branches of 0 ≡ []
table_root = refl
