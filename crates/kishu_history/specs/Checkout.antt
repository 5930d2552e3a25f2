-- What a checkout keeps, loads and drops, by the versions in two tables, and the state that it leaves.
use Rattle.std.specs.Prelude.{ℕ, ◌==◌, Bool, not, ◌&&◌, List, [], ◌∷◌, filter, flat_map}
use Rattle.std.specs.List.{list_any}
use Rattle.kishu_meaning.specs.moments.Accesses.{unbind}
use Rattle.kishu_meaning.specs.values.Values.{Names, State}
use Rattle.kishu_objects.specs.Loading.{with_picture}
use Rattle.kishu_history.specs.Changed.{Group, is_group}
use Rattle.kishu_history.specs.Tables.{Row, Table, groups_in}

-- whether two rows have one group and one version
abbrev pub agree : Row → Row → Bool
agree r q = is_group r.group q.group && r.version == q.version

abbrev pub is_row_of : Table → Row → Bool
is_row_of t r = list_any (agree r) t

-- From the current table to the target's: the target's rows that both have, its other rows, and the current one's other groups.
abbrev pub to_keep : Table → Table → Table
to_keep t u = filter (λ r. is_row_of t r) u

abbrev pub to_load : Table → Table → Table
to_load t u = filter (λ r. not (is_row_of t r)) u

abbrev pub to_drop : Table → Table → List Group
to_drop t u = groups_in (filter (λ r. not (is_row_of u r)) t)

-- ---- carried out

abbrev pub unbind_all : List (List ℕ) → Names → Names
unbind_all [] ns = ns
unbind_all (x ∷ xs) ns = unbind_all xs (unbind x ns)

abbrev pub without_names : List (List ℕ) → State → State
without_names xs s = record { names = unbind_all xs s.names; nodes = s.nodes }

-- with these pictures loaded, one after another
abbrev pub with_pictures : List State → State → State
with_pictures [] s = s
with_pictures (p ∷ ps) s = with_pictures ps (with_picture s p)

-- The names of these groups are unbound, and then these pictures loaded; no node is taken out.
abbrev pub carried : List Group → List State → State → State
carried gs ps s = with_pictures ps (without_names (flat_map (λ g. g) gs) s)
