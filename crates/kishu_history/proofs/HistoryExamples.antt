-- A history of three commits: what each stores and drops, its tables, and what a checkout does.
use Rattle.std.specs.Prelude.{◌≡◌, ℕ, pos, [], ◌∷◌, codes, List, refl}
use Rattle.kishu_meaning.specs.values.Values.{integer, node, list, State}
use Rattle.kishu_objects.specs.Picture.{picture}
use Rattle.kishu_objects.specs.Bytes.{in_four}
use Rattle.kishu_bytes.specs.Numbers.{sixteen}
use Rattle.kishu_objects.specs.Groups.{groups_of}
use Rattle.kishu_history.specs.Changed.{Group}
use Rattle.kishu_history.specs.Versions.{Stop, version, stored, dropped, kept, loaded, left}
use Rattle.kishu_history.specs.Tables.{Row, Table, Change, bytes_in, table_of, rows_from}
use Rattle.kishu_history.specs.Touched.{touched, dropped_among, stored_among}
use Rattle.kishu_history.specs.Checkout.{to_keep, to_load, to_drop, carried}
use Rattle.kishu_objects.specs.Sizes.{size}

abbrev x : List ℕ
x = codes "x"

abbrev y : List ℕ
y = codes "y"

abbrev z : List ℕ
z = codes "z"

-- x = [1]; y = [x]; z = [2]
abbrev first : State
first = record { names = (x, node 0) ∷ (y, node 1) ∷ (z, node 2) ∷ []; nodes = list (integer (pos 1) ∷ []) ∷ list (node 0 ∷ []) ∷ list (integer (pos 2) ∷ []) ∷ [] }

-- then y = 0
abbrev second : State
second = record { names = (x, node 0) ∷ (y, integer (pos 0)) ∷ (z, node 2) ∷ []; nodes = list (integer (pos 1) ∷ []) ∷ list (node 0 ∷ []) ∷ list (integer (pos 2) ∷ []) ∷ [] }

-- and then y = [x], as it was
abbrev third : State
third = record { names = (x, node 0) ∷ (y, node 3) ∷ (z, node 2) ∷ []; nodes = list (integer (pos 1) ∷ []) ∷ list (node 0 ∷ []) ∷ list (integer (pos 2) ∷ []) ∷ list (node 0 ∷ []) ∷ [] }

abbrev at_first : List Stop
at_first = record { commit = 1; state = first } ∷ []

abbrev at_second : List Stop
at_second = record { commit = 2; state = second } ∷ at_first

abbrev at_third : List Stop
at_third = record { commit = 3; state = third } ∷ at_second

-- ---- what each commit stores and drops

stored_first : stored at_first ≡ (x ∷ y ∷ []) ∷ (z ∷ []) ∷ []
stored_first = refl

dropped_first : dropped at_first ≡ []
dropped_first = refl

stored_second : stored at_second ≡ (x ∷ []) ∷ (y ∷ []) ∷ []
stored_second = refl

dropped_second : dropped at_second ≡ (x ∷ y ∷ []) ∷ []
dropped_second = refl

-- the group has the picture of the first commit again, but it didn't stand in between: it is stored anew
stored_third : stored at_third ≡ (x ∷ y ∷ []) ∷ []
stored_third = refl

dropped_third : dropped at_third ≡ (x ∷ []) ∷ (y ∷ []) ∷ []
dropped_third = refl

same_picture : picture third (x ∷ y ∷ []) ≡ picture first (x ∷ y ∷ [])
same_picture = refl

version_x : version at_second (x ∷ []) ≡ 2
version_x = refl

version_z : version at_third (z ∷ []) ≡ 1
version_z = refl

version_again : version at_third (x ∷ y ∷ []) ≡ 3
version_again = refl

-- a list that grows in place: its group is the same, and its picture isn't
abbrev longer : State
longer = record { names = third.names; nodes = list (integer (pos 1) ∷ []) ∷ list (node 0 ∷ []) ∷ list (integer (pos 2) ∷ integer (pos 3) ∷ []) ∷ list (node 0 ∷ []) ∷ [] }

abbrev at_fourth : List Stop
at_fourth = record { commit = 4; state = longer } ∷ at_third

stored_fourth : stored at_fourth ≡ (z ∷ []) ∷ []
stored_fourth = refl

dropped_fourth : dropped at_fourth ≡ (z ∷ []) ∷ []
dropped_fourth = refl

-- ---- told among the touched names: the second cell accessed y alone

touched_second : touched (groups_of first) (y ∷ []) second ≡ x ∷ y ∷ []
touched_second = refl

told_drops : dropped_among (groups_of first) (picture first) (y ∷ []) second ≡ (x ∷ y ∷ []) ∷ []
told_drops = refl

told_stores : stored_among (groups_of first) (picture first) (y ∷ []) second ≡ (x ∷ []) ∷ (y ∷ []) ∷ []
told_stores = refl

-- a name that is unbound: its group is dropped, though it is touched no longer
abbrev without_z : State
without_z = record { names = (x, node 0) ∷ (y, node 1) ∷ []; nodes = first.nodes }

unbound_drops : dropped_among (groups_of first) (picture first) (z ∷ []) without_z ≡ (z ∷ []) ∷ []
unbound_drops = refl

unbound_stores : stored_among (groups_of first) (picture first) (z ∷ []) without_z ≡ []
unbound_stores = refl

-- a name that is bound anew: it was in no group
abbrev with_w : State
with_w = record { names = (codes "w", integer (pos 3)) ∷ first.names; nodes = first.nodes }

bound_drops : dropped_among (groups_of first) (picture first) (codes "w" ∷ []) with_w ≡ []
bound_drops = refl

bound_stores : stored_among (groups_of first) (picture first) (codes "w" ∷ []) with_w ≡ (codes "w" ∷ []) ∷ []
bound_stores = refl

-- the fourth cell accessed z, which grew
grown_drops : dropped_among (groups_of third) (picture third) (z ∷ []) longer ≡ (z ∷ []) ∷ []
grown_drops = refl

grown_stores : stored_among (groups_of third) (picture third) (z ∷ []) longer ≡ (z ∷ []) ∷ []
grown_stores = refl

-- a name that is read alone is touched, and nothing changes
read_drops : dropped_among (groups_of first) (picture first) (z ∷ []) first ≡ []
read_drops = refl

read_stores : stored_among (groups_of first) (picture first) (z ∷ []) first ≡ []
read_stores = refl

-- ---- tables

abbrev row : Group → (version place len : ℕ) → Row
row g v p l = record { group = g; version = v; place = p; len = l }

abbrev one : Change
one = record { dropped = []; stored = rows_from 1 100 ((x ∷ y ∷ [], 54) ∷ (z ∷ [], 37) ∷ []) }

abbrev two : Change
two = record { dropped = (x ∷ y ∷ []) ∷ []; stored = rows_from 2 300 ((x ∷ [], 37) ∷ (y ∷ [], 27) ∷ []) }

abbrev table_first : Table
table_first = table_of (one ∷ [])

abbrev table_second : Table
table_second = table_of (two ∷ one ∷ [])

rows_first : table_first ≡ row (x ∷ y ∷ []) 1 100 54 ∷ row (z ∷ []) 1 154 37 ∷ []
rows_first = refl

rows_second : table_second ≡ row (x ∷ []) 2 300 37 ∷ row (y ∷ []) 2 337 27 ∷ row (z ∷ []) 1 154 37 ∷ []
rows_second = refl

-- the third commit's row is another than the first's, though it has the same group
abbrev three : Change
three = record { dropped = (x ∷ []) ∷ (y ∷ []) ∷ []; stored = rows_from 3 400 ((x ∷ y ∷ [], 54) ∷ []) }

abbrev table_third : Table
table_third = table_of (three ∷ two ∷ one ∷ [])

rows_third : table_third ≡ row (x ∷ y ∷ []) 3 400 54 ∷ row (z ∷ []) 1 154 37 ∷ []
rows_third = refl

-- a table takes what its state takes
takes_first : size first ≡ bytes_in table_first
unfolding in_four sixteen
takes_first = refl

takes_second : size second ≡ bytes_in table_second
unfolding in_four sixteen
takes_second = refl

-- ---- from the second commit back to the first

kept_z : kept at_second at_first ≡ (z ∷ []) ∷ []
kept_z = refl

loaded_xy : loaded at_second at_first ≡ (x ∷ y ∷ []) ∷ []
loaded_xy = refl

left_x_y : left at_second at_first ≡ (x ∷ []) ∷ (y ∷ []) ∷ []
left_x_y = refl

keep_first : to_keep table_second table_first ≡ row (z ∷ []) 1 154 37 ∷ []
keep_first = refl

load_first : to_load table_second table_first ≡ row (x ∷ y ∷ []) 1 100 54 ∷ []
load_first = refl

drop_first : to_drop table_second table_first ≡ (x ∷ []) ∷ (y ∷ []) ∷ []
drop_first = refl

-- z stays, and x and y stand in new nodes, x in y as before
carried_first : carried ((x ∷ []) ∷ (y ∷ []) ∷ []) (picture first (x ∷ y ∷ []) ∷ []) second ≡ record {
  names = (x, node 3) ∷ (y, node 4) ∷ (z, node 2) ∷ [];
  nodes = list (integer (pos 1) ∷ []) ∷ list (node 0 ∷ []) ∷ list (integer (pos 2) ∷ []) ∷ list (integer (pos 1) ∷ []) ∷ list (node 3 ∷ []) ∷ [];
}
carried_first = refl

-- from the third commit to the first the group of x and y is loaded though its picture is the same: its versions differ
loaded_again : loaded at_third at_first ≡ (x ∷ y ∷ []) ∷ []
loaded_again = refl

load_again : to_load table_third table_first ≡ row (x ∷ y ∷ []) 1 100 54 ∷ []
load_again = refl

drop_again : to_drop table_third table_first ≡ (x ∷ y ∷ []) ∷ []
drop_again = refl

-- to the root nothing is loaded, and no name is left; the nodes stay
drop_all : to_drop table_first [] ≡ (x ∷ y ∷ []) ∷ (z ∷ []) ∷ []
drop_all = refl

carried_root : carried ((x ∷ y ∷ []) ∷ (z ∷ []) ∷ []) [] first ≡ record { names = []; nodes = first.nodes }
carried_root = refl
