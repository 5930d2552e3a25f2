-- What the code's views and walks stand for, when a walk is sound, and of how many new nodes an item is made.
use Rattle.std.specs.Prelude.{ℕ, ◌==◌, ◌≤◌, if◌then◌else◌, Bool, true, IsTrue, length, map, slice_get, Option}
use Rattle.kishu_meaning.specs.items.Walks.{View, keys, values, items, Walk, along_list, along_dict, along_tuple, along_text, along_range, entries_now, size_changed}
use Rattle.kishu_meaning.specs.moments.Moment.{M, ◌>>=◌, give}
use Rattle.kishu_meaning.specs.values.Keys.{Key, key_of}
use Rattle.kishu_meaning.specs.values.Sound.{is_sound, are_sound}
use Rattle.kishu_meaning.specs.values.Values.{Value, node, value_of}
use Rattle.kishu_meaning.specs.declared.key.Key as rust_key
use Rattle.kishu_meaning.specs.declared.value.Value as rust_value
use Rattle.kishu_items.specs.Gathering.{value_more, values_more}
use Rattle.kishu_items.specs.declared.walks.View as rust_view
use Rattle.kishu_items.specs.declared.walks.View.TheVariants as views
use Rattle.kishu_items.specs.declared.walks.Walk as rust_walk
use Rattle.kishu_items.specs.declared.walks.Walk.TheVariants as walks

abbrev pub view_of : rust_view.View → View
view_of views.Keys = keys
view_of views.Values = values
view_of views.Items = items

abbrev pub walk_of : rust_walk.Walk → Walk
walk_of (walks.List id) = along_list id.0
walk_of (walks.Dict id size view) = along_dict id.0 size (view_of view)
walk_of (walks.Tuple vs) = along_tuple (map value_of vs.items)
walk_of (walks.Text cs) = along_text cs.items
walk_of (walks.Range start stop step) = along_range start stop step

abbrev pub entry_of : rust_key.Key × rust_value.Value → Key × Value
entry_of e = (key_of e.0, value_of e.1)

-- What is walked lies among n nodes.
abbrev pub is_sound_walk : ℕ → Walk → Bool
is_sound_walk n (along_list i) = is_sound n (node i)
is_sound_walk n (along_dict i size found) = is_sound n (node i)
is_sound_walk n (along_tuple vs) = are_sound n vs
is_sound_walk n (along_text cs) = true
is_sound_walk n (along_range start stop step) = true

pub walk_more : (n m : ℕ) → n ≤ m → (walk : Walk) → IsTrue (is_sound_walk n walk) → IsTrue (is_sound_walk m walk)
walk_more n m p (along_list i) h = value_more n m p (node i) h
walk_more n m p (along_dict i size found) h = value_more n m p (node i) h
walk_more n m p (along_tuple vs) h = values_more n m p vs h
walk_more n m p (along_text cs) h = h
walk_more n m p (along_range start stop step) h = h

-- the most new nodes that are made to show an entry, and for one item of a walk
abbrev pub nodes_seen : View → ℕ
nodes_seen keys = 1
nodes_seen values = 0
nodes_seen items = 2

abbrev pub nodes_for : Walk → ℕ
nodes_for (along_list i) = 0
nodes_for (along_dict i size view) = nodes_seen view
nodes_for (along_tuple vs) = 0
nodes_for (along_text cs) = 0
nodes_for (along_range start stop step) = 0

-- the entry of a dict for this turn, where there is one more
abbrev pub entry_for : ℕ → ℕ → ℕ → M (Option (Key × Value))
entry_for n start k = entries_now n >>= λ es. if length es == start then give (slice_get es k) else size_changed
