-- The marks of one walk over what names reach: each node that was met has the number of the first name from which it was,
-- and two numbers that meet at a node are in one class.
use Rattle.std.specs.Prelude.{◌≡◌, ℕ, suc, ◌<◌, nat_eq, if◌then◌else◌, List, [], ◌∷◌, ◌++◌, map, length, get_or, slice_get, Some}
use Rattle.std.specs.List.{list_any, position_or_len}
use Rattle.std.specs.declared.alloc.Global.{Global}
use Rattle.std.specs.declared.rc.RcStr.{RcStr}
use Rattle.kishu_meaning.specs.declared.key.Key as rust_key
use Rattle.kishu_meaning.specs.declared.value.Value as rust_value
use Rattle.kishu_meaning.specs.values.Values.{Value, Names, find}
use Rattle.kishu_heap.specs.Cells.{entries_of, attributes_of}
use Rattle.kishu_objects.specs.Picture.{numbers, with_value}
use Rattle.kishu_objects_laws.specs.WalkLaws.{noted}
use Rattle.kishu_groups.specs.Classes.{each_alone, joined}
use Rattle.kishu_groups.specs.declared.marks.Marks as rust

-- the nodes in the order of first meeting, the number that each has, and of each number the first of its class
pub record Marks : Type 0 where
  pub found : List ℕ
  pub labels : List ℕ
  pub firsts : List ℕ

abbrev pub marks_of : rust.Marks → Marks
marks_of m = record { found = m.found.keys; labels = m.labels.items; firsts = m.classes }

-- before the walk
abbrev pub unmarked : ℕ → Marks
unmarked n = record { found = []; labels = []; firsts = each_alone n }

-- the number that a node has
abbrev pub label_of : Marks → ℕ → ℕ
label_of m i = get_or m.labels (position_or_len (nat_eq i) m.found) 0

-- A node is met from the name of number l.
abbrev pub note : ℕ → ℕ → Marks → Marks
note l i m = record {
  found = noted m.found i;
  labels = if list_any (nat_eq i) m.found then m.labels else m.labels ++ l ∷ [];
  firsts = if list_any (nat_eq i) m.found then joined (label_of m i) l m.firsts else m.firsts;
}

abbrev pub note_all : ℕ → List ℕ → Marks → Marks
note_all l [] m = m
note_all l (i ∷ is) m = note_all l is (note l i m)

-- the node that the value of a name is, if it is one
abbrev pub nodes_under : List ℕ → Names → List ℕ
nodes_under x ns = numbers (map (λ (b : List ℕ × Value). b.1) (with_value x (find x ns)))

-- the nodes that the values of names are, from the number j on
abbrev pub note_names : Names → ℕ → List (List ℕ) → Marks → Marks
note_names ns j [] m = m
note_names ns j (x ∷ xs) m = note_names ns (suc j) xs (note_all j (nodes_under x ns) m)

-- Each node has a number, which is one of those that are in classes.
pub record AreMarks (m : Marks) : Type 0 where
  pub sized : length m.labels ≡ length m.found
  pub labelled : (p l : ℕ) → slice_get m.labels p ≡ Some l → l < length m.firsts

-- The later ones are marks, of as many numbers.
pub record Kept (m n : Marks) : Type 0 where
  pub marks : AreMarks n
  pub many : length n.firsts ≡ length m.firsts

-- ---- the marks of the code

-- These nodes were noted from the name of number l.
abbrev pub Notes : ℕ → List ℕ → (old new : rust.Marks) → Type 0
Notes l is old new = marks_of new ≡ note_all l is (marks_of old)

-- The nodes that the values of these names are were noted, each from its name.
abbrev pub NotesNames : Names → List (List ℕ) → (old new : rust.Marks) → Type 0
NotesNames ns xs old new = marks_of new ≡ note_names ns 0 xs (marks_of old)

-- The marks stayed marks.
abbrev pub Keeps : (old new : rust.Marks) → Type 0
Keeps old new = Kept (marks_of old) (marks_of new)

-- the values of a dict's entries
abbrev pub entry_values : List (rust_key.Key × rust_value.Value) → List Value
entry_values es = map (λ e. e.1) (entries_of es)

-- the values of an object's attributes
abbrev pub attr_values : List (RcStr Global × rust_value.Value) → List Value
attr_values as' = map (λ a. a.1) (attributes_of as')
