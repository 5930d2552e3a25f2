-- Worked rows, computed on the definitions.
use Rattle.std.specs.Prelude.{◌≡◌, pos, negsuc, true, false, [], ◌∷◌, length, codes, ℕ, Some, None, refl}
use Rattle.std.specs.Char.{encode_utf8}
use Rattle.std.proofs.Common.{arith}
use Rattle.kishu_language.specs.declared.profile.Profile.TheVariants.{One}
use Rattle.kishu_meaning.specs.values.Keys as k
use Rattle.kishu_meaning.specs.values.Values.{none, bool, integer, text, range, builtin, class, node, list, tuple, dict, object, function, exception, State, empty}
use Rattle.kishu_bytes.specs.Numbers.{sixteen}
use Rattle.kishu_objects.specs.Shape.{reached}
use Rattle.kishu_objects.specs.Same.{SameOn}
use Rattle.kishu_objects.specs.Picture.{order, picture}
use Rattle.kishu_objects.specs.Reading.{IsInOrder}
use Rattle.kishu_objects.specs.Loading.{with_picture}
use Rattle.kishu_objects.specs.Groups.{groups, groups_of}
use Rattle.kishu_objects.specs.Bytes.{in_four, picture_bytes}

-- ---- two names of one list

-- after a = [1]; b = a, with a node that nothing reaches, and two that hold each other
abbrev together : State
together = record {
  names = (codes "a", node 2) ∷ (codes "b", node 2) ∷ (codes "c", integer (pos 7)) ∷ (codes "d", node 1) ∷ [];
  nodes = list [] ∷ tuple (node 2 ∷ node 3 ∷ node 2 ∷ []) ∷ list (integer (pos 1) ∷ []) ∷ list (node 3 ∷ node 1 ∷ []) ∷ [];
}

order_of_two : order together (codes "a" ∷ codes "b" ∷ []) ≡ 2 ∷ []
order_of_two = refl

order_of_one : order together (codes "d" ∷ []) ≡ 1 ∷ 2 ∷ 3 ∷ []
order_of_one = refl

-- A name that is unbound is left out.
picture_of_two : picture together (codes "a" ∷ codes "b" ∷ codes "e" ∷ []) ≡ record {
  names = (codes "a", node 0) ∷ (codes "b", node 0) ∷ [];
  nodes = list (integer (pos 1) ∷ []) ∷ [];
}
picture_of_two = refl

-- The last step stands first: from d to its child 1, which is a list, and from there to its child 0.
path_of_two_steps : reached together (codes "d") (0 ∷ 1 ∷ []) ≡ Some (node 3)
path_of_two_steps = refl

path_too_far : reached together (codes "d") (3 ∷ []) ≡ None
path_too_far = refl

bytes_of_two : picture_bytes together (codes "a" ∷ codes "b" ∷ []) ≡ 0 ∷ 0 ∷ 0 ∷ 2 ∷ 1 ∷ 0x61 ∷ 8 ∷ 0 ∷ 0 ∷ 0 ∷ 0 ∷ 1 ∷ 0x62 ∷ 8 ∷ 0 ∷ 0 ∷ 0 ∷ 0 ∷ 0 ∷ 0 ∷ 0 ∷ 1 ∷ 1 ∷ 0 ∷ 0 ∷ 0 ∷ 1 ∷ 3 ∷ 0 ∷ 0 ∷ 0 ∷ 0 ∷ 0 ∷ 0 ∷ 0 ∷ 0 ∷ 0 ∷ 0 ∷ 0 ∷ 0 ∷ 0 ∷ 0 ∷ 0 ∷ 1 ∷ []
unfolding in_four sixteen
bytes_of_two = refl

length_of_two : length (picture_bytes together (codes "a" ∷ codes "b" ∷ [])) ≡ 44
unfolding in_four sixteen
length_of_two = refl

groups_of_four : groups_of together ≡ (codes "a" ∷ codes "b" ∷ codes "d" ∷ []) ∷ (codes "c" ∷ []) ∷ []
groups_of_four = refl

groups_of_some : groups together (codes "a" ∷ codes "c" ∷ codes "e" ∷ []) ≡ (codes "a" ∷ []) ∷ (codes "c" ∷ []) ∷ (codes "e" ∷ []) ∷ []
groups_of_some = refl

in_order : IsInOrder (picture together (codes "a" ∷ codes "d" ∷ []))
in_order = refl

-- What is loaded into the empty state is the picture itself.
loaded : with_picture empty (picture together (codes "a" ∷ codes "b" ∷ [])) ≡ picture together (codes "a" ∷ codes "b" ∷ [])
loaded = refl

-- Elsewhere its nodes come behind those that are there, and its names are bound anew.
loaded_behind : with_picture together (picture together (codes "b" ∷ codes "d" ∷ [])) ≡ record {
  names = (codes "a", node 2) ∷ (codes "b", node 4) ∷ (codes "c", integer (pos 7)) ∷ (codes "d", node 5) ∷ [];
  nodes =
      list [] ∷ tuple (node 2 ∷ node 3 ∷ node 2 ∷ []) ∷ list (integer (pos 1) ∷ []) ∷ list (node 3 ∷ node 1 ∷ []) ∷ list (integer (pos 1) ∷ []) ∷ tuple (node 4 ∷ node 6 ∷ node 4 ∷ [])
      ∷ list (node 6 ∷ node 5 ∷ []) ∷ [];
}
loaded_behind = refl

-- ---- two names of two lists

-- after a = [1]; b = [1]
abbrev apart : State
apart = record { names = (codes "a", node 0) ∷ (codes "b", node 1) ∷ []; nodes = list (integer (pos 1) ∷ []) ∷ list (integer (pos 1) ∷ []) ∷ [] }

picture_of_lists : picture apart (codes "a" ∷ codes "b" ∷ []) ≡ apart
picture_of_lists = refl

-- One list under two names is not the same as two lists that are equal.
not_the_same : SameOn together apart (codes "a" ∷ codes "b" ∷ []) → ⊥
not_the_same h = two_nodes (h.shared_there (codes "a") [] (codes "b") [] (0, omega arith, refl) (1, omega arith, refl) (2, refl, refl))
  where
    two_nodes : (i : ℕ) × (Some (node 0) ≡ Some (node i)) × (Some (node 1) ≡ Some (node i)) → ⊥
    two_nodes (i, e, f) = cc

-- ---- a change inside what one name reaches

-- x holds the list that y is, and z is another. Afterwards x is empty and y's list holds z's: the names have their values, and x reaches nothing that the others do, but y and z are linked.
abbrev before : State
before = record { names = (codes "x", node 0) ∷ (codes "y", node 1) ∷ (codes "z", node 2) ∷ []; nodes = list (node 1 ∷ []) ∷ list [] ∷ list [] ∷ [] }

abbrev after : State
after = record { names = (codes "x", node 0) ∷ (codes "y", node 1) ∷ (codes "z", node 2) ∷ []; nodes = list [] ∷ list (node 2 ∷ []) ∷ list [] ∷ [] }

groups_before : groups_of before ≡ (codes "x" ∷ codes "y" ∷ []) ∷ (codes "z" ∷ []) ∷ []
groups_before = refl

groups_after : groups_of after ≡ (codes "x" ∷ []) ∷ (codes "y" ∷ codes "z" ∷ []) ∷ []
groups_after = refl

-- ---- a ring

-- ten lists, each of which holds the next, and the last the first
ring : State
ring = record {
  names = (codes "a", node 3) ∷ [];
  nodes =
      list (node 1 ∷ []) ∷ list (node 2 ∷ []) ∷ list (node 3 ∷ []) ∷ list (node 4 ∷ []) ∷ list (node 5 ∷ []) ∷ list (node 6 ∷ []) ∷ list (node 7 ∷ []) ∷ list (node 8 ∷ [])
      ∷ list (node 9 ∷ []) ∷ list (node 0 ∷ []) ∷ [];
}

order_of_ring : order ring (codes "a" ∷ []) ≡ 3 ∷ 4 ∷ 5 ∷ 6 ∷ 7 ∷ 8 ∷ 9 ∷ 0 ∷ 1 ∷ 2 ∷ []
unfolding ring
order_of_ring = refl

-- ---- nodes in another order

-- the rows of a picture, the other way round
abbrev turned : State
turned = record { names = (codes "a", node 1) ∷ []; nodes = list [] ∷ list (node 0 ∷ []) ∷ [] }

not_in_order : IsInOrder turned → ⊥
not_in_order e = cc

-- ---- each kind of value, key and node

abbrev kinds : State
kinds = record {
  names = (codes "d", node 4) ∷ (codes "f", node 2) ∷ (codes "t", node 6) ∷ [];
  nodes =
      list []
      ∷ exception 24 (text (codes "no") ∷ [])
      ∷ function One (codes "def g(x=[]): pass") (node 3 ∷ [])
      ∷ list []
      ∷ dict ((k.tuple (k.integer (pos 1) ∷ k.text (233 ∷ []) ∷ []), node 5) ∷ (k.single k.none, bool true) ∷ (k.single (k.text (codes "k")), range (pos 0) (pos 3) (negsuc 0)) ∷ [])
      ∷ object ((codes "left", node 4) ∷ (codes "kind", builtin 6) ∷ [])
      ∷ tuple (node 1 ∷ node 2 ∷ class 5 ∷ integer (negsuc 1) ∷ bool false ∷ none ∷ [])
      ∷ [];
}

order_of_kinds : order kinds (codes "d" ∷ codes "f" ∷ codes "t" ∷ []) ≡ 4 ∷ 2 ∷ 6 ∷ 5 ∷ 3 ∷ 1 ∷ []
order_of_kinds = refl

-- written by another program from the description of the format alone
bytes_of_kinds : picture_bytes kinds (codes "d" ∷ codes "f" ∷ codes "t" ∷ []) ≡ 0 ∷ 0 ∷ 0 ∷ 3 ∷ 1 ∷ 100 ∷ 8 ∷ 0 ∷ 0 ∷ 0 ∷ 0 ∷ 1 ∷ 102 ∷ 8 ∷ 0 ∷ 0 ∷ 0 ∷ 1 ∷ 1 ∷ 116 ∷ 8 ∷ 0 ∷ 0 ∷ 0 ∷ 2 ∷ 0 ∷ 0 ∷ 0 ∷ 6 ∷ 3 ∷ 0 ∷ 0 ∷ 0 ∷ 3 ∷ 9 ∷ 0 ∷ 0 ∷ 0 ∷ 2 ∷ 3 ∷ 0 ∷ 0 ∷ 0 ∷ 0 ∷ 0 ∷ 0 ∷ 0 ∷ 0 ∷ 0 ∷ 0 ∷ 0 ∷ 0 ∷ 0 ∷ 0 ∷ 0 ∷ 1 ∷ 4 ∷ 0 ∷ 0 ∷ 0 ∷ 2 ∷ 195 ∷ 169 ∷ 8 ∷ 0 ∷ 0 ∷ 0 ∷ 3 ∷ 0 ∷ 2 ∷ 4 ∷ 0 ∷ 0 ∷ 0 ∷ 1 ∷ 107 ∷ 5 ∷ 0 ∷ 0 ∷ 0 ∷ 0 ∷ 0 ∷ 0 ∷ 0 ∷ 0 ∷ 0 ∷ 0 ∷ 0 ∷ 0 ∷ 0 ∷ 0 ∷ 0 ∷ 0 ∷ 0 ∷ 0 ∷ 0 ∷ 0 ∷ 0 ∷ 0 ∷ 0 ∷ 0 ∷ 0 ∷ 0 ∷ 0 ∷ 0 ∷ 0 ∷ 0 ∷ 0 ∷ 3 ∷ 255 ∷ 255 ∷ 255 ∷ 255 ∷ 255 ∷ 255 ∷ 255 ∷ 255 ∷ 255 ∷ 255 ∷ 255 ∷ 255 ∷ 255 ∷ 255 ∷ 255 ∷ 255 ∷ 5 ∷ 1 ∷ 0 ∷ 0 ∷ 0 ∷ 17 ∷ 100 ∷ 101 ∷ 102 ∷ 32 ∷ 103 ∷ 40 ∷ 120 ∷ 61 ∷ 91 ∷ 93 ∷ 41 ∷ 58 ∷ 32 ∷ 112 ∷ 97 ∷ 115 ∷ 115 ∷ 0 ∷ 0 ∷ 0 ∷ 1 ∷ 8 ∷ 0 ∷ 0 ∷ 0 ∷ 4 ∷ 2 ∷ 0 ∷ 0 ∷ 0 ∷ 6 ∷ 8 ∷ 0 ∷ 0 ∷ 0 ∷ 5 ∷ 8 ∷ 0 ∷ 0 ∷ 0 ∷ 1 ∷ 7 ∷ 5 ∷ 3 ∷ 255 ∷ 255 ∷ 255 ∷ 255 ∷ 255 ∷ 255 ∷ 255 ∷ 255 ∷ 255 ∷ 255 ∷ 255 ∷ 255 ∷ 255 ∷ 255 ∷ 255 ∷ 254 ∷ 1 ∷ 0 ∷ 4 ∷ 0 ∷ 0 ∷ 0 ∷ 2 ∷ 4 ∷ 108 ∷ 101 ∷ 102 ∷ 116 ∷ 8 ∷ 0 ∷ 0 ∷ 0 ∷ 0 ∷ 4 ∷ 107 ∷ 105 ∷ 110 ∷ 100 ∷ 6 ∷ 6 ∷ 1 ∷ 0 ∷ 0 ∷ 0 ∷ 0 ∷ 6 ∷ 24 ∷ 0 ∷ 0 ∷ 0 ∷ 1 ∷ 4 ∷ 0 ∷ 0 ∷ 0 ∷ 2 ∷ 110 ∷ 111 ∷ []
unfolding in_four sixteen encode_utf8
bytes_of_kinds = refl
