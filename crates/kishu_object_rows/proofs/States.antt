-- States of which the rows of this crate speak. Made by tools/rows/object_rows.py.
use Rattle.std.specs.Prelude.{pos, negsuc, true, [], ◌∷◌, codes}
use Rattle.kishu_language.specs.declared.profile.Profile.TheVariants.{One}
use Rattle.kishu_meaning.specs.values.Keys as k
use Rattle.kishu_meaning.specs.values.Values.{none, bool, integer, text, range, builtin, class, node, list, tuple, dict, object, function, exception, State}

-- no name is bound, and one node stands
abbrev pub unbound : State
unbound = record { names = []; nodes = ((list []) ∷ []) }

-- values without an identity, at names in byte order
abbrev pub plain : State
plain = record { names = (((codes "Z"), (integer (pos 1))) ∷ ((codes "_"), none) ∷ ((codes "a"), (bool true)) ∷ ((codes "a1"), (text (233 ∷ []))) ∷ ((codes "aa"), (range (pos 0) (pos 3) (negsuc 0))) ∷ ((codes "b"), (builtin 10)) ∷ ((codes "c"), (class 1)) ∷ []); nodes = [] }

-- a = [1]; b = a
abbrev pub shared : State
shared = record { names = (((codes "a"), (node 1)) ∷ ((codes "b"), (node 1)) ∷ []); nodes = ((list []) ∷ (list ((integer (pos 1)) ∷ [])) ∷ []) }

-- a = [1]; b = [1]
abbrev pub apart : State
apart = record { names = (((codes "a"), (node 0)) ∷ ((codes "b"), (node 1)) ∷ []); nodes = ((list ((integer (pos 1)) ∷ [])) ∷ (list ((integer (pos 1)) ∷ [])) ∷ []) }

-- a = []; a.append(a)
abbrev pub itself : State
itself = record { names = (((codes "a"), (node 0)) ∷ []); nodes = ((list ((node 0) ∷ [])) ∷ []) }

-- a and b hold each other
abbrev pub round : State
round = record { names = (((codes "a"), (node 1)) ∷ ((codes "b"), (node 0)) ∷ []); nodes = ((list ((node 1) ∷ [])) ∷ (list ((node 0) ∷ [])) ∷ []) }

-- x and z share nothing, and y holds both
abbrev pub linked : State
linked = record { names = (((codes "x"), (node 2)) ∷ ((codes "y"), (node 1)) ∷ ((codes "z"), (node 0)) ∷ []); nodes = ((list ((integer (pos 2)) ∷ [])) ∷ (list ((node 2) ∷ (node 0) ∷ [])) ∷ (list ((integer (pos 1)) ∷ [])) ∷ []) }

-- as `linked`, with y bound to a number
abbrev pub parted : State
parted = record { names = (((codes "x"), (node 1)) ∷ ((codes "y"), (integer (pos 0))) ∷ ((codes "z"), (node 2)) ∷ []); nodes = ((list ((node 1) ∷ (node 2) ∷ [])) ∷ (list ((integer (pos 1)) ∷ [])) ∷ (list ((integer (pos 2)) ∷ [])) ∷ []) }

-- a list is a function's default and p's value
abbrev pub default : State
default = record { names = (((codes "g"), (node 0)) ∷ ((codes "p"), (node 1)) ∷ ((codes "q"), (node 2)) ∷ []); nodes = ((function One (codes "def g(x, acc=[]): return acc") ((node 1) ∷ [])) ∷ (list ((integer (pos 7)) ∷ [])) ∷ (list ((integer (pos 7)) ∷ [])) ∷ []) }

-- two functions have one default
abbrev pub defaults : State
defaults = record { names = (((codes "f"), (node 2)) ∷ ((codes "g"), (node 0)) ∷ []); nodes = ((function One (codes "def g(b=[]): pass") ((node 1) ∷ [])) ∷ (list []) ∷ (function One (codes "def f(a=1, b=[]): pass") ((integer (pos 1)) ∷ (node 1) ∷ [])) ∷ []) }

-- a dict has a tuple for a key, which is no node, and a list at two of its keys
abbrev pub keyed : State
keyed = record { names = (((codes "d"), (node 0)) ∷ ((codes "e"), (node 1)) ∷ ((codes "t"), (node 3)) ∷ []); nodes = ((dict (((k.tuple ((k.integer (pos 1)) ∷ (k.text (233 ∷ [])) ∷ [])), (node 1)) ∷ ((k.single k.none), (node 2)) ∷ ((k.single (k.integer (negsuc 0))), (node 1)) ∷ [])) ∷ (list []) ∷ (tuple []) ∷ (tuple ((integer (pos 1)) ∷ (text (233 ∷ [])) ∷ [])) ∷ []) }

-- an exception holds a list that e is, too
abbrev pub raised : State
raised = record { names = (((codes "e"), (node 0)) ∷ ((codes "x"), (node 1)) ∷ ((codes "y"), (node 2)) ∷ []); nodes = ((list ((text (codes "no")) ∷ [])) ∷ (exception 24 ((node 0) ∷ (integer (pos 1)) ∷ [])) ∷ (exception 16 ((text (codes "no")) ∷ [])) ∷ []) }

-- an object holds itself, and a list that holds it
abbrev pub object_round : State
object_round = record { names = (((codes "o"), (node 1)) ∷ []); nodes = ((list ((node 1) ∷ [])) ∷ (object (((codes "left"), (node 0)) ∷ ((codes "self"), (node 1)) ∷ [])) ∷ []) }

-- what is near comes before what is deep
abbrev pub wide : State
wide = record { names = (((codes "a"), (node 6)) ∷ ((codes "b"), (node 1)) ∷ []); nodes = ((list ((node 3) ∷ [])) ∷ (dict (((k.single (k.text (codes "k"))), (node 0)) ∷ [])) ∷ (list ((integer (pos 2)) ∷ [])) ∷ (list ((text (codes "x")) ∷ [])) ∷ (list ((node 3) ∷ [])) ∷ (list ((node 4) ∷ [])) ∷ (list ((node 5) ∷ (node 2) ∷ (node 3) ∷ [])) ∷ []) }

-- one list is reached in three ways
abbrev pub diamond : State
diamond = record { names = (((codes "t"), (node 0)) ∷ []); nodes = ((list ((node 1) ∷ (node 3) ∷ (node 2) ∷ (node 2) ∷ [])) ∷ (list ((node 2) ∷ [])) ∷ (list []) ∷ (list ((node 2) ∷ [])) ∷ []) }

-- b is what lies inside a
abbrev pub inside : State
inside = record { names = (((codes "a"), (node 1)) ∷ ((codes "b"), (node 3)) ∷ ((codes "c"), (node 5)) ∷ []); nodes = ((tuple []) ∷ (list ((node 2) ∷ (node 3) ∷ [])) ∷ (list ((node 3) ∷ [])) ∷ (tuple ((node 4) ∷ [])) ∷ (list ((integer (pos 1)) ∷ [])) ∷ (list ((node 4) ∷ [])) ∷ []) }

-- equal tuples, each a node of its own
abbrev pub equal : State
equal = record { names = (((codes "a"), (node 0)) ∷ ((codes "b"), (node 1)) ∷ ((codes "c"), (node 2)) ∷ []); nodes = ((tuple ((integer (pos 1)) ∷ (integer (pos 2)) ∷ [])) ∷ (tuple ((integer (pos 1)) ∷ (integer (pos 2)) ∷ [])) ∷ (list ((node 3) ∷ [])) ∷ (tuple ((integer (pos 1)) ∷ (integer (pos 2)) ∷ [])) ∷ []) }

-- each name shares a node with the next alone
abbrev pub long_chain : State
long_chain = record { names = (((codes "n0"), (node 10)) ∷ ((codes "n1"), (node 7)) ∷ ((codes "n2"), (node 5)) ∷ ((codes "n3"), (node 3)) ∷ ((codes "n4"), (node 1)) ∷ []); nodes = ((list ((integer (pos 5)) ∷ [])) ∷ (list ((node 2) ∷ (node 0) ∷ [])) ∷ (list ((integer (pos 4)) ∷ [])) ∷ (list ((node 4) ∷ (node 2) ∷ [])) ∷ (list ((integer (pos 3)) ∷ [])) ∷ (list ((node 6) ∷ (node 4) ∷ [])) ∷ (list ((integer (pos 2)) ∷ [])) ∷ (list ((node 8) ∷ (node 6) ∷ [])) ∷ (list ((integer (pos 1)) ∷ [])) ∷ (list ((integer (pos 0)) ∷ [])) ∷ (list ((node 9) ∷ (node 8) ∷ [])) ∷ []) }

-- a holds one list twice, and an equal one
abbrev pub twice : State
twice = record { names = (((codes "a"), (node 0)) ∷ []); nodes = ((list ((node 1) ∷ (node 1) ∷ (node 2) ∷ [])) ∷ (list ((integer (pos 1)) ∷ [])) ∷ (list ((integer (pos 1)) ∷ [])) ∷ []) }

-- the same with other numbers
abbrev pub twice_there : State
twice_there = record { names = (((codes "a"), (node 3)) ∷ []); nodes = ((list []) ∷ (list ((integer (pos 1)) ∷ [])) ∷ (list ((integer (pos 1)) ∷ [])) ∷ (list ((node 1) ∷ (node 1) ∷ (node 2) ∷ [])) ∷ []) }

-- a holds one list three times
abbrev pub thrice : State
thrice = record { names = (((codes "a"), (node 0)) ∷ []); nodes = ((list ((node 1) ∷ (node 1) ∷ (node 1) ∷ [])) ∷ (list ((integer (pos 1)) ∷ [])) ∷ []) }

-- a holds three lists
abbrev pub once_each : State
once_each = record { names = (((codes "a"), (node 0)) ∷ []); nodes = ((list ((node 1) ∷ (node 2) ∷ (node 3) ∷ [])) ∷ (list ((integer (pos 1)) ∷ [])) ∷ (list ((integer (pos 1)) ∷ [])) ∷ (list ((integer (pos 1)) ∷ [])) ∷ []) }
