-- Histories of which the rows of this crate speak: after each commit the state, and the path to it. Made by tools/rows/history_rows.py.
use Rattle.std.specs.Prelude.{pos, true, List, [], ◌∷◌, codes}
use Rattle.kishu_language.specs.declared.profile.Profile.TheVariants.{One}
use Rattle.kishu_meaning.specs.values.Keys as k
use Rattle.kishu_meaning.specs.values.Values.{none, bool, integer, text, node, list, tuple, dict, object, function, exception, State}
use Rattle.kishu_history.specs.Versions.{Stop}

-- 1: x = [1]; y = [x]; z = [2]
abbrev pub lists1 : State
lists1 = record { names = (((codes "x"), (node 0)) ∷ ((codes "y"), (node 1)) ∷ ((codes "z"), (node 2)) ∷ []); nodes = ((list ((integer (pos 1)) ∷ [])) ∷ (list ((node 0) ∷ [])) ∷ (list ((integer (pos 2)) ∷ [])) ∷ []) }

abbrev pub to_lists1 : List Stop
to_lists1 = record { commit = 1; state = lists1 } ∷ []

-- 2: y = 0
abbrev pub lists2 : State
lists2 = record { names = (((codes "x"), (node 1)) ∷ ((codes "y"), (integer (pos 0))) ∷ ((codes "z"), (node 0)) ∷ []); nodes = ((list ((integer (pos 2)) ∷ [])) ∷ (list ((integer (pos 1)) ∷ [])) ∷ []) }

abbrev pub to_lists2 : List Stop
to_lists2 = record { commit = 2; state = lists2 } ∷ to_lists1

-- 3: y = [x]
abbrev pub lists3 : State
lists3 = record { names = (((codes "x"), (node 1)) ∷ ((codes "y"), (node 2)) ∷ ((codes "z"), (node 3)) ∷ []); nodes = ((list []) ∷ (list ((integer (pos 1)) ∷ [])) ∷ (list ((node 1) ∷ [])) ∷ (list ((integer (pos 2)) ∷ [])) ∷ []) }

abbrev pub to_lists3 : List Stop
to_lists3 = record { commit = 3; state = lists3 } ∷ to_lists2

-- 4: z.append(3)
abbrev pub lists4 : State
lists4 = record { names = (((codes "x"), (node 2)) ∷ ((codes "y"), (node 1)) ∷ ((codes "z"), (node 0)) ∷ []); nodes = ((list ((integer (pos 2)) ∷ (integer (pos 3)) ∷ [])) ∷ (list ((node 2) ∷ [])) ∷ (list ((integer (pos 1)) ∷ [])) ∷ []) }

abbrev pub to_lists4 : List Stop
to_lists4 = record { commit = 4; state = lists4 } ∷ to_lists3

-- 5: w = z
abbrev pub lists5 : State
lists5 = record { names = (((codes "w"), (node 0)) ∷ ((codes "x"), (node 1)) ∷ ((codes "y"), (node 2)) ∷ ((codes "z"), (node 0)) ∷ []); nodes = ((list ((integer (pos 2)) ∷ (integer (pos 3)) ∷ [])) ∷ (list ((integer (pos 1)) ∷ [])) ∷ (list ((node 1) ∷ [])) ∷ []) }

abbrev pub to_lists5 : List Stop
to_lists5 = record { commit = 5; state = lists5 } ∷ to_lists4

-- 6: del w
abbrev pub lists6 : State
lists6 = record { names = (((codes "x"), (node 2)) ∷ ((codes "y"), (node 1)) ∷ ((codes "z"), (node 0)) ∷ []); nodes = ((list ((integer (pos 2)) ∷ (integer (pos 3)) ∷ [])) ∷ (list ((node 2) ∷ [])) ∷ (list ((integer (pos 1)) ∷ [])) ∷ (list []) ∷ []) }

abbrev pub to_lists6 : List Stop
to_lists6 = record { commit = 6; state = lists6 } ∷ to_lists5

-- 7: x, y, z
abbrev pub lists7 : State
lists7 = record { names = (((codes "x"), (node 0)) ∷ ((codes "y"), (node 1)) ∷ ((codes "z"), (node 2)) ∷ []); nodes = ((list ((integer (pos 1)) ∷ [])) ∷ (list ((node 0) ∷ [])) ∷ (list ((integer (pos 2)) ∷ (integer (pos 3)) ∷ [])) ∷ []) }

abbrev pub to_lists7 : List Stop
to_lists7 = record { commit = 7; state = lists7 } ∷ to_lists6

-- 8: x = [1], an equal list and another one
abbrev pub lists8 : State
lists8 = record { names = (((codes "x"), (node 3)) ∷ ((codes "y"), (node 2)) ∷ ((codes "z"), (node 0)) ∷ []); nodes = ((list ((integer (pos 2)) ∷ (integer (pos 3)) ∷ [])) ∷ (list ((integer (pos 1)) ∷ [])) ∷ (list ((node 1) ∷ [])) ∷ (list ((integer (pos 1)) ∷ [])) ∷ []) }

abbrev pub to_lists8 : List Stop
to_lists8 = record { commit = 8; state = lists8 } ∷ to_lists7

-- 9: w = 5
abbrev pub lists9 : State
lists9 = record { names = (((codes "w"), (integer (pos 5))) ∷ ((codes "x"), (node 1)) ∷ ((codes "y"), (node 2)) ∷ ((codes "z"), (node 4)) ∷ []); nodes = ((list []) ∷ (list ((integer (pos 1)) ∷ [])) ∷ (list ((node 3) ∷ [])) ∷ (list ((integer (pos 1)) ∷ [])) ∷ (list ((integer (pos 2)) ∷ (integer (pos 3)) ∷ [])) ∷ []) }

abbrev pub to_lists9 : List Stop
to_lists9 = record { commit = 9; state = lists9 } ∷ to_lists8

-- 10: w = 5, as it was
abbrev pub lists10 : State
lists10 = record { names = (((codes "w"), (integer (pos 5))) ∷ ((codes "x"), (node 3)) ∷ ((codes "y"), (node 2)) ∷ ((codes "z"), (node 0)) ∷ []); nodes = ((list ((integer (pos 2)) ∷ (integer (pos 3)) ∷ [])) ∷ (list ((integer (pos 1)) ∷ [])) ∷ (list ((node 1) ∷ [])) ∷ (list ((integer (pos 1)) ∷ [])) ∷ []) }

abbrev pub to_lists10 : List Stop
to_lists10 = record { commit = 10; state = lists10 } ∷ to_lists9

-- 11: w = True
abbrev pub lists11 : State
lists11 = record { names = (((codes "w"), (bool true)) ∷ ((codes "x"), (node 0)) ∷ ((codes "y"), (node 1)) ∷ ((codes "z"), (node 3)) ∷ []); nodes = ((list ((integer (pos 1)) ∷ [])) ∷ (list ((node 2) ∷ [])) ∷ (list ((integer (pos 1)) ∷ [])) ∷ (list ((integer (pos 2)) ∷ (integer (pos 3)) ∷ [])) ∷ []) }

abbrev pub to_lists11 : List Stop
to_lists11 = record { commit = 11; state = lists11 } ∷ to_lists10

-- 12: del x, y, z, w
abbrev pub lists12 : State
lists12 = record { names = []; nodes = ((list []) ∷ []) }

abbrev pub to_lists12 : List Stop
to_lists12 = record { commit = 12; state = lists12 } ∷ to_lists11

-- 13: the first cell again
abbrev pub lists13 : State
lists13 = record { names = (((codes "x"), (node 0)) ∷ ((codes "y"), (node 1)) ∷ ((codes "z"), (node 2)) ∷ []); nodes = ((list ((integer (pos 1)) ∷ [])) ∷ (list ((node 0) ∷ [])) ∷ (list ((integer (pos 2)) ∷ [])) ∷ []) }

abbrev pub to_lists13 : List Stop
to_lists13 = record { commit = 13; state = lists13 } ∷ to_lists12

-- 1: a = [1]; b = [2]; c = [3]
abbrev pub ways1 : State
ways1 = record { names = (((codes "a"), (node 0)) ∷ ((codes "b"), (node 1)) ∷ ((codes "c"), (node 2)) ∷ []); nodes = ((list ((integer (pos 1)) ∷ [])) ∷ (list ((integer (pos 2)) ∷ [])) ∷ (list ((integer (pos 3)) ∷ [])) ∷ []) }

abbrev pub to_ways1 : List Stop
to_ways1 = record { commit = 1; state = ways1 } ∷ []

-- 2: a.append(0)
abbrev pub ways2 : State
ways2 = record { names = (((codes "a"), (node 2)) ∷ ((codes "b"), (node 1)) ∷ ((codes "c"), (node 0)) ∷ []); nodes = ((list ((integer (pos 3)) ∷ [])) ∷ (list ((integer (pos 2)) ∷ [])) ∷ (list ((integer (pos 1)) ∷ (integer (pos 0)) ∷ [])) ∷ []) }

abbrev pub to_ways2 : List Stop
to_ways2 = record { commit = 2; state = ways2 } ∷ to_ways1

-- 3: on one way: b.append(7)
abbrev pub ways3 : State
ways3 = record { names = (((codes "a"), (node 1)) ∷ ((codes "b"), (node 2)) ∷ ((codes "c"), (node 3)) ∷ []); nodes = ((list []) ∷ (list ((integer (pos 1)) ∷ (integer (pos 0)) ∷ [])) ∷ (list ((integer (pos 2)) ∷ (integer (pos 7)) ∷ [])) ∷ (list ((integer (pos 3)) ∷ [])) ∷ []) }

abbrev pub to_ways3 : List Stop
to_ways3 = record { commit = 3; state = ways3 } ∷ to_ways2

-- 5: and c.append(b)
abbrev pub ways5 : State
ways5 = record { names = (((codes "a"), (node 0)) ∷ ((codes "b"), (node 1)) ∷ ((codes "c"), (node 2)) ∷ []); nodes = ((list ((integer (pos 1)) ∷ (integer (pos 0)) ∷ [])) ∷ (list ((integer (pos 2)) ∷ (integer (pos 7)) ∷ [])) ∷ (list ((integer (pos 3)) ∷ (node 1) ∷ [])) ∷ []) }

abbrev pub to_ways5 : List Stop
to_ways5 = record { commit = 5; state = ways5 } ∷ to_ways3

-- 4: on the other way: b.append(7), too
abbrev pub ways4 : State
ways4 = record { names = (((codes "a"), (node 2)) ∷ ((codes "b"), (node 1)) ∷ ((codes "c"), (node 0)) ∷ []); nodes = ((list ((integer (pos 3)) ∷ [])) ∷ (list ((integer (pos 2)) ∷ (integer (pos 7)) ∷ [])) ∷ (list ((integer (pos 1)) ∷ (integer (pos 0)) ∷ [])) ∷ []) }

abbrev pub to_ways4 : List Stop
to_ways4 = record { commit = 4; state = ways4 } ∷ to_ways2

-- 6: and d = a
abbrev pub ways6 : State
ways6 = record { names = (((codes "a"), (node 2)) ∷ ((codes "b"), (node 1)) ∷ ((codes "c"), (node 0)) ∷ ((codes "d"), (node 2)) ∷ []); nodes = ((list ((integer (pos 3)) ∷ [])) ∷ (list ((integer (pos 2)) ∷ (integer (pos 7)) ∷ [])) ∷ (list ((integer (pos 1)) ∷ (integer (pos 0)) ∷ [])) ∷ (list []) ∷ []) }

abbrev pub to_ways6 : List Stop
to_ways6 = record { commit = 6; state = ways6 } ∷ to_ways4

-- 7: del d
abbrev pub ways7 : State
ways7 = record { names = (((codes "a"), (node 0)) ∷ ((codes "b"), (node 1)) ∷ ((codes "c"), (node 2)) ∷ []); nodes = ((list ((integer (pos 1)) ∷ (integer (pos 0)) ∷ [])) ∷ (list ((integer (pos 2)) ∷ (integer (pos 7)) ∷ [])) ∷ (list ((integer (pos 3)) ∷ [])) ∷ []) }

abbrev pub to_ways7 : List Stop
to_ways7 = record { commit = 7; state = ways7 } ∷ to_ways6

-- 8: from the first commit: del c
abbrev pub ways8 : State
ways8 = record { names = (((codes "a"), (node 1)) ∷ ((codes "b"), (node 0)) ∷ []); nodes = ((list ((integer (pos 2)) ∷ [])) ∷ (list ((integer (pos 1)) ∷ [])) ∷ []) }

abbrev pub to_ways8 : List Stop
to_ways8 = record { commit = 8; state = ways8 } ∷ to_ways1

-- 1: def g(x, acc=[]): ..
abbrev pub kinds1 : State
kinds1 = record { names = (((codes "g"), (node 0)) ∷ []); nodes = ((function One (codes "def g(x, acc=[]): acc.append(x); return acc") ((node 1) ∷ [])) ∷ (list []) ∷ []) }

abbrev pub to_kinds1 : List Stop
to_kinds1 = record { commit = 1; state = kinds1 } ∷ []

-- 2: p = g(1)
abbrev pub kinds2 : State
kinds2 = record { names = (((codes "g"), (node 1)) ∷ ((codes "p"), (node 0)) ∷ []); nodes = ((list ((integer (pos 1)) ∷ [])) ∷ (function One (codes "def g(x, acc=[]): acc.append(x); return acc") ((node 0) ∷ [])) ∷ []) }

abbrev pub to_kinds2 : List Stop
to_kinds2 = record { commit = 2; state = kinds2 } ∷ to_kinds1

-- 3: p = 0
abbrev pub kinds3 : State
kinds3 = record { names = (((codes "g"), (node 1)) ∷ ((codes "p"), (integer (pos 0))) ∷ []); nodes = ((list []) ∷ (function One (codes "def g(x, acc=[]): acc.append(x); return acc") ((node 2) ∷ [])) ∷ (list ((integer (pos 1)) ∷ [])) ∷ []) }

abbrev pub to_kinds3 : List Stop
to_kinds3 = record { commit = 3; state = kinds3 } ∷ to_kinds2

-- 4: d = {1: 'a', (1, True): None}; t = (1, 2)
abbrev pub kinds4 : State
kinds4 = record { names = (((codes "d"), (node 3)) ∷ ((codes "g"), (node 2)) ∷ ((codes "p"), (integer (pos 0))) ∷ ((codes "t"), (node 0)) ∷ []); nodes = ((tuple ((integer (pos 1)) ∷ (integer (pos 2)) ∷ [])) ∷ (list ((integer (pos 1)) ∷ [])) ∷ (function One (codes "def g(x, acc=[]): acc.append(x); return acc") ((node 1) ∷ [])) ∷ (dict (((k.single (k.integer (pos 1))), (text (codes "a"))) ∷ ((k.tuple ((k.integer (pos 1)) ∷ (k.bool true) ∷ [])), none) ∷ [])) ∷ []) }

abbrev pub to_kinds4 : List Stop
to_kinds4 = record { commit = 4; state = kinds4 } ∷ to_kinds3

-- 5: the same keys in the other order
abbrev pub kinds5 : State
kinds5 = record { names = (((codes "d"), (node 0)) ∷ ((codes "g"), (node 1)) ∷ ((codes "p"), (integer (pos 0))) ∷ ((codes "t"), (node 3)) ∷ []); nodes = ((dict (((k.tuple ((k.integer (pos 1)) ∷ (k.bool true) ∷ [])), none) ∷ ((k.single (k.integer (pos 1))), (text (codes "a"))) ∷ [])) ∷ (function One (codes "def g(x, acc=[]): acc.append(x); return acc") ((node 2) ∷ [])) ∷ (list ((integer (pos 1)) ∷ [])) ∷ (tuple ((integer (pos 1)) ∷ (integer (pos 2)) ∷ [])) ∷ []) }

abbrev pub to_kinds5 : List Stop
to_kinds5 = record { commit = 5; state = kinds5 } ∷ to_kinds4

-- 6: d[1, True] = t
abbrev pub kinds6 : State
kinds6 = record { names = (((codes "d"), (node 3)) ∷ ((codes "g"), (node 1)) ∷ ((codes "p"), (integer (pos 0))) ∷ ((codes "t"), (node 2)) ∷ []); nodes = ((list ((integer (pos 1)) ∷ [])) ∷ (function One (codes "def g(x, acc=[]): acc.append(x); return acc") ((node 0) ∷ [])) ∷ (tuple ((integer (pos 1)) ∷ (integer (pos 2)) ∷ [])) ∷ (dict (((k.tuple ((k.integer (pos 1)) ∷ (k.bool true) ∷ [])), (node 2)) ∷ ((k.single (k.integer (pos 1))), (text (codes "a"))) ∷ [])) ∷ (list []) ∷ []) }

abbrev pub to_kinds6 : List Stop
to_kinds6 = record { commit = 6; state = kinds6 } ∷ to_kinds5

-- 7: t = (1, 2), another one
abbrev pub kinds7 : State
kinds7 = record { names = (((codes "d"), (node 0)) ∷ ((codes "g"), (node 2)) ∷ ((codes "p"), (integer (pos 0))) ∷ ((codes "t"), (node 4)) ∷ []); nodes = ((dict (((k.tuple ((k.integer (pos 1)) ∷ (k.bool true) ∷ [])), (node 1)) ∷ ((k.single (k.integer (pos 1))), (text (codes "a"))) ∷ [])) ∷ (tuple ((integer (pos 1)) ∷ (integer (pos 2)) ∷ [])) ∷ (function One (codes "def g(x, acc=[]): acc.append(x); return acc") ((node 3) ∷ [])) ∷ (list ((integer (pos 1)) ∷ [])) ∷ (tuple ((integer (pos 1)) ∷ (integer (pos 2)) ∷ [])) ∷ []) }

abbrev pub to_kinds7 : List Stop
to_kinds7 = record { commit = 7; state = kinds7 } ∷ to_kinds6

-- 8: e = ValueError(t); o = SimpleNamespace(t=t)
abbrev pub kinds8 : State
kinds8 = record { names = (((codes "d"), (node 6)) ∷ ((codes "e"), (node 4)) ∷ ((codes "g"), (node 2)) ∷ ((codes "o"), (node 0)) ∷ ((codes "p"), (integer (pos 0))) ∷ ((codes "t"), (node 3)) ∷ []); nodes = ((object (((codes "t"), (node 3)) ∷ [])) ∷ (list ((integer (pos 1)) ∷ [])) ∷ (function One (codes "def g(x, acc=[]): acc.append(x); return acc") ((node 1) ∷ [])) ∷ (tuple ((integer (pos 1)) ∷ (integer (pos 2)) ∷ [])) ∷ (exception 24 ((node 3) ∷ [])) ∷ (tuple ((integer (pos 1)) ∷ (integer (pos 2)) ∷ [])) ∷ (dict (((k.tuple ((k.integer (pos 1)) ∷ (k.bool true) ∷ [])), (node 5)) ∷ ((k.single (k.integer (pos 1))), (text (codes "a"))) ∷ [])) ∷ []) }

abbrev pub to_kinds8 : List Stop
to_kinds8 = record { commit = 8; state = kinds8 } ∷ to_kinds7

-- 9: del o.t
abbrev pub kinds9 : State
kinds9 = record { names = (((codes "d"), (node 1)) ∷ ((codes "e"), (node 3)) ∷ ((codes "g"), (node 5)) ∷ ((codes "o"), (node 7)) ∷ ((codes "p"), (integer (pos 0))) ∷ ((codes "t"), (node 4)) ∷ []); nodes = ((list []) ∷ (dict (((k.tuple ((k.integer (pos 1)) ∷ (k.bool true) ∷ [])), (node 2)) ∷ ((k.single (k.integer (pos 1))), (text (codes "a"))) ∷ [])) ∷ (tuple ((integer (pos 1)) ∷ (integer (pos 2)) ∷ [])) ∷ (exception 24 ((node 4) ∷ [])) ∷ (tuple ((integer (pos 1)) ∷ (integer (pos 2)) ∷ [])) ∷ (function One (codes "def g(x, acc=[]): acc.append(x); return acc") ((node 6) ∷ [])) ∷ (list ((integer (pos 1)) ∷ [])) ∷ (object []) ∷ []) }

abbrev pub to_kinds9 : List Stop
to_kinds9 = record { commit = 9; state = kinds9 } ∷ to_kinds8

-- 10: def g(x): return x
abbrev pub kinds10 : State
kinds10 = record { names = (((codes "d"), (node 5)) ∷ ((codes "e"), (node 3)) ∷ ((codes "g"), (node 1)) ∷ ((codes "o"), (node 0)) ∷ ((codes "p"), (integer (pos 0))) ∷ ((codes "t"), (node 2)) ∷ []); nodes = ((object []) ∷ (function One (codes "def g(x): return x") []) ∷ (tuple ((integer (pos 1)) ∷ (integer (pos 2)) ∷ [])) ∷ (exception 24 ((node 2) ∷ [])) ∷ (tuple ((integer (pos 1)) ∷ (integer (pos 2)) ∷ [])) ∷ (dict (((k.tuple ((k.integer (pos 1)) ∷ (k.bool true) ∷ [])), (node 4)) ∷ ((k.single (k.integer (pos 1))), (text (codes "a"))) ∷ [])) ∷ []) }

abbrev pub to_kinds10 : List Stop
to_kinds10 = record { commit = 10; state = kinds10 } ∷ to_kinds9
