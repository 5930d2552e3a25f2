-- Records, one behind another, of which the rows of this crate speak. Made by tools/rows/record_rows.py.
use Rattle.std.specs.Prelude.{List, [], ◌∷◌, codes}
use Rattle.kishu_language.specs.declared.profile.Profile.TheVariants.{One}
use Rattle.kishu_store.specs.Entries.{Entry, commit, move, name, to_commit, to_branch, Record}

abbrev pub record1 : Record
record1 = record { entry = (commit 0 One ((codes "x = [1]; y = [x]; z = [2]") ∷ []) [] ((((codes "x") ∷ (codes "y") ∷ []), 3) ∷ (((codes "z") ∷ []), 1) ∷ [])); pictures = ((1 ∷ 2 ∷ 3 ∷ []) ∷ (4 ∷ []) ∷ []) }

abbrev pub entry1 : Entry
entry1 = commit 0 One ((codes "x = [1]; y = [x]; z = [2]") ∷ []) [] ((((codes "x") ∷ (codes "y") ∷ []), 3) ∷ (((codes "z") ∷ []), 1) ∷ [])

abbrev pub record2 : Record
record2 = record { entry = (commit 1 One ((codes "y = 0") ∷ []) (((codes "x") ∷ (codes "y") ∷ []) ∷ []) ((((codes "x") ∷ []), 2) ∷ (((codes "y") ∷ []), 1) ∷ [])); pictures = ((5 ∷ 6 ∷ []) ∷ (7 ∷ []) ∷ []) }

abbrev pub entry2 : Entry
entry2 = commit 1 One ((codes "y = 0") ∷ []) (((codes "x") ∷ (codes "y") ∷ []) ∷ []) ((((codes "x") ∷ []), 2) ∷ (((codes "y") ∷ []), 1) ∷ [])

abbrev pub record3 : Record
record3 = record { entry = (name (codes "try") 1); pictures = [] }

abbrev pub entry3 : Entry
entry3 = name (codes "try") 1

abbrev pub record4 : Record
record4 = record { entry = (move (to_branch (codes "try"))); pictures = [] }

abbrev pub entry4 : Entry
entry4 = move (to_branch (codes "try"))

abbrev pub record5 : Record
record5 = record { entry = (commit 1 One ((codes "w = z") ∷ (codes "1") ∷ []) (((codes "z") ∷ []) ∷ []) ((((codes "w") ∷ (codes "z") ∷ []), 2) ∷ [])); pictures = ((8 ∷ 8 ∷ []) ∷ []) }

abbrev pub entry5 : Entry
entry5 = commit 1 One ((codes "w = z") ∷ (codes "1") ∷ []) (((codes "z") ∷ []) ∷ []) ((((codes "w") ∷ (codes "z") ∷ []), 2) ∷ [])

abbrev pub record6 : Record
record6 = record { entry = (move (to_commit 2)); pictures = [] }

abbrev pub entry6 : Entry
entry6 = move (to_commit 2)

abbrev pub record7 : Record
record7 = record { entry = (commit 2 One ([] ∷ []) [] []); pictures = [] }

abbrev pub entry7 : Entry
entry7 = commit 2 One ([] ∷ []) [] []

abbrev pub record8 : Record
record8 = record { entry = (move (to_branch (codes "main"))); pictures = [] }

abbrev pub entry8 : Entry
entry8 = move (to_branch (codes "main"))

abbrev pub record9 : Record
record9 = record { entry = (commit 2 One ((codes "del x, y, z") ∷ []) (((codes "x") ∷ []) ∷ ((codes "y") ∷ []) ∷ ((codes "z") ∷ []) ∷ []) []); pictures = [] }

abbrev pub entry9 : Entry
entry9 = commit 2 One ((codes "del x, y, z") ∷ []) (((codes "x") ∷ []) ∷ ((codes "y") ∷ []) ∷ ((codes "z") ∷ []) ∷ []) []

abbrev pub record10 : Record
record10 = record { entry = (name (codes "Z-9_") 3); pictures = [] }

abbrev pub entry10 : Entry
entry10 = name (codes "Z-9_") 3

abbrev pub record11 : Record
record11 = record { entry = (move (to_commit 0)); pictures = [] }

abbrev pub entry11 : Entry
entry11 = move (to_commit 0)

abbrev pub record12 : Record
record12 = record { entry = (commit 0 One ((codes "a = b = 1") ∷ []) [] ((((codes "a") ∷ []), 1) ∷ (((codes "b") ∷ []), 0) ∷ [])); pictures = ((9 ∷ []) ∷ [] ∷ []) }

abbrev pub entry12 : Entry
entry12 = commit 0 One ((codes "a = b = 1") ∷ []) [] ((((codes "a") ∷ []), 1) ∷ (((codes "b") ∷ []), 0) ∷ [])

abbrev pub record13 : Record
record13 = record { entry = (move (to_branch (codes "Z-9_"))); pictures = [] }

abbrev pub entry13 : Entry
entry13 = move (to_branch (codes "Z-9_"))

abbrev pub record14 : Record
record14 = record { entry = (commit 3 One ((codes "y = w") ∷ []) (((codes "w") ∷ (codes "z") ∷ []) ∷ []) ((((codes "w") ∷ (codes "y") ∷ (codes "z") ∷ []), 1) ∷ [])); pictures = ((0 ∷ []) ∷ []) }

abbrev pub entry14 : Entry
entry14 = commit 3 One ((codes "y = w") ∷ []) (((codes "w") ∷ (codes "z") ∷ []) ∷ []) ((((codes "w") ∷ (codes "y") ∷ (codes "z") ∷ []), 1) ∷ [])

-- the first so many of them
abbrev pub first0 : List Record
first0 = []

abbrev pub said0 : List Entry
said0 = []

abbrev pub first1 : List Record
first1 = record1 ∷ []

abbrev pub said1 : List Entry
said1 = entry1 ∷ []

abbrev pub first2 : List Record
first2 = record1 ∷ record2 ∷ []

abbrev pub said2 : List Entry
said2 = entry1 ∷ entry2 ∷ []

abbrev pub first3 : List Record
first3 = record1 ∷ record2 ∷ record3 ∷ []

abbrev pub said3 : List Entry
said3 = entry1 ∷ entry2 ∷ entry3 ∷ []

abbrev pub first4 : List Record
first4 = record1 ∷ record2 ∷ record3 ∷ record4 ∷ []

abbrev pub said4 : List Entry
said4 = entry1 ∷ entry2 ∷ entry3 ∷ entry4 ∷ []

abbrev pub first5 : List Record
first5 = record1 ∷ record2 ∷ record3 ∷ record4 ∷ record5 ∷ []

abbrev pub said5 : List Entry
said5 = entry1 ∷ entry2 ∷ entry3 ∷ entry4 ∷ entry5 ∷ []

abbrev pub first6 : List Record
first6 = record1 ∷ record2 ∷ record3 ∷ record4 ∷ record5 ∷ record6 ∷ []

abbrev pub said6 : List Entry
said6 = entry1 ∷ entry2 ∷ entry3 ∷ entry4 ∷ entry5 ∷ entry6 ∷ []

abbrev pub first7 : List Record
first7 = record1 ∷ record2 ∷ record3 ∷ record4 ∷ record5 ∷ record6 ∷ record7 ∷ []

abbrev pub said7 : List Entry
said7 = entry1 ∷ entry2 ∷ entry3 ∷ entry4 ∷ entry5 ∷ entry6 ∷ entry7 ∷ []

abbrev pub first8 : List Record
first8 = record1 ∷ record2 ∷ record3 ∷ record4 ∷ record5 ∷ record6 ∷ record7 ∷ record8 ∷ []

abbrev pub said8 : List Entry
said8 = entry1 ∷ entry2 ∷ entry3 ∷ entry4 ∷ entry5 ∷ entry6 ∷ entry7 ∷ entry8 ∷ []

abbrev pub first9 : List Record
first9 = record1 ∷ record2 ∷ record3 ∷ record4 ∷ record5 ∷ record6 ∷ record7 ∷ record8 ∷ record9 ∷ []

abbrev pub said9 : List Entry
said9 = entry1 ∷ entry2 ∷ entry3 ∷ entry4 ∷ entry5 ∷ entry6 ∷ entry7 ∷ entry8 ∷ entry9 ∷ []

abbrev pub first10 : List Record
first10 = record1 ∷ record2 ∷ record3 ∷ record4 ∷ record5 ∷ record6 ∷ record7 ∷ record8 ∷ record9 ∷ record10 ∷ []

abbrev pub said10 : List Entry
said10 = entry1 ∷ entry2 ∷ entry3 ∷ entry4 ∷ entry5 ∷ entry6 ∷ entry7 ∷ entry8 ∷ entry9 ∷ entry10 ∷ []

abbrev pub first11 : List Record
first11 = record1 ∷ record2 ∷ record3 ∷ record4 ∷ record5 ∷ record6 ∷ record7 ∷ record8 ∷ record9 ∷ record10 ∷ record11 ∷ []

abbrev pub said11 : List Entry
said11 = entry1 ∷ entry2 ∷ entry3 ∷ entry4 ∷ entry5 ∷ entry6 ∷ entry7 ∷ entry8 ∷ entry9 ∷ entry10 ∷ entry11 ∷ []

abbrev pub first12 : List Record
first12 = record1 ∷ record2 ∷ record3 ∷ record4 ∷ record5 ∷ record6 ∷ record7 ∷ record8 ∷ record9 ∷ record10 ∷ record11 ∷ record12 ∷ []

abbrev pub said12 : List Entry
said12 = entry1 ∷ entry2 ∷ entry3 ∷ entry4 ∷ entry5 ∷ entry6 ∷ entry7 ∷ entry8 ∷ entry9 ∷ entry10 ∷ entry11 ∷ entry12 ∷ []

abbrev pub first13 : List Record
first13 = record1 ∷ record2 ∷ record3 ∷ record4 ∷ record5 ∷ record6 ∷ record7 ∷ record8 ∷ record9 ∷ record10 ∷ record11 ∷ record12 ∷ record13 ∷ []

abbrev pub said13 : List Entry
said13 = entry1 ∷ entry2 ∷ entry3 ∷ entry4 ∷ entry5 ∷ entry6 ∷ entry7 ∷ entry8 ∷ entry9 ∷ entry10 ∷ entry11 ∷ entry12 ∷ entry13 ∷ []

abbrev pub first14 : List Record
first14 = record1 ∷ record2 ∷ record3 ∷ record4 ∷ record5 ∷ record6 ∷ record7 ∷ record8 ∷ record9 ∷ record10 ∷ record11 ∷ record12 ∷ record13 ∷ record14 ∷ []

abbrev pub said14 : List Entry
said14 = entry1 ∷ entry2 ∷ entry3 ∷ entry4 ∷ entry5 ∷ entry6 ∷ entry7 ∷ entry8 ∷ entry9 ∷ entry10 ∷ entry11 ∷ entry12 ∷ entry13 ∷ entry14 ∷ []
