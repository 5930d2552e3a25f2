-- What records make of the graph, and the paths in it: computed on the definitions. Made by tools/rows/record_rows.py.
use Rattle.std.specs.Prelude.{◌≡◌, [], ◌∷◌, codes, Some, None, refl}
use Rattle.kishu_language.specs.declared.profile.Profile.TheVariants.{One}
use Rattle.kishu_store.specs.Entries.{commit}
use Rattle.kishu_store.specs.Fitting.{changed}
use Rattle.kishu_store.specs.Graph.{path, back, count_of}
use Rattle.kishu_store.specs.Holds.{graph_of}
use Rattle.kishu_store_rows.proofs.Records.{entry1, entry2, entry3, entry4, entry5, entry6, entry7, entry8, entry9, entry10, entry11, entry12, entry13, entry14, said0, said1, said2, said3, said4, said5, said6, said7, said8, said9, said10, said11, said12, said13, said14}

-- the first 0
graph_1 : graph_of said0 ≡ record { commits = []; branches = (((codes "main"), 0) ∷ []); head = record { commit = 0; branch = Some (codes "main") }; records = 0 }
graph_1 = refl

counts_1 : count_of (graph_of said0) 0 ∷ []
    ≡ 0 ∷ []
counts_1 = refl

path_1 : path (graph_of said0) 0 ≡ []
path_1 = refl

back_1 : back (graph_of said0) 0 ≡ []
back_1 = refl

-- the first 1
graph_2 : graph_of said1 ≡ record { commits = ((record { parent = 0; profile = One; cells = ((codes "x = [1]; y = [x]; z = [2]") ∷ []) }) ∷ []); branches = (((codes "main"), 1) ∷ []); head = record { commit = 1; branch = Some (codes "main") }; records = 1 }
graph_2 = refl

change_1 : changed (record { commits = []; branches = (((codes "main"), 0) ∷ []); head = record { commit = 0; branch = Some (codes "main") }; records = 0 }) entry1 ≡ record { commits = ((record { parent = 0; profile = One; cells = ((codes "x = [1]; y = [x]; z = [2]") ∷ []) }) ∷ []); branches = (((codes "main"), 1) ∷ []); head = record { commit = 1; branch = Some (codes "main") }; records = 1 }
change_1 = refl

counts_2 : count_of (graph_of said1) 0 ∷ count_of (graph_of said1) 1 ∷ []
    ≡ 0 ∷ 1 ∷ []
counts_2 = refl

path_2 : path (graph_of said1) 1 ≡ ((record { parent = 0; profile = One; cells = ((codes "x = [1]; y = [x]; z = [2]") ∷ []) }) ∷ [])
path_2 = refl

back_2 : back (graph_of said1) 1 ≡ ((record { number = 1; commit = (record { parent = 0; profile = One; cells = ((codes "x = [1]; y = [x]; z = [2]") ∷ []) }) }) ∷ [])
back_2 = refl

-- the first 2
graph_3 : graph_of said2 ≡ record { commits = ((record { parent = 1; profile = One; cells = ((codes "y = 0") ∷ []) }) ∷ (record { parent = 0; profile = One; cells = ((codes "x = [1]; y = [x]; z = [2]") ∷ []) }) ∷ []); branches = (((codes "main"), 2) ∷ []); head = record { commit = 2; branch = Some (codes "main") }; records = 2 }
graph_3 = refl

change_2 : changed (record { commits = ((record { parent = 0; profile = One; cells = ((codes "x = [1]; y = [x]; z = [2]") ∷ []) }) ∷ []); branches = (((codes "main"), 1) ∷ []); head = record { commit = 1; branch = Some (codes "main") }; records = 1 }) entry2 ≡ record { commits = ((record { parent = 1; profile = One; cells = ((codes "y = 0") ∷ []) }) ∷ (record { parent = 0; profile = One; cells = ((codes "x = [1]; y = [x]; z = [2]") ∷ []) }) ∷ []); branches = (((codes "main"), 2) ∷ []); head = record { commit = 2; branch = Some (codes "main") }; records = 2 }
change_2 = refl

counts_3 : count_of (graph_of said2) 0 ∷ count_of (graph_of said2) 1 ∷ count_of (graph_of said2) 2 ∷ []
    ≡ 0 ∷ 1 ∷ 2 ∷ []
counts_3 = refl

path_3 : path (graph_of said2) 2 ≡ ((record { parent = 0; profile = One; cells = ((codes "x = [1]; y = [x]; z = [2]") ∷ []) }) ∷ (record { parent = 1; profile = One; cells = ((codes "y = 0") ∷ []) }) ∷ [])
path_3 = refl

back_3 : back (graph_of said2) 2 ≡ ((record { number = 2; commit = (record { parent = 1; profile = One; cells = ((codes "y = 0") ∷ []) }) }) ∷ (record { number = 1; commit = (record { parent = 0; profile = One; cells = ((codes "x = [1]; y = [x]; z = [2]") ∷ []) }) }) ∷ [])
back_3 = refl

-- the first 3
graph_4 : graph_of said3 ≡ record { commits = ((record { parent = 1; profile = One; cells = ((codes "y = 0") ∷ []) }) ∷ (record { parent = 0; profile = One; cells = ((codes "x = [1]; y = [x]; z = [2]") ∷ []) }) ∷ []); branches = (((codes "main"), 2) ∷ ((codes "try"), 1) ∷ []); head = record { commit = 2; branch = Some (codes "main") }; records = 3 }
graph_4 = refl

change_3 : changed (record { commits = ((record { parent = 1; profile = One; cells = ((codes "y = 0") ∷ []) }) ∷ (record { parent = 0; profile = One; cells = ((codes "x = [1]; y = [x]; z = [2]") ∷ []) }) ∷ []); branches = (((codes "main"), 2) ∷ []); head = record { commit = 2; branch = Some (codes "main") }; records = 2 }) entry3 ≡ record { commits = ((record { parent = 1; profile = One; cells = ((codes "y = 0") ∷ []) }) ∷ (record { parent = 0; profile = One; cells = ((codes "x = [1]; y = [x]; z = [2]") ∷ []) }) ∷ []); branches = (((codes "main"), 2) ∷ ((codes "try"), 1) ∷ []); head = record { commit = 2; branch = Some (codes "main") }; records = 3 }
change_3 = refl

counts_4 : count_of (graph_of said3) 0 ∷ count_of (graph_of said3) 1 ∷ count_of (graph_of said3) 2 ∷ []
    ≡ 0 ∷ 1 ∷ 2 ∷ []
counts_4 = refl

path_4 : path (graph_of said3) 2 ≡ ((record { parent = 0; profile = One; cells = ((codes "x = [1]; y = [x]; z = [2]") ∷ []) }) ∷ (record { parent = 1; profile = One; cells = ((codes "y = 0") ∷ []) }) ∷ [])
path_4 = refl

back_4 : back (graph_of said3) 2 ≡ ((record { number = 2; commit = (record { parent = 1; profile = One; cells = ((codes "y = 0") ∷ []) }) }) ∷ (record { number = 1; commit = (record { parent = 0; profile = One; cells = ((codes "x = [1]; y = [x]; z = [2]") ∷ []) }) }) ∷ [])
back_4 = refl

-- the first 4
graph_5 : graph_of said4 ≡ record { commits = ((record { parent = 1; profile = One; cells = ((codes "y = 0") ∷ []) }) ∷ (record { parent = 0; profile = One; cells = ((codes "x = [1]; y = [x]; z = [2]") ∷ []) }) ∷ []); branches = (((codes "main"), 2) ∷ ((codes "try"), 1) ∷ []); head = record { commit = 1; branch = Some (codes "try") }; records = 4 }
graph_5 = refl

change_4 : changed (record { commits = ((record { parent = 1; profile = One; cells = ((codes "y = 0") ∷ []) }) ∷ (record { parent = 0; profile = One; cells = ((codes "x = [1]; y = [x]; z = [2]") ∷ []) }) ∷ []); branches = (((codes "main"), 2) ∷ ((codes "try"), 1) ∷ []); head = record { commit = 2; branch = Some (codes "main") }; records = 3 }) entry4 ≡ record { commits = ((record { parent = 1; profile = One; cells = ((codes "y = 0") ∷ []) }) ∷ (record { parent = 0; profile = One; cells = ((codes "x = [1]; y = [x]; z = [2]") ∷ []) }) ∷ []); branches = (((codes "main"), 2) ∷ ((codes "try"), 1) ∷ []); head = record { commit = 1; branch = Some (codes "try") }; records = 4 }
change_4 = refl

counts_5 : count_of (graph_of said4) 0 ∷ count_of (graph_of said4) 1 ∷ count_of (graph_of said4) 2 ∷ []
    ≡ 0 ∷ 1 ∷ 2 ∷ []
counts_5 = refl

path_5 : path (graph_of said4) 1 ≡ ((record { parent = 0; profile = One; cells = ((codes "x = [1]; y = [x]; z = [2]") ∷ []) }) ∷ [])
path_5 = refl

back_5 : back (graph_of said4) 1 ≡ ((record { number = 1; commit = (record { parent = 0; profile = One; cells = ((codes "x = [1]; y = [x]; z = [2]") ∷ []) }) }) ∷ [])
back_5 = refl

-- the first 5
graph_6 : graph_of said5 ≡ record { commits = ((record { parent = 1; profile = One; cells = ((codes "w = z") ∷ (codes "1") ∷ []) }) ∷ (record { parent = 1; profile = One; cells = ((codes "y = 0") ∷ []) }) ∷ (record { parent = 0; profile = One; cells = ((codes "x = [1]; y = [x]; z = [2]") ∷ []) }) ∷ []); branches = (((codes "main"), 2) ∷ ((codes "try"), 3) ∷ []); head = record { commit = 3; branch = Some (codes "try") }; records = 5 }
graph_6 = refl

change_5 : changed (record { commits = ((record { parent = 1; profile = One; cells = ((codes "y = 0") ∷ []) }) ∷ (record { parent = 0; profile = One; cells = ((codes "x = [1]; y = [x]; z = [2]") ∷ []) }) ∷ []); branches = (((codes "main"), 2) ∷ ((codes "try"), 1) ∷ []); head = record { commit = 1; branch = Some (codes "try") }; records = 4 }) entry5 ≡ record { commits = ((record { parent = 1; profile = One; cells = ((codes "w = z") ∷ (codes "1") ∷ []) }) ∷ (record { parent = 1; profile = One; cells = ((codes "y = 0") ∷ []) }) ∷ (record { parent = 0; profile = One; cells = ((codes "x = [1]; y = [x]; z = [2]") ∷ []) }) ∷ []); branches = (((codes "main"), 2) ∷ ((codes "try"), 3) ∷ []); head = record { commit = 3; branch = Some (codes "try") }; records = 5 }
change_5 = refl

counts_6 : count_of (graph_of said5) 0 ∷ count_of (graph_of said5) 1 ∷ count_of (graph_of said5) 2 ∷ count_of (graph_of said5) 3 ∷ []
    ≡ 0 ∷ 1 ∷ 2 ∷ 3 ∷ []
counts_6 = refl

path_6 : path (graph_of said5) 3 ≡ ((record { parent = 0; profile = One; cells = ((codes "x = [1]; y = [x]; z = [2]") ∷ []) }) ∷ (record { parent = 1; profile = One; cells = ((codes "w = z") ∷ (codes "1") ∷ []) }) ∷ [])
path_6 = refl

back_6 : back (graph_of said5) 3 ≡ ((record { number = 3; commit = (record { parent = 1; profile = One; cells = ((codes "w = z") ∷ (codes "1") ∷ []) }) }) ∷ (record { number = 1; commit = (record { parent = 0; profile = One; cells = ((codes "x = [1]; y = [x]; z = [2]") ∷ []) }) }) ∷ [])
back_6 = refl

-- the first 6
graph_7 : graph_of said6 ≡ record { commits = ((record { parent = 1; profile = One; cells = ((codes "w = z") ∷ (codes "1") ∷ []) }) ∷ (record { parent = 1; profile = One; cells = ((codes "y = 0") ∷ []) }) ∷ (record { parent = 0; profile = One; cells = ((codes "x = [1]; y = [x]; z = [2]") ∷ []) }) ∷ []); branches = (((codes "main"), 2) ∷ ((codes "try"), 3) ∷ []); head = record { commit = 2; branch = None }; records = 6 }
graph_7 = refl

change_6 : changed (record { commits = ((record { parent = 1; profile = One; cells = ((codes "w = z") ∷ (codes "1") ∷ []) }) ∷ (record { parent = 1; profile = One; cells = ((codes "y = 0") ∷ []) }) ∷ (record { parent = 0; profile = One; cells = ((codes "x = [1]; y = [x]; z = [2]") ∷ []) }) ∷ []); branches = (((codes "main"), 2) ∷ ((codes "try"), 3) ∷ []); head = record { commit = 3; branch = Some (codes "try") }; records = 5 }) entry6 ≡ record { commits = ((record { parent = 1; profile = One; cells = ((codes "w = z") ∷ (codes "1") ∷ []) }) ∷ (record { parent = 1; profile = One; cells = ((codes "y = 0") ∷ []) }) ∷ (record { parent = 0; profile = One; cells = ((codes "x = [1]; y = [x]; z = [2]") ∷ []) }) ∷ []); branches = (((codes "main"), 2) ∷ ((codes "try"), 3) ∷ []); head = record { commit = 2; branch = None }; records = 6 }
change_6 = refl

counts_7 : count_of (graph_of said6) 0 ∷ count_of (graph_of said6) 1 ∷ count_of (graph_of said6) 2 ∷ count_of (graph_of said6) 3 ∷ []
    ≡ 0 ∷ 1 ∷ 2 ∷ 3 ∷ []
counts_7 = refl

path_7 : path (graph_of said6) 2 ≡ ((record { parent = 0; profile = One; cells = ((codes "x = [1]; y = [x]; z = [2]") ∷ []) }) ∷ (record { parent = 1; profile = One; cells = ((codes "y = 0") ∷ []) }) ∷ [])
path_7 = refl

back_7 : back (graph_of said6) 2 ≡ ((record { number = 2; commit = (record { parent = 1; profile = One; cells = ((codes "y = 0") ∷ []) }) }) ∷ (record { number = 1; commit = (record { parent = 0; profile = One; cells = ((codes "x = [1]; y = [x]; z = [2]") ∷ []) }) }) ∷ [])
back_7 = refl

-- the first 7
graph_8 : graph_of said7 ≡ record { commits = ((record { parent = 2; profile = One; cells = ([] ∷ []) }) ∷ (record { parent = 1; profile = One; cells = ((codes "w = z") ∷ (codes "1") ∷ []) }) ∷ (record { parent = 1; profile = One; cells = ((codes "y = 0") ∷ []) }) ∷ (record { parent = 0; profile = One; cells = ((codes "x = [1]; y = [x]; z = [2]") ∷ []) }) ∷ []); branches = (((codes "main"), 2) ∷ ((codes "try"), 3) ∷ []); head = record { commit = 4; branch = None }; records = 7 }
graph_8 = refl

change_7 : changed (record { commits = ((record { parent = 1; profile = One; cells = ((codes "w = z") ∷ (codes "1") ∷ []) }) ∷ (record { parent = 1; profile = One; cells = ((codes "y = 0") ∷ []) }) ∷ (record { parent = 0; profile = One; cells = ((codes "x = [1]; y = [x]; z = [2]") ∷ []) }) ∷ []); branches = (((codes "main"), 2) ∷ ((codes "try"), 3) ∷ []); head = record { commit = 2; branch = None }; records = 6 }) entry7 ≡ record { commits = ((record { parent = 2; profile = One; cells = ([] ∷ []) }) ∷ (record { parent = 1; profile = One; cells = ((codes "w = z") ∷ (codes "1") ∷ []) }) ∷ (record { parent = 1; profile = One; cells = ((codes "y = 0") ∷ []) }) ∷ (record { parent = 0; profile = One; cells = ((codes "x = [1]; y = [x]; z = [2]") ∷ []) }) ∷ []); branches = (((codes "main"), 2) ∷ ((codes "try"), 3) ∷ []); head = record { commit = 4; branch = None }; records = 7 }
change_7 = refl

counts_8 : count_of (graph_of said7) 0 ∷ count_of (graph_of said7) 1 ∷ count_of (graph_of said7) 2 ∷ count_of (graph_of said7) 3 ∷ count_of (graph_of said7) 4 ∷ []
    ≡ 0 ∷ 1 ∷ 2 ∷ 3 ∷ 3 ∷ []
counts_8 = refl

path_8 : path (graph_of said7) 4 ≡ ((record { parent = 0; profile = One; cells = ((codes "x = [1]; y = [x]; z = [2]") ∷ []) }) ∷ (record { parent = 1; profile = One; cells = ((codes "y = 0") ∷ []) }) ∷ (record { parent = 2; profile = One; cells = ([] ∷ []) }) ∷ [])
path_8 = refl

back_8 : back (graph_of said7) 4 ≡ ((record { number = 4; commit = (record { parent = 2; profile = One; cells = ([] ∷ []) }) }) ∷ (record { number = 2; commit = (record { parent = 1; profile = One; cells = ((codes "y = 0") ∷ []) }) }) ∷ (record { number = 1; commit = (record { parent = 0; profile = One; cells = ((codes "x = [1]; y = [x]; z = [2]") ∷ []) }) }) ∷ [])
back_8 = refl

-- the first 8
graph_9 : graph_of said8 ≡ record { commits = ((record { parent = 2; profile = One; cells = ([] ∷ []) }) ∷ (record { parent = 1; profile = One; cells = ((codes "w = z") ∷ (codes "1") ∷ []) }) ∷ (record { parent = 1; profile = One; cells = ((codes "y = 0") ∷ []) }) ∷ (record { parent = 0; profile = One; cells = ((codes "x = [1]; y = [x]; z = [2]") ∷ []) }) ∷ []); branches = (((codes "main"), 2) ∷ ((codes "try"), 3) ∷ []); head = record { commit = 2; branch = Some (codes "main") }; records = 8 }
graph_9 = refl

change_8 : changed (record { commits = ((record { parent = 2; profile = One; cells = ([] ∷ []) }) ∷ (record { parent = 1; profile = One; cells = ((codes "w = z") ∷ (codes "1") ∷ []) }) ∷ (record { parent = 1; profile = One; cells = ((codes "y = 0") ∷ []) }) ∷ (record { parent = 0; profile = One; cells = ((codes "x = [1]; y = [x]; z = [2]") ∷ []) }) ∷ []); branches = (((codes "main"), 2) ∷ ((codes "try"), 3) ∷ []); head = record { commit = 4; branch = None }; records = 7 }) entry8 ≡ record { commits = ((record { parent = 2; profile = One; cells = ([] ∷ []) }) ∷ (record { parent = 1; profile = One; cells = ((codes "w = z") ∷ (codes "1") ∷ []) }) ∷ (record { parent = 1; profile = One; cells = ((codes "y = 0") ∷ []) }) ∷ (record { parent = 0; profile = One; cells = ((codes "x = [1]; y = [x]; z = [2]") ∷ []) }) ∷ []); branches = (((codes "main"), 2) ∷ ((codes "try"), 3) ∷ []); head = record { commit = 2; branch = Some (codes "main") }; records = 8 }
change_8 = refl

counts_9 : count_of (graph_of said8) 0 ∷ count_of (graph_of said8) 1 ∷ count_of (graph_of said8) 2 ∷ count_of (graph_of said8) 3 ∷ count_of (graph_of said8) 4 ∷ []
    ≡ 0 ∷ 1 ∷ 2 ∷ 3 ∷ 3 ∷ []
counts_9 = refl

path_9 : path (graph_of said8) 2 ≡ ((record { parent = 0; profile = One; cells = ((codes "x = [1]; y = [x]; z = [2]") ∷ []) }) ∷ (record { parent = 1; profile = One; cells = ((codes "y = 0") ∷ []) }) ∷ [])
path_9 = refl

back_9 : back (graph_of said8) 2 ≡ ((record { number = 2; commit = (record { parent = 1; profile = One; cells = ((codes "y = 0") ∷ []) }) }) ∷ (record { number = 1; commit = (record { parent = 0; profile = One; cells = ((codes "x = [1]; y = [x]; z = [2]") ∷ []) }) }) ∷ [])
back_9 = refl

-- the first 9
graph_10 : graph_of said9 ≡ record { commits = ((record { parent = 2; profile = One; cells = ((codes "del x, y, z") ∷ []) }) ∷ (record { parent = 2; profile = One; cells = ([] ∷ []) }) ∷ (record { parent = 1; profile = One; cells = ((codes "w = z") ∷ (codes "1") ∷ []) }) ∷ (record { parent = 1; profile = One; cells = ((codes "y = 0") ∷ []) }) ∷ (record { parent = 0; profile = One; cells = ((codes "x = [1]; y = [x]; z = [2]") ∷ []) }) ∷ []); branches = (((codes "main"), 5) ∷ ((codes "try"), 3) ∷ []); head = record { commit = 5; branch = Some (codes "main") }; records = 9 }
graph_10 = refl

change_9 : changed (record { commits = ((record { parent = 2; profile = One; cells = ([] ∷ []) }) ∷ (record { parent = 1; profile = One; cells = ((codes "w = z") ∷ (codes "1") ∷ []) }) ∷ (record { parent = 1; profile = One; cells = ((codes "y = 0") ∷ []) }) ∷ (record { parent = 0; profile = One; cells = ((codes "x = [1]; y = [x]; z = [2]") ∷ []) }) ∷ []); branches = (((codes "main"), 2) ∷ ((codes "try"), 3) ∷ []); head = record { commit = 2; branch = Some (codes "main") }; records = 8 }) entry9 ≡ record { commits = ((record { parent = 2; profile = One; cells = ((codes "del x, y, z") ∷ []) }) ∷ (record { parent = 2; profile = One; cells = ([] ∷ []) }) ∷ (record { parent = 1; profile = One; cells = ((codes "w = z") ∷ (codes "1") ∷ []) }) ∷ (record { parent = 1; profile = One; cells = ((codes "y = 0") ∷ []) }) ∷ (record { parent = 0; profile = One; cells = ((codes "x = [1]; y = [x]; z = [2]") ∷ []) }) ∷ []); branches = (((codes "main"), 5) ∷ ((codes "try"), 3) ∷ []); head = record { commit = 5; branch = Some (codes "main") }; records = 9 }
change_9 = refl

counts_10 : count_of (graph_of said9) 0 ∷ count_of (graph_of said9) 1 ∷ count_of (graph_of said9) 2 ∷ count_of (graph_of said9) 3 ∷ count_of (graph_of said9) 4 ∷ count_of (graph_of said9) 5 ∷ []
    ≡ 0 ∷ 1 ∷ 2 ∷ 3 ∷ 3 ∷ 3 ∷ []
counts_10 = refl

path_10 : path (graph_of said9) 5 ≡ ((record { parent = 0; profile = One; cells = ((codes "x = [1]; y = [x]; z = [2]") ∷ []) }) ∷ (record { parent = 1; profile = One; cells = ((codes "y = 0") ∷ []) }) ∷ (record { parent = 2; profile = One; cells = ((codes "del x, y, z") ∷ []) }) ∷ [])
path_10 = refl

back_10 : back (graph_of said9) 5 ≡ ((record { number = 5; commit = (record { parent = 2; profile = One; cells = ((codes "del x, y, z") ∷ []) }) }) ∷ (record { number = 2; commit = (record { parent = 1; profile = One; cells = ((codes "y = 0") ∷ []) }) }) ∷ (record { number = 1; commit = (record { parent = 0; profile = One; cells = ((codes "x = [1]; y = [x]; z = [2]") ∷ []) }) }) ∷ [])
back_10 = refl

-- the first 10
graph_11 : graph_of said10 ≡ record { commits = ((record { parent = 2; profile = One; cells = ((codes "del x, y, z") ∷ []) }) ∷ (record { parent = 2; profile = One; cells = ([] ∷ []) }) ∷ (record { parent = 1; profile = One; cells = ((codes "w = z") ∷ (codes "1") ∷ []) }) ∷ (record { parent = 1; profile = One; cells = ((codes "y = 0") ∷ []) }) ∷ (record { parent = 0; profile = One; cells = ((codes "x = [1]; y = [x]; z = [2]") ∷ []) }) ∷ []); branches = (((codes "Z-9_"), 3) ∷ ((codes "main"), 5) ∷ ((codes "try"), 3) ∷ []); head = record { commit = 5; branch = Some (codes "main") }; records = 10 }
graph_11 = refl

change_10 : changed (record { commits = ((record { parent = 2; profile = One; cells = ((codes "del x, y, z") ∷ []) }) ∷ (record { parent = 2; profile = One; cells = ([] ∷ []) }) ∷ (record { parent = 1; profile = One; cells = ((codes "w = z") ∷ (codes "1") ∷ []) }) ∷ (record { parent = 1; profile = One; cells = ((codes "y = 0") ∷ []) }) ∷ (record { parent = 0; profile = One; cells = ((codes "x = [1]; y = [x]; z = [2]") ∷ []) }) ∷ []); branches = (((codes "main"), 5) ∷ ((codes "try"), 3) ∷ []); head = record { commit = 5; branch = Some (codes "main") }; records = 9 }) entry10 ≡ record { commits = ((record { parent = 2; profile = One; cells = ((codes "del x, y, z") ∷ []) }) ∷ (record { parent = 2; profile = One; cells = ([] ∷ []) }) ∷ (record { parent = 1; profile = One; cells = ((codes "w = z") ∷ (codes "1") ∷ []) }) ∷ (record { parent = 1; profile = One; cells = ((codes "y = 0") ∷ []) }) ∷ (record { parent = 0; profile = One; cells = ((codes "x = [1]; y = [x]; z = [2]") ∷ []) }) ∷ []); branches = (((codes "Z-9_"), 3) ∷ ((codes "main"), 5) ∷ ((codes "try"), 3) ∷ []); head = record { commit = 5; branch = Some (codes "main") }; records = 10 }
change_10 = refl

counts_11 : count_of (graph_of said10) 0 ∷ count_of (graph_of said10) 1 ∷ count_of (graph_of said10) 2 ∷ count_of (graph_of said10) 3 ∷ count_of (graph_of said10) 4 ∷ count_of (graph_of said10) 5 ∷ []
    ≡ 0 ∷ 1 ∷ 2 ∷ 3 ∷ 3 ∷ 3 ∷ []
counts_11 = refl

path_11 : path (graph_of said10) 5 ≡ ((record { parent = 0; profile = One; cells = ((codes "x = [1]; y = [x]; z = [2]") ∷ []) }) ∷ (record { parent = 1; profile = One; cells = ((codes "y = 0") ∷ []) }) ∷ (record { parent = 2; profile = One; cells = ((codes "del x, y, z") ∷ []) }) ∷ [])
path_11 = refl

back_11 : back (graph_of said10) 5 ≡ ((record { number = 5; commit = (record { parent = 2; profile = One; cells = ((codes "del x, y, z") ∷ []) }) }) ∷ (record { number = 2; commit = (record { parent = 1; profile = One; cells = ((codes "y = 0") ∷ []) }) }) ∷ (record { number = 1; commit = (record { parent = 0; profile = One; cells = ((codes "x = [1]; y = [x]; z = [2]") ∷ []) }) }) ∷ [])
back_11 = refl

-- the first 11
graph_12 : graph_of said11 ≡ record { commits = ((record { parent = 2; profile = One; cells = ((codes "del x, y, z") ∷ []) }) ∷ (record { parent = 2; profile = One; cells = ([] ∷ []) }) ∷ (record { parent = 1; profile = One; cells = ((codes "w = z") ∷ (codes "1") ∷ []) }) ∷ (record { parent = 1; profile = One; cells = ((codes "y = 0") ∷ []) }) ∷ (record { parent = 0; profile = One; cells = ((codes "x = [1]; y = [x]; z = [2]") ∷ []) }) ∷ []); branches = (((codes "Z-9_"), 3) ∷ ((codes "main"), 5) ∷ ((codes "try"), 3) ∷ []); head = record { commit = 0; branch = None }; records = 11 }
graph_12 = refl

change_11 : changed (record { commits = ((record { parent = 2; profile = One; cells = ((codes "del x, y, z") ∷ []) }) ∷ (record { parent = 2; profile = One; cells = ([] ∷ []) }) ∷ (record { parent = 1; profile = One; cells = ((codes "w = z") ∷ (codes "1") ∷ []) }) ∷ (record { parent = 1; profile = One; cells = ((codes "y = 0") ∷ []) }) ∷ (record { parent = 0; profile = One; cells = ((codes "x = [1]; y = [x]; z = [2]") ∷ []) }) ∷ []); branches = (((codes "Z-9_"), 3) ∷ ((codes "main"), 5) ∷ ((codes "try"), 3) ∷ []); head = record { commit = 5; branch = Some (codes "main") }; records = 10 }) entry11 ≡ record { commits = ((record { parent = 2; profile = One; cells = ((codes "del x, y, z") ∷ []) }) ∷ (record { parent = 2; profile = One; cells = ([] ∷ []) }) ∷ (record { parent = 1; profile = One; cells = ((codes "w = z") ∷ (codes "1") ∷ []) }) ∷ (record { parent = 1; profile = One; cells = ((codes "y = 0") ∷ []) }) ∷ (record { parent = 0; profile = One; cells = ((codes "x = [1]; y = [x]; z = [2]") ∷ []) }) ∷ []); branches = (((codes "Z-9_"), 3) ∷ ((codes "main"), 5) ∷ ((codes "try"), 3) ∷ []); head = record { commit = 0; branch = None }; records = 11 }
change_11 = refl

counts_12 : count_of (graph_of said11) 0 ∷ count_of (graph_of said11) 1 ∷ count_of (graph_of said11) 2 ∷ count_of (graph_of said11) 3 ∷ count_of (graph_of said11) 4 ∷ count_of (graph_of said11) 5 ∷ []
    ≡ 0 ∷ 1 ∷ 2 ∷ 3 ∷ 3 ∷ 3 ∷ []
counts_12 = refl

path_12 : path (graph_of said11) 0 ≡ []
path_12 = refl

back_12 : back (graph_of said11) 0 ≡ []
back_12 = refl

-- the first 12
graph_13 : graph_of said12 ≡ record { commits = ((record { parent = 0; profile = One; cells = ((codes "a = b = 1") ∷ []) }) ∷ (record { parent = 2; profile = One; cells = ((codes "del x, y, z") ∷ []) }) ∷ (record { parent = 2; profile = One; cells = ([] ∷ []) }) ∷ (record { parent = 1; profile = One; cells = ((codes "w = z") ∷ (codes "1") ∷ []) }) ∷ (record { parent = 1; profile = One; cells = ((codes "y = 0") ∷ []) }) ∷ (record { parent = 0; profile = One; cells = ((codes "x = [1]; y = [x]; z = [2]") ∷ []) }) ∷ []); branches = (((codes "Z-9_"), 3) ∷ ((codes "main"), 5) ∷ ((codes "try"), 3) ∷ []); head = record { commit = 6; branch = None }; records = 12 }
graph_13 = refl

change_12 : changed (record { commits = ((record { parent = 2; profile = One; cells = ((codes "del x, y, z") ∷ []) }) ∷ (record { parent = 2; profile = One; cells = ([] ∷ []) }) ∷ (record { parent = 1; profile = One; cells = ((codes "w = z") ∷ (codes "1") ∷ []) }) ∷ (record { parent = 1; profile = One; cells = ((codes "y = 0") ∷ []) }) ∷ (record { parent = 0; profile = One; cells = ((codes "x = [1]; y = [x]; z = [2]") ∷ []) }) ∷ []); branches = (((codes "Z-9_"), 3) ∷ ((codes "main"), 5) ∷ ((codes "try"), 3) ∷ []); head = record { commit = 0; branch = None }; records = 11 }) entry12 ≡ record { commits = ((record { parent = 0; profile = One; cells = ((codes "a = b = 1") ∷ []) }) ∷ (record { parent = 2; profile = One; cells = ((codes "del x, y, z") ∷ []) }) ∷ (record { parent = 2; profile = One; cells = ([] ∷ []) }) ∷ (record { parent = 1; profile = One; cells = ((codes "w = z") ∷ (codes "1") ∷ []) }) ∷ (record { parent = 1; profile = One; cells = ((codes "y = 0") ∷ []) }) ∷ (record { parent = 0; profile = One; cells = ((codes "x = [1]; y = [x]; z = [2]") ∷ []) }) ∷ []); branches = (((codes "Z-9_"), 3) ∷ ((codes "main"), 5) ∷ ((codes "try"), 3) ∷ []); head = record { commit = 6; branch = None }; records = 12 }
change_12 = refl

counts_13 : count_of (graph_of said12) 0 ∷ count_of (graph_of said12) 1 ∷ count_of (graph_of said12) 2 ∷ count_of (graph_of said12) 3 ∷ count_of (graph_of said12) 4 ∷ count_of (graph_of said12) 5 ∷ count_of (graph_of said12) 6 ∷ []
    ≡ 0 ∷ 1 ∷ 2 ∷ 3 ∷ 3 ∷ 3 ∷ 1 ∷ []
counts_13 = refl

path_13 : path (graph_of said12) 6 ≡ ((record { parent = 0; profile = One; cells = ((codes "a = b = 1") ∷ []) }) ∷ [])
path_13 = refl

back_13 : back (graph_of said12) 6 ≡ ((record { number = 6; commit = (record { parent = 0; profile = One; cells = ((codes "a = b = 1") ∷ []) }) }) ∷ [])
back_13 = refl

-- the first 13
graph_14 : graph_of said13 ≡ record { commits = ((record { parent = 0; profile = One; cells = ((codes "a = b = 1") ∷ []) }) ∷ (record { parent = 2; profile = One; cells = ((codes "del x, y, z") ∷ []) }) ∷ (record { parent = 2; profile = One; cells = ([] ∷ []) }) ∷ (record { parent = 1; profile = One; cells = ((codes "w = z") ∷ (codes "1") ∷ []) }) ∷ (record { parent = 1; profile = One; cells = ((codes "y = 0") ∷ []) }) ∷ (record { parent = 0; profile = One; cells = ((codes "x = [1]; y = [x]; z = [2]") ∷ []) }) ∷ []); branches = (((codes "Z-9_"), 3) ∷ ((codes "main"), 5) ∷ ((codes "try"), 3) ∷ []); head = record { commit = 3; branch = Some (codes "Z-9_") }; records = 13 }
graph_14 = refl

change_13 : changed (record { commits = ((record { parent = 0; profile = One; cells = ((codes "a = b = 1") ∷ []) }) ∷ (record { parent = 2; profile = One; cells = ((codes "del x, y, z") ∷ []) }) ∷ (record { parent = 2; profile = One; cells = ([] ∷ []) }) ∷ (record { parent = 1; profile = One; cells = ((codes "w = z") ∷ (codes "1") ∷ []) }) ∷ (record { parent = 1; profile = One; cells = ((codes "y = 0") ∷ []) }) ∷ (record { parent = 0; profile = One; cells = ((codes "x = [1]; y = [x]; z = [2]") ∷ []) }) ∷ []); branches = (((codes "Z-9_"), 3) ∷ ((codes "main"), 5) ∷ ((codes "try"), 3) ∷ []); head = record { commit = 6; branch = None }; records = 12 }) entry13 ≡ record { commits = ((record { parent = 0; profile = One; cells = ((codes "a = b = 1") ∷ []) }) ∷ (record { parent = 2; profile = One; cells = ((codes "del x, y, z") ∷ []) }) ∷ (record { parent = 2; profile = One; cells = ([] ∷ []) }) ∷ (record { parent = 1; profile = One; cells = ((codes "w = z") ∷ (codes "1") ∷ []) }) ∷ (record { parent = 1; profile = One; cells = ((codes "y = 0") ∷ []) }) ∷ (record { parent = 0; profile = One; cells = ((codes "x = [1]; y = [x]; z = [2]") ∷ []) }) ∷ []); branches = (((codes "Z-9_"), 3) ∷ ((codes "main"), 5) ∷ ((codes "try"), 3) ∷ []); head = record { commit = 3; branch = Some (codes "Z-9_") }; records = 13 }
change_13 = refl

counts_14 : count_of (graph_of said13) 0 ∷ count_of (graph_of said13) 1 ∷ count_of (graph_of said13) 2 ∷ count_of (graph_of said13) 3 ∷ count_of (graph_of said13) 4 ∷ count_of (graph_of said13) 5 ∷ count_of (graph_of said13) 6 ∷ []
    ≡ 0 ∷ 1 ∷ 2 ∷ 3 ∷ 3 ∷ 3 ∷ 1 ∷ []
counts_14 = refl

path_14 : path (graph_of said13) 3 ≡ ((record { parent = 0; profile = One; cells = ((codes "x = [1]; y = [x]; z = [2]") ∷ []) }) ∷ (record { parent = 1; profile = One; cells = ((codes "w = z") ∷ (codes "1") ∷ []) }) ∷ [])
path_14 = refl

back_14 : back (graph_of said13) 3 ≡ ((record { number = 3; commit = (record { parent = 1; profile = One; cells = ((codes "w = z") ∷ (codes "1") ∷ []) }) }) ∷ (record { number = 1; commit = (record { parent = 0; profile = One; cells = ((codes "x = [1]; y = [x]; z = [2]") ∷ []) }) }) ∷ [])
back_14 = refl

-- the first 14
graph_15 : graph_of said14 ≡ record { commits = ((record { parent = 3; profile = One; cells = ((codes "y = w") ∷ []) }) ∷ (record { parent = 0; profile = One; cells = ((codes "a = b = 1") ∷ []) }) ∷ (record { parent = 2; profile = One; cells = ((codes "del x, y, z") ∷ []) }) ∷ (record { parent = 2; profile = One; cells = ([] ∷ []) }) ∷ (record { parent = 1; profile = One; cells = ((codes "w = z") ∷ (codes "1") ∷ []) }) ∷ (record { parent = 1; profile = One; cells = ((codes "y = 0") ∷ []) }) ∷ (record { parent = 0; profile = One; cells = ((codes "x = [1]; y = [x]; z = [2]") ∷ []) }) ∷ []); branches = (((codes "Z-9_"), 7) ∷ ((codes "main"), 5) ∷ ((codes "try"), 3) ∷ []); head = record { commit = 7; branch = Some (codes "Z-9_") }; records = 14 }
graph_15 = refl

change_14 : changed (record { commits = ((record { parent = 0; profile = One; cells = ((codes "a = b = 1") ∷ []) }) ∷ (record { parent = 2; profile = One; cells = ((codes "del x, y, z") ∷ []) }) ∷ (record { parent = 2; profile = One; cells = ([] ∷ []) }) ∷ (record { parent = 1; profile = One; cells = ((codes "w = z") ∷ (codes "1") ∷ []) }) ∷ (record { parent = 1; profile = One; cells = ((codes "y = 0") ∷ []) }) ∷ (record { parent = 0; profile = One; cells = ((codes "x = [1]; y = [x]; z = [2]") ∷ []) }) ∷ []); branches = (((codes "Z-9_"), 3) ∷ ((codes "main"), 5) ∷ ((codes "try"), 3) ∷ []); head = record { commit = 3; branch = Some (codes "Z-9_") }; records = 13 }) entry14 ≡ record { commits = ((record { parent = 3; profile = One; cells = ((codes "y = w") ∷ []) }) ∷ (record { parent = 0; profile = One; cells = ((codes "a = b = 1") ∷ []) }) ∷ (record { parent = 2; profile = One; cells = ((codes "del x, y, z") ∷ []) }) ∷ (record { parent = 2; profile = One; cells = ([] ∷ []) }) ∷ (record { parent = 1; profile = One; cells = ((codes "w = z") ∷ (codes "1") ∷ []) }) ∷ (record { parent = 1; profile = One; cells = ((codes "y = 0") ∷ []) }) ∷ (record { parent = 0; profile = One; cells = ((codes "x = [1]; y = [x]; z = [2]") ∷ []) }) ∷ []); branches = (((codes "Z-9_"), 7) ∷ ((codes "main"), 5) ∷ ((codes "try"), 3) ∷ []); head = record { commit = 7; branch = Some (codes "Z-9_") }; records = 14 }
change_14 = refl

counts_15 : count_of (graph_of said14) 0 ∷ count_of (graph_of said14) 1 ∷ count_of (graph_of said14) 2 ∷ count_of (graph_of said14) 3 ∷ count_of (graph_of said14) 4 ∷ count_of (graph_of said14) 5 ∷ count_of (graph_of said14) 6 ∷ count_of (graph_of said14) 7 ∷ []
    ≡ 0 ∷ 1 ∷ 2 ∷ 3 ∷ 3 ∷ 3 ∷ 1 ∷ 4 ∷ []
counts_15 = refl

path_15 : path (graph_of said14) 7 ≡ ((record { parent = 0; profile = One; cells = ((codes "x = [1]; y = [x]; z = [2]") ∷ []) }) ∷ (record { parent = 1; profile = One; cells = ((codes "w = z") ∷ (codes "1") ∷ []) }) ∷ (record { parent = 3; profile = One; cells = ((codes "y = w") ∷ []) }) ∷ [])
path_15 = refl

back_15 : back (graph_of said14) 7 ≡ ((record { number = 7; commit = (record { parent = 3; profile = One; cells = ((codes "y = w") ∷ []) }) }) ∷ (record { number = 3; commit = (record { parent = 1; profile = One; cells = ((codes "w = z") ∷ (codes "1") ∷ []) }) }) ∷ (record { number = 1; commit = (record { parent = 0; profile = One; cells = ((codes "x = [1]; y = [x]; z = [2]") ∷ []) }) }) ∷ [])
back_15 = refl
