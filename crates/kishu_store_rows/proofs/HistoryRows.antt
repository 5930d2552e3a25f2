-- What records make of the tables of commits, and where their pictures lie: computed on the definitions. Made by tools/rows/record_rows.py.
use Rattle.std.specs.Prelude.{◌≡◌, [], ◌∷◌, codes, Some, None, refl}
use Rattle.kishu_language.specs.declared.profile.Profile.TheVariants.{One}
use Rattle.kishu_store.specs.Entries.{commit}
use Rattle.kishu_store.specs.EntryBytes.{head_of, body_of}
use Rattle.kishu_store.specs.Tables.{bytes_at}
use Rattle.kishu_store.specs.Histories.{gives, led, table_to, head_table}
use Rattle.kishu_store.specs.Holds.{history_of, front, end_of, header, framed}
use Rattle.kishu_store_rows.proofs.Records.{entry1, entry2, entry3, entry4, entry5, entry6, entry7, entry8, entry9, entry10, entry11, entry12, entry13, entry14, first0, first1, first2, first3, first4, first5, first6, first7, first8, first9, first10, first11, first12, first13, first14, said0, said1, said2, said3, said4, said5, said6, said7, said8, said9, said10, said11, said12, said13, said14}

-- the first 0
history_1 : history_of said0 ≡ record { graph = record { commits = []; branches = (((codes "main"), 0) ∷ []); head = record { commit = 0; branch = Some (codes "main") }; records = 0 }; changes = []; place = 16 }
unfolding head_of
history_1 = refl

table_1 : head_table (history_of said0) ≡ []
unfolding head_of
table_1 = refl

place_1 : (history_of said0).place ∷ end_of first0 ∷ []
    ≡ 16 ∷ 16 ∷ []
unfolding header framed head_of body_of
place_1 = refl

-- the first 1
history_2 : history_of said1 ≡ record { graph = record { commits = ((record { parent = 0; profile = One; cells = ((codes "x = [1]; y = [x]; z = [2]") ∷ []) }) ∷ []); branches = (((codes "main"), 1) ∷ []); head = record { commit = 1; branch = Some (codes "main") }; records = 1 }; changes = ((record { dropped = []; stored = ((record { group = ((codes "x") ∷ (codes "y") ∷ []); version = 1; place = 106; len = 3 }) ∷ (record { group = ((codes "z") ∷ []); version = 1; place = 109; len = 1 }) ∷ []) }) ∷ []); place = 110 }
unfolding head_of
history_2 = refl

table_2 : head_table (history_of said1) ≡ ((record { group = ((codes "x") ∷ (codes "y") ∷ []); version = 1; place = 106; len = 3 }) ∷ (record { group = ((codes "z") ∷ []); version = 1; place = 109; len = 1 }) ∷ [])
unfolding head_of
table_2 = refl

place_2 : (history_of said1).place ∷ end_of first1 ∷ []
    ≡ 110 ∷ 110 ∷ []
unfolding header framed head_of body_of
place_2 = refl

gives_1 : gives (history_of said0) entry1 ≡ ((record { dropped = []; stored = ((record { group = ((codes "x") ∷ (codes "y") ∷ []); version = 1; place = 106; len = 3 }) ∷ (record { group = ((codes "z") ∷ []); version = 1; place = 109; len = 1 }) ∷ []) }) ∷ [])
unfolding head_of
gives_1 = refl

led_1 : led (history_of said0) entry1 ≡ record { graph = record { commits = ((record { parent = 0; profile = One; cells = ((codes "x = [1]; y = [x]; z = [2]") ∷ []) }) ∷ []); branches = (((codes "main"), 1) ∷ []); head = record { commit = 1; branch = Some (codes "main") }; records = 1 }; changes = ((record { dropped = []; stored = ((record { group = ((codes "x") ∷ (codes "y") ∷ []); version = 1; place = 106; len = 3 }) ∷ (record { group = ((codes "z") ∷ []); version = 1; place = 109; len = 1 }) ∷ []) }) ∷ []); place = 110 }
unfolding head_of
led_1 = refl

-- the first 2
history_3 : history_of said2 ≡ record { graph = record { commits = ((record { parent = 1; profile = One; cells = ((codes "y = 0") ∷ []) }) ∷ (record { parent = 0; profile = One; cells = ((codes "x = [1]; y = [x]; z = [2]") ∷ []) }) ∷ []); branches = (((codes "main"), 2) ∷ []); head = record { commit = 2; branch = Some (codes "main") }; records = 2 }; changes = ((record { dropped = (((codes "x") ∷ (codes "y") ∷ []) ∷ []); stored = ((record { group = ((codes "x") ∷ []); version = 2; place = 186; len = 2 }) ∷ (record { group = ((codes "y") ∷ []); version = 2; place = 188; len = 1 }) ∷ []) }) ∷ (record { dropped = []; stored = ((record { group = ((codes "x") ∷ (codes "y") ∷ []); version = 1; place = 106; len = 3 }) ∷ (record { group = ((codes "z") ∷ []); version = 1; place = 109; len = 1 }) ∷ []) }) ∷ []); place = 189 }
unfolding head_of
history_3 = refl

table_3 : head_table (history_of said2) ≡ ((record { group = ((codes "x") ∷ []); version = 2; place = 186; len = 2 }) ∷ (record { group = ((codes "y") ∷ []); version = 2; place = 188; len = 1 }) ∷ (record { group = ((codes "z") ∷ []); version = 1; place = 109; len = 1 }) ∷ [])
unfolding head_of
table_3 = refl

place_3 : (history_of said2).place ∷ end_of first2 ∷ []
    ≡ 189 ∷ 189 ∷ []
unfolding header framed head_of body_of
place_3 = refl

gives_2 : gives (history_of said1) entry2 ≡ ((record { dropped = (((codes "x") ∷ (codes "y") ∷ []) ∷ []); stored = ((record { group = ((codes "x") ∷ []); version = 2; place = 186; len = 2 }) ∷ (record { group = ((codes "y") ∷ []); version = 2; place = 188; len = 1 }) ∷ []) }) ∷ [])
unfolding head_of
gives_2 = refl

led_2 : led (history_of said1) entry2 ≡ record { graph = record { commits = ((record { parent = 1; profile = One; cells = ((codes "y = 0") ∷ []) }) ∷ (record { parent = 0; profile = One; cells = ((codes "x = [1]; y = [x]; z = [2]") ∷ []) }) ∷ []); branches = (((codes "main"), 2) ∷ []); head = record { commit = 2; branch = Some (codes "main") }; records = 2 }; changes = ((record { dropped = (((codes "x") ∷ (codes "y") ∷ []) ∷ []); stored = ((record { group = ((codes "x") ∷ []); version = 2; place = 186; len = 2 }) ∷ (record { group = ((codes "y") ∷ []); version = 2; place = 188; len = 1 }) ∷ []) }) ∷ (record { dropped = []; stored = ((record { group = ((codes "x") ∷ (codes "y") ∷ []); version = 1; place = 106; len = 3 }) ∷ (record { group = ((codes "z") ∷ []); version = 1; place = 109; len = 1 }) ∷ []) }) ∷ []); place = 189 }
unfolding head_of
led_2 = refl

-- the first 3
history_4 : history_of said3 ≡ record { graph = record { commits = ((record { parent = 1; profile = One; cells = ((codes "y = 0") ∷ []) }) ∷ (record { parent = 0; profile = One; cells = ((codes "x = [1]; y = [x]; z = [2]") ∷ []) }) ∷ []); branches = (((codes "main"), 2) ∷ ((codes "try"), 1) ∷ []); head = record { commit = 2; branch = Some (codes "main") }; records = 3 }; changes = ((record { dropped = (((codes "x") ∷ (codes "y") ∷ []) ∷ []); stored = ((record { group = ((codes "x") ∷ []); version = 2; place = 186; len = 2 }) ∷ (record { group = ((codes "y") ∷ []); version = 2; place = 188; len = 1 }) ∷ []) }) ∷ (record { dropped = []; stored = ((record { group = ((codes "x") ∷ (codes "y") ∷ []); version = 1; place = 106; len = 3 }) ∷ (record { group = ((codes "z") ∷ []); version = 1; place = 109; len = 1 }) ∷ []) }) ∷ []); place = 211 }
unfolding head_of
history_4 = refl

table_4 : head_table (history_of said3) ≡ ((record { group = ((codes "x") ∷ []); version = 2; place = 186; len = 2 }) ∷ (record { group = ((codes "y") ∷ []); version = 2; place = 188; len = 1 }) ∷ (record { group = ((codes "z") ∷ []); version = 1; place = 109; len = 1 }) ∷ [])
unfolding head_of
table_4 = refl

place_4 : (history_of said3).place ∷ end_of first3 ∷ []
    ≡ 211 ∷ 211 ∷ []
unfolding header framed head_of body_of
place_4 = refl

gives_3 : gives (history_of said2) entry3 ≡ []
unfolding head_of
gives_3 = refl

led_3 : led (history_of said2) entry3 ≡ record { graph = record { commits = ((record { parent = 1; profile = One; cells = ((codes "y = 0") ∷ []) }) ∷ (record { parent = 0; profile = One; cells = ((codes "x = [1]; y = [x]; z = [2]") ∷ []) }) ∷ []); branches = (((codes "main"), 2) ∷ ((codes "try"), 1) ∷ []); head = record { commit = 2; branch = Some (codes "main") }; records = 3 }; changes = ((record { dropped = (((codes "x") ∷ (codes "y") ∷ []) ∷ []); stored = ((record { group = ((codes "x") ∷ []); version = 2; place = 186; len = 2 }) ∷ (record { group = ((codes "y") ∷ []); version = 2; place = 188; len = 1 }) ∷ []) }) ∷ (record { dropped = []; stored = ((record { group = ((codes "x") ∷ (codes "y") ∷ []); version = 1; place = 106; len = 3 }) ∷ (record { group = ((codes "z") ∷ []); version = 1; place = 109; len = 1 }) ∷ []) }) ∷ []); place = 211 }
unfolding head_of
led_3 = refl

-- the first 4
history_5 : history_of said4 ≡ record { graph = record { commits = ((record { parent = 1; profile = One; cells = ((codes "y = 0") ∷ []) }) ∷ (record { parent = 0; profile = One; cells = ((codes "x = [1]; y = [x]; z = [2]") ∷ []) }) ∷ []); branches = (((codes "main"), 2) ∷ ((codes "try"), 1) ∷ []); head = record { commit = 1; branch = Some (codes "try") }; records = 4 }; changes = ((record { dropped = (((codes "x") ∷ (codes "y") ∷ []) ∷ []); stored = ((record { group = ((codes "x") ∷ []); version = 2; place = 186; len = 2 }) ∷ (record { group = ((codes "y") ∷ []); version = 2; place = 188; len = 1 }) ∷ []) }) ∷ (record { dropped = []; stored = ((record { group = ((codes "x") ∷ (codes "y") ∷ []); version = 1; place = 106; len = 3 }) ∷ (record { group = ((codes "z") ∷ []); version = 1; place = 109; len = 1 }) ∷ []) }) ∷ []); place = 230 }
unfolding head_of
history_5 = refl

table_5 : head_table (history_of said4) ≡ ((record { group = ((codes "x") ∷ (codes "y") ∷ []); version = 1; place = 106; len = 3 }) ∷ (record { group = ((codes "z") ∷ []); version = 1; place = 109; len = 1 }) ∷ [])
unfolding head_of
table_5 = refl

place_5 : (history_of said4).place ∷ end_of first4 ∷ []
    ≡ 230 ∷ 230 ∷ []
unfolding header framed head_of body_of
place_5 = refl

gives_4 : gives (history_of said3) entry4 ≡ []
unfolding head_of
gives_4 = refl

led_4 : led (history_of said3) entry4 ≡ record { graph = record { commits = ((record { parent = 1; profile = One; cells = ((codes "y = 0") ∷ []) }) ∷ (record { parent = 0; profile = One; cells = ((codes "x = [1]; y = [x]; z = [2]") ∷ []) }) ∷ []); branches = (((codes "main"), 2) ∷ ((codes "try"), 1) ∷ []); head = record { commit = 1; branch = Some (codes "try") }; records = 4 }; changes = ((record { dropped = (((codes "x") ∷ (codes "y") ∷ []) ∷ []); stored = ((record { group = ((codes "x") ∷ []); version = 2; place = 186; len = 2 }) ∷ (record { group = ((codes "y") ∷ []); version = 2; place = 188; len = 1 }) ∷ []) }) ∷ (record { dropped = []; stored = ((record { group = ((codes "x") ∷ (codes "y") ∷ []); version = 1; place = 106; len = 3 }) ∷ (record { group = ((codes "z") ∷ []); version = 1; place = 109; len = 1 }) ∷ []) }) ∷ []); place = 230 }
unfolding head_of
led_4 = refl

-- the first 5
history_6 : history_of said5 ≡ record { graph = record { commits = ((record { parent = 1; profile = One; cells = ((codes "w = z") ∷ (codes "1") ∷ []) }) ∷ (record { parent = 1; profile = One; cells = ((codes "y = 0") ∷ []) }) ∷ (record { parent = 0; profile = One; cells = ((codes "x = [1]; y = [x]; z = [2]") ∷ []) }) ∷ []); branches = (((codes "main"), 2) ∷ ((codes "try"), 3) ∷ []); head = record { commit = 3; branch = Some (codes "try") }; records = 5 }; changes = ((record { dropped = (((codes "z") ∷ []) ∷ []); stored = ((record { group = ((codes "w") ∷ (codes "z") ∷ []); version = 3; place = 297; len = 2 }) ∷ []) }) ∷ (record { dropped = (((codes "x") ∷ (codes "y") ∷ []) ∷ []); stored = ((record { group = ((codes "x") ∷ []); version = 2; place = 186; len = 2 }) ∷ (record { group = ((codes "y") ∷ []); version = 2; place = 188; len = 1 }) ∷ []) }) ∷ (record { dropped = []; stored = ((record { group = ((codes "x") ∷ (codes "y") ∷ []); version = 1; place = 106; len = 3 }) ∷ (record { group = ((codes "z") ∷ []); version = 1; place = 109; len = 1 }) ∷ []) }) ∷ []); place = 299 }
unfolding head_of
history_6 = refl

table_6 : head_table (history_of said5) ≡ ((record { group = ((codes "w") ∷ (codes "z") ∷ []); version = 3; place = 297; len = 2 }) ∷ (record { group = ((codes "x") ∷ (codes "y") ∷ []); version = 1; place = 106; len = 3 }) ∷ [])
unfolding head_of
table_6 = refl

place_6 : (history_of said5).place ∷ end_of first5 ∷ []
    ≡ 299 ∷ 299 ∷ []
unfolding header framed head_of body_of
place_6 = refl

gives_5 : gives (history_of said4) entry5 ≡ ((record { dropped = (((codes "z") ∷ []) ∷ []); stored = ((record { group = ((codes "w") ∷ (codes "z") ∷ []); version = 3; place = 297; len = 2 }) ∷ []) }) ∷ [])
unfolding head_of
gives_5 = refl

led_5 : led (history_of said4) entry5 ≡ record { graph = record { commits = ((record { parent = 1; profile = One; cells = ((codes "w = z") ∷ (codes "1") ∷ []) }) ∷ (record { parent = 1; profile = One; cells = ((codes "y = 0") ∷ []) }) ∷ (record { parent = 0; profile = One; cells = ((codes "x = [1]; y = [x]; z = [2]") ∷ []) }) ∷ []); branches = (((codes "main"), 2) ∷ ((codes "try"), 3) ∷ []); head = record { commit = 3; branch = Some (codes "try") }; records = 5 }; changes = ((record { dropped = (((codes "z") ∷ []) ∷ []); stored = ((record { group = ((codes "w") ∷ (codes "z") ∷ []); version = 3; place = 297; len = 2 }) ∷ []) }) ∷ (record { dropped = (((codes "x") ∷ (codes "y") ∷ []) ∷ []); stored = ((record { group = ((codes "x") ∷ []); version = 2; place = 186; len = 2 }) ∷ (record { group = ((codes "y") ∷ []); version = 2; place = 188; len = 1 }) ∷ []) }) ∷ (record { dropped = []; stored = ((record { group = ((codes "x") ∷ (codes "y") ∷ []); version = 1; place = 106; len = 3 }) ∷ (record { group = ((codes "z") ∷ []); version = 1; place = 109; len = 1 }) ∷ []) }) ∷ []); place = 299 }
unfolding head_of
led_5 = refl

-- the first 6
history_7 : history_of said6 ≡ record { graph = record { commits = ((record { parent = 1; profile = One; cells = ((codes "w = z") ∷ (codes "1") ∷ []) }) ∷ (record { parent = 1; profile = One; cells = ((codes "y = 0") ∷ []) }) ∷ (record { parent = 0; profile = One; cells = ((codes "x = [1]; y = [x]; z = [2]") ∷ []) }) ∷ []); branches = (((codes "main"), 2) ∷ ((codes "try"), 3) ∷ []); head = record { commit = 2; branch = None }; records = 6 }; changes = ((record { dropped = (((codes "z") ∷ []) ∷ []); stored = ((record { group = ((codes "w") ∷ (codes "z") ∷ []); version = 3; place = 297; len = 2 }) ∷ []) }) ∷ (record { dropped = (((codes "x") ∷ (codes "y") ∷ []) ∷ []); stored = ((record { group = ((codes "x") ∷ []); version = 2; place = 186; len = 2 }) ∷ (record { group = ((codes "y") ∷ []); version = 2; place = 188; len = 1 }) ∷ []) }) ∷ (record { dropped = []; stored = ((record { group = ((codes "x") ∷ (codes "y") ∷ []); version = 1; place = 106; len = 3 }) ∷ (record { group = ((codes "z") ∷ []); version = 1; place = 109; len = 1 }) ∷ []) }) ∷ []); place = 318 }
unfolding head_of
history_7 = refl

table_7 : head_table (history_of said6) ≡ ((record { group = ((codes "x") ∷ []); version = 2; place = 186; len = 2 }) ∷ (record { group = ((codes "y") ∷ []); version = 2; place = 188; len = 1 }) ∷ (record { group = ((codes "z") ∷ []); version = 1; place = 109; len = 1 }) ∷ [])
unfolding head_of
table_7 = refl

place_7 : (history_of said6).place ∷ end_of first6 ∷ []
    ≡ 318 ∷ 318 ∷ []
unfolding header framed head_of body_of
place_7 = refl

gives_6 : gives (history_of said5) entry6 ≡ []
unfolding head_of
gives_6 = refl

led_6 : led (history_of said5) entry6 ≡ record { graph = record { commits = ((record { parent = 1; profile = One; cells = ((codes "w = z") ∷ (codes "1") ∷ []) }) ∷ (record { parent = 1; profile = One; cells = ((codes "y = 0") ∷ []) }) ∷ (record { parent = 0; profile = One; cells = ((codes "x = [1]; y = [x]; z = [2]") ∷ []) }) ∷ []); branches = (((codes "main"), 2) ∷ ((codes "try"), 3) ∷ []); head = record { commit = 2; branch = None }; records = 6 }; changes = ((record { dropped = (((codes "z") ∷ []) ∷ []); stored = ((record { group = ((codes "w") ∷ (codes "z") ∷ []); version = 3; place = 297; len = 2 }) ∷ []) }) ∷ (record { dropped = (((codes "x") ∷ (codes "y") ∷ []) ∷ []); stored = ((record { group = ((codes "x") ∷ []); version = 2; place = 186; len = 2 }) ∷ (record { group = ((codes "y") ∷ []); version = 2; place = 188; len = 1 }) ∷ []) }) ∷ (record { dropped = []; stored = ((record { group = ((codes "x") ∷ (codes "y") ∷ []); version = 1; place = 106; len = 3 }) ∷ (record { group = ((codes "z") ∷ []); version = 1; place = 109; len = 1 }) ∷ []) }) ∷ []); place = 318 }
unfolding head_of
led_6 = refl

-- the first 7
history_8 : history_of said7 ≡ record { graph = record { commits = ((record { parent = 2; profile = One; cells = ([] ∷ []) }) ∷ (record { parent = 1; profile = One; cells = ((codes "w = z") ∷ (codes "1") ∷ []) }) ∷ (record { parent = 1; profile = One; cells = ((codes "y = 0") ∷ []) }) ∷ (record { parent = 0; profile = One; cells = ((codes "x = [1]; y = [x]; z = [2]") ∷ []) }) ∷ []); branches = (((codes "main"), 2) ∷ ((codes "try"), 3) ∷ []); head = record { commit = 4; branch = None }; records = 7 }; changes = ((record { dropped = []; stored = [] }) ∷ (record { dropped = (((codes "z") ∷ []) ∷ []); stored = ((record { group = ((codes "w") ∷ (codes "z") ∷ []); version = 3; place = 297; len = 2 }) ∷ []) }) ∷ (record { dropped = (((codes "x") ∷ (codes "y") ∷ []) ∷ []); stored = ((record { group = ((codes "x") ∷ []); version = 2; place = 186; len = 2 }) ∷ (record { group = ((codes "y") ∷ []); version = 2; place = 188; len = 1 }) ∷ []) }) ∷ (record { dropped = []; stored = ((record { group = ((codes "x") ∷ (codes "y") ∷ []); version = 1; place = 106; len = 3 }) ∷ (record { group = ((codes "z") ∷ []); version = 1; place = 109; len = 1 }) ∷ []) }) ∷ []); place = 353 }
unfolding head_of
history_8 = refl

table_8 : head_table (history_of said7) ≡ ((record { group = ((codes "x") ∷ []); version = 2; place = 186; len = 2 }) ∷ (record { group = ((codes "y") ∷ []); version = 2; place = 188; len = 1 }) ∷ (record { group = ((codes "z") ∷ []); version = 1; place = 109; len = 1 }) ∷ [])
unfolding head_of
table_8 = refl

place_8 : (history_of said7).place ∷ end_of first7 ∷ []
    ≡ 353 ∷ 353 ∷ []
unfolding header framed head_of body_of
place_8 = refl

gives_7 : gives (history_of said6) entry7 ≡ ((record { dropped = []; stored = [] }) ∷ [])
unfolding head_of
gives_7 = refl

led_7 : led (history_of said6) entry7 ≡ record { graph = record { commits = ((record { parent = 2; profile = One; cells = ([] ∷ []) }) ∷ (record { parent = 1; profile = One; cells = ((codes "w = z") ∷ (codes "1") ∷ []) }) ∷ (record { parent = 1; profile = One; cells = ((codes "y = 0") ∷ []) }) ∷ (record { parent = 0; profile = One; cells = ((codes "x = [1]; y = [x]; z = [2]") ∷ []) }) ∷ []); branches = (((codes "main"), 2) ∷ ((codes "try"), 3) ∷ []); head = record { commit = 4; branch = None }; records = 7 }; changes = ((record { dropped = []; stored = [] }) ∷ (record { dropped = (((codes "z") ∷ []) ∷ []); stored = ((record { group = ((codes "w") ∷ (codes "z") ∷ []); version = 3; place = 297; len = 2 }) ∷ []) }) ∷ (record { dropped = (((codes "x") ∷ (codes "y") ∷ []) ∷ []); stored = ((record { group = ((codes "x") ∷ []); version = 2; place = 186; len = 2 }) ∷ (record { group = ((codes "y") ∷ []); version = 2; place = 188; len = 1 }) ∷ []) }) ∷ (record { dropped = []; stored = ((record { group = ((codes "x") ∷ (codes "y") ∷ []); version = 1; place = 106; len = 3 }) ∷ (record { group = ((codes "z") ∷ []); version = 1; place = 109; len = 1 }) ∷ []) }) ∷ []); place = 353 }
unfolding head_of
led_7 = refl

-- the first 8
history_9 : history_of said8 ≡ record { graph = record { commits = ((record { parent = 2; profile = One; cells = ([] ∷ []) }) ∷ (record { parent = 1; profile = One; cells = ((codes "w = z") ∷ (codes "1") ∷ []) }) ∷ (record { parent = 1; profile = One; cells = ((codes "y = 0") ∷ []) }) ∷ (record { parent = 0; profile = One; cells = ((codes "x = [1]; y = [x]; z = [2]") ∷ []) }) ∷ []); branches = (((codes "main"), 2) ∷ ((codes "try"), 3) ∷ []); head = record { commit = 2; branch = Some (codes "main") }; records = 8 }; changes = ((record { dropped = []; stored = [] }) ∷ (record { dropped = (((codes "z") ∷ []) ∷ []); stored = ((record { group = ((codes "w") ∷ (codes "z") ∷ []); version = 3; place = 297; len = 2 }) ∷ []) }) ∷ (record { dropped = (((codes "x") ∷ (codes "y") ∷ []) ∷ []); stored = ((record { group = ((codes "x") ∷ []); version = 2; place = 186; len = 2 }) ∷ (record { group = ((codes "y") ∷ []); version = 2; place = 188; len = 1 }) ∷ []) }) ∷ (record { dropped = []; stored = ((record { group = ((codes "x") ∷ (codes "y") ∷ []); version = 1; place = 106; len = 3 }) ∷ (record { group = ((codes "z") ∷ []); version = 1; place = 109; len = 1 }) ∷ []) }) ∷ []); place = 373 }
unfolding head_of
history_9 = refl

table_9 : head_table (history_of said8) ≡ ((record { group = ((codes "x") ∷ []); version = 2; place = 186; len = 2 }) ∷ (record { group = ((codes "y") ∷ []); version = 2; place = 188; len = 1 }) ∷ (record { group = ((codes "z") ∷ []); version = 1; place = 109; len = 1 }) ∷ [])
unfolding head_of
table_9 = refl

place_9 : (history_of said8).place ∷ end_of first8 ∷ []
    ≡ 373 ∷ 373 ∷ []
unfolding header framed head_of body_of
place_9 = refl

gives_8 : gives (history_of said7) entry8 ≡ []
unfolding head_of
gives_8 = refl

led_8 : led (history_of said7) entry8 ≡ record { graph = record { commits = ((record { parent = 2; profile = One; cells = ([] ∷ []) }) ∷ (record { parent = 1; profile = One; cells = ((codes "w = z") ∷ (codes "1") ∷ []) }) ∷ (record { parent = 1; profile = One; cells = ((codes "y = 0") ∷ []) }) ∷ (record { parent = 0; profile = One; cells = ((codes "x = [1]; y = [x]; z = [2]") ∷ []) }) ∷ []); branches = (((codes "main"), 2) ∷ ((codes "try"), 3) ∷ []); head = record { commit = 2; branch = Some (codes "main") }; records = 8 }; changes = ((record { dropped = []; stored = [] }) ∷ (record { dropped = (((codes "z") ∷ []) ∷ []); stored = ((record { group = ((codes "w") ∷ (codes "z") ∷ []); version = 3; place = 297; len = 2 }) ∷ []) }) ∷ (record { dropped = (((codes "x") ∷ (codes "y") ∷ []) ∷ []); stored = ((record { group = ((codes "x") ∷ []); version = 2; place = 186; len = 2 }) ∷ (record { group = ((codes "y") ∷ []); version = 2; place = 188; len = 1 }) ∷ []) }) ∷ (record { dropped = []; stored = ((record { group = ((codes "x") ∷ (codes "y") ∷ []); version = 1; place = 106; len = 3 }) ∷ (record { group = ((codes "z") ∷ []); version = 1; place = 109; len = 1 }) ∷ []) }) ∷ []); place = 373 }
unfolding head_of
led_8 = refl

-- the first 9
history_10 : history_of said9 ≡ record { graph = record { commits = ((record { parent = 2; profile = One; cells = ((codes "del x, y, z") ∷ []) }) ∷ (record { parent = 2; profile = One; cells = ([] ∷ []) }) ∷ (record { parent = 1; profile = One; cells = ((codes "w = z") ∷ (codes "1") ∷ []) }) ∷ (record { parent = 1; profile = One; cells = ((codes "y = 0") ∷ []) }) ∷ (record { parent = 0; profile = One; cells = ((codes "x = [1]; y = [x]; z = [2]") ∷ []) }) ∷ []); branches = (((codes "main"), 5) ∷ ((codes "try"), 3) ∷ []); head = record { commit = 5; branch = Some (codes "main") }; records = 9 }; changes = ((record { dropped = (((codes "x") ∷ []) ∷ ((codes "y") ∷ []) ∷ ((codes "z") ∷ []) ∷ []); stored = [] }) ∷ (record { dropped = []; stored = [] }) ∷ (record { dropped = (((codes "z") ∷ []) ∷ []); stored = ((record { group = ((codes "w") ∷ (codes "z") ∷ []); version = 3; place = 297; len = 2 }) ∷ []) }) ∷ (record { dropped = (((codes "x") ∷ (codes "y") ∷ []) ∷ []); stored = ((record { group = ((codes "x") ∷ []); version = 2; place = 186; len = 2 }) ∷ (record { group = ((codes "y") ∷ []); version = 2; place = 188; len = 1 }) ∷ []) }) ∷ (record { dropped = []; stored = ((record { group = ((codes "x") ∷ (codes "y") ∷ []); version = 1; place = 106; len = 3 }) ∷ (record { group = ((codes "z") ∷ []); version = 1; place = 109; len = 1 }) ∷ []) }) ∷ []); place = 437 }
unfolding head_of
history_10 = refl

table_10 : head_table (history_of said9) ≡ []
unfolding head_of
table_10 = refl

place_10 : (history_of said9).place ∷ end_of first9 ∷ []
    ≡ 437 ∷ 437 ∷ []
unfolding header framed head_of body_of
place_10 = refl

gives_9 : gives (history_of said8) entry9 ≡ ((record { dropped = (((codes "x") ∷ []) ∷ ((codes "y") ∷ []) ∷ ((codes "z") ∷ []) ∷ []); stored = [] }) ∷ [])
unfolding head_of
gives_9 = refl

led_9 : led (history_of said8) entry9 ≡ record { graph = record { commits = ((record { parent = 2; profile = One; cells = ((codes "del x, y, z") ∷ []) }) ∷ (record { parent = 2; profile = One; cells = ([] ∷ []) }) ∷ (record { parent = 1; profile = One; cells = ((codes "w = z") ∷ (codes "1") ∷ []) }) ∷ (record { parent = 1; profile = One; cells = ((codes "y = 0") ∷ []) }) ∷ (record { parent = 0; profile = One; cells = ((codes "x = [1]; y = [x]; z = [2]") ∷ []) }) ∷ []); branches = (((codes "main"), 5) ∷ ((codes "try"), 3) ∷ []); head = record { commit = 5; branch = Some (codes "main") }; records = 9 }; changes = ((record { dropped = (((codes "x") ∷ []) ∷ ((codes "y") ∷ []) ∷ ((codes "z") ∷ []) ∷ []); stored = [] }) ∷ (record { dropped = []; stored = [] }) ∷ (record { dropped = (((codes "z") ∷ []) ∷ []); stored = ((record { group = ((codes "w") ∷ (codes "z") ∷ []); version = 3; place = 297; len = 2 }) ∷ []) }) ∷ (record { dropped = (((codes "x") ∷ (codes "y") ∷ []) ∷ []); stored = ((record { group = ((codes "x") ∷ []); version = 2; place = 186; len = 2 }) ∷ (record { group = ((codes "y") ∷ []); version = 2; place = 188; len = 1 }) ∷ []) }) ∷ (record { dropped = []; stored = ((record { group = ((codes "x") ∷ (codes "y") ∷ []); version = 1; place = 106; len = 3 }) ∷ (record { group = ((codes "z") ∷ []); version = 1; place = 109; len = 1 }) ∷ []) }) ∷ []); place = 437 }
unfolding head_of
led_9 = refl

-- the first 10
history_11 : history_of said10 ≡ record { graph = record { commits = ((record { parent = 2; profile = One; cells = ((codes "del x, y, z") ∷ []) }) ∷ (record { parent = 2; profile = One; cells = ([] ∷ []) }) ∷ (record { parent = 1; profile = One; cells = ((codes "w = z") ∷ (codes "1") ∷ []) }) ∷ (record { parent = 1; profile = One; cells = ((codes "y = 0") ∷ []) }) ∷ (record { parent = 0; profile = One; cells = ((codes "x = [1]; y = [x]; z = [2]") ∷ []) }) ∷ []); branches = (((codes "Z-9_"), 3) ∷ ((codes "main"), 5) ∷ ((codes "try"), 3) ∷ []); head = record { commit = 5; branch = Some (codes "main") }; records = 10 }; changes = ((record { dropped = (((codes "x") ∷ []) ∷ ((codes "y") ∷ []) ∷ ((codes "z") ∷ []) ∷ []); stored = [] }) ∷ (record { dropped = []; stored = [] }) ∷ (record { dropped = (((codes "z") ∷ []) ∷ []); stored = ((record { group = ((codes "w") ∷ (codes "z") ∷ []); version = 3; place = 297; len = 2 }) ∷ []) }) ∷ (record { dropped = (((codes "x") ∷ (codes "y") ∷ []) ∷ []); stored = ((record { group = ((codes "x") ∷ []); version = 2; place = 186; len = 2 }) ∷ (record { group = ((codes "y") ∷ []); version = 2; place = 188; len = 1 }) ∷ []) }) ∷ (record { dropped = []; stored = ((record { group = ((codes "x") ∷ (codes "y") ∷ []); version = 1; place = 106; len = 3 }) ∷ (record { group = ((codes "z") ∷ []); version = 1; place = 109; len = 1 }) ∷ []) }) ∷ []); place = 460 }
unfolding head_of
history_11 = refl

table_11 : head_table (history_of said10) ≡ []
unfolding head_of
table_11 = refl

place_11 : (history_of said10).place ∷ end_of first10 ∷ []
    ≡ 460 ∷ 460 ∷ []
unfolding header framed head_of body_of
place_11 = refl

gives_10 : gives (history_of said9) entry10 ≡ []
unfolding head_of
gives_10 = refl

led_10 : led (history_of said9) entry10 ≡ record { graph = record { commits = ((record { parent = 2; profile = One; cells = ((codes "del x, y, z") ∷ []) }) ∷ (record { parent = 2; profile = One; cells = ([] ∷ []) }) ∷ (record { parent = 1; profile = One; cells = ((codes "w = z") ∷ (codes "1") ∷ []) }) ∷ (record { parent = 1; profile = One; cells = ((codes "y = 0") ∷ []) }) ∷ (record { parent = 0; profile = One; cells = ((codes "x = [1]; y = [x]; z = [2]") ∷ []) }) ∷ []); branches = (((codes "Z-9_"), 3) ∷ ((codes "main"), 5) ∷ ((codes "try"), 3) ∷ []); head = record { commit = 5; branch = Some (codes "main") }; records = 10 }; changes = ((record { dropped = (((codes "x") ∷ []) ∷ ((codes "y") ∷ []) ∷ ((codes "z") ∷ []) ∷ []); stored = [] }) ∷ (record { dropped = []; stored = [] }) ∷ (record { dropped = (((codes "z") ∷ []) ∷ []); stored = ((record { group = ((codes "w") ∷ (codes "z") ∷ []); version = 3; place = 297; len = 2 }) ∷ []) }) ∷ (record { dropped = (((codes "x") ∷ (codes "y") ∷ []) ∷ []); stored = ((record { group = ((codes "x") ∷ []); version = 2; place = 186; len = 2 }) ∷ (record { group = ((codes "y") ∷ []); version = 2; place = 188; len = 1 }) ∷ []) }) ∷ (record { dropped = []; stored = ((record { group = ((codes "x") ∷ (codes "y") ∷ []); version = 1; place = 106; len = 3 }) ∷ (record { group = ((codes "z") ∷ []); version = 1; place = 109; len = 1 }) ∷ []) }) ∷ []); place = 460 }
unfolding head_of
led_10 = refl

-- the first 11
history_12 : history_of said11 ≡ record { graph = record { commits = ((record { parent = 2; profile = One; cells = ((codes "del x, y, z") ∷ []) }) ∷ (record { parent = 2; profile = One; cells = ([] ∷ []) }) ∷ (record { parent = 1; profile = One; cells = ((codes "w = z") ∷ (codes "1") ∷ []) }) ∷ (record { parent = 1; profile = One; cells = ((codes "y = 0") ∷ []) }) ∷ (record { parent = 0; profile = One; cells = ((codes "x = [1]; y = [x]; z = [2]") ∷ []) }) ∷ []); branches = (((codes "Z-9_"), 3) ∷ ((codes "main"), 5) ∷ ((codes "try"), 3) ∷ []); head = record { commit = 0; branch = None }; records = 11 }; changes = ((record { dropped = (((codes "x") ∷ []) ∷ ((codes "y") ∷ []) ∷ ((codes "z") ∷ []) ∷ []); stored = [] }) ∷ (record { dropped = []; stored = [] }) ∷ (record { dropped = (((codes "z") ∷ []) ∷ []); stored = ((record { group = ((codes "w") ∷ (codes "z") ∷ []); version = 3; place = 297; len = 2 }) ∷ []) }) ∷ (record { dropped = (((codes "x") ∷ (codes "y") ∷ []) ∷ []); stored = ((record { group = ((codes "x") ∷ []); version = 2; place = 186; len = 2 }) ∷ (record { group = ((codes "y") ∷ []); version = 2; place = 188; len = 1 }) ∷ []) }) ∷ (record { dropped = []; stored = ((record { group = ((codes "x") ∷ (codes "y") ∷ []); version = 1; place = 106; len = 3 }) ∷ (record { group = ((codes "z") ∷ []); version = 1; place = 109; len = 1 }) ∷ []) }) ∷ []); place = 479 }
unfolding head_of
history_12 = refl

table_12 : head_table (history_of said11) ≡ []
unfolding head_of
table_12 = refl

place_12 : (history_of said11).place ∷ end_of first11 ∷ []
    ≡ 479 ∷ 479 ∷ []
unfolding header framed head_of body_of
place_12 = refl

gives_11 : gives (history_of said10) entry11 ≡ []
unfolding head_of
gives_11 = refl

led_11 : led (history_of said10) entry11 ≡ record { graph = record { commits = ((record { parent = 2; profile = One; cells = ((codes "del x, y, z") ∷ []) }) ∷ (record { parent = 2; profile = One; cells = ([] ∷ []) }) ∷ (record { parent = 1; profile = One; cells = ((codes "w = z") ∷ (codes "1") ∷ []) }) ∷ (record { parent = 1; profile = One; cells = ((codes "y = 0") ∷ []) }) ∷ (record { parent = 0; profile = One; cells = ((codes "x = [1]; y = [x]; z = [2]") ∷ []) }) ∷ []); branches = (((codes "Z-9_"), 3) ∷ ((codes "main"), 5) ∷ ((codes "try"), 3) ∷ []); head = record { commit = 0; branch = None }; records = 11 }; changes = ((record { dropped = (((codes "x") ∷ []) ∷ ((codes "y") ∷ []) ∷ ((codes "z") ∷ []) ∷ []); stored = [] }) ∷ (record { dropped = []; stored = [] }) ∷ (record { dropped = (((codes "z") ∷ []) ∷ []); stored = ((record { group = ((codes "w") ∷ (codes "z") ∷ []); version = 3; place = 297; len = 2 }) ∷ []) }) ∷ (record { dropped = (((codes "x") ∷ (codes "y") ∷ []) ∷ []); stored = ((record { group = ((codes "x") ∷ []); version = 2; place = 186; len = 2 }) ∷ (record { group = ((codes "y") ∷ []); version = 2; place = 188; len = 1 }) ∷ []) }) ∷ (record { dropped = []; stored = ((record { group = ((codes "x") ∷ (codes "y") ∷ []); version = 1; place = 106; len = 3 }) ∷ (record { group = ((codes "z") ∷ []); version = 1; place = 109; len = 1 }) ∷ []) }) ∷ []); place = 479 }
unfolding head_of
led_11 = refl

-- the first 12
history_13 : history_of said12 ≡ record { graph = record { commits = ((record { parent = 0; profile = One; cells = ((codes "a = b = 1") ∷ []) }) ∷ (record { parent = 2; profile = One; cells = ((codes "del x, y, z") ∷ []) }) ∷ (record { parent = 2; profile = One; cells = ([] ∷ []) }) ∷ (record { parent = 1; profile = One; cells = ((codes "w = z") ∷ (codes "1") ∷ []) }) ∷ (record { parent = 1; profile = One; cells = ((codes "y = 0") ∷ []) }) ∷ (record { parent = 0; profile = One; cells = ((codes "x = [1]; y = [x]; z = [2]") ∷ []) }) ∷ []); branches = (((codes "Z-9_"), 3) ∷ ((codes "main"), 5) ∷ ((codes "try"), 3) ∷ []); head = record { commit = 6; branch = None }; records = 12 }; changes = ((record { dropped = []; stored = ((record { group = ((codes "a") ∷ []); version = 6; place = 551; len = 1 }) ∷ (record { group = ((codes "b") ∷ []); version = 6; place = 552; len = 0 }) ∷ []) }) ∷ (record { dropped = (((codes "x") ∷ []) ∷ ((codes "y") ∷ []) ∷ ((codes "z") ∷ []) ∷ []); stored = [] }) ∷ (record { dropped = []; stored = [] }) ∷ (record { dropped = (((codes "z") ∷ []) ∷ []); stored = ((record { group = ((codes "w") ∷ (codes "z") ∷ []); version = 3; place = 297; len = 2 }) ∷ []) }) ∷ (record { dropped = (((codes "x") ∷ (codes "y") ∷ []) ∷ []); stored = ((record { group = ((codes "x") ∷ []); version = 2; place = 186; len = 2 }) ∷ (record { group = ((codes "y") ∷ []); version = 2; place = 188; len = 1 }) ∷ []) }) ∷ (record { dropped = []; stored = ((record { group = ((codes "x") ∷ (codes "y") ∷ []); version = 1; place = 106; len = 3 }) ∷ (record { group = ((codes "z") ∷ []); version = 1; place = 109; len = 1 }) ∷ []) }) ∷ []); place = 552 }
unfolding head_of
history_13 = refl

table_13 : head_table (history_of said12) ≡ ((record { group = ((codes "a") ∷ []); version = 6; place = 551; len = 1 }) ∷ (record { group = ((codes "b") ∷ []); version = 6; place = 552; len = 0 }) ∷ [])
unfolding head_of
table_13 = refl

place_13 : (history_of said12).place ∷ end_of first12 ∷ []
    ≡ 552 ∷ 552 ∷ []
unfolding header framed head_of body_of
place_13 = refl

gives_12 : gives (history_of said11) entry12 ≡ ((record { dropped = []; stored = ((record { group = ((codes "a") ∷ []); version = 6; place = 551; len = 1 }) ∷ (record { group = ((codes "b") ∷ []); version = 6; place = 552; len = 0 }) ∷ []) }) ∷ [])
unfolding head_of
gives_12 = refl

led_12 : led (history_of said11) entry12 ≡ record { graph = record { commits = ((record { parent = 0; profile = One; cells = ((codes "a = b = 1") ∷ []) }) ∷ (record { parent = 2; profile = One; cells = ((codes "del x, y, z") ∷ []) }) ∷ (record { parent = 2; profile = One; cells = ([] ∷ []) }) ∷ (record { parent = 1; profile = One; cells = ((codes "w = z") ∷ (codes "1") ∷ []) }) ∷ (record { parent = 1; profile = One; cells = ((codes "y = 0") ∷ []) }) ∷ (record { parent = 0; profile = One; cells = ((codes "x = [1]; y = [x]; z = [2]") ∷ []) }) ∷ []); branches = (((codes "Z-9_"), 3) ∷ ((codes "main"), 5) ∷ ((codes "try"), 3) ∷ []); head = record { commit = 6; branch = None }; records = 12 }; changes = ((record { dropped = []; stored = ((record { group = ((codes "a") ∷ []); version = 6; place = 551; len = 1 }) ∷ (record { group = ((codes "b") ∷ []); version = 6; place = 552; len = 0 }) ∷ []) }) ∷ (record { dropped = (((codes "x") ∷ []) ∷ ((codes "y") ∷ []) ∷ ((codes "z") ∷ []) ∷ []); stored = [] }) ∷ (record { dropped = []; stored = [] }) ∷ (record { dropped = (((codes "z") ∷ []) ∷ []); stored = ((record { group = ((codes "w") ∷ (codes "z") ∷ []); version = 3; place = 297; len = 2 }) ∷ []) }) ∷ (record { dropped = (((codes "x") ∷ (codes "y") ∷ []) ∷ []); stored = ((record { group = ((codes "x") ∷ []); version = 2; place = 186; len = 2 }) ∷ (record { group = ((codes "y") ∷ []); version = 2; place = 188; len = 1 }) ∷ []) }) ∷ (record { dropped = []; stored = ((record { group = ((codes "x") ∷ (codes "y") ∷ []); version = 1; place = 106; len = 3 }) ∷ (record { group = ((codes "z") ∷ []); version = 1; place = 109; len = 1 }) ∷ []) }) ∷ []); place = 552 }
unfolding head_of
led_12 = refl

-- the first 13
history_14 : history_of said13 ≡ record { graph = record { commits = ((record { parent = 0; profile = One; cells = ((codes "a = b = 1") ∷ []) }) ∷ (record { parent = 2; profile = One; cells = ((codes "del x, y, z") ∷ []) }) ∷ (record { parent = 2; profile = One; cells = ([] ∷ []) }) ∷ (record { parent = 1; profile = One; cells = ((codes "w = z") ∷ (codes "1") ∷ []) }) ∷ (record { parent = 1; profile = One; cells = ((codes "y = 0") ∷ []) }) ∷ (record { parent = 0; profile = One; cells = ((codes "x = [1]; y = [x]; z = [2]") ∷ []) }) ∷ []); branches = (((codes "Z-9_"), 3) ∷ ((codes "main"), 5) ∷ ((codes "try"), 3) ∷ []); head = record { commit = 3; branch = Some (codes "Z-9_") }; records = 13 }; changes = ((record { dropped = []; stored = ((record { group = ((codes "a") ∷ []); version = 6; place = 551; len = 1 }) ∷ (record { group = ((codes "b") ∷ []); version = 6; place = 552; len = 0 }) ∷ []) }) ∷ (record { dropped = (((codes "x") ∷ []) ∷ ((codes "y") ∷ []) ∷ ((codes "z") ∷ []) ∷ []); stored = [] }) ∷ (record { dropped = []; stored = [] }) ∷ (record { dropped = (((codes "z") ∷ []) ∷ []); stored = ((record { group = ((codes "w") ∷ (codes "z") ∷ []); version = 3; place = 297; len = 2 }) ∷ []) }) ∷ (record { dropped = (((codes "x") ∷ (codes "y") ∷ []) ∷ []); stored = ((record { group = ((codes "x") ∷ []); version = 2; place = 186; len = 2 }) ∷ (record { group = ((codes "y") ∷ []); version = 2; place = 188; len = 1 }) ∷ []) }) ∷ (record { dropped = []; stored = ((record { group = ((codes "x") ∷ (codes "y") ∷ []); version = 1; place = 106; len = 3 }) ∷ (record { group = ((codes "z") ∷ []); version = 1; place = 109; len = 1 }) ∷ []) }) ∷ []); place = 572 }
unfolding head_of
history_14 = refl

table_14 : head_table (history_of said13) ≡ ((record { group = ((codes "w") ∷ (codes "z") ∷ []); version = 3; place = 297; len = 2 }) ∷ (record { group = ((codes "x") ∷ (codes "y") ∷ []); version = 1; place = 106; len = 3 }) ∷ [])
unfolding head_of
table_14 = refl

place_14 : (history_of said13).place ∷ end_of first13 ∷ []
    ≡ 572 ∷ 572 ∷ []
unfolding header framed head_of body_of
place_14 = refl

gives_13 : gives (history_of said12) entry13 ≡ []
unfolding head_of
gives_13 = refl

led_13 : led (history_of said12) entry13 ≡ record { graph = record { commits = ((record { parent = 0; profile = One; cells = ((codes "a = b = 1") ∷ []) }) ∷ (record { parent = 2; profile = One; cells = ((codes "del x, y, z") ∷ []) }) ∷ (record { parent = 2; profile = One; cells = ([] ∷ []) }) ∷ (record { parent = 1; profile = One; cells = ((codes "w = z") ∷ (codes "1") ∷ []) }) ∷ (record { parent = 1; profile = One; cells = ((codes "y = 0") ∷ []) }) ∷ (record { parent = 0; profile = One; cells = ((codes "x = [1]; y = [x]; z = [2]") ∷ []) }) ∷ []); branches = (((codes "Z-9_"), 3) ∷ ((codes "main"), 5) ∷ ((codes "try"), 3) ∷ []); head = record { commit = 3; branch = Some (codes "Z-9_") }; records = 13 }; changes = ((record { dropped = []; stored = ((record { group = ((codes "a") ∷ []); version = 6; place = 551; len = 1 }) ∷ (record { group = ((codes "b") ∷ []); version = 6; place = 552; len = 0 }) ∷ []) }) ∷ (record { dropped = (((codes "x") ∷ []) ∷ ((codes "y") ∷ []) ∷ ((codes "z") ∷ []) ∷ []); stored = [] }) ∷ (record { dropped = []; stored = [] }) ∷ (record { dropped = (((codes "z") ∷ []) ∷ []); stored = ((record { group = ((codes "w") ∷ (codes "z") ∷ []); version = 3; place = 297; len = 2 }) ∷ []) }) ∷ (record { dropped = (((codes "x") ∷ (codes "y") ∷ []) ∷ []); stored = ((record { group = ((codes "x") ∷ []); version = 2; place = 186; len = 2 }) ∷ (record { group = ((codes "y") ∷ []); version = 2; place = 188; len = 1 }) ∷ []) }) ∷ (record { dropped = []; stored = ((record { group = ((codes "x") ∷ (codes "y") ∷ []); version = 1; place = 106; len = 3 }) ∷ (record { group = ((codes "z") ∷ []); version = 1; place = 109; len = 1 }) ∷ []) }) ∷ []); place = 572 }
unfolding head_of
led_13 = refl

-- the first 14
history_15 : history_of said14 ≡ record { graph = record { commits = ((record { parent = 3; profile = One; cells = ((codes "y = w") ∷ []) }) ∷ (record { parent = 0; profile = One; cells = ((codes "a = b = 1") ∷ []) }) ∷ (record { parent = 2; profile = One; cells = ((codes "del x, y, z") ∷ []) }) ∷ (record { parent = 2; profile = One; cells = ([] ∷ []) }) ∷ (record { parent = 1; profile = One; cells = ((codes "w = z") ∷ (codes "1") ∷ []) }) ∷ (record { parent = 1; profile = One; cells = ((codes "y = 0") ∷ []) }) ∷ (record { parent = 0; profile = One; cells = ((codes "x = [1]; y = [x]; z = [2]") ∷ []) }) ∷ []); branches = (((codes "Z-9_"), 7) ∷ ((codes "main"), 5) ∷ ((codes "try"), 3) ∷ []); head = record { commit = 7; branch = Some (codes "Z-9_") }; records = 14 }; changes = ((record { dropped = (((codes "w") ∷ (codes "z") ∷ []) ∷ []); stored = ((record { group = ((codes "w") ∷ (codes "y") ∷ (codes "z") ∷ []); version = 7; place = 638; len = 1 }) ∷ []) }) ∷ (record { dropped = []; stored = ((record { group = ((codes "a") ∷ []); version = 6; place = 551; len = 1 }) ∷ (record { group = ((codes "b") ∷ []); version = 6; place = 552; len = 0 }) ∷ []) }) ∷ (record { dropped = (((codes "x") ∷ []) ∷ ((codes "y") ∷ []) ∷ ((codes "z") ∷ []) ∷ []); stored = [] }) ∷ (record { dropped = []; stored = [] }) ∷ (record { dropped = (((codes "z") ∷ []) ∷ []); stored = ((record { group = ((codes "w") ∷ (codes "z") ∷ []); version = 3; place = 297; len = 2 }) ∷ []) }) ∷ (record { dropped = (((codes "x") ∷ (codes "y") ∷ []) ∷ []); stored = ((record { group = ((codes "x") ∷ []); version = 2; place = 186; len = 2 }) ∷ (record { group = ((codes "y") ∷ []); version = 2; place = 188; len = 1 }) ∷ []) }) ∷ (record { dropped = []; stored = ((record { group = ((codes "x") ∷ (codes "y") ∷ []); version = 1; place = 106; len = 3 }) ∷ (record { group = ((codes "z") ∷ []); version = 1; place = 109; len = 1 }) ∷ []) }) ∷ []); place = 639 }
unfolding head_of
history_15 = refl

table_15 : head_table (history_of said14) ≡ ((record { group = ((codes "w") ∷ (codes "y") ∷ (codes "z") ∷ []); version = 7; place = 638; len = 1 }) ∷ (record { group = ((codes "x") ∷ (codes "y") ∷ []); version = 1; place = 106; len = 3 }) ∷ [])
unfolding head_of
table_15 = refl

place_15 : (history_of said14).place ∷ end_of first14 ∷ []
    ≡ 639 ∷ 639 ∷ []
unfolding header framed head_of body_of
place_15 = refl

gives_14 : gives (history_of said13) entry14 ≡ ((record { dropped = (((codes "w") ∷ (codes "z") ∷ []) ∷ []); stored = ((record { group = ((codes "w") ∷ (codes "y") ∷ (codes "z") ∷ []); version = 7; place = 638; len = 1 }) ∷ []) }) ∷ [])
unfolding head_of
gives_14 = refl

led_14 : led (history_of said13) entry14 ≡ record { graph = record { commits = ((record { parent = 3; profile = One; cells = ((codes "y = w") ∷ []) }) ∷ (record { parent = 0; profile = One; cells = ((codes "a = b = 1") ∷ []) }) ∷ (record { parent = 2; profile = One; cells = ((codes "del x, y, z") ∷ []) }) ∷ (record { parent = 2; profile = One; cells = ([] ∷ []) }) ∷ (record { parent = 1; profile = One; cells = ((codes "w = z") ∷ (codes "1") ∷ []) }) ∷ (record { parent = 1; profile = One; cells = ((codes "y = 0") ∷ []) }) ∷ (record { parent = 0; profile = One; cells = ((codes "x = [1]; y = [x]; z = [2]") ∷ []) }) ∷ []); branches = (((codes "Z-9_"), 7) ∷ ((codes "main"), 5) ∷ ((codes "try"), 3) ∷ []); head = record { commit = 7; branch = Some (codes "Z-9_") }; records = 14 }; changes = ((record { dropped = (((codes "w") ∷ (codes "z") ∷ []) ∷ []); stored = ((record { group = ((codes "w") ∷ (codes "y") ∷ (codes "z") ∷ []); version = 7; place = 638; len = 1 }) ∷ []) }) ∷ (record { dropped = []; stored = ((record { group = ((codes "a") ∷ []); version = 6; place = 551; len = 1 }) ∷ (record { group = ((codes "b") ∷ []); version = 6; place = 552; len = 0 }) ∷ []) }) ∷ (record { dropped = (((codes "x") ∷ []) ∷ ((codes "y") ∷ []) ∷ ((codes "z") ∷ []) ∷ []); stored = [] }) ∷ (record { dropped = []; stored = [] }) ∷ (record { dropped = (((codes "z") ∷ []) ∷ []); stored = ((record { group = ((codes "w") ∷ (codes "z") ∷ []); version = 3; place = 297; len = 2 }) ∷ []) }) ∷ (record { dropped = (((codes "x") ∷ (codes "y") ∷ []) ∷ []); stored = ((record { group = ((codes "x") ∷ []); version = 2; place = 186; len = 2 }) ∷ (record { group = ((codes "y") ∷ []); version = 2; place = 188; len = 1 }) ∷ []) }) ∷ (record { dropped = []; stored = ((record { group = ((codes "x") ∷ (codes "y") ∷ []); version = 1; place = 106; len = 3 }) ∷ (record { group = ((codes "z") ∷ []); version = 1; place = 109; len = 1 }) ∷ []) }) ∷ []); place = 639 }
unfolding head_of
led_14 = refl

-- ---- the tables of all commits, and what the file has at the places of the head's rows

tables_1 : table_to (history_of said14) 0 ∷ table_to (history_of said14) 1 ∷ table_to (history_of said14) 2 ∷ table_to (history_of said14) 3 ∷ table_to (history_of said14) 4 ∷ table_to (history_of said14) 5 ∷ table_to (history_of said14) 6 ∷ table_to (history_of said14) 7 ∷ []
    ≡ [] ∷ ((record { group = ((codes "x") ∷ (codes "y") ∷ []); version = 1; place = 106; len = 3 }) ∷ (record { group = ((codes "z") ∷ []); version = 1; place = 109; len = 1 }) ∷ []) ∷ ((record { group = ((codes "x") ∷ []); version = 2; place = 186; len = 2 }) ∷ (record { group = ((codes "y") ∷ []); version = 2; place = 188; len = 1 }) ∷ (record { group = ((codes "z") ∷ []); version = 1; place = 109; len = 1 }) ∷ []) ∷ ((record { group = ((codes "w") ∷ (codes "z") ∷ []); version = 3; place = 297; len = 2 }) ∷ (record { group = ((codes "x") ∷ (codes "y") ∷ []); version = 1; place = 106; len = 3 }) ∷ []) ∷ ((record { group = ((codes "x") ∷ []); version = 2; place = 186; len = 2 }) ∷ (record { group = ((codes "y") ∷ []); version = 2; place = 188; len = 1 }) ∷ (record { group = ((codes "z") ∷ []); version = 1; place = 109; len = 1 }) ∷ []) ∷ [] ∷ ((record { group = ((codes "a") ∷ []); version = 6; place = 551; len = 1 }) ∷ (record { group = ((codes "b") ∷ []); version = 6; place = 552; len = 0 }) ∷ []) ∷ ((record { group = ((codes "w") ∷ (codes "y") ∷ (codes "z") ∷ []); version = 7; place = 638; len = 1 }) ∷ (record { group = ((codes "x") ∷ (codes "y") ∷ []); version = 1; place = 106; len = 3 }) ∷ []) ∷ []
unfolding head_of
tables_1 = refl

at_place_1 : bytes_at (front first14) (record { group = ((codes "x") ∷ (codes "y") ∷ []); version = 1; place = 106; len = 3 }) ∷ bytes_at (front first14) (record { group = ((codes "z") ∷ []); version = 1; place = 109; len = 1 }) ∷ []
    ≡ (1 ∷ 2 ∷ 3 ∷ []) ∷ (4 ∷ []) ∷ []
unfolding header framed head_of body_of
at_place_1 = refl

at_place_2 : bytes_at (front first14) (record { group = ((codes "x") ∷ []); version = 2; place = 186; len = 2 }) ∷ bytes_at (front first14) (record { group = ((codes "y") ∷ []); version = 2; place = 188; len = 1 }) ∷ bytes_at (front first14) (record { group = ((codes "z") ∷ []); version = 1; place = 109; len = 1 }) ∷ []
    ≡ (5 ∷ 6 ∷ []) ∷ (7 ∷ []) ∷ (4 ∷ []) ∷ []
unfolding header framed head_of body_of
at_place_2 = refl

at_place_3 : bytes_at (front first14) (record { group = ((codes "w") ∷ (codes "z") ∷ []); version = 3; place = 297; len = 2 }) ∷ bytes_at (front first14) (record { group = ((codes "x") ∷ (codes "y") ∷ []); version = 1; place = 106; len = 3 }) ∷ []
    ≡ (8 ∷ 8 ∷ []) ∷ (1 ∷ 2 ∷ 3 ∷ []) ∷ []
unfolding header framed head_of body_of
at_place_3 = refl

at_place_4 : bytes_at (front first14) (record { group = ((codes "x") ∷ []); version = 2; place = 186; len = 2 }) ∷ bytes_at (front first14) (record { group = ((codes "y") ∷ []); version = 2; place = 188; len = 1 }) ∷ bytes_at (front first14) (record { group = ((codes "z") ∷ []); version = 1; place = 109; len = 1 }) ∷ []
    ≡ (5 ∷ 6 ∷ []) ∷ (7 ∷ []) ∷ (4 ∷ []) ∷ []
unfolding header framed head_of body_of
at_place_4 = refl

at_place_5 : bytes_at (front first14) (record { group = ((codes "a") ∷ []); version = 6; place = 551; len = 1 }) ∷ bytes_at (front first14) (record { group = ((codes "b") ∷ []); version = 6; place = 552; len = 0 }) ∷ []
    ≡ (9 ∷ []) ∷ [] ∷ []
unfolding header framed head_of body_of
at_place_5 = refl

at_place_6 : bytes_at (front first14) (record { group = ((codes "w") ∷ (codes "y") ∷ (codes "z") ∷ []); version = 7; place = 638; len = 1 }) ∷ bytes_at (front first14) (record { group = ((codes "x") ∷ (codes "y") ∷ []); version = 1; place = 106; len = 3 }) ∷ []
    ≡ (0 ∷ []) ∷ (1 ∷ 2 ∷ 3 ∷ []) ∷ []
unfolding header framed head_of body_of
at_place_6 = refl
