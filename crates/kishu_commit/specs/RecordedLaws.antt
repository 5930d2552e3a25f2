-- What a file has that ends with the record of a commit of what is told.
use Rattle.std.specs.Prelude.{◌≡◌, ℕ, List, [], ◌∷◌, ◌++◌, length, Some}
use Rattle.std.specs.List.{AllByRecursion, AllZip}
use Rattle.std.proofs.Common.{ap, sym, ◌∙◌, subst, inl, inr, arith, length-append, append_assoc}
use Rattle.std.proofs.lemmas.List.{append-nil}
use Rattle.kishu_meaning.specs.values.Values.{State}
use Rattle.kishu_objects.specs.Locality.{Leaves}
use Rattle.kishu_objects.specs.States.{IsSoundState}
use Rattle.kishu_store.specs.Entries.{Record}
use Rattle.kishu_store.specs.EntryBytes.{body_of}
use Rattle.kishu_store.specs.Graph.{newest}
use Rattle.kishu_store.specs.Histories.{History, new_history, head_table, led, gives, AreRecords}
use Rattle.kishu_store.specs.Holds.{header, open_gate, framed, records, front, Ends, HasRecords, history_by}
use Rattle.kishu_store.specs.Rules.{IsRecord}
use Rattle.kishu_store.specs.Tables.{bytes_at, change_of}
use Rattle.kishu_store_laws.specs.HistoryLaws.{IsHistory, records-history}
use Rattle.kishu_store_laws.specs.Laws.{history-push}
use Rattle.kishu_store_laws.specs.PlaceLaws.{LiesAt, new-pictures, pictures-stay, records-fit}
use Rattle.kishu_history.specs.Live.{IsLive}
use Rattle.kishu_history.specs.Stored.{Stored, Keeps, KeepsRecords}
use Rattle.kishu_history_laws.specs.tables.FileLaws.{changes_are_rows, stay_keeps}
use Rattle.kishu_history_laws.specs.versions.PathLaws.{rows_recorded}
use Rattle.kishu_commit.specs.LiveLaws.{live-held}
use Rattle.kishu_commit.specs.Told.{pictures_told, next_record, next_rows, CanBeStored}

-- ---- a last record

records-last : (rs : List Record) (r : Record) (x : List ℕ) → records (rs ++ (r ∷ [])) ++ x ≡ records rs ++ (open_gate ∷ (framed (body_of r) ++ x))
records-last [] r x = ap (λ (l : List ℕ). open_gate ∷ (l ++ x)) (append-nil (framed (body_of r)))
records-last (q ∷ rs) r x =
    let here = framed (body_of q) in
    ap (λ (l : List ℕ). open_gate ∷ l) (append_assoc here (records (rs ++ (r ∷ []))) x ∙ ap (λ (l : List ℕ). here ++ l) (records-last rs r x) ∙ sym (append_assoc here (records rs) (open_gate ∷ (framed (body_of r) ++ x))))

front-last : (rs : List Record) (r : Record) (x : List ℕ) → front (rs ++ (r ∷ [])) ++ x ≡ front rs ++ (open_gate ∷ (framed (body_of r) ++ x))
front-last rs r x =
    append_assoc header (records (rs ++ (r ∷ []))) x
    ∙ ap (λ (l : List ℕ). header ++ l) (records-last rs r x)
    ∙ sym (append_assoc header (records rs) (open_gate ∷ (framed (body_of r) ++ x)))

-- those before it, and itself
all-but-last : (h : History) (rs : List Record) (r : Record) → AreRecords h (rs ++ (r ∷ [])) → AreRecords h rs × IsRecord r
all-but-last h [] r all = (tt, all.0)
all-but-last h (q ∷ rs) r all = (let k = all-but-last (led h q.entry) rs r all.2 in ((all.0, all.1, k.0), k.1))

lies-by : (file : List ℕ) (rs : List Record) (r : Record) → Ends file (rs ++ (r ∷ [])) → AllByRecursion (LiesAt file r.pictures) (gives (history_by rs) r.entry)
lies-by file rs r ends =
    let all = all-but-last new_history rs r ends.fit in
    new-pictures rs r (ends.gate ∷ ends.rest) file all.0 all.1 (ends.split ∙ front-last rs r (ends.gate ∷ ends.rest))

-- Its pictures lie at the places of its rows.
last-lies : (file : List ℕ) (rs : List Record) (r : Record) → HasRecords file (rs ++ (r ∷ [])) → AllByRecursion (LiesAt file r.pictures) (gives (history_by rs) r.entry)
last-lies file rs r (inl short) = absurd (let e : length (rs ++ (r ∷ [])) ≡ 0 = ap length short.1 in omega (arith, e, length-append rs (r ∷ [])))
last-lies file rs r (inr long) = lies-by file rs r long.1

-- ---- that of the commit

module _ (rs : List Record) (cells : List (List ℕ)) (s u : State) (accessed : List (List ℕ)) where
  abbrev h : History
  h = history_by rs

  -- these records with its own
  abbrev all : List Record
  all = rs ++ (next_record h cells s accessed u ∷ [])

  module _ (file : List ℕ) (had : HasRecords file rs) (grown : List ℕ) (has : HasRecords grown all) where
    pub before-history : IsHistory h
    before-history = records-history rs (records-fit file rs had)

    pub new-lie : AllZip (λ r p. bytes_at grown r ≡ p) (next_rows h cells s accessed u) (pictures_told (head_table h) s accessed u)
    new-lie = (last-lies grown rs (next_record h cells s accessed u) has).0

    pub old-stay : KeepsRecords file grown (newest h.graph) (change_of h.changes)
    old-stay = stay_keeps file grown h.changes (newest h.graph) (pictures-stay file grown rs (next_record h cells s accessed u ∷ []) had has)

    table-keeps : Keeps file grown (head_table h)
    table-keeps r m =
        let q = rows_recorded h.graph.commits (change_of h.changes) (changes_are_rows h.graph h.changes h.place before-history.changes) h.graph.head.commit r m in
        old-stay r.version q.1 r q.0

    -- The table of the file's head tells the state that the cells left.
    pub recorded-live : IsLive (Stored (Some file)) (head_table h) s → IsSoundState u → Leaves accessed s u → CanBeStored (head_table h) s accessed u → IsLive (Stored (Some grown)) (head_table (history_by all)) u
    recorded-live live is leaves can =
        subst (λ (n : History). IsLive (Stored (Some grown)) (head_table n) u) (sym (history-push rs (next_record h cells s accessed u))) (live-held h before-history cells s u accessed is leaves can file grown live table-keeps new-lie)
