-- What follows from an opened file.
use Rattle.std.proofs.Common.{◌≡◌, ◌<◌, ◌≤◌, ◌^◌, ℕ, true, List, [], ◌∷◌, ◌++◌, length, refl, sym, ◌∙◌, ap, subst, arith}
use Rattle.std.proofs.lemmas.List.{length-map}
use Rattle.std.specs.List.{AllByRecursion}
use Rattle.kishu_host.specs.Host.{State}
use Rattle.kishu_record.specs.declared.entry.Entry as program
use Rattle.kishu_record.specs.Entries.{entry_of}
use Rattle.kishu_store.specs.Entries.{Entry, Record, entries_in}
use Rattle.kishu_store.specs.Histories.{AreRecords, History, led, new_history}
use Rattle.kishu_store.specs.Holds.{Ends, Gives, Holds, changes_by, front, graph_of, history_of}
use Rattle.kishu_store.specs.Limits.{most_records}
use Rattle.kishu_store.specs.Rules.{IsEntry}
use Rattle.kishu_store.specs.Tables.{Change}
use Rattle.kishu_store_laws.specs.EntryLaws.{entry-is}
use Rattle.kishu_store_laws.specs.GraphLaws.{records-most}
use Rattle.kishu_store_laws.specs.HistoryLaws.{IsHistory, place-end, records-history}
use Rattle.kishu_store_laws.specs.Laws.{ends-gives, ends-holds, history-graph, one_changes}
use Rattle.kishu_journal.specs.Found.{entries_of, AllFit, AreBelow}
use Rattle.kishu_journal.specs.Going.{IsQuiet}
use Rattle.kishu_journal.specs.Opened.{AreRead, IsOpened}
use Rattle.kishu_journal.specs.Stands.{JournalState, Stands}
use Rattle.kishu_journal.proofs.Anew.{anew-ends}
use Rattle.kishu_journal.proofs.Behind.{end-none, end-below}
use Rattle.kishu_journal.proofs.Walks.{placed-says, placed-below}

-- records that fit say entries that fit, and that keep the rules
records-fit : (h : History) (rs : List Record) → AreRecords h rs → AllFit h (entries_in rs)
records-fit h [] all = tt
records-fit h (r ∷ rs) all = (all.1, records-fit (led h r.entry) rs all.2)

records-rules : (h : History) (rs : List Record) → AreRecords h rs → AllByRecursion IsEntry (entries_in rs)
records-rules h [] all = tt
records-rules h (r ∷ rs) all = (entry-is r all.0, records-rules (led h r.entry) rs all.2)

-- Calls that change no content change nothing here.
pub opened-still : (a b : State) (at : ℕ) (found : List (ℕ × program.Entry)) → IsQuiet a b → IsOpened a at found → IsOpened b at found
opened-still a b at found quiet o = record {
  records = o.records;
  fit = o.fit;
  placed = o.placed;
  place = o.place;
  ends = λ told. subst (λ (f : List ℕ). Ends f o.records) (sym quiet.keeps.file) (o.ends (sym quiet.time.tells ∙ told));
}

-- nothing was found in a file that is begun anew
pub opened-anew : (s : State) (found : List (ℕ × program.Entry)) → found ≡ [] → (s.tells ≡ true → s.file ≡ front [] ++ (0 ∷ [])) → IsOpened s 16 found
opened-anew s found none fresh = subst (λ (ps : List (ℕ × program.Entry)). IsOpened s 16 ps) (sym none) (record {
  records = [];
  fit = tt;
  placed = tt;
  place = sym end-none;
  ends = λ told. anew-ends s.file (fresh told);
})

module _ (s : State) (at : ℕ) (found : List (ℕ × program.Entry)) (o : IsOpened s at found) where
  pub says : entries_in o.records ≡ entries_of found
  says = placed-says [] found o.records o.placed

  pub opened-stands : (journal : JournalState) → journal.place ≡ at → s.tells ≡ true → Stands journal s.file (entries_of found)
  opened-stands journal place told = record { found = o.records; says = says; ends = o.ends told; place = place ∙ o.place }

  pub opened-holds : s.tells ≡ true → Holds s.file (graph_of (entries_of found))
  opened-holds told = subst (λ (es : List Entry). Holds s.file (graph_of es)) says (ends-holds s.file o.records (o.ends told))

  pub opened-fit : AllFit new_history (entries_of found)
  opened-fit = subst (λ (es : List Entry). AllFit new_history es) says (records-fit new_history o.records o.fit)

  pub opened-rules : AllByRecursion IsEntry (entries_of found)
  opened-rules = subst (λ (es : List Entry). AllByRecursion IsEntry es) says (records-rules new_history o.records o.fit)

  pub opened-most : length found ≤ most_records
  opened-most =
      let all = records-most o.records o.fit in
      omega (arith, all, ap length says, length-map o.records (λ r. r.entry), length-map found (λ p. entry_of p.1))

  pub opened-below : at < 2 ^ 62
  opened-below = omega (arith, o.place, end-below o.records o.fit)

  pub opened-near : AreBelow (2 ^ 63) found
  opened-near = placed-below (2 ^ 63) [] found o.records o.placed (omega (arith, end-below o.records o.fit))

-- ---- records that were read

-- Calls that change no content change nothing here.
pub read-still : (a b : State) (at : ℕ) (rs : List Record) → IsQuiet a b → AreRead a at rs → AreRead b at rs
read-still a b at rs quiet o = record {
  fit = o.fit;
  place = o.place;
  ends = λ told. subst (λ (f : List ℕ). Ends f rs) (sym quiet.keeps.file) (o.ends (sym quiet.time.tells ∙ told));
}

-- a file that is begun anew has none
pub read-anew : (s : State) → (s.tells ≡ true → s.file ≡ front [] ++ (0 ∷ [])) → AreRead s 16 []
read-anew s fresh = record { fit = tt; place = sym end-none; ends = λ told. anew-ends s.file (fresh told) }

module _ (s : State) (at : ℕ) (rs : List Record) (o : AreRead s at rs) where
  pub read-stands : (journal : JournalState) → journal.place ≡ at → s.tells ≡ true → Stands journal s.file (entries_in rs)
  read-stands journal place told = record { found = rs; says = refl; ends = o.ends told; place = place ∙ o.place }

  pub read-holds : s.tells ≡ true → Holds s.file (graph_of (entries_in rs))
  read-holds told = ends-holds s.file rs (o.ends told)

  pub read-fit : AllFit new_history (entries_in rs)
  read-fit = records-fit new_history rs o.fit

  pub read-rules : AllByRecursion IsEntry (entries_in rs)
  read-rules = records-rules new_history rs o.fit

  pub read-below : at < 2 ^ 62
  read-below = omega (arith, o.place, end-below rs o.fit)

  -- what the commits of a file change that gives them
  pub read-gives : s.tells ≡ true → (cs : List Change) → Gives s.file cs → cs ≡ (history_of (entries_in rs)).changes
  read-gives told cs gives = one_changes s.file cs (changes_by rs) gives (ends-gives s.file rs (o.ends told))

  -- they lead to a history
  pub read-history : IsHistory (history_of (entries_in rs))
  read-history = records-history rs o.fit

  pub read-place : (history_of (entries_in rs)).place ≡ at
  read-place = place-end rs o.fit ∙ sym o.place

  pub read-graph : (history_of (entries_in rs)).graph ≡ graph_of (entries_in rs)
  read-graph = history-graph rs
