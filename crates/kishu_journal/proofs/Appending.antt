-- A body that may be appended, and the journal after it was.
use Rattle.std.proofs.Common.{◌≡◌, inl, inr, ⊎_elim, ◌+◌, ℕ, List, [], ◌∷◌, ◌++◌, length, sym, ◌∙◌, ap, subst, arith}
use Rattle.kishu_host.specs.Host.{State, Elapses}
use Rattle.kishu_host.specs.Going.{weaker}
use Rattle.kishu_store.specs.Entries.{Entry}
use Rattle.kishu_store.specs.EntryBytes.{body_of}
use Rattle.kishu_store.specs.Fitting.{changed}
use Rattle.kishu_store.specs.Graph.{Graph}
use Rattle.kishu_store.specs.Histories.{Follows}
use Rattle.kishu_store.specs.Holds.{Ends, HasRecords, Holds, framed, graph_of, history_by, history_of}
use Rattle.kishu_store_laws.specs.Laws as laws
use Rattle.kishu_journal.specs.Going.{WithOrWithout, WithOrWithoutRecord}
use Rattle.kishu_journal.specs.Stands.{JournalState, Stands, IsNext, IsWhole, with_entry, with_record}
use Rattle.kishu_journal.proofs.Behind.{end-with}

module _ (journal : JournalState) (file body : List ℕ) (entries : List Entry) (e : Entry) (next : IsNext journal file body entries e) where
  next-fits : Follows (history_by next.stands.found) next.next.entry
  next-fits = subst (λ (x : Entry). Follows (history_by next.stands.found) x) (sym next.says) (subst (λ (es : List Entry). Follows (history_of es) e) (sym next.stands.says) next.fits)

  -- the bytes that are written, and where
  pub whole-next : (place : ℕ) → place ≡ journal.place → (bytes : List ℕ) → bytes ≡ framed (body_of next.next) ++ (0 ∷ []) → IsWhole file place bytes next.stands.found next.next
  whole-next place at bytes is = record { ends = next.stands.ends; place_is = at ∙ next.stands.place; rules = next.rules; fits = next-fits; bytes_are = is }

  -- where it stands then
  pub stands-with : (new : List ℕ) → Ends new (with_record next.stands.found next.next) → (later : JournalState) → later.place ≡ journal.place + 9 + length body → Stands later new (with_entry entries e)
  stands-with new ends later place = record {
    found = with_record next.stands.found next.next;
    says = laws.entries-push next.stands.found next.next ∙ ap (λ (es : List Entry). es ++ (next.next.entry ∷ [])) next.stands.says ∙ ap (λ (x : Entry). with_entry entries x) next.says;
    ends = ends;
    place = (let size = ap length next.body_is in omega (arith, place, next.stands.place, size, end-with next.stands.found next.next));
  }

  before-holds : (c : List ℕ) → HasRecords c next.stands.found → Holds c (graph_of entries)
  before-holds c has = subst (λ (es : List Entry). Holds c (graph_of es)) next.stands.says (laws.has-holds c next.stands.found has)

  after-holds : (c : List ℕ) → HasRecords c (with_record next.stands.found next.next) → Holds c (changed (graph_of entries) e)
  after-holds c has =
      let held = subst (λ (g : Graph). Holds c g) (laws.graph-push next.stands.found next.next) (laws.has-holds c (with_record next.stands.found next.next) has) in
      subst (λ (x : Entry). Holds c (changed (graph_of entries) x)) next.says (subst (λ (es : List Entry). Holds c (changed (graph_of es) next.next.entry)) next.stands.says held)

  -- what a stop leaves holds the graph of its records
  pub stop-next : (a b : State) → Elapses a b (WithOrWithoutRecord a next.stands.found next.next) → Elapses a b (WithOrWithout a entries e)
  stop-next a b time =
      weaker a b (WithOrWithout a entries e) (WithOrWithoutRecord a next.stands.found next.next) time
      (λ c o left. (left.0, ⊎_elim (λ (has : HasRecords c next.stands.found). inl (before-holds c has)) (λ (has : HasRecords c (with_record next.stands.found next.next)). inr (after-holds c has)) left.1))
