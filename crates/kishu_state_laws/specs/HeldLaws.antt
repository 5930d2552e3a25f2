-- The cells of a graph that a file holds are texts, so each of its replays gives a state.
use Rattle.std.specs.Prelude.{◌==◌, ℕ, suc, List, [], ◌∷◌, ◌++◌, length, Option, Some, None}
use Rattle.std.specs.List.{AllByRecursion as Each}
use Rattle.std.proofs.Common.{sym, subst, inl, inr}
use Rattle.std.proofs.lemmas.Bool.{cases_Bool}
use Rattle.kishu_store.specs.Entries.{Entry, commit, move, name, to_commit, to_branch, Record, entries_in}
use Rattle.kishu_store.specs.Fitting.{on_branch, changed, changed_by}
use Rattle.kishu_store.specs.Branches.{commit_of}
use Rattle.kishu_store.specs.Graph.{Commit, Graph, path_in}
use Rattle.kishu_store.specs.Histories.{History, new_history, led, AreRecords}
use Rattle.kishu_store.specs.Holds.{Holds}
use Rattle.kishu_store.specs.Rules.{KeepsRules, AreCells}
use Rattle.kishu_replay.specs.Replay.{replay}
use Rattle.kishu_objects.specs.State.{IsCell, IsState}
use Rattle.kishu_state_laws.specs.Whole.{replay_is_state}

-- The cells of each commit are texts.
abbrev pub AreTexts : List Commit → Type 0
AreTexts ks = Each (λ (k : Commit). Each IsCell k.cells) ks

texts_of : (cells : List (List ℕ)) → AreCells cells → Each IsCell cells
texts_of [] h = tt
texts_of (cell ∷ cells) h = ((h.0.utf8, h.0.short), texts_of cells h.1)

texts_on : (title : List ℕ) (o : Option ℕ) (g : Graph) → AreTexts g.commits → AreTexts (on_branch title o g).commits
texts_on title None g t = t
texts_on title (Some number) g t = t

texts_changed : (e : Entry) (g : Graph) → KeepsRules e → AreTexts g.commits → AreTexts (changed g e).commits
texts_changed (commit parent profile cells dropped stored) g keeps t = (texts_of cells keeps.cells, t)
texts_changed (move (to_commit number)) g keeps t = t
texts_changed (move (to_branch title)) g keeps t = texts_on title (commit_of title g.branches) g t
texts_changed (name title number) g keeps t = t

texts_by : (rs : List Record) (h : History) → AreRecords h rs → AreTexts h.graph.commits → AreTexts (changed_by h.graph (entries_in rs)).commits
texts_by [] h all t = t
texts_by (r ∷ rs) h all t = texts_by rs (led h r.entry) all.2 (texts_changed r.entry h.graph all.0.rules t)

pub held_texts : (file : List ℕ) (g : Graph) → Holds file g → AreTexts g.commits
held_texts file g (inl h) = subst (λ z. AreTexts z.commits) (sym h.1) tt
held_texts file g (inr h) = subst (λ z. AreTexts z.commits) (sym h.3) (texts_by h.1 new_history h.2.fit tt)

texts_behind : (ks : List Commit) (k : Commit) → AreTexts ks → Each IsCell k.cells → AreTexts (ks ++ k ∷ [])
texts_behind [] k h c = (c, tt)
texts_behind (j ∷ ks) k h c = (h.0, texts_behind ks k h.1 c)

pub path_texts : (ks : List Commit) (c : ℕ) → AreTexts ks → AreTexts (path_in ks c)
path_texts [] c h = tt
path_texts (k ∷ ks) c h = elim (cases_Bool (c == suc (length ks))) [
  | inl e ↦ rw e (texts_behind (path_in ks k.parent) k (path_texts ks k.parent h.1) h.0)
  | inr e ↦ rw e (path_texts ks c h.1)
]

pub held_state : (file : List ℕ) (g : Graph) → Holds file g → (c : ℕ) → IsState (replay g c)
held_state file g h c = replay_is_state g c (path_texts g.commits c (held_texts file g h))
