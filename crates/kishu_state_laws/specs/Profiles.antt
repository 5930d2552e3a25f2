-- Cells that run under a profile keep all functions under it, so those of a replay are under the profile of its commits.
use Rattle.std.specs.Prelude.{◌≡◌, ◌==◌, ℕ, suc, List, [], ◌∷◌, ◌++◌, length, Option, Some, None}
use Rattle.std.specs.List.{AllByRecursion as Each}
use Rattle.std.proofs.Common.{sym, subst, inl, inr}
use Rattle.std.proofs.lemmas.Bool.{cases_Bool}
use Rattle.kishu_language.specs.declared.profile.Profile.{Profile}
use Rattle.kishu_meaning.specs.values.Values.{State, empty}
use Rattle.kishu_meaning.specs.cells.Meaning.{run}
use Rattle.kishu_store.specs.Branches.{commit_of}
use Rattle.kishu_store.specs.Entries.{Entry, commit, move, name, to_commit, to_branch, Record, entries_in}
use Rattle.kishu_store.specs.Fitting.{on_branch, changed, changed_by}
use Rattle.kishu_store.specs.Graph.{Commit, Graph, path, path_in}
use Rattle.kishu_store.specs.Histories.{History, new_history, led, AreRecords}
use Rattle.kishu_store.specs.Holds.{Holds}
use Rattle.kishu_store.specs.Limits.{newest_profile}
use Rattle.kishu_store.specs.Rules.{KeepsRules}
use Rattle.kishu_replay.specs.Replay.{after_cells, after_commits, replay}
use Rattle.kishu_objects.specs.State.{IsCell, IsState}
use Rattle.kishu_state_laws.specs.Moments.{AreUnder}
use Rattle.kishu_state_laws.specs.HeldLaws.{AreTexts, held_texts, path_texts}
use Rattle.kishu_state_laws.specs.Whole.{run_becomes, cells_become}
use Rattle.kishu_state_laws.specs.keeping.Running.{run_follows, empty_is_state}

-- ---- cells

pub run_under : (profile : Profile) (cell : List ℕ) (s : State) → IsCell cell → IsState s → AreUnder profile s.nodes → AreUnder profile (run profile cell s).state.nodes
run_under profile cell s c h = (run_follows profile cell s c.0 c.1 h).under

pub cells_under : (profile : Profile) (cells : List (List ℕ)) (s : State) → Each IsCell cells → IsState s → AreUnder profile s.nodes → AreUnder profile (after_cells profile cells s).nodes
cells_under profile [] s c h u = u
cells_under profile (cell ∷ cells) s c h u = cells_under profile cells (run profile cell s).state c.1 (run_becomes profile cell s c.0 h).state (run_under profile cell s c.0 h u)

-- ---- commits

-- All of them run under the profile.
abbrev pub RunUnder : Profile → List Commit → Type 0
RunUnder profile = Each (λ (k : Commit). k.profile ≡ profile)

commits_under : (profile : Profile) (ks : List Commit) (s : State) → AreTexts ks → RunUnder profile ks → IsState s → AreUnder profile s.nodes → AreUnder profile (after_commits ks s).nodes
commits_under profile [] s c p h u = u
commits_under profile (k ∷ ks) s c p h u =
    let t = after_cells k.profile k.cells s in
    commits_under profile ks t c.1 p.1 (cells_become k.profile k.cells s c.0 h).state
    (subst (λ r. AreUnder r t.nodes) p.0 (cells_under k.profile k.cells s c.0 h (subst (λ r. AreUnder r s.nodes) (sym p.0) u)))

pub replay_under : (profile : Profile) (g : Graph) (c : ℕ) → AreTexts (path g c) → RunUnder profile (path g c) → AreUnder profile (replay g c).nodes
replay_under profile g c texts under = commits_under profile (path g c) empty texts under empty_is_state tt

-- ---- those of a graph that a file holds

under_behind : (profile : Profile) (ks : List Commit) (k : Commit) → RunUnder profile ks → k.profile ≡ profile → RunUnder profile (ks ++ k ∷ [])
under_behind profile [] k h p = (p, tt)
under_behind profile (j ∷ ks) k h p = (h.0, under_behind profile ks k h.1 p)

pub path_under : (profile : Profile) (ks : List Commit) (c : ℕ) → RunUnder profile ks → RunUnder profile (path_in ks c)
path_under profile [] c h = tt
path_under profile (k ∷ ks) c h = elim (cases_Bool (c == suc (length ks))) [
  | inl e ↦ rw e (under_behind profile (path_in ks k.parent) k (path_under profile ks k.parent h.1) h.0)
  | inr e ↦ rw e (path_under profile ks c h.1)
]

under_on : (title : List ℕ) (o : Option ℕ) (g : Graph) → RunUnder newest_profile g.commits → RunUnder newest_profile (on_branch title o g).commits
under_on title None g h = h
under_on title (Some number) g h = h

under_changed : (e : Entry) (g : Graph) → KeepsRules e → RunUnder newest_profile g.commits → RunUnder newest_profile (changed g e).commits
under_changed (commit parent profile cells dropped stored) g keeps h = (keeps.profile, h)
under_changed (move (to_commit number)) g keeps h = h
under_changed (move (to_branch title)) g keeps h = under_on title (commit_of title g.branches) g h
under_changed (name title number) g keeps h = h

under_by : (rs : List Record) (h : History) → AreRecords h rs → RunUnder newest_profile h.graph.commits → RunUnder newest_profile (changed_by h.graph (entries_in rs)).commits
under_by [] h all u = u
under_by (r ∷ rs) h all u = under_by rs (led h r.entry) all.2 (under_changed r.entry h.graph all.0.rules u)

pub held_under : (file : List ℕ) (g : Graph) → Holds file g → RunUnder newest_profile g.commits
held_under file g (inl h) = subst (λ z. RunUnder newest_profile z.commits) (sym h.1) tt
held_under file g (inr h) = subst (λ z. RunUnder newest_profile z.commits) (sym h.3) (under_by h.1 new_history h.2.fit tt)

pub held_replay_under : (file : List ℕ) (g : Graph) → Holds file g → (c : ℕ) → AreUnder newest_profile (replay g c).nodes
held_replay_under file g h c = replay_under newest_profile g c (path_texts g.commits c (held_texts file g h)) (path_under newest_profile g.commits c (held_under file g h))
