-- What runs keep, through cells one after another and through replays.
use Rattle.std.specs.Prelude.{◌≡◌, ℕ, List, [], ◌∷◌, length, Ok}
use Rattle.std.specs.List.{AllByRecursion as Each}
use Rattle.std.specs.Str.{chars}
use Rattle.std.proofs.Common.{subst, arith}
use Rattle.kishu_language.specs.declared.profile.Profile.{Profile}
use Rattle.kishu_language.specs.trees.Tree.{Expression, Statement, Statements, statements}
use Rattle.kishu_language.specs.reading.ReadText.{read_chars}
use Rattle.kishu_meaning.specs.values.Values.{State, empty}
use Rattle.kishu_meaning.specs.moments.Moment.{Moment, Ends}
use Rattle.kishu_meaning.specs.cells.Meaning.{expr, acts, cell, all_calls, run}
use Rattle.kishu_store.specs.Graph.{Commit, Graph, path}
use Rattle.kishu_replay.specs.Replay.{after_cells, after_commits, replay}
use Rattle.kishu_pairing_laws.specs.World.{end_of}
use Rattle.kishu_objects.specs.State.{IsCell, IsValue, IsState, Grown}
use Rattle.kishu_state_laws.specs.Moments.{IsMoment, Holds, Leads}
use Rattle.kishu_state_laws.specs.trees.Sound.{ExpressionSound, StatementsSound}
use Rattle.kishu_state_laws.specs.trees.Read.{tree_sound}
use Rattle.kishu_state_laws.specs.keeping.Logic.{Any, After, SafeEnds, fines, raiseds, stoppeds, grown_self, grown_on}
use Rattle.kishu_state_laws.specs.keeping.Flows.{IsFlow}
use Rattle.kishu_state_laws.specs.keeping.Expressions.{expr_s}
use Rattle.kishu_state_laws.specs.keeping.Acts.{acts_s}
use Rattle.kishu_state_laws.specs.keeping.Running.{all_safe, cell_s, run_follows, empty_is_state}

-- ---- within a run

pub leads : {l : ℕ} (s t : Moment) → After s.left s.nodes s.depth s.profile t → IsMoment l t → Leads s t
leads s t after g = record { holds = subst (λ k. IsMoment k t) g.many g; left = after.0; grown = after.1 }

pub ends_lead : {A : Type 0} {k : ℕ} (s : Moment) (Q : ℕ → A → Type 0) {e : Ends A} → SafeEnds k s.left s.nodes s.depth s.profile Q e → Leads s (end_of e)
ends_lead s Q (fines l {s = t} le after q g) = leads s t after g
ends_lead s Q (raiseds l {s = t} le after q g) = leads s t after g
ends_lead s Q (stoppeds l {s = t} le after g) = leads s t after g

pub acts_lead : (ss : Statements) (s : Moment) → StatementsSound ss → Holds s → Leads s (end_of (acts all_calls ss s))
acts_lead ss s h g = ends_lead s IsFlow ((acts_s all_calls all_safe (length s.nodes) ss h).go (length s.nodes) (omega arith) s g)

pub expression_leads : (e : Expression) (s : Moment) → ExpressionSound e → Holds s → Leads s (end_of (expr all_calls e s))
expression_leads e s h g = ends_lead s IsValue ((expr_s all_calls all_safe (length s.nodes) e h).go (length s.nodes) (omega arith) s g)

pub cell_leads : (tree : List Statement) (s : Moment) → StatementsSound (statements tree) → Holds s → Leads s (end_of (cell tree s))
cell_leads tree s h g = ends_lead s Any ((cell_s (length s.nodes) tree h).go (length s.nodes) (omega arith) s g)

-- ---- cells one after another

pub cell_is_sound : (profile : Profile) (source : List ℕ) (tree : List Statement) → IsCell source → read_chars profile (chars source) ≡ Ok tree → StatementsSound (statements tree)
cell_is_sound profile source tree c h = tree_sound profile source c.0 c.1 tree h

-- A later state: it is one, and old nodes keep their numbers.
pub record Becomes (s t : State) : Type 0 where
  pub state : IsState t
  pub grown : Grown s.nodes t.nodes

pub run_becomes : (profile : Profile) (cell : List ℕ) (s : State) → IsCell cell → IsState s → Becomes s (run profile cell s).state
run_becomes profile cell s c h = let f = run_follows profile cell s c.0 c.1 h in record { state = f.state; grown = f.grown }

pub cells_become : (profile : Profile) (cells : List (List ℕ)) (s : State) → Each IsCell cells → IsState s → Becomes s (after_cells profile cells s)
cells_become profile [] s c h = record { state = h; grown = grown_self s.nodes }
cells_become profile (cell ∷ cells) s c h =
    let first = run_becomes profile cell s c.0 h in
    let rest = cells_become profile cells (run profile cell s).state c.1 first.state in
    record { state = rest.state; grown = grown_on s.nodes (run profile cell s).state.nodes (after_cells profile cells (run profile cell s).state).nodes first.grown rest.grown }

pub commits_keep : (ks : List Commit) (s : State) → Each (λ (k : Commit). Each IsCell k.cells) ks → IsState s → IsState (after_commits ks s)
commits_keep [] s c h = h
commits_keep (k ∷ ks) s c h = commits_keep ks (after_cells k.profile k.cells s) c.1 (cells_become k.profile k.cells s c.0 h).state

pub replay_is_state : (g : Graph) (c : ℕ) → Each (λ (k : Commit). Each IsCell k.cells) (path g c) → IsState (replay g c)
replay_is_state g c h = commits_keep (path g c) empty h empty_is_state
