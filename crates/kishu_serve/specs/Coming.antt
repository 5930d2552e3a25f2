-- How far a run has come: from one state of the host and one graph to others, with a part of its items left.
use Rattle.std.specs.Prelude.{◌≡◌, ◌≤◌, ◌+◌, ℕ, List, [], ◌∷◌, ◌++◌}
use Rattle.kishu_host.specs.Host.{State, Elapses}
use Rattle.kishu_store.specs.Graph.{Graph}
use Rattle.kishu_model.specs.Request.{Request}
use Rattle.kishu_model.specs.Serve.{Item, closing, after_all, answers, charges}
use Rattle.kishu_model.specs.generated.Run.{summary_of, summed_up}
use Rattle.kishu_gen.specs.Summaries.{HasTaken}
use Rattle.kishu_gen.specs.declared.summary.Summary.{Summary}
use Rattle.kishu_notebook.specs.declared.notebook.Notebook.{Notebook}
use Rattle.kishu_session.specs.Attached.{IsAttached}
use Rattle.kishu_session.specs.declared.session.Session.{Session}
use Rattle.kishu_serve.specs.Headline.{IsPart}
use Rattle.kishu_serve.specs.Notebooks.{last_item}

-- What is done and what is left together come to all: the graph, the output, what a stop leaves, and the steps.
pub record Comes (s0 s : State) (g now : Graph) (all rest : List Item) (steps0 steps : ℕ) : Type 0 where
  pub ends : after_all now rest ≡ after_all g all
  pub said : s.out ++ answers now rest ≡ s0.out ++ answers g all
  pub parts : (f o : List ℕ) → IsPart s now rest f o → IsPart s0 g all f o
  pub charged : steps0 + charges g all ≤ steps + charges now rest
  pub stop : Elapses s0 s (IsPart s0 g all)

-- So it has come, with its session attached to the store; the items that are left follow from the graph.
pub record ComesTo (s0 s : State) (session : Session) (g : Graph) (all : List Item) (rest : Graph → List Item) (steps0 steps : ℕ) : Type 0 where
  pub now : Graph
  pub attached : IsAttached session s now
  pub comes : Comes s0 s g now all (rest now) steps0 steps

-- All cells that are run were run, and the notebook is left to be written.
abbrev pub CellsAreRun : State → State → Session → Graph → List Item → Notebook → ℕ → ℕ → Type 0
CellsAreRun s0 s session g all notebook steps0 steps = ComesTo s0 s session g all (λ _. last_item notebook ∷ []) steps0 steps

-- All requests that are made were applied, and the line that sums them up is left to be written, of the lines that were taken.
abbrev pub last_line : (lines : List ℕ) → Graph → List Item
last_line lines now = closing (summary_of now lines) ∷ []

abbrev pub AreApplied : State → State → Session → Graph → List Request → Summary → ℕ → ℕ → Type 0
AreApplied s0 s session g requests summary steps0 steps =
    (lines : List ℕ) × HasTaken summary lines × ComesTo s0 s session g (summed_up g requests) (last_line lines) steps0 steps
