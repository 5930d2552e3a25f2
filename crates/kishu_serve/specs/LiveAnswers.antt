-- Requests that are answered one by one on live states, over any store that holds a graph.
use Rattle.std.specs.Prelude.{◌≡◌, ◌⊎◌, ℕ, List, [], ◌∷◌, ◌++◌, Some}
use Rattle.kishu_host.specs.Host as host
use Rattle.kishu_meaning.specs.values.Values.{State}
use Rattle.kishu_store.specs.Graph.{Graph}
use Rattle.kishu_store.specs.Holds.{Holds, Gives}
use Rattle.kishu_store.specs.Tables.{Change, change_of}
use Rattle.kishu_history.specs.Live.{IsLive}
use Rattle.kishu_history.specs.Stored.{Stored}
use Rattle.kishu_model.specs.Answers.{answer_line}
use Rattle.kishu_model.specs.Request.{Request}
use Rattle.kishu_model.specs.Serve.{Item, answered, silent, closing, IsPrefix}
use Rattle.kishu_live_laws.specs.OnStates.{after_on, answer_on, head_rows}
use Rattle.kishu_session.specs.Becoming.{IsHeadLoaded, IsNextState}
use Rattle.kishu_session.specs.Written.{begun, IsRecorded}

-- A request was applied to a state, over this graph, which a file holds whose records change this: the file that it led to, what the records of that change, and the state. The state is the one that the new head's table tells, by the pictures that the file holds then.
pub record IsApplied (file : List ℕ) (cs : List Change) (g : Graph) (u : State) (q : Request) (later : List ℕ) (more : List Change) (v : State) : Type 0 where
  pub written : (later ≡ file) ⊎ IsRecorded file later
  pub holds : Holds later (after_on (change_of cs) u g q)
  pub gives : Gives later more
  pub becomes : IsNextState file (change_of cs) g u q v
  pub tells : IsLive (Stored (Some later)) (head_rows (change_of more) (after_on (change_of cs) u g q)) v

-- the line of the answer on a state
abbrev pub line_on : List Change → Graph → State → Request → List ℕ
line_on cs g u q = answer_line (answer_on (change_of cs) u g q)

-- These items are requests. The first is answered on this state, and each later one on the state to which the one before it led. Their lines are written, one after another, and they lead to this file and this graph.
abbrev pub AnswersLive : List ℕ → List Change → Graph → State → List Item → (written final : List ℕ) → (now : Graph) → Type 0
AnswersLive file cs g u [] written final now = (written ≡ []) × (final ≡ file) × (now ≡ g)
AnswersLive file cs g u (answered q ∷ is) written final now =
    (rest : List ℕ) × (written ≡ line_on cs g u q ++ rest)
    × ((later : List ℕ) × (more : List Change) × (v : State) × IsApplied file cs g u q later more v
    × AnswersLive later more (after_on (change_of cs) u g q) v is rest final now)
AnswersLive file cs g u (silent q ∷ is) written final now = ⊥
AnswersLive file cs g u (closing bytes ∷ is) written final now = ⊥

-- After the first k of these items, for some k, the graph is `now`; the lines of the answers to the first k - 1 are written, and a prefix of that to the k-th.
abbrev pub ReachesLive : List ℕ → List Change → Graph → State → List Item → (written : List ℕ) → (now : Graph) → Type 0
ReachesLive file cs g u [] written now = (written ≡ []) × (now ≡ g)
ReachesLive file cs g u (answered q ∷ is) written now =
    ((written ≡ []) × (now ≡ g))
    ⊎ (IsPrefix written (line_on cs g u q) × (now ≡ after_on (change_of cs) u g q))
    ⊎ ((rest : List ℕ) × (written ≡ line_on cs g u q ++ rest)
    × ((later : List ℕ) × (more : List Change) × (v : State) × IsApplied file cs g u q later more v
    × ReachesLive later more (after_on (change_of cs) u g q) v is rest now))
ReachesLive file cs g u (silent q ∷ is) written now = ⊥
ReachesLive file cs g u (closing bytes ∷ is) written now = ⊥

-- ---- what they leave of a file and an output

-- They lead from a file and an output to those of a host. The file holds the graph.
pub record AreAnswered (file out : List ℕ) (new : host.State) (cs : List Change) (g : Graph) (u : State) (items : List Item) : Type 0 where
  pub written : List ℕ
  pub now : Graph
  pub answers : AnswersLive file cs g u items written new.file now
  pub holds : Holds new.file now
  pub out_is : new.out ≡ out ++ written

-- The first k are answered, for some k, the last in part: a file holds the graph to which they lead, and their lines are out.
pub record IsPartLive (file out : List ℕ) (cs : List Change) (g : Graph) (u : State) (items : List Item) (left printed : List ℕ) : Type 0 where
  pub written : List ℕ
  pub now : Graph
  pub reached : ReachesLive file cs g u items written now
  pub holds : Holds left now
  pub out_is : printed ≡ out ++ written

-- ---- a whole run

-- A file as it is opened holds a graph, and they are answered from the state on that is loaded for the graph's head.
pub record AnswersFrom (items : Graph → List Item) (old new : host.State) : Type 0 where
  pub graph : Graph
  pub changes : List Change
  pub state : State
  pub holds : Holds (begun old.file) graph
  pub gives : Gives (begun old.file) changes
  pub loaded : IsHeadLoaded (begun old.file) graph state
  pub answered : AreAnswered (begun old.file) old.out new changes graph state (items graph)

-- So it is with the first of them.
pub record ReachedFrom (items : Graph → List Item) (old new : host.State) : Type 0 where
  pub graph : Graph
  pub changes : List Change
  pub state : State
  pub holds : Holds (begun old.file) graph
  pub gives : Gives (begun old.file) changes
  pub loaded : IsHeadLoaded (begun old.file) graph state
  pub part : IsPartLive (begun old.file) old.out changes graph state (items graph) new.file new.out

-- None of them is answered, and the file holds the graph that it held; or the first are.
abbrev pub EndsFrom : (Graph → List Item) → (old new : host.State) → Graph → Type 0
EndsFrom items old new g = (Holds new.file g × (new.out ≡ old.out)) ⊎ ReachedFrom items old new
