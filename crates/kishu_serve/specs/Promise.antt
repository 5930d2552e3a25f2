-- What is promised of a run, in few words: of the host and the source as it begins and as it ends.
use Rattle.std.specs.Prelude.{◌≡◌, ◌⊎◌, ℕ, true, List, Option, Some, None}
use Rattle.std.specs.declared.string.String.{String}
use Rattle.std.specs.declared.alloc.Global.{Global}
use Rattle.kishu_host.specs.Host.{State, Told, Now, Elapses}
use Rattle.kishu_host.specs.Source.{SourceState}
use Rattle.kishu_store.specs.Graph.{Graph}
use Rattle.kishu_store.specs.Holds.{Holds, Gives, IsBroken}
use Rattle.kishu_store.specs.Tables.{Row, Change, change_of, table_at}
use Rattle.kishu_objects.specs.Lists.{In}
use Rattle.kishu_history.specs.Good.{IsGoodFile, IsGoodFileOf}
use Rattle.kishu_model.specs.Serve.{Item}
use Rattle.kishu_model.specs.Task.{Form, one_cell, session, notebook, one_request, generated, task}
use Rattle.kishu_model.specs.notebooks.Notebook.{Fault}
use Rattle.kishu_notebook.specs.Values.{fault_of}
use Rattle.kishu_notebook.specs.declared.refusal.NotebookRefusal.{NotebookRefusal}
use Rattle.kishu_checkout.specs.Pictures.{HasNone}
use Rattle.kishu_serve.specs.Headline.{IsPart, IsGiven, IsTooLong, ReadsWhole}
use Rattle.kishu_serve.specs.LiveAnswers.{AnswersFrom, EndsFrom}
use Rattle.kishu_words.specs.Words.{texts, form_of}
use Rattle.kishu_serve.specs.Work.{to_do, Knows}
use Rattle.kishu_serve.specs.declared.status.Status.{Status}
use Rattle.kishu_serve.specs.declared.status.Status.TheVariants.{NotebookRefused}
use Rattle.kishu_serve.specs.declared.work.Work.{Work}

-- Over a good store, where host and source tell their content, this holds of the graph that it holds.
abbrev pub OverGood : State → SourceState → (Graph → Type 0) → Type 0
OverGood host source P = (g : Graph) → IsGiven host source g → P g

-- what the words ask for, and what they ask for with the input, over a store of this graph
abbrev pub form_named : List (String Global) → Option Form
form_named words = form_of (texts words)

abbrev pub asked_by : List (String Global) → SourceState → Graph → List Item
asked_by words source g = task (form_named words) g source.left

-- The words name a form that reads its input.
abbrev pub ReadsInput : Option Form → Type 0
ReadsInput form = ReadsWhole form ⊎ (form ≡ Some session)

-- ---- the store and the output

-- The store holds the graph after the first of these items, and what is written for them is out, the last in part.
abbrev pub EndsInPart : State → State → Graph → List Item → Type 0
EndsInPart old new g items = IsPart old g items new.file new.out

-- A stop during the run leaves what a stop at its start could leave, or the same of the first items.
abbrev pub StopLeaves : State → Graph → List Item → List ℕ → List ℕ → Type 0
StopLeaves old g items file out = Now old file out ⊎ IsPart old g items file out

abbrev pub StopsAsPromised : State → State → Graph → List Item → Type 0
StopsAsPromised old new g items = Elapses old new (StopLeaves old g items)

-- A stop as the run ends leaves nothing but that of the first items.
abbrev pub SettlesInPart : State → State → Graph → List Item → Type 0
SettlesInPart old new g items = (file : List ℕ) → new.may_leave file → IsPart old g items file new.out

-- The file holds a graph, where the host tells it.
abbrev pub HoldsSome : State → Type 0
HoldsSome host = Told host ((g : Graph) × Holds host.file g)

-- The file holds a graph, and at this place, which is that of a group in the table of one of its commits, there is no picture of the group's names.
pub record LacksPicture (file : List ℕ) (at : ℕ) : Type 0 where
  pub graph : Graph
  pub changes : List Change
  pub holds : Holds file graph
  pub gives : Gives file changes
  pub commit : ℕ
  pub row : Row
  pub there : In row (table_at graph (change_of changes) commit)
  pub place : at ≡ row.place
  pub none : HasNone file row

-- Where the host tells its file: at this place stands the first open gate behind which no whole record stands that fits; or the store isn't good, and as the run leaves it it lacks a picture there.
abbrev pub IsDamaged : State → State → (at : ℕ) → Type 0
IsDamaged old new at = Told old (IsBroken old.file at ⊎ ((IsGoodFile old.file → ⊥) × LacksPicture new.file at))

-- ---- the input

-- The input passes the limit of its form, or keeps to it, where it is told.
abbrev pub PassesLimit : Option Form → SourceState → Type 0
PassesLimit form source = source.tells ≡ true → IsTooLong form source.left

abbrev pub StaysWithin : Option Form → SourceState → Type 0
StaysWithin form source = source.tells ≡ true → IsTooLong form source.left → ⊥

-- The run ends with a refusal of the notebook, and for this fault.
abbrev pub RefusesNotebook : Status → Type 0
RefusesNotebook status = (why : NotebookRefusal) × (status ≡ NotebookRefused why)

abbrev pub RefusesFor : Fault → Status → Type 0
RefusesFor fault status = (why : NotebookRefusal) × (fault_of why ≡ fault) × (status ≡ NotebookRefused why)

-- The words ask for requests that are answered one by one, and for which is known: by themselves, or where the source tells its lines, or its cell.
abbrev pub AsksEach : Option Form → SourceState → Type 0
AsksEach None source = ⊥
AsksEach (Some one_cell) source = source.tells ≡ true
AsksEach (Some session) source = source.tells ≡ true
AsksEach (Some (notebook together)) source = ⊥
AsksEach (Some (one_request q)) source = Unit {0}
AsksEach (Some (generated start many)) source = ⊥

-- Then, where the host tells its file: it holds a graph, and all of them are answered, from the state on that is loaded for its head.
abbrev pub AllAnswered : Option Form → SourceState → (old new : State) → Type 0
AllAnswered form source old new = AsksEach form source → Told old (AnswersFrom (λ g. task form g source.left) old new)

-- At each exit then: a file that held a graph still does, and nothing is out; or the first of them are answered so, the last in part.
abbrev pub FirstAnswered : Option Form → SourceState → (old new : State) → Type 0
FirstAnswered form source old new =
    AsksEach form source → Told old ((g : Graph) → Holds old.file g → EndsFrom (λ g. task form g source.left) old new g)

-- ---- what is made of the words and the input

-- Over a good store, where it is known what is to do, this holds of the graph and the items.
abbrev pub OverKnown : Work → SourceState → State → (Graph → List Item → Type 0) → Type 0
OverKnown work source host P =
    Told host (Knows work source → (g : Graph) → IsGoodFileOf host.file g → P g (to_do work g source.left))
