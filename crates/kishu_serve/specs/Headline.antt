-- What a run may leave.
use Rattle.std.specs.Prelude.{◌≡◌, ◌⊎◌, ◌<◌, ◌≤◌, ℕ, ◌+◌, ◌-◌, ◌^◌, true, Bool, false, not, List, [], ◌++◌, length, Option, Some, None, Err, IsSome}
use Rattle.kishu_language.specs.Limits.{longest_text}
use Rattle.kishu_host.specs.Host.{State, Only}
use Rattle.kishu_host.specs.Source.{SourceState}
use Rattle.kishu_store.specs.Graph.{Graph}
use Rattle.kishu_history.specs.Good.{IsGoodFileOf}
use Rattle.kishu_model.specs.Serve.{Item, Reached, after_all, answers}
use Rattle.kishu_model.specs.Task.{Form, one_cell, session, notebook, one_request, generated, limit_place, session_limits, notebook_limit}
use Rattle.kishu_model.specs.notebooks.Notebook.{Fault, opening}
use Rattle.kishu_notebook.specs.declared.refusal.NotebookRefusal.{NotebookRefusal}
use Rattle.kishu_serve.specs.declared.status.Status.{Status}
use Rattle.kishu_serve.specs.declared.status.Status.TheVariants.{Usage, NotebookRefused, InputFault, InputTooLong}

-- The file is good and holds the graph after the first k items, for some k; the output has grown by what is written for the first k - 1 and a prefix of that for the k-th.
pub record IsPart (s : State) (g : Graph) (items : List Item) (file out : List ℕ) : Type 0 where
  pub now : Graph
  pub printed : List ℕ
  pub good : IsGoodFileOf file now
  pub out_is : out ≡ s.out ++ printed
  pub reached : Reached g items now printed

-- All items are done, the file is good, and each stop leaves so.
pub record IsWhole (old new : State) (g : Graph) (items : List Item) : Type 0 where
  pub good : IsGoodFileOf new.file (after_all g items)
  pub out_is : new.out ≡ old.out ++ answers g items
  pub durable : Only new.file new.may_leave

-- The host and the source tell their content, and the file is good and holds this graph.
pub record IsGiven (host : State) (source : SourceState) (g : Graph) : Type 0 where
  pub host_tells : host.tells ≡ true
  pub source_tells : source.tells ≡ true
  pub good : IsGoodFileOf host.file g

-- ---- the input, by the form

-- A form that reads its input has read it to the end.
abbrev pub IsRead : Option Form → List ℕ → Type 0
IsRead None left = Unit {0}
IsRead (Some one_cell) left = left ≡ []
IsRead (Some session) left = left ≡ []
IsRead (Some (notebook together)) left = left ≡ []
IsRead (Some (one_request q)) left = Unit {0}
IsRead (Some (generated start many)) left = Unit {0}

-- The form reads its whole input before the store is opened.
abbrev pub ReadsWhole : Option Form → Type 0
ReadsWhole None = ⊥
ReadsWhole (Some one_cell) = Unit {0}
ReadsWhole (Some session) = ⊥
ReadsWhole (Some (notebook together)) = Unit {0}
ReadsWhole (Some (one_request q)) = ⊥
ReadsWhole (Some (generated start many)) = ⊥

-- so long an input may be then
abbrev pub longest_input : Option Form → ℕ
longest_input None = 0
longest_input (Some one_cell) = longest_text
longest_input (Some session) = 0
longest_input (Some (notebook together)) = notebook_limit - 1
longest_input (Some (one_request q)) = 0
longest_input (Some (generated start many)) = 0

-- The input of a form that reads it reaches a limit.
abbrev pub IsTooLong : Option Form → List ℕ → Type 0
IsTooLong None input = ⊥
IsTooLong (Some one_cell) input = longest_text < length input
IsTooLong (Some session) input = IsSome (limit_place session_limits input)
IsTooLong (Some (notebook together)) input = notebook_limit ≤ length input
IsTooLong (Some (one_request q)) input = ⊥
IsTooLong (Some (generated start many)) input = ⊥

-- The input of a notebook's run has this fault, where it is told.
abbrev pub HasFault : Option Form → SourceState → Fault → Type 0
HasFault None source fault = ⊥
HasFault (Some one_cell) source fault = ⊥
HasFault (Some session) source fault = ⊥
HasFault (Some (notebook together)) source fault = source.tells ≡ true → opening source.left ≡ Err fault
HasFault (Some (one_request q)) source fault = ⊥
HasFault (Some (generated start many)) source fault = ⊥

-- how many bytes of an input are taken at most
abbrev pub most_taken : Option Form → ℕ
most_taken None = 0
most_taken (Some one_cell) = longest_text + 4096
most_taken (Some session) = 2 ^ 30 + 4096
most_taken (Some (notebook together)) = notebook_limit + 4095
most_taken (Some (one_request q)) = 0
most_taken (Some (generated start many)) = 0

-- ---- the store, by the form

-- whether a form writes any number of records
abbrev pub writes_many : Option Form → Bool
writes_many None = false
writes_many (Some one_cell) = false
writes_many (Some session) = true
writes_many (Some (notebook together)) = not together
writes_many (Some (one_request q)) = false
writes_many (Some (generated start many)) = true

-- A run that ends so hasn't opened its store: for its words, or for the input that it reads whole.
abbrev pub IsUnopened : Option Form → Status → Type 0
IsUnopened form status =
    (status ≡ Usage)
    ⊎ (ReadsWhole form × ((status ≡ InputFault) ⊎ (status ≡ InputTooLong)))
    ⊎ ((why : NotebookRefusal) × (status ≡ NotebookRefused why))
