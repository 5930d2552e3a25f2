-- What a run does, once its store is open.
use Rattle.std.specs.Prelude.{◌≡◌, ◌≤◌, ◌↔◌, ℕ, Bool, true, false, not, List, [], length, Some, IsSome}
use Rattle.kishu_host.specs.Source.{SourceState}
use Rattle.kishu_store.specs.Graph.{Graph}
use Rattle.kishu_model.specs.Serve.{Item}
use Rattle.kishu_model.specs.Task.{Form, one_cell, session, notebook, one_request, generated, limit_place, session_limits, task}
use Rattle.kishu_model.specs.generated.Run.{summed_up}
use Rattle.kishu_gen.specs.Scripts as scripts
use Rattle.kishu_serve.specs.Asking as asking
use Rattle.kishu_serve.specs.Asking.{to_come, reads_lines}
use Rattle.kishu_serve.specs.Notebooks.{items_of}
use Rattle.kishu_serve.specs.declared.work.Work.{Work}
use Rattle.kishu_serve.specs.declared.work.Work.TheVariants.{Answers, Runs, Makes}

-- the items of a run, where the source has this left
abbrev pub to_do : Work → Graph → List ℕ → List Item
to_do (Answers requests) g left = to_come requests left
to_do (Runs book) g left = items_of book g
to_do (Makes script) g left = summed_up g (scripts.to_come script)

abbrev pub HaveRoom : Work → Type 0
HaveRoom (Answers requests) = asking.HaveRoom requests
HaveRoom (Runs book) = Unit {0}
HaveRoom (Makes script) = Unit {0}

-- whether it reads lines, and whether it may write any number of records
abbrev pub still_reads : Work → Bool
still_reads (Answers requests) = reads_lines requests
still_reads (Runs book) = false
still_reads (Makes script) = false

-- whether it answers requests one by one
abbrev pub answers_each : Work → Bool
answers_each (Answers requests) = true
answers_each (Runs book) = false
answers_each (Makes script) = false

abbrev pub records_many : Work → Bool
records_many (Answers requests) = reads_lines requests
records_many (Runs book) = not book.together
records_many (Makes script) = true

abbrev pub Knows : Work → SourceState → Type 0
Knows (Answers requests) s = asking.Knows requests s
Knows (Runs book) s = Unit {0}
Knows (Makes script) s = Unit {0}

abbrev pub IsLimited : Work → SourceState → Type 0
IsLimited (Answers requests) s = asking.IsLimited requests s
IsLimited (Runs book) s = ⊥
IsLimited (Makes script) s = ⊥

abbrev pub IsRead : Work → SourceState → Type 0
IsRead (Answers requests) s = asking.IsRead requests s
IsRead (Runs book) s = Unit {0}
IsRead (Makes script) s = Unit {0}

abbrev pub taken_by : Work → ℕ
taken_by (Answers requests) = asking.taken_by requests
taken_by (Runs book) = 0
taken_by (Makes script) = 0

-- ---- what a form asks for: of the source before its work is made and after it

abbrev pub is_session : Form → Bool
is_session one_cell = false
is_session session = true
is_session (notebook together) = false
is_session (one_request q) = false
is_session (generated start many) = false

-- What words ask for is known: of a form that reads where the source tells what it has left.
abbrev pub KnowsForm : Form → SourceState → Type 0
KnowsForm one_cell s = s.tells ≡ true
KnowsForm session s = s.tells ≡ true
KnowsForm (notebook together) s = s.tells ≡ true
KnowsForm (one_request q) s = Unit {0}
KnowsForm (generated start many) s = Unit {0}

-- whether a form asks for requests that are answered one by one
abbrev pub one_by_one : Form → Bool
one_by_one one_cell = true
one_by_one session = true
one_by_one (notebook together) = false
one_by_one (one_request q) = true
one_by_one (generated start many) = false

-- It does what the run is to do.
abbrev pub AsksFor : Form → SourceState → Work → SourceState → Type 0
AsksFor form from work to = KnowsForm form from → (g : Graph) → to_do work g to.left ≡ task (Some form) g from.left

-- The whole input was read, and has at most so many bytes.
abbrev pub WithinWhole : ℕ → SourceState → SourceState → Type 0
WithinWhole most from to = from.tells ≡ true → (to.left ≡ []) × (length from.left ≤ most)

-- A limit is reached where the whole input reaches one.
abbrev pub KeepsLimit : SourceState → Work → SourceState → Type 0
KeepsLimit from work to = IsLimited work to ↔ IsSome (limit_place session_limits from.left)
