-- Worked rows of statuses, lines and files that are begun, computed on the definitions.
use Rattle.std.proofs.Common.{◌≡◌, [], ◌∷◌, ◌++◌, codes, Some, None, refl}
use Rattle.std.specs.Fmt.{digits}
use Rattle.kishu_store.specs.Graph.{new_graph}
use Rattle.kishu_store.specs.Holds.{header}
use Rattle.kishu_model.specs.Request.{unreadable}
use Rattle.kishu_model.specs.Serve.{answered, after_all, charges}
use Rattle.kishu_model.specs.Task.{Limits, task, limit_place, session_lines}
use Rattle.kishu_session.specs.Written.{begun}
use Rattle.kishu_serve.specs.declared.status.Status.TheVariants.{Done, Usage, NotAJournal, Damaged, NotebookRefused, DiskFault, InputFault, OutputFault, NoMemory, InputTooLong}
use Rattle.kishu_notebook.specs.declared.refusal.NotebookKey.TheVariants.{Format}
use Rattle.kishu_notebook.specs.declared.refusal.NotebookRefusal.TheVariants.{NotJson, NotNotebook, Version, RepeatedId}
use Rattle.kishu_serve.specs.Statuses.{code_of, text_of}

-- ---- statuses

code-done : code_of Done ≡ 0
code-done = refl

code-usage : code_of Usage ≡ 2
code-usage = refl

code-journal : code_of NotAJournal ≡ 3
code-journal = refl

code-damaged : code_of (Damaged 16) ≡ 3
code-damaged = refl

code-refused : code_of (NotebookRefused NotJson) ≡ 4
code-refused = refl

code-disk : code_of DiskFault ≡ 5
code-disk = refl

code-input : code_of InputFault ≡ 6
code-input = refl

code-output : code_of OutputFault ≡ 7
code-output = refl

code-memory : code_of NoMemory ≡ 8
code-memory = refl

code-long : code_of InputTooLong ≡ 9
code-long = refl

text-done : text_of Done ≡ []
text-done = refl

text-usage : text_of Usage ≡ codes "usage: kishu STORE COMMAND"
text-usage = refl

text-journal : text_of NotAJournal ≡ codes "not a journal"
text-journal = refl

text-damaged : text_of (Damaged 16) ≡ codes "damaged at 16"
unfolding digits
text-damaged = refl

text-damaged-far : text_of (Damaged 35000016) ≡ codes "damaged at 35000016"
unfolding digits
text-damaged-far = refl

text-refused : text_of (NotebookRefused (NotNotebook Format)) ≡ codes "notebook refused: key nbformat"
text-refused = refl

text-minor : text_of (NotebookRefused (Version 4)) ≡ codes "notebook refused: minor 4"
unfolding digits
text-minor = refl

text-repeated : text_of (NotebookRefused (RepeatedId 1)) ≡ codes "notebook refused: repeated id at cell 1"
unfolding digits
text-repeated = refl

text-disk : text_of DiskFault ≡ codes "disk fault"
text-disk = refl

-- ---- runs

-- Words without a form ask for nothing, whatever the input is.
nothing : task None new_graph (codes "print(1)") ≡ []
nothing = refl

-- two refused requests
refused-twice : after_all new_graph (answered unreadable ∷ answered unreadable ∷ []) ≡ new_graph
refused-twice = refl

refused-steps : charges new_graph (answered unreadable ∷ answered unreadable ∷ []) ≡ 0
refused-steps = refl

-- ---- lines, and where a limit is reached: no line has 3 bytes, and no input 9

abbrev small : Limits
small = record { line = 3; input = 9 }

lines-both : session_lines small (codes "ab\nc\n") ≡ codes "ab" ∷ codes "c" ∷ []
lines-both = refl

lines-rest : session_lines small (codes "ab\n\nc") ≡ codes "ab" ∷ [] ∷ codes "c" ∷ []
lines-rest = refl

lines-none : session_lines small [] ≡ []
lines-none = refl

lines-long : session_lines small (codes "ab\ncde\nf") ≡ codes "ab" ∷ []
lines-long = refl

limit-line : limit_place small (codes "ab\ncde\nf") ≡ Some 5
limit-line = refl

lines-many : session_lines small (codes "a\nb\nc\nd\ne") ≡ codes "a" ∷ codes "b" ∷ codes "c" ∷ codes "d" ∷ []
lines-many = refl

limit-input : limit_place small (codes "a\nb\nc\nd\ne") ≡ Some 8
limit-input = refl

limit-none : limit_place small (codes "a\nb\nc\nd\n") ≡ None
limit-none = refl

-- ---- a short file is begun anew

begun-none : begun [] ≡ codes "KISHU-JOURNAL-1\n" ++ 0 ∷ []
unfolding header
begun-none = refl

begun-seventeen : begun (codes "xxxxxxxxxxxxxxxxx") ≡ codes "KISHU-JOURNAL-1\n" ++ 0 ∷ []
unfolding header
begun-seventeen = refl

begun-eighteen : begun (codes "xxxxxxxxxxxxxxxxxx") ≡ codes "xxxxxxxxxxxxxxxxxx"
begun-eighteen = refl
