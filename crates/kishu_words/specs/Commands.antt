-- Which form a command is.
use Rattle.std.specs.Prelude.{ℕ, List, Option, map, option_map}
use Rattle.std.specs.Borrow.{Bor}
use Rattle.std.specs.Rc.{rc_str_bytes}
use Rattle.kishu_model.specs.Request.{checkout, branch, log, status, inspect}
use Rattle.kishu_model.specs.Task as model
use Rattle.kishu_words.specs.declared.command.Command as rust
use Rattle.kishu_words.specs.declared.command.Command.TheVariants as commands

abbrev pub form_by : rust.Command → model.Form
form_by commands.Session = model.session
form_by commands.Cell = model.one_cell
form_by (commands.Run together) = model.notebook together
form_by commands.Log = model.one_request log
form_by commands.Status = model.one_request status
form_by commands.Inspect = model.one_request inspect
form_by (commands.Checkout to) = model.one_request (checkout (rc_str_bytes to))
form_by (commands.Branch name at) = model.one_request (branch (rc_str_bytes name) (option_map rc_str_bytes at))
form_by (commands.Gen start n) = model.generated start n

-- Words have no command where they have no form.
abbrev pub form_found : Option rust.Command → Option model.Form
form_found = option_map form_by

-- the texts behind references
abbrev pub words_in : List (Bor (List ℕ)) → List (List ℕ)
words_in = map (λ w. w.now)
