use Rattle.std.proofs.Common.{◌≡◌, ◌∙◌, ◌++◌, [], ap, List, Some, rules, append_assoc}
use Rattle.std.proofs.lemmas.List.{append-nil}
use Rattle.std.proofs.lemmas.Result.{IfOk-weaker}
use Rattle.std.specs.Prelude.{codes, decimal}
use Rattle.std.specs.Str.{chars}
use Rattle.std.specs.String.{string_bytes}
use Rattle.kishu_meaning.specs.declared.result.CellResult.{CellResult}
use Rattle.kishu_meaning.specs.declared.result.Outcome.TheVariants.{Raised}
use Rattle.kishu_meaning.specs.cells.Meaning.{printed, unread}
use Rattle.kishu_meaning.specs.values.Values.{Output, fault, report_of}
use Rattle.kishu_machine.specs.Machine.{outputs_in}
use Rattle.kishu_interp.proofs.Runs.{alone}
use Rattle.kishu_interp.proofs.run.syntax_fault.Goals as goal

pub returns : goal.returns
returns c s =
    let out = c.in_ok-output.output in
    let text : string_bytes c.in_ok-text.text ≡ codes "invalid syntax, line " ++ decimal c.args.line = search (rules, append_assoc, append-nil) in
    let one = alone (fault (codes "SyntaxError") (codes "invalid syntax, line " ++ decimal c.args.line)) out (c.in_ok-output.ensures ∙ ap (fault (codes "SyntaxError")) (c.as_str.ensures.value ∙ text)) in
    IfOk-weaker c.ended.result (λ (r : CellResult). report_of r ≡ record { outcome = Raised; outputs = printed (chars []) ++ outputs_in (Some out) }) (λ (r : CellResult). report_of r ≡ (unread c.args.line s).report)
    (λ r h. h ∙ ap (λ (os : List Output). record { outcome = Raised; outputs = os }) one) c.ended.ensures
