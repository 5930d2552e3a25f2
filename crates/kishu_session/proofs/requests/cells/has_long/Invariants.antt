use Rattle.std.proofs.Common.{◌≡◌, drop}
use Rattle.std.specs.List.{list_any}
use Rattle.kishu_model.specs.requests.Cells.{is_too_long}
use Rattle.kishu_session.specs.TextLists.{texts_of}
use Rattle.kishu_session.proofs.requests.cells.has_long.Given as goal

abbrev pub invariant-loop-text : goal.invariant-loop-text
invariant-loop-text l = list_any is_too_long (drop l.text-index (texts_of l.texts)) ≡ list_any is_too_long (texts_of l.texts)
