use Rattle.std.proofs.Common.{◌≡◌, ◌++◌, take, drop}
use Rattle.kishu_store.specs.CommitLines.{longest_line}
use Rattle.kishu_graph.proofs.LineCuts.{rest_of_line}
use Rattle.kishu_graph.proofs.lines.line_length.Given as goal

-- what is taken, and the line of what is left
abbrev pub invariant-loop-i : goal.invariant-loop-i
invariant-loop-i l = take l.i l.text ++ rest_of_line l.left (drop l.i l.text) ≡ rest_of_line longest_line l.text
