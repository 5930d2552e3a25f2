use Rattle.std.proofs.Common.{◌≡◌, ◌++◌}
use Rattle.kishu_graph.specs.Kept.{branches_of}
use Rattle.kishu_graph.proofs.branches.all.Given as goal

-- the branches so far, and those that are left
abbrev pub invariant-loop-name : goal.invariant-loop-name
invariant-loop-name l = branches_of l.all.items ++ branches_of l.name-iterator ≡ branches_of l.branches.entries
