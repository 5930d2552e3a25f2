use Rattle.std.proofs.Common.{◌≡◌, ◌+◌, ◌≤◌, drop}
use Rattle.kishu_meaning.specs.cells.Meaning.{nodes, nodes_before_last}
use Rattle.kishu_language.specs.trees.Parts.{trailers_of}
use Rattle.kishu_machine.specs.Machine.{GrownBy, moment_of}
use Rattle.kishu_statements.proofs.targets.take_container_nodes.Given as goal

abbrev pub invariant-loop-place : goal.invariant-loop-place
invariant-loop-place g l = record {
  told : nodes_before_last (trailers_of l.trailers) (moment_of l.fn.machine) ≡ nodes (trailers_of (drop l._place l.trailers)) (moment_of l.machine);
  kept : GrownBy 0 l.fn.machine l.fn.steps l.machine l.steps;
  counted : l.steps + l.machine.budget.left ≡ l.fn.steps + l.fn.machine.budget.left;
  heap : l.machine.heap ≡ l.fn.machine.heap;
  taken : l.machine.budget.left + l._place ≤ l.fn.machine.budget.left + 1;
}
