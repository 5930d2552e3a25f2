-- What a `def` makes of its tree.
use Rattle.std.proofs.Common.{◌≡◌, ap, map}
use Rattle.kishu_language.specs.declared.tree.Def.{Def}
use Rattle.kishu_language.specs.declared.tree.Stmt.TheFolds.{fold-roll-Def}
use Rattle.kishu_language.specs.trees.Tree.{Statement, Arm, Definition, Handler, definition_of, statement_of, statement_step, arm_step, definition_step, handler_step, parameter_of}

pub parameters_are : (d : Def) → (definition_of d).parameters ≡ map parameter_of d.params.items
unfolding definition_of statement_of
parameters_are d = ap (λ k. k.parameters) (fold-roll-Def Statement Arm Definition Handler statement_step arm_step definition_step handler_step (record { name = d.name; params = d.params; body = d.body }))
