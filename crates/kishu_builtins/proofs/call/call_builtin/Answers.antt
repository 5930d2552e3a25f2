use Rattle.std.proofs.Common.{length, map}
use Rattle.kishu_meaning.specs.calls.Callees.{call_builtin}
use Rattle.kishu_meaning.specs.values.Values.{value_of}
use Rattle.kishu_builtins.specs.Called.{moment_of, plainly}
use Rattle.kishu_builtins.specs.CallLaws.{builtin_kept}
use Rattle.kishu_builtins.proofs.Ending.{grown, thrown}
use Rattle.kishu_builtins.proofs.call.call_builtin.Goals as goal

pub returns-clause-thrown : goal.returns-clause-thrown
returns-clause-thrown g c =
    let vs = map value_of c.args.args.now in
    let s = moment_of c.args.heap.now c.args.budget.now in
    thrown (length c.called.new.heap) s (moment_of c.called.new.heap c.called.new.budget) (call_builtin c.args.which.0 (plainly vs) s) c.called.result c.called.ensures.gives ((builtin_kept c.args.which.0 c.requires.not_print vs).keeps s)

pub returns-clause-more : goal.returns-clause-more
returns-clause-more g c =
    let vs = map value_of c.args.args.now in
    let s = moment_of c.args.heap.now c.args.budget.now in
    grown c.args.heap.now c.called.new.heap c.args.budget.now c.called.new.budget (call_builtin c.args.which.0 (plainly vs) s)
    ((builtin_kept c.args.which.0 c.requires.not_print vs).keeps s) c.called.ensures.grows c.called.result c.called.ensures.gives
