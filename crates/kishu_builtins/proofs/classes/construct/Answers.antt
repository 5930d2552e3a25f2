use Rattle.std.proofs.Common.{length, map}
use Rattle.kishu_meaning.specs.calls.Callees.{construct}
use Rattle.kishu_meaning.specs.values.Values.{value_of}
use Rattle.kishu_builtins.specs.Called.{moment_of, plainly}
use Rattle.kishu_builtins.specs.CallLaws.{class_kept}
use Rattle.kishu_builtins.specs.SoundCalls.{class_sounds}
use Rattle.kishu_builtins.proofs.Ending.{grown, thrown, sound}
use Rattle.kishu_builtins.proofs.classes.construct.Goals as goal

pub returns-clause-sound : goal.returns-clause-sound
returns-clause-sound g c =
    let vs = map value_of c.args.args.now in
    let s = moment_of c.args.heap.now c.args.budget.now in
    sound c.constructed.new.heap c.constructed.new.budget (construct c.args.class.0 (plainly vs) s) c.constructed.result c.constructed.ensures.gives (class_sounds c.args.class.0 vs s c.requires.sound)

pub returns-clause-thrown : goal.returns-clause-thrown
returns-clause-thrown g c =
    let vs = map value_of c.args.args.now in
    let s = moment_of c.args.heap.now c.args.budget.now in
    thrown (length c.constructed.new.heap) s (moment_of c.constructed.new.heap c.constructed.new.budget) (construct c.args.class.0 (plainly vs) s) c.constructed.result c.constructed.ensures.gives ((class_kept c.args.class.0 vs).keeps s)

pub returns-clause-more : goal.returns-clause-more
returns-clause-more g c =
    let vs = map value_of c.args.args.now in
    let s = moment_of c.args.heap.now c.args.budget.now in
    grown c.args.heap.now c.constructed.new.heap c.args.budget.now c.constructed.new.budget (construct c.args.class.0 (plainly vs) s)
    ((class_kept c.args.class.0 vs).keeps s) c.constructed.ensures.grows c.constructed.result c.constructed.ensures.gives
