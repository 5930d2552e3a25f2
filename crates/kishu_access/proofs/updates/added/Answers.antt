use Rattle.std.proofs.Common.{◌∙◌, ap, length}
use Rattle.kishu_meaning.specs.values.Values.{value_of}
use Rattle.kishu_machine.specs.Machine.{moment_of}
use Rattle.std.proofs.lemmas.Result.{err_from_is_err_and}
use Rattle.std.proofs.Common.{Err}
use Rattle.kishu_meaning.specs.cells.Meaning.{updated}
use Rattle.kishu_meaning.specs.moments.Moment.{Ends, and_then, give}
use Rattle.kishu_meaning.specs.items.Sequences.{extended}
use Rattle.kishu_language.specs.declared.tree.Operator.TheVariants as operators
use Rattle.kishu_machine.specs.Composing.{fails_on}
use Rattle.kishu_machine.specs.SoundMore.{sound_more}
use Rattle.kishu_access.proofs.Ends.{by_end}
use Rattle.kishu_access.proofs.Updating.{updated_list, updated_otherwise}
use Rattle.kishu_access.proofs.updates.added.Goals as goal

pub returns-in_err-extend-clause-gives : goal.returns-in_err-extend-clause-gives
returns-in_err-extend-clause-gives g c =
    let v = value_of c.args.value in
    let w = value_of c.args.operand.now in
    let s = moment_of c.args.machine.now in
    let p = err_from_is_err_and c.from_residual.result c.from_residual.ensures.1 in
    rw (p.1, p.2) (by_end value_of (Err c.in_err-extend.field-0.0) (moment_of c.extend.new.machine) (updated operators.Add v w s) _ (updated_list w s v c.in-Some.id.0 c.in-Some.ensures.is) (fails_on (λ _. give v) c.in_err-extend.field-0.0 (moment_of c.extend.new.machine) (extended c.in-Some.id.0 w s) c.in_err-extend.ensures.gives))

pub returns-in-Some-clause-gives : goal.returns-in-Some-clause-gives
returns-in-Some-clause-gives g c =
    let v = value_of c.args.value in
    let w = value_of c.args.operand.now in
    let s = moment_of c.args.machine.now in
    updated_list w s v c.in-Some.id.0 c.in-Some.ensures.is ∙ ap (λ (e : Ends (Unit {0})). and_then e (λ _. give v)) c.in_ok-extend.ensures.gives

pub returns-in-Some-clause-sound : goal.returns-in-Some-clause-sound
returns-in-Some-clause-sound g c = sound_more (length c.args.machine.now.heap) (length c.extend.new.machine.heap) c.in_ok-extend.ensures.costs.kept.0 (value_of c.args.value) c.requires.sound_value

pub returns-clause-gives : goal.returns-clause-gives
returns-clause-gives g c =
    let s = moment_of c.args.machine.now in
    let v = value_of c.args.value in
    let w = value_of c.args.operand.now in
    by_end value_of c.operate.result (moment_of c.operate.new.machine) (updated operators.Add v w s) _ (updated_otherwise w s v c.in_default.ensures.is) c.operate.ensures.gives
