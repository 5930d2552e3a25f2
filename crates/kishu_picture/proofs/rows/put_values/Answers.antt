use Rattle.std.proofs.Common.{◌+◌, ◌++◌, drop, ap, arith}
use Rattle.kishu_meaning.specs.values.Values.{value_of}
use Rattle.kishu_objects.specs.Bytes.{value_bytes}
use Rattle.kishu_objects.specs.Fits.{ValueFits}
use Rattle.kishu_picture.specs.Rows.{values_at, list_bytes}
use Rattle.kishu_picture.proofs.Found.{met_here, values_count}
use Rattle.kishu_picture.proofs.Putting.{few, all_fit}
use Rattle.kishu_picture.proofs.Sizes.{value_some}
use Rattle.kishu_picture.proofs.Steps.{rest_here, no_rest}
use Rattle.kishu_picture.proofs.rows.put_values.Goals as goal

pub overflow_cast-values : goal.overflow_cast-values
overflow_cast-values c =
    let found = c.args.found.now.keys in
    omega (arith, few value_bytes value_some (values_at found c.args.values.now) c.requires.short, values_count found c.args.values.now)

pub put_value-requires-clause-met : goal.put_value-requires-clause-met
put_value-requires-clause-met c =
    let values = c.args.values.now in
    let i = c.loop-value.value-index in
    let value = c.value-item.result in
    met_here c.args.found.now.keys value_of values i value (drop (i + 1) values) c.requires.met
    (rest_here values i value c.loop-value-test.true c.value-item.is)

pub returns-clause-fits : goal.returns-clause-fits
returns-clause-fits c =
    let found = c.args.found.now.keys in
    let values = c.args.values.now in
    let all = values_at found values in
    let i = c.loop-value.value-index in
    all_fit value_bytes ValueFits all (c.args.out.now.items ++ list_bytes found values) c.loop-value.out.items (values_at found (drop i values))
    c.loop-value.invariant
    (ap (values_at found) (no_rest values i (omega (arith, c.loop-value-test.false)))) (few value_bytes value_some all c.requires.short)
