use Rattle.std.proofs.Common.{◌≡◌, ◌*◌, length, replicate, sym}
use Rattle.std.specs.List.{flat_map}
use Rattle.std.specs.Str.{chars}
use Rattle.std.specs.Int.{w128}
use Rattle.std.proofs.lemmas.Int.{to_z-of_z}
use Rattle.kishu_meaning.specs.moments.Moment.{spend}
use Rattle.kishu_meaning.specs.calls.Operators.{times}
use Rattle.kishu_meaning.specs.values.Values.{text, value_of}
use Rattle.kishu_machine.specs.Machine.{moment_of}
use Rattle.kishu_machine.proofs.Sequences.{spent_value}
use Rattle.kishu_machine.proofs.products.repeated.Goals as goal

pub returns-clause-gives : goal.returns-clause-gives
returns-clause-gives g c =
    let s = moment_of c.args.machine.now in
    let cs = chars c.args.text.now in
    let z = c.args.number in
    let is : c.times-times.result ≡ times z = rw (to_z-of_z w128 z c.ranges.number) at c.times-times.ensures in
    spent_value (spend (length cs * times z) s) (text (flat_map (λ part. part) (replicate (times z) cs))) (value_of c.in_ok-repeated_value.field-0) (moment_of c.spend_times.new.machine)
    (rw (c.count.ensures, is) at c.in_ok-spend_times.ensures.gives) (sym (rw is at c.in_ok-repeated_value.ensures))
