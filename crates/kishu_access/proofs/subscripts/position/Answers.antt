use Rattle.std.proofs.lemmas.Result.{err_from_is_err_and}
use Rattle.std.proofs.Common.{ℕ, SFits, rules, length, true}
use Rattle.std.specs.Prelude.{ℤ}
use Rattle.std.specs.Int.{w128}
use Rattle.std.proofs.lemmas.Int.{to_z-of_z}
use Rattle.kishu_meaning.specs.items.Indexes.{index_of, place_of}
use Rattle.kishu_meaning.specs.values.Values.{value_of}
use Rattle.kishu_machine.specs.Composing.{fails_on, gives_on}
use Rattle.kishu_machine.specs.Machine.{moment_of}
use Rattle.kishu_access.proofs.Ends.{passed_on}
use Rattle.kishu_access.proofs.subscripts.position.Goals as goal

pub returns-in_err-number-clause-gives : goal.returns-in_err-number-clause-gives
returns-in_err-number-clause-gives g c =
    let s = moment_of c.args.machine.now in
    let p = err_from_is_err_and c.from_residual.result c.from_residual.ensures.1 in
    rw (p.1, p.2) (fails_on (place_of c.args.len) c.in_err-number.field-0.0 s (index_of (value_of c.args.index.now) s) c.in_err-number.ensures.gives)

pub returns-in_err-number-clause-sound : goal.returns-in_err-number-clause-sound
returns-in_err-number-clause-sound g c =
    let n = length c.args.machine.now.heap in
    let p = err_from_is_err_and c.from_residual.result c.from_residual.ensures.1 in
    rw (p.1, p.2) (passed_on (λ (z : ℤ). true) (λ (k : ℕ). true) n c.in_err-number.field-0.0 c.in_err-number.ensures.sound)

pub returns-clause-gives : goal.returns-clause-gives
returns-clause-gives g c =
    let s = moment_of c.args.machine.now in
    let z = c.in_ok-number.number in
    let f : SFits w128 z = search rules in
    let given = rw (to_z-of_z w128 z f) at (c.place_of.ensures.gives s) in
    gives_on (place_of c.args.len) (λ k. k) c.place_of.result z s s (index_of (value_of c.args.index.now) s) c.in_ok-number.ensures.gives given

pub returns-clause-sound : goal.returns-clause-sound
returns-clause-sound g c = c.place_of.ensures.sound (length c.args.machine.now.heap)
