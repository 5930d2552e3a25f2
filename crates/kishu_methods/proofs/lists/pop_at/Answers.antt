use Rattle.std.proofs.Common.{SFits, arith, rules}
use Rattle.std.proofs.lemmas.Int.{to_z-of_z}
use Rattle.std.proofs.lemmas.Result.{err_from_is_err_and}
use Rattle.std.specs.Int.{w128}
use Rattle.kishu_meaning.specs.values.Values.{value_of}
use Rattle.kishu_methods.specs.Called.{moment_of}
use Rattle.kishu_methods.specs.Contents.{items_at}
use Rattle.kishu_methods.proofs.PopsAt.{taken, untaken}
use Rattle.kishu_methods.proofs.lists.pop_at.Goals as goal

pub returns-in_err-place-clause-gives : goal.returns-in_err-place-clause-gives
returns-in_err-place-clause-gives g c =
    let s = moment_of c.args.heap.now c.args.budget.now in
    let fits : SFits w128 c.in_ok-index.index = search rules in
    let p = err_from_is_err_and c.from_residual-in_err-place.result c.from_residual-in_err-place.ensures.1 in
    rw (p.1, p.2)
    (untaken (value_of c.args.at.now) c.args.id.0 c.list_len-len.result (items_at c.args.heap.now c.args.id.0) c.in_ok-index.index s (c.in_ok-index.ensures.gives c.args.budget.now) c.list_len-len.ensures.len (omega arith) c.in_err-place.field-0.0 (rw (to_z-of_z w128 c.in_ok-index.index fits) at (c.in_err-place.ensures.gives s)))

pub returns-clause-gives : goal.returns-clause-gives
returns-clause-gives g c =
    let s = moment_of c.args.heap.now c.args.budget.now in
    let fits : SFits w128 c.in_ok-index.index = search rules in
    taken (value_of c.args.at.now) c.args.id.0 c.list_len-len.result (items_at c.args.heap.now c.args.id.0) c.in_ok-index.index s (c.in_ok-index.ensures.gives c.args.budget.now) c.list_len-len.ensures.len (omega arith) c.in_ok-place.place c.take_out.result (moment_of c.take_out.new.heap c.take_out.new.budget) (rw (to_z-of_z w128 c.in_ok-index.index fits) at (c.in_ok-place.ensures.gives s)) c.take_out.ensures.gives
