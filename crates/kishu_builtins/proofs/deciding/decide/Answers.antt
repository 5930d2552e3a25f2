use Rattle.std.proofs.Common.{suc}
use Rattle.std.proofs.lemmas.Result.{err_from_is_err_and}
use Rattle.kishu_meaning.specs.calls.Builtins.{decided}
use Rattle.kishu_meaning.specs.values.Values.{Value, value_of}
use Rattle.kishu_meaning.specs.items.Walks.{Walk, walk_of}
use Rattle.kishu_builtins.specs.Called.{moment_of}
use Rattle.kishu_builtins.proofs.Visits.{fails_through}
use Rattle.kishu_builtins.proofs.deciding.decide.Goals as goal

pub returns-in_err-walk-clause-gives : goal.returns-in_err-walk-clause-gives
returns-in_err-walk-clause-gives g c =
    let s = moment_of c.args.heap.now c.args.budget.now in
    let p = err_from_is_err_and c.from_residual.result c.from_residual.ensures.1 in
    rw (p.1, p.2) (fails_through {A = Walk} {B = Value} c.in_err-walk.field-0.0 s (walk_of (value_of c.args.value.now) s) (λ walk. λ t. decided c.args.which (suc t.left) walk 0 t) (c.in_err-walk.ensures.gives c.args.budget.now))

pub returns-clause-gives : goal.returns-clause-gives
returns-clause-gives g c = rw (c.in_ok-walk.ensures.gives c.args.budget.now) c.decided.ensures.gives
