use Rattle.std.proofs.Common.{ap}
use Rattle.std.proofs.lemmas.Result.{err_from_is_err_and}
use Rattle.std.specs.Prelude.{is_some}
use Rattle.kishu_meaning.specs.items.KeyOf.{key_of_value}
use Rattle.kishu_meaning.specs.values.Keys.{Key, is_one}
use Rattle.kishu_meaning.specs.moments.Moment.{and_then, give}
use Rattle.kishu_meaning.specs.values.Nodes.{value_at}
use Rattle.kishu_meaning.specs.values.Values.{value_of}
use Rattle.kishu_heap.specs.Cells.{entries_of}
use Rattle.kishu_machine.specs.Composing.{fails_on}
use Rattle.kishu_machine.specs.Machine.{placed_in}
use Rattle.kishu_machine.proofs.comparing.has_key.Goals as goal

pub returns-in_err-key-clause-gives : goal.returns-in_err-key-clause-gives
returns-in_err-key-clause-gives g c = λ s.
    let heap = c.args.heap.now in
    let f = λ (k : Key). give (is_some (value_at is_one k (entries_of c.args.entries.now.entries))) in
    let p = err_from_is_err_and c.from_residual.result c.from_residual.ensures.1 in
    rw (p.1, p.2) (fails_on f c.in_err-key.field-0.0 (placed_in s heap c.key_in.new.budget) (key_of_value (value_of c.args.value.now) (placed_in s heap c.args.budget.now)) (c.in_err-key.ensures.gives s))

pub returns-clause-gives : goal.returns-clause-gives
returns-clause-gives g c = λ s.
    let f = λ (k : Key). give (is_some (value_at is_one k (entries_of c.args.entries.now.entries))) in
    rw c.is_key.ensures (ap (λ e. and_then e f) (c.in_ok-key.ensures.gives s))
