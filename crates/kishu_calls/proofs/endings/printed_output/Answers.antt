use Rattle.kishu_calls.proofs.Printed.{printed_none, printed_some}
use Rattle.kishu_calls.proofs.endings.printed_output.Goals as goal

pub returns-then-is_empty : goal.returns-then-is_empty
returns-then-is_empty c = rw c.new-outputs.ensures.items (printed_none c.args.out.now c.is_empty.result c.is_empty.ensures c.if-is_empty.true)

pub returns : goal.returns
returns c =
    rw (c.in_ok-push.ensures.items, c.new-outputs.ensures.items, c.in_ok-text.ensures.ok)
    (printed_some c.args.out.now c.is_empty.result c.utf8.out c.is_empty.ensures c.if-is_empty.false)
