use Rattle.kishu_calls.proofs.Printed.{shown_text}
use Rattle.kishu_calls.proofs.endings.finish_done.Goals as goal

pub returns : goal.returns
returns c =
    let told = shown_text c.in_ok-output.output c.in-Some.text c.as_str.result.now c.in_ok-output.ensures c.as_str.ensures.value in
    rw c.in-Some.is (rw (c.as_str-out.ensures.value, told) at c.ended-2.ensures)
