use Rattle.std.proofs.Common.{Result, Ok, Err, sym, ◌∙◌, IfOk}
use Rattle.kishu_tests.proofs.serve.heaps.opened.Goals as goal

if-ok : {T E : Type 0} {P Q : T → Type 0} (r : Result T E) → ((x : T) → P x → Q x) → IfOk r P → IfOk r Q
if-ok (Ok x) goes p = goes x p
if-ok (Err e) goes p = tt

pub returns : goal.returns
returns g c = record { ready = if-ok c.attach.result (λ session at_end going told. at_end (sym c.attach.ensures.tells ∙ told)) c.attach.ensures.at_end }
