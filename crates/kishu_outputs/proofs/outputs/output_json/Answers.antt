use Rattle.std.proofs.Common.{ℕ, List, ap, ◌∙◌}
use Rattle.std.proofs.lemmas.Result.{IfOk-weaker}
use Rattle.std.specs.Rc.{rc_str_bytes}
use Rattle.kishu_model.specs.Answers.{output_data}
use Rattle.kishu_meaning.specs.values.Values.{stream, fault}
use Rattle.kishu_outputs.proofs.outputs.output_json.Goals as goal

pub returns-in-Stream : goal.returns-in-Stream
returns-in-Stream c =
    let count = c.args.count in
    rw c.in-Stream.is
    (IfOk-weaker c.stream_json.result _ _ (λ v h. h count ∙ ap (λ (t : List ℕ). output_data count (stream t)) c.as_str.ensures.value) c.stream_json.ensures)

pub returns-in-Fault : goal.returns-in-Fault
returns-in-Fault c =
    let count = c.args.count in
    rw c.in-Fault.is
    (
    IfOk-weaker c.fault_json.result _ _
    (λ v h. h count ∙ ap (λ (t : List ℕ). output_data count (fault t c.as_str-in-Fault-2.result.now)) c.as_str-in-Fault.ensures.value ∙ ap (λ (t : List ℕ). output_data count (fault (rc_str_bytes c.in-Fault.ename) t)) c.as_str-in-Fault-2.ensures.value)
    c.fault_json.ensures
    )
