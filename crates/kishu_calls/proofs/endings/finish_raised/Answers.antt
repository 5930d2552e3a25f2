use Rattle.kishu_meaning.specs.comparing.Show.{show_thrown}
use Rattle.kishu_machine.specs.Machine.{moment_of, thrown_of}
use Rattle.kishu_calls.proofs.Printed.{uncaught_shown}
use Rattle.kishu_calls.proofs.endings.finish_raised.Goals as goal

pub returns-in-Ok-clause-report : goal.returns-in-Ok-clause-report
returns-in-Ok-clause-report g c =
    let x = thrown_of c.args.thrown.now in
    let told = uncaught_shown x (show_thrown x (moment_of c.args.machine.now)) c.kind_of_thrown-class.result.0 c.as_str.result.now (moment_of c.show_thrown-text.new.machine) c.in-Ok.text c.in-Ok.ensures.gives c.as_str.ensures.value c.kind_of_thrown-class.ensures.is in
    rw told c.raised_result.ensures
