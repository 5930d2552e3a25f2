-- Why a run doesn't go on.
use Rattle.kishu_input.specs.declared.whole.InputStop.{InputStop}
use Rattle.kishu_input.specs.declared.whole.InputStop.TheVariants as input
use Rattle.kishu_serve.specs.declared.serving.Stop.{Stop}
use Rattle.kishu_serve.specs.declared.serving.Stop.TheVariants.{InputFault, TooLong, NoMemory}

-- where its input isn't read on
abbrev pub stop_by : InputStop → Stop
stop_by input.Fault = InputFault
stop_by input.TooLong = TooLong
stop_by input.NoMemory = NoMemory
