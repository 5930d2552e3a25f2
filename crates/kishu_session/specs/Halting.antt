-- Why a session ends where a request isn't prepared, and why it isn't where pictures aren't loaded.
use Rattle.kishu_checkout.specs.declared.fault.CheckoutFault.{CheckoutFault}
use Rattle.kishu_checkout.specs.declared.fault.CheckoutFault.TheVariants as faults
use Rattle.kishu_session.specs.declared.halt.Halt.{Halt}
use Rattle.kishu_session.specs.declared.halt.Halt.TheVariants as halts
use Rattle.kishu_session.specs.declared.unprepared.Unprepared.{Unprepared}
use Rattle.kishu_session.specs.declared.unprepared.Unprepared.TheVariants.{Damaged, DiskFault, NoMemory}

abbrev pub halt_by : Unprepared → Halt
halt_by (Damaged at) = halts.Damaged at
halt_by DiskFault = halts.DiskFault
halt_by NoMemory = halts.NoMemory

abbrev pub unprepared_by : CheckoutFault → Unprepared
unprepared_by (faults.Damaged at) = Damaged at
unprepared_by faults.DiskFault = DiskFault
unprepared_by faults.NoMemory = NoMemory
