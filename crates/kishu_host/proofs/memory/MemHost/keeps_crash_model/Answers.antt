use Rattle.kishu_host.specs.CrashLaws.{may_leave-may_hold}
use Rattle.kishu_host.proofs.Outcomes.{may_hold-may_leave, greatest-is-length}
use Rattle.kishu_host.proofs.memory.MemHost.keeps_crash_model.Goals as goal

pub returns-clause-none_else : goal.returns-clause-none_else
returns-clause-none_else c file left = may_leave-may_hold c.args.self.now.tape.first c.args.self.now.tape.events file left

pub returns-clause-each : goal.returns-clause-each
returns-clause-each c file held = may_hold-may_leave c.args.self.now.tape.first c.args.self.now.tape.events file c.args.self.now.valid held

pub returns-clause-longest : goal.returns-clause-longest
returns-clause-longest c = greatest-is-length c.args.self.now.tape.first c.args.self.now.tape.events c.args.self.now.valid
