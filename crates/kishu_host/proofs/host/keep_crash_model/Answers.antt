use Rattle.kishu_host.specs.CrashLaws.{may_hold-synced, may_hold-write}
use Rattle.kishu_host.proofs.host.keep_crash_model.Goals as goal

pub returns-clause-sync : goal.returns-clause-sync
returns-clause-sync c file = may_hold-synced file

pub returns-clause-write : goal.returns-clause-write
returns-clause-write c synced d e ranges at n held torn = may_hold-write synced ranges at n d e held torn
