use Rattle.std.proofs.Common.{sym, ◌∙◌, ap, subst}
use Rattle.kishu_host.specs.Host.{Keeps, Elapses, Now}
use Rattle.kishu_host.specs.Story.{Story, Synced, with_event}
use Rattle.kishu_host.specs.Memory.{state_of}
use Rattle.kishu_host.proofs.Syncs.{sync-keeps, sync-elapses}
use Rattle.kishu_host.proofs.memory.MemHostHost.sync.Goals as goal

pub returns-clause-keeps : goal.returns-clause-keeps
returns-clause-keeps c =
    let old = c.args.self.now in
    let is = c.sync.ensures.yes c.if-not-sync.false ∙ ap (with_event Synced) c.is_due.ensures.tape in
    subst (λ (s : Story). Keeps (state_of old.tape old.reads old.disk_faults old.out_faults) (state_of s c.is_due.new.self.reads c.is_due.new.self.disk_faults c.is_due.new.self.out_faults)) (sym is)
    (sync-keeps old.tape old.valid old.reads old.disk_faults old.out_faults c.is_due.new.self.reads c.is_due.new.self.disk_faults c.is_due.new.self.out_faults)

pub returns-clause-time : goal.returns-clause-time
returns-clause-time c =
    let old = c.args.self.now in
    let is = c.sync.ensures.yes c.if-not-sync.false ∙ ap (with_event Synced) c.is_due.ensures.tape in
    subst (λ (s : Story). Elapses (state_of old.tape old.reads old.disk_faults old.out_faults) (state_of s c.is_due.new.self.reads c.is_due.new.self.disk_faults c.is_due.new.self.out_faults) (Now (state_of old.tape old.reads old.disk_faults old.out_faults))) (sym is)
    (sync-elapses old.tape old.valid old.reads old.disk_faults old.out_faults c.is_due.new.self.reads c.is_due.new.self.disk_faults c.is_due.new.self.out_faults)
