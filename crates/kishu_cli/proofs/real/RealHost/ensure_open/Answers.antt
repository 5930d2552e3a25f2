use Rattle.std.proofs.Common.{sym, subst, true, false}
use Rattle.kishu_cli.specs.declared.real.Store.{Store}
use Rattle.kishu_cli.specs.Adapters.{Opens, was_new, was_open, had_failed}
use Rattle.kishu_cli.proofs.real.RealHost.ensure_open.Goals as goal

pub returns-in-New-clause-opens : goal.returns-in-New-clause-opens
returns-in-New-clause-opens g c = let h = g.S.System.history c.args.self.now.system in subst (λ (s : Store). Opens s h s h true) (sym c.in-New.is) (was_new h)

pub returns-in-Open-clause-opens : goal.returns-in-Open-clause-opens
returns-in-Open-clause-opens g c = let h = g.S.System.history c.args.self.now.system in subst (λ (s : Store). Opens s h s h true) (sym c.in-Open.is) (was_open h)

pub returns-in-Failed-clause-opens : goal.returns-in-Failed-clause-opens
returns-in-Failed-clause-opens g c = let h = g.S.System.history c.args.self.now.system in subst (λ (s : Store). Opens s h s h false) (sym c.in-Failed.is) (had_failed h)
