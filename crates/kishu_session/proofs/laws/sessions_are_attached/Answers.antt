use Rattle.kishu_session.proofs.AttachedLaws.{same-attached}
use Rattle.kishu_session.proofs.laws.sessions_are_attached.Goals as goal

pub returns : goal.returns
returns g c = record { attached = same-attached c.args.session.now (g.H.Host.state c.args.host.now) }
