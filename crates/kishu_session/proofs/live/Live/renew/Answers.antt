use Rattle.kishu_session.specs.Lives.{state_of}
use Rattle.kishu_session.proofs.LeftBy.{is-renewed}
use Rattle.kishu_session.proofs.Outcomes.{both-ok}
use Rattle.kishu_session.proofs.live.Live.renew.Goals as goal

pub returns-clause-is : goal.returns-clause-is
returns-clause-is g c =
    both-ok c.load_anew.result (λ anew loaded. is-renewed (state_of c.args.self.now) _ anew.stays loaded)
    c.load_anew.ensures.anew c.load_anew.ensures.loaded
