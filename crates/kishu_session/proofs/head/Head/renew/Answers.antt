use Rattle.std.proofs.Common.{refl}
use Rattle.std.proofs.lemmas.Result.{on_ok_weaker}
use Rattle.kishu_anew.specs.WholeLaws.{whole_sound}
use Rattle.kishu_session.specs.Lives.{state_of}
use Rattle.kishu_session.proofs.LeftBy.{anew-starts}
use Rattle.kishu_session.proofs.Outcomes.{both-ok}
use Rattle.kishu_session.proofs.Renewals.{head-small}
use Rattle.kishu_session.proofs.head.Head.renew.Goals as goal

pub renew-requires-clause-small : goal.renew-requires-clause-small
renew-requires-clause-small g c = head-small c.args.self.now c.requires.known c.requires.keeps

pub returns-clause-renewed : goal.returns-clause-renewed
returns-clause-renewed g c =
    both-ok c.renew.result
    (λ anew is. record { graph = refl; table = refl; kept = refl; cells = refl; state = anew-starts (state_of c.args.self.now.live) (state_of c.renew.new.self) is anew (whole_sound (state_of c.renew.new.self) anew.whole) })
    c.renew.ensures.anew c.renew.ensures.is

pub returns-clause-whole : goal.returns-clause-whole
returns-clause-whole g c = on_ok_weaker c.renew.result (λ anew. anew.whole) c.renew.ensures.anew

pub returns-clause-room : goal.returns-clause-room
returns-clause-room g c = on_ok_weaker c.renew.result (λ anew. anew.room) c.renew.ensures.anew
