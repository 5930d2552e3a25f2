use Rattle.std.proofs.lemmas.Result.{on_ok_weaker}
use Rattle.kishu_checkout.specs.Fetched.{contents}
use Rattle.kishu_checkout.specs.Plans.{groups_dropped, rows_loaded}
use Rattle.kishu_session.specs.Lives.{state_of}
use Rattle.kishu_session.proofs.Placing.{placed-whole}
use Rattle.kishu_session.proofs.live.Live.place.Goals as goal

pub returns-clause-whole : goal.returns-clause-whole
returns-clause-whole c =
    let plan = c.args.plan.now in
    on_ok_weaker c.place.result
    (λ placed whole. placed-whole (groups_dropped plan) (rows_loaded plan) (contents c.args.pictures.now) (state_of c.args.self.now) _ placed whole)
    c.place.ensures.placed
