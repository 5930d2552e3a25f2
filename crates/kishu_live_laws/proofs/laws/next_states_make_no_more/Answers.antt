use Rattle.kishu_live_laws.specs.Anew.{anew_few}
use Rattle.kishu_live_laws.specs.NextMakes.{carried_makes, on_makes}
use Rattle.kishu_live_laws.proofs.laws.next_states_make_no_more.Goals as goal

pub returns-clause-on : goal.returns-clause-on
returns-clause-on c = on_makes

pub returns-clause-carried : goal.returns-clause-carried
returns-clause-carried c = carried_makes

pub returns-clause-anew : goal.returns-clause-anew
returns-clause-anew c = anew_few
