use Rattle.kishu_state_laws.specs.Whole.{expression_leads, acts_lead, cell_leads}
use Rattle.kishu_state_laws.proofs.laws.no_step_is_given_back.Goals as goal

pub returns : goal.returns
returns c = record { expressions = expression_leads; statements = acts_lead; cells = cell_leads }
