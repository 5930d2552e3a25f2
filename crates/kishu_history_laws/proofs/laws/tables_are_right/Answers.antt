use Rattle.kishu_history_laws.specs.checkouts.PlanLaws.{right_table}
use Rattle.kishu_history_laws.specs.tables.TableLaws.{tables_right}
use Rattle.kishu_history_laws.proofs.laws.tables_are_right.Goals as goal

pub returns-clause-right : goal.returns-clause-right
returns-clause-right c = tables_right

pub returns-clause-table : goal.returns-clause-table
returns-clause-table c = right_table
