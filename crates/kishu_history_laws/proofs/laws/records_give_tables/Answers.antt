use Rattle.kishu_history_laws.specs.tables.FileLaws.{root_further}
use Rattle.kishu_history_laws.specs.checkouts.PlanLaws.{fitting_table}
use Rattle.kishu_history_laws.specs.stores.StoreLaws.{tables_of_one}
use Rattle.kishu_history_laws.proofs.laws.records_give_tables.Goals as goal
use Rattle.kishu_history_laws.specs.versions.PathLaws.{rows_recorded, no_rows, rows_further}

pub returns-clause-none : goal.returns-clause-none
returns-clause-none c = no_rows

pub returns-clause-further : goal.returns-clause-further
returns-clause-further c = rows_further

pub returns-clause-recorded : goal.returns-clause-recorded
returns-clause-recorded c = rows_recorded

pub returns-clause-of_one : goal.returns-clause-of_one
returns-clause-of_one c = tables_of_one

pub returns-clause-fits : goal.returns-clause-fits
returns-clause-fits c = fitting_table

pub returns-clause-root : goal.returns-clause-root
returns-clause-root c = root_further
