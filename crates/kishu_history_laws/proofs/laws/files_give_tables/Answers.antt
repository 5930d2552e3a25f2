use Rattle.kishu_history_laws.specs.tables.FileLaws.{root_changes, changes_are_rows, changes_are_tables, stay_keeps}
use Rattle.kishu_history_laws.specs.tables.WithinLaws.{tables_within}
use Rattle.kishu_history_laws.proofs.laws.files_give_tables.Goals as goal

pub returns-clause-rows : goal.returns-clause-rows
returns-clause-rows c = changes_are_rows

pub returns-clause-tables : goal.returns-clause-tables
returns-clause-tables c = changes_are_tables

pub returns-clause-stays : goal.returns-clause-stays
returns-clause-stays c = stay_keeps

pub returns-clause-root : goal.returns-clause-root
returns-clause-root c = root_changes

pub returns-clause-within : goal.returns-clause-within
returns-clause-within c = tables_within
