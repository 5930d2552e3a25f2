use Rattle.kishu_session_laws.specs.WrittenLaws.{written_is_good, good_is_written, written_is_file, file_is_written}
use Rattle.kishu_session_laws.proofs.laws.written_stores_are_good.Goals as goal

pub returns-clause-groups : goal.returns-clause-groups
returns-clause-groups c = λ file ks of cells. (written_is_good file ks of cells, good_is_written file ks of)

pub returns-clause-file : goal.returns-clause-file
returns-clause-file c = λ file g. (written_is_file file g, file_is_written file g)
