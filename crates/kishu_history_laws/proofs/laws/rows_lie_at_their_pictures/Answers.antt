use Rattle.kishu_history_laws.specs.stores.ReplayLaws.{held_one}
use Rattle.kishu_history_laws.specs.tables.RecordLaws.{rows_versions, rows_groups, rows_bytes, read_picture, begun_alike}
use Rattle.kishu_history_laws.proofs.laws.rows_lie_at_their_pictures.Goals as goal

pub returns-clause-version : goal.returns-clause-version
returns-clause-version c = rows_versions

pub returns-clause-groups : goal.returns-clause-groups
returns-clause-groups c = rows_groups

pub returns-clause-bytes : goal.returns-clause-bytes
returns-clause-bytes c = rows_bytes

pub returns-clause-one : goal.returns-clause-one
returns-clause-one c = held_one

pub returns-clause-read : goal.returns-clause-read
returns-clause-read c = read_picture

pub returns-clause-stays : goal.returns-clause-stays
returns-clause-stays c = begun_alike
