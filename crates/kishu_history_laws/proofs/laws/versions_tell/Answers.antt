use Rattle.kishu_history_laws.specs.versions.EarliestLaws.{version_is, version_only}
use Rattle.kishu_history_laws.specs.versions.VersionLaws.{one_version, stored_changed}
use Rattle.kishu_history_laws.proofs.laws.versions_tell.Goals as goal

pub returns-clause-earliest : goal.returns-clause-earliest
returns-clause-earliest c = version_is

pub returns-clause-only : goal.returns-clause-only
returns-clause-only c = version_only

pub returns-clause-pictures : goal.returns-clause-pictures
returns-clause-pictures c = one_version

pub returns-clause-stored : goal.returns-clause-stored
returns-clause-stored c = stored_changed
