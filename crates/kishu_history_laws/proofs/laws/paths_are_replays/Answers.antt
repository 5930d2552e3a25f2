use Rattle.kishu_history_laws.specs.versions.PathLaws.{end_replay, stop_replay, stops_fall, paths_agree, newest_path, same_path, stops_states}
use Rattle.kishu_history_laws.proofs.laws.paths_are_replays.Goals as goal

pub returns-clause-end : goal.returns-clause-end
returns-clause-end c = end_replay

pub returns-clause-each : goal.returns-clause-each
returns-clause-each c = stop_replay

pub returns-clause-falls : goal.returns-clause-falls
returns-clause-falls c = stops_fall

pub returns-clause-agree : goal.returns-clause-agree
returns-clause-agree c = paths_agree

pub returns-clause-further : goal.returns-clause-further
returns-clause-further c = newest_path

pub returns-clause-others : goal.returns-clause-others
returns-clause-others c = same_path

pub returns-clause-states : goal.returns-clause-states
returns-clause-states c = stops_states
