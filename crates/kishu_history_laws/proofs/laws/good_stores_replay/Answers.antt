use Rattle.kishu_history_laws.specs.checkouts.PlanLaws.{keeps_kept, loads_loaded, drops_left}
use Rattle.kishu_history_laws.specs.stores.ReplayLaws.{good_table, live_replay, replay_live}
use Rattle.kishu_history_laws.specs.stores.StoreLaws.{new_good, opened, checked_out, good_is_table}
use Rattle.kishu_history_laws.proofs.laws.good_stores_replay.Goals as goal
use Rattle.kishu_history_laws.specs.checkouts.AnewLaws.{own_picture}
use Rattle.kishu_history.specs.Stored.{Held}
use Rattle.kishu_history.specs.Versions.{at_end}
use Rattle.kishu_history.specs.Paths.{stops_in, table_in}

pub returns-clause-new : goal.returns-clause-new
returns-clause-new c = new_good

pub returns-clause-right : goal.returns-clause-right
returns-clause-right c = good_table

pub returns-clause-told : goal.returns-clause-told
returns-clause-told c = replay_live

pub returns-clause-loads : goal.returns-clause-loads
returns-clause-loads c = λ file ks of rows good states k l. own_picture (Held file) (table_in ks of k) (good_is_table file ks of rows good states k l) (at_end (stops_in ks k)) (replay_live file ks of rows good states k l)

pub returns-clause-same : goal.returns-clause-same
returns-clause-same c = live_replay

pub returns-clause-opened : goal.returns-clause-opened
returns-clause-opened c = opened

pub returns-clause-checked_out : goal.returns-clause-checked_out
returns-clause-checked_out c = checked_out

pub returns-clause-kept : goal.returns-clause-kept
returns-clause-kept c = λ file ks of rows good states h k a b. keeps_kept (stops_in ks h) (stops_in ks k) (table_in ks of h) (table_in ks of k) (good_table file ks of rows good states h a) (good_table file ks of rows good states k b)

pub returns-clause-loaded : goal.returns-clause-loaded
returns-clause-loaded c = λ file ks of rows good states h k a b. loads_loaded (stops_in ks h) (stops_in ks k) (table_in ks of h) (table_in ks of k) (good_table file ks of rows good states h a) (good_table file ks of rows good states k b)

pub returns-clause-left : goal.returns-clause-left
returns-clause-left c = λ file ks of rows good states h k a b. drops_left (stops_in ks h) (stops_in ks k) (table_in ks of h) (table_in ks of k) (good_table file ks of rows good states h a) (good_table file ks of rows good states k b)
