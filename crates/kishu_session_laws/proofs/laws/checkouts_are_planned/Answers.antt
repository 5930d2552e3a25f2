use Rattle.kishu_history.specs.Paths.{stops, table_at}
use Rattle.kishu_history_laws.specs.checkouts.PlanLaws.{keeps_kept, loads_loaded, drops_left}
use Rattle.kishu_history_laws.specs.stores.ReplayLaws.{good_table}
use Rattle.kishu_session_laws.specs.CellLaws.{replays_are_states}
use Rattle.kishu_session_laws.proofs.laws.checkouts_are_planned.Goals as goal

pub returns-clause-kept : goal.returns-clause-kept
returns-clause-kept c = λ file g of rows good h k a b. keeps_kept (stops g h) (stops g k) (table_at g of h) (table_at g of k) (good_table file g.commits of rows good (replays_are_states g) h a) (good_table file g.commits of rows good (replays_are_states g) k b)

pub returns-clause-loaded : goal.returns-clause-loaded
returns-clause-loaded c = λ file g of rows good h k a b. loads_loaded (stops g h) (stops g k) (table_at g of h) (table_at g of k) (good_table file g.commits of rows good (replays_are_states g) h a) (good_table file g.commits of rows good (replays_are_states g) k b)

pub returns-clause-left : goal.returns-clause-left
returns-clause-left c = λ file g of rows good h k a b. drops_left (stops g h) (stops g k) (table_at g of h) (table_at g of k) (good_table file g.commits of rows good (replays_are_states g) h a) (good_table file g.commits of rows good (replays_are_states g) k b)
