use Rattle.kishu_store_laws.specs.Laws as laws
use Rattle.kishu_journal.proofs.laws.one_graph.Goals as goal

pub returns : goal.returns
returns c = record { one_graph = laws.one_graph; foreign = laws.foreign-holds; broken = laws.broken-holds; not_both = laws.foreign-broken; one_place = laws.one_place }
