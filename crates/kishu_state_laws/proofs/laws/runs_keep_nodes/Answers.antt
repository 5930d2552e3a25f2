use Rattle.kishu_meaning.specs.cells.Meaning.{run}
use Rattle.kishu_state_laws.specs.keeping.Logic.{grown_length}
use Rattle.kishu_state_laws.specs.Whole.{run_becomes}
use Rattle.kishu_state_laws.proofs.laws.runs_keep_nodes.Goals as goal

pub returns : goal.returns
returns c = record {
  grown = λ profile text s h g. (run_becomes profile text s h g).grown;
  many = λ profile text s h g. grown_length s.nodes (run profile text s).state.nodes (run_becomes profile text s h g).grown;
}
