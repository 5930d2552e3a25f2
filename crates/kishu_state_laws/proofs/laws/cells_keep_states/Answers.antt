use Rattle.kishu_state_laws.specs.HeldLaws.{held_texts, held_state}
use Rattle.kishu_state_laws.specs.Whole.{cells_become, replay_is_state}
use Rattle.kishu_state_laws.proofs.laws.cells_keep_states.Goals as goal

pub returns : goal.returns
returns c = record {
  states = λ profile cells s h g. (cells_become profile cells s h g).state;
  nodes = λ profile cells s h g. (cells_become profile cells s h g).grown;
  replays = replay_is_state;
  texts = held_texts;
  held = held_state;
}
