use Rattle.kishu_state_laws.specs.trees.Places.{same_place, same_store, code_function}
use Rattle.kishu_state_laws.proofs.places.places_are_found.Goals as goal

pub returns-clause-places : goal.returns-clause-places
returns-clause-places c = same_place

pub returns-clause-targets : goal.returns-clause-targets
returns-clause-targets c = same_store

pub returns-clause-codes : goal.returns-clause-codes
returns-clause-codes c = code_function
