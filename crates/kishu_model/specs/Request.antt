-- What is asked of a session, and what one request gives.
use Rattle.std.specs.Prelude.{ℕ, List, Option}
use Rattle.kishu_store.specs.Graph.{Graph}
use Rattle.kishu_model.specs.Answers.{Refusal, Answer, refused}

pub data Request : Type 0 where
  cell : (text : List ℕ) → Request
  cells : (texts : List (List ℕ)) → Request
  checkout : (to : List ℕ) → Request
  branch : (name : List ℕ) → (at : Option (List ℕ)) → Request
  log : Request
  status : Request
  inspect : Request
  stored : (of : List ℕ) → Request
  plan : (to : List ℕ) → Request
  -- what has no reading as a request
  unreadable : Request

pub record Stepped : Type 0 where
  pub graph : Graph
  pub answer : Answer

-- A refusal changes nothing.
abbrev pub refused_with : Refusal → Graph → Stepped
refused_with refusal g = record { graph = g; answer = refused refusal }
