-- A whole run: what is written for which requests, from which graph.
use Rattle.std.specs.Prelude.{◌≡◌, ◌⊎◌, ◌+◌, ℕ, List, [], ◌∷◌, ◌++◌}
use Rattle.kishu_store.specs.Graph.{Graph}
use Rattle.kishu_model.specs.Answers.{answer_line}
use Rattle.kishu_model.specs.Request.{Request}
use Rattle.kishu_model.specs.Step.{step, charge_of}

-- the graph after a request, and the line that answers it
abbrev pub after : Graph → Request → Graph
after g q = (step g q).graph

abbrev pub answer_of : Graph → Request → List ℕ
answer_of g q = answer_line (step g q).answer

-- What a run does, one thing after another.
pub data Item : Type 0 where
  -- a request whose answer is written
  answered : Request → Item
  -- a request for which nothing is written
  silent : Request → Item
  -- bytes that are written for all requests before, and change nothing
  closing : List ℕ → Item

-- the graph after an item, and what is written for it
abbrev pub after_item : Graph → Item → Graph
after_item g (answered q) = after g q
after_item g (silent q) = after g q
after_item g (closing bytes) = g

abbrev pub bytes_of : Graph → Item → List ℕ
bytes_of g (answered q) = answer_of g q
bytes_of g (silent q) = []
bytes_of g (closing bytes) = bytes

-- the steps that it takes
abbrev pub charge_by : Graph → Item → ℕ
charge_by g (answered q) = charge_of g q
charge_by g (silent q) = charge_of g q
charge_by g (closing bytes) = 0

-- the graph after these items
abbrev pub after_all : Graph → List Item → Graph
after_all g [] = g
after_all g (i ∷ is) = after_all (after_item g i) is

-- what is written for them, one after another
abbrev pub answers : Graph → List Item → List ℕ
answers g [] = []
answers g (i ∷ is) = bytes_of g i ++ answers (after_item g i) is

-- the steps that they take
abbrev pub charges : Graph → List Item → ℕ
charges g [] = 0
charges g (i ∷ is) = charge_by g i + charges (after_item g i) is

abbrev pub IsPrefix : List ℕ → List ℕ → Type 0
IsPrefix p bytes = (rest : List ℕ) × (bytes ≡ p ++ rest)

-- After the first k items, for some k, the graph is `now`; `out` is what is written for the first k - 1 and a prefix of that for the k-th, or with k = 0 nothing.
abbrev pub Reached : Graph → List Item → Graph → List ℕ → Type 0
Reached g [] now out = (now ≡ g) × (out ≡ [])
Reached g (i ∷ is) now out =
    ((now ≡ g) × (out ≡ []))
    ⊎ ((now ≡ after_item g i) × IsPrefix out (bytes_of g i))
    ⊎ ((rest : List ℕ) × (out ≡ bytes_of g i ++ rest) × Reached (after_item g i) is now rest)
