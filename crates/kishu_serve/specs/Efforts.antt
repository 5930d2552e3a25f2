-- How much the items of a session read and count, over a good store.
use Rattle.std.specs.Prelude.{◌≡◌, ◌<◌, ◌+◌, ℕ, ⊤, List, [], ◌∷◌, length, None}
use Rattle.kishu_meaning.specs.cells.Meaning.{run}
use Rattle.kishu_meaning.specs.values.Values.{State}
use Rattle.kishu_objects.specs.Groups.{groups_of}
use Rattle.kishu_objects.specs.Picture.{order}
use Rattle.kishu_objects.specs.Sizes.{size_among}
use Rattle.kishu_store.specs.Graph.{Graph, newest}
use Rattle.kishu_store.specs.Limits.{newest_profile}
use Rattle.kishu_history.specs.Paths.{stops}
use Rattle.kishu_history.specs.Touched.{touched}
use Rattle.kishu_history.specs.Versions.{loaded}
use Rattle.kishu_replay.specs.Replay.{replay}
use Rattle.kishu_model.specs.Request.{Request, cell, cells, checkout, branch, log, status, inspect, stored, plan, unreadable}
use Rattle.kishu_model.specs.Serve.{Item, answered, silent, closing, after, after_item}
use Rattle.kishu_model.specs.Step.{step}
use Rattle.kishu_live_laws.specs.Refusals.{refusal_in}
use Rattle.kishu_session.specs.Applying.{bytes_asked, most_steps}

-- ---- which items are measured: cells that are committed, checkouts that aren't refused, and requests that only tell or name what is kept

abbrev pub IsMeasured : Graph → Request → Type 0
IsMeasured g unreadable = ⊥
IsMeasured g (cell text) = newest g < newest (after g (cell text))
IsMeasured g (cells texts) = ⊥
IsMeasured g (checkout to) = refusal_in (step g (checkout to)).answer ≡ None
IsMeasured g (branch name at) = Unit {0}
IsMeasured g log = Unit {0}
IsMeasured g status = Unit {0}
IsMeasured g inspect = ⊥
IsMeasured g (stored of) = Unit {0}
IsMeasured g (plan to) = Unit {0}

abbrev pub AreMeasured : Graph → List Item → Type 0
AreMeasured g [] = ⊤
AreMeasured g (answered q ∷ is) = IsMeasured g q × AreMeasured (after g q) is
AreMeasured g (silent q ∷ is) = ⊥
AreMeasured g (closing bytes ∷ is) = ⊥

-- ---- the bytes that they read: the pictures of the groups that checkouts load, and those that committed cells ask for

-- those that a cell asks for on a state: the pictures of the touched groups that the state has before it and after it, with pictures of one digest and length
abbrev pub asked_bytes : State → List ℕ → ℕ
asked_bytes s text = (let ran = run newest_profile text s in bytes_asked (groups_of s) s ran.accessed ran.state)

abbrev pub read_by : Graph → Request → ℕ
read_by g unreadable = 0
read_by g (cell text) = asked_bytes (replay g g.head.commit) text
read_by g (cells texts) = 0
read_by g (checkout to) = (let c = (after g (checkout to)).head.commit in size_among (loaded (stops g g.head.commit) (stops g c)) (replay g c))
read_by g (branch name at) = 0
read_by g log = 0
read_by g status = 0
read_by g inspect = 0
read_by g (stored of) = 0
read_by g (plan to) = 0

abbrev pub read_by_all : Graph → List Item → ℕ
read_by_all g [] = 0
read_by_all g (answered q ∷ is) = read_by g q + read_by_all (after g q) is
read_by_all g (silent q ∷ is) = read_by_all (after_item g (silent q)) is
read_by_all g (closing bytes ∷ is) = read_by_all (after_item g (closing bytes)) is

-- ---- the steps that they may take: each committed cell its bound, by the nodes that its touched names reach afterwards

abbrev pub reached_nodes : State → List ℕ → ℕ
reached_nodes s text = (let ran = run newest_profile text s in length (order ran.state (touched (groups_of s) ran.accessed ran.state)))

abbrev pub steps_by : Graph → Request → ℕ
steps_by g unreadable = 0
steps_by g (cell text) = (let s = replay g g.head.commit in most_steps (run newest_profile text s).charge (reached_nodes s text))
steps_by g (cells texts) = 0
steps_by g (checkout to) = 0
steps_by g (branch name at) = 0
steps_by g log = 0
steps_by g status = 0
steps_by g inspect = 0
steps_by g (stored of) = 0
steps_by g (plan to) = 0

abbrev pub steps_by_all : Graph → List Item → ℕ
steps_by_all g [] = 0
steps_by_all g (answered q ∷ is) = steps_by g q + steps_by_all (after g q) is
steps_by_all g (silent q ∷ is) = steps_by_all (after_item g (silent q)) is
steps_by_all g (closing bytes ∷ is) = steps_by_all (after_item g (closing bytes)) is
