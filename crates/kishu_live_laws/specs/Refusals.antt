-- Which refusal of an answer the graph alone decides, and when cells leave a state that is too large.
use Rattle.std.specs.Prelude.{◌≡◌, ◌<◌, ℕ, min, List, [], ◌∷◌, Option, Some, None}
use Rattle.kishu_meaning.specs.values.Values.{State}
use Rattle.kishu_objects.specs.Sizes.{most_bytes}
use Rattle.kishu_store.specs.Tables.{Table}
use Rattle.kishu_model.specs.Answers.{Answer, ran_cell, ran_cells, checked_out, branched, logged, told_status, inspected, told_stored, told_plan, refused, Refusal, bad_request, cell_too_long, no_such_ref, bad_name, name_taken, store_full, state_too_large}
use Rattle.kishu_model.specs.Request.{Request, cell, cells, checkout, branch, log, status, inspect, stored, plan, unreadable}
use Rattle.kishu_model.specs.requests.TooLarge.{most_told}
use Rattle.kishu_live_laws.specs.OnStates.{left_size, run_of}

-- each but that for a state's size
abbrev pub by_graph : Refusal → Option Refusal
by_graph bad_request = Some bad_request
by_graph cell_too_long = Some cell_too_long
by_graph no_such_ref = Some no_such_ref
by_graph bad_name = Some bad_name
by_graph name_taken = Some name_taken
by_graph store_full = Some store_full
by_graph (state_too_large bytes) = None

-- what an answer refuses that the graph alone decides; None is an answer that refuses nothing, or a state for its size
abbrev pub refusal_in : Answer → Option Refusal
refusal_in (ran_cell commit count report) = None
refusal_in (ran_cells commit results) = None
refusal_in (checked_out commit at) = None
refusal_in (branched commit title) = None
refusal_in (logged branches path) = None
refusal_in (told_status s) = None
refusal_in (inspected commit names nodes) = None
refusal_in (told_stored commit dropped new) = None
refusal_in (told_plan commit drop keep load) = None
refusal_in (refused r) = by_graph r

-- What these cells leave is too large, and so many bytes are told of it.
abbrev pub TellsSize : Table → List (List ℕ) → State → ℕ → Type 0
TellsSize t texts s bytes = (most_bytes < left_size t texts s) × (bytes ≡ min (left_size t texts s) most_told)

-- The cells of the request leave so much of this state, told by this table: its own one, or those of its own that were run.
abbrev pub LeavesTooLarge : Table → State → Request → ℕ → Type 0
LeavesTooLarge t s unreadable bytes = ⊥
LeavesTooLarge t s (cell text) bytes = TellsSize t (text ∷ []) s bytes
LeavesTooLarge t s (cells texts) bytes = TellsSize t (run_of t texts s) s bytes
LeavesTooLarge t s (checkout to) bytes = ⊥
LeavesTooLarge t s (branch name at) bytes = ⊥
LeavesTooLarge t s log bytes = ⊥
LeavesTooLarge t s status bytes = ⊥
LeavesTooLarge t s inspect bytes = ⊥
LeavesTooLarge t s (stored of) bytes = ⊥
LeavesTooLarge t s (plan to) bytes = ⊥
