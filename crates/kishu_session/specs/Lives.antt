-- The state that a live one stands for, and what cells more make of it.
use Rattle.std.specs.Prelude.{ℕ, suc, List}
use Rattle.std.specs.declared.rc.RcStr.{RcStr}
use Rattle.std.specs.declared.alloc.Global.{Global}
use Rattle.kishu_language.specs.declared.profile.Profile.TheVariants.{One}
use Rattle.kishu_meaning.specs.cells.Meaning.{run}
use Rattle.kishu_meaning.specs.values.Values.{Ran, State}
use Rattle.kishu_interp.specs.Running.{state_in}
use Rattle.kishu_model.specs.Answers.{Counted}
use Rattle.kishu_model.specs.requests.Cells.{results_from}
use Rattle.kishu_replay.specs.Replay.{after_cells, charge_in}
use Rattle.kishu_store.specs.Tables.{Table}
use Rattle.kishu_history.specs.Accessed.{accessed_by}
use Rattle.kishu_live_laws.specs.OnStates.{run_of}
use Rattle.kishu_session.specs.TextLists.{texts_of}
use Rattle.kishu_session.specs.declared.live.Live.{Live}

abbrev pub state_of : Live → State
state_of live = state_in live.heap live.names

-- one cell more
abbrev pub run_on : Live → List ℕ → Ran
run_on live text = run One text (state_of live)

-- ---- the cells that are run of these: a further one only after one that ended well, and where those before it don't leave too much, as this table tells it

module _ (t : Table) (live : Live) (texts : List (RcStr Global)) where
  abbrev pub ran_of : List (List ℕ)
  ran_of = run_of t (texts_of texts) (state_of live)

  -- what they show, where so many cells are on the path before them
  abbrev pub shown_of : (before : ℕ) → List Counted
  shown_of before = results_from (suc before) One ran_of (state_of live)

  -- the names that they access, the state after them, and the steps that they take
  abbrev pub accessed_of_ran : List (List ℕ)
  accessed_of_ran = accessed_by One ran_of (state_of live)

  abbrev pub state_after_ran : State
  state_after_ran = after_cells One ran_of (state_of live)

  abbrev pub charge_of_ran : ℕ
  charge_of_ran = charge_in One ran_of (state_of live)
