-- What one request reads and counts, where the session is attached.
use Rattle.std.proofs.Common.{◌≡◌, ◌≤◌, ◌<◌, ◌+◌, ◌&&◌, inl, inr, ℕ, List, [], ◌∷◌, length, filter, Option, Some, None, option_map, refl, sym, ◌∙◌, ap, subst, arith}
use Rattle.std.proofs.Math.Logic.{∥∥₁_elim}
use Rattle.std.proofs.lemmas.List.{append-nil}
use Rattle.std.proofs.Props.{props}
use Rattle.std.specs.List.{sum_by}
use Rattle.kishu_host.specs.Host.{State, ReadsMore}
use Rattle.kishu_meaning.specs.cells.Meaning.{run}
use Rattle.kishu_meaning.specs.values.Values as values
use Rattle.kishu_objects.specs.Bytes.{picture_bytes}
use Rattle.kishu_objects.specs.Picture.{order}
use Rattle.kishu_objects.specs.Same.{Same}
use Rattle.kishu_objects.specs.Sizes.{size_among}
use Rattle.kishu_objects.specs.States.{IsSoundState}
use Rattle.kishu_store.specs.Graph.{Graph, newest}
use Rattle.kishu_store.specs.Histories.{head_table}
use Rattle.kishu_store.specs.Limits.{newest_profile}
use Rattle.kishu_store.specs.Tables.{Table, Change, change_of, groups_in, table_at}
use Rattle.kishu_store_laws.specs.Laws.{one_changes}
use Rattle.kishu_graph.specs.Tables.{table_of_rows}
use Rattle.kishu_delta.specs.Kept.{digest_of, is_digest}
use Rattle.kishu_history.specs.Accessed.{accessed_by}
use Rattle.kishu_history.specs.Changed.{Group, is_one_of}
use Rattle.kishu_history.specs.Paths.{stops, AreRows}
use Rattle.kishu_history.specs.Touched.{touched, classes}
use Rattle.kishu_history.specs.Versions.{loaded}
use Rattle.kishu_history_laws.specs.tables.FileLaws.{changes_are_rows}
use Rattle.kishu_replay.specs.Replay.{replay}
use Rattle.kishu_model.specs.Answers.{Answer as Said, refused, state_too_large}
use Rattle.kishu_model.specs.Request.{Request, cell, cells, checkout, branch, log, status, inspect, stored, plan, unreadable}
use Rattle.kishu_model.specs.Serve.{after}
use Rattle.kishu_model.specs.Step.{step}
use Rattle.kishu_live_laws.specs.Asked.{bytes_here, classes_alike, pictures_alike}
use Rattle.kishu_live_laws.specs.AtHead.{after_here, state_on_sound}
use Rattle.kishu_live_laws.specs.OnStates.{answer_on, after_on, head_rows, ran_by, state_on}
use Rattle.kishu_live_laws.specs.Reached.{charge_alike, reached_here, cell_left}
use Rattle.kishu_live_laws.specs.RefusalLaws.{refused_stays, graph_refusal_stays}
use Rattle.kishu_live_laws.specs.Refusals.{refusal_in}
use Rattle.kishu_session.specs.Applying.{IsIdle, bytes_asked, most_steps}
use Rattle.kishu_session.specs.Attached.{IsAttached}
use Rattle.kishu_session.specs.Becoming.{IsLeftBy, IsNextState}
use Rattle.kishu_session.specs.Ends.{IsHistoryIn, at-end-history}
use Rattle.kishu_session.specs.Lives.{state_of}
use Rattle.kishu_session.specs.OneTable.{one-head-table}
use Rattle.kishu_session.specs.Refusing.{IsRefusal, RefusesSize}
use Rattle.kishu_session.specs.Renewing.{StaysHere}
use Rattle.kishu_session.specs.declared.session.Session.{Session}
use Rattle.kishu_serve.specs.Efforts.{IsMeasured, read_by, steps_by, reached_nodes}

-- ---- by kinds of requests

-- what a checkout reads
abbrev pub loaded_by : Graph → Request → ℕ
loaded_by g q = size_among (loaded (stops g g.head.commit) (stops g (after g q).head.commit)) (replay g (after g q).head.commit)

-- Where a committed cell reads what it asks for, a checkout what it loads, and what only tells or names nothing, it reads what it may.
pub reads-by : (g : Graph) (q : Request) (x y : Option ℕ) → IsMeasured g q → (IsIdle q → ReadsMore x y 0)
    → ((text : List ℕ) → q ≡ cell text → newest g < newest (after g q) → ReadsMore x y (read_by g q))
    → ((to : List ℕ) → q ≡ checkout to → refusal_in (step g q).answer ≡ None → ReadsMore x y (loaded_by g q))
    → ReadsMore x y (read_by g q)
reads-by g unreadable x y is idle committed loads = absurd is
reads-by g (cell text) x y is idle committed loads = committed text refl is
reads-by g (cells texts) x y is idle committed loads = absurd is
reads-by g (checkout to) x y is idle committed loads = loads to refl is
reads-by g (branch name at) x y is idle committed loads = idle tt
reads-by g log x y is idle committed loads = idle tt
reads-by g status x y is idle committed loads = idle tt
reads-by g inspect x y is idle committed loads = absurd is
reads-by g (stored of) x y is idle committed loads = idle tt
reads-by g (plan to) x y is idle committed loads = idle tt

-- So it is with the steps.
pub steps-by : (g : Graph) (q : Request) (before now : ℕ) → IsMeasured g q → (IsIdle q → now ≡ before)
    → ((text : List ℕ) → q ≡ cell text → newest g < newest (after g q) → now ≤ before + steps_by g q)
    → ((to : List ℕ) → q ≡ checkout to → now ≡ before)
    → now ≤ before + steps_by g q
steps-by g unreadable before now is idle committed moved = absurd is
steps-by g (cell text) before now is idle committed moved = committed text refl is
steps-by g (cells texts) before now is idle committed moved = absurd is
steps-by g (checkout to) before now is idle committed moved = omega (arith, moved to refl)
steps-by g (branch name at) before now is idle committed moved = omega (arith, idle tt)
steps-by g log before now is idle committed moved = omega (arith, idle tt)
steps-by g status before now is idle committed moved = omega (arith, idle tt)
steps-by g inspect before now is idle committed moved = absurd is
steps-by g (stored of) before now is idle committed moved = omega (arith, idle tt)
steps-by g (plan to) before now is idle committed moved = omega (arith, idle tt)

-- ---- answers

-- Where one step refuses nothing, its answer is no refusal.
pub not-refused : (o : Option Said) (a : Said) → o ≡ Some a → refusal_in a ≡ None → IsRefusal o → ⊥
not-refused o a is none (r, refusal) = (let found : Some (refusal_in a) ≡ Some (Some r) = ap (option_map refusal_in) (sym is) ∙ refusal in cc (found, none))

-- ---- states that are the same

-- From groups that a state had, the classes of the touched names that are among them and have pictures of one digest and length then and now take as many bytes.
asked-alike : (v w : values.State) → IsSoundState v → IsSoundState w → Same v w → (gs : List Group) (before : values.State) (accessed : List (List ℕ))
    → bytes_asked gs before accessed v ≡ bytes_asked gs before accessed w
asked-alike v w here there same gs before accessed =
    ap (λ (after : Group → List ℕ). takes after (classes gs accessed v)) (pictures_alike v w here there same)
    ∙ ap (takes (picture_bytes w)) (classes_alike v w here there same gs accessed)
  where
    takes : (after : Group → List ℕ) → List Group → ℕ
    takes after cs = sum_by (λ g. length (after g)) (filter (λ g. is_one_of g gs && is_digest (digest_of (picture_bytes before g)) (after g)) cs)

-- ---- an attached session

table-set : IsSet Table
table-set = hlevel props

module _ (old : Session) (s : State) (g : Graph) (a : IsAttached old s g) where
  abbrev pub of : ℕ → Change
  of = change_of a.changes

  abbrev pub live : values.State
  live = state_of old.head.live

  abbrev head : values.State
  head = replay g g.head.commit

  here : IsHistoryIn old s.file g
  here = at-end-history old s g a.at_end

  changes-are : here.history.changes ≡ a.changes
  changes-are = one_changes s.file here.history.changes a.changes here.gives a.gives

  rows : AreRows of
  rows = subst (λ (cs : List Change). AreRows (change_of cs)) changes-are (changes_are_rows here.history.graph here.history.changes here.history.place here.kept.good.changes)

  -- The head's table is kept.
  head-is : head_table here.history ≡ head_rows of g
  head-is =
      ap (λ (x : Graph). table_at x (change_of here.history.changes) x.head.commit) here.graph
      ∙ ap (λ (cs : List Change). table_at g (change_of cs) g.head.commit) changes-are

  table-is : table_of_rows old.head.table ≡ head_rows of g
  table-is =
      ∥∥₁_elim (old.known a.going) (table-set (table_of_rows old.head.table) (head_rows of g))
      (λ k. k.1.held.table ∙ one-head-table old.head.graph k.0 here.history k.1.kept here.kept ∙ head-is)

  -- ---- a request that is committed

  module _ (q : Request) (more : newest g < newest (after g q)) where
    same-after : after_on of live g q ≡ after g q
    same-after = after_here s.file of live g rows a.states q

    stays-not : after_on of live g q ≡ g → ⊥
    stays-not stays = (let same : newest (after g q) ≡ newest g = ap newest (sym same-after ∙ stays) in omega (arith, more, same))

    -- Its answer refuses nothing.
    pub no-refusal : (o : Option Said) → o ≡ Some (answer_on of live g q) → IsRefusal o → ⊥
    no-refusal o is (r, refusal) =
        let found : Some (refusal_in (answer_on of live g q)) ≡ Some (Some r) = ap (option_map refusal_in) (sym is) ∙ refusal in
        stays-not (graph_refusal_stays g of live q r (cc found))

    pub no-size : (o : Option Said) → o ≡ Some (answer_on of live g q) → (bytes : ℕ) → RefusesSize o bytes → ⊥
    no-size o is bytes refusal =
        let found : Some (answer_on of live g q) ≡ Some (refused (state_too_large bytes)) = sym is ∙ refusal in
        stays-not (refused_stays g of live q (state_too_large bytes) (cc found))

    -- The live state is what its cells left.
    left-by : (v : values.State) → IsNextState s.file of g live q v → IsLeftBy of g live q v
    left-by v (inl left) = left
    left-by v (inr (inl carried)) = absurd (let same : newest (after_on of live g q) ≡ newest (after g q) = ap newest same-after in omega (arith, carried.none, more, same))
    left-by v (inr (inr loaded)) = absurd (stays-not loaded.0)

  -- What a cell that is committed may count on the live state is what it may on the replay.
  module _ (text : List ℕ) (more : newest g < newest (after g (cell text))) where
    abbrev pub nodes_in : values.State → ℕ
    nodes_in v = length (order v (touched (groups_in (table_of_rows old.head.table)) (run newest_profile text live).accessed v))

    left : state_on of live g (cell text) ≡ (run newest_profile text live).state
    left = cell_left s.file of live g rows a.states text more

    -- It is just the state that the cell left, where the heap wasn't loaded anew before it.
    left-here : (v : values.State) → IsNextState s.file of g live (cell text) v → StaysHere old.head → v ≡ (run newest_profile text live).state
    left-here v next few = (left-by (cell text) more v next).exact (few, tt) ∙ left

    left-sound : IsSoundState (run newest_profile text live).state
    left-sound = subst (λ (w : values.State). IsSoundState w) left (state_on_sound of live g (cell text) a.states.told.state)

    left-same : (v : values.State) → IsNextState s.file of g live (cell text) v → Same v (run newest_profile text live).state
    left-same v next = subst (λ (w : values.State). Same v w) left (left-by (cell text) more v next).same

    pub nodes-are : (v : values.State) → IsNextState s.file of g live (cell text) v → StaysHere old.head → nodes_in v ≡ reached_nodes head text
    nodes-are v next few =
        ap nodes_in (left-here v next few)
        ∙ ap
        (λ (t : Table). length (order (run newest_profile text live).state (touched (groups_in t) (run newest_profile text live).accessed (run newest_profile text live).state)))
        table-is
        ∙ reached_here s.file of live g rows a.states text

    pub charge-is : (run newest_profile text live).charge ≡ (run newest_profile text head).charge
    charge-is = charge_alike s.file of live g rows a.states text

    -- the bound on the live state is the one on the replay
    pub bound-is : (v : values.State) → IsNextState s.file of g live (cell text) v → StaysHere old.head
        → most_steps (run newest_profile text live).charge (nodes_in v) ≡ steps_by g (cell text)
    bound-is v next few =
        ap (λ (n : ℕ). most_steps n (nodes_in v)) charge-is ∙ ap (λ (n : ℕ). most_steps (run newest_profile text head).charge n) (nodes-are v next few)

    -- The pictures that it asks for on the live state take as many bytes as on the replay.
    pub bytes-are : (v : values.State) → IsNextState s.file of g live (cell text) v → IsSoundState v
        → bytes_asked (groups_in (table_of_rows old.head.table)) live (accessed_by newest_profile (text ∷ []) live) v ≡ read_by g (cell text)
    bytes-are v next sound =
        ap (λ (a : List (List ℕ)). bytes_asked (groups_in (table_of_rows old.head.table)) live a v) (append-nil (run newest_profile text live).accessed)
        ∙ ap (λ (t : Table). bytes_asked (groups_in t) live (run newest_profile text live).accessed v) table-is
        ∙ asked-alike v (run newest_profile text live).state sound left-sound (left-same v next) (groups_in (head_rows of g)) live (run newest_profile text live).accessed
        ∙ bytes_here s.file of live g rows a.states text (λ before now. is_digest (digest_of before) now)

  -- the same of a request that is a cell
  pub cell-reads : (q : Request) (text : List ℕ) → q ≡ cell text → newest g < newest (after g q) → (x y : Option ℕ) (v : values.State)
      → IsNextState s.file of g live q v → IsSoundState v
      → ReadsMore x y (bytes_asked (groups_in (table_of_rows old.head.table)) live (accessed_by newest_profile (ran_by (table_of_rows old.head.table) q live) live) v)
      → ReadsMore x y (read_by g q)
  cell-reads q text is more x y v next sound reads =
      let here : newest g < newest (after g (cell text)) = subst (λ (r : Request). newest g < newest (after g r)) is more in
      let bytes = bytes-are text here v (subst (λ (r : Request). IsNextState s.file of g live r v) is next) sound in
      let read = subst (λ (r : Request). ReadsMore x y (bytes_asked (groups_in (table_of_rows old.head.table)) live (accessed_by newest_profile (ran_by (table_of_rows old.head.table) r live) live) v)) is reads in
      subst (λ (r : Request). ReadsMore x y (read_by g r)) (sym is) (subst (λ (n : ℕ). ReadsMore x y n) bytes read)

  pub cell-counts : (q : Request) (text : List ℕ) → q ≡ cell text → newest g < newest (after g q) → (before now : ℕ) (v : values.State)
      → IsNextState s.file of g live q v → StaysHere old.head
      → now ≤ before + most_steps (run newest_profile text live).charge
      (length (order v (touched (groups_in (table_of_rows old.head.table)) (run newest_profile text live).accessed v)))
      → now ≤ before + steps_by g q
  cell-counts q text is more before now v next few most =
      let here : newest g < newest (after g (cell text)) = subst (λ (r : Request). newest g < newest (after g r)) is more in
      let bound = bound-is text here v (subst (λ (r : Request). IsNextState s.file of g live r v) is next) few in
      subst (λ (r : Request). now ≤ before + steps_by g r) (sym is) (omega (arith, most, bound))
