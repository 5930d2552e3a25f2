-- A request can't tell states apart that are the same, whatever the records change.
use Rattle.std.specs.Prelude.{◌≡◌, ◌||◌, ◌+◌, ◌&&◌, ℕ, suc, min, nat_le, nat_lt, not, Bool, true, false, if◌then◌else◌, List, [], ◌∷◌, ◌++◌, length, refl}
use Rattle.std.specs.List.{list_any, sum_by}
use Rattle.std.proofs.Common.{ap, sym, ◌∙◌, subst}
use Rattle.std.proofs.lemmas.List.Sums.{sum_by-cons}
use Rattle.kishu_language.specs.Limits.{longest_text}
use Rattle.kishu_meaning.specs.cells.Meaning.{run}
use Rattle.kishu_meaning.specs.values.Values.{Report, State}
use Rattle.kishu_objects.specs.Bytes.{state_bytes, picture_bytes}
use Rattle.kishu_objects.specs.Picture.{picture}
use Rattle.kishu_objects.specs.Same.{Same}
use Rattle.kishu_objects.specs.Sizes.{size_among, most_bytes}
use Rattle.kishu_objects.specs.States.{IsSoundState}
use Rattle.kishu_pairing_laws.specs.runs.CellsInRow.{same_after, cells_are_state}
use Rattle.kishu_pairing_laws.specs.runs.PairedRuns.{same_runs}
use Rattle.kishu_pairing_laws.specs.runs.SoundRuns.{run_is_state}
use Rattle.kishu_store.specs.Graph.{Graph, newest, with_commit, count_of}
use Rattle.kishu_store.specs.Limits.{most_records, newest_profile}
use Rattle.kishu_store.specs.Tables.{Table, Change, bytes_in, groups_in}
use Rattle.kishu_replay.specs.Replay.{after_cells, charge_in}
use Rattle.kishu_history.specs.Accessed.{accessed_by}
use Rattle.kishu_history.specs.Changed.{Group}
use Rattle.kishu_history.specs.Touched.{classes, untouched, size_told}
use Rattle.kishu_history_laws.specs.cells.LedLaws.{classes_of_same}
use Rattle.kishu_history_laws.specs.states.SameLaws.{same_pictures}
use Rattle.kishu_model.specs.Answers.{Answer, Counted, ran_cell, ran_cells, told_status, cell_too_long, state_too_large, store_full}
use Rattle.kishu_model.specs.Request.{Request, cell, cells, checkout, branch, log, status, inspect, stored, plan, unreadable, Stepped, refused_with}
use Rattle.kishu_model.specs.requests.Cells.{is_ok, is_too_long, results_from}
use Rattle.kishu_model.specs.requests.TooLarge.{most_told}
use Rattle.kishu_live_laws.specs.CellsAlike.{report_alike, steps_alike, left_alike, told_alike, names_alike, shown_alike, charge_alike}
use Rattle.kishu_live_laws.specs.OnStates.{left_size, go_on, run_behind, run_of, ran_by, left_of, head_rows, cell_kept, cells_kept, step_on, answer_on, after_on, state_on, charge_on}

-- ---- what cells access

pub accessed_same : (texts : List (List ℕ)) (s t : State) → IsSoundState s → IsSoundState t → Same s t → accessed_by newest_profile texts s ≡ accessed_by newest_profile texts t
accessed_same [] s t here there same = refl
accessed_same (text ∷ texts) s t here there same =
    let u = (run newest_profile text s).state in
    let v = (run newest_profile text t).state in
    ap (λ (names : List (List ℕ)). names ++ accessed_by newest_profile texts u) (same_runs newest_profile text s t here there same).accessed
    ∙ ap (λ (names : List (List ℕ)). (run newest_profile text t).accessed ++ names)
    (accessed_same texts u v (run_is_state newest_profile text s here) (run_is_state newest_profile text t there) (left_alike newest_profile text s t here there same))

-- ---- what is told of the size

-- Groups take as much where their pictures are equal.
pub sizes_same : (gs : List Group) (s t : State) → ((g : Group) → picture s g ≡ picture t g) → size_among gs s ≡ size_among gs t
sizes_same gs s t same = takes_same gs
  where
    takes_same : (hs : List Group) → sum_by (λ g. length (picture_bytes s g)) hs ≡ sum_by (λ g. length (picture_bytes t g)) hs
    takes_same [] = refl
    takes_same (h ∷ hs) =
        sum_by-cons (λ g. length (picture_bytes s g)) h hs
        ∙ ap (λ (p : State). length (state_bytes p) + sum_by (λ g. length (picture_bytes s g)) hs) (same h)
        ∙ ap (λ (n : ℕ). length (picture_bytes t h) + n) (takes_same hs)
        ∙ sym (sum_by-cons (λ g. length (picture_bytes t g)) h hs)

module _ (s t : State) (here : IsSoundState s) (there : IsSoundState t) (same : Same s t) where
  pub classes_alike : (gs : List Group) (accessed : List (List ℕ)) → classes gs accessed s ≡ classes gs accessed t
  classes_alike = classes_of_same s t here there same

  classes_take_alike : (gs : List Group) (accessed : List (List ℕ)) → size_among (classes gs accessed s) s ≡ size_among (classes gs accessed t) t
  classes_take_alike gs accessed =
      ap (λ (cs : List Group). size_among cs s) (classes_alike gs accessed)
      ∙ sizes_same (classes gs accessed t) s t (same_pictures s t here there same)

  -- So as much is told of both by a table, of the names that were accessed.
  pub told_size_same : (rows : Table) (names : List (List ℕ)) → size_told rows names s ≡ size_told rows names t
  told_size_same rows names = ap (λ (n : ℕ). bytes_in (untouched rows names) + n) (classes_take_alike (groups_in rows) names)

-- ---- a request on the one and on the other

module _ (s t : State) (here : IsSoundState s) (there : IsSoundState t) (same : Same s t) where
  pub left_size_same : (rows : Table) (texts : List (List ℕ)) → left_size rows texts s ≡ left_size rows texts t
  left_size_same rows texts =
      let u = after_cells newest_profile texts s in
      let v = after_cells newest_profile texts t in
      ap (λ (names : List (List ℕ)). size_told rows names u) (accessed_same texts s t here there same)
      ∙ told_size_same u v (cells_are_state newest_profile texts s here) (cells_are_state newest_profile texts t there) (same_after newest_profile texts s t here there same) rows (accessed_by newest_profile texts t)

  go_on_same : (rows : Table) (before : List (List ℕ)) (text : List ℕ) → go_on rows before text s ≡ go_on rows before text t
  go_on_same rows before text =
      let u = after_cells newest_profile before s in
      let v = after_cells newest_profile before t in
      let shown = report_alike newest_profile text u v (cells_are_state newest_profile before s here) (cells_are_state newest_profile before t there) (same_after newest_profile before s t here there same) in
      ap (λ (r : Report). is_ok r.outcome && not (nat_lt most_bytes (left_size rows (before ++ text ∷ []) s))) shown
      ∙ ap (λ (n : ℕ). is_ok (run newest_profile text v).report.outcome && not (nat_lt most_bytes n)) (left_size_same rows (before ++ text ∷ []))

  run_behind_same : (rows : Table) (before texts : List (List ℕ)) → run_behind rows before texts s ≡ run_behind rows before texts t
  run_behind_same rows before [] = refl
  run_behind_same rows before (text ∷ texts) =
      ap (λ (b : Bool). text ∷ (if b then run_behind rows (before ++ text ∷ []) texts s else [])) (go_on_same rows before text)
      ∙ ap (λ (l : List (List ℕ)). text ∷ (if go_on rows before text t then l else [])) (run_behind_same rows (before ++ text ∷ []) texts)

  run_of_same : (rows : Table) (texts : List (List ℕ)) → run_of rows texts s ≡ run_of rows texts t
  run_of_same rows texts = run_behind_same rows [] texts

  pub ran_by_same : (rows : Table) (q : Request) → ran_by rows q s ≡ ran_by rows q t
  ran_by_same rows unreadable = refl
  ran_by_same rows (cell text) = refl
  ran_by_same rows (cells texts) = run_of_same rows texts
  ran_by_same rows (checkout to) = refl
  ran_by_same rows (branch name at) = refl
  ran_by_same rows log = refl
  ran_by_same rows status = refl
  ran_by_same rows inspect = refl
  ran_by_same rows (stored to) = refl
  ran_by_same rows (plan to) = refl

  pub left_of_same : (rows : Table) (q : Request) → Same (left_of rows q s) (left_of rows q t)
  left_of_same rows q =
      subst (λ (l : List (List ℕ)). Same (left_of rows q s) (after_cells newest_profile l t)) (ran_by_same rows q)
      (same_after newest_profile (ran_by rows q s) s t here there same)

  module _ (of : ℕ → Change) (g : Graph) where
    abbrev rows : Table
    rows = head_rows of g

    -- what a step gives whose cells leave so many bytes
    abbrev unless_more : ℕ → Stepped → Stepped
    unless_more n kept = if nat_lt most_bytes n then refused_with (state_too_large (min n most_told)) g else kept

    unless_same : (n m : ℕ) (a b : Stepped) → n ≡ m → a ≡ b → unless_more n a ≡ unless_more m b
    unless_same n m a b sizes kept = ap (λ (k : ℕ). unless_more k a) sizes ∙ ap (λ (x : Stepped). unless_more m x) kept

    cell_same : (text : List ℕ) → step_on of s g (cell text) ≡ step_on of t g (cell text)
    cell_same text =
        let kept : cell_kept of s g text ≡ cell_kept of t g text =
        ap (λ (r : Report). record { graph = with_commit newest_profile (text ∷ []) g; answer = ran_cell (suc (newest g)) (suc (count_of g g.head.commit)) r }) (report_alike newest_profile text s t here there same) in
        ap (λ (x : Stepped). if nat_lt longest_text (length text) then refused_with cell_too_long g else if nat_le most_records g.records then refused_with store_full g else x)
        (unless_same (left_size rows (text ∷ []) s) (left_size rows (text ∷ []) t) (cell_kept of s g text) (cell_kept of t g text) (left_size_same rows (text ∷ [])) kept)

    -- ---- several cells

    module _ (texts : List (List ℕ)) where
      abbrev ran : List (List ℕ)
      ran = run_of rows texts s

      abbrev kept_of : List (List ℕ) → List Counted → Stepped
      kept_of ran results = record { graph = with_commit newest_profile ran g; answer = ran_cells (suc (newest g)) results }

      abbrev shown_on : State → List (List ℕ) → List Counted
      shown_on u ran = results_from (suc (count_of g g.head.commit)) newest_profile ran u

      cells_kept_same : cells_kept of s g texts ≡ cells_kept of t g texts
      cells_kept_same =
          ap (kept_of ran) (shown_alike (suc (count_of g g.head.commit)) newest_profile ran s t here there same)
          ∙ ap (λ (l : List (List ℕ)). kept_of l (shown_on t l)) (run_of_same rows texts)

      cells_sizes : left_size rows ran s ≡ left_size rows (run_of rows texts t) t
      cells_sizes = left_size_same rows ran ∙ ap (λ (l : List (List ℕ)). left_size rows l t) (run_of_same rows texts)

      cells_charge : charge_in newest_profile ran s ≡ charge_in newest_profile (run_of rows texts t) t
      cells_charge = charge_alike newest_profile ran s t here there same ∙ ap (λ (l : List (List ℕ)). charge_in newest_profile l t) (run_of_same rows texts)

    cells_same : (texts : List (List ℕ)) → step_on of s g (cells texts) ≡ step_on of t g (cells texts)
    cells_same [] = refl
    cells_same (text ∷ texts) =
        let ts = text ∷ texts in
        ap (λ (x : Stepped). if list_any is_too_long ts then refused_with cell_too_long g else if nat_le most_records g.records then refused_with store_full g else x)
        (unless_same (left_size rows (run_of rows ts s) s) (left_size rows (run_of rows ts t) t) (cells_kept of s g ts) (cells_kept of t g ts) (cells_sizes ts) (cells_kept_same ts))

    -- ---- every request

    pub step_same : (q : Request) → step_on of s g q ≡ step_on of t g q
    step_same unreadable = refl
    step_same (cell text) = cell_same text
    step_same (cells texts) = cells_same texts
    step_same (checkout to) = refl
    step_same (branch name at) = refl
    step_same log = refl
    step_same status =
        ap (λ (names : List (List ℕ)). record { graph = g; answer = told_status (record { branch = g.head.branch; commit = g.head.commit; commits = suc (newest g); names = names; records = g.records }) })
        (names_alike s t here there same)
    step_same inspect = ap (λ (a : Answer). record { graph = g; answer = a }) (told_alike s t here there same g.head.commit)
    step_same (stored to) = refl
    step_same (plan to) = refl

    pub answer_same : (q : Request) → answer_on of s g q ≡ answer_on of t g q
    answer_same q = ap (λ (x : Stepped). x.answer) (step_same q)

    pub after_same : (q : Request) → after_on of s g q ≡ after_on of t g q
    after_same q = ap (λ (x : Stepped). x.graph) (step_same q)

    cells_charge_same : (texts : List (List ℕ)) → charge_on of s g (cells texts) ≡ charge_on of t g (cells texts)
    cells_charge_same [] = refl
    cells_charge_same (text ∷ texts) =
        ap (λ (n : ℕ). if list_any is_too_long (text ∷ texts) then 0 else if nat_le most_records g.records then 0 else n) (cells_charge (text ∷ texts))

    pub charge_same : (q : Request) → charge_on of s g q ≡ charge_on of t g q
    charge_same unreadable = refl
    charge_same (cell text) = ap (λ (n : ℕ). if nat_lt longest_text (length text) || nat_le most_records g.records then 0 else n) (steps_alike newest_profile text s t here there same)
    charge_same (cells texts) = cells_charge_same texts
    charge_same (checkout to) = refl
    charge_same (branch name at) = refl
    charge_same log = refl
    charge_same status = refl
    charge_same inspect = refl
    charge_same (stored to) = refl
    charge_same (plan to) = refl

    -- ---- the state that is left

    chosen : (b : Bool) (q : Request) → Same (if b then left_of rows q s else s) (if b then left_of rows q t else t)
    chosen true q = left_of_same rows q
    chosen false q = same

    pub state_on_same : (q : Request) → Same (state_on of s g q) (state_on of t g q)
    state_on_same q =
        subst (λ (h : Graph). Same (state_on of s g q) (if nat_lt (newest g) (newest h) then left_of rows q t else t)) (after_same q)
        (chosen (nat_lt (newest g) (newest (after_on of s g q))) q)
