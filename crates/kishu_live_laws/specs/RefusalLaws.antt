-- What is refused: the graph alone decides all but how much cells leave, what is refused changes nothing, and that is refused only where the request's cells left so much.
use Rattle.std.specs.Prelude.{◌≡◌, ℕ, min, not, nat_le, nat_lt, Bool, true, false, if◌then◌else◌, List, [], ◌∷◌, length, Option, Some, None, is_some, refl}
use Rattle.std.specs.List.{list_any}
use Rattle.std.proofs.Common.{ap, sym, ◌∙◌, arith}
use Rattle.std.proofs.lemmas.Bool.Decides.{nat_tests}
use Rattle.kishu_language.specs.Limits.{longest_text}
use Rattle.kishu_meaning.specs.values.Values.{State}
use Rattle.kishu_objects.specs.Sizes.{size}
use Rattle.kishu_replay.specs.Replay.{replay}
use Rattle.kishu_store.specs.Branches.{commit_of, is_branch_name}
use Rattle.kishu_store.specs.Graph.{Graph, Target, with_branch}
use Rattle.kishu_store.specs.Limits.{most_records}
use Rattle.kishu_store.specs.References.{resolve}
use Rattle.kishu_store.specs.Tables.{Table, Change}
use Rattle.kishu_model.specs.Answers.{Answer, Refusal, ran_cell, ran_cells, checked_out, branched, logged, told_status, inspected, told_stored, told_plan, refused, bad_request, cell_too_long, no_such_ref, bad_name, name_taken, store_full, state_too_large}
use Rattle.kishu_model.specs.Request.{Request, cell, cells, checkout, branch, log, status, inspect, stored, plan, unreadable, Stepped, refused_with}
use Rattle.kishu_model.specs.requests.Branch.{branch_at, start_of}
use Rattle.kishu_model.specs.requests.Cell.{committed}
use Rattle.kishu_model.specs.requests.Cells.{cells_committed, is_too_long}
use Rattle.kishu_model.specs.requests.Checkout.{checkout_to, went_to}
use Rattle.kishu_model.specs.requests.Stored.{stored_of}
use Rattle.kishu_model.specs.requests.Plan.{plan_of}
use Rattle.kishu_model.specs.requests.TooLarge.{is_too_large, most_told}
use Rattle.kishu_model.specs.Step.{step}
use Rattle.kishu_live_laws.specs.OnStates.{left_size, leave_too_large, told_too_large, head_rows, run_of, cell_kept, cells_kept, stored_to, plan_to, answer_on, after_on}
use Rattle.kishu_live_laws.specs.Outcomes.{by_tests}
use Rattle.kishu_live_laws.specs.Refusals.{refusal_in, TellsSize, LeavesTooLarge}
use Rattle.kishu_live_laws.specs.Replays.{left_in}

module _ (g : Graph) where
  -- ---- by the tests of cells

  -- the refusal by the first two
  abbrev by_first : (long full : Bool) → Option Refusal
  by_first long full = if long then Some cell_too_long else if full then Some store_full else None

  -- Only the size is told by the third.
  first_tests : (long full large : Bool) (bytes : ℕ) (kept : Stepped) → refusal_in kept.answer ≡ None → refusal_in (by_tests g long full large (state_too_large bytes) kept).answer ≡ by_first long full
  first_tests true full large bytes kept none = refl
  first_tests false true large bytes kept none = refl
  first_tests false false true bytes kept none = refl
  first_tests false false false bytes kept none = none

  -- the steps of the machine
  abbrev head : State
  head = replay g g.head.commit

  pub cell_tests : (text : List ℕ) → refusal_in (step g (cell text)).answer ≡ by_first (nat_lt longest_text (length text)) (nat_le most_records g.records)
  cell_tests text =
      let left = left_in (cell text) head in
      first_tests (nat_lt longest_text (length text)) (nat_le most_records g.records) (is_too_large left) (min (size left) most_told) (committed text g) refl

  pub cells_tests : (text : List ℕ) (texts : List (List ℕ)) → refusal_in (step g (cells (text ∷ texts))).answer ≡ by_first (list_any is_too_long (text ∷ texts)) (nat_le most_records g.records)
  cells_tests text texts =
      let ts = text ∷ texts in
      let left = left_in (cells ts) head in
      first_tests (list_any is_too_long ts) (nat_le most_records g.records) (is_too_large left) (min (size left) most_told) (cells_committed ts g) refl

  -- those on a state
  module _ (of : ℕ → Change) (s : State) where
    abbrev table : Table
    table = head_rows of g

    cell_on_tests : (text : List ℕ) → refusal_in (answer_on of s g (cell text)) ≡ by_first (nat_lt longest_text (length text)) (nat_le most_records g.records)
    cell_on_tests text =
        let ran = text ∷ [] in
        first_tests (nat_lt longest_text (length text)) (nat_le most_records g.records) (leave_too_large table ran s) (min (left_size table ran s) most_told) (cell_kept of s g text) refl

    cells_on_tests : (text : List ℕ) (texts : List (List ℕ)) → refusal_in (answer_on of s g (cells (text ∷ texts))) ≡ by_first (list_any is_too_long (text ∷ texts)) (nat_le most_records g.records)
    cells_on_tests text texts =
        let ts = text ∷ texts in
        let ran = run_of table ts s in
        first_tests (list_any is_too_long ts) (nat_le most_records g.records) (leave_too_large table ran s) (min (left_size table ran s) most_told) (cells_kept of s g ts) refl

    stored_tests : (o : Option Target) → refusal_in (stored_to of o g).answer ≡ refusal_in (stored_of o g).answer
    stored_tests None = refl
    stored_tests (Some t) = refl

    plan_tests : (o : Option Target) → refusal_in (plan_to of o g).answer ≡ refusal_in (plan_of o g).answer
    plan_tests None = refl
    plan_tests (Some t) = refl

    pub refuses_as_step : (q : Request) → refusal_in (answer_on of s g q) ≡ refusal_in (step g q).answer
    refuses_as_step unreadable = refl
    refuses_as_step (cell text) = cell_on_tests text ∙ sym (cell_tests text)
    refuses_as_step (cells []) = refl
    refuses_as_step (cells (text ∷ texts)) = cells_on_tests text texts ∙ sym (cells_tests text texts)
    refuses_as_step (checkout to) = refl
    refuses_as_step (branch name at) = refl
    refuses_as_step log = refl
    refuses_as_step status = refl
    refuses_as_step inspect = refl
    refuses_as_step (stored to) = stored_tests (resolve g to)
    refuses_as_step (plan to) = plan_tests (resolve g to)

  pub refuses_alike : (of other : ℕ → Change) (s t : State) (q : Request) → refusal_in (answer_on of s g q) ≡ refusal_in (answer_on other t g q)
  refuses_alike of other s t q = refuses_as_step of s q ∙ sym (refuses_as_step other t q)

  -- ---- what is refused changes nothing

  abbrev Stays : Stepped → Type 0
  Stays x = (r : Refusal) → x.answer ≡ refused r → x.graph ≡ g

  refusing : (r : Refusal) → Stays (refused_with r g)
  refusing r other is = refl

  chosen : (b : Bool) (x y : Stepped) → Stays x → Stays y → Stays (if b then x else y)
  chosen true x y first second = first
  chosen false x y first second = second

  to_stays : (o : Option Target) → Stays (checkout_to o g)
  to_stays None = refusing no_such_ref
  to_stays (Some t) = chosen (nat_le most_records g.records) (refused_with store_full g) (went_to t g) (refusing store_full) (λ r is. absurd (cc (is)))

  at_stays : (title : List ℕ) (o : Option ℕ) → Stays (branch_at title o g)
  at_stays title None = refusing no_such_ref
  at_stays title (Some c) =
      chosen (nat_le most_records g.records) (refused_with store_full g) (record { graph = with_branch title c g; answer = branched c title }) (refusing store_full) (λ r is. absurd (cc (is)))

  tests_stay : (long full large : Bool) (r : Refusal) (kept : Stepped) → Stays kept → Stays (by_tests g long full large r kept)
  tests_stay true full large r kept stays = refusing cell_too_long
  tests_stay false true large r kept stays = refusing store_full
  tests_stay false false true r kept stays = refusing r
  tests_stay false false false r kept stays = stays

  stored_stays : (of : ℕ → Change) (o : Option Target) → Stays (stored_to of o g)
  stored_stays of None = refusing no_such_ref
  stored_stays of (Some t) = λ r is. refl

  plan_stays : (of : ℕ → Change) (o : Option Target) → Stays (plan_to of o g)
  plan_stays of None = refusing no_such_ref
  plan_stays of (Some t) = λ r is. refl

  pub refused_stays : (of : ℕ → Change) (s : State) (q : Request) (r : Refusal) → answer_on of s g q ≡ refused r → after_on of s g q ≡ g
  refused_stays of s unreadable = refusing bad_request
  refused_stays of s (cell text) =
      let t = head_rows of g in
      tests_stay (nat_lt longest_text (length text)) (nat_le most_records g.records) (leave_too_large t (text ∷ []) s) (told_too_large t (text ∷ []) s) (cell_kept of s g text) (λ r is. absurd (cc (is)))
  refused_stays of s (cells []) = refusing bad_request
  refused_stays of s (cells (text ∷ texts)) =
      let t = head_rows of g in
      let ts = text ∷ texts in
      let ran = run_of t ts s in
      tests_stay (list_any is_too_long ts) (nat_le most_records g.records) (leave_too_large t ran s) (told_too_large t ran s) (cells_kept of s g ts) (λ r is. absurd (cc (is)))
  refused_stays of s (checkout to) = to_stays (resolve g to)
  refused_stays of s (branch title at) =
      chosen (not (is_branch_name title)) (refused_with bad_name g) (if is_some (commit_of title g.branches) then refused_with name_taken g else branch_at title (start_of at g) g) (refusing bad_name)
      (chosen (is_some (commit_of title g.branches)) (refused_with name_taken g) (branch_at title (start_of at g) g) (refusing name_taken) (at_stays title (start_of at g)))
  refused_stays of s log = λ r is. refl
  refused_stays of s status = λ r is. refl
  refused_stays of s inspect = λ r is. refl
  refused_stays of s (stored to) = stored_stays of (resolve g to)
  refused_stays of s (plan to) = plan_stays of (resolve g to)

  -- ---- cells that are refused for what they leave

  abbrev Sized : (P : ℕ → Type 0) → Stepped → Type 0
  Sized P x = (bytes : ℕ) → x.answer ≡ refused (state_too_large bytes) → P bytes

  sized_tests : (P : ℕ → Type 0) (long full large : Bool) (r : Refusal) (kept : Stepped) → Sized P kept → (large ≡ true → Sized P (refused_with r g)) → Sized P (by_tests g long full large r kept)
  sized_tests P true full large r kept none is = λ bytes e. absurd (cc (e))
  sized_tests P false true large r kept none is = λ bytes e. absurd (cc (e))
  sized_tests P false false true r kept none is = is refl
  sized_tests P false false false r kept none is = none

  bytes_of : Refusal → ℕ
  bytes_of (state_too_large bytes) = bytes
  bytes_of r = 0

  refusal_of : Answer → Refusal
  refusal_of (refused r) = r
  refusal_of a = bad_request

  tells : (t : Table) (ran : List (List ℕ)) (s : State) → leave_too_large t ran s ≡ true → Sized (TellsSize t ran s) (refused_with (told_too_large t ran s) g)
  unfolding bytes_of refusal_of
  tells t ran s large bytes e =
      let told : min (left_size t ran s) most_told ≡ bytes = ap (λ a. bytes_of (refusal_of a)) e in
      (grind (arith, nat_tests), sym told)

  abbrev NoSize : Stepped → Type 0
  NoSize = Sized (λ n. ⊥)

  large_chosen : (b : Bool) (x y : Stepped) → NoSize x → NoSize y → NoSize (if b then x else y)
  large_chosen true x y first second = first
  large_chosen false x y first second = second

  to_large : (o : Option Target) → NoSize (checkout_to o g)
  to_large None = λ n is. cc (is)
  to_large (Some t) = large_chosen (nat_le most_records g.records) (refused_with store_full g) (went_to t g) (λ n is. cc (is)) (λ n is. cc (is))

  at_large : (title : List ℕ) (o : Option ℕ) → NoSize (branch_at title o g)
  at_large title None = λ n is. cc (is)
  at_large title (Some c) =
      large_chosen (nat_le most_records g.records) (refused_with store_full g) (record { graph = with_branch title c g; answer = branched c title }) (λ n is. cc (is)) (λ n is. cc (is))

  stored_large : (of : ℕ → Change) (o : Option Target) → NoSize (stored_to of o g)
  stored_large of None = λ n is. cc (is)
  stored_large of (Some t) = λ n is. cc (is)

  plan_large : (of : ℕ → Change) (o : Option Target) → NoSize (plan_to of o g)
  plan_large of None = λ n is. cc (is)
  plan_large of (Some t) = λ n is. cc (is)

  pub refused_large : (of : ℕ → Change) (s : State) (q : Request) (bytes : ℕ) → answer_on of s g q ≡ refused (state_too_large bytes) → LeavesTooLarge (head_rows of g) s q bytes
  refused_large of s unreadable bytes e = absurd (cc (e))
  refused_large of s (cell text) bytes e =
      let t = head_rows of g in
      let ran = text ∷ [] in
      sized_tests (TellsSize t ran s) (nat_lt longest_text (length text)) (nat_le most_records g.records) (leave_too_large t ran s) (told_too_large t ran s) (cell_kept of s g text) (λ n is. absurd (cc (is))) (tells t ran s) bytes e
  refused_large of s (cells []) bytes e = absurd (cc (e))
  refused_large of s (cells (text ∷ texts)) bytes e =
      let t = head_rows of g in
      let ts = text ∷ texts in
      let ran = run_of t ts s in
      sized_tests (TellsSize t ran s) (list_any is_too_long ts) (nat_le most_records g.records) (leave_too_large t ran s) (told_too_large t ran s) (cells_kept of s g ts) (λ n is. absurd (cc (is))) (tells t ran s) bytes e
  refused_large of s (checkout to) bytes e = to_large (resolve g to) bytes e
  refused_large of s (branch title at) bytes e =
      large_chosen (not (is_branch_name title)) (refused_with bad_name g) (if is_some (commit_of title g.branches) then refused_with name_taken g else branch_at title (start_of at g) g) (λ n is. cc (is))
      (large_chosen (is_some (commit_of title g.branches)) (refused_with name_taken g) (branch_at title (start_of at g) g) (λ n is. cc (is)) (at_large title (start_of at g))) bytes e
  refused_large of s log bytes e = absurd (cc (e))
  refused_large of s status bytes e = absurd (cc (e))
  refused_large of s inspect bytes e = absurd (cc (e))
  refused_large of s (stored to) bytes e = stored_large of (resolve g to) bytes e
  refused_large of s (plan to) bytes e = plan_large of (resolve g to) bytes e

-- ---- an answer that the graph alone refuses

refusing_what : (a : Answer) (r : Refusal) → refusal_in a ≡ Some r → (q : Refusal) × (a ≡ refused q)
refusing_what (refused q) r is = (q, refl)
refusing_what (ran_cell commit count report) r is = absurd (cc (is))
refusing_what (ran_cells commit results) r is = absurd (cc (is))
refusing_what (checked_out commit at) r is = absurd (cc (is))
refusing_what (branched commit title) r is = absurd (cc (is))
refusing_what (logged branches path) r is = absurd (cc (is))
refusing_what (told_status s) r is = absurd (cc (is))
refusing_what (inspected commit names nodes) r is = absurd (cc (is))
refusing_what (told_stored commit dropped new) r is = absurd (cc (is))
refusing_what (told_plan commit drop keep load) r is = absurd (cc (is))

pub graph_refusal_stays : (g : Graph) (of : ℕ → Change) (s : State) (q : Request) (r : Refusal) → refusal_in (answer_on of s g q) ≡ Some r → after_on of s g q ≡ g
graph_refusal_stays g of s q r is = (let what = refusing_what (answer_on of s g q) r is in refused_stays g of s q what.0 what.1)
