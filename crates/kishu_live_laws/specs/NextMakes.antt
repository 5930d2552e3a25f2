-- How many nodes the live state has after a request, in a session that is attached to a good store.
use Rattle.std.specs.Prelude.{◌≡◌, ◌≤◌, ◌<◌, ◌+◌, ℕ, suc, nat_le, nat_lt, Bool, true, false, if◌then◌else◌, List, [], ◌∷◌, length, Option, Some, None}
use Rattle.std.specs.List.{AllZip, list_any}
use Rattle.std.proofs.Common.{ap, subst, arith, inl, inr, refl, ◌∙◌}
use Rattle.std.proofs.lemmas.Bool.Decides.{eqb_tells}
use Rattle.std.proofs.lemmas.Bool.{cases_lt}
use Rattle.kishu_language.specs.Limits.{longest_text}
use Rattle.kishu_meaning.specs.values.Values.{State}
use Rattle.kishu_store.specs.Graph.{Commit, Graph, Target, newest}
use Rattle.kishu_store.specs.Limits.{most_records}
use Rattle.kishu_store.specs.References.{resolve}
use Rattle.kishu_store.specs.Tables.{Table, Change, changes_in, table_in, table_of}
use Rattle.kishu_replay.specs.Replay.{replay}
use Rattle.kishu_history.specs.Changed.{Group}
use Rattle.kishu_history.specs.Checkout.{carried, to_load}
use Rattle.kishu_history.specs.Good.{IsAttached}
use Rattle.kishu_history.specs.Live.{IsPictureOf}
use Rattle.kishu_history.specs.Paths.{AreRows}
use Rattle.kishu_history.specs.Stored.{Held}
use Rattle.kishu_history_laws.specs.checkouts.CheckoutLaws.{nothing_to_load}
use Rattle.kishu_model.specs.Answers.{Refusal, bad_request, cell_too_long, store_full}
use Rattle.kishu_model.specs.Request.{Request, cell, cells, checkout, branch, log, status, inspect, stored, plan, unreadable, Stepped, refused_with}
use Rattle.kishu_model.specs.Serve.{after}
use Rattle.kishu_model.specs.Step.{step}
use Rattle.kishu_model.specs.requests.Cell.{committed}
use Rattle.kishu_model.specs.requests.Cells.{cells_committed, is_too_long}
use Rattle.kishu_model.specs.requests.Checkout.{checkout_to, went_to}
use Rattle.kishu_model.specs.requests.TooLarge.{is_too_large, too_large}
use Rattle.kishu_live_laws.specs.AtHead.{after_here, committed_makes}
use Rattle.kishu_live_laws.specs.Fewer.{moved_makes}
use Rattle.kishu_live_laws.specs.Made.{made_at, made_by, made_by_cells}
use Rattle.kishu_live_laws.specs.OnStates.{after_on, head_rows, state_on, IsNoCheckout}
use Rattle.kishu_live_laws.specs.Outcomes.{by_tests, goes, still_state, when_none}
use Rattle.kishu_live_laws.specs.Replays.{left_in}

-- ---- what the answers count

module _ (g : Graph) where
  abbrev head : State
  head = replay g g.head.commit

  -- Where a commit is made the nodes of its cells are counted.
  abbrev Counts : Request → Stepped → Type 0
  Counts q x = newest g < newest x.graph → made_by_cells g q ≤ made_at g q x.answer

  refusing : (q : Request) (r : Refusal) → Counts q (refused_with r g)
  refusing q r more = absurd (omega (arith, more))

  chosen : (q : Request) (b : Bool) (x y : Stepped) → Counts q x → Counts q y → Counts q (if b then x else y)
  chosen q true x y first second = first
  chosen q false x y first second = second

  tested : (q : Request) (long full large : Bool) (r : Refusal) (kept : Stepped) → Counts q kept → Counts q (by_tests g long full large r kept)
  tested q long full large r kept counts =
      let last = if large then refused_with r g else kept in
      chosen q long (refused_with cell_too_long g) (if full then refused_with store_full g else last) (refusing q cell_too_long)
      (chosen q full (refused_with store_full g) last (refusing q store_full)
      (chosen q large (refused_with r g) kept (refusing q r) counts))

  counts : (q : Request) → Counts q (step g q)
  counts unreadable = λ more. omega arith
  counts (cell text) =
      tested (cell text) (nat_lt longest_text (length text)) (nat_le most_records g.records) (is_too_large (left_in (cell text) head)) (too_large (left_in (cell text) head)) (committed text g) (λ more. omega arith)
  counts (cells []) = refusing (cells []) bad_request
  counts (cells (text ∷ texts)) =
      let q = cells (text ∷ texts) in
      tested q (list_any is_too_long (text ∷ texts)) (nat_le most_records g.records) (is_too_large (left_in q head)) (too_large (left_in q head)) (cells_committed (text ∷ texts) g) (λ more. omega arith)
  counts (checkout to) = λ more. omega arith
  counts (branch name at) = λ more. omega arith
  counts log = λ more. omega arith
  counts status = λ more. omega arith
  counts inspect = λ more. omega arith
  counts (stored to) = λ more. omega arith
  counts (plan to) = λ more. omega arith

-- ---- tables of commits that aren't there

none_beyond : (ks : List Commit) (of : ℕ → Change) (c : ℕ) → length ks < c → changes_in ks of c ≡ []
none_beyond [] of c beyond = refl
none_beyond (k ∷ ks) of c beyond = elim (eqb_tells c (suc (length ks))) [
  | inl p ↦ absurd (let e = p.1 in omega (arith, beyond, e))
  | inr p ↦ rw p.0 (none_beyond ks of c (omega (arith, beyond)))
]

module _ (file : List ℕ) (of : ℕ → Change) (s : State) (g : Graph) (rows : AreRows of) (attached : IsAttached file g of s) where
  abbrev table : Table
  table = head_rows of g

  abbrev ArePictures : Table → List State → Type 0
  ArePictures t ps = AllZip (IsPictureOf (Held file)) t ps

  -- ---- the state that the request's cells leave

  pub on_makes : (q : Request) → length (state_on of s g q).nodes ≤ length s.nodes + made_by g q
  on_makes q = elim (goes of s g q) [
    | inl still ↦ (let e = ap (λ (u : State). length u.nodes) (still_state of s g q still) in omega (arith, e))
    | inr is ↦ (
        let one : newest (after_on of s g q) ≡ suc (newest g) = ap newest is.graph in
        let more : newest g < newest (after g q) = subst (λ (h : Graph). newest g < newest h) (after_here file of s g rows attached q) (omega (arith, one)) in
        omega (arith, committed_makes file of s g rows attached q more, counts g q more)
        )
  ]

  -- ---- the state that is carried on to the head of the graph after the request

  none_loaded : (t : Table) → t ≡ [] → (ps : List State) → ArePictures t ps → (gs : List Group) → length (carried gs ps s).nodes ≡ length s.nodes
  none_loaded [] e [] zip gs = refl
  none_loaded [] e (p ∷ ps) zip gs = absurd zip
  none_loaded (r ∷ t) e ps zip gs = absurd (let d : length (r ∷ t) ≡ 0 = ap length e in omega (arith, d))

  -- where that is the table of before
  same_loaded : (t : Table) → t ≡ table → (ps : List State) → ArePictures (to_load table t) ps → (gs : List Group) → length (carried gs ps s).nodes ≡ length s.nodes
  same_loaded t e ps zip gs = none_loaded (to_load table t) (ap (λ (u : Table). to_load table u) e ∙ nothing_to_load table) ps zip gs

  went_makes : (t : Target) (to : List ℕ) (ps : List State) → ArePictures (to_load table (table_in g.commits of t.commit)) ps → (gs : List Group) → length (carried gs ps s).nodes ≤ length s.nodes + made_at g (checkout to) (went_to t g).answer
  went_makes t to ps zip gs = elim (cases_lt (newest g) t.commit) [
    | inr there ↦ (let e = moved_makes file g of rows attached.good g.head.commit t.commit attached.head there ps zip gs s in omega (arith, e))
    | inl beyond ↦ (
        let none = ap table_of (none_beyond g.commits of t.commit beyond) in
        let e = none_loaded (to_load table (table_in g.commits of t.commit)) (ap (λ (u : Table). to_load table u) none) ps zip gs in
        omega (arith, e)
        )
  ]

  to_makes : (to : List ℕ) (o : Option Target) (ps : List State) → ArePictures (to_load table (head_rows of (checkout_to o g).graph)) ps → (gs : List Group) → length (carried gs ps s).nodes ≤ length s.nodes + made_at g (checkout to) (checkout_to o g).answer
  to_makes to None ps zip gs = (let e = same_loaded table refl ps zip gs in omega (arith, e))
  to_makes to (Some t) ps zip gs = full_makes (nat_le most_records g.records) zip
    where
      full_makes : (full : Bool) → ArePictures (to_load table (head_rows of (if full then refused_with store_full g else went_to t g).graph)) ps
          → length (carried gs ps s).nodes ≤ length s.nodes + made_at g (checkout to) (if full then refused_with store_full g else went_to t g).answer
      full_makes true z = (let e = same_loaded table refl ps z gs in omega (arith, e))
      full_makes false z = went_makes t to ps z gs

  abbrev Moves : Request → Type 0
  Moves q = (ps : List State) → ArePictures (to_load table (head_rows of (after_on of s g q))) ps → (gs : List Group) → length (carried gs ps s).nodes ≤ length s.nodes + made_by g q

  -- each other request leaves the head
  others_make : (q : Request) → newest (after_on of s g q) ≤ newest g → IsNoCheckout q → Moves q
  others_make q none other ps zip gs =
      let still = when_none of s g q none in
      let now = after_on of s g q in
      let e : head_rows of now ≡ table =
      ap (λ (ks : List Commit). table_in ks of now.head.commit) still.commits ∙ ap (λ (t : Target). table_in g.commits of t.commit) (still.head other) in
      let same = same_loaded (head_rows of now) e ps zip gs in
      omega (arith, same)

  pub carried_makes : (q : Request) → newest (after_on of s g q) ≤ newest g → Moves q
  carried_makes unreadable none = others_make unreadable none tt
  carried_makes (cell text) none = others_make (cell text) none tt
  carried_makes (cells texts) none = others_make (cells texts) none tt
  carried_makes (checkout to) none = to_makes to (resolve g to)
  carried_makes (branch name at) none = others_make (branch name at) none tt
  carried_makes log none = others_make log none tt
  carried_makes status none = others_make status none tt
  carried_makes inspect none = others_make inspect none tt
  carried_makes (stored to) none = others_make (stored to) none tt
  carried_makes (plan to) none = others_make (plan to) none tt
