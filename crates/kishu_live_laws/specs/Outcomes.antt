-- What a request makes of the graph and of the live state, whichever state that is: a commit of the cells that are run, or none.
use Rattle.std.specs.Prelude.{◌≡◌, ◌≤◌, ◌<◌, ◌⊎◌, ℕ, suc, not, nat_le, nat_lt, Bool, true, false, if◌then◌else◌, List, [], ◌∷◌, length, Option, Some, None, is_some, refl}
use Rattle.std.specs.List.{list_any}
use Rattle.std.proofs.Common.{ap, arith, inl, inr}
use Rattle.std.proofs.lemmas.Bool.Decides.{nat_tests}
use Rattle.kishu_language.specs.Limits.{longest_text}
use Rattle.kishu_meaning.specs.values.Values.{State}
use Rattle.kishu_replay.specs.Replay.{replay}
use Rattle.kishu_store.specs.Branches.{commit_of, is_branch_name}
use Rattle.kishu_store.specs.Graph.{Graph, Target, newest, with_branch, with_commit}
use Rattle.kishu_store.specs.Limits.{most_records, newest_profile}
use Rattle.kishu_store.specs.References.{resolve}
use Rattle.kishu_store.specs.Tables.{Table, Change}
use Rattle.kishu_model.specs.Answers.{branched, bad_request, bad_name, cell_too_long, name_taken, no_such_ref, store_full, Refusal}
use Rattle.kishu_model.specs.Request.{Request, cell, cells, checkout, branch, log, status, inspect, stored, plan, unreadable, Stepped, refused_with}
use Rattle.kishu_model.specs.Step.{step}
use Rattle.kishu_model.specs.requests.Branch.{branch_at, start_of}
use Rattle.kishu_model.specs.requests.Cell.{committed}
use Rattle.kishu_model.specs.requests.Cells.{cells_committed, is_too_long}
use Rattle.kishu_model.specs.requests.Checkout.{checkout_to, went_to}
use Rattle.kishu_model.specs.requests.Stored.{stored_of}
use Rattle.kishu_model.specs.requests.Plan.{plan_of}
use Rattle.kishu_model.specs.requests.TooLarge.{is_too_large, too_large}
use Rattle.kishu_live_laws.specs.OnStates.{ran_by, left_of, leave_too_large, told_too_large, head_rows, run_of, cell_kept, cells_kept, stored_to, plan_to, step_on, after_on, state_on, IsNoCheckout}
use Rattle.kishu_live_laws.specs.Replays.{ran_in, left_in}

-- cells by their tests: whether a text is too long, whether the store is full, and whether too much is left, with the refusal that tells it
abbrev pub by_tests : Graph → (long full large : Bool) → Refusal → Stepped → Stepped
by_tests g long full large r kept =
    if long then refused_with cell_too_long g
    else if full then refused_with store_full g
    else if large then refused_with r g
    else kept

-- ---- what a step comes to, where these cells would be committed, and leave too much or not

-- the graph with the commit of the request's cells, which don't leave too much
pub record IsCommitted (g : Graph) (ran : List (List ℕ)) (large : Bool) (now : Graph) : Type 0 where
  pub graph : now ≡ with_commit newest_profile ran g
  pub small : large ≡ false

-- a graph with the same commits, and the same head but after a checkout
pub record IsStill (g : Graph) (q : Request) (now : Graph) : Type 0 where
  pub commits : now.commits ≡ g.commits
  pub head : IsNoCheckout q → now.head ≡ g.head

module _ (g : Graph) (ran : List (List ℕ)) (large : Bool) where
  abbrev pub Goes : Request → Stepped → Type 0
  Goes q x = IsStill g q x.graph ⊎ IsCommitted g ran large x.graph

  still : (q : Request) (x : Stepped) → x.graph ≡ g → Goes q x
  still q x e = inl (record { commits = ap (λ (h : Graph). h.commits) e; head = λ other. ap (λ (h : Graph). h.head) e })

  stays : (q : Request) (r : Refusal) → Goes q (refused_with r g)
  stays q r = still q (refused_with r g) refl

  chosen : (q : Request) (b : Bool) (x y : Stepped) → Goes q x → Goes q y → Goes q (if b then x else y)
  chosen q true x y first second = first
  chosen q false x y first second = second

  unless : (q : Request) (b : Bool) (r : Refusal) (kept : Stepped) → (b ≡ false → Goes q kept) → Goes q (if b then refused_with r g else kept)
  unless q true r kept small = stays q r
  unless q false r kept small = small refl

  tested : (q : Request) (long full : Bool) (r : Refusal) (kept : Stepped) → kept.graph ≡ with_commit newest_profile ran g → Goes q (by_tests g long full large r kept)
  tested q long full r kept e =
      let last = if large then refused_with r g else kept in
      chosen q long (refused_with cell_too_long g) (if full then refused_with store_full g else last) (stays q cell_too_long)
      (chosen q full (refused_with store_full g) last (stays q store_full)
      (unless q large r kept (λ is. inr (record { graph = e; small = is }))))

  to_goes : (to : List ℕ) (o : Option Target) → Goes (checkout to) (checkout_to o g)
  to_goes to None = inl (record { commits = refl; head = λ other. refl })
  to_goes to (Some t) = chosen (checkout to) (nat_le most_records g.records) (refused_with store_full g) (went_to t g) (stays (checkout to) store_full) (inl (record { commits = refl; head = λ other. absurd other }))

  at_goes : (title : List ℕ) (at : Option (List ℕ)) (o : Option ℕ) → Goes (branch title at) (branch_at title o g)
  at_goes title at None = inl (record { commits = refl; head = λ other. refl })
  at_goes title at (Some c) =
      chosen (branch title at) (nat_le most_records g.records) (refused_with store_full g) (record { graph = with_branch title c g; answer = branched c title })
      (stays (branch title at) store_full) (inl (record { commits = refl; head = λ other. refl }))

  branch_goes : (title : List ℕ) (at : Option (List ℕ)) → Goes (branch title at) (step g (branch title at))
  branch_goes title at =
      let q = branch title at in
      chosen q (not (is_branch_name title)) (refused_with bad_name g) (if is_some (commit_of title g.branches) then refused_with name_taken g else branch_at title (start_of at g) g) (stays q bad_name)
      (chosen q (is_some (commit_of title g.branches)) (refused_with name_taken g) (branch_at title (start_of at g) g) (stays q name_taken) (at_goes title at (start_of at g)))

-- ---- a step of the machine that replays each commit

module _ (g : Graph) where
  abbrev head : State
  head = replay g g.head.commit

  abbrev MachineGoes : Request → Stepped → Type 0
  MachineGoes q x = Goes g (ran_in q head) (is_too_large (left_in q head)) q x

  stored_goes : (to : List ℕ) (o : Option Target) → MachineGoes (stored to) (stored_of o g)
  stored_goes to None = stays g [] (is_too_large head) (stored to) no_such_ref
  stored_goes to (Some t) = still g [] (is_too_large head) (stored to) (stored_of (Some t) g) refl

  plan_goes : (to : List ℕ) (o : Option Target) → MachineGoes (plan to) (plan_of o g)
  plan_goes to None = stays g [] (is_too_large head) (plan to) no_such_ref
  plan_goes to (Some t) = still g [] (is_too_large head) (plan to) (plan_of (Some t) g) refl

  pub machine_goes : (q : Request) → MachineGoes q (step g q)
  machine_goes unreadable = stays g [] (is_too_large head) unreadable bad_request
  machine_goes (cell text) =
      let q = cell text in
      tested g (ran_in q head) (is_too_large (left_in q head)) q (nat_lt longest_text (length text)) (nat_le most_records g.records) (too_large (left_in q head)) (committed text g) refl
  machine_goes (cells []) = stays g [] (is_too_large head) (cells []) bad_request
  machine_goes (cells (text ∷ texts)) =
      let q = cells (text ∷ texts) in
      tested g (ran_in q head) (is_too_large (left_in q head)) q (list_any is_too_long (text ∷ texts)) (nat_le most_records g.records) (too_large (left_in q head)) (cells_committed (text ∷ texts) g) refl
  machine_goes (checkout to) = to_goes g [] (is_too_large head) to (resolve g to)
  machine_goes (branch title at) = branch_goes g [] (is_too_large head) title at
  machine_goes log = still g [] (is_too_large head) log (step g log) refl
  machine_goes status = still g [] (is_too_large head) status (step g status) refl
  machine_goes inspect = still g [] (is_too_large head) inspect (step g inspect) refl
  machine_goes (stored to) = stored_goes to (resolve g to)
  machine_goes (plan to) = plan_goes to (resolve g to)

-- ---- a step on any state

module _ (of : ℕ → Change) (s : State) (g : Graph) where
  abbrev table : Table
  table = head_rows of g

  abbrev leaves : Request → Bool
  leaves q = leave_too_large table (ran_by table q s) s

  abbrev pub IsMade : Request → Graph → Type 0
  IsMade q now = IsCommitted g (ran_by table q s) (leaves q) now

  abbrev StateGoes : Request → Stepped → Type 0
  StateGoes q x = Goes g (ran_by table q s) (leaves q) q x

  stored_to_goes : (to : List ℕ) (o : Option Target) → StateGoes (stored to) (stored_to of o g)
  stored_to_goes to None = stays g [] (leaves (stored to)) (stored to) no_such_ref
  stored_to_goes to (Some t) = still g [] (leaves (stored to)) (stored to) (stored_to of (Some t) g) refl

  plan_to_goes : (to : List ℕ) (o : Option Target) → StateGoes (plan to) (plan_to of o g)
  plan_to_goes to None = stays g [] (leaves (plan to)) (plan to) no_such_ref
  plan_to_goes to (Some t) = still g [] (leaves (plan to)) (plan to) (plan_to of (Some t) g) refl

  pub goes : (q : Request) → StateGoes q (step_on of s g q)
  goes unreadable = stays g [] (leaves unreadable) unreadable bad_request
  goes (cell text) =
      let q = cell text in
      tested g (text ∷ []) (leaves q) q (nat_lt longest_text (length text)) (nat_le most_records g.records) (told_too_large table (text ∷ []) s) (cell_kept of s g text) refl
  goes (cells []) = stays g [] (leaves (cells [])) (cells []) bad_request
  goes (cells (text ∷ texts)) =
      let q = cells (text ∷ texts) in
      tested g (run_of table (text ∷ texts) s) (leaves q) q (list_any is_too_long (text ∷ texts)) (nat_le most_records g.records) (told_too_large table (run_of table (text ∷ texts) s) s) (cells_kept of s g (text ∷ texts)) refl
  goes (checkout to) = to_goes g [] (leaves (checkout to)) to (resolve g to)
  goes (branch title at) = branch_goes g [] (leaves (branch title at)) title at
  goes log = still g [] (leaves log) log (step g log) refl
  goes status = still g [] (leaves status) status (step_on of s g status) refl
  goes inspect = still g [] (leaves inspect) inspect (step_on of s g inspect) refl
  goes (stored to) = stored_to_goes to (resolve g to)
  goes (plan to) = plan_to_goes to (resolve g to)

  -- ---- the commits, and the state after it

  not_more : (n m : ℕ) → m ≡ n → nat_lt n m ≡ false
  not_more n m is = grind (arith, nat_tests)

  one_more : (n m : ℕ) → m ≡ suc n → nat_lt n m ≡ true
  one_more n m is = grind (arith, nat_tests)

  module _ (q : Request) where
    abbrev now : Graph
    now = after_on of s g q

    still_newest : IsStill g q now → newest now ≡ newest g
    still_newest still = ap length still.commits

    more_newest : IsMade q now → newest now ≡ suc (newest g)
    more_newest is = ap newest is.graph

    pub still_state : IsStill g q now → state_on of s g q ≡ s
    still_state still = ap (λ (b : Bool). if b then left_of table q s else s) (not_more (newest g) (newest now) (still_newest still))

    pub more_state : IsMade q now → state_on of s g q ≡ left_of table q s
    more_state is = ap (λ (b : Bool). if b then left_of table q s else s) (one_more (newest g) (newest now) (more_newest is))

    -- With a commit more the request's cells were committed.
    pub when_more : newest g < newest now → IsMade q now
    when_more more = elim (goes q) [ inl still ↦ absurd (let is = still_newest still in omega (arith, more, is)) | inr is ↦ is ]

    -- Without one the commits are those of before.
    pub when_none : newest now ≤ newest g → IsStill g q now
    when_none none = elim (goes q) [ inl still ↦ still | inr is ↦ absurd (let e = more_newest is in omega (arith, none, e)) ]
