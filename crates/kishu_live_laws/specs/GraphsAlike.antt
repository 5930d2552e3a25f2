-- Which requests a graph refuses is told by its branches, its head, and how many commits and records it has.
use Rattle.std.specs.Prelude.{◌≡◌, ℕ, not, nat_le, nat_lt, Bool, true, false, if◌then◌else◌, List, [], ◌∷◌, length, Option, Some, None, is_some, option_map, refl}
use Rattle.std.specs.List.{list_any}
use Rattle.std.proofs.Common.{ap, sym, ◌∙◌}
use Rattle.kishu_language.specs.Limits.{longest_text}
use Rattle.kishu_store.specs.Branches.{Branches, commit_of, is_branch_name}
use Rattle.kishu_store.specs.Graph.{Graph, Target, newest, with_branch}
use Rattle.kishu_store.specs.Limits.{most_records}
use Rattle.kishu_store.specs.References.{is_decimal, number_from, resolve}
use Rattle.kishu_model.specs.Answers.{branched, Refusal, bad_request, cell_too_long, no_such_ref, bad_name, name_taken, store_full}
use Rattle.kishu_model.specs.Request.{Request, cell, cells, checkout, branch, log, status, inspect, stored, plan, unreadable, Stepped, refused_with}
use Rattle.kishu_model.specs.requests.Branch.{branch_at, start_of}
use Rattle.kishu_model.specs.requests.Cells.{is_too_long}
use Rattle.kishu_model.specs.requests.Checkout.{checkout_to, went_to}
use Rattle.kishu_model.specs.requests.Stored.{stored_of}
use Rattle.kishu_model.specs.requests.Plan.{plan_of}
use Rattle.kishu_model.specs.Step.{step}
use Rattle.kishu_live_laws.specs.Refusals.{refusal_in}
use Rattle.kishu_live_laws.specs.RefusalLaws.{cell_tests, cells_tests}

-- what has to be found, and then recorded
abbrev found_for : {A : Type 0} → ℕ → Option A → Option Refusal
found_for records None = Some no_such_ref
found_for records (Some a) = if nat_le most_records records then Some store_full else None

-- what has to be found alone
abbrev named_by : {A : Type 0} → Option A → Option Refusal
named_by None = Some no_such_ref
named_by (Some a) = None

-- cells, of which one is too long or none
abbrev room_for : ℕ → Bool → Option Refusal
room_for records long = if long then Some cell_too_long else if nat_le most_records records then Some store_full else None

abbrev target_in : Branches → ℕ → List ℕ → Option Target
target_in bs n to =
    if is_decimal to then (if nat_le (number_from 0 to) n then Some (record { commit = number_from 0 to; branch = None }) else None)
    else option_map (λ c. record { commit = c; branch = Some to }) (commit_of to bs)

abbrev start_in : Branches → ℕ → Target → Option (List ℕ) → Option ℕ
start_in bs n head None = Some head.commit
start_in bs n head (Some at) = option_map (λ target. target.commit) (target_in bs n at)

-- the refusal of each request
abbrev refused_by : Branches → Target → (commits records : ℕ) → Request → Option Refusal
refused_by bs head n records unreadable = Some bad_request
refused_by bs head n records (cell text) = room_for records (nat_lt longest_text (length text))
refused_by bs head n records (cells []) = Some bad_request
refused_by bs head n records (cells (text ∷ texts)) = room_for records (list_any is_too_long (text ∷ texts))
refused_by bs head n records (checkout to) = found_for records (target_in bs n to)
refused_by bs head n records (branch title at) = if not (is_branch_name title) then Some bad_name else if is_some (commit_of title bs) then Some name_taken else found_for records (start_in bs n head at)
refused_by bs head n records log = None
refused_by bs head n records status = None
refused_by bs head n records inspect = None
refused_by bs head n records (stored of) = named_by (target_in bs n of)
refused_by bs head n records (plan to) = named_by (target_in bs n to)

module _ (g : Graph) where
  chosen : (b : Bool) (x y : Stepped) (q r : Option Refusal) → refusal_in x.answer ≡ q → refusal_in y.answer ≡ r → refusal_in (if b then x else y).answer ≡ (if b then q else r)
  chosen true x y q r first second = first
  chosen false x y q r first second = second

  to_told : (o : Option Target) → refusal_in (checkout_to o g).answer ≡ found_for g.records o
  to_told None = refl
  to_told (Some t) = full (nat_le most_records g.records)
    where
      full : (b : Bool) → refusal_in (if b then refused_with store_full g else went_to t g).answer ≡ (if b then Some store_full else None)
      full true = refl
      full false = refl

  at_told : (title : List ℕ) (o : Option ℕ) → refusal_in (branch_at title o g).answer ≡ found_for g.records o
  at_told title None = refl
  at_told title (Some c) = full (nat_le most_records g.records)
    where
      full : (b : Bool) → refusal_in (if b then refused_with store_full g else record { graph = with_branch title c g; answer = branched c title }).answer ≡ (if b then Some store_full else None)
      full true = refl
      full false = refl

  stored_told : (o : Option Target) → refusal_in (stored_of o g).answer ≡ named_by o
  stored_told None = refl
  stored_told (Some t) = refl

  plan_told : (o : Option Target) → refusal_in (plan_of o g).answer ≡ named_by o
  plan_told None = refl
  plan_told (Some t) = refl

  start_told : (at : Option (List ℕ)) → start_of at g ≡ start_in g.branches (newest g) g.head at
  start_told None = refl
  start_told (Some at) = refl

  told : (q : Request) → refusal_in (step g q).answer ≡ refused_by g.branches g.head (newest g) g.records q
  told unreadable = refl
  told (cell text) = cell_tests g text
  told (cells []) = refl
  told (cells (text ∷ texts)) = cells_tests g text texts
  told (checkout to) = to_told (resolve g to)
  told (branch title at) =
      chosen (not (is_branch_name title)) (refused_with bad_name g) (if is_some (commit_of title g.branches) then refused_with name_taken g else branch_at title (start_of at g) g)
      (Some bad_name) (if is_some (commit_of title g.branches) then Some name_taken else found_for g.records (start_in g.branches (newest g) g.head at)) refl
      (chosen (is_some (commit_of title g.branches)) (refused_with name_taken g) (branch_at title (start_of at g) g) (Some name_taken) (found_for g.records (start_in g.branches (newest g) g.head at)) refl
      (at_told title (start_of at g) ∙ ap (λ (o : Option ℕ). found_for g.records o) (start_told at)))
  told log = refl
  told status = refl
  told inspect = refl
  told (stored to) = stored_told (resolve g to)
  told (plan to) = plan_told (resolve g to)

pub graphs_refuse_alike : (g h : Graph) → g.branches ≡ h.branches → g.head ≡ h.head → newest g ≡ newest h → g.records ≡ h.records → (q : Request) → refusal_in (step g q).answer ≡ refusal_in (step h q).answer
graphs_refuse_alike g h branches head commits records q =
    told g q
    ∙ ap (λ (bs : Branches). refused_by bs g.head (newest g) g.records q) branches
    ∙ ap (λ (t : Target). refused_by h.branches t (newest g) g.records q) head
    ∙ ap (λ (n : ℕ). refused_by h.branches h.head n g.records q) commits
    ∙ ap (λ (n : ℕ). refused_by h.branches h.head (newest h) n q) records
    ∙ sym (told h q)
