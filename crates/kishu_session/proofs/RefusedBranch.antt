-- A branch that a graph doesn't take is refused for the same cause, and one that it takes is made.
use Rattle.std.proofs.Common.{◌≡◌, ◌<◌, ◌≤◌, ℕ, Bool, true, false, if◌then◌else◌, List, Option, Some, None, refl, sym, ◌∙◌, ap, subst, arith}
use Rattle.std.specs.Prelude.{nat_le, not, is_some, option_map}
use Rattle.std.proofs.lemmas.Bool.{false≢true}
use Rattle.std.proofs.lemmas.Bool.Decides.{nat_tests}
use Rattle.kishu_store.specs.Branches.{commit_of, is_branch_name}
use Rattle.kishu_store.specs.Entries.{name}
use Rattle.kishu_store.specs.Fitting.{Fits}
use Rattle.kishu_store.specs.Graph.{Graph, Target, newest, with_branch}
use Rattle.kishu_store.specs.Limits.{most_records}
use Rattle.kishu_store.specs.References.{is_decimal, number_from}
use Rattle.kishu_store_laws.specs.BranchLaws.{each-commit}
use Rattle.kishu_store_laws.specs.GraphLaws.{IsGraph, IsBranch}
use Rattle.kishu_graph.specs.Refusals.{unless_there, unless_named, start_of}
use Rattle.kishu_graph.specs.declared.fault.GraphFault.{GraphFault}
use Rattle.kishu_graph.specs.declared.fault.GraphFault.TheVariants.{BadName, NameTaken, NoSuchRef}
use Rattle.kishu_model.specs.Answers.{Refusal, bad_name, name_taken, no_such_ref, store_full, branched}
use Rattle.kishu_model.specs.Request.{Stepped, branch, refused_with}
use Rattle.kishu_model.specs.requests.Branch.{branch_at}
use Rattle.kishu_model.specs.requests.Branch as model
use Rattle.kishu_model.specs.Step.{step}
use Rattle.kishu_session.specs.Refusing.{refusal_by}
use Rattle.kishu_session.proofs.Causes.{by-refusal, full-refused, room-is, room-there}

-- where a branch begins
start-same : (g : Graph) (at : Option (List ℕ)) → start_of at g ≡ model.start_of at g
start-same g None = refl
start-same g (Some to) = refl

module _ (g : Graph) (title : List ℕ) where
  -- what the step gives, by its tests
  abbrev made : Bool → Bool → Option ℕ → Stepped
  made form taken start = if not form then refused_with bad_name g else if taken then refused_with name_taken g else branch_at title start g

  abbrev fault : Bool → Bool → Option ℕ → Option GraphFault
  fault form taken start = if not form then Some BadName else if taken then Some NameTaken else unless_there start g

  abbrev stands : ℕ → Stepped
  stands c = record { graph = with_branch title c g; answer = branched c title }

  start-refused : (o : Option ℕ) (e : GraphFault) (r : Refusal) → unless_there o g ≡ Some e → refusal_by e ≡ Some r → branch_at title o g ≡ refused_with r g
  start-refused None e r is by = by-refusal g NoSuchRef e r no_such_ref is by refl
  start-refused (Some c) e r is by = full-refused g e r by (stands c) (nat_le most_records g.records) is

  made-refused : (form taken : Bool) (o : Option ℕ) (e : GraphFault) (r : Refusal) → fault form taken o ≡ Some e → refusal_by e ≡ Some r → made form taken o ≡ refused_with r g
  made-refused false taken o e r is by = by-refusal g BadName e r bad_name is by refl
  made-refused true true o e r is by = by-refusal g NameTaken e r name_taken is by refl
  made-refused true false o e r is by = start-refused o e r is by

  -- what it has to be, where nothing is wrong
  pub record Accepted (form taken : Bool) (o : Option ℕ) (c : ℕ) : Type 0 where
    pub form_is : form ≡ true
    pub taken_is : taken ≡ false
    pub room : g.records < most_records
    pub made_is : made form taken o ≡ stands c

  start-accepted : (o : Option ℕ) (c : ℕ) → o ≡ Some c → unless_there o g ≡ None → branch_at title o g ≡ stands c
  start-accepted o c is free =
      let no = room-is g (nat_le most_records g.records) (subst (λ (x : Option ℕ). unless_there x g ≡ None) is free) in
      ap (λ (x : Option ℕ). branch_at title x g) is
      ∙ ap (λ (b : Bool). if b then refused_with store_full g else stands c) no

  accepted-by : (form taken : Bool) (o : Option ℕ) (c : ℕ) → o ≡ Some c → fault form taken o ≡ None → Accepted form taken o c
  accepted-by false taken o c is free = absurd (cc (free))
  accepted-by true true o c is free = absurd (cc (free))
  accepted-by true false o c is free = record { form_is = refl; taken_is = refl; room = room-there g o c is free; made_is = start-accepted o c is free }

  -- ---- the step

  module _ (at : Option (List ℕ)) where
    pub branch-refused : (e : GraphFault) (r : Refusal) → unless_named title (start_of at g) g ≡ Some e → refusal_by e ≡ Some r → step g (branch title at) ≡ refused_with r g
    branch-refused e r is by =
        ap (λ (o : Option ℕ). made (is_branch_name title) (is_some (commit_of title g.branches)) o) (sym (start-same g at))
        ∙ made-refused (is_branch_name title) (is_some (commit_of title g.branches)) (start_of at g) e r is by

    pub branch-accepted : (c : ℕ) → start_of at g ≡ Some c → unless_named title (start_of at g) g ≡ None → Accepted (is_branch_name title) (is_some (commit_of title g.branches)) (start_of at g) c
    branch-accepted c is free = accepted-by (is_branch_name title) (is_some (commit_of title g.branches)) (start_of at g) c is free

    pub step-branch : (c : ℕ) → start_of at g ≡ Some c → unless_named title (start_of at g) g ≡ None → step g (branch title at) ≡ stands c
    step-branch c is free =
        ap (λ (o : Option ℕ). made (is_branch_name title) (is_some (commit_of title g.branches)) o) (sym (start-same g at))
        ∙ (branch-accepted c is free).made_is

-- ---- where a branch begins is there

module _ (g : Graph) (good : IsGraph g) where
  number-there : (n : ℕ) (b : Bool) (c : ℕ) → (b ≡ true → n ≤ newest g) → option_map (λ (t : Target). t.commit) (if b then Some (record { commit = n; branch = None }) else None) ≡ Some c → c ≤ newest g
  number-there n true c le is = (let same : n ≡ c = cc (is) in subst (λ (m : ℕ). m ≤ newest g) same (le refl))
  number-there n false c le is = absurd (cc (is))

  branch-there : (to : List ℕ) (o : Option ℕ) (c : ℕ) → commit_of to g.branches ≡ o → option_map (λ (t : Target). t.commit) (option_map (λ n. record { commit = n; branch = Some to }) o) ≡ Some c → c ≤ newest g
  branch-there to None c at is = absurd (cc (is))
  branch-there to (Some n) c at is =
      let same : n ≡ c = cc (is) in
      subst (λ (m : ℕ). m ≤ newest g) same (each-commit (IsBranch (newest g)) to n g.branches at good.branches).1

  kind-there : (to : List ℕ) (c : ℕ) (b : Bool)
      → option_map (λ (t : Target). t.commit) (if b then (if nat_le (number_from 0 to) (newest g) then Some (record { commit = number_from 0 to; branch = None }) else None) else option_map (λ n. record { commit = n; branch = Some to }) (commit_of to g.branches)) ≡ Some c
      → c ≤ newest g
  kind-there to c true is = number-there (number_from 0 to) (nat_le (number_from 0 to) (newest g)) c (λ e. grind (arith, nat_tests)) is
  kind-there to c false is = branch-there to (commit_of to g.branches) c refl is

  start-there : (at : Option (List ℕ)) (c : ℕ) → start_of at g ≡ Some c → c ≤ newest g
  start-there None c is = (let same : g.head.commit ≡ c = cc (is) in subst (λ (m : ℕ). m ≤ newest g) same good.head.there)
  start-there (Some to) c is = kind-there to c (is_decimal to) is

  none-taken : (o : Option ℕ) → is_some o ≡ false → o ≡ None
  none-taken None e = refl
  none-taken (Some c) e = absurd (false≢true (sym e))

  pub branch-fits : (title : List ℕ) (at : Option (List ℕ)) (c : ℕ) → start_of at g ≡ Some c → unless_named title (start_of at g) g ≡ None → Fits g (name title c)
  branch-fits title at c is free =
      let a = branch-accepted g title at c is free in
      record { room = a.room; goes_on = (a.form_is, none-taken (commit_of title g.branches) a.taken_is, start-there at c is) }
