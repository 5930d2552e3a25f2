-- Why the graph doesn't take a checkout, as a refusal.
use Rattle.std.proofs.Common.{◌≡◌, ◌<◌, ◌⊎◌, Bool, true, false, if◌then◌else◌, Option, Some, None, sym, ◌∙◌, ap, subst, arith, ⊎_elim, refl}
use Rattle.std.specs.Prelude.{nat_le}
use Rattle.std.proofs.lemmas.Bool.Decides.{nat_tests}
use Rattle.kishu_store.specs.Graph.{Graph, Target}
use Rattle.kishu_store.specs.Limits.{most_records}
use Rattle.kishu_graph.specs.Refusals.{unless_there}
use Rattle.kishu_graph.specs.declared.fault.GraphFault.{GraphFault}
use Rattle.kishu_graph.specs.declared.fault.GraphFault.TheVariants.{NoSuchRef, StoreFull, NoMemory}
use Rattle.kishu_model.specs.Answers.{Refusal, store_full, no_such_ref}
use Rattle.kishu_model.specs.Request.{Stepped, refused_with}
use Rattle.kishu_model.specs.requests.Checkout.{checkout_to, went_to}
use Rattle.kishu_session.specs.Refusing.{refusal_by}

-- ---- which refusal a fault of the graph is

-- what is told where the graph is full, or else
abbrev told : Bool → Option GraphFault
told b = if b then Some StoreFull else None

-- A fault that is a refusal isn't want of memory.
pub by-cause : (P : Type 0) (fault : GraphFault) (r : Refusal) → refusal_by fault ≡ Some r → (fault ≡ NoMemory) ⊎ P → P
by-cause P fault r by cause = ⊎_elim (λ (e : fault ≡ NoMemory). absurd (none (sym (ap refusal_by e) ∙ by))) (λ (p : P). p) cause
  where
    none : {x : Refusal} → None ≡ Some x → ⊥
    none e = cc (e)

module _ (g : Graph) where
  pub by-refusal : (f e : GraphFault) (r s : Refusal) → Some f ≡ Some e → refusal_by e ≡ Some r → refusal_by f ≡ Some s → refused_with s g ≡ refused_with r g
  by-refusal f e r s is by its =
      let same : f ≡ e = cc (is) in
      let twice : Some s ≡ Some r = sym its ∙ ap refusal_by same ∙ by in
      let one : s ≡ r = cc (twice) in
      ap (λ (x : Refusal). refused_with x g) one

  -- ---- room

  module _ (e : GraphFault) (r : Refusal) (by : refusal_by e ≡ Some r) (other : Stepped) where
    pub full-refused : (b : Bool) → told b ≡ Some e → (if b then refused_with store_full g else other) ≡ refused_with r g
    full-refused true is = by-refusal StoreFull e r store_full is by refl
    full-refused false is = absurd (cc (is))

  pub room-is : (b : Bool) → told b ≡ None → b ≡ false
  room-is true is = absurd (cc (is))
  room-is false is = refl

  -- ---- checkouts

  pub checkout-refused : (o : Option Target) (e : GraphFault) (r : Refusal) → unless_there o g ≡ Some e → refusal_by e ≡ Some r → checkout_to o g ≡ refused_with r g
  checkout-refused None e r is by = by-refusal NoSuchRef e r no_such_ref is by refl
  checkout-refused (Some t) e r is by = full-refused e r by (went_to t g) (nat_le most_records g.records) is

  pub checkout-accepted : (o : Option Target) (t : Target) → o ≡ Some t → unless_there o g ≡ None → checkout_to o g ≡ went_to t g
  checkout-accepted o t is free =
      let no = room-is (nat_le most_records g.records) (subst (λ (x : Option Target). unless_there x g ≡ None) is free) in
      ap (λ (x : Option Target). checkout_to x g) is
      ∙ ap (λ (b : Bool). if b then refused_with store_full g else went_to t g) no

  pub room-there : {A : Type 0} (o : Option A) (t : A) → o ≡ Some t → unless_there o g ≡ None → g.records < most_records
  room-there {A} o t is free =
      let no = room-is (nat_le most_records g.records) (subst (λ (x : Option A). unless_there x g ≡ None) is free) in
      grind (arith, nat_tests, no)
