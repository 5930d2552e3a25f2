-- A walk that has walked all that it found has classified the names.
use Rattle.std.specs.Prelude.{◌≡◌, ℕ, zero, suc, ◌+◌, ◌<◌, ◌≤◌, List, [], ◌∷◌, length, get_or, slice_get, Option, Some, option_and_then}
use Rattle.std.proofs.Common.{refl, ap, sym, ◌∙◌, subst, arith, inl, inr}
use Rattle.std.proofs.lemmas.Bool.{cases_eq}
use Rattle.kishu_meaning.specs.values.Values.{Value, node, State, find}
use Rattle.kishu_objects.specs.Lists.{In, AllDiffer}
use Rattle.kishu_objects.specs.Shape.{children, child, node_at, reached}
use Rattle.kishu_objects.specs.Sound.{IsSound}
use Rattle.kishu_objects.specs.Picture.{leads}
use Rattle.kishu_objects.specs.Groups.{Reaches, Linked, itself, further}
use Rattle.kishu_objects_laws.specs.ListLaws.{in_at, at_in, contains_in}
use Rattle.kishu_objects_laws.specs.OrderLaws.{step_from, numbers_in, in_numbers, order_distinct}
use Rattle.kishu_objects_laws.specs.WalkLaws.{IsWalked, walk_begins, walk_more, walk_ends}
use Rattle.kishu_groups.specs.Classes.{each_alone}
use Rattle.kishu_groups.specs.Gathering.{Classifies}
use Rattle.kishu_groups.specs.Marks.{Marks, note_all, note_names}
use Rattle.kishu_groups.proofs.Joins.{there_short, get_there}
use Rattle.kishu_groups.proofs.Notes.{Belongs, Tells, Noted, belongs_on, all_noted, all_belong, names_noted, names_belong, start_tells, found_all, found_names, made, From}

-- i of the nodes that were found were walked.
pub record IsMarked (s : State) (of : List (List ℕ)) (m : Marks) (i : ℕ) : Type 0 where
  pub tells : Tells s of m
  pub walked : IsWalked s of m.found i
  pub named : (a : ℕ) (x : List ℕ) (k : ℕ) → slice_get of a ≡ Some x → find x s.names ≡ Some (node k) → Belongs m k a
  pub closed : (p k l c : ℕ) → p < i → slice_get m.found p ≡ Some k → slice_get m.labels p ≡ Some l → In c (leads s.nodes k) → Belongs m c l

-- a place is that of one thing
pub differ_place : {A : Type 0} (xs : List A) (a b : ℕ) (x : A) → AllDiffer xs → slice_get xs a ≡ Some x → slice_get xs b ≡ Some x → a ≡ b
differ_place [] a b x d e f = absurd (cc)
differ_place (y ∷ ys) zero zero x d e f = refl
differ_place (y ∷ ys) zero (suc b) x d e f = absurd (let g : y ≡ x = cc in d.0 (subst (λ z. In z ys) (sym g) (in_at ys b x f)))
differ_place (y ∷ ys) (suc a) zero x d e f = absurd (let g : y ≡ x = cc in d.0 (subst (λ z. In z ys) (sym g) (in_at ys a x e)))
differ_place (y ∷ ys) (suc a) (suc b) x d e f = ap suc (differ_place ys a b x d.1 e f)

pub one_in : {A : Type 0} (x y : A) → Some x ≡ Some y → x ≡ y
one_in x y e = cc

module _ (s : State) (sound : IsSound s) (of : List (List ℕ)) where
  -- ---- the beginning

  abbrev start : Marks
  start = made [] [] (each_alone (length of))

  from_first : From s of 0 of
  from_first k x h = (let e : k ≡ 0 + k = omega arith in subst (λ n. slice_get of n ≡ Some x) e h)

  first_named : (a : ℕ) (x : List ℕ) (k : ℕ) → slice_get of a ≡ Some x → find x s.names ≡ Some (node k) → Belongs (note_names s.names 0 of start) k a
  first_named a x k f g = (let e : 0 + a ≡ a = omega arith in
      subst (λ n. Belongs (note_names s.names 0 of start) k n) e (names_belong s of 0 of from_first start (start_tells s of) a x k f g))

  pub marked_first : (m : Marks) → m ≡ note_names s.names 0 of (made [] [] (each_alone (length of))) → IsMarked s of m 0
  marked_first m e = subst (λ n. IsMarked s of n 0) (sym e) (record {
    tells = (names_noted s of 0 of from_first start (start_tells s of)).tells;
    walked = subst (λ z. IsWalked s of z 0) (sym (found_names s 0 of start)) (walk_begins s sound of);
    named = first_named;
    closed = λ p k l c h. absurd (omega arith);
  })

  -- ---- a node more

  step_reached : (k c : ℕ) (x : List ℕ) → Reaches s x k → In c (leads s.nodes k) → Reaches s x c
  step_reached k c x r h =
      let a = at_in (children (node_at s.nodes k)) (node c) (in_numbers (children (node_at s.nodes k)) c h) in
      (a.0 ∷ r.0, step a.0 (reached s x r.0) r.1 a.1)
    where
      step : (n : ℕ) (o : Option Value) → o ≡ Some (node k) → slice_get (children (node_at s.nodes k)) n ≡ Some (node c)
          → option_and_then (child s.nodes n) o ≡ Some (node c)
      step n o e f = ap (option_and_then (child s.nodes n)) e ∙ f

  module _ (m : Marks) (i k l : ℕ) (w : IsMarked s of m i) (at : slice_get m.found i ≡ Some k) (label : slice_get m.labels i ≡ Some l) where
    abbrev after : Marks
    after = note_all l (leads s.nodes k) m

    label_low : l < length of
    label_low = (let a = w.tells.marks.labelled i l label in let b = w.tells.many in omega arith)

    abbrev name : List ℕ
    name = get_or of l []

    name_at : slice_get of l ≡ Some name
    name_at = get_there of l [] label_low

    reaches : (c : ℕ) → In c (leads s.nodes k) → Reaches s name c
    reaches c h = step_reached k c name (w.tells.reached i k l name at label name_at) h

    step_noted : Noted s of m after
    step_noted = all_noted s of l name name_at (leads s.nodes k) reaches m w.tells

    found_place : (p q : ℕ) → p < length m.found → slice_get after.found p ≡ Some q → slice_get m.found p ≡ Some q
    found_place p q low e =
        let a = get_there m.found p 0 low in
        a ∙ sym (step_noted.grows.found p (get_or m.found p 0) a) ∙ e

    label_place : (p q : ℕ) → p < length m.labels → slice_get after.labels p ≡ Some q → slice_get m.labels p ≡ Some q
    label_place p q low e =
        let a = get_there m.labels p 0 low in
        a ∙ sym (step_noted.grows.labels p (get_or m.labels p 0) a) ∙ e

    step_closed : (p q r c : ℕ) → p < suc i → slice_get after.found p ≡ Some q → slice_get after.labels p ≡ Some r → In c (leads s.nodes q)
        → Belongs after c r
    step_closed p q r c low e f h =
        let n = there_short m.found i k at in
        let sized = w.tells.marks.sized in
        let g = found_place p q (omega arith) e in
        let j = label_place p r (omega arith) f in
        elim (cases_eq p i) [
          | inl same ↦ (
              let u : k ≡ q = one_in k q (sym at ∙ ap (slice_get m.found) (sym same) ∙ g) in
              let v : l ≡ r = one_in l r (sym label ∙ ap (slice_get m.labels) (sym same) ∙ j) in
              subst (λ z. Belongs after c z) v
              (all_belong s of l name name_at (leads s.nodes k) reaches m w.tells c (subst (λ z. In c (leads s.nodes z)) (sym u) h))
              )
          | inr other ↦ belongs_on m after c r step_noted.grows (w.closed p q r c (omega arith) g j h)
        ]

    pub marked_more : IsMarked s of after (suc i)
    marked_more = record {
      tells = step_noted.tells;
      walked = subst (λ z. IsWalked s of z (suc i)) (sym (found_all l (leads s.nodes k) m)) (walk_more s sound of m.found i k w.walked at);
      named = λ a x j e f. belongs_on m after j a step_noted.grows (w.named a x j e f);
      closed = step_closed;
    }

  -- ---- the end

  module _ (differ : AllDiffer of) (m : Marks) (i : ℕ) (w : IsMarked s of m i) (all : length m.found ≤ i) where
    reach_belongs : (a : ℕ) (x : List ℕ) → slice_get of a ≡ Some x → (path : List ℕ) (k : ℕ) → reached s x path ≡ Some (node k) → Belongs m k a
    reach_belongs a x at [] k e = w.named a x k at e
    reach_belongs a x at (c ∷ path) k e =
        let from = step_from s c k (reached s x path) e in
        let b = reach_belongs a x at path from.0 from.1 in
        let short = there_short m.found b.place from.0 b.found in
        let d = w.closed b.place from.0 b.label k (omega arith) b.found b.labelled
        (numbers_in (children (node_at s.nodes from.0)) k (in_at (children (node_at s.nodes from.0)) c (node k) from.2)) in
        record { place = d.place; label = d.label; found = d.found; labelled = d.labelled; one = d.one ∙ b.one }

    found_differ : AllDiffer m.found
    found_differ = subst AllDiffer (sym (walk_ends s sound of m.found i w.walked all)) (order_distinct s of)

    belong_one : (k a b : ℕ) → Belongs m k a → Belongs m k b → slice_get m.firsts a ≡ slice_get m.firsts b
    belong_one k a b p q =
        let same = differ_place m.found p.place q.place k found_differ p.found q.found in
        let l : p.label ≡ q.label = one_in p.label q.label (sym p.labelled ∙ ap (slice_get m.labels) same ∙ q.labelled) in
        sym p.one ∙ ap (slice_get m.firsts) l ∙ q.one

    linked_one : (a : ℕ) (x : List ℕ) → slice_get of a ≡ Some x → (y : List ℕ) → Linked s of x y → (b : ℕ) → slice_get of b ≡ Some y
        → slice_get m.firsts a ≡ slice_get m.firsts b
    linked_one a x at y itself b there = ap (slice_get m.firsts) (differ_place of a b x differ at there)
    linked_one a x at y (further z v l c t) b there =
        let k = linked_place z l in
        linked_one a x at z l k.0 k.1 ∙ belong_one t.0 k.0 b (reach_belongs k.0 z k.1 t.1.0 t.0 t.1.1) (reach_belongs b y there t.2.0 t.0 t.2.1)
      where
        linked_place : (z : List ℕ) → Linked s of x z → (k : ℕ) × (slice_get of k ≡ Some z)
        linked_place z itself = (a, at)
        linked_place z (further w u l c t) = at_in of z (contains_in of z c)

    pub marked_end : Classifies s of m.firsts
    marked_end = record {
      many = w.tells.many;
      firsts = w.tells.firsts;
      linked = w.tells.linked;
      told = λ a b x y e f l. linked_one a x e y l b f;
    }
