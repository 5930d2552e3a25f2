-- Two states are the same on names exactly where their pictures are equal; states are the same where groups are; what is not touched keeps its picture.
use Rattle.std.specs.Prelude.{◌≡◌, ℕ, zero, suc, ◌<◌, ⊤, List, [], ◌∷◌, length, slice_get, slice_index_or, Option, Some, None, All, Contains}
use Rattle.std.specs.List.{AllZip}
use Rattle.std.proofs.Common.{refl, ap, sym, ◌∙◌, subst, arith, inl, inr}
use Rattle.std.proofs.lemmas.Bool.{cases_lt, cases_eq}
use Rattle.kishu_meaning.specs.values.Values.{Value, node, State, find}
use Rattle.kishu_objects.specs.Lists.{In}
use Rattle.kishu_objects.specs.Shape.{children, node_at, reached}
use Rattle.kishu_objects.specs.Same.{SameWhere, Same, SameOn, BothOrNone}
use Rattle.kishu_objects.specs.Picture.{order, picture}
use Rattle.kishu_objects.specs.Sound.{IsSound}
use Rattle.kishu_objects.specs.Groups.{Reaches, AreApart, Cuts}
use Rattle.kishu_objects_laws.specs.ListLaws.{in_at, at_in, contains_in, in_contains}
use Rattle.kishu_objects.specs.Pairings.{Alike, bare, Pairs}
use Rattle.kishu_objects_laws.specs.OrderLaws.{order_reached, root_in, child_in}
use Rattle.kishu_objects_laws.specs.PairingLaws.{pairs_same, ByPath, same_pairs}
use Rattle.kishu_objects_laws.specs.PictureLaws.{AtOnePlace, pairs_picture, picture_pairs}

-- A pairing that relates names relates fewer of them.
pub pairs_fewer : (P : ℕ → ℕ → Type 0) (M N : List ℕ → Type 0) (s t : State) → ((x : List ℕ) → M x → N x) → Pairs P N s t → Pairs P M s t
pairs_fewer P M N s t less p = record { one_right = p.one_right; one_left = p.one_left; shows = p.shows; leads_on = p.leads_on; names = λ x m. p.names x (less x m) }

-- States that are the same on names are the same on fewer of them.
pub same_fewer : (M N : List ℕ → Type 0) (s t : State) → ((x : List ℕ) → M x → N x) → SameWhere N s t → SameWhere M s t
same_fewer M N s t less h = record {
  views = λ x p m. h.views x p (less x m);
  shared_there = λ x p y q m n. h.shared_there x p y q (less x m) (less y n);
  shared_here = λ x p y q m n. h.shared_here x p y q (less x m) (less y n);
}

-- ---- equal pictures exactly where the same

module _ (s t : State) (sound : IsSound s) (other : IsSound t) (xs : List (List ℕ)) where
  -- States that are the same on names have equal pictures of them.
  pub same_picture : SameOn s t xs → picture s xs ≡ picture t xs
  same_picture h =
      let N = λ (x : List ℕ). Contains xs x in
      pairs_picture (ByPath N s t h) s t xs (pairs_fewer (ByPath N s t h) (λ x. In x xs) N s t (in_contains xs) (same_pairs N s t h)) sound other

  -- States with equal pictures of names are the same on them.
  pub picture_same : picture s xs ≡ picture t xs → SameOn s t xs
  picture_same e =
      pairs_same (AtOnePlace s t xs) (λ x. Contains xs x) s t
      (pairs_fewer (AtOnePlace s t xs) (λ x. Contains xs x) (λ x. In x xs) s t (contains_in xs) (picture_pairs s t sound other xs e))

-- ---- the gluing law

module _ (s t : State) (sound : IsSound s) (other : IsSound t) (gs : List (List (List ℕ)))
    (here_apart : AreApart s gs) (there_apart : AreApart t gs) (equal : All (λ g. picture s g ≡ picture t g) gs) where
  -- at one place of the orders of one group
  abbrev InOneGroup : ℕ → ℕ → Type 0
  InOneGroup i j = (a : ℕ) × (g : List (List ℕ)) × (slice_get gs a ≡ Some g) × AtOnePlace s t g i j

  abbrev OfGroup : List ℕ → Type 0
  OfGroup x = (a : ℕ) × (g : List (List ℕ)) × (slice_get gs a ≡ Some g) × In x g

  get_at : {A : Type 0} (xs : List A) (k : ℕ) (x d : A) → slice_get xs k ≡ Some x → (k < length xs) × (slice_index_or xs k d ≡ x)
  get_at [] k x d e = absurd (cc)
  get_at (y ∷ ys) zero x d e = (omega arith, cc)
  get_at (y ∷ ys) (suc k) x d e = (let r = get_at ys k x d e in (omega (arith, r.0), r.1))

  group_pairs : (a : ℕ) (g : List (List ℕ)) → slice_get gs a ≡ Some g → Pairs (AtOnePlace s t g) (λ x. In x g) s t
  group_pairs a g e = let k = get_at gs a g g e in picture_pairs s t sound other g (subst (λ h. picture s h ≡ picture t h) k.1 (equal a g k.0))

  -- one node is in the orders of one group alone
  one_group : (u : State) → AreApart u gs → (a b : ℕ) (g h : List (List ℕ)) → slice_get gs a ≡ Some g → slice_get gs b ≡ Some h → (i : ℕ) → In i (order u g) → In i (order u h) → a ≡ b
  one_group u apart a b g h p q i m n =
      let x = order_reached u g i m in
      let y = order_reached u h i n in
      elim (cases_eq a b) [
        | inl e ↦ e
        | inr ne ↦ elim (cases_lt a b) [
          | inl l ↦ (
              let k = get_at gs a g g p in
              let r = get_at gs b h g q in
              absurd (apart a b g l r.0 x.0 y.0 (subst (λ z. Contains z x.0) (sym k.1) (in_contains g x.0 x.1)) (subst (λ z. Contains z y.0) (sym r.1) (in_contains h y.0 y.1)) (i, x.2, y.2))
              )
          | inr l ↦ (
              let k = get_at gs a g g p in
              let r = get_at gs b h g q in
              absurd (apart b a g (omega arith) k.0 y.0 x.0 (subst (λ z. Contains z y.0) (sym r.1) (in_contains h y.0 y.1)) (subst (λ z. Contains z x.0) (sym k.1) (in_contains g x.0 x.1)) (i, y.2, x.2))
              )
        ]
      ]

  same_group : (a b : ℕ) (g h : List (List ℕ)) → slice_get gs a ≡ Some g → slice_get gs b ≡ Some h → a ≡ b → h ≡ g
  same_group a b g h p q e = (let f : Some h ≡ Some g = sym q ∙ ap (slice_get gs) (sym e) ∙ p in cc)

  alike_more : (a : ℕ) (g : List (List ℕ)) → slice_get gs a ≡ Some g → (v w : Value) → Alike (AtOnePlace s t g) v w → Alike InOneGroup v w
  alike_more a g e (node i) (node j) h = (a, g, e, h)
  alike_more a g e (node i) w h = absurd h
  alike_more a g e v (node j) h = absurd h
  alike_more a g e v w h = h

  both_more : (a : ℕ) (g : List (List ℕ)) → slice_get gs a ≡ Some g → (o q : Option Value) → BothOrNone (Alike (AtOnePlace s t g)) o q → BothOrNone (Alike InOneGroup) o q
  both_more a g e None None h = tt
  both_more a g e (Some v) (Some w) h = alike_more a g e v w h
  both_more a g e None (Some w) h = absurd h
  both_more a g e (Some v) None h = absurd h

  zip_more : (a : ℕ) (g : List (List ℕ)) → slice_get gs a ≡ Some g → (vs ws : List Value) → AllZip (Alike (AtOnePlace s t g)) vs ws → AllZip (Alike InOneGroup) vs ws
  zip_more a g e [] [] h = tt
  zip_more a g e (v ∷ vs) (w ∷ ws) h = (alike_more a g e v w h.0, zip_more a g e vs ws h.1)
  zip_more a g e [] (w ∷ ws) h = absurd h
  zip_more a g e (v ∷ vs) [] h = absurd h

  glued_names : (x : List ℕ) → OfGroup x → BothOrNone (Alike InOneGroup) (find x s.names) (find x t.names)
  glued_names x h = both_more h.0 h.1 h.2 (find x s.names) (find x t.names) ((group_pairs h.0 h.1 h.2).names x h.3)

  glued_pairs : (N : List ℕ → Type 0) → ((x : List ℕ) → N x → BothOrNone (Alike InOneGroup) (find x s.names) (find x t.names)) → Pairs InOneGroup N s t
  glued_pairs N names = record {
    one_right = λ i j k g h.
        let e = one_group s here_apart g.0 h.0 g.1 h.1 g.2 h.2 i (in_at (order s g.1) g.3.0 i g.3.1) (in_at (order s h.1) h.3.0 i h.3.1) in
        let f = same_group g.0 h.0 g.1 h.1 g.2 h.2 e in
        (group_pairs g.0 g.1 g.2).one_right i j k g.3 (subst (λ z. AtOnePlace s t z i k) f h.3);
    one_left = λ i j k g h.
        let e = one_group t there_apart g.0 h.0 g.1 h.1 g.2 h.2 k (in_at (order t g.1) g.3.0 k g.3.2) (in_at (order t h.1) h.3.0 k h.3.2) in
        let f = same_group g.0 h.0 g.1 h.1 g.2 h.2 e in
        (group_pairs g.0 g.1 g.2).one_left i j k g.3 (subst (λ z. AtOnePlace s t z j k) f h.3);
    shows = λ i j h. (group_pairs h.0 h.1 h.2).shows i j h.3;
    leads_on = λ i j h. zip_more h.0 h.1 h.2 (children (node_at s.nodes i)) (children (node_at t.nodes j)) ((group_pairs h.0 h.1 h.2).leads_on i j h.3);
    names = names;
  }

  in_group : (x : List ℕ) (g : List (List ℕ)) → Contains gs g → Contains g x → OfGroup x
  in_group x g m h = let k = at_in gs g (contains_in gs g m) in (k.0, g, k.1, contains_in g x h)

  glued_all : Cuts s gs → Cuts t gs → (x : List ℕ) (o q : Option Value) → find x s.names ≡ o → find x t.names ≡ q → BothOrNone (Alike InOneGroup) o q
  glued_all c d x None None a b = tt
  glued_all c d x (Some v) q a b = (let k = c x v a in subst (λ o. BothOrNone (Alike InOneGroup) o q) a (subst (λ p. BothOrNone (Alike InOneGroup) (find x s.names) p) b (glued_names x (in_group x k.0 k.1 k.2))))
  glued_all c d x None (Some w) a b = (let k = d x w b in subst (λ o. BothOrNone (Alike InOneGroup) o (Some w)) a (subst (λ p. BothOrNone (Alike InOneGroup) (find x s.names) p) b (glued_names x (in_group x k.0 k.1 k.2))))

  -- States that groups cut, apart in both and with equal pictures, are the same.
  pub glued : Cuts s gs → Cuts t gs → Same s t
  glued c d = pairs_same InOneGroup (λ x. ⊤) s t (glued_pairs (λ x. ⊤) (λ x _. glued_all c d x (find x s.names) (find x t.names) refl refl))

-- ---- what isn't touched keeps its picture

module _ (s t : State) (sound : IsSound s) (other : IsSound t) (xs : List (List ℕ))
    (names : (x : List ℕ) → Contains xs x → find x s.names ≡ find x t.names)
    (nodes : (x : List ℕ) (i : ℕ) → Contains xs x → Reaches s x i → node_at s.nodes i ≡ node_at t.nodes i) where
  abbrev Itself : ℕ → ℕ → Type 0
  Itself i j = (i ≡ j) × In i (order s xs)

  alike_itself : (v : Value) → ((i : ℕ) → v ≡ node i → In i (order s xs)) → Alike Itself v v
  alike_itself (node i) h = (refl, h i refl)
  alike_itself v h = refl

  zip_itself : (vs : List Value) → ((i : ℕ) → In (node i) vs → In i (order s xs)) → AllZip (Alike Itself) vs vs
  zip_itself [] h = tt
  zip_itself (v ∷ vs) h = (alike_itself v (λ i e. h i (inl (sym e))), zip_itself vs (λ i m. h i (inr m)))

  both_itself : (o : Option Value) → ((i : ℕ) → o ≡ Some (node i) → In i (order s xs)) → BothOrNone (Alike Itself) o o
  both_itself None h = tt
  both_itself (Some v) h = alike_itself v (λ i e. h i (ap Some e))

  kept_node : (i j : ℕ) → Itself i j → node_at s.nodes i ≡ node_at t.nodes j
  kept_node i j h = let r = order_reached s xs i h.1 in nodes r.0 i (in_contains xs r.0 r.1) r.2 ∙ ap (node_at t.nodes) h.0

  kept_pairs : Pairs Itself (λ x. In x xs) s t
  kept_pairs = record {
    one_right = λ i j k g h. sym g.0 ∙ h.0;
    one_left = λ i j k g h. g.0 ∙ sym h.0;
    shows = λ i j h. ap bare (kept_node i j h);
    leads_on = λ i j h. subst (λ n. AllZip (Alike Itself) (children (node_at s.nodes i)) (children n)) (kept_node i j h) (zip_itself (children (node_at s.nodes i)) (λ a m. child_in s sound xs i a h.1 m));
    names = λ x m. subst (λ o. BothOrNone (Alike Itself) (find x s.names) o) (names x (in_contains xs x m)) (both_itself (find x s.names) (λ i e. root_in s sound xs x i m e));
  }

  -- Names with the same values, and the same nodes behind them, have the same picture.
  pub kept_picture : picture s xs ≡ picture t xs
  kept_picture = pairs_picture Itself s t xs kept_pairs sound other

-- ---- the same is the same

both_self : {A : Type 0} (R : A → A → Type 0) → ((a : A) → R a a) → (o : Option A) → BothOrNone R o o
both_self R h None = tt
both_self R h (Some a) = h a

both_turned : {A B : Type 0} (R : A → B → Type 0) (S : B → A → Type 0) → ((a : A) (b : B) → R a b → S b a) → (o : Option A) (q : Option B) → BothOrNone R o q → BothOrNone S q o
both_turned R S h None None r = tt
both_turned R S h (Some a) (Some b) r = h a b r
both_turned R S h None (Some b) r = absurd r
both_turned R S h (Some a) None r = absurd r

both_joined : {A B C : Type 0} (R : A → B → Type 0) (S : B → C → Type 0) (T : A → C → Type 0) → ((a : A) (b : B) (c : C) → R a b → S b c → T a c) → (o : Option A) (q : Option B) (r : Option C) → BothOrNone R o q → BothOrNone S q r → BothOrNone T o r
both_joined R S T h None None None x y = tt
both_joined R S T h (Some a) (Some b) (Some c) x y = h a b c x y
both_joined R S T h None (Some b) r x y = absurd x
both_joined R S T h (Some a) None r x y = absurd x
both_joined R S T h None None (Some c) x y = absurd y
both_joined R S T h (Some a) (Some b) None x y = absurd y

-- Each state is the same as itself.
pub same_self : (N : List ℕ → Type 0) (s : State) → SameWhere N s s
same_self N s = record { views = λ x p n. both_self _ (λ v. refl) (reached s x p); shared_there = λ x p y q n m h. h; shared_here = λ x p y q n m h. h }

-- Sameness goes the other way round.
pub same_turned : (N : List ℕ → Type 0) (s t : State) → SameWhere N s t → SameWhere N t s
same_turned N s t h = record { views = λ x p n. both_turned _ _ (λ v w e. sym e) (reached s x p) (reached t x p) (h.views x p n); shared_there = h.shared_here; shared_here = h.shared_there }

-- Sameness goes on.
pub same_joined : (N : List ℕ → Type 0) (s t u : State) → SameWhere N s t → SameWhere N t u → SameWhere N s u
same_joined N s t u g h = record {
  views = λ x p n. both_joined _ _ _ (λ v w z d e. d ∙ e) (reached s x p) (reached t x p) (reached u x p) (g.views x p n) (h.views x p n);
  shared_there = λ x p y q n m k. h.shared_there x p y q n m (g.shared_there x p y q n m k);
  shared_here = λ x p y q n m k. g.shared_here x p y q n m (h.shared_here x p y q n m k);
}
