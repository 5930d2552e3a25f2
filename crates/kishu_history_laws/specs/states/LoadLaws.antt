-- A picture that is loaded beside a live state: what stood stands, and the new nodes are apart.
use Rattle.std.specs.Prelude.{◌≡◌, ℕ, zero, suc, ◌+◌, ◌-◌, ◌<◌, ◌≤◌, ◌⊎◌, List, [], ◌∷◌, ◌++◌, map, length, slice_get, Option, Some, None, option_and_then}
use Rattle.std.proofs.Common.{refl, ap, sym, ◌∙◌, subst, arith, inl, inr, length-append}
use Rattle.std.proofs.lemmas.Bool.{cases_lt}
use Rattle.std.proofs.lemmas.List.{length-map}
use Rattle.kishu_meaning.specs.values.Values.{Value, node, Node, State, find}
use Rattle.kishu_objects.specs.Shape.{children, each_child, node_at, child, reached}
use Rattle.kishu_objects.specs.Same.{view, BothOrNone}
use Rattle.kishu_objects.specs.Picture.{numbers, leads, renumbered, picture, listed, whole}
use Rattle.kishu_objects.specs.Groups.{Touch}
use Rattle.kishu_objects.specs.Lists.{In, Rise}
use Rattle.kishu_objects_laws.specs.ListLaws.{in_at, contains_in, in_contains, map_in}
use Rattle.kishu_objects.specs.Loading.{with_picture}
use Rattle.kishu_objects_laws.specs.LoadingLaws.{loaded_same, loaded_others}
use Rattle.kishu_objects.specs.Sound.{IsSound}
use Rattle.kishu_objects_laws.specs.OrderLaws.{step_from, numbers_in, in_numbers}
use Rattle.kishu_objects_laws.specs.ShapeLaws.{children-each}
use Rattle.kishu_objects_laws.specs.SameLaws.{kept_picture, same_picture}
use Rattle.kishu_objects_laws.specs.NameLaws.{found_listed, listed_found}
use Rattle.kishu_objects.specs.States.{IsSoundState}
use Rattle.kishu_history.specs.Tables.{Row, Table}
use Rattle.kishu_history.specs.Live.{IsLive, IsPictureOf}
use Rattle.kishu_history_laws.specs.cells.InsideLaws.{reach_below}
use Rattle.kishu_history_laws.specs.states.NameLaws.{rise_bind_all, found_bound, in_find}

-- ---- nodes behind nodes

pub node_front : (us ms : List Node) (i : ℕ) → i < length us → node_at (us ++ ms) i ≡ node_at us i
node_front [] ms i l = absurd (omega arith)
node_front (u ∷ us) ms zero l = refl
node_front (u ∷ us) ms (suc i) l = node_front us ms i (omega arith)

node_back : (us ms : List Node) (i : ℕ) → node_at (us ++ ms) (length us + i) ≡ node_at ms i
node_back [] ms i = (let e : 0 + i ≡ i = omega arith in ap (node_at ms) e)
node_back (u ∷ us) ms i = (let e : suc (length us) + i ≡ suc (length us + i) = omega arith in ap (node_at (u ∷ (us ++ ms))) e ∙ node_back us ms i)

node_map : (f : Value → Value) (ms : List Node) (i : ℕ) → node_at (map (each_child f) ms) i ≡ each_child f (node_at ms i)
node_map f [] i = refl
node_map f (m ∷ ms) zero = refl
node_map f (m ∷ ms) (suc i) = node_map f ms i

moved_number : (f : ℕ → ℕ) (v : Value) (a : ℕ) → node a ≡ renumbered f v → (b : ℕ) × (v ≡ node b) × (a ≡ f b)
moved_number f (node b) a e = (b, refl, cc)
moved_number f v a e = absurd (cc)

moved_lead : (f : ℕ → ℕ) (n : Node) (a : ℕ) → In a (numbers (children (each_child (renumbered f) n))) → (b : ℕ) × In b (numbers (children n)) × (a ≡ f b)
moved_lead f n a m =
    let k = in_numbers (children (each_child (renumbered f) n)) a m in
    let r = map_in (renumbered f) (children n) (node a) (subst (λ vs. In (node a) vs) (children-each (renumbered f) n) k) in
    let q = moved_number f r.0 a r.2 in
    (q.0, numbers_in (children n) q.0 (subst (λ v. In v (children n)) q.1 r.1), q.2)

module _ (s p : State) (here : IsSoundState s) (sound : IsSound p) (rise : Rise (listed p)) where
  abbrev shift : ℕ → ℕ
  shift i = length s.nodes + i

  abbrev wp : State
  wp = with_picture s p

  long : length wp.nodes ≡ length s.nodes + length p.nodes
  long = length-append s.nodes (map (each_child (renumbered shift)) p.nodes) ∙ ap (λ n. length s.nodes + n) (length-map p.nodes (each_child (renumbered shift)))

  pub old_node : (i : ℕ) → i < length s.nodes → node_at s.nodes i ≡ node_at wp.nodes i
  old_node i l = sym (node_front s.nodes (map (each_child (renumbered shift)) p.nodes) i l)

  new_node : (i : ℕ) → node_at wp.nodes (length s.nodes + i) ≡ each_child (renumbered shift) (node_at p.nodes i)
  new_node i = node_back s.nodes (map (each_child (renumbered shift)) p.nodes) i ∙ node_map (renumbered shift) p.nodes i

  -- a new node leads to new nodes
  new_lead : (i a : ℕ) → length s.nodes ≤ i → In a (leads wp.nodes i) → (length s.nodes ≤ a) × (a < length wp.nodes)
  new_lead i a l m =
      let e : i ≡ length s.nodes + (i - length s.nodes) = omega arith in
      let k = moved_lead shift (node_at p.nodes (i - length s.nodes)) a (subst (λ n. In a (numbers (children n))) (ap (node_at wp.nodes) e ∙ new_node (i - length s.nodes)) m) in
      let b = sound.nodes (i - length s.nodes) k.0 k.1 in
      let f = k.2 in
      let g = long in
      (omega (arith, f), omega (arith, f, g, b))

  -- what stands under a name was bound by the picture, and is new, or stood there
  name_cases : (x : List ℕ) (i : ℕ) → find x wp.names ≡ Some (node i) → ((length s.nodes ≤ i) × (i < length wp.nodes)) ⊎ (find x s.names ≡ Some (node i))
  name_cases x i e = elim (found_bound shift p.names s.names x (node i) e) [
    | inl k ↦ (
        let q = moved_number shift k.0.1 i k.3 in
        let b = sound.names k.0.0 q.0 (in_find p.names k.0 rise k.1 ∙ ap Some q.1) in
        let f = q.2 in
        let g = long in
        inl (omega (arith, f), omega (arith, f, g, b))
        )
    | inr h ↦ inr h
  ]

  pub loaded_state : IsSoundState wp
  loaded_state = record {
    sound = record {
      names = λ x i e. elim (name_cases x i e) [ inl k ↦ k.1 | inr h ↦ (let b = here.sound.names x i h in let g = long in omega (arith, b, g)) ];
      nodes = λ i a m. elim (cases_lt i (length s.nodes)) [
        | inl l ↦ (let b = here.sound.nodes i a (subst (λ n. In a (numbers (children n))) (sym (old_node i l)) m) in let g = long in omega (arith, b, g))
        | inr l ↦ (new_lead i a (omega arith) m).1
      ];
    };
    rise = rise_bind_all (map _ p.names) s.names here.rise;
  }

  -- a name that the picture doesn't bind reaches what it reached
  pub old_path : (x q : List ℕ) → (In x (listed p) → ⊥) → reached s x q ≡ reached wp x q
  old_path x [] n = sym (loaded_others s p sound rise x (λ c. n (contains_in (listed p) x c)))
  old_path x (c ∷ q) n = old_child c (reached s x q) (λ i e. old_node i (reach_below s here.sound x q i e)) ∙ ap (option_and_then (child wp.nodes c)) (old_path x q n)
    where
      old_child : (c : ℕ) (o : Option Value) → ((i : ℕ) → o ≡ Some (node i) → node_at s.nodes i ≡ node_at wp.nodes i) → option_and_then (child s.nodes c) o ≡ option_and_then (child wp.nodes c) o
      old_child c None h = refl
      old_child c (Some (node i)) h = ap (λ n. slice_get (children n) c) (h i refl)
      old_child c (Some v) h = refl

  -- a name that wasn't bound reaches new nodes alone
  pub new_path : (x q : List ℕ) (i : ℕ) → (In x (listed s) → ⊥) → reached wp x q ≡ Some (node i) → length s.nodes ≤ i
  new_path x [] i n e = elim (name_cases x i e) [ inl k ↦ k.0 | inr h ↦ absurd (n (found_listed s.names x (node i) h)) ]
  new_path x (c ∷ q) i n e =
      let k = step_from wp c i (reached wp x q) e in
      (new_lead k.0 i (new_path x q k.0 n k.1) (numbers_in (children (node_at wp.nodes k.0)) i (in_at (children (node_at wp.nodes k.0)) c (node i) k.2))).0

  -- old names keep their pictures
  pub old_picture : (g : List (List ℕ)) → ((x : List ℕ) → In x g → In x (listed p) → ⊥) → picture s g ≡ picture wp g
  old_picture g n = kept_picture s wp here.sound loaded_state.sound g
      (λ x m. sym (loaded_others s p sound rise x (λ c. n x (contains_in g x m) (contains_in (listed p) x c))))
      (λ x i m r. old_node i (reach_below s here.sound x r.0 i r.1))

  -- the picture's names have it
  pub new_picture : whole p ≡ p → picture wp (listed p) ≡ p
  new_picture e = sym (same_picture p wp sound loaded_state.sound (listed p) (loaded_same s p sound rise)) ∙ e

  listed_cases : (x : List ℕ) → In x (listed wp) → In x (listed p) ⊎ In x (listed s)
  listed_cases x m =
      let k = listed_found wp.names x m in
      elim (found_bound shift p.names s.names x k.0 k.1) [
        | inl b ↦ inl (found_listed p.names x b.0.1 (ap (λ z. find z p.names) b.2 ∙ in_find p.names b.0 rise b.1))
        | inr h ↦ inr (found_listed s.names x k.0 h)
      ]

both_some : (R : Value → Value → Type 0) (o q : Option Value) (v : Value) → o ≡ Some v → BothOrNone R o q → (w : Value) × (q ≡ Some w)
both_some R (Some u) (Some w) v e h = (w, refl)
both_some R (Some u) None v e h = absurd h
both_some R None q v e h = absurd (cc)

-- ---- one row more

module _ (at : Row → State → Type 0) (t : Table) (s : State) (live : IsLive at t s) (r : Row) (p : State) (of : IsPictureOf at r p)
    (new : (q : Row) (x : List ℕ) → In q t → In x r.group → In x q.group → ⊥) where
  abbrev after_load : State
  after_load = with_picture s p

  not_bound : (x : List ℕ) → In x r.group → In x (listed s) → ⊥
  not_bound x m n = let k = (live.bound x).0 n in new k.0 x k.1 m k.2

  not_new : (q : Row) (x : List ℕ) → In q t → In x q.group → In x (listed p) → ⊥
  not_new q x m n h = new q x m (subst (λ g. In x g) of.names h) n

  of_new : (x : List ℕ) → In x r.group → In x (listed after_load)
  of_new x m =
      let k = listed_found p.names x (subst (λ g. In x g) (sym of.names) m) in
      let e = both_some (λ v w. view p.nodes v ≡ view after_load.nodes w) (find x p.names) (find x after_load.names) k.0 k.1 ((loaded_same s p of.sound of.rise).views x [] (in_contains (listed p) x (subst (λ g. In x g) (sym of.names) m))) in
      found_listed after_load.names x e.0 e.1

  of_old : (q : Row) (x : List ℕ) → In q t → In x q.group → In x (listed after_load)
  of_old q x m n =
      let k = listed_found s.names x ((live.bound x).1 (q, m, n)) in
      found_listed after_load.names x k.0 (loaded_others s p of.sound of.rise x (λ c. not_new q x m n (contains_in (listed p) x c)) ∙ k.1)

  apart_mixed : (q : Row) (x y : List ℕ) → In q t → In x r.group → In y q.group → Touch after_load x y → ⊥
  apart_mixed q x y m a b touch =
      let l = new_path s p live.state of.sound of.rise x touch.1.0 touch.0 (not_bound x a) touch.1.1 in
      let e = old_path s p live.state of.sound of.rise y touch.2.0 (not_new q y m b) ∙ touch.2.1 in
      let k = reach_below s live.state.sound y touch.2.0 touch.0 e in
      omega (arith, l, k)

  old_touch : (x y : List ℕ) → (In x (listed p) → ⊥) → (In y (listed p) → ⊥) → Touch after_load x y → Touch s x y
  old_touch x y m n touch = (
    touch.0,
    (touch.1.0, old_path s p live.state of.sound of.rise x touch.1.0 m ∙ touch.1.1),
    (touch.2.0, old_path s p live.state of.sound of.rise y touch.2.0 n ∙ touch.2.1),
  )

  pub load_one : IsLive at (r ∷ t) (with_picture s p)
  load_one = record {
    state = loaded_state s p live.state of.sound of.rise;
    bound = λ x. (
      λ m. elim (listed_cases s p live.state of.sound of.rise x m) [
        | inl h ↦ (r, inl refl, subst (λ g. In x g) of.names h)
        | inr h ↦ (let k = (live.bound x).0 h in (k.0, inr k.1, k.2))
      ],
      λ k. elim k.1 [
        | inl e ↦ of_new x (subst (λ q. In x q.group) e k.2)
        | inr m ↦ of_old k.0 x m k.2
      ],
    );
    apart = λ q w x y m n a b touch. elim m [
      | inl e ↦ elim n [
        | inl f ↦ e ∙ sym f
        | inr f ↦ absurd (apart_mixed w x y f (subst (λ z. In x z.group) e a) b touch)
      ]
      | inr e ↦ elim n [
        | inl f ↦ absurd (apart_mixed q y x e (subst (λ z. In y z.group) f b) a (touch.0, touch.2, touch.1))
        | inr f ↦ live.apart q w x y e f a b (old_touch x y (not_new q x e a) (not_new w y f b) touch)
      ]
    ];
    pictures = λ q m. elim m [
      | inl e ↦ subst (λ z. at z (picture after_load z.group)) (sym e) (subst (λ g. at r (picture after_load g)) of.names (subst (λ z. at r z) (sym (new_picture s p live.state of.sound of.rise of.own)) of.stored))
      | inr h ↦ subst (λ z. at q z) (old_picture s p live.state of.sound of.rise q.group (λ x n k. not_new q x h n k)) (live.pictures q h)
    ];
  }
