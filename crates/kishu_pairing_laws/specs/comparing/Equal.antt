-- Identity, equality and order are equal on both sides.
use Rattle.std.specs.Prelude.{◌≡◌, ℕ, ◌==◌, Option, ℤ, Bool, Some, true, if◌then◌else◌, List, length, false, zero, suc}
use Rattle.std.specs.Ordering.{int_eq, is_lt, int_cmp}
use Rattle.std.specs.Str.{bytes_eq}
use Rattle.std.proofs.Common.{refl, inl, subst, sym, arith, inr, ap, ◌∙◌}
use Rattle.std.proofs.lemmas.Bool.{cases_eq}
use Rattle.std.proofs.lemmas.Bool.Decides.{nat_tests}
use Rattle.kishu_meaning.specs.comparing.Equal.{number_in, is_same, pair_steps, numbers_in, is_like, by_both, same_numbers, is_equal, less_texts, less_plain, node_in, equal_by, pair_equal, items_equal, lists_equal, value_equal, entries_equal, maps_equal, contents_equal, equal_nodes, room_at, equal, pair_turned, less_by, items_less, contents_less, less_nodes, less, greater}
use Rattle.kishu_meaning.specs.moments.Counting.{Count, spend, give, ◌>>◌}
use Rattle.kishu_meaning.specs.moments.Moment.{Moment}
use Rattle.kishu_meaning.specs.values.Keys.{is_one}
use Rattle.kishu_meaning.specs.values.Nodes.{value_at}
use Rattle.kishu_meaning.specs.values.Values.{Value, node, none, bool, integer, text, range, builtin, class, Node}
use Rattle.kishu_pairing_laws.specs.World.{World, SameValue, plain, paired, Paired, IsPlain, BothOrNeither, neither, both, SameValues, nil, cons, SameEntries, SameNode, SameHeaps, SameMoment, GoQuietly, Is}
use Rattle.kishu_pairing_laws.specs.values.Lists.{zip_length, entry_at}
use Rattle.kishu_pairing_laws.specs.moments.Heap.{paired_right, paired_left}
use Rattle.kishu_pairing_laws.specs.values.Nodes.{in_list, in_tuple, in_dict, in_object}
use Rattle.kishu_pairing_laws.specs.moments.Counting.{by_both_is, count_then, count_if, count_bind, counted_quiet}

module _ (W : World) where
  -- ---- numbers

  pub number_same : {v w : Value} → SameValue W v w → number_in v ≡ number_in w
  number_same (plain v p) = refl
  number_same (paired i j p) = refl

module _ (W : World) where
  -- ---- plain values

  pub one_node : (i j k l : ℕ) → Paired W i j → Paired W k l → (i == k) ≡ (j == l)
  one_node i j k l p q = elim (cases_eq i k) [
    | inl e ↦ (let f : j ≡ l = paired_right W i j l p (subst (λ x. Paired W x l) (sym e) q) in grind (arith, nat_tests))
    | inr n ↦ (let m : j ≡ l → ⊥ = λ f. n (paired_left W i k j p (subst (λ x. Paired W k x) (sym f) q)) in grind (arith, nat_tests))
  ]

  same_left : (v : Value) (i j : ℕ) → IsPlain v → is_same v (node i) ≡ is_same v (node j)
  same_left (node k) i j p = absurd p
  same_left v i j p = refl

  same_right : (v : Value) (i j : ℕ) → IsPlain v → is_same (node i) v ≡ is_same (node j) v
  same_right (node k) i j p = absurd p
  same_right v i j p = refl

  pub same_is : {v w x y : Value} → SameValue W v w → SameValue W x y → is_same v x ≡ is_same w y
  same_is (plain v p) (plain x q) = refl
  same_is (plain v p) (paired i j q) = same_left v i j p
  same_is (paired i j p) (plain x q) = same_right x i j q
  same_is (paired i j p) (paired k l q) = one_node i j k l p q

  steps_left : (v : Value) (i j : ℕ) → pair_steps v (node i) ≡ pair_steps v (node j)
  steps_left none i j = refl
  steps_left (bool b) i j = refl
  steps_left (integer z) i j = refl
  steps_left (text cs) i j = refl
  steps_left (range a b c) i j = refl
  steps_left (builtin n) i j = refl
  steps_left (class n) i j = refl
  steps_left (node n) i j = refl

  pub steps_is : {v w x y : Value} → SameValue W v w → SameValue W x y → pair_steps v x ≡ pair_steps w y
  steps_is (plain v p) (plain x q) = refl
  steps_is (plain v p) (paired i j q) = steps_left v i j
  steps_is (paired i j p) (plain x q) = refl
  steps_is (paired i j p) (paired k l q) = refl

  ranges_is : {v w : Value} → SameValue W v w → numbers_in v ≡ numbers_in w
  ranges_is (plain v p) = refl
  ranges_is (paired i j p) = refl

  like_is : {v w x y : Value} → SameValue W v w → SameValue W x y → is_like v x ≡ is_like w y
  like_is {v = v} {w = w} {x = x} {y = y} vw xy = ap (λ o. by_both o (numbers_in x) same_numbers (is_same v x)) (ranges_is vw) ∙ ap (λ o. by_both (numbers_in w) o same_numbers (is_same v x)) (ranges_is xy) ∙ ap (by_both (numbers_in w) (numbers_in y) same_numbers) (same_is vw xy)

  pub equal_is : {v w x y : Value} → SameValue W v w → SameValue W x y → is_equal v x ≡ is_equal w y
  equal_is {v = v} {w = w} {x = x} {y = y} vw xy = ap (λ o. by_both o (number_in x) int_eq (is_like v x)) (number_same W vw) ∙ ap (λ o. by_both (number_in w) o int_eq (is_like v x)) (number_same W xy) ∙ ap (by_both (number_in w) (number_in y) int_eq) (like_is vw xy)

  texts_left : (v : Value) (i j : ℕ) → less_texts v (node i) ≡ less_texts v (node j)
  texts_left none i j = refl
  texts_left (bool b) i j = refl
  texts_left (integer z) i j = refl
  texts_left (text cs) i j = refl
  texts_left (range a b c) i j = refl
  texts_left (builtin n) i j = refl
  texts_left (class n) i j = refl
  texts_left (node n) i j = refl

  texts_less : {v w x y : Value} → SameValue W v w → SameValue W x y → less_texts v x ≡ less_texts w y
  texts_less (plain v p) (plain x q) = refl
  texts_less (plain v p) (paired i j q) = texts_left v i j
  texts_less (paired i j p) (plain x q) = refl
  texts_less (paired i j p) (paired k l q) = refl

  abbrev less_by_numbers : Option ℤ → Option ℤ → Option Bool → Option Bool
  less_by_numbers o p = by_both o p (λ x y. Some (is_lt (int_cmp x y)))

  plains_less : {v w x y : Value} → SameValue W v w → SameValue W x y → less_plain v x ≡ less_plain w y
  plains_less {v = v} {w = w} {x = x} {y = y} vw xy = ap (λ o. less_by_numbers o (number_in x) (less_texts v x)) (number_same W vw) ∙ ap (λ o. less_by_numbers (number_in w) o (less_texts v x)) (number_same W xy) ∙ ap (less_by_numbers (number_in w) (number_in y)) (texts_less vw xy)

  nodes_of : {v w : Value} → SameValue W v w → BothOrNeither (Paired W) (node_in v) (node_in w)
  nodes_of (plain none p) = neither
  nodes_of (plain (bool b) p) = neither
  nodes_of (plain (integer z) p) = neither
  nodes_of (plain (text cs) p) = neither
  nodes_of (plain (range a b c) p) = neither
  nodes_of (plain (builtin n) p) = neither
  nodes_of (plain (class n) p) = neither
  nodes_of (plain (node n) p) = absurd p
  nodes_of (paired i j p) = both p

  -- ---- equality

  abbrev Alike : {X : Type 0} → (ℕ → ℕ → X) → (ℕ → ℕ → X) → Type 0
  Alike f g = (i j k l : ℕ) → Paired W i j → Paired W k l → f i k ≡ g j l

  module _ {f g : ℕ → ℕ → Count Bool} (fg : Alike f g) where
    equal_by_is : {v w x y : Value} → SameValue W v w → SameValue W x y → equal_by f v x ≡ equal_by g w y
    equal_by_is vw xy = by_both_is (nodes_of vw) (nodes_of xy) fg (count_then (ap spend (steps_is vw xy)) (ap give (equal_is vw xy)))

    pub pair_is : {v w x y : Value} → SameValue W v w → SameValue W x y → pair_equal f v x ≡ pair_equal g w y
    pair_is {v = v} {w = w} {x = x} {y = y} vw xy = count_then refl (ap (λ b. if b then (spend (pair_steps v x) >> give true) else equal_by f v x) (same_is vw xy) ∙ count_if (is_same w y) (count_then (ap spend (steps_is vw xy)) refl) (equal_by_is vw xy))

    items_is : {vs ws xs ys : List Value} → SameValues W vs ws → SameValues W xs ys → items_equal f vs xs ≡ items_equal g ws ys
    items_is nil xy = refl
    items_is (cons vw z) nil = refl
    items_is (cons vw z) (cons xy z') = count_bind (pair_is vw xy) (λ b. count_if b (items_is z z') refl)

    lists_is : {vs ws xs ys : List Value} → SameValues W vs ws → SameValues W xs ys → lists_equal f vs xs ≡ lists_equal g ws ys
    lists_is {vs = vs} {ws = ws} {xs = xs} {ys = ys} z z' =
        ap (λ n. if n == length xs then items_equal f vs xs else give false) (zip_length z) ∙ ap (λ n. if length ws == n then items_equal f vs xs else give false) (zip_length z') ∙ count_if (length ws == length ys) (items_is z z') refl

    value_is : {v w : Value} {o p : Option Value} → SameValue W v w → BothOrNeither (SameValue W) o p → value_equal f v o ≡ value_equal g w p
    value_is vw neither = refl
    value_is vw (both xy) = pair_is vw xy

    module _ {K : Type 0} (is_key : K → K → Bool) where
      entries_is : {es fs gs hs : List (K × Value)} → SameEntries W es fs → SameEntries W gs hs → entries_equal f is_key es gs ≡ entries_equal g is_key fs hs
      entries_is nil z' = refl
      entries_is {gs = gs} {hs = hs} (cons {a = e} {b = e'} h z) z' =
          count_bind (value_is h.1 (entry_at W is_key e.0 z') ∙ ap (λ k. value_equal g e'.1 (value_at is_key k hs)) h.0) (λ b. count_if b (entries_is z z') refl)

      maps_is : {es fs gs hs : List (K × Value)} → SameEntries W es fs → SameEntries W gs hs → maps_equal f is_key es gs ≡ maps_equal g is_key fs hs
      maps_is {es = es} {fs = fs} {gs = gs} {hs = hs} z z' =
          ap (λ n. if n == length gs then entries_equal f is_key es gs else give false) (zip_length z) ∙ ap (λ n. if length fs == n then entries_equal f is_key es gs else give false) (zip_length z') ∙ count_if (length fs == length hs) (entries_is z z') refl

    contents_is : (i j k l : ℕ) → Paired W i j → Paired W k l → {a b c d : Node} → SameNode W a b → SameNode W c d → contents_equal f i k a c ≡ contents_equal g j l b d
    contents_is i j k l p q ab cd =
        by_both_is (in_list W ab) (in_list W cd) (λ x y x' y' h h'. lists_is h h')
        (by_both_is (in_tuple W ab) (in_tuple W cd) (λ x y x' y' h h'. lists_is h h')
        (by_both_is (in_dict W ab) (in_dict W cd) (λ x y x' y' h h'. maps_is is_one h h')
        (by_both_is (in_object W ab) (in_object W cd) (λ x y x' y' h h'. maps_is bytes_eq h h')
        (ap give (one_node i j k l p q)))))

  pub equal_nodes_is : {ns ms : List Node} → SameHeaps W ns ms → (room : ℕ) → Alike (equal_nodes ns room) (equal_nodes ms room)
  equal_nodes_is h zero i j k l p q = refl
  equal_nodes_is h (suc room) i j k l p q = by_both_is (h.closed i j p) (h.closed k l q) (λ a b c d ab cd. contents_is (equal_nodes_is h room) i j k l p q ab cd) (ap give (one_node i j k l p q))

  -- with the room of a moment
  pub rooms : {s t : Moment} → SameMoment W s t → Alike (equal_nodes s.nodes (room_at s.depth)) (equal_nodes t.nodes (room_at t.depth))
  rooms {s = s} {t = t} st i j k l p q = equal_nodes_is st.heaps (room_at s.depth) i j k l p q ∙ ap (λ d. equal_nodes t.nodes (room_at d) j l) st.depth

  pub equal_quiet : {v w x y : Value} → SameValue W v w → SameValue W x y → GoQuietly W Is (equal v x) (equal w y)
  equal_quiet vw xy = counted_quiet W _ _ (λ s t st. equal_by_is (rooms st) vw xy)

  -- ---- order

  turned_is : (turned : Bool) {f g : ℕ → ℕ → Count Bool} → Alike f g → (v w x y : Value) → SameValue W v w → SameValue W x y → pair_turned turned f v x ≡ pair_turned turned g w y
  turned_is true fg v w x y vw xy = pair_is fg xy vw
  turned_is false fg v w x y vw xy = pair_is fg vw xy

  less_by_is : {f g : ℕ → ℕ → Count (Option Bool)} → Alike f g → {v w x y : Value} → SameValue W v w → SameValue W x y → less_by f v x ≡ less_by g w y
  less_by_is fg vw xy = by_both_is (nodes_of vw) (nodes_of xy) fg (count_then (ap spend (steps_is vw xy)) (ap give (plains_less vw xy)))

  module _ {p q : Value → Value → Count Bool} (pq : (v w x y : Value) → SameValue W v w → SameValue W x y → p v x ≡ q w y) {f g : ℕ → ℕ → Count (Option Bool)} (fg : Alike f g) where
    items_less_is : {vs ws xs ys : List Value} → SameValues W vs ws → SameValues W xs ys → items_less p f vs xs ≡ items_less q g ws ys
    items_less_is nil nil = refl
    items_less_is nil (cons xy z') = refl
    items_less_is (cons vw z) nil = refl
    items_less_is (cons {a = v} {b = w} vw z) (cons {a = x} {b = y} xy z') = count_bind (pq v w x y vw xy) (λ b. count_if b (items_less_is z z') (less_by_is fg vw xy))

    contents_less_is : {a b c d : Node} → SameNode W a b → SameNode W c d → contents_less p f a c ≡ contents_less q g b d
    contents_less_is ab cd = by_both_is (in_list W ab) (in_list W cd) (λ x y x' y' h h'. items_less_is h h') (by_both_is (in_tuple W ab) (in_tuple W cd) (λ x y x' y' h h'. items_less_is h h') refl)

  less_nodes_is : (turned : Bool) {ns ms : List Node} → SameHeaps W ns ms → (room : ℕ) → Alike (less_nodes turned ns room) (less_nodes turned ms room)
  less_nodes_is turned h zero i j k l p q = refl
  less_nodes_is turned h (suc room) i j k l p q = by_both_is (h.closed i j p) (h.closed k l q) (λ a b c d ab cd. contents_less_is (turned_is turned (equal_nodes_is h room)) (less_nodes_is turned h room) ab cd) refl

  -- with the room of a moment
  rooms_less : (turned : Bool) {s t : Moment} → SameMoment W s t → Alike (less_nodes turned s.nodes (room_at s.depth)) (less_nodes turned t.nodes (room_at t.depth))
  rooms_less turned {s = s} {t = t} st i j k l p q = less_nodes_is turned st.heaps (room_at s.depth) i j k l p q ∙ ap (λ d. less_nodes turned t.nodes (room_at d) j l) st.depth

  pub less_quiet : {v w x y : Value} → SameValue W v w → SameValue W x y → GoQuietly W Is (less v x) (less w y)
  less_quiet vw xy = counted_quiet W _ _ (λ s t st. less_by_is (rooms_less false st) vw xy)

  pub greater_quiet : {v w x y : Value} → SameValue W v w → SameValue W x y → GoQuietly W Is (greater v x) (greater w y)
  greater_quiet vw xy = counted_quiet W _ _ (λ s t st. less_by_is (rooms_less true st) xy vw)
