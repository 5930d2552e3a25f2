-- Texts of values are equal on both sides.
use Rattle.std.specs.Prelude.{List, ℕ, ◌≡◌, codes, ◌==◌, ◌||◌, Bool, Option, zero, suc, slice_get, ◌∷◌, ◌-◌}
use Rattle.std.specs.List.{list_any}
use Rattle.std.specs.Str.{chars}
use Rattle.std.proofs.Common.{refl, ap, ◌∙◌}
use Rattle.kishu_language.specs.trees.Tree.{Text}
use Rattle.kishu_meaning.specs.comparing.Equal.{room_at}
use Rattle.kishu_meaning.specs.values.Classes.{key_error_class}
use Rattle.kishu_meaning.specs.comparing.Show.{◌⊕◌, further, listed, tuple_end, repr_by, entry_repr, made, key_text, attribute_repr, tuple_repr, contents_repr, class_name, show_by, again, repr_at, repr_nodes, repr_of, repr_in, argument_text, exception_text, show_at, show_nodes, show_in, show, show_all_in, show_all, show_thrown, thrown_in}
use Rattle.kishu_meaning.specs.moments.Counting.{Count}
use Rattle.kishu_meaning.specs.moments.Moment.{Moment, Thrown, most_depth}
use Rattle.kishu_meaning.specs.values.Keys.{Key}
use Rattle.kishu_meaning.specs.values.Values.{Value, node, Node}
use Rattle.kishu_pairing_laws.specs.World.{Zip, nil, cons, World, Paired, IsPlain, SameValue, plain, paired, SameEntry, SameValues, SameNode, lists, tuples, dicts, objects, functions, exceptions, BothOrNeither, neither, both, SameHeaps, GoQuietly, Is, SameMoment, SameThrown, both_fresh, both_thrown}
use Rattle.kishu_pairing_laws.specs.moments.Counting.{count_bind, counted_quiet, count_then, count_if}
use Rattle.kishu_pairing_laws.specs.comparing.Equal.{one_node}

plus_is : {a b c d : Count (List ℕ)} → a ≡ b → c ≡ d → (a ⊕ c) ≡ (b ⊕ d)
plus_is e h = count_bind e (λ front. count_bind h (λ back. refl))

module _ {A : Type 0} {R : A → A → Type 0} {f g : A → Count (List ℕ)} (fg : (a b : A) → R a b → f a ≡ g b) where
  further_is : {as' bs : List A} → Zip R as' bs → further f as' ≡ further g bs
  further_is nil = refl
  further_is (cons {a = a} {b = b} h z) = plus_is refl (plus_is (fg a b h) (further_is z))

  listed_is : {as' bs : List A} → Zip R as' bs → listed f as' ≡ listed g bs
  listed_is nil = refl
  listed_is (cons {a = a} {b = b} h z) = plus_is (fg a b h) (further_is z)

ends_is : {A : Type 0} {R : A → A → Type 0} {as' bs : List A} → Zip R as' bs → tuple_end as' ≡ tuple_end bs
ends_is nil = refl
ends_is (cons h nil) = refl
ends_is (cons h (cons k z)) = refl

module _ (W : World) where
  module _ {f g : ℕ → Count (List ℕ)} (fg : (i j : ℕ) → Paired W i j → f i ≡ g j) where
    repr_plain : (v : Value) → IsPlain v → repr_by f v ≡ repr_by g v
    repr_plain (node i) p = absurd p
    repr_plain v p = refl

    repr_is : {v w : Value} → SameValue W v w → repr_by f v ≡ repr_by g w
    repr_is (plain v p) = repr_plain v p
    repr_is (paired i j p) = fg i j p

    entry_is : (e e' : Key × Value) → SameEntry W e e' → entry_repr f e ≡ entry_repr g e'
    entry_is e e' h = plus_is (ap (λ k. made (key_text k)) h.0) (plus_is refl (repr_is h.1))

    attribute_is : (e e' : Text × Value) → SameEntry W e e' → attribute_repr f e ≡ attribute_repr g e'
    attribute_is e e' h = plus_is (ap (λ (k : List ℕ). made (chars k)) h.0) (plus_is refl (repr_is h.1))

    tuple_is : {vs ws : List Value} → SameValues W vs ws → tuple_repr f vs ≡ tuple_repr g ws
    tuple_is z = plus_is refl (plus_is (listed_is (λ a b ab. repr_is ab) z) (ap made (ends_is z)))

    contents_is : {a b : Node} → SameNode W a b → contents_repr f a ≡ contents_repr g b
    contents_is (lists z) = plus_is refl (plus_is (listed_is (λ a b ab. repr_is ab) z) refl)
    contents_is (tuples z) = tuple_is z
    contents_is (dicts z) = plus_is refl (plus_is (listed_is entry_is z) refl)
    contents_is (objects z) = plus_is refl (plus_is (listed_is attribute_is z) refl)
    contents_is (functions profile code z) = refl
    contents_is (exceptions kind z) = plus_is {a = made (class_name kind)} refl (plus_is {a = made (codes "(")} refl (plus_is {c = made (codes ")")} (listed_is (λ a b ab. repr_is ab) z) refl))

    show_plain : (v : Value) → IsPlain v → show_by f v ≡ show_by g v
    show_plain (node i) p = absurd p
    show_plain v p = refl

    show_is : {v w : Value} → SameValue W v w → show_by f v ≡ show_by g w
    show_is (plain v p) = show_plain v p
    show_is (paired i j p) = fg i j p

  again_is : {a b : Node} → SameNode W a b → again a ≡ again b
  again_is (lists z) = refl
  again_is (tuples z) = refl
  again_is (dicts z) = refl
  again_is (objects z) = refl
  again_is (functions profile code z) = refl
  again_is (exceptions kind z) = refl

  around_is : (i j : ℕ) → Paired W i j → {is js : List ℕ} → Zip (Paired W) is js → list_any (λ k. i == k) is ≡ list_any (λ k. j == k) js
  around_is i j p nil = refl
  around_is i j p (cons {a = k} {b = l} {as' = is} q z) = ap (λ b. b || list_any (λ m. i == m) is) (one_node W i j k l p q) ∙ ap (λ b. (j == l) || b) (around_is i j p z)

  repr_at_is : {f g : ℕ → Count (List ℕ)} → ((i j : ℕ) → Paired W i j → f i ≡ g j) → (b : Bool) {o p : Option Node} → BothOrNeither (SameNode W) o p → repr_at f b o ≡ repr_at g b p
  repr_at_is fg b neither = refl
  repr_at_is fg b (both h) = count_if b (ap made (again_is h)) (contents_is fg h)

  pub repr_nodes_is : {ns ms : List Node} → SameHeaps W ns ms → (room : ℕ) {is js : List ℕ} → Zip (Paired W) is js → (i j : ℕ) → Paired W i j → repr_nodes ns room is i ≡ repr_nodes ms room js j
  repr_nodes_is h zero z i j p = refl
  repr_nodes_is {ns = ns} {ms = ms} h (suc room) {is = is} {js = js} z i j p =
      ap (λ b. repr_at (repr_nodes ns room (i ∷ is)) b (slice_get ns i)) (around_is i j p z)
      ∙ repr_at_is (repr_nodes_is h room (cons p z)) (list_any (λ k. j == k) js) (h.closed i j p)

  pub repr_quiet : {v w : Value} → SameValue W v w → GoQuietly W Is (repr_of v) (repr_of w)
  repr_quiet {v = v} {w = w} vw = counted_quiet W _ _ (λ s t st. repr_is (repr_nodes_is st.heaps (room_at s.depth) nil) vw ∙ ap (λ d. repr_in t.nodes d w) st.depth)

  module _ {f g f' g' : ℕ → Count (List ℕ)} (fg : (i j : ℕ) → Paired W i j → f i ≡ g j) (fg' : (i j : ℕ) → Paired W i j → f' i ≡ g' j) where
    argument_is : (kind : ℕ) {v w : Value} → SameValue W v w → argument_text f f' kind v ≡ argument_text g g' kind w
    argument_is kind vw = count_if (kind == key_error_class) (repr_is fg vw) (show_is fg' vw)

    exception_is : (kind : ℕ) {vs ws : List Value} → SameValues W vs ws → exception_text f f' kind vs ≡ exception_text g g' kind ws
    exception_is kind nil = refl
    exception_is kind (cons vw nil) = count_then refl (argument_is kind vw)
    exception_is kind (cons vw (cons xy z)) = tuple_is fg (cons vw (cons xy z))

  show_at_is : {f g : ℕ → List Value → Count (List ℕ)} {c d : Count (List ℕ)} → ((kind : ℕ) (vs ws : List Value) → SameValues W vs ws → f kind vs ≡ g kind ws) → c ≡ d → {o p : Option Node} → BothOrNeither (SameNode W) o p → show_at f c o ≡ show_at g d p
  show_at_is fg e neither = e
  show_at_is fg e (both (lists z)) = e
  show_at_is fg e (both (tuples z)) = e
  show_at_is fg e (both (dicts z)) = e
  show_at_is fg e (both (objects z)) = e
  show_at_is fg e (both (functions profile code z)) = e
  show_at_is fg e (both (exceptions kind {vs = vs} {ws = ws} z)) = fg kind vs ws z

  pub show_nodes_is : {ns ms : List Node} → SameHeaps W ns ms → (room : ℕ) → (i j : ℕ) → Paired W i j → show_nodes ns room i ≡ show_nodes ms room j
  show_nodes_is h zero i j p = refl
  show_nodes_is h (suc room) i j p = show_at_is (λ kind vs ws z. exception_is (repr_nodes_is h room nil) (show_nodes_is h room) kind z) (repr_nodes_is h (suc room) nil i j p) (h.closed i j p)

  show_in_is : {s t : Moment} → SameMoment W s t → {v w : Value} → SameValue W v w → show_in s.nodes s.depth v ≡ show_in t.nodes t.depth w
  show_in_is {s = s} {t = t} st {w = w} vw = show_is (show_nodes_is st.heaps (room_at s.depth)) vw ∙ ap (λ d. show_in t.nodes d w) st.depth

  pub show_quiet : {v w : Value} → SameValue W v w → GoQuietly W Is (show v) (show w)
  show_quiet vw = counted_quiet W _ _ (λ s t st. show_in_is st vw)

  show_all_is : {s t : Moment} → SameMoment W s t → {vs ws : List Value} → SameValues W vs ws → show_all_in s.nodes s.depth vs ≡ show_all_in t.nodes t.depth ws
  show_all_is st nil = refl
  show_all_is st (cons vw z) = count_bind (show_in_is st vw) (λ first. count_bind (show_all_is st z) (λ following. refl))

  pub show_all_quiet : {vs ws : List Value} → SameValues W vs ws → GoQuietly W Is (show_all vs) (show_all ws)
  show_all_quiet z = counted_quiet W _ _ (λ s t st. show_all_is st z)

  pub show_thrown_quiet : {x y : Thrown} → SameThrown W x y → GoQuietly W Is (show_thrown x) (show_thrown y)
  show_thrown_quiet (both_fresh kind {ws = ws} z) = counted_quiet W _ _ (λ s t st. exception_is (repr_nodes_is st.heaps (most_depth - s.depth) nil) (show_nodes_is st.heaps (most_depth - s.depth)) kind z ∙ ap (λ d. thrown_in t.nodes d kind ws) st.depth)
  show_thrown_quiet (both_thrown i j p) = show_quiet (paired i j p)
