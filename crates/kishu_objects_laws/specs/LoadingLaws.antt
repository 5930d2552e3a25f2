-- What is loaded is the same there on its names, and other names stay.
use Rattle.std.specs.Prelude.{◌≡◌, ℕ, zero, suc, ◌+◌, ◌<◌, List, [], ◌∷◌, ◌++◌, map, length, Option, Some, None, option_map, Contains}
use Rattle.std.specs.List.{AllZip}
use Rattle.std.specs.List.Sorted.{IsStrictlySortedBy}
use Rattle.std.specs.Ordering.{nat_cmp}
use Rattle.std.specs.declared.cmp.Ordering.TheVariants.{Less}
use Rattle.std.specs.Cmp.Lexicographic.{slice_cmp}
use Rattle.std.proofs.Common.{refl, ap, sym, ◌∙◌, subst, arith, inl, inr, length-append}
use Rattle.std.proofs.lemmas.List.{length-map}
use Rattle.kishu_meaning.specs.values.Values.{Value, none, node, Node, Names, State, find, bind}
use Rattle.kishu_objects.specs.Lists.{In, Rise}
use Rattle.kishu_objects.specs.Shape.{children, each_child, node_at}
use Rattle.kishu_objects.specs.Same.{SameOn, BothOrNone}
use Rattle.kishu_objects.specs.Picture.{renumbered, named, listed, picture, place, order}
use Rattle.kishu_objects.specs.Sound.{IsSound}
use Rattle.kishu_objects.specs.Loading.{bind_all, with_picture}
use Rattle.kishu_objects_laws.specs.ListLaws.{contains_in, in_contains}
use Rattle.kishu_objects_laws.specs.NameLaws.{same_text, below_in, not_both, find_bind, find_bind_other}
use Rattle.kishu_objects.specs.Pairings.{Alike, bare, Pairs}
use Rattle.kishu_objects_laws.specs.ShapeLaws.{each-each, children-each}
use Rattle.kishu_objects_laws.specs.OrderLaws.{numbers_in}
use Rattle.kishu_objects_laws.specs.PairingLaws.{pairs_same}
use Rattle.kishu_objects_laws.specs.SameLaws.{pairs_fewer, same_joined}
use Rattle.kishu_objects_laws.specs.WholeLaws.{keys_of}
use Rattle.kishu_objects_laws.specs.OwnPictureLaws.{picture_sound, picture_like}

-- ---- names that are bound one after another

abbrev keys : Names → List (List ℕ)
keys ns = map (λ (b : List ℕ × Value). b.0) ns

module _ (f : ℕ → ℕ) where
  others_stay : (x : List ℕ) (bs ns : Names) → (In x (keys bs) → ⊥) → find x (bind_all (map (named f) bs) ns) ≡ find x ns
  others_stay x [] ns n = refl
  others_stay x (b ∷ bs) ns n = others_stay x bs (bind b.0 (renumbered f b.1) ns) (λ h. n (inr h)) ∙ find_bind_other x b.0 (renumbered f b.1) ns (λ e. n (inl e))

  are_bound : (x : List ℕ) (bs ns : Names) → Rise (keys bs) → In x (keys bs) → find x (bind_all (map (named f) bs) ns) ≡ option_map (renumbered f) (find x bs)
  unfolding IsStrictlySortedBy
  are_bound x [] ns r m = absurd m
  are_bound x (b ∷ bs) ns r m = elim (same_text x b.0) [
    | inl e ↦ (
        let new : In x (keys bs) → ⊥ = λ h. let l : slice_cmp nat_cmp b.0 b.0 ≡ Less = subst (λ z. slice_cmp nat_cmp b.0 z ≡ Less) e.0 (below_in x b.0 (keys bs) r.0 h) in not_both b.0 b.0 l l in
        rw e.1 (others_stay x bs (bind b.0 (renumbered f b.1) ns) new ∙ ap (λ z. find x (bind z (renumbered f b.1) ns)) (sym e.0) ∙ find_bind x (renumbered f b.1) ns)
        )
    | inr n ↦ rw n.1 (are_bound x bs (bind b.0 (renumbered f b.1) ns) r.1 (elim m [ inl e ↦ absurd (n.0 e) | inr h ↦ h ]))
  ]

-- ---- nodes behind nodes

node_behind : (us : List Node) (g : Node → Node) (ms : List Node) (i : ℕ) → i < length ms → node_at (us ++ map g ms) (length us + i) ≡ g (node_at ms i)
node_behind [] g [] i l = absurd (omega arith)
node_behind [] g (m ∷ ms) zero l = refl
node_behind [] g (m ∷ ms) (suc i) l = (let e : 0 + suc i ≡ suc (0 + i) = omega arith in ap (node_at (map g (m ∷ ms))) e ∙ node_behind [] g ms i (omega arith))
node_behind (u ∷ us) g ms i l = (let e : suc (length us) + i ≡ suc (length us + i) = omega arith in ap (node_at (u ∷ (us ++ map g ms))) e ∙ node_behind us g ms i l)

node_before : (us ms : List Node) (i : ℕ) → i < length us → node_at (us ++ ms) i ≡ node_at us i
node_before [] ms i l = absurd (omega arith)
node_before (u ∷ us) ms zero l = refl
node_before (u ∷ us) ms (suc i) l = node_before us ms i (omega arith)

-- the nodes that were there stay, and those of the picture are there besides
pub nodes_stay : (s p : State) (i : ℕ) → i < length s.nodes → node_at (with_picture s p).nodes i ≡ node_at s.nodes i
nodes_stay s p i l = node_before s.nodes (map (each_child (renumbered (λ j. length s.nodes + j))) p.nodes) i l

pub nodes_more : (s p : State) → length (with_picture s p).nodes ≡ length s.nodes + length p.nodes
nodes_more s p = length-append s.nodes (map (each_child (renumbered (λ j. length s.nodes + j))) p.nodes) ∙ ap (λ n. length s.nodes + n) (length-map p.nodes (each_child (renumbered (λ j. length s.nodes + j))))

module _ (s p : State) (sound : IsSound p) (rise : Rise (listed p)) where
  abbrev shift : ℕ → ℕ
  shift i = length s.nodes + i

  -- the one is a node of the picture, and the other that node among the state's
  abbrev IsMoved : ℕ → ℕ → Type 0
  IsMoved i j = (i < length p.nodes) × (j ≡ shift i)

  moved_value : (v : Value) → ((i : ℕ) → v ≡ node i → i < length p.nodes) → Alike IsMoved v (renumbered shift v)
  moved_value (node i) h = (h i refl, refl)
  moved_value v h = refl

  moved_all : (vs : List Value) → ((i : ℕ) → In (node i) vs → i < length p.nodes) → AllZip (Alike IsMoved) vs (map (renumbered shift) vs)
  moved_all [] h = tt
  moved_all (v ∷ vs) h = (moved_value v (λ i e. h i (inl (sym e))), moved_all vs (λ i m. h i (inr m)))

  moved_found : (o : Option Value) → ((i : ℕ) → o ≡ Some (node i) → i < length p.nodes) → BothOrNone (Alike IsMoved) o (option_map (renumbered shift) o)
  moved_found None h = tt
  moved_found (Some v) h = moved_value v (λ i e. h i (ap Some e))

  moved_node : (i j : ℕ) → IsMoved i j → node_at (with_picture s p).nodes j ≡ each_child (renumbered shift) (node_at p.nodes i)
  moved_node i j h = ap (node_at (with_picture s p).nodes) h.1 ∙ node_behind s.nodes (each_child (renumbered shift)) p.nodes i h.0

  moved_pairs : Pairs IsMoved (λ x. In x (listed p)) p (with_picture s p)
  moved_pairs = record {
    one_right = λ i j k g h. g.1 ∙ sym h.1;
    one_left = λ i j k g h. (let e = g.1 in let f = h.1 in omega (arith, e, f));
    shows = λ i j h. sym (ap bare (moved_node i j h) ∙ each-each (λ v. none) (renumbered shift) (node_at p.nodes i));
    leads_on = λ i j h.
        subst (λ ws. AllZip (Alike IsMoved) (children (node_at p.nodes i)) ws) (sym (ap children (moved_node i j h) ∙ children-each (renumbered shift) (node_at p.nodes i)))
        (moved_all (children (node_at p.nodes i)) (λ a m. sound.nodes i a (numbers_in (children (node_at p.nodes i)) a m)));
    names = λ x m.
        subst (λ o. BothOrNone (Alike IsMoved) (find x p.names) o) (sym (are_bound shift x p.names s.names rise m))
        (moved_found (find x p.names) (λ i e. sound.names x i e));
  }

  -- On the picture's names the state is then the same as the picture, and other names stay.
  pub loaded_same : SameOn p (with_picture s p) (listed p)
  loaded_same = pairs_same IsMoved (λ x. Contains (listed p) x) p (with_picture s p) (pairs_fewer IsMoved (λ x. Contains (listed p) x) (λ x. In x (listed p)) p (with_picture s p) (contains_in (listed p)) moved_pairs)

  -- Names that the picture lacks have what they had.
  pub loaded_others : (x : List ℕ) → (Contains (listed p) x → ⊥) → find x (with_picture s p).names ≡ find x s.names
  loaded_others x n = others_stay shift x p.names s.names (λ h. n (in_contains (listed p) x h))

-- What was pictured elsewhere and is loaded is the same there.
pub pictured_same : (s t : State) → IsSound t → (names : List (List ℕ)) → Rise names → ((x : List ℕ) → Contains names x → (v : Value) × (find x t.names ≡ Some v)) → SameOn t (with_picture s (picture t names)) names
pictured_same s t sound names rise there =
    let e : listed (picture t names) ≡ names = keys_of t (place (order t names)) names (λ x m. there x (in_contains names x m)) in
    let same = loaded_same s (picture t names) (picture_sound t sound names) (subst (λ xs. Rise xs) (sym e) rise) in
    same_joined (λ x. Contains names x) t (picture t names) (with_picture s (picture t names)) (picture_like t sound names) (subst (λ xs. SameOn (picture t names) (with_picture s (picture t names)) xs) e same)
