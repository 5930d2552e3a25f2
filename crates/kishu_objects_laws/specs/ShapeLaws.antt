-- Children of nodes and of nodes with other children.
use Rattle.std.specs.Prelude.{◌≡◌, ℕ, List, [], ◌∷◌, map, length}
use Rattle.std.specs.List.{AllZip}
use Rattle.std.proofs.Common.{refl, ap, sym, ◌∙◌}
use Rattle.std.proofs.lemmas.List.{length-map}
use Rattle.kishu_meaning.specs.values.Values.{Value, none, node, Node, list, tuple, dict, object, function, exception}
use Rattle.kishu_objects.specs.Shape.{children, each_child}
use Rattle.kishu_objects.specs.Picture.{number, renumbered}
use Rattle.kishu_objects.specs.Pairings.{bare, Alike}

-- ---- entries with other values

values_map : {K : Type 0} (f : Value → Value) (es : List (K × Value)) → map (λ (e : K × Value). e.1) (map {B = K × Value} (λ (e : K × Value). (e.0, f e.1)) es) ≡ map f (map (λ (e : K × Value). e.1) es)
values_map f [] = refl
values_map f (e ∷ es) = ap (λ l. f e.1 ∷ l) (values_map f es)

twice_map : {K : Type 0} (f g : Value → Value) (es : List (K × Value)) → map {B = K × Value} (λ (e : K × Value). (e.0, f e.1)) (map {B = K × Value} (λ (e : K × Value). (e.0, g e.1)) es) ≡ map {B = K × Value} (λ (e : K × Value). (e.0, f (g e.1))) es
twice_map f g [] = refl
twice_map f g (e ∷ es) = ap (λ l. (e.0, f (g e.1)) ∷ l) (twice_map f g es)

map_twice : {A B C : Type 0} (f : B → C) (g : A → B) (xs : List A) → map f (map g xs) ≡ map (λ x. f (g x)) xs
map_twice f g [] = refl
map_twice f g (x ∷ xs) = ap (λ l. f (g x) ∷ l) (map_twice f g xs)

-- the entries with these values
filled : {K : Type 0} → List (K × Value) → List Value → List (K × Value)
filled [] vs = []
filled (e ∷ es) [] = []
filled (e ∷ es) (v ∷ vs) = (e.0, v) ∷ filled es vs

filled_map : {K : Type 0} (f g : Value → Value) (es : List (K × Value)) → map {B = K × Value} (λ (e : K × Value). (e.0, f e.1)) es ≡ filled (map {B = K × Value} (λ (e : K × Value). (e.0, g e.1)) es) (map f (map (λ (e : K × Value). e.1) es))
unfolding filled
filled_map f g [] = refl
filled_map f g (e ∷ es) = ap (λ l. (e.0, f e.1) ∷ l) (filled_map f g es)

-- the node with these children
with_children : Node → List Value → Node
with_children (list us) vs = list vs
with_children (tuple us) vs = tuple vs
with_children (dict es) vs = dict (filled es vs)
with_children (object as') vs = object (filled as' vs)
with_children (function profile code us) vs = function profile code vs
with_children (exception kind us) vs = exception kind vs

-- ---- nodes

-- The children of the changed node are the changed children.
pub children-each : (f : Value → Value) (n : Node) → children (each_child f n) ≡ map f (children n)
children-each f (list vs) = refl
children-each f (tuple vs) = refl
children-each f (dict es) = values_map f es
children-each f (object as') = values_map f as'
children-each f (function profile code vs) = refl
children-each f (exception kind vs) = refl

-- To change each child twice is to change it by both.
pub each-each : (f g : Value → Value) (n : Node) → each_child f (each_child g n) ≡ each_child (λ v. f (g v)) n
each-each f g (list vs) = ap list (map_twice f g vs)
each-each f g (tuple vs) = ap tuple (map_twice f g vs)
each-each f g (dict es) = ap dict (twice_map f g es)
each-each f g (object as') = ap object (twice_map f g as')
each-each f g (function profile code vs) = ap (function profile code) (map_twice f g vs)
each-each f g (exception kind vs) = ap (exception kind) (map_twice f g vs)

each-filled : (f g : Value → Value) (n : Node) → each_child f n ≡ with_children (each_child g n) (map f (children n))
unfolding with_children
each-filled f g (list vs) = refl
each-filled f g (tuple vs) = refl
each-filled f g (dict es) = ap dict (filled_map f g es)
each-filled f g (object as') = ap object (filled_map f g as')
each-filled f g (function profile code vs) = refl
each-filled f g (exception kind vs) = refl

-- A node is what shows of it with its children.
pub each-same : (f g : Value → Value) (m n : Node) → bare m ≡ bare n → map f (children m) ≡ map g (children n) → each_child f m ≡ each_child g n
each-same f g m n shows kids = each-filled f (λ v. none) m ∙ ap (λ k. with_children k (map f (children m))) shows ∙ ap (with_children (bare n)) kids ∙ sym (each-filled g (λ v. none) n)

-- Nodes that are one when their children are changed show the same.
pub bare-each : (f g : Value → Value) (m n : Node) → each_child f m ≡ each_child g n → bare m ≡ bare n
bare-each f g m n e = sym (each-each (λ v. none) f m) ∙ ap bare e ∙ each-each (λ v. none) g n

-- Nodes that are one when their children are changed have the same changed children.
pub kids-each : (f g : Value → Value) (m n : Node) → each_child f m ≡ each_child g n → map f (children m) ≡ map g (children n)
kids-each f g m n e = sym (children-each f m) ∙ ap children e ∙ children-each g n

-- Nodes that show the same have as many children.
pub bare-length : (m n : Node) → bare m ≡ bare n → length (children m) ≡ length (children n)
bare-length m n e = sym (length-map (children m) (λ v. none)) ∙ ap length (kids-each (λ v. none) (λ v. none) m n e) ∙ length-map (children n) (λ v. none)

-- ---- values that correspond: equal plain values, or nodes of which P holds

-- Values that correspond have corresponding nodes.
pub alike_numbers : (P : ℕ → ℕ → Type 0) (v w : Value) → Alike P v w → AllZip P (number v) (number w)
alike_numbers P (node i) (node j) h = (h, tt)
alike_numbers P (node i) w h = absurd h
alike_numbers P v (node j) h = absurd h
alike_numbers P v w h = tt

-- Values that correspond are one, where corresponding nodes get one number.
pub alike_renumbered : (P : ℕ → ℕ → Type 0) (f g : ℕ → ℕ) → ((i j : ℕ) → P i j → f i ≡ g j) → (v w : Value) → Alike P v w → renumbered f v ≡ renumbered g w
alike_renumbered P f g same (node i) (node j) h = ap node (same i j h)
alike_renumbered P f g same (node i) w h = absurd h
alike_renumbered P f g same v (node j) h = absurd h
alike_renumbered P f g same v w h = h

-- Values that are one under new numbers correspond.
pub renumbered_alike : (P : ℕ → ℕ → Type 0) (f g : ℕ → ℕ) (v w : Value) → ((i j : ℕ) → v ≡ node i → w ≡ node j → f i ≡ g j → P i j) → renumbered f v ≡ renumbered g w → Alike P v w
renumbered_alike P f g (node i) (node j) holds e = holds i j refl refl (cc)
renumbered_alike P f g (node i) w holds e = absurd (cc)
renumbered_alike P f g v (node j) holds e = absurd (cc)
renumbered_alike P f g v w holds e = e
