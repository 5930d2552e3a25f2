-- Exceptions, as str shows them.
use Rattle.std.proofs.Common.{◌≡◌, ap, sym, subst, refl, arith, ℕ, Bool, true, false, List, [], ◌∷◌, ◌++◌, length, map, Result, Err, Option, Some, None, ◌⊎◌, inl, inr}
use Rattle.kishu_meaning.specs.declared.value.Value as rust
use Rattle.kishu_heap.specs.declared.node.Node as rust_node
use Rattle.kishu_heap.specs.declared.node.Node.TheVariants as nodes
use Rattle.kishu_heap.specs.Cells.{node_of}
use Rattle.kishu_meaning.specs.moments.Counting.{Counted, Count, ◌>>◌, answer, and_then, give, spend}
use Rattle.kishu_meaning.specs.comparing.Equal.{node_in}
use Rattle.kishu_meaning.specs.values.Values.{Value, none, bool, integer, text, range, builtin, class, node, value_of, Node, exception}
use Rattle.kishu_meaning.specs.comparing.Show.{argument_text, exception_text, made, show_at, show_by, tuple_repr}
use Rattle.kishu_show.specs.declared.draft.Draft.{Draft}
use Rattle.kishu_show.specs.declared.fault.ShowFault.{ShowFault}
use Rattle.kishu_show.specs.declared.fault.ShowFault.TheVariants as faults
use Rattle.kishu_show.specs.Shown.{Gives, Makes, onto, text_of}
use Rattle.kishu_show.specs.Plainly.{plain_shown}

pub plain_show : (nodes : ℕ → Count (List ℕ)) (v : Value) → None ≡ node_in v → made (plain_shown v) ≡ show_by nodes v
plain_show nodes none h = refl
plain_show nodes (bool b) h = refl
plain_show nodes (integer z) h = refl
plain_show nodes (text cs) h = refl
plain_show nodes (range a b c) h = refl
plain_show nodes (builtin n) h = refl
plain_show nodes (class n) h = refl
plain_show nodes (node i) h = absurd cc

abbrev pub is_exception : rust_node.Node → Bool
is_exception (nodes.List vs) = false
is_exception (nodes.Tuple vs) = false
is_exception (nodes.Dict es) = false
is_exception (nodes.Object es) = false
is_exception (nodes.Function f) = false
is_exception (nodes.Exception kind vs) = true

pub either_way : {A B P : Type 0} → A ⊎ B → (A → P) → (B → P) → P
either_way (inl a) f g = f a
either_way (inr b) f g = g b

module _ (exceptions : ℕ → List Value → Count (List ℕ)) (other : Count (List ℕ)) (r : Result (Unit {0}) ShowFault) (d e : Draft) (o : Option Node) where
  pub nothing_there : None ≡ o → Makes r e (onto d other) → Makes r e (onto d (show_at exceptions other o))
  nothing_there h k = subst (λ x. Makes r e (onto d (show_at exceptions other x))) h k

  pub as_exception : (kind : ℕ) (vs : List Value) → Some (exception kind vs) ≡ o → Makes r e (onto d (exceptions kind vs)) → Makes r e (onto d (show_at exceptions other o))
  as_exception kind vs h k = subst (λ x. Makes r e (onto d (show_at exceptions other x))) h k

  -- all but exceptions are shown by the other
  pub as_other : (n : rust_node.Node) → is_exception n ≡ false → Some (node_of n) ≡ o → Makes r e (onto d other) → Makes r e (onto d (show_at exceptions other o))
  as_other (nodes.List vs) h k m = subst (λ x. Makes r e (onto d (show_at exceptions other x))) k m
  as_other (nodes.Tuple vs) h k m = subst (λ x. Makes r e (onto d (show_at exceptions other x))) k m
  as_other (nodes.Dict es) h k m = subst (λ x. Makes r e (onto d (show_at exceptions other x))) k m
  as_other (nodes.Object es) h k m = subst (λ x. Makes r e (onto d (show_at exceptions other x))) k m
  as_other (nodes.Function f) h k m = subst (λ x. Makes r e (onto d (show_at exceptions other x))) k m
  as_other (nodes.Exception kind vs) h k m = absurd cc

-- ---- arguments

module _ (reprs shows : ℕ → Count (List ℕ)) (kind : ℕ) (a : rust.Value) (bs vs : List rust.Value) (is : vs ≡ a ∷ bs) where
  one_of : (bs : List rust.Value) → length bs ≡ 0 → (spend 1 >> argument_text reprs shows kind (value_of a)) ≡ exception_text reprs shows kind (map value_of (a ∷ bs))
  one_of [] h = refl
  one_of (b ∷ bs) h = absurd (omega arith)

  pub one_argument : length bs ≡ 0 → (spend 1 >> argument_text reprs shows kind (value_of a)) ≡ exception_text reprs shows kind (map value_of vs)
  one_argument h = rw is (one_of bs h)

  more_of : (bs : List rust.Value) → (length bs ≡ 0 → ⊥) → tuple_repr reprs (map value_of (a ∷ bs)) ≡ exception_text reprs shows kind (map value_of (a ∷ bs))
  more_of [] h = absurd (h refl)
  more_of (b ∷ bs) h = refl

  pub more_arguments : (length bs ≡ 0 → ⊥) → tuple_repr reprs (map value_of vs) ≡ exception_text reprs shows kind (map value_of vs)
  more_arguments h = rw is (more_of bs h)

pub no_arguments : (reprs shows : ℕ → Count (List ℕ)) (kind : ℕ) (vs : List rust.Value) → vs ≡ [] → give [] ≡ exception_text reprs shows kind (map value_of vs)
no_arguments reprs shows kind vs h = rw h refl

-- ---- a step that comes first

step_stop : (f : ShowFault) (e : Draft) (front : List ℕ) (m : Count (List ℕ)) (x : Counted (Unit {0})) → Gives (λ u. u) (Err f) e.left x → Makes (Err f) e (and_then (and_then x (λ _. m)) (λ back. give (front ++ back)))
step_stop faults.Depth e front m x h = rw h refl
step_stop faults.Spent e front m x h = rw h refl
step_stop faults.NoMemory e front m x h = tt

pub step_stops : (f : ShowFault) (d e : Draft) (k : ℕ) (m : Count (List ℕ)) → Gives (λ u. u) (Err f) e.left (spend k d.left) → Makes (Err f) e (onto d (spend k >> m))
step_stops f d e k m h = step_stop f e (text_of d) m (spend k d.left) h

pub after_step : (r : Result (Unit {0}) ShowFault) (d e f : Draft) (k : ℕ) (m : Count (List ℕ)) → spend k d.left ≡ answer tt e.left → text_of e ≡ text_of d → Makes r f (onto e m) → Makes r f (onto d (spend k >> m))
after_step r d e f k m h t g =
    let q : onto d (spend k >> m) ≡ and_then (m e.left) (λ back. give (text_of d ++ back)) = ap (λ x. and_then (and_then x (λ _. m)) (λ back. give (text_of d ++ back))) h in
    subst (λ x. Makes r f x) (sym q) (subst (λ t. Makes r f (and_then (m e.left) (λ back. give (t ++ back)))) t g)
