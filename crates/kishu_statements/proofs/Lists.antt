-- Lists of values that grow at their end.
use Rattle.std.proofs.Common.{◌≡◌, ◌∙◌, refl, ap, sym, arith, ℕ, ◌<◌, ◌≤◌, length, Bool, IsTrue, List, [], ◌∷◌, ◌++◌, map, append_assoc}
use Rattle.kishu_meaning.specs.declared.value.Value as rust
use Rattle.kishu_language.specs.declared.tree.Link.{Link}
use Rattle.kishu_language.specs.trees.Tree as tree
use Rattle.kishu_language.specs.trees.Parts.{links_of, link_of}
use Rattle.std.specs.Prelude.{true, false, if◌then◌else◌}
use Rattle.kishu_language.specs.declared.tree.Comparison.{Comparison}
use Rattle.kishu_language.specs.trees.Tree.{Expression, Expressions, Links, more_expressions, no_links, more_links}
use Rattle.kishu_meaning.specs.values.Values.{Value, bool, value_of}
use Rattle.kishu_meaning.specs.comparing.Comparing.{compare}
use Rattle.kishu_meaning.specs.cells.Meaning.{Calls, expr, values, inner_values, links}
use Rattle.kishu_meaning.specs.values.Sound.{is_sound, are_sound}
use Rattle.kishu_meaning.specs.moments.Moment.{Moment, Ends, fine, raised, stopped, M, give, and_then, ◌>>◌, tick, deeper}
use Rattle.kishu_items.specs.Holding.{both, first, second}
use Rattle.kishu_statements.specs.Forms.{linked}
use Rattle.kishu_machine.specs.SoundMore.{sound_more}

pub pushed_sound : (n m : ℕ) (vs : List rust.Value) (v : rust.Value) → n ≤ m → IsTrue (are_sound n (map value_of vs)) → IsTrue (is_sound m (value_of v)) → IsTrue (are_sound m (map value_of (vs ++ v ∷ [])))
pushed_sound n m [] v p h k = both (is_sound m (value_of v)) _ k refl
pushed_sound n m (w ∷ ws) v p h k =
    both (is_sound m (value_of w)) _ (sound_more n m p (value_of w) (first (is_sound n (value_of w)) _ h))
    (pushed_sound n m ws v p (second (is_sound n (value_of w)) _ h) k)

pub pushed_values : (vs : List rust.Value) (v : rust.Value) → map value_of (vs ++ v ∷ []) ≡ map value_of vs ++ value_of v ∷ []
pushed_values [] v = refl
pushed_values (w ∷ ws) v = ap (λ xs. value_of w ∷ xs) (pushed_values ws v)

-- what is done for the rest, behind what was done
pub behind : {A : Type 0} (before : List A) (a : A) (e : Ends (List A)) → and_then (and_then e (λ xs. give (a ∷ xs))) (λ xs. give (before ++ xs)) ≡ and_then e (λ xs. give ((before ++ a ∷ []) ++ xs))
behind before a (fine xs s) = ap (λ ys. fine ys s) (sym (append_assoc before (a ∷ []) xs))
behind before a (raised x s) = refl
behind before a (stopped s) = refl

module _ (calls : Calls) (before : List Value) (v : Value) (s t : Moment) (e : Expression) (es : Expressions) where
  pub values_on : expr calls e s ≡ fine v t → and_then (values calls (more_expressions e es) s) (λ vs. give (before ++ vs)) ≡ and_then (values calls es t) (λ vs. give ((before ++ v ∷ []) ++ vs))
  values_on h = ap (λ (x : Ends Value). and_then (and_then x (λ w s1. and_then (values calls es s1) (λ vs. give (w ∷ vs)))) (λ vs. give (before ++ vs))) h ∙ behind before v (values calls es t)

  pub inner_values_on : deeper (expr calls e) s ≡ fine v t → and_then (inner_values calls (more_expressions e es) s) (λ vs. give (before ++ vs)) ≡ and_then (inner_values calls es t) (λ vs. give ((before ++ v ∷ []) ++ vs))
  inner_values_on h = ap (λ (x : Ends Value). and_then (and_then x (λ w s1. and_then (inner_values calls es s1) (λ vs. give (w ∷ vs)))) (λ vs. give (before ++ vs))) h ∙ behind before v (inner_values calls es t)

-- two ways to go on that are the same at each moment
pub same_behind : {A B : Type 0} (e : Ends A) (f g : A → M B) → ((a : A) (s : Moment) → f a s ≡ g a s) → and_then e f ≡ and_then e g
same_behind (fine a s) f g h = h a s
same_behind (raised x s) f g h = refl
same_behind (stopped s) f g h = refl

module _ (calls : Calls) where
  linked_end : (b : Bool) (w : Value) (s : Moment) → give (bool b) s ≡ (if b then linked calls w no_links else give (bool false)) s
  linked_end true w s = refl
  linked_end false w s = refl

  linked_ends : (b : Bool) (f g : M Value) (s : Moment) → f s ≡ g s → (if b then f else give (bool false)) s ≡ (if b then g else give (bool false)) s
  linked_ends true f g s h = h
  linked_ends false f g s h = refl

  -- Where there are links, their value is that of the last comparison that was made.
  pub linked_is : (v : Value) (c : Comparison) (e : Expression) (ls : Links) (s : Moment) → links calls v (more_links c e ls) s ≡ linked calls v (more_links c e ls) s
  linked_is v c e no_links s = same_behind (expr calls e s) _ _ (λ w s1. same_behind ((tick >> compare c v w) s1) (λ b. give (bool b)) (λ b. if b then linked calls w no_links else give (bool false)) (λ b s2. linked_end b w s2))
  linked_is v c e (more_links d f ls) s =
      same_behind (expr calls e s) _ _ (λ w s1. same_behind ((tick >> compare c v w) s1)
      (λ b. if b then links calls w (more_links d f ls) else give (bool false)) (λ b. if b then linked calls w (more_links d f ls) else give (bool false))
      (λ b s2. linked_ends b (links calls w (more_links d f ls)) (linked calls w (more_links d f ls)) s2 (linked_is w d f ls s2)))

pub compared_linked : (calls : Calls) (e : Expression) (ls : List Link) (v : Value) (s t : Moment) → 0 < length ls → expr calls e s ≡ fine v t → expr calls (tree.compared e (links_of ls)) s ≡ linked calls v (links_of ls) t
compared_linked calls e [] v s t p h = absurd (omega arith)
compared_linked calls e (l ∷ ls) v s t p h =
    let o = link_of l in
    ap (λ (x : Ends Value). and_then x (λ w. links calls w (links_of (l ∷ ls)))) h ∙ linked_is calls v o.0 o.1 (links_of ls) t
