-- Steps of a walk over the names of a body, and of the heights of what is left.
use Rattle.std.proofs.Common.{◌≡◌, ℕ, ◌+◌, ◌<◌, ◌≤◌, max, Bool, true, false, List, [], ◌∷◌, ◌++◌, map, length, drop, get_or, Option, Some, None, refl, sym, ap, ◌∙◌, arith, add-one, drop-cons, true≢false}
use Rattle.std.specs.Prelude.{Result, Ok, Err, OnOk, IfOk, is_some, flat_map}
use Rattle.std.specs.Rc.{rc_str_bytes}
use Rattle.kishu_language.specs.declared.tree.Link.{Link}
use Rattle.kishu_language.specs.declared.tree.Operand.{Operand}
use Rattle.kishu_language.specs.declared.tree.Pair.{Pair}
use Rattle.kishu_language.specs.declared.tree.Arm.{Arm as Arm'}
use Rattle.kishu_language.specs.declared.tree.Handler.{Handler as Handler'}
use Rattle.kishu_language.specs.declared.tree.Def.{Def}
use Rattle.kishu_language.specs.trees.Tree.{Text, Expression, expressions, expression_of, pairs, bound_of, statements, statement_of, arms, handlers, value_of, text_of, definition_of, parameter_of}
use Rattle.kishu_language.specs.trees.Tree as t
use Rattle.kishu_language.specs.grammar.Refusals.{Mention, variables, in_expression, in_expressions, in_pairs, in_trailer, in_bound, in_optional, in_statements, in_arms, in_handlers, globals_fit_after}
use Rattle.kishu_language.specs.trees.Height.{of_expression, of_pairs, of_trailer, of_bound, of_optional, of_statements, of_arms, of_handlers}
use Rattle.kishu_language.specs.trees.Parts.{link_of, operand_of, pair_of, arm_of, handler_of}
use Rattle.kishu_parser.specs.Sets.{note, noted}
use Rattle.kishu_language.specs.trees.Rows.{link_is, operand_is, pair_is}
use Rattle.kishu_language.specs.trees.StatementRows.{arm_is, handler_is, definition_is}
use Rattle.kishu_parser.proofs.NameSets.{Same, continued, note_append, note_fits}

pub link_value : (l : Link) → (link_of l).1 ≡ expression_of l.value
link_value l = ap (λ p. p.1) (link_is l.comparison l.value)

pub operand_value : (o : Operand) → (operand_of o).1 ≡ expression_of o.value
operand_value o = ap (λ p. p.1) (operand_is o.operator o.value)

pub pair_key : (p : Pair) → (pair_of p).0 ≡ expression_of p.key
pair_key p = ap (λ q. q.0) (pair_is p.key p.value)

pub pair_value : (p : Pair) → (pair_of p).1 ≡ expression_of p.value
pair_value p = ap (λ q. q.1) (pair_is p.key p.value)

first : {A : Type 0} (xs : List A) (i : ℕ) (x : A) → i < length xs → drop i xs ≡ get_or xs i x ∷ drop (i + 1) xs
first xs i x h = rw (add-one, drop-cons xs i x)

-- the first of what is left of a list
pub here : {A : Type 0} (xs : List A) (i : ℕ) (x : A) → i < length xs → x ≡ get_or xs i x → drop i xs ≡ x ∷ drop (i + 1) xs
here xs i x h e = first xs i x h ∙ ap (λ z. z ∷ drop (i + 1) xs) (sym e)

pub note_then : (s s1 : List Text) (a b : List Mention) → note s a ≡ Some s1 → note s (a ++ b) ≡ note s1 b
note_then s s1 a b h = note_append s a b ∙ ap (λ o. continued o b) h

pub note_ends : (s : List Text) (a b : List Mention) → note s a ≡ None → note s (a ++ b) ≡ None
note_ends s a b h = note_append s a b ∙ ap (λ o. continued o b) h

pub then_ok : {T E : Type 0} (r : Result T E) (s s1 s2 : List Text) (a b : List Mention) → note s a ≡ Some s1 → OnOk r (note s1 b ≡ Some s2) → OnOk r (note s (a ++ b) ≡ Some s2)
then_ok (Ok x) s s1 s2 a b h k = note_then s s1 a b h ∙ k
then_ok (Err e) s s1 s2 a b h k = tt

pub then_if_ok : {E : Type 0} (r : Result Bool E) (s s1 s2 : List Text) (a b : List Mention) → note s a ≡ Some s1 → IfOk r (λ fits. note s1 b ≡ noted fits s2) → IfOk r (λ fits. note s (a ++ b) ≡ noted fits s2)
then_if_ok (Ok x) s s1 s2 a b h k = note_then s s1 a b h ∙ k
then_if_ok (Err e) s s1 s2 a b h k = tt

module _ {A : Type 0} (part : A → List Mention) (whole : List A → List Mention) (cons : (x : A) (xs : List A) → whole (x ∷ xs) ≡ part x ++ whole xs) where
  pub told_more : (start : Option (List Text)) (xs : List A) (i : ℕ) (x : A) (s s1 : List Text)
      → start ≡ note s (whole (drop i xs)) → i < length xs → x ≡ get_or xs i x → note s (part x) ≡ Some s1 → start ≡ note s1 (whole (drop (i + 1) xs))
  told_more start xs i x s s1 told h e k =
      told
      ∙ ap (λ ys. note s (whole ys)) (here xs i x h e)
      ∙ ap (note s) (cons x (drop (i + 1) xs))
      ∙ note_then s s1 (part x) (whole (drop (i + 1) xs)) k

  -- what is left doesn't fit
  pub told_ends : (start : Option (List Text)) (xs : List A) (i : ℕ) (x : A) (s : List Text)
      → start ≡ note s (whole (drop i xs)) → i < length xs → x ≡ get_or xs i x → note s (part x) ≡ None → start ≡ None
  told_ends start xs i x s told h e k =
      told
      ∙ ap (λ ys. note s (whole ys)) (here xs i x h e)
      ∙ ap (note s) (cons x (drop (i + 1) xs))
      ∙ note_ends s (part x) (whole (drop (i + 1) xs)) k

module _ {A : Type 0} (part : A → ℕ) (whole : List A → ℕ) (cons : (x : A) (xs : List A) → whole (x ∷ xs) ≡ max (part x) (whole xs)) where
  pub height_here : (xs : List A) (i : ℕ) (x : A) → i < length xs → x ≡ get_or xs i x → whole (drop i xs) ≡ max (part x) (whole (drop (i + 1) xs))
  height_here xs i x h e = ap whole (here xs i x h e) ∙ cons x (drop (i + 1) xs)

-- ---- parts of trees

pub pair_height : (p : Pair) (ps : List Pair) → of_pairs (pairs (map pair_of (p ∷ ps))) ≡ max (max (of_expression (expression_of p.key)) (of_expression (expression_of p.value))) (of_pairs (pairs (map pair_of ps)))
pair_height p ps =
    ap (λ k. max (of_expression k) (max (of_expression (pair_of p).1) (of_pairs (pairs (map pair_of ps))))) (pair_key p)
    ∙ ap (λ v. max (of_expression (expression_of p.key)) (max (of_expression v) (of_pairs (pairs (map pair_of ps))))) (pair_value p)
    ∙ regroup (of_expression (expression_of p.key)) (of_expression (expression_of p.value)) (of_pairs (pairs (map pair_of ps)))
  where
    regroup : (a b d : ℕ) → max a (max b d) ≡ max (max a b) d
    regroup a b d = omega arith

pub pair_names : (p : Pair) (ps : List Pair) → in_pairs (pairs (map pair_of (p ∷ ps))) ≡ (in_expression (expression_of p.key) ++ in_expression (expression_of p.value)) ++ in_pairs (pairs (map pair_of ps))
pair_names p ps =
    ap (λ k. in_expression k ++ in_expression (pair_of p).1 ++ in_pairs (pairs (map pair_of ps))) (pair_key p)
    ∙ ap (λ v. in_expression (expression_of p.key) ++ in_expression v ++ in_pairs (pairs (map pair_of ps))) (pair_value p)

bound_height : (o : Option Expression) → of_bound (bound_of o) ≡ of_optional o
bound_height None = refl
bound_height (Some e) = refl

bound_names : (o : Option Expression) → in_bound (bound_of o) ≡ in_optional o
bound_names None = refl
bound_names (Some e) = refl

pub slice_height : (a b d : Option Expression) → of_trailer (t.slice (bound_of a) (bound_of b) (bound_of d)) ≡ max (of_optional a) (max (of_optional b) (of_optional d))
slice_height a b d = rw (bound_height a, bound_height b, bound_height d) refl

pub slice_names : (a b d : Option Expression) → in_trailer (t.slice (bound_of a) (bound_of b) (bound_of d)) ≡ in_optional a ++ in_optional b ++ in_optional d
slice_names a b d = rw (bound_names a, bound_names b, bound_names d) refl

-- ---- walks that may not fit

pub fits_on : (b : Bool) (o : Option (List Text)) (s : List Text) → o ≡ noted b s → b ≡ true → o ≡ Some s
fits_on true o s h e = h
fits_on false o s h e = absurd (true≢false (sym e))

pub fits_off : (b : Bool) (o : Option (List Text)) (s : List Text) → o ≡ noted b s → b ≡ false → o ≡ None
fits_off false o s h e = h
fits_off true o s h e = absurd (true≢false e)

pub listed_names : (es : List Expression) → in_expressions (expressions es) ≡ flat_map in_expression es
listed_names [] = refl
listed_names (e ∷ es) = ap (λ ms. in_expression e ++ ms) (listed_names es)

pub arm_names : (a : Arm') (as' : List Arm') → in_arms (arms (map arm_of (a ∷ as'))) ≡ (in_expression (expression_of a.test) ++ in_statements (statements (map statement_of a.body.items))) ++ in_arms (arms (map arm_of as'))
arm_names a as' =
    ap (λ p. in_expression p.0 ++ in_statements p.1 ++ in_arms (arms (map arm_of as'))) (arm_is a.test a.body)

pub arm_height : (a : Arm') (as' : List Arm') → of_arms (arms (map arm_of (a ∷ as'))) ≡ max (max (of_expression (expression_of a.test)) (of_statements (statements (map statement_of a.body.items)))) (of_arms (arms (map arm_of as')))
arm_height a as' =
    ap (λ p. max (of_expression p.0) (max (of_statements p.1) (of_arms (arms (map arm_of as'))))) (arm_is a.test a.body)
    ∙ regroup (of_expression (expression_of a.test)) (of_statements (statements (map statement_of a.body.items))) (of_arms (arms (map arm_of as')))
  where
    regroup : (a b d : ℕ) → max a (max b d) ≡ max (max a b) d
    regroup a b d = omega arith

pub handler_names : (h : Handler') (hs : List Handler') → in_handlers (handlers (map handler_of (h ∷ hs))) ≡ (in_optional (value_of h.class) ++ variables (text_of h.name) ++ in_statements (statements (map statement_of h.body.items))) ++ in_handlers (handlers (map handler_of hs))
handler_names h hs =
    ap (λ k. in_optional k.class ++ variables k.caught ++ in_statements k.body ++ in_handlers (handlers (map handler_of hs))) (handler_is h.class h.name h.body)

pub handler_height : (h : Handler') (hs : List Handler') → of_handlers (handlers (map handler_of (h ∷ hs))) ≡ max (max (of_optional (value_of h.class)) (of_statements (statements (map statement_of h.body.items)))) (of_handlers (handlers (map handler_of hs)))
handler_height h hs =
    ap (λ k. max (of_optional k.class) (max (of_statements k.body) (of_handlers (handlers (map handler_of hs))))) (handler_is h.class h.name h.body)
    ∙ regroup (of_optional (value_of h.class)) (of_statements (statements (map statement_of h.body.items))) (of_handlers (handlers (map handler_of hs)))
  where
    regroup : (a b d : ℕ) → max a (max b d) ≡ max (max a b) d
    regroup a b d = omega arith

pub title_is : (d : Def) → (definition_of d).title ≡ rc_str_bytes d.name
title_is d = ap (λ k. k.title) (definition_is d.name d.params d.body)

pub parameters_are : (d : Def) → (definition_of d).parameters ≡ map parameter_of d.params.items
parameters_are d = ap (λ k. k.parameters) (definition_is d.name d.params d.body)

some_noted : (b : Bool) (s : List Text) → is_some (noted b s) ≡ b
some_noted true s = refl
some_noted false s = refl

pub fits_globals : {E : Type 0} (r : Result Bool E) (s s1 before : List Text) (ms : List Mention) → Same s before → IfOk r (λ b. note s ms ≡ noted b s1) → IfOk r (λ b. b ≡ globals_fit_after before ms)
fits_globals (Ok b) s s1 before ms same h = sym (some_noted b s1) ∙ sym (ap is_some h) ∙ note_fits s before ms same
fits_globals (Err e) s s1 before ms same h = tt
