-- Names that are collected one after the other, and the heights of what is left.
use Rattle.std.proofs.Common.{◌≡◌, ℕ, ◌+◌, ◌<◌, max, List, [], ◌∷◌, ◌++◌, map, length, drop, get_or, refl, sym, ap, ◌∙◌, arith, append_assoc}
use Rattle.std.specs.Prelude.{Result, Ok, Err, OnOk}
use Rattle.std.specs.List.{flat_map}
use Rattle.kishu_language.specs.declared.tree.Arm.{Arm as Arm'}
use Rattle.kishu_language.specs.declared.tree.Handler.{Handler as Handler'}
use Rattle.kishu_language.specs.trees.Tree.{Text, Expression, expressions, expression_of, statements, statement_of, arms, handlers, value_of, text_of}
use Rattle.kishu_meaning.specs.calls.Functions.{names_in, bound_by, all_bound_by, bound_in_block, bound_in_arms, bound_in_handlers, declared_in_block, declared_in_arms, declared_in_handlers}
use Rattle.kishu_language.specs.trees.Height.{of_expression, of_statements, of_arms, of_handlers, of_optional}
use Rattle.kishu_items.specs.Gathering.{dropped}
use Rattle.kishu_language.specs.trees.Parts.{arm_of, handler_of}
use Rattle.kishu_language.specs.trees.StatementRows.{arm_is, handler_is}

pub none_more : (xs : List Text) → xs ≡ xs ++ []
none_more [] = refl
none_more (x ∷ xs) = ap (λ ys. x ∷ ys) (none_more xs)

pub both_more : (old mid new a b : List Text) → mid ≡ old ++ a → new ≡ mid ++ b → new ≡ old ++ (a ++ b)
both_more old mid new a b h k = k ∙ ap (λ l. l ++ b) h ∙ append_assoc old a b

pub both_if_ok : {T E : Type 0} (r : Result T E) (old mid new a b : List Text) → mid ≡ old ++ a → OnOk r (new ≡ mid ++ b) → OnOk r (new ≡ old ++ (a ++ b))
both_if_ok (Ok x) old mid new a b h k = both_more old mid new a b h k
both_if_ok (Err e) old mid new a b h k = tt

pub four_if_ok : {T E : Type 0} (r : Result T E) (old s1 s2 s3 s4 a b c d : List Text) → s1 ≡ old ++ a → s2 ≡ s1 ++ b → s3 ≡ s2 ++ c → OnOk r (s4 ≡ s3 ++ d) → OnOk r (s4 ≡ old ++ (((a ++ b) ++ c) ++ d))
four_if_ok (Ok x) old s1 s2 s3 s4 a b c d h i j k = both_more old s3 s4 ((a ++ b) ++ c) d (both_more old s2 s3 (a ++ b) c (both_more old s1 s2 a b h i) j) k
four_if_ok (Err e) old s1 s2 s3 s4 a b c d h i j k = tt

module _ {A : Type 0} (part : A → List Text) (whole : List A → List Text) (cons : (x : A) (xs : List A) → whole (x ∷ xs) ≡ part x ++ whole xs) where
  pub one_more : (start : List Text) (xs : List A) (i : ℕ) (x : A) (s s1 : List Text)
      → s ++ whole (drop i xs) ≡ start → i < length xs → x ≡ get_or xs i x → s1 ≡ s ++ part x → s1 ++ whole (drop (i + 1) xs) ≡ start
  one_more start xs i x s s1 told h e k =
      ap (λ l. l ++ whole (drop (i + 1) xs)) k
      ∙ append_assoc s (part x) (whole (drop (i + 1) xs))
      ∙ ap (λ l. s ++ l) (sym (cons x (drop (i + 1) xs)))
      ∙ ap (λ ys. s ++ whole ys) (sym (dropped xs i x h e))
      ∙ told

module _ {A : Type 0} (part : A → ℕ) (whole : List A → ℕ) (cons : (x : A) (xs : List A) → whole (x ∷ xs) ≡ max (part x) (whole xs)) where
  pub height_here : (xs : List A) (i : ℕ) (x : A) → i < length xs → x ≡ get_or xs i x → whole (drop i xs) ≡ max (part x) (whole (drop (i + 1) xs))
  height_here xs i x h e = ap whole (dropped xs i x h e) ∙ cons x (drop (i + 1) xs)

pub all_by_each : (es : List Expression) → all_bound_by (expressions es) ≡ flat_map bound_by es
all_by_each [] = refl
all_by_each (e ∷ es) = ap (λ l. bound_by e ++ l) (all_by_each es)

pub arm_bound : (a : Arm') (as' : List Arm') → bound_in_arms (arms (map arm_of (a ∷ as'))) ≡ bound_in_block (statements (map statement_of a.body.items)) ++ bound_in_arms (arms (map arm_of as'))
arm_bound a as' = ap (λ p. bound_in_block p.1 ++ bound_in_arms (arms (map arm_of as'))) (arm_is a.test a.body)

pub arm_declared : (a : Arm') (as' : List Arm') → declared_in_arms (arms (map arm_of (a ∷ as'))) ≡ declared_in_block (statements (map statement_of a.body.items)) ++ declared_in_arms (arms (map arm_of as'))
arm_declared a as' = ap (λ p. declared_in_block p.1 ++ declared_in_arms (arms (map arm_of as'))) (arm_is a.test a.body)

pub arm_height : (a : Arm') (as' : List Arm') → of_arms (arms (map arm_of (a ∷ as'))) ≡ max (max (of_expression (expression_of a.test)) (of_statements (statements (map statement_of a.body.items)))) (of_arms (arms (map arm_of as')))
arm_height a as' =
    ap (λ p. max (of_expression p.0) (max (of_statements p.1) (of_arms (arms (map arm_of as'))))) (arm_is a.test a.body)
    ∙ regroup (of_expression (expression_of a.test)) (of_statements (statements (map statement_of a.body.items))) (of_arms (arms (map arm_of as')))
  where
    regroup : (a b d : ℕ) → max a (max b d) ≡ max (max a b) d
    regroup a b d = omega arith

pub handler_bound : (h : Handler') (hs : List Handler') → bound_in_handlers (handlers (map handler_of (h ∷ hs))) ≡ (names_in (text_of h.name) ++ bound_in_block (statements (map statement_of h.body.items))) ++ bound_in_handlers (handlers (map handler_of hs))
handler_bound h hs =
    ap (λ k. names_in k.caught ++ bound_in_block k.body ++ bound_in_handlers (handlers (map handler_of hs))) (handler_is h.class h.name h.body)

pub handler_declared : (h : Handler') (hs : List Handler') → declared_in_handlers (handlers (map handler_of (h ∷ hs))) ≡ declared_in_block (statements (map statement_of h.body.items)) ++ declared_in_handlers (handlers (map handler_of hs))
handler_declared h hs = ap (λ k. declared_in_block k.body ++ declared_in_handlers (handlers (map handler_of hs))) (handler_is h.class h.name h.body)

pub handler_height : (h : Handler') (hs : List Handler') → of_handlers (handlers (map handler_of (h ∷ hs))) ≡ max (max (of_optional (value_of h.class)) (of_statements (statements (map statement_of h.body.items)))) (of_handlers (handlers (map handler_of hs)))
handler_height h hs =
    ap (λ k. max (of_optional k.class) (max (of_statements k.body) (of_handlers (handlers (map handler_of hs))))) (handler_is h.class h.name h.body)
    ∙ regroup (of_optional (value_of h.class)) (of_statements (statements (map statement_of h.body.items))) (of_handlers (handlers (map handler_of hs)))
  where
    regroup : (a b d : ℕ) → max a (max b d) ≡ max (max a b) d
    regroup a b d = omega arith
