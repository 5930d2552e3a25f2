-- Slices with several causes of an exception, of which the first from the left is told: computed on the definition. Made by tools/rows/state_rows.py.
use Rattle.std.proofs.Common.{◌≡◌, refl, [], ◌∷◌, false}
use Rattle.std.specs.Prelude.{pos, codes}
use Rattle.kishu_meaning.specs.values.Values.{none, bool, integer, text, range, builtin, class, node, list, tuple, dict}
use Rattle.kishu_meaning_laws.specs.Bare.{bare}
use Rattle.kishu_meaning.specs.moments.Moment.{fresh, raised}
use Rattle.kishu_meaning.specs.values.BuiltinNames.{class_names}
use Rattle.kishu_meaning.specs.items.Subscripts.{slice}

ordered_1 : slice (text (codes "abc")) (text (codes "a")) none (integer (pos 0)) (bare [] 100 0) ≡ raised (fresh 23 ((text (codes "bad index type: 'str'")) ∷ [])) (bare [] 100 0)
unfolding class_names
ordered_1 = refl

ordered_2 : slice (text (codes "abc")) none (text (codes "a")) (integer (pos 0)) (bare [] 100 0) ≡ raised (fresh 23 ((text (codes "bad index type: 'str'")) ∷ [])) (bare [] 100 0)
unfolding class_names
ordered_2 = refl

ordered_3 : slice (text (codes "abc")) (text (codes "a")) (node 0) (integer (pos 0)) (bare ((list []) ∷ []) 100 0) ≡ raised (fresh 23 ((text (codes "bad index type: 'str'")) ∷ [])) (bare ((list []) ∷ []) 100 0)
unfolding class_names
ordered_3 = refl

ordered_4 : slice (node 0) (text (codes "a")) none (node 1) (bare ((list ((integer (pos 1)) ∷ [])) ∷ (list []) ∷ []) 100 0) ≡ raised (fresh 23 ((text (codes "bad index type: 'str'")) ∷ [])) (bare ((list ((integer (pos 1)) ∷ [])) ∷ (list []) ∷ []) 100 0)
unfolding class_names
ordered_4 = refl

ordered_5 : slice (node 0) none (text (codes "a")) (node 1) (bare ((list ((integer (pos 1)) ∷ [])) ∷ (list []) ∷ []) 100 0) ≡ raised (fresh 23 ((text (codes "bad index type: 'str'")) ∷ [])) (bare ((list ((integer (pos 1)) ∷ [])) ∷ (list []) ∷ []) 100 0)
unfolding class_names
ordered_5 = refl

ordered_6 : slice (node 0) (text (codes "a")) (node 1) (node 2) (bare ((list ((integer (pos 1)) ∷ [])) ∷ (list []) ∷ (dict []) ∷ []) 100 0) ≡ raised (fresh 23 ((text (codes "bad index type: 'str'")) ∷ [])) (bare ((list ((integer (pos 1)) ∷ [])) ∷ (list []) ∷ (dict []) ∷ []) 100 0)
unfolding class_names
ordered_6 = refl

ordered_7 : slice (node 0) (integer (pos 1)) (range (pos 0) (pos 2) (pos 1)) (text (codes "x")) (bare ((tuple ((integer (pos 1)) ∷ [])) ∷ []) 100 0) ≡ raised (fresh 23 ((text (codes "bad index type: 'range'")) ∷ [])) (bare ((tuple ((integer (pos 1)) ∷ [])) ∷ []) 100 0)
unfolding class_names
ordered_7 = refl

ordered_8 : slice (node 0) (builtin 10) (integer (pos 1)) (integer (pos 0)) (bare ((tuple ((integer (pos 1)) ∷ [])) ∷ []) 100 0) ≡ raised (fresh 23 ((text (codes "bad index type: 'builtin'")) ∷ [])) (bare ((tuple ((integer (pos 1)) ∷ [])) ∷ []) 100 0)
unfolding class_names
ordered_8 = refl

ordered_9 : slice (text (codes "abc")) (integer (pos 1)) (class 3) (integer (pos 0)) (bare [] 100 0) ≡ raised (fresh 23 ((text (codes "bad index type: 'class'")) ∷ [])) (bare [] 100 0)
unfolding class_names
ordered_9 = refl

ordered_10 : slice (text []) none (text (codes "a")) (bool false) (bare [] 100 0) ≡ raised (fresh 23 ((text (codes "bad index type: 'str'")) ∷ [])) (bare [] 100 0)
unfolding class_names
ordered_10 = refl

ordered_11 : slice (node 0) (text (codes "a")) (text (codes "b")) (node 1) (bare ((list []) ∷ (tuple []) ∷ []) 100 0) ≡ raised (fresh 23 ((text (codes "bad index type: 'str'")) ∷ [])) (bare ((list []) ∷ (tuple []) ∷ []) 100 0)
unfolding class_names
ordered_11 = refl

ordered_12 : slice (node 0) none (node 1) (builtin 10) (bare ((tuple []) ∷ (list []) ∷ []) 100 0) ≡ raised (fresh 23 ((text (codes "bad index type: 'list'")) ∷ [])) (bare ((tuple []) ∷ (list []) ∷ []) 100 0)
unfolding class_names
ordered_12 = refl

ordered_13 : slice (text (codes "abc")) (class 24) (integer (pos 1)) none (bare [] 100 0) ≡ raised (fresh 23 ((text (codes "bad index type: 'class'")) ∷ [])) (bare [] 100 0)
unfolding class_names
ordered_13 = refl

ordered_14 : slice (text (codes "abc")) (integer (pos 1)) (class 24) (integer (pos 0)) (bare [] 100 0) ≡ raised (fresh 23 ((text (codes "bad index type: 'class'")) ∷ [])) (bare [] 100 0)
unfolding class_names
ordered_14 = refl
