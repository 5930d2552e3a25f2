-- Further states that are the same or differ, for all names or some. Made by tools/rows/same_rows.py.
use Rattle.std.specs.Prelude.{◌≡◌, ℕ, pos, true, false, [], ◌∷◌, codes, Some, refl}
use Rattle.std.specs.Prelude.{Bool}
use Rattle.std.proofs.Common.{sym, ◌∙◌, ap, arith}
use Rattle.std.proofs.lemmas.Bool.{false≢true}
use Rattle.kishu_language.specs.tokens.Names.{reserved_words}
use Rattle.kishu_language.specs.declared.profile.Profile.TheVariants.{One}
use Rattle.kishu_meaning.specs.values.Keys as k
use Rattle.kishu_meaning.specs.values.Values.{integer, text, node, list, tuple, dict, object, function, exception, State}
use Rattle.kishu_objects.specs.Same.{Same, SameOn, View, plain, inside, view}
use Rattle.kishu_objects_laws.specs.SameLaws.{picture_same}
use Rattle.kishu_objects_laws.specs.SoundLaws.{sound_of}
use Rattle.kishu_history.specs.Alike.{is_value, is_node}

-- whether two views are one, by the test of values and nodes
abbrev is_seen : View → View → Bool
is_seen (plain v) (plain w) = is_value v w
is_seen (inside n) (inside m) = is_node n m
is_seen a b = false

-- Where the test tells two apart, they are.
seen_apart : (a b : View) → is_seen a b ≡ false → is_seen a a ≡ true → a ≡ b → ⊥
seen_apart a b other same e = false≢true (sym other ∙ ap (λ c. is_seen a c) (sym e) ∙ same)

-- Two paths that reach one node reach one number.
one_number : (j k : ℕ) → (i : ℕ) × (Some (node j) ≡ Some (node i)) × (Some (node k) ≡ Some (node i)) → j ≡ k
one_number j k (i, e, f) = cc

-- ---- a tuple key shares nothing with a tuple

abbrev pair23_here : State
pair23_here = record { names = (((codes "a"), (node 0)) ∷ ((codes "t"), (node 1)) ∷ []); nodes = ((dict (((k.tuple ((k.integer (pos 1)) ∷ [])), (node 1)) ∷ [])) ∷ (tuple ((integer (pos 1)) ∷ [])) ∷ []) }

abbrev pair23_there : State
pair23_there = record { names = (((codes "a"), (node 0)) ∷ ((codes "t"), (node 2)) ∷ []); nodes = ((dict (((k.tuple ((k.integer (pos 1)) ∷ [])), (node 1)) ∷ [])) ∷ (tuple ((integer (pos 1)) ∷ [])) ∷ (tuple ((integer (pos 1)) ∷ [])) ∷ []) }

differ_1 : Same pair23_here pair23_there → ⊥
differ_1 = λ h. absurd (omega (arith, one_number 2 1 (h.shared_there (codes "t") [] (codes "a") (0 ∷ []) tt tt (1, refl, refl))))

differ_2 : Same pair23_there pair23_here → ⊥
differ_2 = λ h. absurd (omega (arith, one_number 2 1 (h.shared_here (codes "t") [] (codes "a") (0 ∷ []) tt tt (1, refl, refl))))

-- ---- the order of attributes counts

abbrev pair24_here : State
pair24_here = record { names = (((codes "a"), (node 0)) ∷ []); nodes = ((object (((codes "x"), (integer (pos 1))) ∷ ((codes "y"), (integer (pos 2))) ∷ [])) ∷ []) }

abbrev pair24_there : State
pair24_there = record { names = (((codes "a"), (node 0)) ∷ []); nodes = ((object (((codes "y"), (integer (pos 2))) ∷ ((codes "x"), (integer (pos 1))) ∷ [])) ∷ []) }

differ_3 : Same pair24_here pair24_there → ⊥
differ_3 = λ h. seen_apart (view pair24_here.nodes (node 0)) (view pair24_there.nodes (node 0)) refl refl (h.views (codes "a") [] tt)

differ_4 : Same pair24_there pair24_here → ⊥
differ_4 = λ h. seen_apart (view pair24_there.nodes (node 0)) (view pair24_here.nodes (node 0)) refl refl (h.views (codes "a") [] tt)

-- ---- an attribute less

abbrev pair25_here : State
pair25_here = record { names = (((codes "a"), (node 0)) ∷ []); nodes = ((object (((codes "x"), (integer (pos 1))) ∷ ((codes "y"), (integer (pos 2))) ∷ [])) ∷ []) }

abbrev pair25_there : State
pair25_there = record { names = (((codes "a"), (node 0)) ∷ []); nodes = ((object (((codes "x"), (integer (pos 1))) ∷ [])) ∷ []) }

differ_5 : Same pair25_here pair25_there → ⊥
differ_5 = λ h. seen_apart (view pair25_here.nodes (node 0)) (view pair25_there.nodes (node 0)) refl refl (h.views (codes "a") [] tt)

differ_6 : Same pair25_there pair25_here → ⊥
differ_6 = λ h. seen_apart (view pair25_there.nodes (node 0)) (view pair25_here.nodes (node 0)) refl refl (h.views (codes "a") [] tt)

-- ---- an object is no dict

abbrev pair26_here : State
pair26_here = record { names = (((codes "a"), (node 0)) ∷ []); nodes = ((object (((codes "x"), (integer (pos 1))) ∷ [])) ∷ []) }

abbrev pair26_there : State
pair26_there = record { names = (((codes "a"), (node 0)) ∷ []); nodes = ((dict (((k.single (k.text (codes "x"))), (integer (pos 1))) ∷ [])) ∷ []) }

differ_7 : Same pair26_here pair26_there → ⊥
differ_7 = λ h. seen_apart (view pair26_here.nodes (node 0)) (view pair26_there.nodes (node 0)) refl refl (h.views (codes "a") [] tt)

differ_8 : Same pair26_there pair26_here → ⊥
differ_8 = λ h. seen_apart (view pair26_there.nodes (node 0)) (view pair26_here.nodes (node 0)) refl refl (h.views (codes "a") [] tt)

-- ---- a function's code counts to its blanks

abbrev pair27_here : State
pair27_here = record { names = (((codes "a"), (node 0)) ∷ []); nodes = ((function One (codes "def f(): pass") []) ∷ []) }

abbrev pair27_there : State
pair27_there = record { names = (((codes "a"), (node 0)) ∷ []); nodes = ((function One (codes "def f():  pass") []) ∷ []) }

differ_9 : Same pair27_here pair27_there → ⊥
differ_9 = λ h. seen_apart (view pair27_here.nodes (node 0)) (view pair27_there.nodes (node 0)) refl refl (h.views (codes "a") [] tt)

differ_10 : Same pair27_there pair27_here → ⊥
differ_10 = λ h. seen_apart (view pair27_there.nodes (node 0)) (view pair27_here.nodes (node 0)) refl refl (h.views (codes "a") [] tt)

-- ---- a default counts

abbrev pair28_here : State
pair28_here = record { names = (((codes "a"), (node 0)) ∷ []); nodes = ((function One (codes "def f(b=1): pass") ((integer (pos 1)) ∷ [])) ∷ []) }

abbrev pair28_there : State
pair28_there = record { names = (((codes "a"), (node 0)) ∷ []); nodes = ((function One (codes "def f(b=1): pass") ((integer (pos 2)) ∷ [])) ∷ []) }

differ_11 : Same pair28_here pair28_there → ⊥
differ_11 = λ h. seen_apart (view pair28_here.nodes (integer (pos 1))) (view pair28_there.nodes (integer (pos 2))) refl refl (h.views (codes "a") (0 ∷ []) tt)

differ_12 : Same pair28_there pair28_here → ⊥
differ_12 = λ h. seen_apart (view pair28_there.nodes (integer (pos 2))) (view pair28_here.nodes (integer (pos 1))) refl refl (h.views (codes "a") (0 ∷ []) tt)

-- ---- one default of two functions

abbrev pair29_here : State
pair29_here = record { names = (((codes "f"), (node 0)) ∷ ((codes "g"), (node 2)) ∷ []); nodes = ((function One (codes "def f(b=[]): pass") ((node 1) ∷ [])) ∷ (list []) ∷ (function One (codes "def g(b=[]): pass") ((node 1) ∷ [])) ∷ []) }

abbrev pair29_there : State
pair29_there = record { names = (((codes "f"), (node 0)) ∷ ((codes "g"), (node 2)) ∷ []); nodes = ((function One (codes "def f(b=[]): pass") ((node 1) ∷ [])) ∷ (list []) ∷ (function One (codes "def g(b=[]): pass") ((node 3) ∷ [])) ∷ (list []) ∷ []) }

differ_13 : Same pair29_here pair29_there → ⊥
differ_13 = λ h. absurd (omega (arith, one_number 1 3 (h.shared_there (codes "f") (0 ∷ []) (codes "g") (0 ∷ []) tt tt (1, refl, refl))))

differ_14 : Same pair29_there pair29_here → ⊥
differ_14 = λ h. absurd (omega (arith, one_number 1 3 (h.shared_here (codes "f") (0 ∷ []) (codes "g") (0 ∷ []) tt tt (1, refl, refl))))

-- ---- an exception's class counts

abbrev pair30_here : State
pair30_here = record { names = (((codes "a"), (node 0)) ∷ []); nodes = ((exception 16 ((integer (pos 1)) ∷ [])) ∷ []) }

abbrev pair30_there : State
pair30_there = record { names = (((codes "a"), (node 0)) ∷ []); nodes = ((exception 14 ((integer (pos 1)) ∷ [])) ∷ []) }

differ_15 : Same pair30_here pair30_there → ⊥
differ_15 = λ h. seen_apart (view pair30_here.nodes (node 0)) (view pair30_there.nodes (node 0)) refl refl (h.views (codes "a") [] tt)

differ_16 : Same pair30_there pair30_here → ⊥
differ_16 = λ h. seen_apart (view pair30_there.nodes (node 0)) (view pair30_here.nodes (node 0)) refl refl (h.views (codes "a") [] tt)

-- ---- and its arguments

abbrev pair31_here : State
pair31_here = record { names = (((codes "a"), (node 0)) ∷ ((codes "b"), (node 1)) ∷ []); nodes = ((exception 24 ((node 1) ∷ [])) ∷ (list []) ∷ []) }

abbrev pair31_there : State
pair31_there = record { names = (((codes "a"), (node 0)) ∷ ((codes "b"), (node 2)) ∷ []); nodes = ((exception 24 ((node 1) ∷ [])) ∷ (list []) ∷ (list []) ∷ []) }

differ_17 : Same pair31_here pair31_there → ⊥
differ_17 = λ h. absurd (omega (arith, one_number 2 1 (h.shared_there (codes "b") [] (codes "a") (0 ∷ []) tt tt (1, refl, refl))))

differ_18 : Same pair31_there pair31_here → ⊥
differ_18 = λ h. absurd (omega (arith, one_number 2 1 (h.shared_here (codes "b") [] (codes "a") (0 ∷ []) tt tt (1, refl, refl))))

-- ---- what two names share

abbrev pair32_here : State
pair32_here = record { names = (((codes "a"), (node 0)) ∷ ((codes "b"), (node 1)) ∷ []); nodes = ((list ((node 1) ∷ [])) ∷ (list ((integer (pos 1)) ∷ [])) ∷ []) }

abbrev pair32_there : State
pair32_there = record { names = (((codes "a"), (node 0)) ∷ ((codes "b"), (node 2)) ∷ []); nodes = ((list ((node 1) ∷ [])) ∷ (list ((integer (pos 1)) ∷ [])) ∷ (list ((integer (pos 1)) ∷ [])) ∷ []) }

differ_19 : Same pair32_here pair32_there → ⊥
differ_19 = λ h. absurd (omega (arith, one_number 2 1 (h.shared_there (codes "b") [] (codes "a") (0 ∷ []) tt tt (1, refl, refl))))

differ_20 : Same pair32_there pair32_here → ⊥
differ_20 = λ h. absurd (omega (arith, one_number 2 1 (h.shared_here (codes "b") [] (codes "a") (0 ∷ []) tt tt (1, refl, refl))))

-- ---- what one name holds twice

abbrev pair33_here : State
pair33_here = record { names = (((codes "a"), (node 0)) ∷ []); nodes = ((list ((node 1) ∷ (node 1) ∷ [])) ∷ (list ((integer (pos 1)) ∷ [])) ∷ []) }

abbrev pair33_there : State
pair33_there = record { names = (((codes "a"), (node 0)) ∷ []); nodes = ((list ((node 1) ∷ (node 2) ∷ [])) ∷ (list ((integer (pos 1)) ∷ [])) ∷ (list ((integer (pos 1)) ∷ [])) ∷ []) }

differ_21 : Same pair33_here pair33_there → ⊥
differ_21 = λ h. absurd (omega (arith, one_number 1 2 (h.shared_there (codes "a") (0 ∷ []) (codes "a") (1 ∷ []) tt tt (1, refl, refl))))

differ_22 : Same pair33_there pair33_here → ⊥
differ_22 = λ h. absurd (omega (arith, one_number 1 2 (h.shared_here (codes "a") (0 ∷ []) (codes "a") (1 ∷ []) tt tt (1, refl, refl))))

-- ---- far inside

abbrev pair34_here : State
pair34_here = record { names = (((codes "a"), (node 0)) ∷ ((codes "b"), (integer (pos 0))) ∷ []); nodes = ((list ((node 1) ∷ [])) ∷ (list ((node 2) ∷ [])) ∷ (list ((integer (pos 1)) ∷ [])) ∷ []) }

abbrev pair34_there : State
pair34_there = record { names = (((codes "a"), (node 0)) ∷ ((codes "b"), (integer (pos 0))) ∷ []); nodes = ((list ((node 1) ∷ [])) ∷ (list ((node 2) ∷ [])) ∷ (list ((integer (pos 2)) ∷ [])) ∷ []) }

differ_23 : Same pair34_here pair34_there → ⊥
differ_23 = λ h. seen_apart (view pair34_here.nodes (integer (pos 1))) (view pair34_there.nodes (integer (pos 2))) refl refl (h.views (codes "a") (0 ∷ 0 ∷ 0 ∷ []) tt)

differ_24 : Same pair34_there pair34_here → ⊥
differ_24 = λ h. seen_apart (view pair34_there.nodes (integer (pos 2))) (view pair34_here.nodes (integer (pos 1))) refl refl (h.views (codes "a") (0 ∷ 0 ∷ 0 ∷ []) tt)

-- ---- for b alone they are the same

abbrev pair35_here : State
pair35_here = record { names = (((codes "a"), (integer (pos 1))) ∷ ((codes "b"), (node 0)) ∷ []); nodes = ((list ((integer (pos 1)) ∷ [])) ∷ []) }

abbrev pair35_there : State
pair35_there = record { names = (((codes "a"), (integer (pos 2))) ∷ ((codes "b"), (node 1)) ∷ []); nodes = ((list []) ∷ (list ((integer (pos 1)) ∷ [])) ∷ []) }

same_1 : SameOn pair35_here pair35_there ((codes "b") ∷ [])
unfolding reserved_words
same_1 = picture_same pair35_here pair35_there (sound_of pair35_here refl refl) (sound_of pair35_there refl refl) ((codes "b") ∷ []) refl

same_2 : SameOn pair35_there pair35_here ((codes "b") ∷ [])
unfolding reserved_words
same_2 = picture_same pair35_there pair35_here (sound_of pair35_there refl refl) (sound_of pair35_here refl refl) ((codes "b") ∷ []) refl

-- ---- and so they are for names that are bound in neither

abbrev pair36_here : State
pair36_here = record { names = (((codes "a"), (integer (pos 1))) ∷ []); nodes = [] }

abbrev pair36_there : State
pair36_there = record { names = (((codes "a"), (integer (pos 2))) ∷ []); nodes = [] }

same_3 : SameOn pair36_here pair36_there ((codes "b") ∷ (codes "c") ∷ [])
unfolding reserved_words
same_3 = picture_same pair36_here pair36_there (sound_of pair36_here refl refl) (sound_of pair36_there refl refl) ((codes "b") ∷ (codes "c") ∷ []) refl

same_4 : SameOn pair36_there pair36_here ((codes "b") ∷ (codes "c") ∷ [])
unfolding reserved_words
same_4 = picture_same pair36_there pair36_here (sound_of pair36_there refl refl) (sound_of pair36_here refl refl) ((codes "b") ∷ (codes "c") ∷ []) refl

-- ---- not where one is bound in one of them

abbrev pair37_here : State
pair37_here = record { names = (((codes "a"), (integer (pos 1))) ∷ ((codes "b"), (integer (pos 1))) ∷ []); nodes = [] }

abbrev pair37_there : State
pair37_there = record { names = (((codes "a"), (integer (pos 1))) ∷ []); nodes = [] }

differ_25 : SameOn pair37_here pair37_there ((codes "a") ∷ (codes "b") ∷ []) → ⊥
differ_25 = λ h. h.views (codes "b") [] (1, omega arith, refl)

differ_26 : SameOn pair37_there pair37_here ((codes "a") ∷ (codes "b") ∷ []) → ⊥
differ_26 = λ h. h.views (codes "b") [] (1, omega arith, refl)

-- ---- what is shared with a name that isn't asked about doesn't count

abbrev pair38_here : State
pair38_here = record { names = (((codes "a"), (node 0)) ∷ ((codes "b"), (node 0)) ∷ []); nodes = ((list ((integer (pos 1)) ∷ [])) ∷ []) }

abbrev pair38_there : State
pair38_there = record { names = (((codes "a"), (node 0)) ∷ ((codes "b"), (node 1)) ∷ []); nodes = ((list ((integer (pos 1)) ∷ [])) ∷ (list ((integer (pos 1)) ∷ [])) ∷ []) }

same_5 : SameOn pair38_here pair38_there ((codes "a") ∷ [])
unfolding reserved_words
same_5 = picture_same pair38_here pair38_there (sound_of pair38_here refl refl) (sound_of pair38_there refl refl) ((codes "a") ∷ []) refl

same_6 : SameOn pair38_there pair38_here ((codes "a") ∷ [])
unfolding reserved_words
same_6 = picture_same pair38_there pair38_here (sound_of pair38_there refl refl) (sound_of pair38_here refl refl) ((codes "a") ∷ []) refl

-- ---- nor in the other order

abbrev pair39_here : State
pair39_here = record { names = (((codes "a"), (node 0)) ∷ ((codes "b"), (node 1)) ∷ []); nodes = ((list ((integer (pos 1)) ∷ [])) ∷ (list ((integer (pos 1)) ∷ [])) ∷ []) }

abbrev pair39_there : State
pair39_there = record { names = (((codes "a"), (node 0)) ∷ ((codes "b"), (node 0)) ∷ []); nodes = ((list ((integer (pos 1)) ∷ [])) ∷ []) }

same_7 : SameOn pair39_here pair39_there ((codes "b") ∷ [])
unfolding reserved_words
same_7 = picture_same pair39_here pair39_there (sound_of pair39_here refl refl) (sound_of pair39_there refl refl) ((codes "b") ∷ []) refl

same_8 : SameOn pair39_there pair39_here ((codes "b") ∷ [])
unfolding reserved_words
same_8 = picture_same pair39_there pair39_here (sound_of pair39_there refl refl) (sound_of pair39_here refl refl) ((codes "b") ∷ []) refl

-- ---- with both names it does

abbrev pair40_here : State
pair40_here = record { names = (((codes "a"), (node 0)) ∷ ((codes "b"), (node 0)) ∷ []); nodes = ((list ((integer (pos 1)) ∷ [])) ∷ []) }

abbrev pair40_there : State
pair40_there = record { names = (((codes "a"), (node 0)) ∷ ((codes "b"), (node 1)) ∷ []); nodes = ((list ((integer (pos 1)) ∷ [])) ∷ (list ((integer (pos 1)) ∷ [])) ∷ []) }

differ_27 : SameOn pair40_here pair40_there ((codes "a") ∷ (codes "b") ∷ []) → ⊥
differ_27 = λ h. absurd (omega (arith, one_number 0 1 (h.shared_there (codes "a") [] (codes "b") [] (0, omega arith, refl) (1, omega arith, refl) (0, refl, refl))))

differ_28 : SameOn pair40_there pair40_here ((codes "a") ∷ (codes "b") ∷ []) → ⊥
differ_28 = λ h. absurd (omega (arith, one_number 0 1 (h.shared_here (codes "a") [] (codes "b") [] (0, omega arith, refl) (1, omega arith, refl) (0, refl, refl))))

-- ---- a path through a name that isn't asked about

abbrev pair41_here : State
pair41_here = record { names = (((codes "a"), (node 0)) ∷ ((codes "b"), (node 1)) ∷ ((codes "c"), (integer (pos 0))) ∷ []); nodes = ((list ((node 1) ∷ [])) ∷ (list ((integer (pos 1)) ∷ [])) ∷ []) }

abbrev pair41_there : State
pair41_there = record { names = (((codes "a"), (node 0)) ∷ ((codes "b"), (node 1)) ∷ ((codes "c"), (integer (pos 1))) ∷ []); nodes = ((list ((node 1) ∷ [])) ∷ (list ((integer (pos 1)) ∷ [])) ∷ []) }

same_9 : SameOn pair41_here pair41_there ((codes "a") ∷ (codes "b") ∷ [])
unfolding reserved_words
same_9 = picture_same pair41_here pair41_there (sound_of pair41_here refl refl) (sound_of pair41_there refl refl) ((codes "a") ∷ (codes "b") ∷ []) refl

same_10 : SameOn pair41_there pair41_here ((codes "a") ∷ (codes "b") ∷ [])
unfolding reserved_words
same_10 = picture_same pair41_there pair41_here (sound_of pair41_there refl refl) (sound_of pair41_here refl refl) ((codes "a") ∷ (codes "b") ∷ []) refl
