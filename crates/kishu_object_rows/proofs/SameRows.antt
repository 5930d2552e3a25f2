-- Which states are the same: those that are by the pictures of their names, and the others by a path that shows how they differ. Made by tools/rows/same_rows.py.
use Rattle.std.specs.Prelude.{◌≡◌, ℕ, pos, true, false, [], ◌∷◌, codes, Some, refl}
use Rattle.std.specs.Prelude.{Bool}
use Rattle.std.proofs.Common.{sym, ◌∙◌, ap, arith}
use Rattle.std.proofs.lemmas.Bool.{false≢true}
use Rattle.kishu_language.specs.tokens.Names.{reserved_words}
use Rattle.kishu_meaning.specs.values.Keys as k
use Rattle.kishu_meaning.specs.values.Values.{none, bool, integer, text, range, builtin, class, node, list, tuple, dict, State}
use Rattle.kishu_objects.specs.Same.{Same, View, plain, inside, view}
use Rattle.kishu_objects_laws.specs.SoundLaws.{sound_of}
use Rattle.kishu_objects_laws.specs.WholeLaws.{whole_same}
use Rattle.kishu_history.specs.Alike.{is_value, is_node}

-- whether two views are one, by the test of values and nodes
abbrev is_seen : View → View → Bool
is_seen (plain v) (plain w) = is_value v w
is_seen (inside n) (inside m) = is_node n m
is_seen a b = false

-- Where the test tells two apart, they are.
seen_apart : (a b : View) → is_seen a b ≡ false → is_seen a a ≡ true → a ≡ b → ⊥
seen_apart a b other same e = false≢true (sym other ∙ ap (λ c. is_seen a c) (sym e) ∙ same)

-- Two paths that reach one node reach one number.
one_number : (j k : ℕ) → (i : ℕ) × (Some (node j) ≡ Some (node i)) × (Some (node k) ≡ Some (node i)) → j ≡ k
one_number j k (i, e, f) = cc

-- ---- node numbers don't count

abbrev pair1_here : State
pair1_here = record { names = (((codes "a"), (node 0)) ∷ []); nodes = ((list ((node 1) ∷ (node 2) ∷ (node 1) ∷ [])) ∷ (list ((integer (pos 1)) ∷ [])) ∷ (list ((integer (pos 2)) ∷ [])) ∷ []) }

abbrev pair1_there : State
pair1_there = record { names = (((codes "a"), (node 1)) ∷ []); nodes = ((list ((integer (pos 1)) ∷ [])) ∷ (list ((node 0) ∷ (node 2) ∷ (node 0) ∷ [])) ∷ (list ((integer (pos 2)) ∷ [])) ∷ (list []) ∷ []) }

same_1 : Same pair1_here pair1_there
unfolding reserved_words
same_1 = whole_same pair1_here pair1_there (sound_of pair1_here refl refl) (sound_of pair1_there refl refl) refl

same_2 : Same pair1_there pair1_here
unfolding reserved_words
same_2 = whole_same pair1_there pair1_here (sound_of pair1_there refl refl) (sound_of pair1_here refl refl) refl

-- ---- nor do nodes that nothing reaches

abbrev pair2_here : State
pair2_here = record { names = (((codes "a"), (node 0)) ∷ []); nodes = ((list ((integer (pos 1)) ∷ [])) ∷ []) }

abbrev pair2_there : State
pair2_there = record { names = (((codes "a"), (node 3)) ∷ []); nodes = ((list []) ∷ (tuple ((node 2) ∷ [])) ∷ (list []) ∷ (list ((integer (pos 1)) ∷ [])) ∷ []) }

same_3 : Same pair2_here pair2_there
unfolding reserved_words
same_3 = whole_same pair2_here pair2_there (sound_of pair2_here refl refl) (sound_of pair2_there refl refl) refl

same_4 : Same pair2_there pair2_here
unfolding reserved_words
same_4 = whole_same pair2_there pair2_here (sound_of pair2_there refl refl) (sound_of pair2_here refl refl) refl

-- ---- a list in itself is none that holds another one

abbrev pair3_here : State
pair3_here = record { names = (((codes "a"), (node 0)) ∷ []); nodes = ((list ((node 0) ∷ [])) ∷ []) }

abbrev pair3_there : State
pair3_there = record { names = (((codes "a"), (node 0)) ∷ []); nodes = ((list ((node 1) ∷ [])) ∷ (list ((node 0) ∷ [])) ∷ []) }

differ_1 : Same pair3_here pair3_there → ⊥
differ_1 = λ h. absurd (omega (arith, one_number 0 1 (h.shared_there (codes "a") [] (codes "a") (0 ∷ []) tt tt (0, refl, refl))))

differ_2 : Same pair3_there pair3_here → ⊥
differ_2 = λ h. absurd (omega (arith, one_number 0 1 (h.shared_here (codes "a") [] (codes "a") (0 ∷ []) tt tt (0, refl, refl))))

-- ---- nor one whose item holds itself

abbrev pair4_here : State
pair4_here = record { names = (((codes "a"), (node 0)) ∷ []); nodes = ((list ((node 0) ∷ [])) ∷ []) }

abbrev pair4_there : State
pair4_there = record { names = (((codes "a"), (node 0)) ∷ []); nodes = ((list ((node 1) ∷ [])) ∷ (list ((node 1) ∷ [])) ∷ []) }

differ_3 : Same pair4_here pair4_there → ⊥
differ_3 = λ h. absurd (omega (arith, one_number 0 1 (h.shared_there (codes "a") [] (codes "a") (0 ∷ []) tt tt (0, refl, refl))))

differ_4 : Same pair4_there pair4_here → ⊥
differ_4 = λ h. absurd (omega (arith, one_number 0 1 (h.shared_here (codes "a") [] (codes "a") (0 ∷ []) tt tt (0, refl, refl))))

-- ---- a ring of three is no ring of two

abbrev pair5_here : State
pair5_here = record { names = (((codes "a"), (node 0)) ∷ []); nodes = ((list ((node 1) ∷ [])) ∷ (list ((node 2) ∷ [])) ∷ (list ((node 0) ∷ [])) ∷ []) }

abbrev pair5_there : State
pair5_there = record { names = (((codes "a"), (node 0)) ∷ []); nodes = ((list ((node 1) ∷ [])) ∷ (list ((node 0) ∷ [])) ∷ []) }

differ_5 : Same pair5_here pair5_there → ⊥
differ_5 = λ h. absurd (omega (arith, one_number 0 2 (h.shared_here (codes "a") [] (codes "a") (0 ∷ 0 ∷ []) tt tt (0, refl, refl))))

differ_6 : Same pair5_there pair5_here → ⊥
differ_6 = λ h. absurd (omega (arith, one_number 0 2 (h.shared_there (codes "a") [] (codes "a") (0 ∷ 0 ∷ []) tt tt (0, refl, refl))))

-- ---- rings are the same wherever their nodes stand

abbrev pair6_here : State
pair6_here = record { names = (((codes "a"), (node 0)) ∷ []); nodes = ((list ((node 1) ∷ [])) ∷ (list ((node 2) ∷ [])) ∷ (list ((node 0) ∷ [])) ∷ []) }

abbrev pair6_there : State
pair6_there = record { names = (((codes "a"), (node 2)) ∷ []); nodes = ((list ((node 2) ∷ [])) ∷ (list ((node 0) ∷ [])) ∷ (list ((node 1) ∷ [])) ∷ []) }

same_5 : Same pair6_here pair6_there
unfolding reserved_words
same_5 = whole_same pair6_here pair6_there (sound_of pair6_here refl refl) (sound_of pair6_there refl refl) refl

same_6 : Same pair6_there pair6_here
unfolding reserved_words
same_6 = whole_same pair6_there pair6_here (sound_of pair6_there refl refl) (sound_of pair6_here refl refl) refl

-- ---- one name more

abbrev pair7_here : State
pair7_here = record { names = (((codes "a"), (integer (pos 1))) ∷ []); nodes = [] }

abbrev pair7_there : State
pair7_there = record { names = (((codes "a"), (integer (pos 1))) ∷ ((codes "b"), (integer (pos 1))) ∷ []); nodes = [] }

differ_7 : Same pair7_here pair7_there → ⊥
differ_7 = λ h. h.views (codes "b") [] tt

differ_8 : Same pair7_there pair7_here → ⊥
differ_8 = λ h. h.views (codes "b") [] tt

-- ---- another name

abbrev pair8_here : State
pair8_here = record { names = (((codes "a"), (integer (pos 1))) ∷ []); nodes = [] }

abbrev pair8_there : State
pair8_there = record { names = (((codes "b"), (integer (pos 1))) ∷ []); nodes = [] }

differ_9 : Same pair8_here pair8_there → ⊥
differ_9 = λ h. h.views (codes "a") [] tt

differ_10 : Same pair8_there pair8_here → ⊥
differ_10 = λ h. h.views (codes "a") [] tt

-- ---- no names

abbrev pair9_here : State
pair9_here = record { names = []; nodes = ((list []) ∷ []) }

abbrev pair9_there : State
pair9_there = record { names = []; nodes = [] }

same_7 : Same pair9_here pair9_there
unfolding reserved_words
same_7 = whole_same pair9_here pair9_there (sound_of pair9_here refl refl) (sound_of pair9_there refl refl) refl

same_8 : Same pair9_there pair9_here
unfolding reserved_words
same_8 = whole_same pair9_there pair9_here (sound_of pair9_there refl refl) (sound_of pair9_here refl refl) refl

-- ---- 1 and True are two values

abbrev pair10_here : State
pair10_here = record { names = (((codes "a"), (integer (pos 1))) ∷ []); nodes = [] }

abbrev pair10_there : State
pair10_there = record { names = (((codes "a"), (bool true)) ∷ []); nodes = [] }

differ_11 : Same pair10_here pair10_there → ⊥
differ_11 = λ h. seen_apart (view pair10_here.nodes (integer (pos 1))) (view pair10_there.nodes (bool true)) refl refl (h.views (codes "a") [] tt)

differ_12 : Same pair10_there pair10_here → ⊥
differ_12 = λ h. seen_apart (view pair10_there.nodes (bool true)) (view pair10_here.nodes (integer (pos 1))) refl refl (h.views (codes "a") [] tt)

-- ---- 0, False, None and '' are four

abbrev pair11_here : State
pair11_here = record { names = (((codes "a"), (integer (pos 0))) ∷ ((codes "b"), none) ∷ []); nodes = [] }

abbrev pair11_there : State
pair11_there = record { names = (((codes "a"), (integer (pos 0))) ∷ ((codes "b"), (text [])) ∷ []); nodes = [] }

differ_13 : Same pair11_here pair11_there → ⊥
differ_13 = λ h. seen_apart (view pair11_here.nodes none) (view pair11_there.nodes (text [])) refl refl (h.views (codes "b") [] tt)

differ_14 : Same pair11_there pair11_here → ⊥
differ_14 = λ h. seen_apart (view pair11_there.nodes (text [])) (view pair11_here.nodes none) refl refl (h.views (codes "b") [] tt)

-- ---- texts by their code points

abbrev pair12_here : State
pair12_here = record { names = (((codes "a"), (text (233 ∷ []))) ∷ []); nodes = [] }

abbrev pair12_there : State
pair12_there = record { names = (((codes "a"), (text (101 ∷ 769 ∷ []))) ∷ []); nodes = [] }

differ_15 : Same pair12_here pair12_there → ⊥
differ_15 = λ h. seen_apart (view pair12_here.nodes (text (233 ∷ []))) (view pair12_there.nodes (text (101 ∷ 769 ∷ []))) refl refl (h.views (codes "a") [] tt)

differ_16 : Same pair12_there pair12_here → ⊥
differ_16 = λ h. seen_apart (view pair12_there.nodes (text (101 ∷ 769 ∷ []))) (view pair12_here.nodes (text (233 ∷ []))) refl refl (h.views (codes "a") [] tt)

-- ---- equal ranges with other numbers are two values

abbrev pair13_here : State
pair13_here = record { names = (((codes "a"), (range (pos 0) (pos 3) (pos 2))) ∷ []); nodes = [] }

abbrev pair13_there : State
pair13_there = record { names = (((codes "a"), (range (pos 0) (pos 4) (pos 2))) ∷ []); nodes = [] }

differ_17 : Same pair13_here pair13_there → ⊥
differ_17 = λ h. seen_apart (view pair13_here.nodes (range (pos 0) (pos 3) (pos 2))) (view pair13_there.nodes (range (pos 0) (pos 4) (pos 2))) refl refl (h.views (codes "a") [] tt)

differ_18 : Same pair13_there pair13_here → ⊥
differ_18 = λ h. seen_apart (view pair13_there.nodes (range (pos 0) (pos 4) (pos 2))) (view pair13_here.nodes (range (pos 0) (pos 3) (pos 2))) refl refl (h.views (codes "a") [] tt)

-- ---- a builtin function and a class of one number

abbrev pair14_here : State
pair14_here = record { names = (((codes "a"), (builtin 1)) ∷ []); nodes = [] }

abbrev pair14_there : State
pair14_there = record { names = (((codes "a"), (class 1)) ∷ []); nodes = [] }

differ_19 : Same pair14_here pair14_there → ⊥
differ_19 = λ h. seen_apart (view pair14_here.nodes (builtin 1)) (view pair14_there.nodes (class 1)) refl refl (h.views (codes "a") [] tt)

differ_20 : Same pair14_there pair14_here → ⊥
differ_20 = λ h. seen_apart (view pair14_there.nodes (class 1)) (view pair14_here.nodes (builtin 1)) refl refl (h.views (codes "a") [] tt)

-- ---- a list is no tuple

abbrev pair15_here : State
pair15_here = record { names = (((codes "a"), (node 0)) ∷ []); nodes = ((list ((integer (pos 1)) ∷ [])) ∷ []) }

abbrev pair15_there : State
pair15_there = record { names = (((codes "a"), (node 0)) ∷ []); nodes = ((tuple ((integer (pos 1)) ∷ [])) ∷ []) }

differ_21 : Same pair15_here pair15_there → ⊥
differ_21 = λ h. seen_apart (view pair15_here.nodes (node 0)) (view pair15_there.nodes (node 0)) refl refl (h.views (codes "a") [] tt)

differ_22 : Same pair15_there pair15_here → ⊥
differ_22 = λ h. seen_apart (view pair15_there.nodes (node 0)) (view pair15_here.nodes (node 0)) refl refl (h.views (codes "a") [] tt)

-- ---- one item more

abbrev pair16_here : State
pair16_here = record { names = (((codes "a"), (node 0)) ∷ []); nodes = ((list ((integer (pos 1)) ∷ [])) ∷ []) }

abbrev pair16_there : State
pair16_there = record { names = (((codes "a"), (node 0)) ∷ []); nodes = ((list ((integer (pos 1)) ∷ (integer (pos 2)) ∷ [])) ∷ []) }

differ_23 : Same pair16_here pair16_there → ⊥
differ_23 = λ h. seen_apart (view pair16_here.nodes (node 0)) (view pair16_there.nodes (node 0)) refl refl (h.views (codes "a") [] tt)

differ_24 : Same pair16_there pair16_here → ⊥
differ_24 = λ h. seen_apart (view pair16_there.nodes (node 0)) (view pair16_here.nodes (node 0)) refl refl (h.views (codes "a") [] tt)

-- ---- a child that is a node, and one that isn't

abbrev pair17_here : State
pair17_here = record { names = (((codes "a"), (node 0)) ∷ []); nodes = ((list ((node 1) ∷ [])) ∷ (list []) ∷ []) }

abbrev pair17_there : State
pair17_there = record { names = (((codes "a"), (node 0)) ∷ []); nodes = ((list (none ∷ [])) ∷ []) }

differ_25 : Same pair17_here pair17_there → ⊥
differ_25 = λ h. seen_apart (view pair17_here.nodes (node 1)) (view pair17_there.nodes none) refl refl (h.views (codes "a") (0 ∷ []) tt)

differ_26 : Same pair17_there pair17_here → ⊥
differ_26 = λ h. seen_apart (view pair17_there.nodes none) (view pair17_here.nodes (node 1)) refl refl (h.views (codes "a") (0 ∷ []) tt)

-- ---- the order of a dict's keys counts

abbrev pair18_here : State
pair18_here = record { names = (((codes "a"), (node 0)) ∷ []); nodes = ((dict (((k.single (k.integer (pos 1))), none) ∷ ((k.single (k.text (codes "k"))), none) ∷ [])) ∷ []) }

abbrev pair18_there : State
pair18_there = record { names = (((codes "a"), (node 0)) ∷ []); nodes = ((dict (((k.single (k.text (codes "k"))), none) ∷ ((k.single (k.integer (pos 1))), none) ∷ [])) ∷ []) }

differ_27 : Same pair18_here pair18_there → ⊥
differ_27 = λ h. seen_apart (view pair18_here.nodes (node 0)) (view pair18_there.nodes (node 0)) refl refl (h.views (codes "a") [] tt)

differ_28 : Same pair18_there pair18_here → ⊥
differ_28 = λ h. seen_apart (view pair18_there.nodes (node 0)) (view pair18_here.nodes (node 0)) refl refl (h.views (codes "a") [] tt)

-- ---- a key 1 is no key True

abbrev pair19_here : State
pair19_here = record { names = (((codes "a"), (node 0)) ∷ []); nodes = ((dict (((k.single (k.integer (pos 1))), (integer (pos 0))) ∷ [])) ∷ []) }

abbrev pair19_there : State
pair19_there = record { names = (((codes "a"), (node 0)) ∷ []); nodes = ((dict (((k.single (k.bool true)), (integer (pos 0))) ∷ [])) ∷ []) }

differ_29 : Same pair19_here pair19_there → ⊥
differ_29 = λ h. seen_apart (view pair19_here.nodes (node 0)) (view pair19_there.nodes (node 0)) refl refl (h.views (codes "a") [] tt)

differ_30 : Same pair19_there pair19_here → ⊥
differ_30 = λ h. seen_apart (view pair19_there.nodes (node 0)) (view pair19_here.nodes (node 0)) refl refl (h.views (codes "a") [] tt)

-- ---- a tuple key is kept by what it holds

abbrev pair20_here : State
pair20_here = record { names = (((codes "a"), (node 0)) ∷ []); nodes = ((dict (((k.tuple ((k.integer (pos 1)) ∷ (k.text (codes "k")) ∷ [])), (integer (pos 0))) ∷ [])) ∷ []) }

abbrev pair20_there : State
pair20_there = record { names = (((codes "a"), (node 1)) ∷ []); nodes = ((list []) ∷ (dict (((k.tuple ((k.integer (pos 1)) ∷ (k.text (codes "k")) ∷ [])), (integer (pos 0))) ∷ [])) ∷ []) }

same_9 : Same pair20_here pair20_there
unfolding reserved_words
same_9 = whole_same pair20_here pair20_there (sound_of pair20_here refl refl) (sound_of pair20_there refl refl) refl

same_10 : Same pair20_there pair20_here
unfolding reserved_words
same_10 = whole_same pair20_there pair20_here (sound_of pair20_there refl refl) (sound_of pair20_here refl refl) refl

-- ---- a key (1,) is no key 1

abbrev pair21_here : State
pair21_here = record { names = (((codes "a"), (node 0)) ∷ []); nodes = ((dict (((k.tuple ((k.integer (pos 1)) ∷ [])), (integer (pos 0))) ∷ [])) ∷ []) }

abbrev pair21_there : State
pair21_there = record { names = (((codes "a"), (node 0)) ∷ []); nodes = ((dict (((k.single (k.integer (pos 1))), (integer (pos 0))) ∷ [])) ∷ []) }

differ_31 : Same pair21_here pair21_there → ⊥
differ_31 = λ h. seen_apart (view pair21_here.nodes (node 0)) (view pair21_there.nodes (node 0)) refl refl (h.views (codes "a") [] tt)

differ_32 : Same pair21_there pair21_here → ⊥
differ_32 = λ h. seen_apart (view pair21_there.nodes (node 0)) (view pair21_here.nodes (node 0)) refl refl (h.views (codes "a") [] tt)

-- ---- a key () is no key ((),)'s kin None

abbrev pair22_here : State
pair22_here = record { names = (((codes "a"), (node 0)) ∷ []); nodes = ((dict (((k.tuple []), (integer (pos 0))) ∷ [])) ∷ []) }

abbrev pair22_there : State
pair22_there = record { names = (((codes "a"), (node 0)) ∷ []); nodes = ((dict (((k.single k.none), (integer (pos 0))) ∷ [])) ∷ []) }

differ_33 : Same pair22_here pair22_there → ⊥
differ_33 = λ h. seen_apart (view pair22_here.nodes (node 0)) (view pair22_there.nodes (node 0)) refl refl (h.views (codes "a") [] tt)

differ_34 : Same pair22_there pair22_here → ⊥
differ_34 = λ h. seen_apart (view pair22_there.nodes (node 0)) (view pair22_here.nodes (node 0)) refl refl (h.views (codes "a") [] tt)
