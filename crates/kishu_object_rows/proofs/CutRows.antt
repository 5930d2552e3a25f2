-- Which groups cut a state, and which don't. Made by tools/rows/checkout_rows.py.
use Rattle.std.specs.Prelude.{◌≡◌, ℕ, true, false, List, [], ◌∷◌, codes, refl}
use Rattle.std.specs.List.{list_any}
use Rattle.std.proofs.Common.{sym, ◌∙◌, subst, inl, inr}
use Rattle.std.proofs.lemmas.Bool.{false≢true}
use Rattle.kishu_language.specs.tokens.Names.{reserved_words, is_among}
use Rattle.kishu_meaning.specs.values.Values.{State}
use Rattle.kishu_objects.specs.Picture.{listed}
use Rattle.kishu_objects.specs.Lists.{In}
use Rattle.kishu_history.specs.Changed.{Group, is_group}
use Rattle.kishu_history.specs.Cut.{IsCut}
use Rattle.kishu_history_laws.specs.Choices.{in_any, group_decides, among_decides, false_no}
use Rattle.kishu_history_laws.specs.cells.LeavesLaws.{groups_are_cut}
use Rattle.kishu_objects_laws.specs.SoundLaws.{sound_of}
use Rattle.kishu_object_rows.proofs.States.{unbound, plain, shared, apart, itself, round, linked, parted, default, defaults, keyed, raised, object_round, wide, diamond, inside, equal, long_chain, twice, twice_there, thrice, once_each}

-- All names in one group cut a state.
one_cut : (s : State) → IsCut (listed s ∷ []) s
one_cut s = record {
  bound = λ x. (λ m. (listed s, inl refl, m), λ k. subst (λ g. In x g) (only k.0 k.1) k.2);
  apart = λ g h x y m n a b t. only g m ∙ sym (only h n);
  one = λ g h x m n a b. only g m ∙ sym (only h n);
}
  where
    only : (g : Group) → In g (listed s ∷ []) → g ≡ listed s
    only g (inl e) = e
    only g (inr n) = absurd n

nowhere : (x : List ℕ) (gs : List Group) → list_any (λ g. is_among x g) gs ≡ false → ((g : Group) × In g gs × In x g) → ⊥
nowhere x gs e k = false≢true (sym e ∙ in_any (λ g. is_among x g) gs k.0 k.1 ((among_decides x k.0).1 k.2))

unbound_name : (x : List ℕ) (s : State) → is_among x (listed s) ≡ false → In x (listed s) → ⊥
unbound_name x s e = false_no (is_among x (listed s)) (among_decides x (listed s)) e

two_groups : (g h : Group) → is_group g h ≡ false → g ≡ h → ⊥
two_groups g h e = false_no (is_group g h) (group_decides g h) e

-- ---- no name is bound, and one node stands

cut_1 : IsCut [] unbound
unfolding reserved_words
cut_1 = groups_are_cut unbound (sound_of unbound refl refl)

no_cut_1 : IsCut (((codes "zz") ∷ []) ∷ []) unbound → ⊥
no_cut_1 = λ h. unbound_name (codes "zz") unbound refl ((h.bound (codes "zz")).1 (((codes "zz") ∷ []), (inl refl), inl refl))

-- ---- values without an identity, at names in byte order

cut_2 : IsCut (((codes "Z") ∷ []) ∷ ((codes "_") ∷ []) ∷ ((codes "a") ∷ []) ∷ ((codes "a1") ∷ []) ∷ ((codes "aa") ∷ []) ∷ ((codes "b") ∷ []) ∷ ((codes "c") ∷ []) ∷ []) plain
unfolding reserved_words
cut_2 = groups_are_cut plain (sound_of plain refl refl)

cut_3 : IsCut (((codes "Z") ∷ (codes "_") ∷ (codes "a") ∷ (codes "a1") ∷ (codes "aa") ∷ (codes "b") ∷ (codes "c") ∷ []) ∷ []) plain
cut_3 = one_cut plain

no_cut_2 : IsCut (((codes "Z") ∷ []) ∷ ((codes "_") ∷ []) ∷ ((codes "a") ∷ []) ∷ ((codes "a1") ∷ []) ∷ ((codes "aa") ∷ []) ∷ ((codes "b") ∷ []) ∷ []) plain → ⊥
no_cut_2 = λ h. nowhere (codes "c") (((codes "Z") ∷ []) ∷ ((codes "_") ∷ []) ∷ ((codes "a") ∷ []) ∷ ((codes "a1") ∷ []) ∷ ((codes "aa") ∷ []) ∷ ((codes "b") ∷ []) ∷ []) refl ((h.bound (codes "c")).0 (inr (inr (inr (inr (inr (inr (inl refl))))))))

no_cut_3 : IsCut (((codes "Z") ∷ []) ∷ ((codes "_") ∷ []) ∷ ((codes "a") ∷ []) ∷ ((codes "a1") ∷ []) ∷ ((codes "aa") ∷ []) ∷ ((codes "b") ∷ []) ∷ ((codes "c") ∷ []) ∷ ((codes "zz") ∷ []) ∷ []) plain → ⊥
no_cut_3 = λ h. unbound_name (codes "zz") plain refl ((h.bound (codes "zz")).1 (((codes "zz") ∷ []), (inr (inr (inr (inr (inr (inr (inr (inl refl)))))))), inl refl))

no_cut_4 : IsCut (((codes "Z") ∷ (codes "_") ∷ (codes "a") ∷ (codes "a1") ∷ (codes "aa") ∷ (codes "b") ∷ (codes "c") ∷ []) ∷ ((codes "Z") ∷ []) ∷ []) plain → ⊥
no_cut_4 = λ h. two_groups ((codes "Z") ∷ (codes "_") ∷ (codes "a") ∷ (codes "a1") ∷ (codes "aa") ∷ (codes "b") ∷ (codes "c") ∷ []) ((codes "Z") ∷ []) refl (h.one ((codes "Z") ∷ (codes "_") ∷ (codes "a") ∷ (codes "a1") ∷ (codes "aa") ∷ (codes "b") ∷ (codes "c") ∷ []) ((codes "Z") ∷ []) (codes "Z") (inl refl) (inr (inl refl)) (inl refl) (inl refl))

-- ---- a = [1]; b = a

cut_4 : IsCut (((codes "a") ∷ (codes "b") ∷ []) ∷ []) shared
unfolding reserved_words
cut_4 = groups_are_cut shared (sound_of shared refl refl)

no_cut_5 : IsCut [] shared → ⊥
no_cut_5 = λ h. nowhere (codes "b") [] refl ((h.bound (codes "b")).0 (inr (inl refl)))

no_cut_6 : IsCut (((codes "a") ∷ (codes "b") ∷ []) ∷ ((codes "zz") ∷ []) ∷ []) shared → ⊥
no_cut_6 = λ h. unbound_name (codes "zz") shared refl ((h.bound (codes "zz")).1 (((codes "zz") ∷ []), (inr (inl refl)), inl refl))

no_cut_7 : IsCut (((codes "a") ∷ []) ∷ ((codes "b") ∷ []) ∷ []) shared → ⊥
no_cut_7 = λ h. two_groups ((codes "a") ∷ []) ((codes "b") ∷ []) refl (h.apart ((codes "a") ∷ []) ((codes "b") ∷ []) (codes "a") (codes "b") (inl refl) (inr (inl refl)) (inl refl) (inl refl) (1, ([], refl), ([], refl)))

no_cut_8 : IsCut (((codes "a") ∷ (codes "b") ∷ []) ∷ ((codes "a") ∷ []) ∷ []) shared → ⊥
no_cut_8 = λ h. two_groups ((codes "a") ∷ (codes "b") ∷ []) ((codes "a") ∷ []) refl (h.one ((codes "a") ∷ (codes "b") ∷ []) ((codes "a") ∷ []) (codes "a") (inl refl) (inr (inl refl)) (inl refl) (inl refl))

-- ---- a = [1]; b = [1]

cut_5 : IsCut (((codes "a") ∷ []) ∷ ((codes "b") ∷ []) ∷ []) apart
unfolding reserved_words
cut_5 = groups_are_cut apart (sound_of apart refl refl)

cut_6 : IsCut (((codes "a") ∷ (codes "b") ∷ []) ∷ []) apart
cut_6 = one_cut apart

no_cut_9 : IsCut (((codes "a") ∷ []) ∷ []) apart → ⊥
no_cut_9 = λ h. nowhere (codes "b") (((codes "a") ∷ []) ∷ []) refl ((h.bound (codes "b")).0 (inr (inl refl)))

no_cut_10 : IsCut (((codes "a") ∷ []) ∷ ((codes "b") ∷ []) ∷ ((codes "zz") ∷ []) ∷ []) apart → ⊥
no_cut_10 = λ h. unbound_name (codes "zz") apart refl ((h.bound (codes "zz")).1 (((codes "zz") ∷ []), (inr (inr (inl refl))), inl refl))

no_cut_11 : IsCut (((codes "a") ∷ (codes "b") ∷ []) ∷ ((codes "a") ∷ []) ∷ []) apart → ⊥
no_cut_11 = λ h. two_groups ((codes "a") ∷ (codes "b") ∷ []) ((codes "a") ∷ []) refl (h.one ((codes "a") ∷ (codes "b") ∷ []) ((codes "a") ∷ []) (codes "a") (inl refl) (inr (inl refl)) (inl refl) (inl refl))

-- ---- a = []; a.append(a)

cut_7 : IsCut (((codes "a") ∷ []) ∷ []) itself
unfolding reserved_words
cut_7 = groups_are_cut itself (sound_of itself refl refl)

no_cut_12 : IsCut [] itself → ⊥
no_cut_12 = λ h. nowhere (codes "a") [] refl ((h.bound (codes "a")).0 (inl refl))

no_cut_13 : IsCut (((codes "a") ∷ []) ∷ ((codes "zz") ∷ []) ∷ []) itself → ⊥
no_cut_13 = λ h. unbound_name (codes "zz") itself refl ((h.bound (codes "zz")).1 (((codes "zz") ∷ []), (inr (inl refl)), inl refl))

-- ---- a and b hold each other

cut_8 : IsCut (((codes "a") ∷ (codes "b") ∷ []) ∷ []) round
unfolding reserved_words
cut_8 = groups_are_cut round (sound_of round refl refl)

no_cut_14 : IsCut [] round → ⊥
no_cut_14 = λ h. nowhere (codes "b") [] refl ((h.bound (codes "b")).0 (inr (inl refl)))

no_cut_15 : IsCut (((codes "a") ∷ (codes "b") ∷ []) ∷ ((codes "zz") ∷ []) ∷ []) round → ⊥
no_cut_15 = λ h. unbound_name (codes "zz") round refl ((h.bound (codes "zz")).1 (((codes "zz") ∷ []), (inr (inl refl)), inl refl))

no_cut_16 : IsCut (((codes "a") ∷ []) ∷ ((codes "b") ∷ []) ∷ []) round → ⊥
no_cut_16 = λ h. two_groups ((codes "a") ∷ []) ((codes "b") ∷ []) refl (h.apart ((codes "a") ∷ []) ((codes "b") ∷ []) (codes "a") (codes "b") (inl refl) (inr (inl refl)) (inl refl) (inl refl) (1, ([], refl), ((0 ∷ []), refl)))

no_cut_17 : IsCut (((codes "a") ∷ (codes "b") ∷ []) ∷ ((codes "a") ∷ []) ∷ []) round → ⊥
no_cut_17 = λ h. two_groups ((codes "a") ∷ (codes "b") ∷ []) ((codes "a") ∷ []) refl (h.one ((codes "a") ∷ (codes "b") ∷ []) ((codes "a") ∷ []) (codes "a") (inl refl) (inr (inl refl)) (inl refl) (inl refl))

-- ---- x and z share nothing, and y holds both

cut_9 : IsCut (((codes "x") ∷ (codes "y") ∷ (codes "z") ∷ []) ∷ []) linked
unfolding reserved_words
cut_9 = groups_are_cut linked (sound_of linked refl refl)

no_cut_18 : IsCut [] linked → ⊥
no_cut_18 = λ h. nowhere (codes "z") [] refl ((h.bound (codes "z")).0 (inr (inr (inl refl))))

no_cut_19 : IsCut (((codes "x") ∷ (codes "y") ∷ (codes "z") ∷ []) ∷ ((codes "zz") ∷ []) ∷ []) linked → ⊥
no_cut_19 = λ h. unbound_name (codes "zz") linked refl ((h.bound (codes "zz")).1 (((codes "zz") ∷ []), (inr (inl refl)), inl refl))

no_cut_20 : IsCut (((codes "x") ∷ []) ∷ ((codes "y") ∷ (codes "z") ∷ []) ∷ []) linked → ⊥
no_cut_20 = λ h. two_groups ((codes "x") ∷ []) ((codes "y") ∷ (codes "z") ∷ []) refl (h.apart ((codes "x") ∷ []) ((codes "y") ∷ (codes "z") ∷ []) (codes "x") (codes "y") (inl refl) (inr (inl refl)) (inl refl) (inl refl) (2, ([], refl), ((0 ∷ []), refl)))

no_cut_21 : IsCut (((codes "x") ∷ (codes "y") ∷ (codes "z") ∷ []) ∷ ((codes "x") ∷ []) ∷ []) linked → ⊥
no_cut_21 = λ h. two_groups ((codes "x") ∷ (codes "y") ∷ (codes "z") ∷ []) ((codes "x") ∷ []) refl (h.one ((codes "x") ∷ (codes "y") ∷ (codes "z") ∷ []) ((codes "x") ∷ []) (codes "x") (inl refl) (inr (inl refl)) (inl refl) (inl refl))

-- ---- as `linked`, with y bound to a number

cut_10 : IsCut (((codes "x") ∷ []) ∷ ((codes "y") ∷ []) ∷ ((codes "z") ∷ []) ∷ []) parted
unfolding reserved_words
cut_10 = groups_are_cut parted (sound_of parted refl refl)

cut_11 : IsCut (((codes "x") ∷ (codes "y") ∷ (codes "z") ∷ []) ∷ []) parted
cut_11 = one_cut parted

no_cut_22 : IsCut (((codes "x") ∷ []) ∷ ((codes "y") ∷ []) ∷ []) parted → ⊥
no_cut_22 = λ h. nowhere (codes "z") (((codes "x") ∷ []) ∷ ((codes "y") ∷ []) ∷ []) refl ((h.bound (codes "z")).0 (inr (inr (inl refl))))

no_cut_23 : IsCut (((codes "x") ∷ []) ∷ ((codes "y") ∷ []) ∷ ((codes "z") ∷ []) ∷ ((codes "zz") ∷ []) ∷ []) parted → ⊥
no_cut_23 = λ h. unbound_name (codes "zz") parted refl ((h.bound (codes "zz")).1 (((codes "zz") ∷ []), (inr (inr (inr (inl refl)))), inl refl))

no_cut_24 : IsCut (((codes "x") ∷ (codes "y") ∷ (codes "z") ∷ []) ∷ ((codes "x") ∷ []) ∷ []) parted → ⊥
no_cut_24 = λ h. two_groups ((codes "x") ∷ (codes "y") ∷ (codes "z") ∷ []) ((codes "x") ∷ []) refl (h.one ((codes "x") ∷ (codes "y") ∷ (codes "z") ∷ []) ((codes "x") ∷ []) (codes "x") (inl refl) (inr (inl refl)) (inl refl) (inl refl))

-- ---- a list is a function's default and p's value

cut_12 : IsCut (((codes "g") ∷ (codes "p") ∷ []) ∷ ((codes "q") ∷ []) ∷ []) default
unfolding reserved_words
cut_12 = groups_are_cut default (sound_of default refl refl)

cut_13 : IsCut (((codes "g") ∷ (codes "p") ∷ (codes "q") ∷ []) ∷ []) default
cut_13 = one_cut default

no_cut_25 : IsCut (((codes "g") ∷ (codes "p") ∷ []) ∷ []) default → ⊥
no_cut_25 = λ h. nowhere (codes "q") (((codes "g") ∷ (codes "p") ∷ []) ∷ []) refl ((h.bound (codes "q")).0 (inr (inr (inl refl))))

no_cut_26 : IsCut (((codes "g") ∷ (codes "p") ∷ []) ∷ ((codes "q") ∷ []) ∷ ((codes "zz") ∷ []) ∷ []) default → ⊥
no_cut_26 = λ h. unbound_name (codes "zz") default refl ((h.bound (codes "zz")).1 (((codes "zz") ∷ []), (inr (inr (inl refl))), inl refl))

no_cut_27 : IsCut (((codes "g") ∷ []) ∷ ((codes "p") ∷ []) ∷ ((codes "q") ∷ []) ∷ []) default → ⊥
no_cut_27 = λ h. two_groups ((codes "g") ∷ []) ((codes "p") ∷ []) refl (h.apart ((codes "g") ∷ []) ((codes "p") ∷ []) (codes "g") (codes "p") (inl refl) (inr (inl refl)) (inl refl) (inl refl) (1, ((0 ∷ []), refl), ([], refl)))

no_cut_28 : IsCut (((codes "g") ∷ (codes "p") ∷ (codes "q") ∷ []) ∷ ((codes "g") ∷ []) ∷ []) default → ⊥
no_cut_28 = λ h. two_groups ((codes "g") ∷ (codes "p") ∷ (codes "q") ∷ []) ((codes "g") ∷ []) refl (h.one ((codes "g") ∷ (codes "p") ∷ (codes "q") ∷ []) ((codes "g") ∷ []) (codes "g") (inl refl) (inr (inl refl)) (inl refl) (inl refl))

-- ---- two functions have one default

cut_14 : IsCut (((codes "f") ∷ (codes "g") ∷ []) ∷ []) defaults
unfolding reserved_words
cut_14 = groups_are_cut defaults (sound_of defaults refl refl)

no_cut_29 : IsCut [] defaults → ⊥
no_cut_29 = λ h. nowhere (codes "g") [] refl ((h.bound (codes "g")).0 (inr (inl refl)))

no_cut_30 : IsCut (((codes "f") ∷ (codes "g") ∷ []) ∷ ((codes "zz") ∷ []) ∷ []) defaults → ⊥
no_cut_30 = λ h. unbound_name (codes "zz") defaults refl ((h.bound (codes "zz")).1 (((codes "zz") ∷ []), (inr (inl refl)), inl refl))

no_cut_31 : IsCut (((codes "f") ∷ []) ∷ ((codes "g") ∷ []) ∷ []) defaults → ⊥
no_cut_31 = λ h. two_groups ((codes "f") ∷ []) ((codes "g") ∷ []) refl (h.apart ((codes "f") ∷ []) ((codes "g") ∷ []) (codes "f") (codes "g") (inl refl) (inr (inl refl)) (inl refl) (inl refl) (1, ((1 ∷ []), refl), ((0 ∷ []), refl)))

no_cut_32 : IsCut (((codes "f") ∷ (codes "g") ∷ []) ∷ ((codes "f") ∷ []) ∷ []) defaults → ⊥
no_cut_32 = λ h. two_groups ((codes "f") ∷ (codes "g") ∷ []) ((codes "f") ∷ []) refl (h.one ((codes "f") ∷ (codes "g") ∷ []) ((codes "f") ∷ []) (codes "f") (inl refl) (inr (inl refl)) (inl refl) (inl refl))

-- ---- a dict has a tuple for a key, which is no node, and a list at two of its keys

cut_15 : IsCut (((codes "d") ∷ (codes "e") ∷ []) ∷ ((codes "t") ∷ []) ∷ []) keyed
unfolding reserved_words
cut_15 = groups_are_cut keyed (sound_of keyed refl refl)

cut_16 : IsCut (((codes "d") ∷ (codes "e") ∷ (codes "t") ∷ []) ∷ []) keyed
cut_16 = one_cut keyed

no_cut_33 : IsCut (((codes "d") ∷ (codes "e") ∷ []) ∷ []) keyed → ⊥
no_cut_33 = λ h. nowhere (codes "t") (((codes "d") ∷ (codes "e") ∷ []) ∷ []) refl ((h.bound (codes "t")).0 (inr (inr (inl refl))))

no_cut_34 : IsCut (((codes "d") ∷ (codes "e") ∷ []) ∷ ((codes "t") ∷ []) ∷ ((codes "zz") ∷ []) ∷ []) keyed → ⊥
no_cut_34 = λ h. unbound_name (codes "zz") keyed refl ((h.bound (codes "zz")).1 (((codes "zz") ∷ []), (inr (inr (inl refl))), inl refl))

no_cut_35 : IsCut (((codes "d") ∷ []) ∷ ((codes "e") ∷ []) ∷ ((codes "t") ∷ []) ∷ []) keyed → ⊥
no_cut_35 = λ h. two_groups ((codes "d") ∷ []) ((codes "e") ∷ []) refl (h.apart ((codes "d") ∷ []) ((codes "e") ∷ []) (codes "d") (codes "e") (inl refl) (inr (inl refl)) (inl refl) (inl refl) (1, ((0 ∷ []), refl), ([], refl)))

no_cut_36 : IsCut (((codes "d") ∷ (codes "e") ∷ (codes "t") ∷ []) ∷ ((codes "d") ∷ []) ∷ []) keyed → ⊥
no_cut_36 = λ h. two_groups ((codes "d") ∷ (codes "e") ∷ (codes "t") ∷ []) ((codes "d") ∷ []) refl (h.one ((codes "d") ∷ (codes "e") ∷ (codes "t") ∷ []) ((codes "d") ∷ []) (codes "d") (inl refl) (inr (inl refl)) (inl refl) (inl refl))

-- ---- an exception holds a list that e is, too

cut_17 : IsCut (((codes "e") ∷ (codes "x") ∷ []) ∷ ((codes "y") ∷ []) ∷ []) raised
unfolding reserved_words
cut_17 = groups_are_cut raised (sound_of raised refl refl)

cut_18 : IsCut (((codes "e") ∷ (codes "x") ∷ (codes "y") ∷ []) ∷ []) raised
cut_18 = one_cut raised

no_cut_37 : IsCut (((codes "e") ∷ (codes "x") ∷ []) ∷ []) raised → ⊥
no_cut_37 = λ h. nowhere (codes "y") (((codes "e") ∷ (codes "x") ∷ []) ∷ []) refl ((h.bound (codes "y")).0 (inr (inr (inl refl))))

no_cut_38 : IsCut (((codes "e") ∷ (codes "x") ∷ []) ∷ ((codes "y") ∷ []) ∷ ((codes "zz") ∷ []) ∷ []) raised → ⊥
no_cut_38 = λ h. unbound_name (codes "zz") raised refl ((h.bound (codes "zz")).1 (((codes "zz") ∷ []), (inr (inr (inl refl))), inl refl))

no_cut_39 : IsCut (((codes "e") ∷ []) ∷ ((codes "x") ∷ []) ∷ ((codes "y") ∷ []) ∷ []) raised → ⊥
no_cut_39 = λ h. two_groups ((codes "e") ∷ []) ((codes "x") ∷ []) refl (h.apart ((codes "e") ∷ []) ((codes "x") ∷ []) (codes "e") (codes "x") (inl refl) (inr (inl refl)) (inl refl) (inl refl) (0, ([], refl), ((0 ∷ []), refl)))

no_cut_40 : IsCut (((codes "e") ∷ (codes "x") ∷ (codes "y") ∷ []) ∷ ((codes "e") ∷ []) ∷ []) raised → ⊥
no_cut_40 = λ h. two_groups ((codes "e") ∷ (codes "x") ∷ (codes "y") ∷ []) ((codes "e") ∷ []) refl (h.one ((codes "e") ∷ (codes "x") ∷ (codes "y") ∷ []) ((codes "e") ∷ []) (codes "e") (inl refl) (inr (inl refl)) (inl refl) (inl refl))

-- ---- an object holds itself, and a list that holds it

cut_19 : IsCut (((codes "o") ∷ []) ∷ []) object_round
unfolding reserved_words
cut_19 = groups_are_cut object_round (sound_of object_round refl refl)

no_cut_41 : IsCut [] object_round → ⊥
no_cut_41 = λ h. nowhere (codes "o") [] refl ((h.bound (codes "o")).0 (inl refl))

no_cut_42 : IsCut (((codes "o") ∷ []) ∷ ((codes "zz") ∷ []) ∷ []) object_round → ⊥
no_cut_42 = λ h. unbound_name (codes "zz") object_round refl ((h.bound (codes "zz")).1 (((codes "zz") ∷ []), (inr (inl refl)), inl refl))

-- ---- what is near comes before what is deep

cut_20 : IsCut (((codes "a") ∷ (codes "b") ∷ []) ∷ []) wide
unfolding reserved_words
cut_20 = groups_are_cut wide (sound_of wide refl refl)

no_cut_43 : IsCut [] wide → ⊥
no_cut_43 = λ h. nowhere (codes "b") [] refl ((h.bound (codes "b")).0 (inr (inl refl)))

no_cut_44 : IsCut (((codes "a") ∷ (codes "b") ∷ []) ∷ ((codes "zz") ∷ []) ∷ []) wide → ⊥
no_cut_44 = λ h. unbound_name (codes "zz") wide refl ((h.bound (codes "zz")).1 (((codes "zz") ∷ []), (inr (inl refl)), inl refl))

no_cut_45 : IsCut (((codes "a") ∷ []) ∷ ((codes "b") ∷ []) ∷ []) wide → ⊥
no_cut_45 = λ h. two_groups ((codes "a") ∷ []) ((codes "b") ∷ []) refl (h.apart ((codes "a") ∷ []) ((codes "b") ∷ []) (codes "a") (codes "b") (inl refl) (inr (inl refl)) (inl refl) (inl refl) (3, ((2 ∷ []), refl), ((0 ∷ 0 ∷ []), refl)))

no_cut_46 : IsCut (((codes "a") ∷ (codes "b") ∷ []) ∷ ((codes "a") ∷ []) ∷ []) wide → ⊥
no_cut_46 = λ h. two_groups ((codes "a") ∷ (codes "b") ∷ []) ((codes "a") ∷ []) refl (h.one ((codes "a") ∷ (codes "b") ∷ []) ((codes "a") ∷ []) (codes "a") (inl refl) (inr (inl refl)) (inl refl) (inl refl))

-- ---- one list is reached in three ways

cut_21 : IsCut (((codes "t") ∷ []) ∷ []) diamond
unfolding reserved_words
cut_21 = groups_are_cut diamond (sound_of diamond refl refl)

no_cut_47 : IsCut [] diamond → ⊥
no_cut_47 = λ h. nowhere (codes "t") [] refl ((h.bound (codes "t")).0 (inl refl))

no_cut_48 : IsCut (((codes "t") ∷ []) ∷ ((codes "zz") ∷ []) ∷ []) diamond → ⊥
no_cut_48 = λ h. unbound_name (codes "zz") diamond refl ((h.bound (codes "zz")).1 (((codes "zz") ∷ []), (inr (inl refl)), inl refl))

-- ---- b is what lies inside a

cut_22 : IsCut (((codes "a") ∷ (codes "b") ∷ (codes "c") ∷ []) ∷ []) inside
unfolding reserved_words
cut_22 = groups_are_cut inside (sound_of inside refl refl)

no_cut_49 : IsCut [] inside → ⊥
no_cut_49 = λ h. nowhere (codes "c") [] refl ((h.bound (codes "c")).0 (inr (inr (inl refl))))

no_cut_50 : IsCut (((codes "a") ∷ (codes "b") ∷ (codes "c") ∷ []) ∷ ((codes "zz") ∷ []) ∷ []) inside → ⊥
no_cut_50 = λ h. unbound_name (codes "zz") inside refl ((h.bound (codes "zz")).1 (((codes "zz") ∷ []), (inr (inl refl)), inl refl))

no_cut_51 : IsCut (((codes "a") ∷ []) ∷ ((codes "b") ∷ (codes "c") ∷ []) ∷ []) inside → ⊥
no_cut_51 = λ h. two_groups ((codes "a") ∷ []) ((codes "b") ∷ (codes "c") ∷ []) refl (h.apart ((codes "a") ∷ []) ((codes "b") ∷ (codes "c") ∷ []) (codes "a") (codes "b") (inl refl) (inr (inl refl)) (inl refl) (inl refl) (3, ((1 ∷ []), refl), ([], refl)))

no_cut_52 : IsCut (((codes "a") ∷ (codes "b") ∷ (codes "c") ∷ []) ∷ ((codes "a") ∷ []) ∷ []) inside → ⊥
no_cut_52 = λ h. two_groups ((codes "a") ∷ (codes "b") ∷ (codes "c") ∷ []) ((codes "a") ∷ []) refl (h.one ((codes "a") ∷ (codes "b") ∷ (codes "c") ∷ []) ((codes "a") ∷ []) (codes "a") (inl refl) (inr (inl refl)) (inl refl) (inl refl))

-- ---- equal tuples, each a node of its own

cut_23 : IsCut (((codes "a") ∷ []) ∷ ((codes "b") ∷ []) ∷ ((codes "c") ∷ []) ∷ []) equal
unfolding reserved_words
cut_23 = groups_are_cut equal (sound_of equal refl refl)

cut_24 : IsCut (((codes "a") ∷ (codes "b") ∷ (codes "c") ∷ []) ∷ []) equal
cut_24 = one_cut equal

no_cut_53 : IsCut (((codes "a") ∷ []) ∷ ((codes "b") ∷ []) ∷ []) equal → ⊥
no_cut_53 = λ h. nowhere (codes "c") (((codes "a") ∷ []) ∷ ((codes "b") ∷ []) ∷ []) refl ((h.bound (codes "c")).0 (inr (inr (inl refl))))

no_cut_54 : IsCut (((codes "a") ∷ []) ∷ ((codes "b") ∷ []) ∷ ((codes "c") ∷ []) ∷ ((codes "zz") ∷ []) ∷ []) equal → ⊥
no_cut_54 = λ h. unbound_name (codes "zz") equal refl ((h.bound (codes "zz")).1 (((codes "zz") ∷ []), (inr (inr (inr (inl refl)))), inl refl))

no_cut_55 : IsCut (((codes "a") ∷ (codes "b") ∷ (codes "c") ∷ []) ∷ ((codes "a") ∷ []) ∷ []) equal → ⊥
no_cut_55 = λ h. two_groups ((codes "a") ∷ (codes "b") ∷ (codes "c") ∷ []) ((codes "a") ∷ []) refl (h.one ((codes "a") ∷ (codes "b") ∷ (codes "c") ∷ []) ((codes "a") ∷ []) (codes "a") (inl refl) (inr (inl refl)) (inl refl) (inl refl))

-- ---- each name shares a node with the next alone

cut_25 : IsCut (((codes "n0") ∷ (codes "n1") ∷ (codes "n2") ∷ (codes "n3") ∷ (codes "n4") ∷ []) ∷ []) long_chain
unfolding reserved_words
cut_25 = groups_are_cut long_chain (sound_of long_chain refl refl)

no_cut_56 : IsCut [] long_chain → ⊥
no_cut_56 = λ h. nowhere (codes "n4") [] refl ((h.bound (codes "n4")).0 (inr (inr (inr (inr (inl refl))))))

no_cut_57 : IsCut (((codes "n0") ∷ (codes "n1") ∷ (codes "n2") ∷ (codes "n3") ∷ (codes "n4") ∷ []) ∷ ((codes "zz") ∷ []) ∷ []) long_chain → ⊥
no_cut_57 = λ h. unbound_name (codes "zz") long_chain refl ((h.bound (codes "zz")).1 (((codes "zz") ∷ []), (inr (inl refl)), inl refl))

no_cut_58 : IsCut (((codes "n0") ∷ []) ∷ ((codes "n1") ∷ (codes "n2") ∷ (codes "n3") ∷ (codes "n4") ∷ []) ∷ []) long_chain → ⊥
no_cut_58 = λ h. two_groups ((codes "n0") ∷ []) ((codes "n1") ∷ (codes "n2") ∷ (codes "n3") ∷ (codes "n4") ∷ []) refl (h.apart ((codes "n0") ∷ []) ((codes "n1") ∷ (codes "n2") ∷ (codes "n3") ∷ (codes "n4") ∷ []) (codes "n0") (codes "n1") (inl refl) (inr (inl refl)) (inl refl) (inl refl) (8, ((1 ∷ []), refl), ((0 ∷ []), refl)))

no_cut_59 : IsCut (((codes "n0") ∷ (codes "n1") ∷ (codes "n2") ∷ (codes "n3") ∷ (codes "n4") ∷ []) ∷ ((codes "n0") ∷ []) ∷ []) long_chain → ⊥
no_cut_59 = λ h. two_groups ((codes "n0") ∷ (codes "n1") ∷ (codes "n2") ∷ (codes "n3") ∷ (codes "n4") ∷ []) ((codes "n0") ∷ []) refl (h.one ((codes "n0") ∷ (codes "n1") ∷ (codes "n2") ∷ (codes "n3") ∷ (codes "n4") ∷ []) ((codes "n0") ∷ []) (codes "n0") (inl refl) (inr (inl refl)) (inl refl) (inl refl))

-- ---- a holds one list twice, and an equal one

cut_26 : IsCut (((codes "a") ∷ []) ∷ []) twice
unfolding reserved_words
cut_26 = groups_are_cut twice (sound_of twice refl refl)

no_cut_60 : IsCut [] twice → ⊥
no_cut_60 = λ h. nowhere (codes "a") [] refl ((h.bound (codes "a")).0 (inl refl))

no_cut_61 : IsCut (((codes "a") ∷ []) ∷ ((codes "zz") ∷ []) ∷ []) twice → ⊥
no_cut_61 = λ h. unbound_name (codes "zz") twice refl ((h.bound (codes "zz")).1 (((codes "zz") ∷ []), (inr (inl refl)), inl refl))

-- ---- the same with other numbers

cut_27 : IsCut (((codes "a") ∷ []) ∷ []) twice_there
unfolding reserved_words
cut_27 = groups_are_cut twice_there (sound_of twice_there refl refl)

no_cut_62 : IsCut [] twice_there → ⊥
no_cut_62 = λ h. nowhere (codes "a") [] refl ((h.bound (codes "a")).0 (inl refl))

no_cut_63 : IsCut (((codes "a") ∷ []) ∷ ((codes "zz") ∷ []) ∷ []) twice_there → ⊥
no_cut_63 = λ h. unbound_name (codes "zz") twice_there refl ((h.bound (codes "zz")).1 (((codes "zz") ∷ []), (inr (inl refl)), inl refl))

-- ---- a holds one list three times

cut_28 : IsCut (((codes "a") ∷ []) ∷ []) thrice
unfolding reserved_words
cut_28 = groups_are_cut thrice (sound_of thrice refl refl)

no_cut_64 : IsCut [] thrice → ⊥
no_cut_64 = λ h. nowhere (codes "a") [] refl ((h.bound (codes "a")).0 (inl refl))

no_cut_65 : IsCut (((codes "a") ∷ []) ∷ ((codes "zz") ∷ []) ∷ []) thrice → ⊥
no_cut_65 = λ h. unbound_name (codes "zz") thrice refl ((h.bound (codes "zz")).1 (((codes "zz") ∷ []), (inr (inl refl)), inl refl))

-- ---- a holds three lists

cut_29 : IsCut (((codes "a") ∷ []) ∷ []) once_each
unfolding reserved_words
cut_29 = groups_are_cut once_each (sound_of once_each refl refl)

no_cut_66 : IsCut [] once_each → ⊥
no_cut_66 = λ h. nowhere (codes "a") [] refl ((h.bound (codes "a")).0 (inl refl))

no_cut_67 : IsCut (((codes "a") ∷ []) ∷ ((codes "zz") ∷ []) ∷ []) once_each → ⊥
no_cut_67 = λ h. unbound_name (codes "zz") once_each refl ((h.bound (codes "zz")).1 (((codes "zz") ∷ []), (inr (inl refl)), inl refl))
