-- Which live states are attached to a store at its head: those that are the same as the replay, sharing included. Made by tools/rows/good_rows.py.
use Rattle.std.specs.Prelude.{◌≡◌, ℕ, pos, true, false, [], ◌∷◌, codes, Some, refl}
use Rattle.std.specs.Prelude.{Bool}
use Rattle.std.proofs.Common.{arith, sym, ◌∙◌, ap, subst, inl, inr}
use Rattle.std.proofs.lemmas.Bool.{false≢true}
use Rattle.std.specs.List.Sorted.{IsStrictlySortedBy}
use Rattle.kishu_language.specs.tokens.Names.{reserved_words}
use Rattle.kishu_meaning.specs.values.Keys as k
use Rattle.kishu_meaning.specs.values.Values.{bool, integer, text, node, list, tuple, State}
use Rattle.kishu_objects.specs.Lists.{In}
use Rattle.kishu_objects.specs.Picture.{picture}
use Rattle.kishu_objects.specs.Same.{View, plain, inside, view}
use Rattle.kishu_store.specs.Graph.{Graph, main_branch}
use Rattle.kishu_store.specs.Tables.{Row}
use Rattle.kishu_replay.specs.Replay.{replay}
use Rattle.kishu_history.specs.Alike.{is_value, is_node}
use Rattle.kishu_history.specs.Stored.{Held}
use Rattle.kishu_history.specs.Good.{IsAttached}
use Rattle.kishu_objects_laws.specs.SoundLaws.{sound_of}
use Rattle.kishu_objects_laws.specs.WholeLaws.{whole_same}
use Rattle.kishu_object_rows.proofs.OnLiterals.{cells_on_literals}
use Rattle.kishu_object_rows.proofs.GoodRows.{one_file, one_commits, one_of, shared_file, shared_commits, shared_of, good_1, good_2}

-- A table of one row has that row alone.
only : (q r : Row) → In r (q ∷ []) → r ≡ q
only q r (inl e) = e
only q r (inr n) = absurd n

-- whether two views are one, by the test of values and nodes
abbrev is_seen : View → View → Bool
is_seen (plain v) (plain w) = is_value v w
is_seen (inside n) (inside m) = is_node n m
is_seen a b = false

-- Where the test tells two apart, they are.
seen_apart : (a b : View) → is_seen a b ≡ false → is_seen a a ≡ true → a ≡ b → ⊥
seen_apart a b other same e = false≢true (sym other ∙ ap (λ c. is_seen a c) (sym e) ∙ same)

-- Two paths that reach one node reach one number.
one_number : (j k : ℕ) → (i : ℕ) × (Some (node j) ≡ Some (node i)) × (Some (node k) ≡ Some (node i)) → j ≡ k
one_number j k (i, e, f) = cc

abbrev one_graph : Graph
one_graph = record { commits = one_commits; branches = (main_branch, 1) ∷ []; head = record { commit = 1; branch = Some main_branch }; records = 1 }

-- as the cell leaves it
abbrev one_live1 : State
one_live1 = record { names = (((codes "a"), (node 0)) ∷ []); nodes = ((list ((integer (pos 1)) ∷ [])) ∷ []) }

attached_1 : IsAttached one_file one_graph one_of one_live1
unfolding cells_on_literals reserved_words IsStrictlySortedBy
attached_1 = record { good = good_1; head = omega arith; told = record { state = record { sound = sound_of one_live1 refl refl; rise = (tt, tt) }; bound = λ x. (λ m. ((record { group = ((codes "a") ∷ []); version = 1; place = 72; len = 37 }), inl refl, m), λ k. subst (λ (r : Row). In x r.group) (only (record { group = ((codes "a") ∷ []); version = 1; place = 72; len = 37 }) k.0 k.1) k.2); apart = λ r q x y m n a b t. only (record { group = ((codes "a") ∷ []); version = 1; place = 72; len = 37 }) r m ∙ sym (only (record { group = ((codes "a") ∷ []); version = 1; place = 72; len = 37 }) q n); pictures = λ r m. subst (λ q. Held one_file q (picture one_live1 q.group)) (sym (only (record { group = ((codes "a") ∷ []); version = 1; place = 72; len = 37 }) r m)) (record { bytes = refl; len = refl; fits = ((omega arith, (omega arith, tt)), (omega arith, ((omega arith, (record { sfits = omega arith }, tt)), tt))) }) }; same = whole_same one_live1 (replay one_graph 1) (sound_of one_live1 refl refl) (sound_of (replay one_graph 1) refl refl) refl }

-- behind a node that nothing reaches
abbrev one_live2 : State
one_live2 = record { names = (((codes "a"), (node 1)) ∷ []); nodes = ((list ((integer (pos 7)) ∷ [])) ∷ (list ((integer (pos 1)) ∷ [])) ∷ []) }

attached_2 : IsAttached one_file one_graph one_of one_live2
unfolding cells_on_literals reserved_words IsStrictlySortedBy
attached_2 = record { good = good_1; head = omega arith; told = record { state = record { sound = sound_of one_live2 refl refl; rise = (tt, tt) }; bound = λ x. (λ m. ((record { group = ((codes "a") ∷ []); version = 1; place = 72; len = 37 }), inl refl, m), λ k. subst (λ (r : Row). In x r.group) (only (record { group = ((codes "a") ∷ []); version = 1; place = 72; len = 37 }) k.0 k.1) k.2); apart = λ r q x y m n a b t. only (record { group = ((codes "a") ∷ []); version = 1; place = 72; len = 37 }) r m ∙ sym (only (record { group = ((codes "a") ∷ []); version = 1; place = 72; len = 37 }) q n); pictures = λ r m. subst (λ q. Held one_file q (picture one_live2 q.group)) (sym (only (record { group = ((codes "a") ∷ []); version = 1; place = 72; len = 37 }) r m)) (record { bytes = refl; len = refl; fits = ((omega arith, (omega arith, tt)), (omega arith, ((omega arith, (record { sfits = omega arith }, tt)), tt))) }) }; same = whole_same one_live2 (replay one_graph 1) (sound_of one_live2 refl refl) (sound_of (replay one_graph 1) refl refl) refl }

-- another item
abbrev one_live3 : State
one_live3 = record { names = (((codes "a"), (node 0)) ∷ []); nodes = ((list ((integer (pos 2)) ∷ [])) ∷ []) }

not_attached_1 : IsAttached one_file one_graph one_of one_live3 → ⊥
unfolding cells_on_literals reserved_words IsStrictlySortedBy
not_attached_1 = λ h. seen_apart (view one_live3.nodes (integer (pos 2))) (view (replay one_graph 1).nodes (integer (pos 1))) refl refl (h.same.views (codes "a") (0 ∷ []) tt)

-- True for 1
abbrev one_live4 : State
one_live4 = record { names = (((codes "a"), (node 0)) ∷ []); nodes = ((list ((bool true) ∷ [])) ∷ []) }

not_attached_2 : IsAttached one_file one_graph one_of one_live4 → ⊥
unfolding cells_on_literals reserved_words IsStrictlySortedBy
not_attached_2 = λ h. seen_apart (view one_live4.nodes (bool true)) (view (replay one_graph 1).nodes (integer (pos 1))) refl refl (h.same.views (codes "a") (0 ∷ []) tt)

-- an item more
abbrev one_live5 : State
one_live5 = record { names = (((codes "a"), (node 0)) ∷ []); nodes = ((list ((integer (pos 1)) ∷ (integer (pos 1)) ∷ [])) ∷ []) }

not_attached_3 : IsAttached one_file one_graph one_of one_live5 → ⊥
unfolding cells_on_literals reserved_words IsStrictlySortedBy
not_attached_3 = λ h. seen_apart (view one_live5.nodes (node 0)) (view (replay one_graph 1).nodes (node 0)) refl refl (h.same.views (codes "a") [] tt)

-- an item less
abbrev one_live6 : State
one_live6 = record { names = (((codes "a"), (node 0)) ∷ []); nodes = ((list []) ∷ []) }

not_attached_4 : IsAttached one_file one_graph one_of one_live6 → ⊥
unfolding cells_on_literals reserved_words IsStrictlySortedBy
not_attached_4 = λ h. seen_apart (view one_live6.nodes (node 0)) (view (replay one_graph 1).nodes (node 0)) refl refl (h.same.views (codes "a") [] tt)

-- a text
abbrev one_live7 : State
one_live7 = record { names = (((codes "a"), (text (codes "[1]"))) ∷ []); nodes = [] }

not_attached_5 : IsAttached one_file one_graph one_of one_live7 → ⊥
unfolding cells_on_literals reserved_words IsStrictlySortedBy
not_attached_5 = λ h. seen_apart (view one_live7.nodes (text (codes "[1]"))) (view (replay one_graph 1).nodes (node 0)) refl refl (h.same.views (codes "a") [] tt)

-- a tuple for the list
abbrev one_live8 : State
one_live8 = record { names = (((codes "a"), (node 0)) ∷ []); nodes = ((tuple ((integer (pos 1)) ∷ [])) ∷ []) }

not_attached_6 : IsAttached one_file one_graph one_of one_live8 → ⊥
unfolding cells_on_literals reserved_words IsStrictlySortedBy
not_attached_6 = λ h. seen_apart (view one_live8.nodes (node 0)) (view (replay one_graph 1).nodes (node 0)) refl refl (h.same.views (codes "a") [] tt)

-- a name more
abbrev one_live9 : State
one_live9 = record { names = (((codes "a"), (node 0)) ∷ ((codes "b"), (integer (pos 0))) ∷ []); nodes = ((list ((integer (pos 1)) ∷ [])) ∷ []) }

not_attached_7 : IsAttached one_file one_graph one_of one_live9 → ⊥
unfolding cells_on_literals reserved_words IsStrictlySortedBy
not_attached_7 = λ h. h.same.views (codes "b") [] tt

-- no name
abbrev one_live10 : State
one_live10 = record { names = []; nodes = [] }

not_attached_8 : IsAttached one_file one_graph one_of one_live10 → ⊥
unfolding cells_on_literals reserved_words IsStrictlySortedBy
not_attached_8 = λ h. h.same.views (codes "a") [] tt

-- another name
abbrev one_live11 : State
one_live11 = record { names = (((codes "b"), (node 0)) ∷ []); nodes = ((list ((integer (pos 1)) ∷ [])) ∷ []) }

not_attached_9 : IsAttached one_file one_graph one_of one_live11 → ⊥
unfolding cells_on_literals reserved_words IsStrictlySortedBy
not_attached_9 = λ h. h.same.views (codes "a") [] tt

abbrev shared_graph : Graph
shared_graph = record { commits = shared_commits; branches = (main_branch, 2) ∷ []; head = record { commit = 2; branch = Some main_branch }; records = 2 }

-- one list under two names
abbrev shared_live1 : State
shared_live1 = record { names = (((codes "a"), (node 0)) ∷ ((codes "b"), (node 0)) ∷ []); nodes = ((list ((integer (pos 1)) ∷ (integer (pos 2)) ∷ [])) ∷ []) }

attached_3 : IsAttached shared_file shared_graph shared_of shared_live1
unfolding cells_on_literals reserved_words IsStrictlySortedBy
attached_3 = record { good = good_2; head = omega arith; told = record { state = record { sound = sound_of shared_live1 refl refl; rise = ((refl, tt), (tt, tt)) }; bound = λ x. (λ m. ((record { group = ((codes "a") ∷ (codes "b") ∷ []); version = 2; place = 195; len = 61 }), inl refl, m), λ k. subst (λ (r : Row). In x r.group) (only (record { group = ((codes "a") ∷ (codes "b") ∷ []); version = 2; place = 195; len = 61 }) k.0 k.1) k.2); apart = λ r q x y m n a b t. only (record { group = ((codes "a") ∷ (codes "b") ∷ []); version = 2; place = 195; len = 61 }) r m ∙ sym (only (record { group = ((codes "a") ∷ (codes "b") ∷ []); version = 2; place = 195; len = 61 }) q n); pictures = λ r m. subst (λ q. Held shared_file q (picture shared_live1 q.group)) (sym (only (record { group = ((codes "a") ∷ (codes "b") ∷ []); version = 2; place = 195; len = 61 }) r m)) (record { bytes = refl; len = refl; fits = ((omega arith, (omega arith, (omega arith, tt))), (omega arith, ((omega arith, (record { sfits = omega arith }, (record { sfits = omega arith }, tt))), tt))) }) }; same = whole_same shared_live1 (replay shared_graph 2) (sound_of shared_live1 refl refl) (sound_of (replay shared_graph 2) refl refl) refl }

-- the same with the list behind another
abbrev shared_live2 : State
shared_live2 = record { names = (((codes "a"), (node 1)) ∷ ((codes "b"), (node 1)) ∷ []); nodes = ((list ((integer (pos 1)) ∷ [])) ∷ (list ((integer (pos 1)) ∷ (integer (pos 2)) ∷ [])) ∷ []) }

attached_4 : IsAttached shared_file shared_graph shared_of shared_live2
unfolding cells_on_literals reserved_words IsStrictlySortedBy
attached_4 = record { good = good_2; head = omega arith; told = record { state = record { sound = sound_of shared_live2 refl refl; rise = ((refl, tt), (tt, tt)) }; bound = λ x. (λ m. ((record { group = ((codes "a") ∷ (codes "b") ∷ []); version = 2; place = 195; len = 61 }), inl refl, m), λ k. subst (λ (r : Row). In x r.group) (only (record { group = ((codes "a") ∷ (codes "b") ∷ []); version = 2; place = 195; len = 61 }) k.0 k.1) k.2); apart = λ r q x y m n a b t. only (record { group = ((codes "a") ∷ (codes "b") ∷ []); version = 2; place = 195; len = 61 }) r m ∙ sym (only (record { group = ((codes "a") ∷ (codes "b") ∷ []); version = 2; place = 195; len = 61 }) q n); pictures = λ r m. subst (λ q. Held shared_file q (picture shared_live2 q.group)) (sym (only (record { group = ((codes "a") ∷ (codes "b") ∷ []); version = 2; place = 195; len = 61 }) r m)) (record { bytes = refl; len = refl; fits = ((omega arith, (omega arith, (omega arith, tt))), (omega arith, ((omega arith, (record { sfits = omega arith }, (record { sfits = omega arith }, tt))), tt))) }) }; same = whole_same shared_live2 (replay shared_graph 2) (sound_of shared_live2 refl refl) (sound_of (replay shared_graph 2) refl refl) refl }

-- values and no sharing
abbrev shared_live3 : State
shared_live3 = record { names = (((codes "a"), (node 0)) ∷ ((codes "b"), (node 1)) ∷ []); nodes = ((list ((integer (pos 1)) ∷ (integer (pos 2)) ∷ [])) ∷ (list ((integer (pos 1)) ∷ (integer (pos 2)) ∷ [])) ∷ []) }

not_attached_10 : IsAttached shared_file shared_graph shared_of shared_live3 → ⊥
unfolding cells_on_literals reserved_words IsStrictlySortedBy
not_attached_10 = λ h. absurd (omega (arith, one_number 0 1 (h.same.shared_here (codes "a") [] (codes "b") [] tt tt (0, refl, refl))))

-- as before the last cell
abbrev shared_live4 : State
shared_live4 = record { names = (((codes "a"), (node 0)) ∷ ((codes "b"), (node 0)) ∷ []); nodes = ((list ((integer (pos 1)) ∷ [])) ∷ []) }

not_attached_11 : IsAttached shared_file shared_graph shared_of shared_live4 → ⊥
unfolding cells_on_literals reserved_words IsStrictlySortedBy
not_attached_11 = λ h. h.same.views (codes "a") (1 ∷ []) tt

-- a name less
abbrev shared_live5 : State
shared_live5 = record { names = (((codes "a"), (node 0)) ∷ []); nodes = ((list ((integer (pos 1)) ∷ (integer (pos 2)) ∷ [])) ∷ []) }

not_attached_12 : IsAttached shared_file shared_graph shared_of shared_live5 → ⊥
unfolding cells_on_literals reserved_words IsStrictlySortedBy
not_attached_12 = λ h. h.same.views (codes "b") [] tt
