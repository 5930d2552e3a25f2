-- What holds of the values, the names and the nodes that are written.
use Rattle.std.specs.Prelude.{◌≡◌, ℕ, zero, suc, ◌≤◌, Bool, IsTrue, ◌&&◌, not, nat_le, List, [], ◌∷◌, length, map, drop, Some}
use Rattle.std.specs.List.{list_all}
use Rattle.std.specs.declared.alloc.Global.{Global}
use Rattle.std.specs.declared.rc.RcStr.{RcStr}
use Rattle.std.proofs.Common.{refl, ap, sym, ◌∙◌, subst, arith, inl, inr}
use Rattle.std.proofs.lemmas.Bool.{and_parts}
use Rattle.std.proofs.lemmas.Bool.Decides.{nat_tests}
use Rattle.kishu_language.specs.tokens.Names.{is_name, begins_with_letter, is_word_char, longest_name, is_reserved_word}
use Rattle.kishu_meaning.specs.declared.key.Key as rust_key
use Rattle.kishu_meaning.specs.declared.value.Value as rust
use Rattle.kishu_meaning.specs.values.Sound.{is_sound, is_valid, is_sound_node}
use Rattle.kishu_meaning.specs.values.Values.{Value, node, Node, list, tuple, dict, object, function, exception, Names, find}
use Rattle.kishu_objects.specs.Lists.{In}
use Rattle.kishu_objects.specs.Picture.{place, renumbered}
use Rattle.kishu_objects_laws.specs.NameLaws.{find_in}
use Rattle.kishu_picture.specs.Held.{AreBound}
use Rattle.kishu_picture.specs.Rows.{AreFound, HasShort, HasShortNames, values_in, values_at, entries_at, attributes_at, names_of}
use Rattle.kishu_picture.proofs.Steps.{first_in}

-- ---- values that were found

pub met_here : {X : Type 0} (found : List ℕ) (f : X → Value) (xs : List X) (i : ℕ) (x : X) (more : List X) → AreFound found (map f xs)
    → drop i xs ≡ x ∷ more → (k : ℕ) → f x ≡ node k → In k found
met_here found f xs i x more all e k is = all k (subst (λ v. In v (map f xs)) is (first_in f xs i x more e))

entry_in : {X K : Type 0} (g : X → K × Value) (xs : List X) (i : ℕ) (x : X) (more : List X) → drop i xs ≡ x ∷ more → In (g x).1 (values_in (map g xs))
entry_in g [] zero x more e = absurd (cc)
entry_in g [] (suc i) x more e = absurd (cc)
entry_in {X} {K} g (y ∷ ys) zero x more e = (let f : x ≡ y = cc in inl (ap (λ z. (g z).1) f))
entry_in g (y ∷ ys) (suc i) x more e = inr (entry_in g ys i x more e)

pub entry_met : {X K : Type 0} (found : List ℕ) (g : X → K × Value) (xs : List X) (i : ℕ) (x : X) (more : List X)
    → AreFound found (values_in (map g xs)) → drop i xs ≡ x ∷ more → (k : ℕ) → (g x).1 ≡ node k → In k found
entry_met found g xs i x more all e k is = all k (subst (λ v. In v (values_in (map g xs))) is (entry_in g xs i x more e))

-- ---- names that are short

pub short_here : {X : Type 0} (g : X → List ℕ × Value) (xs : List X) (i : ℕ) (x : X) (more : List X) → HasShort (map g xs) → drop i xs ≡ x ∷ more
    → length (g x).0 ≤ 255
short_here g [] zero x more h e = absurd (cc)
short_here g [] (suc i) x more h e = absurd (cc)
short_here g (y ∷ ys) zero x more h e = (let f : x ≡ y = cc in subst (λ z. length (g z).0 ≤ 255) (sym f) h.0)
short_here g (y ∷ ys) (suc i) x more h e = short_here g ys i x more h.1 e

pub name_short : (x : List ℕ) → IsTrue (is_name x) → length x ≤ 255
name_short x h =
    let rest = (and_parts (begins_with_letter x) (list_all is_word_char x && (nat_le (length x) longest_name && not (is_reserved_word x))) h).1 in
    let next = (and_parts (list_all is_word_char x) (nat_le (length x) longest_name && not (is_reserved_word x)) rest).1 in
    let l = (and_parts (nat_le (length x) longest_name) (not (is_reserved_word x)) next).0 in
    grind (arith, nat_tests)

attributes_short : (n : ℕ) (as' : List (List ℕ × Value)) → IsTrue (list_all (λ (a : List ℕ × Value). is_name a.0 && is_sound n a.1) as')
    → HasShort as'
attributes_short n [] h = tt
attributes_short n (a ∷ as') h =
    let both = and_parts (is_name a.0 && is_sound n a.1) (list_all (λ (b : List ℕ × Value). is_name b.0 && is_sound n b.1) as') h in
    (name_short a.0 (and_parts (is_name a.0) (is_sound n a.1) both.0).0, attributes_short n as' both.1)

pub sound_short : (n : ℕ) (m : Node) → IsTrue (is_sound_node n m) → HasShortNames m
sound_short n (list vs) h = tt
sound_short n (tuple vs) h = tt
sound_short n (dict es) h = tt
sound_short n (object as') h = attributes_short n as' h
sound_short n (function profile code vs) h = tt
sound_short n (exception kind vs) h = tt

all_in : {A : Type 0} (test : A → Bool) (xs : List A) (a : A) → IsTrue (list_all test xs) → In a xs → IsTrue (test a)
all_in test [] a h m = absurd m
all_in test (x ∷ xs) a h (inl e) = ap test e ∙ (and_parts (test x) (list_all test xs) h).0
all_in test (x ∷ xs) a h (inr m) = all_in test xs a (and_parts (test x) (list_all test xs) h).1 m

-- A name that is bound is short.
pub bound_short : (ns : Names) (x : List ℕ) (v : Value) → IsTrue (list_all (λ (b : List ℕ × Value). is_name b.0 && is_valid b.1) ns)
    → find x ns ≡ Some v → length x ≤ 255
bound_short ns x v h e = name_short x (and_parts (is_name x) (is_valid v)
    (all_in (λ (b : List ℕ × Value). is_name b.0 && is_valid b.1) ns (x, v) h (find_in x ns v e))).0

-- ---- how many there are

pub values_count : (found : List ℕ) (vs : List rust.Value) → length (values_at found vs) ≡ length vs
values_count found [] = refl
values_count found (v ∷ vs) = ap suc (values_count found vs)

pub entries_count : (found : List ℕ) (es : List (rust_key.Key × rust.Value)) → length (entries_at found es) ≡ length es
entries_count found [] = refl
entries_count found (e ∷ es) = ap suc (entries_count found es)

pub attributes_count : (found : List ℕ) (es : List (RcStr Global × rust.Value)) → length (attributes_at found es) ≡ length es
attributes_count found [] = refl
attributes_count found (e ∷ es) = ap suc (attributes_count found es)

pub name_first : (found : List ℕ) (ns : Names) (x : List ℕ) (xs : List (List ℕ)) (v : Value) → find x ns ≡ Some v
    → names_of found ns (x ∷ xs) ≡ (x, renumbered (place found) v) ∷ names_of found ns xs
name_first found ns x xs v e = rw e refl

pub names_count : (found : List ℕ) (ns : Names) (xs : List (List ℕ)) → AreBound ns xs → length (names_of found ns xs) ≡ length xs
names_count found ns [] all = refl
names_count found ns (x ∷ xs) all = (let b = all x (inl refl) in ap length (name_first found ns x xs b.0 b.1)
    ∙ ap suc (names_count found ns xs (λ y m. all y (inr m))))
