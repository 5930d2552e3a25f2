-- Steps of the loops, and of the walk.
use Rattle.std.proofs.Common.{◌≡◌, ℕ, zero, suc, ◌+◌, ◌<◌, ◌≤◌, List, [], ◌∷◌, ◌++◌, map}
use Rattle.std.proofs.Common.{drop, length, get_or, refl, ap, sym, ◌∙◌, arith, subst, inl, inr, Some, None}
use Rattle.std.specs.Prelude.{slice_get}
use Rattle.std.specs.declared.alloc.Global.{Global}
use Rattle.std.specs.declared.rc.RcStr.{RcStr}
use Rattle.kishu_meaning.specs.declared.key.Key as rust_key
use Rattle.kishu_meaning.specs.declared.value.Value as rust
use Rattle.kishu_meaning.specs.values.Values.{Node, State, value_of}
use Rattle.kishu_heap.specs.Cells.{entries_of, attributes_of}
use Rattle.kishu_objects.specs.Lists.{In}
use Rattle.kishu_objects.specs.Picture.{number, numbers, leads, roots}
use Rattle.kishu_objects.specs.Shape.{children, node_at}
use Rattle.kishu_objects.specs.Sound.{IsSound}
use Rattle.kishu_objects_laws.specs.WalkLaws.{noted_all, noted_all_append, IsWalked, walk_more, walk_begins}
use Rattle.kishu_picture.specs.Rows.{values_in}

-- ---- lists from a place on

pub rest_at : {A : Type 0} (xs : List A) (i : ℕ) (x : A) → slice_get xs i ≡ Some x → drop i xs ≡ x ∷ drop (i + 1) xs
rest_at [] i x e = absurd (cc)
rest_at (y ∷ ys) zero x e = (let f : y ≡ x = cc in ap (λ z. z ∷ ys) f)
rest_at (y ∷ ys) (suc i) x e = (let k = rest_at ys i x e in let f : suc i + 1 ≡ suc (i + 1) = omega arith in k
    ∙ ap (λ j. x ∷ drop j (y ∷ ys)) (sym f))

pub rest_here : {A : Type 0} (xs : List A) (i : ℕ) (x : A) → i < length xs → x ≡ get_or xs i x → drop i xs ≡ x ∷ drop (i + 1) xs
rest_here [] i x l e = absurd (omega arith)
rest_here (y ∷ ys) zero x l e = ap (λ z. z ∷ ys) (sym e)
rest_here (y ∷ ys) (suc i) x l e = (let k = rest_here ys i x (omega arith) e in let f : suc i + 1 ≡ suc (i + 1) = omega arith in k
    ∙ ap (λ j. x ∷ drop j (y ∷ ys)) (sym f))

pub no_rest : {A : Type 0} (xs : List A) (i : ℕ) → length xs ≤ i → drop i xs ≡ []
no_rest [] zero l = refl
no_rest [] (suc i) l = refl
no_rest (x ∷ xs) zero l = absurd (omega arith)
no_rest (x ∷ xs) (suc i) l = no_rest xs i (omega arith)

-- The first of the rest is in the whole.
pub first_in : {A B : Type 0} (f : A → B) (xs : List A) (i : ℕ) (x : A) (more : List A) → drop i xs ≡ x ∷ more → In (f x) (map f xs)
first_in f [] zero x more e = absurd (cc)
first_in f [] (suc i) x more e = absurd (cc)
first_in f (y ∷ ys) zero x more e = (let g : x ≡ y = cc in inl (ap f g))
first_in f (y ∷ ys) (suc i) x more e = inr (first_in f ys i x more e)

pub past_end : {A : Type 0} (xs : List A) (i : ℕ) → slice_get xs i ≡ None → length xs ≤ i
past_end [] i e = omega arith
past_end (x ∷ xs) zero e = absurd (cc)
past_end (x ∷ xs) (suc i) e = (let k = past_end xs i e in omega arith)

-- ---- noting

noted_step : (before after n rest more : List ℕ) (target : List ℕ) → noted_all before more ≡ target → after ≡ noted_all before n → more ≡ n ++ rest
    → noted_all after rest ≡ target
noted_step before after n rest more target inv e f = ap (λ z. noted_all z rest) e ∙ sym (noted_all_append before n rest)
    ∙ ap (noted_all before) (sym f) ∙ inv

pub entries_step : (es : List (rust_key.Key × rust.Value)) (i : ℕ) (e : rust_key.Key × rust.Value) (before after target : List ℕ)
    → slice_get es i ≡ Some e → noted_all before (numbers (values_in (entries_of (drop i es)))) ≡ target
    → after ≡ noted_all before (number (value_of e.1)) → noted_all after (numbers (values_in (entries_of (drop (i + 1) es)))) ≡ target
entries_step es i e before after target at inv step =
    noted_step before after (number (value_of e.1)) (numbers (values_in (entries_of (drop (i + 1) es))))
    (numbers (values_in (entries_of (drop i es)))) target inv step
    (ap (λ l. numbers (values_in (entries_of l))) (rest_at es i e at))

pub attributes_step : (es : List (RcStr Global × rust.Value)) (i : ℕ) (e : RcStr Global × rust.Value) (before after target : List ℕ)
    → slice_get es i ≡ Some e → noted_all before (numbers (values_in (attributes_of (drop i es)))) ≡ target
    → after ≡ noted_all before (number (value_of e.1)) → noted_all after (numbers (values_in (attributes_of (drop (i + 1) es)))) ≡ target
attributes_step es i e before after target at inv step =
    noted_step before after (number (value_of e.1)) (numbers (values_in (attributes_of (drop (i + 1) es))))
    (numbers (values_in (attributes_of (drop i es)))) target inv step
    (ap (λ l. numbers (values_in (attributes_of l))) (rest_at es i e at))

-- ---- the walk

pub node_is : (nodes : List Node) (k : ℕ) (n : Node) → slice_get nodes k ≡ Some n → node_at nodes k ≡ n
node_is [] k n e = absurd (cc)
node_is (m ∷ nodes) zero n e = cc
node_is (m ∷ nodes) (suc k) n e = node_is nodes k n e

pub walked_on : (s : State) → IsSound s → (names : List (List ℕ)) (found more : List ℕ) (i k : ℕ) (n : Node) → IsWalked s names found i
    → slice_get found i ≡ Some k → slice_get s.nodes k ≡ Some n → more ≡ noted_all found (numbers (children n)) → IsWalked s names more (i + 1)
walked_on s sound names found more i k n w at is step =
    let f : suc i ≡ i + 1 = omega arith in
    let e : noted_all found (leads s.nodes k) ≡ more = ap (λ m. noted_all found (numbers (children m))) (node_is s.nodes k n is) ∙ sym step in
    subst (λ j. IsWalked s names more j) f (subst (λ z. IsWalked s names z (suc i)) e (walk_more s sound names found i k w at))

pub walked_first : (s : State) → IsSound s → (names : List (List ℕ)) (start found : List ℕ) → start ≡ [] → found ≡ noted_all start (roots s names)
    → IsWalked s names found 0
walked_first s sound names start found e f = subst (λ z. IsWalked s names z 0) (sym (f ∙ ap (λ z. noted_all z (roots s names)) e))
    (walk_begins s sound names)
