-- What holds of the order of first meeting.
use Rattle.std.specs.Prelude.{◌≡◌, ℕ, suc, zero, ◌+◌, ◌<◌, ◌^◌, List, [], ◌∷◌, ◌++◌, length, map, take, slice_get, Some}
use Rattle.std.specs.declared.alloc.Global.{Global}
use Rattle.std.specs.declared.rc.RcStr.{RcStr}
use Rattle.std.proofs.Common.{refl, ap, sym, ◌∙◌, subst, arith}
use Rattle.kishu_meaning.specs.values.Values.{Node}
use Rattle.kishu_names.specs.Namespace.{Namespace}
use Rattle.kishu_names.specs.Record.{texts_of}
use Rattle.kishu_objects.specs.Bytes.{many, row_bytes}
use Rattle.kishu_objects.specs.Fits.{AllFit, NodeFits, StateFits}
use Rattle.kishu_objects.specs.Picture.{roots}
use Rattle.kishu_objects.specs.Sound.{IsSound}
use Rattle.kishu_objects_laws.specs.ListLaws.{few}
use Rattle.kishu_objects_laws.specs.OrderLaws.{roots_below, rounds_below, order_distinct, child_in, root_in}
use Rattle.kishu_picture.specs.Held.{held, order_of, picture_of, bytes_of}
use Rattle.kishu_picture.specs.Rows.{IsMet, NamesFit, names_of, names_bytes, rows_of}

module _ (nodes : List Node) (names : Namespace) (group : List (RcStr Global)) (sound : IsSound (held nodes names)) (small : length nodes < 2 ^ 32)
  where
    order_is_met : IsMet nodes names group (order_of nodes names group)
    order_is_met =
        let s = held nodes names in
        let of = texts_of group in
        let below = rounds_below nodes (roots s of) (length nodes) (roots_below s sound of) sound.nodes (length nodes) in
        record {
          order = refl;
          low = below;
          differ = order_distinct s of;
          closed = λ i m a h. child_in s sound of i a m h;
          met = λ x i m e. root_in s sound of x i m e;
          few = (let l = few (length nodes) (order_of nodes names group) (order_distinct s of) below in omega (arith, l, small));
        }

    pub is_met : (found : List ℕ) → found ≡ order_of nodes names group → IsMet nodes names group found
    is_met found e = subst (λ f. IsMet nodes names group f) (sym e) order_is_met

-- ---- the whole

pub whole_is : (nodes : List Node) (names : Namespace) (group : List (RcStr Global)) (found : List ℕ) → found ≡ order_of nodes names group
    → names_bytes found names group ++ many row_bytes (rows_of nodes found) ≡ bytes_of nodes names group
whole_is nodes names group found e = ap (λ f. names_bytes f names group ++ many row_bytes (rows_of nodes f)) e

pub whole_fits : (nodes : List Node) (names : Namespace) (group : List (RcStr Global)) (found : List ℕ) → found ≡ order_of nodes names group
    → NamesFit (names_of found names.bound (texts_of group)) → AllFit NodeFits (rows_of nodes found) → StateFits (picture_of nodes names group)
whole_fits nodes names group found e a b = subst (λ f. NamesFit (names_of f names.bound (texts_of group)) × AllFit NodeFits (rows_of nodes f)) e
    (a, b)

-- ---- the list of nodes

take_more : (xs : List ℕ) (i x : ℕ) → slice_get xs i ≡ Some x → take (i + 1) xs ≡ take i xs ++ x ∷ []
take_more [] i x e = absurd (cc)
take_more (y ∷ ys) zero x e = (let f : y ≡ x = cc in ap (λ z. z ∷ []) f)
take_more (y ∷ ys) (suc i) x e = (let r = take_more ys i x e in let f : suc i + 1 ≡ suc (i + 1) = omega arith in ap (λ j. take j (y ∷ ys)) f
    ∙ ap (λ z. y ∷ z) r)

map_push : {A : Type 0} (f : A → ℕ) (xs : List A) (a : A) → map f (xs ++ a ∷ []) ≡ map f xs ++ f a ∷ []
map_push f [] a = refl
map_push f (x ∷ xs) a = ap (λ z. f x ∷ z) (map_push f xs a)

pub more_taken : {A : Type 0} (f : A → ℕ) (ids new : List A) (a : A) (keys : List ℕ) (i : ℕ) → map f ids ≡ take i keys → slice_get keys i ≡ Some (f a)
    → new ≡ ids ++ a ∷ [] → map f new ≡ take (i + 1) keys
more_taken f ids new a keys i inv at step = ap (map f) step ∙ map_push f ids a ∙ ap (λ z. z ++ f a ∷ []) inv ∙ sym (take_more keys i (f a) at)
