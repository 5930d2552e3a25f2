-- Keys and entries that are copied one after the other.
use Rattle.std.proofs.Common.{◌≡◌, ◌∙◌, ap, sym, subst, refl, ℕ, zero, suc, ◌+◌, false, List, [], ◌∷◌, ◌++◌, map, take, add-one, Some}
use Rattle.std.specs.Prelude.{slice_get, unwrap_or}
use Rattle.std.specs.List.{AllByRecursion, IsDistinct}
use Rattle.std.specs.Map.{keys_of}
use Rattle.std.proofs.lemmas.List.{map-append}
use Rattle.std.proofs.lemmas.Map.Keys.{IsDistinct-head, IsDistinct-tail}
use Rattle.std.proofs.lemmas.Option.{slice_get_within, get_or_from_slice_get}
use Rattle.std.proofs.Math.Seq.{take-suc}
use Rattle.indexmap.specs.IndexMap.{insert_entry}
use Rattle.kishu_meaning.specs.declared.key.Key as rust_key
use Rattle.kishu_meaning.specs.declared.value.Value as rust_value
use Rattle.kishu_meaning.specs.values.Keys.{Key, key_of, is_one, same_key}
use Rattle.kishu_meaning.specs.values.KeyLaws.{is_one_equiv}
use Rattle.kishu_meaning.specs.values.Values.{Value, value_of}
use Rattle.kishu_heap.specs.Cells.{entries_of}

abbrev Entry : Type 0
Entry = rust_key.Key × rust_value.Value

taken_on : {A B : Type 0} (f : A → B) (xs : List A) (i : ℕ) (x : A) → slice_get xs i ≡ Some x → map f (take (i + 1) xs) ≡ map f (take i xs) ++ f x ∷ []
taken_on f xs i x h =
    let last : take (suc i) xs ≡ take i xs ++ x ∷ [] = take-suc xs i x (slice_get_within xs i x h) ∙ ap (λ y. take i xs ++ y ∷ []) (get_or_from_slice_get xs i x x h) in
    rw add-one (ap (map f) last ∙ map-append f (take i xs) (x ∷ []))

pub keys_on : (ks new : List rust_key.Key) (k : rust_key.Key) (es : List Entry) (i : ℕ) (e : Entry) → slice_get es i ≡ Some e
    → map key_of ks ≡ map (λ e. e.0) (entries_of (take i es)) → key_of k ≡ key_of e.0 → new ≡ ks ++ k ∷ [] → map key_of new ≡ map (λ e. e.0) (entries_of (take (i + 1) es))
keys_on ks new k es i e at told same is =
    ap (map key_of) is ∙ map-append key_of ks (k ∷ []) ∙ ap (λ x. map key_of ks ++ x ∷ []) same ∙ ap (λ xs. xs ++ key_of e.0 ∷ []) told
    ∙ sym (ap (map (λ e. e.0)) (taken_on (λ e. (key_of e.0, value_of e.1)) es i e at) ∙ map-append (λ e. e.0) (entries_of (take i es)) ((key_of e.0, value_of e.1) ∷ []))

-- none of the entries has this key
abbrev Without : Key → List (Key × Value) → Type 0
Without k = AllByRecursion (λ e. is_one k e.0 ≡ false)

differs : (k : rust_key.Key) (es : List Entry) (i : ℕ) (e : Entry) → AllByRecursion (λ y. same_key k y ≡ false) (keys_of es) → slice_get es i ≡ Some e → is_one (key_of e.0) (key_of k) ≡ false
differs k [] i e d h = absurd (cc h)
differs k (x ∷ es) zero e d h = let p : x ≡ e = ap (λ o. unwrap_or o x) h in is_one_equiv.symm (key_of e.0) (key_of k) ∙ ap (λ y. is_one (key_of k) (key_of y.0)) (sym p) ∙ d.0
differs k (x ∷ es) (suc i) e d h = differs k es i e d.1 h

no_earlier : (es : List Entry) (i : ℕ) (e : Entry) → IsDistinct same_key (keys_of es) → slice_get es i ≡ Some e → Without (key_of e.0) (entries_of (take i es))
no_earlier [] i e d h = absurd (cc h)
no_earlier (x ∷ es) zero e d h = tt
no_earlier (x ∷ es) (suc i) e d h = (differs x.0 es i e (IsDistinct-head same_key x.0 (keys_of es) d) h, no_earlier es i e (IsDistinct-tail same_key x.0 (keys_of es) d) h)

last_entry : (es : List Entry) (k : rust_key.Key) (v : rust_value.Value) → Without (key_of k) (entries_of es) → insert_entry same_key es k v ≡ es ++ (k, v) ∷ []
last_entry [] k v w = refl
last_entry (e ∷ es) k v w = rw w.0 (ap (λ rest. e ∷ rest) (last_entry es k v w.1))

pub entries_on : (cs new : List Entry) (k : rust_key.Key) (v : rust_value.Value) (es : List Entry) (i : ℕ) (e : Entry) → slice_get es i ≡ Some e → IsDistinct same_key (keys_of es)
    → entries_of cs ≡ entries_of (take i es) → key_of k ≡ key_of e.0 → value_of v ≡ value_of e.1 → new ≡ insert_entry same_key cs k v → entries_of new ≡ entries_of (take (i + 1) es)
entries_on cs new k v es i e at distinct told same_k same_v is =
    let w : Without (key_of k) (entries_of cs) = subst (λ x. Without x (entries_of cs)) (sym same_k) (subst (Without (key_of e.0)) (sym told) (no_earlier es i e distinct at)) in
    ap entries_of (is ∙ last_entry cs k v w) ∙ map-append (λ e. (key_of e.0, value_of e.1)) cs ((k, v) ∷ []) ∙ ap (λ xs. xs ++ (key_of k, value_of v) ∷ []) told
    ∙ ap (λ x. entries_of (take i es) ++ (x, value_of v) ∷ []) same_k ∙ ap (λ x. entries_of (take i es) ++ (key_of e.0, x) ∷ []) same_v
    ∙ sym (taken_on (λ e. (key_of e.0, value_of e.1)) es i e at)
