-- A dict and its entries, and entries that come to a dict one after the other.
use Rattle.std.proofs.Common.{◌≡◌, ◌∙◌, ap, sym, refl, arith, ℕ, zero, suc, ◌+◌, ◌≤◌, Bool, true, false, cond, IsTrue, List, [], ◌∷◌, length, drop, add-one, Option, Some, None}
use Rattle.std.specs.Prelude.{slice_get, option_map, option_and_then, IfNone}
use Rattle.std.specs.List.{list_all}
use Rattle.std.specs.Map.{lookup}
use Rattle.std.specs.Option.{option_copied}
use denote.Bor.{Bor}
use Rattle.kishu_meaning.specs.declared.key.Key as rust_key
use Rattle.kishu_meaning.specs.declared.value.Value as rust_value
use Rattle.kishu_meaning.specs.values.Keys.{Key, key_of, is_one}
use Rattle.kishu_meaning.specs.calls.Methods.{with_entries}
use Rattle.kishu_meaning.specs.values.Nodes.{changed, found, on_dict, dict_in, insert, value_at, value_under, without_entry}
use Rattle.kishu_meaning.specs.values.Sound.{is_sound, is_sound_node}
use Rattle.kishu_meaning.specs.values.Values.{Value, value_of, Node, dict}
use Rattle.kishu_heap.specs.Cells.{entries_of}
use Rattle.kishu_methods.specs.Contents.{entries_at}
use Rattle.kishu_methods.proofs.Changes.{first, second, inserts_on, inserts_none, unchanged}
use Rattle.kishu_methods.proofs.Pops.{some_same}

abbrev Entry : Type 0
Entry = rust_key.Key × rust_value.Value

-- ---- what is in the node of a dict

pub entered : (ns : List Node) (i : ℕ) (es : List (Key × Value)) → slice_get ns i ≡ Some (dict es) → entries_at ns i ≡ es
unfolding entries_at
entered ns i es h = rw h refl

pub is_dict : (ns : List Node) (i : ℕ) (es : List (Key × Value)) → slice_get ns i ≡ Some (dict es) → slice_get ns i ≡ Some (dict (entries_at ns i))
is_dict ns i es h = h ∙ ap (λ gs. Some (dict gs)) (sym (entered ns i es h))

pub dict_seen : (ns : List Node) (i : ℕ) (es : List (Key × Value)) → slice_get ns i ≡ Some (dict es) → Some (entries_at ns i) ≡ option_and_then dict_in (slice_get ns i)
dict_seen ns i es h = ap Some (entered ns i es h) ∙ ap (option_and_then dict_in) (sym h)

the_node : (ns : List Node) (i : ℕ) (n : Node) (es : List (Key × Value)) → slice_get ns i ≡ Some n → slice_get ns i ≡ Some (dict es) → n ≡ dict es
the_node ns i n es p q = some_same n (dict es) (sym p ∙ q)

pub dict_read : (ns : List Node) (i : ℕ) (n : Node) (es : List (Key × Value)) (o : Option (List (Key × Value))) → slice_get ns i ≡ Some n → slice_get ns i ≡ Some (dict es) → o ≡ dict_in n → o ≡ Some es
dict_read ns i n es o p q r = r ∙ ap dict_in (the_node ns i n es p q)

pub dict_sound : (k : ℕ) (ns : List Node) (i : ℕ) (n : Node) (es : List (Key × Value)) → slice_get ns i ≡ Some n → slice_get ns i ≡ Some (dict es) → IsTrue (is_sound_node k n) → IsTrue (list_all (λ e. is_sound k e.1) es)
dict_sound k ns i n es p q h = ap (is_sound_node k) (sym (the_node ns i n es p q)) ∙ h

-- ---- what a map of the code finds

found_at : (v : rust_value.Value) (rest : Option rust_value.Value) (others : Option Value) (b : Bool) → option_map value_of rest ≡ others → option_map value_of (cond b (Some v) rest) ≡ cond b (Some (value_of v)) others
found_at v rest others true h = refl
found_at v rest others false h = h

pub finds : (k : Key) (es : List Entry) → option_map value_of (lookup (λ y. is_one k (key_of y)) es) ≡ value_at is_one k (entries_of es)
finds k [] = refl
finds k (e ∷ es) = found_at e.1 _ _ (is_one k (key_of e.0)) (finds k es)

pub copied_value : (o : Option (Bor rust_value.Value)) → option_map (λ v. value_of v.now) o ≡ option_map value_of (option_copied o)
copied_value None = refl
copied_value (Some v) = refl

-- ---- what isn't there isn't taken out

kept_at : (e : Key × Value) (es rest : List (Key × Value)) (o : Option Value) (b : Bool) → cond b (Some e.1) o ≡ None → (o ≡ None → rest ≡ es) → cond b es (e ∷ rest) ≡ e ∷ es
kept_at e es rest o true h f = absurd (cc h)
kept_at e es rest o false h f = ap (λ r. e ∷ r) (f h)

kept : (k : Key) (es : List (Key × Value)) → value_at is_one k es ≡ None → without_entry is_one k es ≡ es
kept k [] h = refl
kept k (e ∷ es) h = kept_at e es _ _ (is_one k e.0) h (kept k es)

pub misses : (r : Option rust_value.Value) (k : Key) (es : List (Key × Value)) (i : ℕ) (ns new : List Node) → slice_get ns i ≡ Some (dict es) → option_map value_of r ≡ found (value_under k) i ns
    → new ≡ changed (on_dict (without_entry is_one k)) i ns → IfNone r (new ≡ ns)
misses (Some w) k es i ns new d v e = tt
misses None k es i ns new d v e = e ∙ unchanged (on_dict (without_entry is_one k)) i ns (dict es) d (ap dict (kept k es (sym (v ∙ ap (option_and_then (value_under k)) d))))

-- ---- one entry after the other

at_place : {A : Type 0} (xs : List A) (i : ℕ) (x : A) → Some x ≡ slice_get xs i → drop i xs ≡ x ∷ drop (suc i) xs
at_place [] i x h = absurd (cc h)
at_place (y ∷ ys) zero x h = ap (λ z. z ∷ ys) (sym (some_same x y h))
at_place (y ∷ ys) (suc i) x h = at_place ys i x h

entry_dropped : (es : List Entry) (i : ℕ) (e : Entry) → Some e ≡ slice_get es i → drop i es ≡ e ∷ drop (i + 1) es
entry_dropped es i e h = rw add-one (at_place es i e h)

pub entry_step : (es : List Entry) (i : ℕ) (k key : rust_key.Key) (v value : rust_value.Value) (id : ℕ) (before after : List Node) → Some (k, v) ≡ slice_get es i → key_of key ≡ key_of k → value_of value ≡ value_of v
    → after ≡ changed (insert (key_of key) (value_of value)) id before
    → changed (on_dict (with_entries (entries_of (drop i es)))) id before ≡ changed (on_dict (with_entries (entries_of (drop (i + 1) es)))) id after
entry_step es i k key v value id before after is same_key same_value e =
    rw (entry_dropped es i (k, v) is, e, same_key, same_value) (inserts_on (key_of k, value_of v) (entries_of (drop (i + 1) es)) id before)

none_left : {A : Type 0} (xs : List A) (i : ℕ) → length xs ≤ i → drop i xs ≡ []
none_left [] zero h = refl
none_left [] (suc i) h = refl
none_left (x ∷ xs) zero h = absurd (omega arith)
none_left (x ∷ xs) (suc i) h = none_left xs i (omega arith)

pub entry_end : (es : List Entry) (i id : ℕ) (ns : List Node) → length es ≤ i → changed (on_dict (with_entries (entries_of (drop i es)))) id ns ≡ ns
entry_end es i id ns h = rw (none_left es i h) (inserts_none id ns)

sound_entry : (k : ℕ) (es : List Entry) (i : ℕ) (e : Entry) → Some e ≡ slice_get es i → IsTrue (list_all (λ e. is_sound k e.1) (entries_of es)) → IsTrue (is_sound k (value_of e.1))
sound_entry k [] i e h a = absurd (cc h)
sound_entry k (x ∷ xs) zero e h a = rw (some_same e x h) (first (is_sound k (value_of x.1)) _ a)
sound_entry k (x ∷ xs) (suc i) e h a = sound_entry k xs i e h (second (is_sound k (value_of x.1)) _ a)

pub sound_value : (k : ℕ) (es : List Entry) (i : ℕ) (key : rust_key.Key) (v : rust_value.Value) → Some (key, v) ≡ slice_get es i → IsTrue (list_all (λ e. is_sound k e.1) (entries_of es)) → IsTrue (is_sound k (value_of v))
sound_value k es i key v h a = sound_entry k es i (key, v) h a
