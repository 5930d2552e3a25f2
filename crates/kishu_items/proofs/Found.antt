-- What is found at a place of what is walked is sound, and an item of a dict is an entry that is seen.
use Rattle.std.proofs.Common.{◌≡◌, refl, ℕ, zero, suc, Bool, true, false, IsTrue, List, [], ◌∷◌, length, Option, Some, None, Result, Ok, Err, IfOk}
use Rattle.std.specs.Prelude.{slice_get, IfSome, option_map, option_and_then, ◌==◌, if◌then◌else◌}
use Rattle.std.specs.List.{list_all}
use Rattle.kishu_meaning.specs.declared.key.Key as rust_key
use Rattle.kishu_meaning.specs.declared.value.Value as rust
use Rattle.kishu_meaning.specs.values.Keys.{Key}
use Rattle.kishu_meaning.specs.values.Nodes.{dict_in, list_in}
use Rattle.kishu_meaning.specs.values.Sound.{is_sound, are_sound, is_sound_node}
use Rattle.kishu_meaning.specs.values.Values.{Value, value_of, Node, list, tuple, dict, object, function, exception}
use Rattle.kishu_meaning.specs.moments.Moment.{Moment, and_then, give}
use Rattle.kishu_meaning.specs.items.Walks.{View, along_dict, entry_seen, item_for, or_none_there, size_changed}
use Rattle.kishu_items.specs.Holding.{first, second}
use Rattle.kishu_items.specs.Walks.{entry_for, entry_of}

item_sound : (n : ℕ) (vs : List Value) (i : ℕ) (v : Value) → Some v ≡ slice_get vs i → IsTrue (are_sound n vs) → IsTrue (is_sound n v)
item_sound n [] i v e h = absurd cc
item_sound n (u ∷ us) zero v e h =
    let same : v ≡ u = cc in
    rw same (first (is_sound n u) (are_sound n us) h)
item_sound n (u ∷ us) (suc i) v e h = item_sound n us i v e (second (is_sound n u) (are_sound n us) h)

pub found_sound : (n : ℕ) (o : Option rust.Value) (vs : List Value) (i : ℕ) → option_map value_of o ≡ slice_get vs i → IsTrue (are_sound n vs) → IfSome o (λ v. IsTrue (is_sound n (value_of v)))
found_sound n (Some v) vs i e h = item_sound n vs i (value_of v) e h
found_sound n None vs i e h = tt

pub found_sound_ok : {E : Type 0} (n : ℕ) (r : Result (Option rust.Value) E) (vs : List Value) (i : ℕ) → IfOk r (λ o. option_map value_of o ≡ slice_get vs i) → IsTrue (are_sound n vs) → IfOk r (λ o. IfSome o (λ v. IsTrue (is_sound n (value_of v))))
found_sound_ok n (Ok o) vs i e h = found_sound n o vs i e h
found_sound_ok n (Err x) vs i e h = tt

pub items_sound : (n : ℕ) (x : Node) (vs : List Value) → Some vs ≡ list_in x → IsTrue (is_sound_node n x) → IsTrue (are_sound n vs)
items_sound n (list us) vs e h =
    let same : vs ≡ us = cc in
    rw same h
items_sound n (tuple us) vs e h = absurd cc
items_sound n (dict es) vs e h = absurd cc
items_sound n (object as') vs e h = absurd cc
items_sound n (function profile code us) vs e h = absurd cc
items_sound n (exception kind us) vs e h = absurd cc

-- ---- the entries of a dict

module _ {M : Type 0} (f : M → List (Key × Value)) (n : ℕ) where
  pub entries_sound : (x : Node) (o : Option M) → option_map f o ≡ dict_in x → IsTrue (is_sound_node n x) → IfSome o (λ m. IsTrue (list_all (λ e. is_sound n e.1) (f m)))
  entries_sound x None e h = tt
  entries_sound (dict es) (Some m) e h =
      let same : f m ≡ es = cc in
      rw same h
  entries_sound (list vs) (Some m) e h = absurd cc
  entries_sound (tuple vs) (Some m) e h = absurd cc
  entries_sound (object as') (Some m) e h = absurd cc
  entries_sound (function profile code vs) (Some m) e h = absurd cc
  entries_sound (exception kind vs) (Some m) e h = absurd cc

  pub entries_there : (o : Option M) → IfSome o (λ m. IsTrue (list_all (λ e. is_sound n e.1) (f m))) → IsTrue (list_all (λ e. is_sound n e.1) (or_none_there (option_map f o)))
  entries_there (Some m) h = h
  entries_there None h = refl

pair_sound : (n : ℕ) (es : List (Key × Value)) (i : ℕ) (e : Key × Value) → Some e ≡ slice_get es i → IsTrue (list_all (λ e. is_sound n e.1) es) → IsTrue (is_sound n e.1)
pair_sound n [] i e h w = absurd cc
pair_sound n (f ∷ fs) zero e h w =
    let same : e ≡ f = cc in
    rw same (first (is_sound n f.1) (list_all (λ e. is_sound n e.1) fs) w)
pair_sound n (f ∷ fs) (suc i) e h w = pair_sound n fs i e h (second (is_sound n f.1) (list_all (λ e. is_sound n e.1) fs) w)

pub entry_sound : (n k : ℕ) (es : List (Key × Value)) (o : Option (rust_key.Key × rust.Value)) → option_map entry_of o ≡ slice_get es k → IsTrue (list_all (λ e. is_sound n e.1) es) → IfSome o (λ e. IsTrue (is_sound n (value_of e.1)))
entry_sound n k es (Some e) h w = pair_sound n es k (entry_of e) h w
entry_sound n k es None h w = tt

either_seen : (b : Bool) (view : View) (o : Option (Key × Value)) (s : Moment) → (if b then entry_seen view o else size_changed) s ≡ and_then ((if b then give o else size_changed) s) (entry_seen view)
either_seen true view o s = refl
either_seen false view o s = refl

pub dict_item : (n start k : ℕ) (view : View) (s : Moment) → item_for (along_dict n start view) k s ≡ and_then (entry_for n start k s) (entry_seen view)
dict_item n start k view s =
    let es = or_none_there (option_and_then dict_in (slice_get s.nodes n)) in
    either_seen (length es == start) view (slice_get es k) s
