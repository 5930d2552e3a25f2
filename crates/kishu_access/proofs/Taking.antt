-- Items that are taken, as the rules say.
use Rattle.std.proofs.Common.{◌≡◌, ◌∙◌, refl, ap, sym, arith, ℕ, zero, suc, ◌<◌, false, IsTrue, List, [], ◌∷◌, length, map, get_or, Option, Some, None}
use Rattle.std.specs.Prelude.{slice_get, IfSome, option_map, option_and_then, ℤ, pos, ◌+ℤ◌, ◌*ℤ◌}
use Rattle.std.proofs.lemmas.Bool.{false≢true}
use Rattle.kishu_meaning.specs.declared.value.Value as rust
use Rattle.kishu_meaning.specs.comparing.Equal.{range_length}
use Rattle.kishu_meaning.specs.items.Indexes.{index_of, place_in, place_of, out_of_range}
use Rattle.kishu_meaning.specs.values.Keys.{Key}
use Rattle.kishu_meaning.specs.items.KeyOf.{key_of_value}
use Rattle.kishu_meaning.specs.values.Kinds.{no_key}
use Rattle.kishu_meaning.specs.moments.Moment.{Moment, Ends, fine, M, and_then, or_else, give}
use Rattle.kishu_meaning.specs.values.Nodes.{value_under}
use Rattle.kishu_meaning.specs.values.Sound.{is_sound, are_sound}
use Rattle.kishu_meaning.specs.items.Subscripts.{position, taken, item, node_item, not_subscriptable}
use Rattle.kishu_meaning.specs.values.Values.{Value, integer, text, range, value_of, Node, list, tuple, dict, object, function, exception}
use Rattle.kishu_items.specs.Holding.{first, second}
use Rattle.kishu_machine.specs.declared.fault.Fault.{Fault}
use Rattle.kishu_machine.specs.Composing.{fails_on}
use Rattle.kishu_machine.specs.Machine.{Fails}
use Rattle.kishu_access.specs.Forms.{items_from, is_dict}

-- ---- items at places

pub at_index : (xs : List rust.Value) (i : ℕ) (x : rust.Value) → i < length xs → x ≡ get_or xs i x → slice_get (map value_of xs) i ≡ Some (value_of x)
at_index [] i x h p = absurd (omega arith)
at_index (y ∷ ys) zero x h p = ap (λ (z : rust.Value). Some (value_of z)) (sym p)
at_index (y ∷ ys) (suc i) x h p = at_index ys i x (omega arith) p

pub sound_there : (n : ℕ) (vs : List Value) (i : ℕ) (v : Value) → slice_get vs i ≡ Some v → IsTrue (are_sound n vs) → IsTrue (is_sound n v)
sound_there n [] i v e h = absurd cc
sound_there n (u ∷ us) zero v e h =
    let same : v ≡ u = cc in
    rw same (first (is_sound n u) (are_sound n us) h)
sound_there n (u ∷ us) (suc i) v e h = sound_there n us i v e (second (is_sound n u) (are_sound n us) h)

-- ---- `s[i]`

module _ {A : Type 0} (as' : List A) (i : Value) (s t : Moment) (n : ℕ) (long : n ≡ length as') where
  pub taken_at : (k : ℕ) (a : A) → position n i s ≡ fine k t → slice_get as' k ≡ Some a → taken as' i s ≡ fine a t
  taken_at k a h e =
      ap (λ (m : ℕ). and_then (position m i s) (λ k. or_else out_of_range (slice_get as' k))) (sym long)
      ∙ (ap (λ (x : Ends ℕ). and_then x (λ k. or_else out_of_range (slice_get as' k))) h
      ∙ ap (λ (o : Option A). or_else out_of_range o t) e)

  pub taken_fails : (f : Fault) → Fails f t (position n i s) → Fails f t (taken as' i s)
  taken_fails f h =
      rw long at (fails_on (λ k. or_else out_of_range (slice_get as' k)) f t (position n i s) h)

module _ (cs : List ℕ) (i : Value) (s t : Moment) (n : ℕ) (long : n ≡ length cs) where
  text_value : (k : ℕ) (v : Value) (o : Option ℕ) → Some v ≡ option_map (λ c. text (c ∷ [])) o → position n i s ≡ fine k t → slice_get cs k ≡ o → item (text cs) i s ≡ fine v t
  text_value k v (Some c) p h e =
      let same : v ≡ text (c ∷ []) = cc in
      ap (λ (x : Ends ℕ). and_then x (λ c. give (text (c ∷ [])))) (taken_at cs i s t n long k c h e) ∙ ap (λ (w : Value). fine w t) (sym same)
  text_value k v None p h e = absurd cc

  pub text_at : (k : ℕ) (v : Value) → position n i s ≡ fine k t → Some v ≡ option_map (λ c. text (c ∷ [])) (slice_get cs k) → item (text cs) i s ≡ fine v t
  text_at k v h p = text_value k v (slice_get cs k) p h refl

  pub text_fails : (f : Fault) → Fails f t (position n i s) → Fails f t (item (text cs) i s)
  text_fails f h = fails_on (λ c. give (text (c ∷ []))) f t (taken cs i s) (taken_fails cs i s t n long f h)

text_is_sound : (m : ℕ) (v : Value) (o : Option ℕ) → Some v ≡ option_map (λ c. text (c ∷ [])) o → IsTrue (is_sound m v)
text_is_sound m v (Some c) p =
    let same : v ≡ text (c ∷ []) = cc in
    rw same refl
text_is_sound m v None p = absurd cc

pub character_sound : (m : ℕ) (v : Value) (cs : List ℕ) (k : ℕ) → Some v ≡ option_map (λ c. text (c ∷ [])) (slice_get cs k) → IsTrue (is_sound m v)
character_sound m v cs k p = text_is_sound m v (slice_get cs k) p

-- ---- of a range

module _ (a b c : ℤ) (i : Value) (s t : Moment) where
  abbrev number : ℕ → M Value
  number k = give (integer (a +ℤ pos k *ℤ c))

-- ---- of a node

pub items_taken : (o : Option Node) (vs : List Value) (v i : Value) (s : Moment) → Some vs ≡ items_from o → node_item v i o s ≡ taken vs i s
items_taken (Some (list ws)) vs v i s h = ap (λ (xs : List Value). taken xs i s) (let e : ws ≡ vs = cc in e)
items_taken (Some (tuple ws)) vs v i s h = ap (λ (xs : List Value). taken xs i s) (let e : ws ≡ vs = cc in e)
items_taken (Some (dict es)) vs v i s h = absurd cc
items_taken (Some (object as')) vs v i s h = absurd cc
items_taken (Some (function profile code ws)) vs v i s h = absurd cc
items_taken (Some (exception kind ws)) vs v i s h = absurd cc
items_taken None vs v i s h = absurd cc

pub no_items : (o : Option Node) (v i : Value) (s : Moment) → items_from o ≡ None → is_dict o ≡ false → node_item v i o s ≡ not_subscriptable v s
no_items (Some (list ws)) v i s h d = absurd cc
no_items (Some (tuple ws)) v i s h d = absurd cc
no_items (Some (dict es)) v i s h d = absurd cc
no_items (Some (object as')) v i s h d = refl
no_items (Some (function profile code ws)) v i s h d = refl
no_items (Some (exception kind ws)) v i s h d = refl
no_items None v i s h d = refl

module _ (v i : Value) (s t : Moment) where
  pub entry_taken : (o : Option Node) (k : Key) (f : Option Value) → IsTrue (is_dict o) → key_of_value i s ≡ fine k t → f ≡ option_and_then (value_under k) o → node_item v i o s ≡ or_else (no_key i) f t
  entry_taken (Some (dict es)) k f d h e =
      ap (λ (x : Ends Key). and_then x (λ k. or_else (no_key i) (option_and_then (value_under k) (Some (dict es))))) h ∙ ap (λ (o : Option Value). or_else (no_key i) o t) (sym e)
  entry_taken (Some (list ws)) k f d h e = absurd (false≢true d)
  entry_taken (Some (tuple ws)) k f d h e = absurd (false≢true d)
  entry_taken (Some (object as')) k f d h e = absurd (false≢true d)
  entry_taken (Some (function profile code ws)) k f d h e = absurd (false≢true d)
  entry_taken (Some (exception kind ws)) k f d h e = absurd (false≢true d)
  entry_taken None k f d h e = absurd (false≢true d)

  pub entry_fails : (o : Option Node) (f : Fault) → IsTrue (is_dict o) → Fails f t (key_of_value i s) → Fails f t (node_item v i o s)
  entry_fails (Some (dict es)) f d h = fails_on (λ k. or_else (no_key i) (option_and_then (value_under k) (Some (dict es)))) f t (key_of_value i s) h
  entry_fails (Some (list ws)) f d h = absurd (false≢true d)
  entry_fails (Some (tuple ws)) f d h = absurd (false≢true d)
  entry_fails (Some (object as')) f d h = absurd (false≢true d)
  entry_fails (Some (function profile code ws)) f d h = absurd (false≢true d)
  entry_fails (Some (exception kind ws)) f d h = absurd (false≢true d)
  entry_fails None f d h = absurd (false≢true d)
