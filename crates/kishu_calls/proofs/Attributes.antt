-- Keywords as the attributes of an object, in order, where none stands twice.
use Rattle.std.proofs.Common.{◌≡◌, ◌∙◌, refl, ap, sym, subst, arith, Bool, true, false, cond, ◌||◌, not, IsTrue, List, [], ◌∷◌, ◌++◌, length, map, append_assoc}
use Rattle.std.proofs.lemmas.Bool.{false≢true}
use Rattle.std.proofs.lemmas.Slice.Eq.{bytes_eq-Decides}
use Rattle.std.specs.Rc.{rc_str_bytes}
use Rattle.std.specs.Str.{bytes_eq}
use Rattle.std.specs.declared.alloc.Global.{Global}
use Rattle.std.specs.declared.rc.RcStr.{RcStr}
use Rattle.indexmap.specs.IndexMap.{insert_entry}
use Rattle.kishu_heap.specs.Cells.{attributes_of}
use Rattle.kishu_items.specs.Holding.{first, second}
use Rattle.kishu_language.specs.tokens.Names.{is_among}
use Rattle.kishu_language.specs.grammar.Refusals.{all_differ}
use Rattle.kishu_language.specs.trees.Tree.{Text}
use Rattle.kishu_meaning.specs.values.Values.{Names, value_of}
use Rattle.kishu_meaning.specs.declared.value.Value as rust
use Rattle.kishu_calls.specs.Calls.{named_of}

abbrev Pair : Type 0
Pair = RcStr Global × rust.Value

abbrev titles_in : Names → List Text
titles_in = map (λ k. k.0)

abbrev same : RcStr Global → RcStr Global → Bool
same x y = bytes_eq (rc_str_bytes x) (rc_str_bytes y)

or_left : (b c : Bool) → b ≡ true → (b || c) ≡ true
or_left true c h = refl
or_left false c h = absurd (false≢true h)

or_right : (b c : Bool) → c ≡ true → (b || c) ≡ true
or_right true c h = refl
or_right false c h = h

module _ (k : RcStr Global) (v : rust.Value) (rest : Names) where
  there : (x : Text) (es : List Pair) → x ≡ rc_str_bytes k → is_among x (titles_in (attributes_of es ++ (rc_str_bytes k, value_of v) ∷ rest)) ≡ true
  there x [] h = or_left (bytes_eq x (rc_str_bytes k)) _ ((bytes_eq-Decides x (rc_str_bytes k)).1 h)
  there x (e ∷ es) h = or_right (bytes_eq x (rc_str_bytes e.0)) _ (there x es h)

  twice : (e : Pair) (es : List Pair) → bytes_eq (rc_str_bytes k) (rc_str_bytes e.0) ≡ true → IsTrue (all_differ (titles_in (attributes_of (e ∷ es) ++ (rc_str_bytes k, value_of v) ∷ rest))) → ⊥
  twice e es q h =
      let found = there (rc_str_bytes e.0) es (sym ((bytes_eq-Decides (rc_str_bytes k) (rc_str_bytes e.0)).0 q)) in
      let once = first (not (is_among (rc_str_bytes e.0) (titles_in (attributes_of es ++ (rc_str_bytes k, value_of v) ∷ rest)))) _ h in
      false≢true (subst (λ b. IsTrue (not b)) found once)

  put_at : (e : Pair) (es new : List Pair) (b : Bool) → bytes_eq (rc_str_bytes k) (rc_str_bytes e.0) ≡ b → IsTrue (all_differ (titles_in (attributes_of (e ∷ es) ++ (rc_str_bytes k, value_of v) ∷ rest)))
      → attributes_of new ≡ attributes_of es ++ (rc_str_bytes k, value_of v) ∷ [] → attributes_of (cond b ((e.0, v) ∷ es) (e ∷ new)) ≡ attributes_of (e ∷ es) ++ (rc_str_bytes k, value_of v) ∷ []
  put_at e es new true q d h = absurd (twice e es q d)
  put_at e es new false q d h = ap (λ as'. (rc_str_bytes e.0, value_of e.1) ∷ as') h

  pub put_last : (es : List Pair) → IsTrue (all_differ (titles_in (attributes_of es ++ (rc_str_bytes k, value_of v) ∷ rest))) → attributes_of (insert_entry same es k v) ≡ attributes_of es ++ (rc_str_bytes k, value_of v) ∷ []
  put_last [] d = refl
  put_last (e ∷ es) d = put_at e es (insert_entry same es k v) _ refl d (put_last es (second (not (is_among (rc_str_bytes e.0) (titles_in (attributes_of es ++ (rc_str_bytes k, value_of v) ∷ rest)))) _ d))

-- the first of the keywords that are left is put behind the attributes
pub attribute_put : (old new : List Pair) (k : RcStr Global) (v : rust.Value) (its rest all : List Pair)
    → new ≡ insert_entry same old k v → its ≡ (k, v) ∷ rest → attributes_of old ++ named_of its ≡ named_of all
    → IsTrue (all_differ (titles_in (named_of all))) → attributes_of new ++ named_of rest ≡ named_of all
attribute_put old new k v its rest all e eits h d =
    let is = sym (ap (λ l. attributes_of old ++ named_of l) eits) ∙ h in
    let last = put_last k v (named_of rest) old (subst (λ (ks : Names). IsTrue (all_differ (titles_in ks))) (sym is) d) in
    ap (λ l. attributes_of l ++ named_of rest) e ∙ ap (λ l. l ++ named_of rest) last
    ∙ append_assoc (attributes_of old) ((rc_str_bytes k, value_of v) ∷ []) (named_of rest) ∙ is

pub nothing_left : {X : Type 0} (l : List X) → length l ≡ 0 → l ≡ []
nothing_left [] h = refl
nothing_left (x ∷ xs) h = absurd (omega arith)
