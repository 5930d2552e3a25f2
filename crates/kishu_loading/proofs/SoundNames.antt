-- Names that lead to values among so many nodes: among more nodes, with one more behind them, and where one is bound.
use Rattle.std.specs.Prelude.{◌≡◌, ◌≤◌, ℕ, Bool, true, false, ◌&&◌, IsTrue, List, [], ◌∷◌, ◌++◌}
use Rattle.std.specs.Cmp.Lexicographic.{slice_cmp}
use Rattle.std.specs.Ordering.{nat_cmp, match_ordering}
use Rattle.std.specs.declared.cmp.Ordering.TheVariants.{Less, Equal, Greater}
use Rattle.std.proofs.Common.{refl, ap, ◌∙◌, arith, ltb-true, Ordering}
use Rattle.std.proofs.lemmas.Bool.{and_parts, lt-ltb}
use Rattle.kishu_language.specs.tokens.Names.{is_name}
use Rattle.kishu_meaning.specs.values.Sound.{is_sound, are_sound_names}
use Rattle.kishu_meaning.specs.values.Values.{Value, none, bool, integer, text, range, builtin, class, node, Names, bind}
use Rattle.kishu_loading.proofs.Keyed.{all_more}

pub both : (a b : Bool) → IsTrue a → IsTrue b → IsTrue (a && b)
both true b h k = k
both false b h k = h

-- a name that leads to a value among n nodes
abbrev pub is_bound : ℕ → List ℕ × Value → Bool
is_bound n b = is_name b.0 && is_sound n b.1

module _ (n m : ℕ) (p : n ≤ m) where
  value_more : (v : Value) → IsTrue (is_sound n v) → IsTrue (is_sound m v)
  value_more none h = h
  value_more (bool b) h = h
  value_more (integer z) h = h
  value_more (text cs) h = h
  value_more (range a b c) h = h
  value_more (builtin k) h = h
  value_more (class k) h = h
  value_more (node i) h = lt-ltb i m (omega (arith, p, ltb-true i n h))

  bound_more : (b : List ℕ × Value) → IsTrue (is_bound n b) → IsTrue (is_bound m b)
  bound_more b h =
      let parts = and_parts (is_name b.0) (is_sound n b.1) h in
      both (is_name b.0) (is_sound m b.1) parts.0 (value_more b.1 parts.1)

  pub names_more : (ns : Names) → IsTrue (are_sound_names n ns) → IsTrue (are_sound_names m ns)
  names_more [] h = refl
  names_more (b ∷ ns) h =
      let parts = and_parts (is_bound n b) (are_sound_names n ns) h in
      both (is_bound m b) (are_sound_names m ns) (bound_more b parts.0) (names_more ns parts.1)

  pub names_push : (x : List ℕ) (v : Value) (old new : Names) → new ≡ old ++ (x, v) ∷ []
      → IsTrue (are_sound_names n old) → IsTrue (is_name x) → IsTrue (is_sound m v) → IsTrue (are_sound_names m new)
  names_push x v old new e h k l =
      ap (are_sound_names m) e ∙ all_more (is_bound m) old (x, v) (names_more old h) (both (is_name x) (is_sound m v) k l)

-- where a name is bound
module _ (n : ℕ) (x : List ℕ) (v : Value) (new : IsTrue (is_bound n (x, v))) where
  bind_at : (b : List ℕ × Value) (ns rest : Names) (o : Ordering) → IsTrue (is_bound n b) → IsTrue (are_sound_names n ns)
      → IsTrue (are_sound_names n rest)
      → IsTrue (are_sound_names n (match_ordering o ((x, v) ∷ b ∷ ns) ((x, v) ∷ ns) (b ∷ rest)))
  bind_at b ns rest Less here all more =
      both (is_bound n (x, v)) (are_sound_names n (b ∷ ns)) new (both (is_bound n b) (are_sound_names n ns) here all)
  bind_at b ns rest Equal here all more = both (is_bound n (x, v)) (are_sound_names n ns) new all
  bind_at b ns rest Greater here all more = both (is_bound n b) (are_sound_names n rest) here more

  pub bind_sound : (ns : Names) → IsTrue (are_sound_names n ns) → IsTrue (are_sound_names n (bind x v ns))
  bind_sound [] h = both (is_bound n (x, v)) true new refl
  bind_sound (b ∷ ns) h =
      let parts = and_parts (is_bound n b) (are_sound_names n ns) h in
      bind_at b ns (bind x v ns) (slice_cmp nat_cmp x b.0) parts.0 parts.1 (bind_sound ns parts.1)
