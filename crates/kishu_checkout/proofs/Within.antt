-- Names that lead to values among so many nodes: among more nodes, and where one is bound or unbound.
use Rattle.std.specs.Prelude.{◌≡◌, ◌≤◌, ℕ, Bool, true, false, ◌&&◌, IsTrue, if◌then◌else◌, List, [], ◌∷◌, Some}
use Rattle.std.specs.Cmp.Lexicographic.{slice_cmp}
use Rattle.std.specs.Ordering.{nat_cmp, match_ordering}
use Rattle.std.specs.Str.{bytes_eq}
use Rattle.std.specs.declared.cmp.Ordering.TheVariants.{Less, Equal, Greater}
use Rattle.std.proofs.Common.{refl, sym, subst, inl, inr, arith, ltb-true, Ordering}
use Rattle.std.proofs.lemmas.Bool.{and_parts, lt-ltb}
use Rattle.kishu_language.specs.tokens.Names.{is_name}
use Rattle.kishu_meaning.specs.moments.Accesses.{unbind}
use Rattle.kishu_meaning.specs.values.Sound.{is_sound, are_sound_names}
use Rattle.kishu_meaning.specs.values.Values.{Value, none, bool, integer, text, range, builtin, class, node, Names, find, bind}
use Rattle.kishu_objects.specs.Lists.{In}
use Rattle.kishu_objects_laws.specs.NameLaws.{find_in}

both : (a b : Bool) → IsTrue a → IsTrue b → IsTrue (a && b)
both true b h k = k
both false b h k = h

-- a name that leads to a value among n nodes
abbrev is_bound : ℕ → List ℕ × Value → Bool
is_bound n b = is_name b.0 && is_sound n b.1

module _ (n m : ℕ) (p : n ≤ m) where
  value_more : (v : Value) → IsTrue (is_sound n v) → IsTrue (is_sound m v)
  value_more none h = h
  value_more (bool b) h = h
  value_more (integer z) h = h
  value_more (text cs) h = h
  value_more (range a b c) h = h
  value_more (builtin k) h = h
  value_more (class k) h = h
  value_more (node i) h = lt-ltb i m (omega (arith, p, ltb-true i n h))

  pub names_more : (ns : Names) → IsTrue (are_sound_names n ns) → IsTrue (are_sound_names m ns)
  names_more [] h = refl
  names_more (b ∷ ns) h =
      let parts = and_parts (is_bound n b) (are_sound_names n ns) h in
      let here = and_parts (is_name b.0) (is_sound n b.1) parts.0 in
      both (is_bound m b) (are_sound_names m ns) (both (is_name b.0) (is_sound m b.1) here.0 (value_more b.1 here.1)) (names_more ns parts.1)

-- ---- where a name is bound

sound_in : (n : ℕ) (ns : Names) (b : List ℕ × Value) → IsTrue (are_sound_names n ns) → In b ns → IsTrue (is_bound n b)
sound_in n [] b h m = absurd m
sound_in n (c ∷ ns) b h (inl e) =
    subst (λ z. IsTrue (is_bound n z)) (sym e) (and_parts (is_bound n c) (are_sound_names n ns) h).0
sound_in n (c ∷ ns) b h (inr m) = sound_in n ns b (and_parts (is_bound n c) (are_sound_names n ns) h).1 m

module _ (n : ℕ) (x : List ℕ) (v : Value) (new : IsTrue (is_bound n (x, v))) where
  bind_at : (b : List ℕ × Value) (ns rest : Names) (o : Ordering) → IsTrue (is_bound n b) → IsTrue (are_sound_names n ns)
      → IsTrue (are_sound_names n rest)
      → IsTrue (are_sound_names n (match_ordering o ((x, v) ∷ b ∷ ns) ((x, v) ∷ ns) (b ∷ rest)))
  bind_at b ns rest Less here all more =
      both (is_bound n (x, v)) (are_sound_names n (b ∷ ns)) new (both (is_bound n b) (are_sound_names n ns) here all)
  bind_at b ns rest Equal here all more = both (is_bound n (x, v)) (are_sound_names n ns) new all
  bind_at b ns rest Greater here all more = both (is_bound n b) (are_sound_names n rest) here more

  bind_sound : (ns : Names) → IsTrue (are_sound_names n ns) → IsTrue (are_sound_names n (bind x v ns))
  bind_sound [] h = both (is_bound n (x, v)) true new refl
  bind_sound (b ∷ ns) h =
      let parts = and_parts (is_bound n b) (are_sound_names n ns) h in
      bind_at b ns (bind x v ns) (slice_cmp nat_cmp x b.0) parts.0 parts.1 (bind_sound ns parts.1)

-- as it is bound among others
pub found_bound : (n : ℕ) (x : List ℕ) (v : Value) (own ns new : Names) → find x own ≡ Some v → new ≡ bind x v ns
    → IsTrue (are_sound_names n own) → IsTrue (are_sound_names n ns) → IsTrue (are_sound_names n new)
found_bound n x v own ns new found is h k =
    subst (λ ms. IsTrue (are_sound_names n ms)) (sym is) (bind_sound n x v (sound_in n own (x, v) h (find_in x own v found)) ns k)

-- ---- where one is unbound

unbind_at : (n : ℕ) (same : Bool) (b : List ℕ × Value) (ns rest : Names) → IsTrue (is_bound n b) → IsTrue (are_sound_names n ns)
    → IsTrue (are_sound_names n rest) → IsTrue (are_sound_names n (if same then ns else b ∷ rest))
unbind_at n true b ns rest here all more = all
unbind_at n false b ns rest here all more = both (is_bound n b) (are_sound_names n rest) here more

pub unbind_sound : (n : ℕ) (x : List ℕ) (ns : Names) → IsTrue (are_sound_names n ns) → IsTrue (are_sound_names n (unbind x ns))
unbind_sound n x [] h = h
unbind_sound n x (b ∷ ns) h =
    let parts = and_parts (is_bound n b) (are_sound_names n ns) h in
    unbind_at n (bytes_eq x b.0) b ns (unbind x ns) parts.0 parts.1 (unbind_sound n x ns parts.1)
