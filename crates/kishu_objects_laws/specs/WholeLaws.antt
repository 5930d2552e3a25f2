-- Two states are the same exactly where the pictures of all their names are equal.
use Rattle.std.specs.Prelude.{◌≡◌, ℕ, ⊤, List, [], ◌∷◌, ◌++◌, map, Option, Some, None, Contains}
use Rattle.std.proofs.Common.{refl, ap, sym, ◌∙◌, subst, inl, inr}
use Rattle.kishu_meaning.specs.values.Values.{Value, State, find}
use Rattle.kishu_objects.specs.Lists.{In, Rise}
use Rattle.kishu_objects.specs.Same.{Same, BothOrNone, view}
use Rattle.kishu_objects.specs.Picture.{place, with_value, bound, order, named, picture, listed, whole}
use Rattle.kishu_objects.specs.Sound.{IsSound}
use Rattle.kishu_objects_laws.specs.NameLaws.{rise_same, found_listed, listed_found}
use Rattle.kishu_objects.specs.Pairings.{Alike}
use Rattle.kishu_objects_laws.specs.PairingLaws.{pairs_same}
use Rattle.kishu_objects_laws.specs.PictureLaws.{AtOnePlace, picture_pairs}
use Rattle.kishu_objects_laws.specs.SameLaws.{same_fewer, same_picture}

-- ---- listed names

none_some : (v : Value) → None ≡ Some v → ⊥
none_some v e = cc

keys_with : (s : State) (f : ℕ → ℕ) (x : List ℕ) (ys : List (List ℕ)) (v : Value) (o : Option Value) → o ≡ Some v → map (λ (b : List ℕ × Value). b.0) (map (named f) (with_value x o ++ bound s ys)) ≡ x ∷ map (λ (b : List ℕ × Value). b.0) (map (named f) (bound s ys))
keys_with s f x ys v None e = absurd (none_some v e)
keys_with s f x ys v (Some w) e = refl

-- The names of a picture are those that are bound.
pub keys_of : (s : State) (f : ℕ → ℕ) (xs : List (List ℕ)) → ((x : List ℕ) → In x xs → (v : Value) × (find x s.names ≡ Some v)) → map (λ (b : List ℕ × Value). b.0) (map (named f) (bound s xs)) ≡ xs
keys_of s f [] h = refl
keys_of s f (x ∷ xs) h = (let k = h x (inl refl) in keys_with s f x xs k.0 (find x s.names) k.1 ∙ ap (λ l. x ∷ l) (keys_of s f xs (λ y m. h y (inr m))))

-- The picture of all names has all names.
pub listed_whole : (s : State) → listed (whole s) ≡ listed s
listed_whole s = keys_of s (place (order s (listed s))) (listed s) (listed_found s.names)

module _ (s t : State) (sound : IsSound s) (other : IsSound t) where
  name_there : Same s t → (x : List ℕ) (v : Value) → find x s.names ≡ Some v → In x (listed t)
  name_there h x v e = this (find x t.names) refl (subst (λ o. BothOrNone (λ v w. view s.nodes v ≡ view t.nodes w) o (find x t.names)) e (h.views x [] tt))
    where
      this : (q : Option Value) → find x t.names ≡ q → BothOrNone (λ v w. view s.nodes v ≡ view t.nodes w) (Some v) q → In x (listed t)
      this None f b = absurd b
      this (Some w) f b = found_listed t.names x w f

  name_here : Same s t → (x : List ℕ) (w : Value) → find x t.names ≡ Some w → In x (listed s)
  name_here h x w e = this (find x s.names) refl (subst (λ q. BothOrNone (λ v w. view s.nodes v ≡ view t.nodes w) (find x s.names) q) e (h.views x [] tt))
    where
      this : (o : Option Value) → find x s.names ≡ o → BothOrNone (λ v w. view s.nodes v ≡ view t.nodes w) o (Some w) → In x (listed s)
      this None f b = absurd b
      this (Some v) f b = found_listed s.names x v f

  -- States that are the same have equal pictures of all names.
  pub same_whole : Rise (listed s) → Rise (listed t) → Same s t → whole s ≡ whole t
  same_whole a b h =
      let e = rise_same (listed s) (listed t) a b
      (λ x m. let k = listed_found s.names x m in name_there h x k.0 k.1)
      (λ x m. let k = listed_found t.names x m in name_here h x k.0 k.1) in
      same_picture s t sound other (listed s) (same_fewer (λ x. Contains (listed s) x) (λ x. ⊤) s t (λ x m. tt) h) ∙ ap (picture t) e

  -- States with equal pictures of all names are the same.
  pub whole_same : whole s ≡ whole t → Same s t
  whole_same e =
      let k : listed s ≡ listed t = sym (listed_whole s) ∙ ap listed e ∙ listed_whole t in
      let f : picture s (listed s) ≡ picture t (listed s) = e ∙ ap (picture t) (sym k) in
      let p = picture_pairs s t sound other (listed s) f in
      pairs_same (AtOnePlace s t (listed s)) (λ x. ⊤) s t (record {
        one_right = p.one_right;
        one_left = p.one_left;
        shows = p.shows;
        leads_on = p.leads_on;
        names = λ x _. every x (p.names x) k (find x s.names) refl (find x t.names) refl;
      })
    where
      every : (x : List ℕ) → (In x (listed s) → BothOrNone (Alike (AtOnePlace s t (listed s))) (find x s.names) (find x t.names)) → listed s ≡ listed t
          → (o : Option Value) → find x s.names ≡ o → (q : Option Value) → find x t.names ≡ q → BothOrNone (Alike (AtOnePlace s t (listed s))) (find x s.names) (find x t.names)
      every x h k (Some v) a q b = h (found_listed s.names x v a)
      every x h k None a (Some w) b = h (subst (λ l. In x l) (sym k) (found_listed t.names x w b))
      every x h k None a None b = subst (λ o. BothOrNone (Alike (AtOnePlace s t (listed s))) o (find x t.names)) (sym a) (subst (λ q. BothOrNone (Alike (AtOnePlace s t (listed s))) None q) (sym b) tt)
