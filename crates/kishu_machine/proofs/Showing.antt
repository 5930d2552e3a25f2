-- Texts of values, counted in a run.
use Rattle.std.proofs.Common.{◌≡◌, ◌∙◌, refl, sym, ap, subst, arith, ℕ, ◌+◌, ◌-◌, ◌<◌, ◌≤◌, Bool, true, false, if◌then◌else◌, List, [], ◌∷◌, ◌++◌, append_assoc}
use Rattle.std.specs.Prelude.{nat_le, ◌==◌}
use Rattle.kishu_meaning.specs.values.Values.{Value, none, bool, integer, text, range, builtin, class, node, Node}
use Rattle.kishu_meaning.specs.moments.Moment as moment
use Rattle.kishu_meaning.specs.moments.Moment.{Moment, Ends, fine, raised, stopped, M, tick, raise, most_depth}
use Rattle.kishu_meaning.specs.moments.Counting.{Counted, Count, answer, too_deep, spent, and_then, ◌>>=◌, ◌>>◌, give, spend, ended_in, counted}
use Rattle.kishu_meaning.specs.comparing.Equal.{room_at}
use Rattle.kishu_meaning.specs.values.Classes.{key_error_class}
use Rattle.kishu_meaning.specs.comparing.Show.{repr_by, show_by, argument_text, repr_nodes, show_nodes, show_in, show_all_in}
use Rattle.kishu_machine.specs.declared.fault.Fault.{Fault}
use Rattle.kishu_machine.specs.Lists.{is_node}
use Rattle.kishu_machine.specs.Machine.{Fails}
use Rattle.kishu_machine.specs.Composing.{fails_on}

-- ---- what is counted one after the other

ended_again : {A : Type 0} (s : Moment) (n : ℕ) (e : Counted A) → ended_in s e ≡ ended_in (record s { left = n }) e
ended_again s n (answer a k) = refl
ended_again s n (too_deep k) = refl
ended_again s n (spent k) = refl

pub ended_then : {A B : Type 0} (s : Moment) (e : Counted A) (f : A → Count B) → ended_in s (and_then e f) ≡ moment.and_then (ended_in s e) (λ a t. ended_in t (f a t.left))
ended_then s (answer a k) f = ended_again s k (f a k)
ended_then s (too_deep k) f = refl
ended_then s (spent k) f = refl

spent_either : {A : Type 0} (b : Bool) (k : ℕ) (s : Moment) (m : List Node → ℕ → Count A)
    → ended_in s (and_then (if b then answer (tt {0}) (s.left - k) else spent 0) (λ _. m s.nodes s.depth))
    ≡ moment.and_then (if b then fine (tt {0}) (record s { left = s.left - k }) else stopped (record s { left = 0 })) (λ _ t. ended_in t (m t.nodes t.depth t.left))
spent_either true k s m = ended_again s (s.left - k) (m s.nodes s.depth (s.left - k))
spent_either false k s m = refl

-- a step, and then what is counted
pub ticked : {A : Type 0} (s : Moment) (m : List Node → ℕ → Count A) → counted (spend 1 >> m s.nodes s.depth) s ≡ moment.and_then (tick s) (λ _ t. ended_in t (m t.nodes t.depth t.left))
ticked s m = spent_either (nat_le 1 s.left) 1 s m

-- ---- where an exception's argument lies

pub room_inside : (d : ℕ) → d < most_depth → room_at (d + 1) ≡ most_depth - d
room_inside d h = omega arith

by_plain : (f g : ℕ → Count (List ℕ)) (v : Value) → is_node v ≡ false → repr_by f v ≡ repr_by g v
by_plain f g none h = refl
by_plain f g (bool b) h = refl
by_plain f g (integer z) h = refl
by_plain f g (text cs) h = refl
by_plain f g (range a b c) h = refl
by_plain f g (builtin n) h = refl
by_plain f g (class n) h = refl
by_plain f g (node i) h = absurd cc

show_plain : (f g : ℕ → Count (List ℕ)) (v : Value) → is_node v ≡ false → show_by f v ≡ show_by g v
show_plain f g none h = refl
show_plain f g (bool b) h = refl
show_plain f g (integer z) h = refl
show_plain f g (text cs) h = refl
show_plain f g (range a b c) h = refl
show_plain f g (builtin n) h = refl
show_plain f g (class n) h = refl
show_plain f g (node i) h = absurd cc

plain_either : (b : Bool) (f g p q : ℕ → Count (List ℕ)) (v : Value) → is_node v ≡ false → (if b then repr_by f v else show_by p v) ≡ (if b then repr_by g v else show_by q v)
plain_either true f g p q v h = by_plain f g v h
plain_either false f g p q v h = show_plain p q v h

-- A plain value has the same text at each depth.
pub plain_inside : (f g p q : ℕ → Count (List ℕ)) (kind : ℕ) (v : Value) → is_node v ≡ false → argument_text f p kind v ≡ argument_text g q kind v
plain_inside f g p q kind v h = plain_either (kind == key_error_class) f g p q v h

deep_either : (b : Bool) (ns : List Node) (i left : ℕ) → (if b then repr_by (repr_nodes ns 0 []) (node i) else show_by (show_nodes ns 0) (node i)) left ≡ too_deep left
deep_either true ns i left = refl
deep_either false ns i left = refl

-- A node has none where no room is left.
pub deep_inside : (ns : List Node) (d kind left : ℕ) (v : Value) → most_depth ≤ d → is_node v ≡ true → argument_text (repr_nodes ns (most_depth - d) []) (show_nodes ns (most_depth - d)) kind v left ≡ too_deep left
deep_inside ns d kind left (node i) h e = (let z : most_depth - d ≡ 0 = omega arith in rw z (deep_either (kind == key_error_class) ns i left))
deep_inside ns d kind left none h e = absurd cc
deep_inside ns d kind left (bool b) h e = absurd cc
deep_inside ns d kind left (integer z) h e = absurd cc
deep_inside ns d kind left (text cs) h e = absurd cc
deep_inside ns d kind left (range a b c) h e = absurd cc
deep_inside ns d kind left (builtin n) h e = absurd cc
deep_inside ns d kind left (class n) h e = absurd cc

-- ---- several values

-- what is still to be shown, behind what is there
abbrev pub behind : List (List ℕ) → List (List ℕ) → moment.M (List (List ℕ))
behind done rest s = fine (done ++ rest) s

gathered : (done : List (List ℕ)) (t : List ℕ) (s : Moment) (e : Counted (List (List ℕ))) → moment.and_then (ended_in s (and_then e (λ fs. give (t ∷ fs)))) (behind done) ≡ moment.and_then (ended_in s e) (behind (done ++ t ∷ []))
gathered done t s (answer fs k) = ap (λ (l : List (List ℕ)). fine l (record s { left = k })) (sym (append_assoc done (t ∷ []) fs))
gathered done t s (too_deep k) = refl
gathered done t s (spent k) = refl

pub texts_begun : (s : Moment) (n : ℕ) (e : Counted (List (List ℕ))) → moment.and_then (ended_in (record s { left = n }) e) (behind []) ≡ ended_in s e
texts_begun s n (answer fs k) = refl
texts_begun s n (too_deep k) = refl
texts_begun s n (spent k) = refl

module _ (ns : List Node) (d : ℕ) (s : Moment) (done : List (List ℕ)) (n m : ℕ) (v : Value) (vs : List Value) where
  abbrev following : List ℕ → Count (List (List ℕ))
  following t = show_all_in ns d vs >>= λ fs. give (t ∷ fs)

  first_of : ended_in (record s { left = n }) (show_all_in ns d (v ∷ vs) n) ≡ moment.and_then (ended_in s (show_in ns d v n)) (λ t u. ended_in u (following t u.left))
  first_of = ended_then (record s { left = n }) (show_in ns d v n) following ∙ ap (λ (e : Ends (List ℕ)). moment.and_then e (λ t u. ended_in u (following t u.left))) (sym (ended_again s n (show_in ns d v n)))

  pub texts_further : (t : List ℕ) → ended_in s (show_in ns d v n) ≡ fine t (record s { left = m })
      → moment.and_then (ended_in (record s { left = n }) (show_all_in ns d (v ∷ vs) n)) (behind done) ≡ moment.and_then (ended_in (record s { left = m }) (show_all_in ns d vs m)) (behind (done ++ t ∷ []))
  texts_further t h =
      ap (λ (e : Ends (List (List ℕ))). moment.and_then e (behind done)) (first_of ∙ ap (λ (e : Ends (List ℕ)). moment.and_then e (λ t u. ended_in u (following t u.left))) h)
      ∙ gathered done t (record s { left = m }) (show_all_in ns d vs m)

  pub texts_fault : (f : Fault) → Fails f (record s { left = m }) (ended_in s (show_in ns d v n)) → Fails f (record s { left = m }) (moment.and_then (ended_in (record s { left = n }) (show_all_in ns d (v ∷ vs) n)) (behind done))
  texts_fault f h =
      subst (λ (e : Ends (List (List ℕ))). Fails f (record s { left = m }) (moment.and_then e (behind done))) (sym first_of)
      (fails_on (behind done) f (record s { left = m }) _ (fails_on (λ t u. ended_in u (following t u.left)) f (record s { left = m }) (ended_in s (show_in ns d v n)) h))
