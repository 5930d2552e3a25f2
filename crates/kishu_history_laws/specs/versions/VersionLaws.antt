-- Versions: where a group stands before with the same picture it keeps its version, and else the newest commit is it.
use Rattle.std.specs.Prelude.{◌≡◌, ℕ, ◌==◌, ◌<◌, ◌≤◌, true, false, not, List, [], ◌∷◌}
use Rattle.std.specs.Bool.{Decides}
use Rattle.std.proofs.Common.{refl, ap, sym, ◌∙◌, arith, inl, inr}
use Rattle.std.proofs.lemmas.Bool.{cases_Bool}
use Rattle.std.proofs.lemmas.Bool.Decides.{Decides-eqb}
use Rattle.kishu_meaning.specs.values.Values.{State, empty}
use Rattle.kishu_objects.specs.Picture.{picture}
use Rattle.kishu_objects.specs.Lists.{In}
use Rattle.kishu_history.specs.Alike.{is_state}
use Rattle.kishu_objects.specs.Groups.{groups_of}
use Rattle.kishu_history.specs.Changed.{Group, is_one_of, stands, changed}
use Rattle.kishu_history.specs.Versions.{Stop, at_end, back, version, stored, end_number, Falls, Agree}
use Rattle.kishu_history_laws.specs.states.AlikeLaws.{not_true, state_decides, by_two}
use Rattle.kishu_history_laws.specs.Choices.{one_of_decides, not_told, filter_same}

pub stands_decides : (g : Group) (p s : State) → Decides (stands g p s) (In g (groups_of s) × (picture s g ≡ p))
stands_decides g p s = by_two {R = In g (groups_of s) × (picture s g ≡ p)} (is_one_of g (groups_of s)) (is_state (picture s g) p) (one_of_decides g (groups_of s)) (state_decides (picture s g) p) (λ m e. (m, e)) (λ r. r.0) (λ r. r.1)

-- In the empty state no group stands.
none_stands : (g : Group) (p : State) → stands g p empty ≡ false
none_stands g p = refl

-- ---- a step

pub version_older : (k : Stop) (ks : List Stop) (g : Group) → stands g (picture k.state g) (at_end ks) ≡ true → version (k ∷ ks) g ≡ version ks g
version_older k [] g e = absurd (not_true (sym (none_stands g (picture k.state g)) ∙ e))
version_older k (j ∷ js) g e =
    let p : picture j.state g ≡ picture k.state g = ((stands_decides g (picture k.state g) j.state).0 e).1 in
    rw e (ap (λ q. back g q j.commit js) (sym p))

pub version_newest : (k : Stop) (ks : List Stop) (g : Group) → stands g (picture k.state g) (at_end ks) ≡ false → version (k ∷ ks) g ≡ k.commit
version_newest k [] g e = refl
version_newest k (j ∷ js) g e = rw e refl

back_below : (g : Group) (p : State) (a : ℕ) (ks : List Stop) → end_number ks < a → Falls ks → back g p a ks ≤ a
back_below g p a [] l f = omega arith
back_below g p a (k ∷ ks) l f = elim (cases_Bool (stands g p k.state)) [
  | inl e ↦ rw e (let r = back_below g p k.commit ks f.0 f.1 in omega arith)
  | inr e ↦ rw e (omega arith)
]

pub version_below : (ks : List Stop) (g : Group) → Falls ks → version ks g ≤ end_number ks
version_below [] g f = omega arith
version_below (k ∷ ks) g f = back_below g (picture k.state g) k.commit ks f.0 f.1

-- What the newest commit stores is what changed since its parent, seen from the other side.
pub stored_changed : (k : Stop) (ks : List Stop) → Falls (k ∷ ks) → stored (k ∷ ks) ≡ changed k.state (at_end ks)
stored_changed k ks f = filter_same (λ g. version (k ∷ ks) g == k.commit) (λ g. not (stands g (picture k.state g) (at_end ks))) (groups_of k.state) each
  where
    each : (g : Group) → In g (groups_of k.state) → (version (k ∷ ks) g == k.commit) ≡ not (stands g (picture k.state g) (at_end ks))
    each g m = elim (cases_Bool (stands g (picture k.state g) (at_end ks))) [
      | inl e ↦ rw e (not_told (version (k ∷ ks) g == k.commit) (Decides-eqb (version (k ∷ ks) g) k.commit) (λ h.
          let v = version_older k ks g e in let b = version_below ks g f.1 in let l = f.0 in omega (arith, v, h, b, l)))
      | inr e ↦ rw e ((Decides-eqb (version (k ∷ ks) g) k.commit).1 (version_newest k ks g e))
    ]

-- ---- the commit that is the version

-- A group of the newest commit has its picture already at the commit that is its version.
pub version_stop : (k : Stop) (ks : List Stop) (g : Group) → In g (groups_of k.state) → (j : Stop) × In j (k ∷ ks) × (j.commit ≡ version (k ∷ ks) g) × In g (groups_of j.state) × (picture j.state g ≡ picture k.state g)
version_stop k [] g m = (k, inl refl, refl, m, refl)
version_stop k (j ∷ js) g m = elim (cases_Bool (stands g (picture k.state g) j.state)) [
  | inl e ↦ (
      let d = (stands_decides g (picture k.state g) j.state).0 e in
      let r = version_stop j js g d.0 in
      (r.0, inr r.1, r.2 ∙ sym (version_older k (j ∷ js) g e), r.3, r.4 ∙ d.1)
      )
  | inr e ↦ (k, inl refl, sym (version_newest k (j ∷ js) g e), m, refl)
]

-- Groups of two commits with one version have one picture.
pub one_version : (h c : List Stop) (g : Group) → Agree h c → In g (groups_of (at_end h)) → In g (groups_of (at_end c)) → version h g ≡ version c g → picture (at_end h) g ≡ picture (at_end c) g
one_version [] c g a m n e = absurd m
one_version (k ∷ ks) [] g a m n e = absurd n
one_version (k ∷ ks) (j ∷ js) g a m n e =
    let r = version_stop k ks g m in
    let q = version_stop j js g n in
    let s : r.0.state ≡ q.0.state = a r.0 q.0 r.1 q.1 (r.2 ∙ e ∙ sym q.2) in
    sym r.4 ∙ ap (λ t. picture t g) s ∙ q.4
