-- What reads nodes and takes steps is equal on both sides as a function, and so goes alike in a run.
use Rattle.std.specs.Prelude.{◌≡◌, Bool, true, false, if◌then◌else◌, Option}
use mathlib.Core.Path.{fun_ext}
use Rattle.std.proofs.Common.{ap, ◌∙◌, refl, subst}
use Rattle.kishu_meaning.specs.comparing.Equal.{by_both}
use Rattle.kishu_meaning.specs.moments.Counting.{Count, ◌>>=◌, ◌>>◌, Counted, ended_in, answer, too_deep, spent, counted}
use Rattle.kishu_meaning.specs.moments.Moment.{Moment}
use Rattle.kishu_pairing_laws.specs.World.{BothOrNeither, neither, both, World, SameMoment, SameEnds, Is, both_fine, both_raised, both_fresh, cons, plain, nil, both_stopped, end_of, GoQuietly}
use Rattle.kishu_pairing_laws.specs.moments.Steps.{spent_alike}

pub count_bind : {A B : Type 0} {c d : Count A} {f g : A → Count B} → c ≡ d → ((a : A) → f a ≡ g a) → (c >>= f) ≡ (d >>= g)
count_bind {A = A} {B = B} {d = d} {f = f} e h = ap (λ (x : Count A). x >>= f) e ∙ ap (λ (k : A → Count B). d >>= k) (fun_ext h)

pub count_then : {A B : Type 0} {c d : Count A} {c' d' : Count B} → c ≡ d → c' ≡ d' → (c >> c') ≡ (d >> d')
count_then e h = count_bind e (λ a. h)

pub count_if : {A : Type 0} (b : Bool) {c d c' d' : A} → c ≡ d → c' ≡ d' → (if b then c else c') ≡ (if b then d else d')
count_if true e h = e
count_if false e h = h

pub by_both_is : {X Y A : Type 0} {R : X → Y → Type 0} {o q : Option X} {p r : Option Y} {f : X → X → A} {g : Y → Y → A} {a b : A} → BothOrNeither R o p → BothOrNeither R q r → ((x : X) (y : Y) (x' : X) (y' : Y) → R x y → R x' y' → f x x' ≡ g y y') → a ≡ b → by_both o q f a ≡ by_both p r g b
by_both_is neither k h e = e
by_both_is (both m) neither h e = e
by_both_is (both {a = x} {b = y} m) (both {a = x'} {b = y'} n) h e = h x y x' y' m n

module _ (W : World) where
  ended_alike : {A : Type 0} (r : Counted A) {s t : Moment} → SameMoment W s t → SameEnds W Is (ended_in s r) (ended_in t r)
  ended_alike (answer a n) st = both_fine refl (spent_alike W n st)
  ended_alike (too_deep n) st = both_raised (both_fresh _ (cons (plain _ tt) nil)) (spent_alike W n st)
  ended_alike (spent n) st = both_stopped (spent_alike W n st)

  ended_stays : {A : Type 0} (r : Counted A) (s : Moment) → (end_of (ended_in s r)).accessed ≡ s.accessed
  ended_stays (answer a n) s = refl
  ended_stays (too_deep n) s = refl
  ended_stays (spent n) s = refl

  pub counted_quiet : {A : Type 0} (c d : Moment → Count A) → ((s t : Moment) → SameMoment W s t → c s ≡ d t) → GoQuietly W Is (λ s. counted (c s) s) (λ t. counted (d t) t)
  counted_quiet c d h = record {
    go = λ s t st. subst (λ r. SameEnds W Is (ended_in s (c s s.left)) (ended_in t r)) (ap (λ k. k s.left) (h s t st) ∙ ap (d t) st.left) (ended_alike (c s s.left) st);
    stays = λ s t st. ended_stays (c s s.left) s;
  }
