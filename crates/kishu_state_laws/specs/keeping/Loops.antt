-- Loops keep what holds of every state. Each turn takes a step, so a loop that may take more turns than there are steps left ends by itself, and goes the same way where it may take still more.
use Rattle.std.specs.Prelude.{◌≡◌, ℕ, zero, suc, ◌+◌, ◌-◌, ◌<◌, ◌≤◌, nat_le, Bool, true, false, if◌then◌else◌, List}
use Rattle.std.proofs.Common.{refl, subst, arith, leb-true}
use Rattle.std.proofs.lemmas.Bool.{leb-false}
use Rattle.kishu_language.specs.declared.profile.Profile.{Profile}
use Rattle.kishu_meaning.specs.values.Values.{Node}
use Rattle.kishu_meaning.specs.moments.Moment.{Moment, Ends, fine, raised, stopped, M, and_then, ◌>>=◌, ◌>>◌, tick}
use Rattle.kishu_pairing_laws.specs.World.{end_of}
use Rattle.kishu_state_laws.specs.Moments.{IsMoment, widest_budget}
use Rattle.kishu_state_laws.specs.keeping.Logic.{SafeEnds, fines, raiseds, stoppeds, more, more_good, WiderEnds, both_fine, both_raised, one_stopped, Safe, falls_in, at_left, ends_later, grown_self, spend_by}

-- from moments with fewer than n steps left
pub record Under {A : Type 0} (n k : ℕ) (Q : ℕ → A → Type 0) (m : M A) : Type 0 where
  pub go : (l : ℕ) → k ≤ l → (s : Moment) → IsMoment l s → s.left < n → SafeEnds l s.left s.nodes s.depth s.profile Q (m s)

-- one for fewer than n steps, and one for fewer than n'
pub record Both {A : Type 0} (n n' k : ℕ) (Q : ℕ → A → Type 0) (m m' : M A) : Type 0 where
  pub one : Under n k Q m
  pub two : Under n' k Q m'
  pub wide : (l : ℕ) → k ≤ l → (s : Moment) → IsMoment l s → (d : ℕ) → 0 < d → s.left + d ≤ widest_budget → s.left < n → s.left + d < n' → WiderEnds d (m s) (m' (more d s))

pub both_safe : {A : Type 0} {n n' k : ℕ} {Q : ℕ → A → Type 0} {m : M A} → Safe k Q m → Both n n' k Q m m
both_safe h = record {
  one = record { go = λ l le s g few. h.go l le s g };
  two = record { go = λ l le s g few. h.go l le s g };
  wide = λ l le s g d pos fits few more_few. h.wide l le s g d pos fits;
}

pub if_both : {A : Type 0} {n n' k : ℕ} {Q : ℕ → A → Type 0} (b : Bool) {m m' p p' : M A} → Both n n' k Q m m' → Both n n' k Q p p' → Both n n' k Q (if b then m else p) (if b then m' else p')
if_both true h g = h
if_both false h g = g

-- ---- one after the other

under_ends : {A B : Type 0} {n k l most : ℕ} {ns : List Node} {deep : ℕ} {profile : Profile} (Q : ℕ → A → Type 0) (S : ℕ → B → Type 0) (f : A → M B) {e : Ends A} → k ≤ l → most < n → SafeEnds l most ns deep profile Q e → ((j : ℕ) → k ≤ j → (a : A) → Q j a → Under n j S (f a)) → SafeEnds l most ns deep profile S (and_then e f)
under_ends {most = most} Q S f kl few (fines j {a = a} {s = s} le after q g) h = let p : s.left ≤ most = after.0 in ends_later s le after ((h j (omega (arith, kl, le)) a q).go j (omega arith) s g (omega (arith, p, few)))
under_ends Q S f kl few (raiseds j le after q g) h = raiseds j le after q g
under_ends Q S f kl few (stoppeds j le after g) h = stoppeds j le after g

under_short : {A B : Type 0} {n k l d most : ℕ} {ns : List Node} {deep : ℕ} {profile : Profile} (Q : ℕ → A → Type 0) (S : ℕ → B → Type 0) (f : A → M B) {e : Ends A} → k ≤ l → most < n → SafeEnds l most ns deep profile Q e → (end_of e).left < d → ((j : ℕ) → k ≤ j → (a : A) → Q j a → Under n j S (f a)) → (end_of (and_then e f)).left < d
under_short {most = most} Q S f kl few (fines j {a = a} {s = s} le after q g) short h = let p : s.left ≤ most = after.0 in let r = falls_in ((h j (omega (arith, kl, le)) a q).go j (omega arith) s g (omega (arith, p, few))) in omega (arith, r, short)
under_short Q S f kl few (raiseds j le after q g) short h = short
under_short Q S f kl few (stoppeds j le after g) short h = short

both_wide : {A B : Type 0} {n n' k l d most most' : ℕ} {ns ns' : List Node} {deep deep' : ℕ} {profile profile' : Profile} (Q : ℕ → A → Type 0) (S : ℕ → B → Type 0) (f f' : A → M B) {e e' : Ends A} → k ≤ l → 0 < d → most + d ≤ widest_budget → most < n → most + d < n' → most' < n' → WiderEnds d e e' → SafeEnds l most ns deep profile Q e → SafeEnds l most' ns' deep' profile' Q e' → ((j : ℕ) → k ≤ j → (a : A) → Q j a → Both n n' j S (f a) (f' a)) → WiderEnds d (and_then e f) (and_then e' f')
both_wide {d = d} {most = most} Q S f f' kl pos fits few few' others both_fine (fines j {a = a} {s = s} le after q g) two h = let p : s.left ≤ most = after.0 in (h j (omega (arith, kl, le)) a q).wide j (omega arith) s g d pos (omega (arith, p, fits)) (omega (arith, p, few)) (omega (arith, p, few'))
both_wide Q S f f' kl pos fits few few' others both_raised one two h = both_raised
both_wide Q S f f' kl pos fits few few' others (one_stopped z short) one two h = one_stopped z (under_short Q S f' kl others two short (λ j le a q. (h j le a q).two))

pub bind_both : {A B : Type 0} {n n' k : ℕ} {Q : ℕ → A → Type 0} {S : ℕ → B → Type 0} {m m' : M A} {f f' : A → M B} → Both n n' k Q m m' → ((j : ℕ) → k ≤ j → (a : A) → Q j a → Both n n' j S (f a) (f' a)) → Both n n' k S (m >>= f) (m' >>= f')
bind_both {Q = Q} {S = S} {f = f} {f' = f'} h g = record {
  one = record { go = λ l le s gs few. under_ends Q S f le few (h.one.go l le s gs few) (λ j le' a q. (g j le' a q).one) };
  two = record { go = λ l le s gs few. under_ends Q S f' le few (h.two.go l le s gs few) (λ j le' a q. (g j le' a q).two) };
  wide = λ l le s gs d pos fits few few'. both_wide Q S f f' le pos fits few few' few' (h.wide l le s gs d pos fits few few') (h.one.go l le s gs few) (h.two.go l le (more d s) (more_good d fits gs) few') g;
}

-- ---- behind a step there is one step less

step_ends : {A : Type 0} {n k l : ℕ} (Q : ℕ → A → Type 0) (m : M A) (b : Bool) (s : Moment) → nat_le 1 s.left ≡ b → k ≤ l → IsMoment l s → s.left < suc n → Under n k Q m → SafeEnds l s.left s.nodes s.depth s.profile Q (and_then (spend_by b 1 s) (λ _. m))
step_ends {l = l} Q m true s e le g few h =
    let some : 1 ≤ s.left = leb-true 1 s.left e in
    let budget = g.budget in
    ends_later (record s { left = s.left - 1 }) (omega arith) (omega arith, grown_self s.nodes, refl, refl, λ u. u) (h.go l le (record s { left = s.left - 1 }) (at_left (s.left - 1) (omega (arith, budget)) g) (omega (arith, some, few)))
step_ends {l = l} Q m false s e le g few h = stoppeds l (omega arith) (omega arith, grown_self s.nodes, refl, refl, λ u. u) (at_left 0 (omega arith) g)

step_wide : {A : Type 0} {n n' k l : ℕ} (Q : ℕ → A → Type 0) (m m' : M A) (d : ℕ) (b c : Bool) (s : Moment) → nat_le 1 s.left ≡ b → nat_le 1 (s.left + d) ≡ c → k ≤ l → IsMoment l s → 0 < d → s.left + d ≤ widest_budget → s.left < suc n → s.left + d < suc n' → Both n n' k Q m m' → WiderEnds d (and_then (spend_by b 1 s) (λ _. m)) (and_then (spend_by c 1 (more d s)) (λ _. m'))
step_wide {l = l} Q m m' d true true s e f le g pos fits few few' h =
    let some : 1 ≤ s.left = leb-true 1 s.left e in
    let budget = g.budget in
    let rest : s.left - 1 + d ≡ s.left + d - 1 = omega (arith, some) in
    subst (λ (j : ℕ). WiderEnds d (m (record s { left = s.left - 1 })) (m' (record s { left = j }))) rest
    (h.wide l le (record s { left = s.left - 1 }) (at_left (s.left - 1) (omega (arith, budget)) g) d pos (omega (arith, some, fits)) (omega (arith, some, few)) (omega (arith, some, few')))
step_wide Q m m' d true false s e f le g pos fits few few' h =
    let some : 1 ≤ s.left = leb-true 1 s.left e in
    let short : s.left + d < 1 = leb-false 1 (s.left + d) f in
    absurd (omega (arith, some, short))
step_wide {l = l} Q m m' d false true s e f le g pos fits few few' h =
    let short : s.left < 1 = leb-false 1 s.left e in
    let ended = falls_in (h.two.go l le (record s { left = s.left + d - 1 }) (at_left (s.left + d - 1) (omega (arith, fits)) g) (omega (arith, short, pos, few'))) in
    one_stopped refl (omega (arith, ended, short, pos))
step_wide Q m m' d false false s e f le g pos fits few few' h = one_stopped refl pos

pub tick_both : {A : Type 0} {n n' k : ℕ} {Q : ℕ → A → Type 0} {m m' : M A} → Both n n' k Q m m' → Both (suc n) (suc n') k Q (tick >> m) (tick >> m')
tick_both {Q = Q} {m = m} {m' = m'} h = record {
  one = record { go = λ l le s g few. step_ends Q m (nat_le 1 s.left) s refl le g few h.one };
  two = record { go = λ l le s g few. step_ends Q m' (nat_le 1 s.left) s refl le g few h.two };
  wide = λ l le s g d pos fits few few'. step_wide Q m m' d (nat_le 1 s.left) (nat_le 1 (s.left + d)) s refl refl le g pos fits few few' h;
}

in_turn : {X A B : Type 0} (e : Ends X) (m : M A) (f : A → M B) → and_then e (λ _. m >>= f) ≡ and_then (and_then e (λ _. m)) f
in_turn (fine x s) m f = refl
in_turn (raised x s) m f = refl
in_turn (stopped s) m f = refl

-- a step and what is done with it, and then the rest
pub turn_both : {A B : Type 0} {n n' k : ℕ} {Q : ℕ → A → Type 0} {S : ℕ → B → Type 0} {m : M A} {f f' : A → M B} → Safe k Q m → ((j : ℕ) → k ≤ j → (a : A) → Q j a → Both n n' j S (f a) (f' a)) → Both (suc n) (suc n') k S (tick >> m >>= f) (tick >> m >>= f')
turn_both {S = S} {m = m} {f = f} {f' = f'} h g =
    let b = tick_both (bind_both (both_safe h) g) in
    record {
      one = record { go = λ l le s gs few. subst (λ e. SafeEnds l s.left s.nodes s.depth s.profile S e) (in_turn (tick s) m f) (b.one.go l le s gs few) };
      two = record { go = λ l le s gs few. subst (λ e. SafeEnds l s.left s.nodes s.depth s.profile S e) (in_turn (tick s) m f') (b.two.go l le s gs few) };
      wide = λ l le s gs d pos fits few few'. subst (λ e. WiderEnds d e ((tick >> m >>= f') (more d s))) (in_turn (tick s) m f) (subst (λ e. WiderEnds d ((tick >> (m >>= f)) s) e) (in_turn (tick (more d s)) m f') (b.wide l le s gs d pos fits few few'));
    }

-- ---- loops, by the turns that they may take; what is known of a turn's place is P

never : {A : Type 0} {k : ℕ} {Q : ℕ → A → Type 0} {m : M A} → Under 0 k Q m
never = record { go = λ l le s g few. absurd (omega (arith, few)) }

module _ {A I : Type 0} (Q : ℕ → A → Type 0) (P : ℕ → I → Type 0) (f : ℕ → I → M A) (turn : (n n' k : ℕ) → ((l : ℕ) → k ≤ l → (i : I) → P l i → Both n n' l Q (f n i) (f n' i)) → (i : I) → P k i → Both (suc n) (suc n') k Q (f (suc n) i) (f (suc n') i)) where
  same_both : (n k : ℕ) (i : I) → P k i → Both n n k Q (f n i) (f n i)
  same_both zero k i p = record { one = never; two = never; wide = λ l le s g d pos fits few few'. absurd (omega (arith, few)) }
  same_both (suc n) k i p = turn n n k (λ l le j q. same_both n l j q) i p

  loop_both : (n n' k : ℕ) (i : I) → P k i → Both n n' k Q (f n i) (f n' i)
  loop_both zero n' k i p = record { one = never; two = (same_both n' k i p).two; wide = λ l le s g d pos fits few few'. absurd (omega (arith, few)) }
  loop_both (suc n) zero k i p = record { one = (same_both (suc n) k i p).one; two = never; wide = λ l le s g d pos fits few few'. absurd (omega (arith, few')) }
  loop_both (suc n) (suc n') k i p = turn n n' k (λ l le j q. loop_both n n' l j q) i p

  pub loop_s : (k : ℕ) (i : I) → P k i → Safe k Q (λ s. f (suc s.left) i s)
  loop_s k i p = record {
    go = λ l le s g. (same_both (suc s.left) k i p).one.go l le s g (omega arith);
    wide = λ l le s g d pos fits. (loop_both (suc s.left) (suc (s.left + d)) k i p).wide l le s g d pos fits (omega arith) (omega arith);
  }
