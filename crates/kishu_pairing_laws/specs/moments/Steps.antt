-- How computations that go alike are put together.
use Rattle.std.specs.Prelude.{List, ℕ, Bool, cond, true, false, ◌≡◌, Option, if◌then◌else◌, nat_le, ◌-◌, ◌++◌, nat_lt, suc, codes}
use Rattle.std.proofs.Common.{◌∙◌, subst, refl, ap}
use Rattle.kishu_meaning.specs.moments.Moment.{Ends, M, and_then, fine, raised, stopped, ◌>>=◌, give, Thrown, throw, Moment, ◌>>◌, raise, look, or_else, exhausted, spend, tick, back_at, put_out, most_depth, recursion_error, deeper}
use Rattle.kishu_meaning.specs.values.Values.{text, Node}
use Rattle.kishu_objects.specs.Lists.{In}
use Rattle.kishu_soundness_laws.specs.moments.Steps.{spend_by}
use Rattle.kishu_pairing_laws.specs.World.{Grows, end_of, World, Within, SameEnds, GoAlike, both_fine, both_raised, both_stopped, GoQuietly, Is, SameThrown, both_fresh, cons, plain, nil, SameMoment, BothOrNeither, neither, both, Any}

-- ---- growth

bind_grown : {A B : Type 0} (e : Ends A) (f : A → M B) (x : List ℕ) → ((a : A) → Grows (f a)) → In x (end_of e).accessed → In x (end_of (and_then e f)).accessed
bind_grown (fine a s) f x g h = (g a).grows s x h
bind_grown (raised y s) f x g h = h
bind_grown (stopped s) f x g h = h

pub bind_grows : {A B : Type 0} {m : M A} {f : A → M B} → Grows m → ((a : A) → Grows (f a)) → Grows (m >>= f)
bind_grows {m = m} {f = f} gm gf = record { grows = λ s x h. bind_grown (m s) f x gf (gm.grows s x h) }

pub give_grows : {A : Type 0} (a : A) → Grows (give a)
give_grows a = record { grows = λ s x h. h }

pub throw_grows : {A : Type 0} (x : Thrown) → Grows {A = A} (throw x)
throw_grows x = record { grows = λ s y h. h }

pub cond_grows : {A : Type 0} (b : Bool) {m n : M A} → Grows m → Grows n → Grows (cond b m n)
cond_grows true g h = g
cond_grows false g h = h

-- what depends on the moment
pub asking_grows : {A : Type 0} (f : Moment → M A) → ((s : Moment) → Grows (f s)) → Grows (λ s. f s s)
asking_grows f g = record { grows = λ s x h. (g s).grows s x h }

module _ (W : World) where
  -- ---- ends

  within_first : {A B : Type 0} (e : Ends A) (f : A → M B) → ((a : A) → Grows (f a)) → Within W (and_then e f) → Within W e
  within_first e f g w x h = w x (bind_grown e f x g h)

  pub bind_ends : {A B C D : Type 0} (R : A → C → Type 0) (S : B → D → Type 0) (f : A → M B) (g : C → M D) {e : Ends A} {e' : Ends C} →
      SameEnds W R e e' → ((a : A) (c : C) → R a c → GoAlike W S (f a) (g c)) → Within W (and_then e f) → SameEnds W S (and_then e f) (and_then e' g)
  bind_ends R S f g (both_fine {a = a} {b = b} {s = s} {t = t} ab st) h w = (h a b ab).go s t st w
  bind_ends R S f g (both_raised xy st) h w = both_raised xy st
  bind_ends R S f g (both_stopped st) h w = both_stopped st

  bind_ends_quiet : {A B C D : Type 0} (R : A → C → Type 0) (S : B → D → Type 0) (f : A → M B) (g : C → M D) {e : Ends A} {e' : Ends C} →
      SameEnds W R e e' → ((a : A) (c : C) → R a c → GoQuietly W S (f a) (g c)) → SameEnds W S (and_then e f) (and_then e' g)
  bind_ends_quiet R S f g (both_fine {a = a} {b = b} {s = s} {t = t} ab st) h = (h a b ab).go s t st
  bind_ends_quiet R S f g (both_raised xy st) h = both_raised xy st
  bind_ends_quiet R S f g (both_stopped st) h = both_stopped st

  bind_stays : {A B C D : Type 0} (R : A → C → Type 0) (S : B → D → Type 0) (f : A → M B) (g : C → M D) (xs : List (List ℕ)) {e : Ends A} {e' : Ends C} →
      SameEnds W R e e' → ((a : A) (c : C) → R a c → GoQuietly W S (f a) (g c)) → (end_of e).accessed ≡ xs → (end_of (and_then e f)).accessed ≡ xs
  bind_stays R S f g xs (both_fine {a = a} {b = b} {s = s} {t = t} ab st) h k = (h a b ab).stays s t st ∙ k
  bind_stays R S f g xs (both_raised xy st) h k = k
  bind_stays R S f g xs (both_stopped st) h k = k

  -- ---- one after another

  pub bind_alike : {A B C D : Type 0} {R : A → C → Type 0} {S : B → D → Type 0} {m : M A} {n : M C} {f : A → M B} {g : C → M D} →
      GoAlike W R m n → ((a : A) → Grows (f a)) → ((a : A) (c : C) → R a c → GoAlike W S (f a) (g c)) → GoAlike W S (m >>= f) (n >>= g)
  bind_alike {R = R} {S = S} {m = m} {n = n} {f = f} {g = g} mn gf fg = record { go = λ s t st w. bind_ends R S f g (mn.go s t st (within_first (m s) f gf w)) fg w }

  pub bind_quiet : {A B C D : Type 0} {R : A → C → Type 0} {S : B → D → Type 0} {m : M A} {n : M C} {f : A → M B} {g : C → M D} →
      GoQuietly W R m n → ((a : A) (c : C) → R a c → GoQuietly W S (f a) (g c)) → GoQuietly W S (m >>= f) (n >>= g)
  bind_quiet {R = R} {S = S} {m = m} {n = n} {f = f} {g = g} mn fg = record {
    go = λ s t st. bind_ends_quiet R S f g (mn.go s t st) fg;
    stays = λ s t st. bind_stays R S f g s.accessed (mn.go s t st) fg (mn.stays s t st);
  }

  -- a result that is equal on both sides
  pub bind_is : {A B D : Type 0} {S : B → D → Type 0} {m n : M A} {f : A → M B} {g : A → M D} →
      GoQuietly W Is m n → ((a : A) → GoQuietly W S (f a) (g a)) → GoQuietly W S (m >>= f) (n >>= g)
  bind_is {S = S} {f = f} {g = g} mn fg = bind_quiet mn (λ a c ac. subst (λ d. GoQuietly W S (f a) (g d)) ac (fg a))

  pub then_quiet : {A B C D : Type 0} {R : A → C → Type 0} {S : B → D → Type 0} {m : M A} {n : M C} {m' : M B} {n' : M D} →
      GoQuietly W R m n → GoQuietly W S m' n' → GoQuietly W S (m >> m') (n >> n')
  then_quiet mn h = bind_quiet mn (λ a c ac. h)

  -- what looks at no name
  pub quiet : {A B : Type 0} {R : A → B → Type 0} {m : M A} {n : M B} → GoQuietly W R m n → GoAlike W R m n
  quiet q = record { go = λ s t st w. q.go s t st }

  pub give_quiet : {A B : Type 0} {R : A → B → Type 0} {a : A} {b : B} → R a b → GoQuietly W R (give a) (give b)
  give_quiet ab = record { go = λ s t st. both_fine ab st; stays = λ s t st. refl }

  pub throw_quiet : {A B : Type 0} {R : A → B → Type 0} {x y : Thrown} → SameThrown W x y → GoQuietly W R (throw x) (throw y)
  throw_quiet xy = record { go = λ s t st. both_raised xy st; stays = λ s t st. refl }

  pub raise_quiet : {A B : Type 0} {R : A → B → Type 0} (kind : ℕ) (message : List ℕ) → GoQuietly W R (raise kind message) (raise kind message)
  raise_quiet kind message = record { go = λ s t st. both_raised (both_fresh kind (cons (plain (text message) tt) nil)) st; stays = λ s t st. refl }

  pub raise_is : {A B : Type 0} {R : A → B → Type 0} (kind : ℕ) {cs ds : List ℕ} → cs ≡ ds → GoQuietly W R (raise kind cs) (raise kind ds)
  raise_is {R = R} kind {cs = cs} e = subst (λ ds. GoQuietly W R (raise kind cs) (raise kind ds)) e (raise_quiet kind cs)

  pub cond_quiet : {A B : Type 0} {R : A → B → Type 0} (b : Bool) {m m' : M A} {n n' : M B} → GoQuietly W R m n → GoQuietly W R m' n' → GoQuietly W R (cond b m m') (cond b n n')
  cond_quiet true h k = h
  cond_quiet false h k = k

  pub cond_alike : {A B : Type 0} {R : A → B → Type 0} (b : Bool) {m m' : M A} {n n' : M B} → GoAlike W R m n → GoAlike W R m' n' → GoAlike W R (cond b m m') (cond b n n')
  cond_alike true h k = h
  cond_alike false h k = k

  -- what depends on the moment
  pub asking_quiet : {A B : Type 0} {R : A → B → Type 0} (f : Moment → M A) (g : Moment → M B) → ((s t : Moment) → SameMoment W s t → GoQuietly W R (f s) (g t)) → GoQuietly W R (λ s. f s s) (λ t. g t t)
  asking_quiet f g h = record { go = λ s t st. (h s t st).go s t st; stays = λ s t st. (h s t st).stays s t st }

  pub asking_alike : {A B : Type 0} {R : A → B → Type 0} (f : Moment → M A) (g : Moment → M B) → ((s t : Moment) → SameMoment W s t → GoAlike W R (f s) (g t)) → GoAlike W R (λ s. f s s) (λ t. g t t)
  asking_alike f g h = record { go = λ s t st w. (h s t st).go s t st w }

  pub look_quiet : {A B : Type 0} {R : A → B → Type 0} (f : List Node → A) (g : List Node → B) → ((s t : Moment) → SameMoment W s t → R (f s.nodes) (g t.nodes)) → GoQuietly W R (look f) (look g)
  look_quiet f g h = record { go = λ s t st. both_fine (h s t st) st; stays = λ s t st. refl }

  pub or_else_quiet : {A B : Type 0} {R : A → B → Type 0} {m : M A} {n : M B} {o : Option A} {p : Option B} → GoQuietly W R m n → BothOrNeither R o p → GoQuietly W R (or_else m o) (or_else n p)
  or_else_quiet h neither = h
  or_else_quiet h (both ab) = give_quiet ab

  -- ---- the budget and the depth

  pub spent_alike : (n : ℕ) {s t : Moment} → SameMoment W s t → SameMoment W (record s { left = n }) (record t { left = n })
  spent_alike n st = record { profile = st.profile; names = st.names; heaps = st.heaps; accessed = st.accessed; locals = st.locals; handled = st.handled; left = refl; depth = st.depth; out = st.out }

  pub exhausted_quiet : {A B : Type 0} {R : A → B → Type 0} → GoQuietly W {A = A} {B = B} R exhausted exhausted
  exhausted_quiet = record { go = λ s t st. both_stopped (spent_alike 0 st); stays = λ s t st. refl }

  spend_ends : (b : Bool) (n : ℕ) {s t : Moment} → SameMoment W s t → SameEnds W Any (spend_by b n s) (spend_by b n t)
  spend_ends true n st = both_fine tt (spent_alike n st)
  spend_ends false n st = both_stopped (spent_alike 0 st)

  spend_stays : (b : Bool) (n : ℕ) (s : Moment) → (end_of (spend_by b n s)).accessed ≡ s.accessed
  spend_stays true n s = refl
  spend_stays false n s = refl

  pub spend_quiet : (n : ℕ) → GoQuietly W Any (spend n) (spend n)
  spend_quiet n = record {
    go = λ s t st. subst (λ l. SameEnds W Any (spend n s) (spend_by (nat_le n l) (l - n) t)) st.left (spend_ends (nat_le n s.left) (s.left - n) st);
    stays = λ s t st. spend_stays (nat_le n s.left) (s.left - n) s;
  }

  pub spend_is : {n m : ℕ} → n ≡ m → GoQuietly W Any (spend n) (spend m)
  spend_is {n = n} e = subst (λ m. GoQuietly W Any (spend n) (spend m)) e (spend_quiet n)

  pub tick_quiet : GoQuietly W Any tick tick
  tick_quiet = spend_quiet 1

  depth_alike : (n : ℕ) {s t : Moment} → SameMoment W s t → SameMoment W (record s { depth = n }) (record t { depth = n })
  depth_alike n st = record { profile = st.profile; names = st.names; heaps = st.heaps; accessed = st.accessed; locals = st.locals; handled = st.handled; left = st.left; depth = refl; out = st.out }

  back_ends : {A B : Type 0} (R : A → B → Type 0) (n : ℕ) {e : Ends A} {e' : Ends B} → SameEnds W R e e' → SameEnds W R (back_at n e) (back_at n e')
  back_ends R n (both_fine ab st) = both_fine ab (depth_alike n st)
  back_ends R n (both_raised xy st) = both_raised xy (depth_alike n st)
  back_ends R n (both_stopped st) = both_stopped (depth_alike n st)

  pub put_out_quiet : (cs : List ℕ) → GoQuietly W Any (put_out cs) (put_out cs)
  put_out_quiet cs = record {
    go = λ s t st. both_fine tt (record { profile = st.profile; names = st.names; heaps = st.heaps; accessed = st.accessed; locals = st.locals; handled = st.handled; left = st.left; depth = st.depth; out = ap (λ o. o ++ cs) st.out });
    stays = λ s t st. refl;
  }

  -- one level deeper
  abbrev deeper_at : {A : Type 0} → ℕ → M A → M A
  deeper_at d m s = cond (nat_lt d most_depth) (back_at d (m (record s { depth = suc d }))) (recursion_error s)

  level_ends : {A B : Type 0} {R : A → B → Type 0} (b : Bool) (d : ℕ) {s t : Moment} {e : Ends A} {e' : Ends B} → SameMoment W s t → SameEnds W R e e' → SameEnds W R (cond b (back_at d e) (recursion_error s)) (cond b (back_at d e') (recursion_error t))
  level_ends {R = R} true d st h = back_ends R d h
  level_ends false d st h = both_raised (both_fresh _ (cons (plain (text (codes "depth limit reached")) tt) nil)) st

  level_stays : {A : Type 0} (b : Bool) (d : ℕ) (s : Moment) (e : Ends A) → (end_of e).accessed ≡ s.accessed → (end_of (cond b (back_at d e) (recursion_error s))).accessed ≡ s.accessed
  level_stays true d s (fine a r) h = h
  level_stays true d s (raised x r) h = h
  level_stays true d s (stopped r) h = h
  level_stays false d s e h = refl

  pub deeper_quiet : {A B : Type 0} {R : A → B → Type 0} {m : M A} {n : M B} → GoQuietly W R m n → GoQuietly W R (deeper m) (deeper n)
  deeper_quiet {R = R} {m = m} {n = n} mn = record {
    go = λ s t st. subst (λ d. SameEnds W R (deeper m s) (deeper_at d n t)) st.depth (level_ends (nat_lt s.depth most_depth) s.depth st (mn.go _ _ (depth_alike (suc s.depth) st)));
    stays = λ s t st. level_stays (nat_lt s.depth most_depth) s.depth s (m (record s { depth = suc s.depth })) (mn.stays _ _ (depth_alike (suc s.depth) st));
  }

level_grown : {A : Type 0} (b : Bool) (d : ℕ) (s : Moment) (e : Ends A) (x : List ℕ) → (In x s.accessed → In x (end_of e).accessed) → In x s.accessed → In x (end_of (cond b (back_at d e) (recursion_error s))).accessed
level_grown true d s (fine a r) x h = h
level_grown true d s (raised y r) x h = h
level_grown true d s (stopped r) x h = h
level_grown false d s e x h = λ k. k

pub deeper_grows : {A : Type 0} {m : M A} → Grows m → Grows (deeper m)
deeper_grows {m = m} h = record { grows = λ s x k. level_grown (nat_lt s.depth most_depth) s.depth s (m (record s { depth = suc s.depth })) x (h.grows (record s { depth = suc s.depth }) x) k }

module _ (W : World) where
  level_within : {A : Type 0} (d : ℕ) (s : Moment) (b : Bool) (e : Ends A) → b ≡ true → Within W (cond b (back_at d e) (recursion_error s)) → Within W e
  level_within d s true (fine a r) y w = w
  level_within d s true (raised x r) y w = w
  level_within d s true (stopped r) y w = w
  level_within d s false e y w = absurd (cc)

  level_alike : {A B : Type 0} {R : A → B → Type 0} {m : M A} {n : M B} (b : Bool) (d : ℕ) {s t : Moment} → GoAlike W R m n → SameMoment W s t → Within W (cond b (back_at d (m (record s { depth = suc d }))) (recursion_error s)) →
      SameEnds W R (cond b (back_at d (m (record s { depth = suc d }))) (recursion_error s)) (cond b (back_at d (n (record t { depth = suc d }))) (recursion_error t))
  level_alike {R = R} {m = m} true d {s = s} mn st w = back_ends W R d (mn.go _ _ (depth_alike W (suc d) st) (level_within d s true (m (record s { depth = suc d })) refl w))
  level_alike false d mn st w = both_raised (both_fresh _ (cons (plain (text (codes "depth limit reached")) tt) nil)) st

  pub deeper_alike : {A B : Type 0} {R : A → B → Type 0} {m : M A} {n : M B} → GoAlike W R m n → GoAlike W R (deeper m) (deeper n)
  deeper_alike {R = R} {m = m} {n = n} mn = record {
    go = λ s t st w. subst (λ d. SameEnds W R (deeper m s) (deeper_at W d n t)) st.depth (level_alike (nat_lt s.depth most_depth) s.depth mn st w);
  }

pub then_grows : {A B : Type 0} {m : M A} {n : M B} → Grows m → Grows n → Grows (m >> n)
then_grows g h = bind_grows g (λ _. h)

module _ (W : World) where
  -- what looks at no name comes first: the rest needs no law on what it accesses
  pub bind_first : {A B C D : Type 0} {R : A → C → Type 0} {S : B → D → Type 0} {m : M A} {n : M C} {f : A → M B} {g : C → M D} →
      GoQuietly W R m n → ((a : A) (c : C) → R a c → GoAlike W S (f a) (g c)) → GoAlike W S (m >>= f) (n >>= g)
  bind_first {R = R} {S = S} {f = f} {g = g} mn fg = record { go = λ s t st w. bind_ends W R S f g (mn.go s t st) fg w }

  pub tick_alike : {A B : Type 0} {R : A → B → Type 0} {m : M A} {n : M B} → GoAlike W R m n → GoAlike W R (tick >> m) (tick >> n)
  tick_alike h = bind_first (tick_quiet W) (λ _ _ _. h)

  pub then_alike : {A B C D : Type 0} {R : A → C → Type 0} {S : B → D → Type 0} {m : M A} {n : M C} {m' : M B} {n' : M D} → GoAlike W R m n → Grows m' → GoAlike W S m' n' → GoAlike W S (m >> m') (n >> n')
  then_alike h g k = bind_alike W h (λ _. g) (λ _ _ _. k)

  -- a choice by a result that is equal on both sides
  pub choose_first : {A B : Type 0} {S : A → B → Type 0} (h : Bool → Bool) {m n : M Bool} {f f' : M A} {g g' : M B} → GoQuietly W Is m n → GoAlike W S f g → GoAlike W S f' g' → GoAlike W S (m >>= λ b. if h b then f else f') (n >>= λ b. if h b then g else g')
  choose_first {S = S} h {f = f} {f' = f'} {g = g} {g' = g'} mn fg fg' = bind_first mn (λ b c bc. subst (λ d. GoAlike W S (if h b then f else f') (if h d then g else g')) bc (cond_alike W (h b) fg fg'))

  pub choose_alike : {A B : Type 0} {S : A → B → Type 0} {m n : M Bool} {f f' : M A} {g g' : M B} → GoAlike W Is m n → Grows f → Grows f' → GoAlike W S f g → GoAlike W S f' g' → GoAlike W S (m >>= λ b. if b then f else f') (n >>= λ b. if b then g else g')
  choose_alike {S = S} {f = f} {f' = f'} {g = g} {g' = g'} mn gf gf' fg fg' = bind_alike W mn (λ b. cond_grows b gf gf') (λ b c bc. subst (λ d. GoAlike W S (if b then f else f') (if d then g else g')) bc (cond_alike W b fg fg'))

  -- what is done with one more than the steps that are left
  pub by_left_quiet : {A B : Type 0} (R : A → B → Type 0) (f : ℕ → M A) (g : ℕ → M B) → ((n : ℕ) → GoQuietly W R (f n) (g n)) → GoQuietly W R (λ s. f (suc s.left) s) (λ s. g (suc s.left) s)
  by_left_quiet R f g h = asking_quiet W (λ s. f (suc s.left)) (λ s. g (suc s.left)) (λ s t st. subst (λ n. GoQuietly W R (f (suc s.left)) (g (suc n))) st.left (h (suc s.left)))

  pub by_left_alike : {A B : Type 0} (R : A → B → Type 0) (f : ℕ → M A) (g : ℕ → M B) → ((n : ℕ) → GoAlike W R (f n) (g n)) → GoAlike W R (λ s. f (suc s.left) s) (λ s. g (suc s.left) s)
  by_left_alike R f g h = asking_alike W (λ s. f (suc s.left)) (λ s. g (suc s.left)) (λ s t st. subst (λ n. GoAlike W R (f (suc s.left)) (g (suc n))) st.left (h (suc s.left)))
