-- Places and targets are the phrases that are places and targets by their trees.
use Rattle.std.specs.Prelude.{◌≡◌, ◌⊎◌, ℕ, zero, suc, Bool, true, false, ◌&&◌, List, [], ◌∷◌, ◌++◌, Some}
use Rattle.std.proofs.Common.{refl, sym, ap, subst, ◌∙◌, inl, inr, ⊎_elim}
use Rattle.std.proofs.Math.Bool.{and-true}
use Rattle.kishu_language.specs.declared.token.Mark.{Mark}
use Rattle.kishu_language.specs.declared.token.Mark.TheVariants as m
use Rattle.kishu_language.specs.trees.Tree.{Expression, Trailer}
use Rattle.kishu_language.specs.trees.Tree as t
use Rattle.kishu_language.specs.grammar.Language.{Tokens, Language, Many, done, more}
use Rattle.kishu_language.specs.grammar.Language as l
use Rattle.kishu_language.specs.grammar.Grammar.{Phrase, exprs, expr}
use Rattle.kishu_language.specs.grammar.Grammar as g
use Rattle.kishu_language.specs.grammar.Targets.{is_place_trailer, ends_in_place, is_place, is_target, are_targets}
use Rattle.kishu_language.specs.grammar.Targets as a
use Rattle.kishu_language.specs.reading.ReadExpressions.{is_several}
use Rattle.kishu_language_laws.specs.reading.Exact.{some_is}
use Rattle.kishu_language_laws.specs.reading.ExactPhrases.{widen_level, narrow_level}

pub clash : {A : Type 0} {b : Bool} → b ≡ true → b ≡ false → A
clash h k = absurd cc

module _ {A : Type 0} {step : A → Language A} where
  -- one turn more at the end
  pub many_last : {x y z : A} {ts us vs : Tokens} → Many step x ts us y → step y us vs z → Many step x ts vs z
  many_last done h = more h done
  many_last (more k t) h = more k (many_last t h)

  -- no turn, or a last one
  pub many_ends : (x z : A) (ts vs : Tokens) → Many step x ts vs z → ((ts ≡ vs) × (x ≡ z)) ⊎ ((mid : Tokens) × (y : A) × Many step x ts mid y × step y mid vs z)
  many_ends x z ts vs done = inl (refl, refl)
  many_ends x z ts vs (more {b = y} {us = us} h t) = inr (⊎_elim
      (λ k. (ts, x, done, subst (λ (v : Tokens × A). step x ts v.0 v.1) (λ i. (k.0 i, k.1 i)) h))
      (λ k. (k.0, k.1, more h k.2, k.3)) (many_ends y z us vs t))

-- ---- an operator makes no target

no_longer_list : {A : Type 0} (xs : List A) (y : A) → xs ++ y ∷ [] ≡ [] → ⊥
no_longer_list [] y e = cc
no_longer_list (x ∷ xs) y e = cc

none_found : {A : Type 0} (item : Language A) (ts us : Tokens) (found : List A) → l.many item ts us found → found ≡ [] → ts ≡ us
none_found item ts us found h e = ⊎_elim (λ k. k.0) (λ k. absurd (no_longer_list k.1 k.3.1 (k.3.3.1 ∙ e))) (many_ends [] found ts us h)

module _ {A : Type 0} (item : Language Expression) (operator : Language A) (make : Expression → List (A × Expression) → Expression)
    (never : (first : Expression) (x : A × Expression) (xs : List (A × Expression)) → is_target (make first (x ∷ xs)) ≡ false) where
  alone_is : (ts mid end us : Tokens) (first x : Expression) (following : List (A × Expression)) → item ts mid first → l.many (g.operation item operator) mid end following
      → end ≡ us → g.unless_alone make first following ≡ x → is_target x ≡ true → item ts us x
  alone_is ts mid end us first x [] h k e v is = subst (λ (y : Tokens × Expression). item ts y.0 y.1) (λ i. ((none_found (g.operation item operator) mid end [] k refl ∙ e) i, v i)) h
  alone_is ts mid end us first x (o ∷ os) h k e v is = clash is (ap is_target (sym v) ∙ never first o os)

  operated_target : (ts us : Tokens) (x : Expression) → g.operated item operator make ts us x → is_target x ≡ true → item ts us x
  operated_target ts us x h is = alone_is ts h.0 h.3.0 us h.1 x h.3.1 h.2 h.3.2 h.3.3.0 h.3.3.1 is

-- ---- room in brackets

-- What stands one nesting deeper has room there.
pub record Fits (room : Bool) (inner : Phrase → Language Expression) : Type 0 where
  pub there : (p : Phrase) (ts us : Tokens) (x : Expression) → inner p ts us x → room ≡ true

pub phrase_fits : (n : ℕ) → Fits (g.has_room n) (g.phrase n)
unfolding g.phrase
phrase_fits zero = record { there = λ p ts us x h. absurd h }
phrase_fits (suc n) = record { there = λ p ts us x h. refl }

module _ {A : Type 0} (room : Bool) (p : Language A) (ts us : Tokens) (a : A) where
  in_brackets : room ≡ true → p ts us a → g.bracketed room p ts us a
  in_brackets is h = (ts, tt, (refl, is), h)

  out_of_brackets : g.bracketed room p ts us a → p ts us a
  out_of_brackets h = subst (λ (v : Tokens). p v us a) (sym h.2.0) h.3

module _ (room : Bool) (inner : Phrase → Language Expression) where
  power_target : (ts us : Tokens) (x : Expression) → g.power room inner ts us x → is_target x ≡ true → g.primary room inner ts us x
  unfolding g.power
  power_target ts us x h is = ⊎_elim
      (λ k. subst (λ (y : Tokens × Expression). g.primary room inner ts y.0 y.1) (λ i. (k.0 i, k.1 i)) h.2)
      (λ k. clash is (sym (ap is_target k.3.3.1))) h.3

  unary_target : (ts us : Tokens) (x : Expression) → g.unary_level room inner ts us x → is_target x ≡ true → g.primary room inner ts us x
  unfolding g.unary_level
  unary_target ts us x h is = ⊎_elim (λ k. clash is (sym (ap is_target k.3.3.1))) (λ k. power_target ts us x k is) h

  compared_target : (ts us : Tokens) (x : Expression) → g.compared room inner ts us x → is_target x ≡ true → g.primary room inner ts us x
  unfolding g.compared g.sum g.term
  compared_target ts us x h is = unary_target ts us x
      (operated_target (g.unary_level room inner) (l.one_of g.product_operator) g.multiplied (λ first x xs. refl) ts us x
      (operated_target (g.term room inner) (l.one_of g.sum_operator) g.summed (λ first x xs. refl) ts us x
      (operated_target (g.sum room inner) g.comparison g.compared_with (λ first x xs. refl) ts us x h is) is) is) is

  negated_target : (ts us : Tokens) (x : Expression) → g.negated_level room inner ts us x → is_target x ≡ true → g.primary room inner ts us x
  unfolding g.negated_level
  negated_target ts us x h is = ⊎_elim (λ k. clash is (sym (ap is_target k.3.3.1))) (λ k. compared_target ts us x k is) h

  disjunction_target : (ts us : Tokens) (x : Expression) → g.disjunction room inner ts us x → is_target x ≡ true → g.primary room inner ts us x
  unfolding g.disjunction g.conjunction
  disjunction_target ts us x h is = negated_target ts us x
      (operated_target (g.negated_level room inner) (l.mark m.And) g.all_of (λ first x xs. refl) ts us x
      (operated_target (g.conjunction room inner) (l.mark m.Or) g.any_of (λ first x xs. refl) ts us x h is) is) is

  -- a target that stands alone is a primary
  expr_target : (ts us : Tokens) (x : Expression) → g.expr_level room inner ts us x → is_target x ≡ true → g.primary room inner ts us x
  unfolding g.expr_level
  expr_target ts us x h is = ⊎_elim
      (λ k. disjunction_target ts us x (subst (λ (y : Tokens × Expression). g.disjunction room inner ts y.0 y.1) (λ i. (k.0 i, k.1 i)) h.2) is)
      (λ k. clash is (sym (ap is_target k.3.3.3.3.1))) h.3

  operated_alone : {A : Type 0} (item : Language Expression) (operator : Language A) (make : Expression → List (A × Expression) → Expression)
      → (ts us : Tokens) (x : Expression) → item ts us x → g.operated item operator make ts us x
  operated_alone item operator make ts us x h = (us, x, h, (us, [], done, (refl, refl)))

  compared_primary : (ts us : Tokens) (x : Expression) → g.primary room inner ts us x → g.compared room inner ts us x
  unfolding g.compared g.sum g.term g.unary_level g.power
  compared_primary ts us x h =
      operated_alone (g.sum room inner) g.comparison g.compared_with ts us x
      (operated_alone (g.term room inner) (l.one_of g.sum_operator) g.summed ts us x
      (operated_alone (g.unary_level room inner) (l.one_of g.product_operator) g.multiplied ts us x (inr (us, x, h, inl (refl, refl)))))

  expr_primary : (ts us : Tokens) (x : Expression) → g.primary room inner ts us x → g.expr_level room inner ts us x
  unfolding g.expr_level g.disjunction g.conjunction g.negated_level
  expr_primary ts us x h = (
    us,
    x,
    operated_alone (g.conjunction room inner) (l.mark m.Or) g.any_of ts us x
        (operated_alone (g.negated_level room inner) (l.mark m.And) g.all_of ts us x (inr (compared_primary ts us x h))),
    inl (refl, refl),
  )

  -- ---- a primary, told from its end

  -- an atom and trailers, one at least
  abbrev trailed : Language Expression
  trailed = l.◌>>=◌ (g.primary_parts room inner) (λ parts. l.◌>>=◌ (g.trailer room inner) (λ last. l.pure (g.with_trailers parts.0 (parts.1 ++ last ∷ []))))

  primary_ends : (ts us : Tokens) (x : Expression) → g.primary room inner ts us x → g.atom room inner ts us x ⊎ trailed ts us x
  unfolding g.primary g.primary_parts
  primary_ends ts us x h =
      let parts = h.2 in
      let value : g.with_trailers parts.1 parts.3.1 ≡ x = ap (λ (p : Expression × List Trailer). g.with_trailers p.0 p.1) parts.3.3.1 ∙ h.3.1 in
      let end : parts.3.0 ≡ us = parts.3.3.0 ∙ h.3.0 in
      ⊎_elim
      (λ k. inl (subst (λ (y : Tokens × Expression). g.atom room inner ts y.0 y.1) (λ i. ((k.0 ∙ end) i, (ap (g.with_trailers parts.1) k.1 ∙ value) i)) parts.2))
      (λ k. inr (
        k.0,
        (parts.1, k.1),
        (parts.0, parts.1, parts.2, (k.0, k.1, k.2, (refl, refl))),
        (k.3.0, k.3.1, k.3.2, (k.3.3.0 ∙ end, ap (g.with_trailers parts.1) k.3.3.1 ∙ value)),
      ))
      (many_ends [] parts.3.1 parts.0 parts.3.0 parts.3.2)

  atom_primary : (ts us : Tokens) (x : Expression) → g.atom room inner ts us x → g.primary room inner ts us x
  unfolding g.primary g.primary_parts
  atom_primary ts us x h = (us, (x, []), (us, x, h, (us, [], done, (refl, refl))), (refl, refl))

  trailed_primary : (ts us : Tokens) (x : Expression) → trailed ts us x → g.primary room inner ts us x
  unfolding g.primary g.primary_parts
  trailed_primary ts us x h =
      let parts = h.2 in
      let last = h.3 in
      let at : g.trailer room inner parts.3.0 last.0 last.1 = subst (λ (v : Tokens). g.trailer room inner v last.0 last.1) (sym parts.3.3.0) last.2 in (
        us,
        (parts.1, parts.3.1 ++ last.1 ∷ []),
        (parts.0, parts.1, parts.2, (us, parts.3.1 ++ last.1 ∷ [], many_last parts.3.2 (last.0, last.1, at, (last.3.0, refl)), (refl, refl))),
        (refl, ap (λ (p : Expression × List Trailer). g.with_trailers p.0 (p.1 ++ last.1 ∷ [])) parts.3.3.1 ∙ last.3.1),
      )

  -- ---- places

  last_trailer : (found : List Trailer) (last : Trailer) → ends_in_place (t.trailers (found ++ last ∷ [])) ≡ is_place_trailer last
  last_trailer [] last = refl
  last_trailer (x ∷ []) last = refl
  last_trailer (x ∷ y ∷ found) last = last_trailer (y ∷ found) last

  trailed_target : (first : Expression) (found : List Trailer) (last : Trailer) → is_target (g.with_trailers first (found ++ last ∷ [])) ≡ is_place_trailer last
  trailed_target first [] last = refl
  trailed_target first (x ∷ found) last = last_trailer (x ∷ found) last

  trailed_place : (first : Expression) (found : List Trailer) (last : Trailer) → is_place (g.with_trailers first (found ++ last ∷ [])) ≡ is_place_trailer last
  trailed_place first [] last = refl
  trailed_place first (x ∷ found) last = last_trailer (x ∷ found) last

  abbrev bracket_trailer : Language Trailer
  bracket_trailer = l.◌or◌ (g.call inner) (l.◌or◌ (g.item inner) (g.slice inner))

  place_trailer : (ts us : Tokens) (x : Trailer) → g.trailer room inner ts us x → is_place_trailer x ≡ true → l.◌or◌ (g.attribute inner) (g.item inner) ts us x
  unfolding g.trailer g.call g.slice
  place_trailer ts us x h is = ⊎_elim (λ k. inl k)
      (λ b. ⊎_elim (λ k. clash is (sym (ap is_place_trailer k.3.3.3.3.1)))
      (λ h. ⊎_elim (λ k. inr k) (λ k. clash is (sym (ap is_place_trailer k.3.3.3.3.3.3.1))) h) (out_of_brackets room bracket_trailer ts us x b)) h

  trailer_place : Fits room inner → (ts us : Tokens) (x : Trailer) → l.◌or◌ (g.attribute inner) (g.item inner) ts us x → g.trailer room inner ts us x × (is_place_trailer x ≡ true)
  unfolding g.trailer g.attribute g.item
  trailer_place fits ts us x h = ⊎_elim (λ k. (inl k, sym (ap is_place_trailer k.3.3.1)))
      (λ k. (inr (in_brackets room bracket_trailer ts us x (fits.there exprs k.0 k.3.0 k.3.1 k.3.2) (inr (inl k))), sym (ap is_place_trailer k.3.3.3.1))) h

  -- behind its last trailer
  trailed_is : (ts us : Tokens) (x : Expression) → trailed ts us x → is_target x ≡ true → a.place_level room inner ts us x
  unfolding a.place_level
  trailed_is ts us x h is =
      inr (h.0, h.1, h.2, (h.3.0, h.3.1, place_trailer h.0 h.3.0 h.3.1 h.3.2 (sym (trailed_target h.1.0 h.1.1 h.3.1) ∙ ap is_target h.3.3.1 ∙ is), h.3.3))

  pub place_in : Fits room inner → (ts us : Tokens) (x : Expression) → a.place_level room inner ts us x → g.primary room inner ts us x × (is_place x ≡ true) × (is_target x ≡ true)
  unfolding a.place_level g.atom
  place_in fits ts us x h = ⊎_elim
      (λ k. (atom_primary ts us x (inl k), sym (ap is_place k.3.1), sym (ap is_target k.3.1)))
      (λ k. (let last = trailer_place fits k.0 k.3.0 k.3.1 k.3.2 in (
        trailed_primary ts us x (k.0, k.1, k.2, (k.3.0, k.3.1, last.0, k.3.3)),
        sym (ap is_place k.3.3.1) ∙ trailed_place k.1.0 k.1.1 k.3.1 ∙ last.1,
        sym (ap is_target k.3.3.1) ∙ trailed_target k.1.0 k.1.1 k.3.1 ∙ last.1,
      ))) h

  -- an atom of a place's shape is a name
  no_constant : (k : Mark) (x : Expression) → g.constant_of k ≡ Some x → is_target x ≡ false
  no_constant m.None x h = sym (ap is_target (some_is h))
  no_constant m.True x h = sym (ap is_target (some_is h))
  no_constant m.False x h = sym (ap is_target (some_is h))
  no_constant _ x h = absurd cc

  -- a place is a target that stands in no brackets
  place_target : (x : Expression) → is_place x ≡ true → is_target x ≡ true
  place_target (t.name x) h = refl
  place_target (t.primary e ts) h = h
  place_target _ h = absurd cc

  -- an atom that is a target: a name, or in parentheses or brackets
  atom_target : (ts us : Tokens) (x : Expression) → g.atom room inner ts us x → is_target x ≡ true → g.name ts us x ⊎ g.parenthesised inner ts us x ⊎ g.list inner ts us x
  unfolding g.atom g.dict
  atom_target ts us x h is = ⊎_elim (λ k. inl k)
      (λ h. ⊎_elim (λ k. clash is (sym (ap is_target k.3.1)))
      (λ h. ⊎_elim (λ k. clash is (sym (ap is_target k.3.1)))
      (λ h. ⊎_elim (λ k. inr (inl (out_of_brackets room (g.parenthesised inner) ts us x k)))
      (λ h. ⊎_elim (λ k. inr (inr (out_of_brackets room (g.list inner) ts us x k)))
      (λ h. ⊎_elim (λ k. clash is (sym (ap is_target k.3.3.3.3.1))) (λ k. clash is (no_constant k.1 x k.4)) h) h) h) h) h) h

  no_parenthesised : (ts us : Tokens) (x : Expression) → g.parenthesised inner ts us x → is_place x ≡ false
  unfolding g.parenthesised
  no_parenthesised ts us x h = sym (ap is_place h.3.3.3.1) ∙ ⊎_elim (λ k. sym (ap is_place k.1)) (λ k. sym (ap is_place k.3.1)) h.3.2

  no_list : (ts us : Tokens) (x : Expression) → g.list inner ts us x → is_place x ≡ false
  unfolding g.list
  no_list ts us x h = sym (ap is_place h.3.3.3.1)

  pub primary_place : (ts us : Tokens) (x : Expression) → g.primary room inner ts us x → is_place x ≡ true → a.place_level room inner ts us x
  unfolding a.place_level
  primary_place ts us x h is = ⊎_elim
      (λ k. ⊎_elim (λ n. inl n) (λ k. ⊎_elim (λ p. clash is (no_parenthesised ts us x p)) (λ p. clash is (no_list ts us x p)) k) (atom_target ts us x k (place_target x is)))
      (λ k. trailed_is ts us x k (place_target x is)) (primary_ends ts us x h)

-- ---- lists of targets

abbrev each : List Expression → Bool
each [] = true
each (x ∷ xs) = is_target x && each xs

each_is : (x : Expression) (xs : List Expression) → are_targets (t.expressions (x ∷ xs)) ≡ each (x ∷ xs)
each_is x [] = sym (and-true (is_target x))
each_is x (y ∷ xs) = ap (λ b. is_target x && b) (each_is y xs)

and_both : (b c : Bool) → (b && c) ≡ true → (b ≡ true) × (c ≡ true)
and_both true c h = (refl, h)
and_both false c h = absurd cc

both_and : (b c : Bool) → b ≡ true → c ≡ true → (b && c) ≡ true
both_and b c h k = (λ i. h i && k i)

each_more : (xs : List Expression) (x : Expression) → each (xs ++ x ∷ []) ≡ true → (each xs ≡ true) × (is_target x ≡ true)
each_more [] x h = (refl, (and_both (is_target x) true h).0)
each_more (y ∷ ys) x h =
    let k = and_both (is_target y) (each (ys ++ x ∷ [])) h in
    let rest = each_more ys x k.1 in
    (both_and (is_target y) (each ys) k.0 rest.0, rest.1)

more_each : (xs : List Expression) (x : Expression) → each xs ≡ true → is_target x ≡ true → each (xs ++ x ∷ []) ≡ true
more_each [] x h k = both_and (is_target x) true k refl
more_each (y ∷ ys) x h k =
    let rest = and_both (is_target y) (each ys) h in
    both_and (is_target y) (each (ys ++ x ∷ [])) rest.0 (more_each ys x rest.1 k)

-- one at least
abbrev HasSome : List Expression → Type 0
HasSome [] = ⊥
HasSome (x ∷ xs) = Unit {0}

some_more : (xs : List Expression) (x : Expression) → HasSome (xs ++ x ∷ [])
some_more [] x = tt
some_more (y ∷ ys) x = tt

many_some : {item : Language Expression} {all found : List Expression} {ts us : Tokens} → HasSome all → Many (l.one_more item) all ts us found → HasSome found
many_some some done = some
many_some some (more {a = all} h k) = many_some (subst HasSome h.3.1 (some_more all h.1)) k

alone_each : (xs : List Expression) → HasSome xs → is_target (g.alone xs) ≡ each xs
alone_each [] some = absurd some
alone_each (x ∷ []) some = each_is x []
alone_each (x ∷ y ∷ xs) some = each_is x (y ∷ xs)

several_each : (xs : List Expression) → HasSome xs → are_targets (t.expressions xs) ≡ each xs
several_each [] some = absurd some
several_each (x ∷ xs) some = each_is x xs

module _ (item other : Language Expression) where
  many_narrow : ((ts us : Tokens) (x : Expression) → item ts us x → is_target x ≡ true → other ts us x)
      → {all found : List Expression} {ts us : Tokens} → Many (l.one_more (l.◌>>◌ (l.mark m.Comma) item)) all ts us found → each found ≡ true
      → Many (l.one_more (l.◌>>◌ (l.mark m.Comma) other)) all ts us found × (each all ≡ true)
  many_narrow narrow done is = (done, is)
  many_narrow narrow (more {a = all} h k) is =
      let rest = many_narrow narrow k is in
      let parts = each_more all h.1 (ap each h.3.1 ∙ rest.1) in
      (more (h.0, h.1, (h.2.0, h.2.1, h.2.2, narrow h.2.0 h.0 h.1 h.2.3 parts.1), h.3) rest.0, parts.0)

  many_widen : ((ts us : Tokens) (x : Expression) → item ts us x → other ts us x × (is_target x ≡ true))
      → {all found : List Expression} {ts us : Tokens} → Many (l.one_more (l.◌>>◌ (l.mark m.Comma) item)) all ts us found → each all ≡ true
      → Many (l.one_more (l.◌>>◌ (l.mark m.Comma) other)) all ts us found × (each found ≡ true)
  many_widen widen done is = (done, is)
  many_widen widen (more {a = all} h k) is =
      let x = widen h.2.0 h.0 h.1 h.2.3 in
      let rest = many_widen widen k (sym (ap each h.3.1) ∙ more_each all h.1 is x.1) in
      (more (h.0, h.1, (h.2.0, h.2.1, h.2.2, x.0), h.3) rest.0, rest.1)

  separated_some : (ts us : Tokens) (found : List Expression) → g.separated m.Comma item ts us found → HasSome found
  separated_some ts us found h = many_some tt h.3

  separated_narrow : ((ts us : Tokens) (x : Expression) → item ts us x → is_target x ≡ true → other ts us x)
      → (ts us : Tokens) (found : List Expression) → g.separated m.Comma item ts us found → each found ≡ true → g.separated m.Comma other ts us found
  separated_narrow narrow ts us found h is =
      let rest = many_narrow narrow h.3 is in
      (h.0, h.1, narrow ts h.0 h.1 h.2 (and_both (is_target h.1) true rest.1).0, rest.0)

  separated_widen : ((ts us : Tokens) (x : Expression) → item ts us x → other ts us x × (is_target x ≡ true))
      → (ts us : Tokens) (found : List Expression) → g.separated m.Comma item ts us found → g.separated m.Comma other ts us found × (each found ≡ true)
  separated_widen widen ts us found h =
      let first = widen ts h.0 h.1 h.2 in
      let rest = many_widen widen h.3 (both_and (is_target h.1) true first.1 refl) in
      ((h.0, h.1, first.0, rest.0), rest.1)

  -- as one phrase
  listed_narrow : ((ts us : Tokens) (x : Expression) → item ts us x → is_target x ≡ true → other ts us x)
      → (ts us : Tokens) (x : Expression) → g.listed item g.alone g.several ts us x → is_target x ≡ true → g.listed other g.alone g.several ts us x
  listed_narrow narrow ts us x h is =
      let some = separated_some ts h.0 h.1 h.2 in
      let all_are : each h.1 ≡ true = ⊎_elim
      (λ k. sym (alone_each h.1 some) ∙ ap is_target k.1 ∙ is) (λ k. sym (several_each h.1 some) ∙ ap is_target k.3.1 ∙ is) h.3 in
      (h.0, h.1, separated_narrow narrow ts h.0 h.1 h.2 all_are, h.3)

  listed_widen : ((ts us : Tokens) (x : Expression) → item ts us x → other ts us x × (is_target x ≡ true))
      → (ts us : Tokens) (x : Expression) → g.listed item g.alone g.several ts us x → g.listed other g.alone g.several ts us x × (is_target x ≡ true)
  listed_widen widen ts us x h =
      let some = separated_some ts h.0 h.1 h.2 in
      let all = separated_widen widen ts h.0 h.1 h.2 in (
        (h.0, h.1, all.0, h.3),
        ⊎_elim
            (λ k. sym (ap is_target k.1) ∙ alone_each h.1 some ∙ all.1) (λ k. sym (ap is_target k.3.1) ∙ several_each h.1 some ∙ all.1) h.3,
      )

  -- as a list, in brackets
  plain_narrow : ((ts us : Tokens) (x : Expression) → item ts us x → is_target x ≡ true → other ts us x)
      → (ts us : Tokens) (found : List Expression) → g.any_listed item ts us found → are_targets (t.expressions found) ≡ true
      → g.listed other (λ all. all) (λ all. all) ts us found
  plain_narrow narrow ts us found h is = ⊎_elim
      (λ k. clash is (sym (ap (λ (v : List Expression). are_targets (t.expressions v)) k.1)))
      (λ h. (let some = separated_some ts h.0 h.1 h.2 in
      let all_are : each h.1 ≡ true = sym (several_each h.1 some) ∙ ap (λ (v : List Expression). are_targets (t.expressions v)) (⊎_elim (λ k. k.1) (λ k. k.3.1) h.3) ∙ is in
      (h.0, h.1, separated_narrow narrow ts h.0 h.1 h.2 all_are, h.3))) h

  plain_widen : ((ts us : Tokens) (x : Expression) → item ts us x → other ts us x × (is_target x ≡ true))
      → (ts us : Tokens) (found : List Expression) → g.listed item (λ all. all) (λ all. all) ts us found
      → g.any_listed other ts us found × (are_targets (t.expressions found) ≡ true)
  plain_widen widen ts us found h =
      let some = separated_some ts h.0 h.1 h.2 in
      let all = separated_widen widen ts h.0 h.1 h.2 in
      let same : h.1 ≡ found = ⊎_elim (λ k. k.1) (λ k. k.3.1) h.3 in
      (inr (h.0, h.1, all.0, h.3), sym (ap (λ (v : List Expression). are_targets (t.expressions v)) same) ∙ several_each h.1 some ∙ all.1)

-- ---- targets

-- The targets are the phrases that are targets by their trees.
pub record Same (inner : Phrase → Language Expression) (inner_target : Language Expression) : Type 0 where
  pub into : (ts us : Tokens) (x : Expression) → inner_target ts us x → inner expr ts us x × (is_target x ≡ true)
  pub back : (ts us : Tokens) (x : Expression) → inner expr ts us x → is_target x ≡ true → inner_target ts us x
  pub into_several : (ts us : Tokens) (x : Expression) → g.listed inner_target g.alone g.several ts us x → inner exprs ts us x × (is_target x ≡ true)
  pub back_several : (ts us : Tokens) (x : Expression) → inner exprs ts us x → is_target x ≡ true → g.listed inner_target g.alone g.several ts us x

module _ (room : Bool) (inner : Phrase → Language Expression) (inner_target : Language Expression) (same : Same inner inner_target) (fits : Fits room inner) where
  parenthesised_target : (ts us : Tokens) (x : Expression) → g.parenthesised inner ts us x → is_target x ≡ true → a.target_in_parentheses room inner inner_target ts us x
  unfolding g.parenthesised a.target_in_parentheses
  parenthesised_target ts us x h is = ⊎_elim
      (λ k. clash is (sym (ap is_target h.3.3.3.1) ∙ sym (ap is_target k.1)))
      (λ k. (let end = h.3.3 in (
        h.0,
        h.1,
        h.2,
        (
          k.0,
          k.1,
          same.back_several h.0 k.0 k.1 k.2 (ap is_target k.3.1 ∙ ap is_target end.3.1 ∙ is),
          (end.0, end.1, subst (λ (v : Tokens). l.mark m.RightParenthesis v end.0 end.1) (sym k.3.0) end.2, (end.3.0, k.3.1 ∙ end.3.1)),
        ),
      ))) h.3.2

  target_parenthesised : (ts us : Tokens) (x : Expression) → a.target_in_parentheses room inner inner_target ts us x → g.bracketed room (g.parenthesised inner) ts us x × (is_target x ≡ true)
  unfolding g.parenthesised a.target_in_parentheses
  target_parenthesised ts us x h =
      let inside = same.into_several h.0 h.3.0 h.3.1 h.3.2 in
      let found : g.parenthesised inner ts us x = (h.0, h.1, h.2, (h.3.0, t.paren h.3.1, inr (h.3.0, h.3.1, inside.0, (refl, refl)), h.3.3)) in
      (in_brackets room (g.parenthesised inner) ts us x (fits.there exprs h.0 h.3.0 h.3.1 inside.0) found, sym (ap is_target h.3.3.3.1) ∙ inside.1)

  list_target : (ts us : Tokens) (x : Expression) → g.list inner ts us x → is_target x ≡ true → a.target_in_brackets room inner inner_target ts us x
  unfolding g.list a.target_in_brackets
  list_target ts us x h is = (h.0, h.1, h.2, (h.3.0, h.3.1, plain_narrow (inner expr) inner_target same.back h.0 h.3.0 h.3.1 h.3.2 (ap is_target h.3.3.3.1 ∙ is), h.3.3))

  target_list : (ts us : Tokens) (x : Expression) → a.target_in_brackets room inner inner_target ts us x → g.bracketed room (g.list inner) ts us x × (is_target x ≡ true)
  unfolding g.list a.target_in_brackets
  target_list ts us x h =
      let all = plain_widen inner_target (inner expr) same.into h.0 h.3.0 h.3.1 h.3.2 in
      let first = h.3.2.2 in
      let found : g.list inner ts us x = (h.0, h.1, h.2, (h.3.0, h.3.1, all.0, h.3.3)) in
      (in_brackets room (g.list inner) ts us x (fits.there expr h.0 first.0 first.1 (same.into h.0 first.0 first.1 first.2).0) found, sym (ap is_target h.3.3.3.1) ∙ all.1)

  pub primary_target : (ts us : Tokens) (x : Expression) → g.primary room inner ts us x → is_target x ≡ true → a.target_level room inner inner_target ts us x
  unfolding a.target_level a.place_level
  primary_target ts us x h is = ⊎_elim
      (λ k. ⊎_elim (λ n. inl (inl n))
      (λ k. ⊎_elim (λ p. inr (inl (parenthesised_target ts us x p is))) (λ p. inr (inr (list_target ts us x p is))) k) (atom_target room inner ts us x k is))
      (λ k. inl (trailed_is room inner ts us x k is)) (primary_ends room inner ts us x h)

  pub target_primary : (ts us : Tokens) (x : Expression) → a.target_level room inner inner_target ts us x → g.primary room inner ts us x × (is_target x ≡ true)
  unfolding a.target_level g.atom
  target_primary ts us x h = ⊎_elim
      (λ k. (let p = place_in room inner fits ts us x k in (p.0, p.2)))
      (λ h. ⊎_elim
      (λ k. (let p = target_parenthesised ts us x k in (atom_primary room inner ts us x (inr (inr (inr (inl p.0)))), p.1)))
      (λ k. (let p = target_list ts us x k in (atom_primary room inner ts us x (inr (inr (inr (inr (inl p.0))))), p.1))) h) h

  level_into : (ts us : Tokens) (x : Expression) → a.target_level room inner inner_target ts us x → g.expr_level room inner ts us x × (is_target x ≡ true)
  level_into ts us x h = let p = target_primary ts us x h in (expr_primary room inner ts us x p.0, p.1)

  level_back : (ts us : Tokens) (x : Expression) → g.expr_level room inner ts us x → is_target x ≡ true → a.target_level room inner inner_target ts us x
  level_back ts us x h is = primary_target ts us x (expr_target room inner ts us x h is) is

pub same_targets : (n : ℕ) → Same (g.phrase n) (a.target n)
unfolding g.phrase g.exprs_level a.target
same_targets zero = record {
  into = λ ts us x h. absurd h;
  back = λ ts us x h is. absurd h;
  into_several = λ ts us x h. absurd h.2.2;
  back_several = λ ts us x h is. absurd h;
}
same_targets (suc n) =
    let into = level_into (g.has_room n) (g.phrase n) (a.target n) (same_targets n) (phrase_fits n) in
    let back = level_back (g.has_room n) (g.phrase n) (a.target n) (same_targets n) (phrase_fits n) in
    record {
      into = into;
      back = back;
      into_several = listed_widen (a.target_level (g.has_room n) (g.phrase n) (a.target n)) (g.expr_level (g.has_room n) (g.phrase n)) into;
      back_several = listed_narrow (g.expr_level (g.has_room n) (g.phrase n)) (a.target_level (g.has_room n) (g.phrase n) (a.target n)) back;
    }

-- ---- places

place_single : (x : Expression) → is_place x ≡ true → is_several x ≡ false
place_single (t.tuple es) h = absurd cc
place_single _ h = refl

pub place_phrase : (n : ℕ) (ts us : Tokens) (x : Expression) → a.place n ts us x → g.phrase n exprs ts us x × (is_place x ≡ true)
unfolding a.place g.phrase
place_phrase zero ts us x h = absurd h
place_phrase (suc n) ts us x h = let p = place_in (g.has_room n) (g.phrase n) (phrase_fits n) ts us x h in (widen_level (g.has_room n) (g.phrase n) ts us x (expr_primary (g.has_room n) (g.phrase n) ts us x p.0), p.1)

pub phrase_place : (n : ℕ) (ts us : Tokens) (x : Expression) → g.phrase n exprs ts us x → is_place x ≡ true → a.place n ts us x
unfolding a.place g.phrase
phrase_place zero ts us x h is = absurd h
phrase_place (suc n) ts us x h is =
    primary_place (g.has_room n) (g.phrase n) ts us x (expr_target (g.has_room n) (g.phrase n) ts us x (narrow_level (g.has_room n) (g.phrase n) ts us x h (place_single x is)) (place_target (g.has_room n) (g.phrase n) x is)) is

pub targets_phrase : (n : ℕ) (ts us : Tokens) (x : Expression) → a.targets n ts us x → g.phrase n exprs ts us x × (is_target x ≡ true)
unfolding a.targets
targets_phrase n ts us x h = (same_targets n).into_several ts us x h

pub phrase_targets : (n : ℕ) (ts us : Tokens) (x : Expression) → g.phrase n exprs ts us x → is_target x ≡ true → a.targets n ts us x
unfolding a.targets
phrase_targets n ts us x h is = (same_targets n).back_several ts us x h is
