-- Each phrase is read exactly, at any depth.
use Rattle.std.specs.Prelude.{◌≡◌, ◌⊎◌, ℕ, zero, suc, Bool, true, false, ◌&&◌, List, [], ◌∷◌, ◌++◌, Some, is_some}
use Rattle.std.proofs.Common.{refl, sym, ap, subst, ◌∙◌, arith, inl, inr, ⊎_elim}
use Rattle.kishu_language.specs.declared.token.Mark.{Mark}
use Rattle.kishu_language.specs.declared.token.Mark.TheVariants as m
use Rattle.kishu_language.specs.tokens.Layout.{token}
use Rattle.kishu_language.specs.tokens.Layout as kind
use Rattle.kishu_language.specs.trees.Tree.{Expression, Trailer}
use Rattle.kishu_language.specs.trees.Tree as t
use Rattle.kishu_language.specs.grammar.Language.{Tokens, Language, Many, done, more}
use Rattle.kishu_language.specs.grammar.Language as l
use Rattle.kishu_language.specs.grammar.Grammar.{Phrase, exprs, expr, negated, unary}
use Rattle.kishu_language.specs.grammar.Grammar as g
use Rattle.kishu_language.specs.reading.Reader.{Reader, sees}
use Rattle.kishu_language.specs.reading.Reader as r
use Rattle.kishu_language.specs.reading.ReadExpressions.{is_several, expr_begins}
use Rattle.kishu_language.specs.reading.ReadExpressions as f
use Rattle.kishu_language_laws.specs.reading.Exact.{Reads, Begins, some_is, none_reads, none_begins, begins_by, name_finds, mark_finds}
use Rattle.kishu_language_laws.specs.reading.Follow.{Stop, some_value, unary_is_expr}
use Rattle.kishu_language_laws.specs.reading.ExactInner.{Ends_phrase, Inner}
use Rattle.kishu_language_laws.specs.reading.ExactExpressions.{unary_reads, unary_begins, negated_reads, negated_begins, expr_reads, expr_starts, exprs_reads, exprs_start}

-- ---- an expression alone is never several

abbrev pub Single : Language Expression → Type 0
Single p = (ts us : Tokens) (a : Expression) → p ts us a → is_several a ≡ false

alone_or_made : {A : Type 0} (make : Expression → List A → Expression) → ((first : Expression) (x : A) (xs : List A) → is_several (make first (x ∷ xs)) ≡ false)
    → (first : Expression) (following : List A) → is_several first ≡ false → is_several (g.unless_alone make first following) ≡ false
alone_or_made make made first [] s = s
alone_or_made make made first (x ∷ xs) s = made first x xs

operated_single : {A : Type 0} (item : Language Expression) (operator : Language A) (make : Expression → List (A × Expression) → Expression) → Single item
    → ((first : Expression) (x : A × Expression) (xs : List (A × Expression)) → is_several (make first (x ∷ xs)) ≡ false) → Single (g.operated item operator make)
operated_single item operator make single made ts us a h = sym (ap is_several h.3.3.1) ∙ alone_or_made make made h.1 h.3.1 (single ts h.0 h.1 h.2)

constant_single : (k : Mark) (a : Expression) → g.constant_of k ≡ Some a → is_several a ≡ false
constant_single m.None a h = sym (ap is_several (some_is h))
constant_single m.True a h = sym (ap is_several (some_is h))
constant_single m.False a h = sym (ap is_several (some_is h))
constant_single _ a h = absurd cc

module _ (room : Bool) (inner : Phrase → Language Expression) where
  atom_single : Single (g.atom room inner)
  unfolding g.atom g.parenthesised g.list g.dict
  atom_single ts us a h = ⊎_elim (λ k. sym (ap is_several k.3.1))
      (λ h. ⊎_elim (λ k. sym (ap is_several k.3.1))
      (λ h. ⊎_elim (λ k. sym (ap is_several k.3.1))
      (λ h. ⊎_elim (λ k. sym (ap is_several k.3.3.3.3.1) ∙ ⊎_elim (λ j. sym (ap is_several j.1)) (λ j. sym (ap is_several j.3.1)) k.3.3.2)
      (λ h. ⊎_elim (λ k. sym (ap is_several k.3.3.3.3.1))
      (λ h. ⊎_elim (λ k. sym (ap is_several k.3.3.3.3.1)) (λ k. constant_single k.1 a k.4) h) h) h) h) h) h

  primary_single : Single (g.primary room inner)
  unfolding g.primary g.primary_parts
  primary_single ts us a h = sym (ap is_several h.3.1) ∙ sym (ap (λ (p : Expression × List Trailer). is_several (g.with_trailers p.0 p.1)) h.2.3.3.1)
      ∙ alone_or_made (λ atom found. t.primary atom (t.trailers found)) (λ first x xs. refl) h.2.1 h.2.3.1 (atom_single ts h.2.0 h.2.1 h.2.2)

  power_single : Single (g.power room inner)
  unfolding g.power
  power_single ts us a h = ⊎_elim (λ k. sym (ap is_several k.1) ∙ primary_single ts h.0 h.1 h.2) (λ k. sym (ap is_several k.3.3.1)) h.3

  unary_single : Single (g.unary_level room inner)
  unfolding g.unary_level
  unary_single ts us a h = ⊎_elim (λ k. sym (ap is_several k.3.3.1)) (power_single ts us a) h

  compared_single : Single (g.compared room inner)
  unfolding g.compared g.sum g.term
  compared_single = operated_single (g.sum room inner) g.comparison g.compared_with
      (operated_single (g.term room inner) (l.one_of g.sum_operator) g.summed
      (operated_single (g.unary_level room inner) (l.one_of g.product_operator) g.multiplied unary_single (λ first x xs. refl))
      (λ first x xs. refl))
      (λ first x xs. refl)

  negated_single : Single (g.negated_level room inner)
  unfolding g.negated_level
  negated_single ts us a h = ⊎_elim (λ k. sym (ap is_several k.3.3.1)) (compared_single ts us a) h

  disjunction_single : Single (g.disjunction room inner)
  unfolding g.disjunction g.conjunction
  disjunction_single = operated_single (g.conjunction room inner) (l.mark m.Or) g.any_of
      (operated_single (g.negated_level room inner) (l.mark m.And) g.all_of negated_single (λ first x xs. refl))
      (λ first x xs. refl)

  pub expr_single : Single (g.expr_level room inner)
  unfolding g.expr_level
  expr_single ts us a h = ⊎_elim (λ k. sym (ap is_several k.1) ∙ disjunction_single ts h.0 h.1 h.2) (λ k. sym (ap is_several k.3.3.3.3.1)) h.3

-- ---- one of several

-- two at least
abbrev IsLong : List Expression → Type 0
IsLong all = (x : Expression) × (y : Expression) × (xs : List Expression) × (all ≡ x ∷ y ∷ xs)

longer : (all : List Expression) (next : Expression) → IsLong all → IsLong (all ++ next ∷ [])
longer all next h = (h.0, h.1, h.2 ++ next ∷ [], ap (λ (v : List Expression). v ++ next ∷ []) h.3)

long_several : (all : List Expression) → IsLong all → is_several (g.alone all) ≡ true
long_several all h = ap (λ (v : List Expression). is_several (g.alone v)) h.3

module _ (item : Language Expression) where
  stays_long : {all found : List Expression} {ts us : Tokens} → Many (l.one_more item) all ts us found → IsLong all → IsLong found
  stays_long done long = long
  stays_long (more h k) long = stays_long k (subst IsLong h.3.1 (longer _ h.1 long))

  -- the first alone, or two at least
  first_or_long : {first : Expression} {all found : List Expression} {ts us : Tokens} → Many (l.one_more item) all ts us found → all ≡ first ∷ [] → ((ts ≡ us) × (first ∷ [] ≡ found)) ⊎ IsLong found
  first_or_long done is = inl (refl, sym is)
  first_or_long {first = first} (more h k) is = inr (stays_long k (first, h.1, [], sym h.3.1 ∙ ap (λ (v : List Expression). v ++ h.1 ∷ []) is))

pub widen_level : (room : Bool) (inner : Phrase → Language Expression) (ts us : Tokens) (a : Expression) → g.expr_level room inner ts us a → g.exprs_level room inner ts us a
unfolding g.exprs_level
widen_level room inner ts us a h = (us, a ∷ [], (us, a, h, done), inl (refl, refl))

pub narrow_level : (room : Bool) (inner : Phrase → Language Expression) (ts us : Tokens) (a : Expression) → g.exprs_level room inner ts us a → is_several a ≡ false → g.expr_level room inner ts us a
unfolding g.exprs_level
narrow_level room inner ts us a h single = ⊎_elim
    (λ e. ⊎_elim
    (λ s. subst (λ v. g.expr_level room inner ts v a) (s.0 ∙ e.0) (subst (g.expr_level room inner ts h.2.0) (ap g.alone s.1 ∙ e.1) h.2.2))
    (λ long. (let p : true ≡ false = sym (long_several h.1 long) ∙ ap is_several e.1 ∙ single in absurd cc)) all)
    (λ e. ⊎_elim
    (λ s. (let p : true ≡ false = ap (λ (v : List Expression). is_several (g.several v)) s.1 ∙ ap is_several e.3.1 ∙ single in absurd cc))
    (λ long. (let p : true ≡ false = sym (ap (λ (v : List Expression). is_several (g.several v)) long.3) ∙ ap is_several e.3.1 ∙ single in absurd cc)) all) h.3
  where
    all : ((h.2.0 ≡ h.0) × (h.2.1 ∷ [] ≡ h.1)) ⊎ IsLong h.1
    all = first_or_long (l.◌>>◌ (l.mark m.Comma) (g.expr_level room inner)) h.2.3 refl

-- ---- a name before `=`

computes : (room : Bool) (read : Phrase → Reader Expression) (x : List ℕ) (l1 s1 e1 l2 s2 e2 : ℕ) (ts : Tokens)
    → f.expr_level room read (token (kind.name x) l1 s1 e1 ∷ token (kind.mark m.Assign) l2 s2 e2 ∷ ts) ≡ Some (t.name x, token (kind.mark m.Assign) l2 s2 e2 ∷ ts)
unfolding f.expr_level f.disjunction f.conjunction f.negated_level f.compared f.sum f.term f.unary_level f.power f.primary f.primary_parts f.atom f.trailer
computes room read x l1 s1 e1 l2 s2 e2 ts = refl

and_both : (a b : Bool) → (a && b) ≡ true → (a ≡ true) × (b ≡ true)
and_both true true h = (refl, refl)
and_both true false h = absurd cc
and_both false b h = absurd cc

reads_name : (room : Bool) (read : Phrase → Reader Expression) (ts : Tokens) → f.keyword_begins ts ≡ true → (x : Expression) × (vs : Tokens) × (f.expr_level room read ts ≡ Some (x, vs)) × (sees m.Assign vs ≡ true)
unfolding f.keyword_begins
reads_name room read [] h = absurd cc
reads_name room read (u ∷ []) h = absurd (let b = (and_both (is_some (r.a_name u.kind)) false h).1 in cc)
reads_name room read (u ∷ v ∷ ts) h =
    let b = and_both (is_some (r.a_name u.kind)) (sees m.Assign (v ∷ ts)) h in
    let n = some_value (r.a_name u.kind) b.0 in
    let first = name_finds.only u.kind n.0 n.1 in
    let k = some_value (r.is_mark m.Assign v.kind) b.1 in
    let second = (mark_finds m.Assign).only v.kind k.0 k.1 in (
      t.name n.0,
      v ∷ ts,
      ap (λ c. f.expr_level room read (token c u.line u.start u.end ∷ v ∷ ts)) first
          ∙ ap (λ c. f.expr_level room read (token (kind.name n.0) u.line u.start u.end ∷ token c v.line v.start v.end ∷ ts)) second
          ∙ computes room read n.0 u.line u.start u.end v.line v.start v.end ts
          ∙ ap (λ c. Some (t.name n.0, token c v.line v.start v.end ∷ ts)) (sym second),
      b.1,
    )

named_level : (room : Bool) (inner : Phrase → Language Expression) (read : Phrase → Reader Expression) → Reads (g.expr_level room inner) (f.expr_level room read) (Stop 8)
    → (ts us : Tokens) (a : Expression) → g.expr_level room inner ts us a → Stop 8 us → f.keyword_begins ts ≡ true → sees m.Assign us ≡ true
named_level room inner read reads ts us a h s e =
    let n = reads_name room read ts e in
    let k : ◌≡◌ {A = Expression × Tokens} (a, us) (n.0, n.1) = some_is (sym (reads.complete ts us a h s) ∙ n.2) in
    ap (λ p. sees m.Assign p.1) k ∙ n.3

-- ---- each phrase

module _ (room : Bool) (inner : Phrase → Language Expression) (read : Phrase → Reader Expression) (deeper : Inner inner read) where
  level_reads : (p : Phrase) → Reads (g.level room inner p) (f.level room read p) (Ends_phrase p)
  level_reads exprs = exprs_reads room inner read deeper
  level_reads expr = expr_reads room inner read deeper
  level_reads negated = negated_reads room inner read deeper
  level_reads unary = unary_reads room inner read deeper

  level_begins : (p : Phrase) → Begins (g.level room inner p) expr_begins
  level_begins exprs = exprs_start room inner read deeper
  level_begins expr = expr_starts room inner read deeper
  level_begins negated = negated_begins room inner read deeper
  level_begins unary = begins_by (unary_begins room inner read deeper) unary_is_expr

pub phrases : (n : ℕ) → Inner (g.phrase n) (f.phrase n)
unfolding g.phrase f.phrase
phrases zero = record {
  reads = λ p. none_reads;
  begins = λ p. none_begins;
  widen = λ ts us a h. absurd h;
  narrow = λ ts us a h s. absurd h;
  single = λ ts us a h. absurd h;
  named = λ ts us a h s e. absurd h;
}
phrases (suc n) = record {
  reads = level_reads (g.has_room n) (g.phrase n) (f.phrase n) (phrases n);
  begins = level_begins (g.has_room n) (g.phrase n) (f.phrase n) (phrases n);
  widen = widen_level (g.has_room n) (g.phrase n);
  narrow = narrow_level (g.has_room n) (g.phrase n);
  single = expr_single (g.has_room n) (g.phrase n);
  named = named_level (g.has_room n) (g.phrase n) (f.phrase n) (expr_reads (g.has_room n) (g.phrase n) (f.phrase n) (phrases n));
}

nothing_left : (p : Phrase) → Ends_phrase p []
nothing_left unary = omega arith
nothing_left negated = omega arith
nothing_left expr = omega arith
nothing_left exprs = (omega arith, refl)
