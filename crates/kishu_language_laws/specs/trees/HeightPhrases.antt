-- How high the tree of a phrase can be: ten for each nesting.
use Rattle.std.specs.Prelude.{◌≡◌, Bool, ◌≤◌, ℕ, zero, suc, ◌+◌, ◌*◌, List, [], ◌∷◌, ◌++◌, map, Option, Some, None}
use Rattle.std.proofs.Common.{subst, arith}
use Rattle.std.proofs.Math.Nat.{max-le}
use Rattle.kishu_language.specs.declared.token.Mark.{Mark}
use Rattle.kishu_language.specs.declared.token.Mark.TheVariants as m
use Rattle.kishu_language.specs.declared.tree.Operator.{Operator}
use Rattle.kishu_language.specs.declared.tree.Comparison.{Comparison}
use Rattle.kishu_language.specs.trees.Tree.{Expression, Trailer, Argument, expressions, operands, links, pairs, trailers, arguments, bound_of}
use Rattle.kishu_language.specs.trees.Tree as t
use Rattle.kishu_language.specs.grammar.Language.{Tokens, Language}
use Rattle.kishu_language.specs.grammar.Language as l
use Rattle.kishu_language.specs.grammar.Grammar.{Phrase, exprs, expr, negated, unary}
use Rattle.kishu_language.specs.grammar.Grammar as g
use Rattle.kishu_language.specs.grammar.Targets as a
use Rattle.kishu_language.specs.trees.Height.{of_expression, of_operands, of_links, of_pairs, of_trailers, of_trailer, of_bound, of_arguments, of_argument, of_list}
use Rattle.kishu_language_laws.specs.trees.Gives.{Gives, gives, pure, none, whatever, ◌>>=◌, ◌>>◌, ◌or◌, so_too, Each, IfAny, one_longer, many, optional, bracketed, listed, any_listed, operated}

-- ---- lists

-- no higher than this
abbrev pub Low : ℕ → Expression → Type 0
Low n e = of_expression e ≤ n

module _ (n : ℕ) where
  pub low_list : (es : List Expression) → Each (Low n) es → of_list es ≤ n
  low_list [] h = omega arith
  low_list (e ∷ es) h = max-le h.0 (low_list es h.1)

  low_seconds : {A : Type 0} (ps : List (A × Expression)) → Each (λ p. Low n p.1) ps → of_list (map (λ p. p.1) ps) ≤ n
  low_seconds [] h = omega arith
  low_seconds (p ∷ ps) h = max-le h.0 (low_seconds ps h.1)

  low_operands : (os : List (Operator × Expression)) → Each (λ o. Low n o.1) os → of_operands (operands os) ≤ n
  low_operands [] h = omega arith
  low_operands (o ∷ os) h = max-le h.0 (low_operands os h.1)

  low_links : (ls : List (Comparison × Expression)) → Each (λ o. Low n o.1) ls → of_links (links ls) ≤ n
  low_links [] h = omega arith
  low_links (o ∷ ls) h = max-le h.0 (low_links ls h.1)

  low_pairs : (ps : List (Expression × Expression)) → Each (λ p. Low n p.0 × Low n p.1) ps → of_pairs (pairs ps) ≤ n
  low_pairs [] h = omega arith
  low_pairs (p ∷ ps) h = max-le h.0.0 (max-le h.0.1 (low_pairs ps h.1))

  low_trailers : (ts : List Trailer) → Each (λ t. of_trailer t ≤ n) ts → of_trailers (trailers ts) ≤ n
  low_trailers [] h = omega arith
  low_trailers (t ∷ ts) h = max-le h.0 (low_trailers ts h.1)

  low_arguments : (found : List Argument) → Each (λ a. of_argument a ≤ n) found → of_arguments (arguments found) ≤ n
  low_arguments [] h = omega arith
  low_arguments (a ∷ found) h = max-le h.0 (low_arguments found h.1)

  low_bound : (o : Option Expression) → IfAny (Low n) o → of_bound (bound_of o) ≤ n
  low_bound None h = omega arith
  low_bound (Some e) h = h

  low_alone : (es : List Expression) → Each (Low n) es → Low (suc n) (g.alone es)
  low_alone [] h = omega arith
  low_alone (e ∷ []) h = omega (arith, h.0)
  low_alone (e ∷ f ∷ es) h = omega (arith, low_list (e ∷ f ∷ es) h)

  low_several : (es : List Expression) → Each (Low n) es → Low (suc n) (g.several es)
  low_several es h = omega (arith, low_list es h)

  low_primary : (e : Expression) (ts : List Trailer) → Low (suc n) e → Each (λ t. of_trailer t ≤ n) ts → Low (2 + n) (g.with_trailers e ts)
  low_primary e [] h k = omega (arith, h)
  low_primary e (t ∷ ts) h k = let after : of_trailers (trailers (t ∷ ts)) ≤ suc n = omega (arith, low_trailers (t ∷ ts) k) in omega (arith, max-le h after)

-- one, or several with commas
several : {item : Language Expression} (n : ℕ) → Gives item (Low n) → Gives (g.listed item g.alone g.several) (Low (suc n))
several n one = listed one (low_alone n) (low_several n)

-- ---- expressions

module _ {inner : Phrase → Language Expression} (n : ℕ) (low : (p : Phrase) → Gives (inner p) (Low n)) where
  keyword_argument : Gives (g.keyword_argument inner) (λ a. of_argument a ≤ n)
  unfolding g.keyword_argument
  keyword_argument = do
    x ← whatever
    whatever
    (value, so) ← low expr
    pure so

  argument : Gives (g.argument inner) (λ a. of_argument a ≤ n)
  unfolding g.argument
  argument = (do
    (value, so) ← low expr
    pure so) or keyword_argument

  pub attribute : Gives (g.attribute inner) (λ t. of_trailer t ≤ n)
  unfolding g.attribute
  attribute = do
    whatever
    x ← whatever
    pure (omega arith)

  call : Gives (g.call inner) (λ t. of_trailer t ≤ n)
  unfolding g.call
  call = do
    whatever
    (found, so) ← any_listed argument
    whatever
    whatever
    pure (low_arguments n found so)

  pub item : Gives (g.item inner) (λ t. of_trailer t ≤ n)
  unfolding g.item
  item = do
    whatever
    (index, so) ← low exprs
    whatever
    pure so

  slice : Gives (g.slice inner) (λ t. of_trailer t ≤ n)
  unfolding g.slice
  slice = do
    whatever
    (start, first) ← optional (low expr)
    whatever
    (stop, second) ← optional (low expr)
    (step, third) ← pure tt or (whatever >> optional (low expr))
    whatever
    pure (max-le (low_bound n start first) (max-le (low_bound n stop second) (low_bound n step third)))

  inside_parentheses : Gives (l.◌or◌ (l.pure (g.several [])) (l.◌>>=◌ (inner exprs) (λ e. l.pure (t.paren e)))) (Low (suc n))
  inside_parentheses = pure (omega arith) or (do
    (e, so) ← low exprs
    pure (omega (arith, so)))

  parenthesised : Gives (g.parenthesised inner) (Low (suc n))
  unfolding g.parenthesised
  parenthesised = do
    whatever
    (inside, so) ← inside_parentheses
    whatever
    pure so

  list : Gives (g.list inner) (Low (suc n))
  unfolding g.list
  list = do
    whatever
    (found, so) ← any_listed (low expr)
    whatever
    pure (omega (arith, low_list n found so))

  pair : Gives (g.pair inner) (λ p. Low n p.0 × Low n p.1)
  unfolding g.pair
  pair = do
    (key, first) ← low expr
    whatever
    (value, second) ← low expr
    pure (first, second)

  dict : Gives (g.dict inner) (Low (suc n))
  unfolding g.dict
  dict = do
    whatever
    (found, so) ← any_listed pair
    whatever
    pure (omega (arith, low_pairs n found so))

  name : Gives g.name (Low (suc n))
  name = do
    x ← whatever
    pure (omega arith)

  integer : Gives g.integer (Low (suc n))
  integer = do
    z ← whatever
    pure (omega arith)

  text : Gives g.text (Low (suc n))
  text = do
    parts ← whatever
    pure (omega arith)

  some_is : {A : Type 0} {x y : A} → Some x ≡ Some y → x ≡ y
  some_is e = cc

  low_constant : (k : Mark) (e : Expression) → g.constant_of k ≡ Some e → Low (suc n) e
  low_constant m.None e h = subst (Low (suc n)) (some_is h) (omega arith)
  low_constant m.True e h = subst (Low (suc n)) (some_is h) (omega arith)
  low_constant m.False e h = subst (Low (suc n)) (some_is h) (omega arith)
  low_constant _ e h = absurd cc

  constant : Gives (l.one_of g.constant_of) (Low (suc n))
  constant = gives (λ ts us e h. low_constant h.1 e h.4)

module _ (room : Bool) {inner : Phrase → Language Expression} (n : ℕ) (low : (p : Phrase) → Gives (inner p) (Low n)) where
  trailer : Gives (g.trailer room inner) (λ t. of_trailer t ≤ n)
  unfolding g.trailer
  trailer = attribute n low or bracketed (call n low or item n low or slice n low)

  atom : Gives (g.atom room inner) (Low (suc n))
  unfolding g.atom
  atom = name n low or integer n low or text n low or bracketed (parenthesised n low) or bracketed (list n low) or bracketed (dict n low) or constant n low

  pub primary_parts : Gives (g.primary_parts room inner) (λ p. Low (suc n) p.0 × Each (λ t. of_trailer t ≤ n) p.1)
  unfolding g.primary_parts
  primary_parts = do
    (first, so) ← atom
    (found, each) ← many trailer
    pure (so, each)

  primary : Gives (g.primary room inner) (Low (2 + n))
  unfolding g.primary
  primary = do
    (parts, so) ← primary_parts
    pure (low_primary n parts.0 parts.1 so.0 so.1)

  low_power : (base exponent : Expression) → Low (2 + n) base → Low n exponent → Low (3 + n) (t.power base exponent)
  low_power base exponent h k = let after : of_expression exponent ≤ 2 + n = omega (arith, k) in omega (arith, max-le h after)

  power : Gives (g.power room inner) (Low (3 + n))
  unfolding g.power
  power = do
    (base, first) ← primary
    pure (omega (arith, first)) or (do
      whatever
      (exponent, second) ← low unary
      pure (low_power base exponent first second))

  unary_level : Gives (g.unary_level room inner) (Low (3 + n))
  unfolding g.unary_level
  unary_level = (do
    before ← whatever
    (operand, so) ← low unary
    pure (omega (arith, so))) or power

  term : Gives (g.term room inner) (Low (4 + n))
  unfolding g.term
  term = operated g.multiplied (λ e h. omega (arith, h)) (λ e x xs h k. omega (arith, max-le h (low_operands (3 + n) (x ∷ xs) k))) unary_level

  sum : Gives (g.sum room inner) (Low (5 + n))
  unfolding g.sum
  sum = operated g.summed (λ e h. omega (arith, h)) (λ e x xs h k. omega (arith, max-le h (low_operands (4 + n) (x ∷ xs) k))) term

  compared : Gives (g.compared room inner) (Low (6 + n))
  unfolding g.compared
  compared = operated g.compared_with (λ e h. omega (arith, h)) (λ e x xs h k. omega (arith, max-le h (low_links (5 + n) (x ∷ xs) k))) sum

  negated_level : Gives (g.negated_level room inner) (Low (6 + n))
  unfolding g.negated_level
  negated_level = (do
    whatever
    (operand, so) ← low negated
    pure (omega (arith, so))) or compared

  conjunction : Gives (g.conjunction room inner) (Low (7 + n))
  unfolding g.conjunction
  conjunction = operated g.all_of (λ e h. omega (arith, h)) (λ e x xs h k. omega (arith, max-le h (low_seconds (6 + n) (x ∷ xs) k))) negated_level

  disjunction : Gives (g.disjunction room inner) (Low (8 + n))
  unfolding g.disjunction
  disjunction = operated g.any_of (λ e h. omega (arith, h)) (λ e x xs h k. omega (arith, max-le h (low_seconds (7 + n) (x ∷ xs) k))) conjunction

  low_conditional : (value test other : Expression) → Low (8 + n) value → Low (8 + n) test → Low n other → Low (9 + n) (t.conditional value test other)
  low_conditional value test other h k j = let last : of_expression other ≤ 8 + n = omega (arith, j) in omega (arith, max-le h (max-le k last))

  expr_level : Gives (g.expr_level room inner) (Low (9 + n))
  unfolding g.expr_level
  expr_level = do
    (value, first) ← disjunction
    pure (omega (arith, first)) or (do
      whatever
      (test, second) ← disjunction
      whatever
      (other, third) ← low expr
      pure (low_conditional value test other first second third))

  exprs_level : Gives (g.exprs_level room inner) (Low (10 + n))
  unfolding g.exprs_level
  exprs_level = so_too (several (9 + n) expr_level) (λ e h. omega (arith, h))

  level : (p : Phrase) → Gives (g.level room inner p) (Low (10 + n))
  level exprs = exprs_level
  level expr = so_too expr_level (λ e h. omega (arith, h))
  level negated = so_too negated_level (λ e h. omega (arith, h))
  level unary = so_too unary_level (λ e h. omega (arith, h))

next_ten : (n : ℕ) → 10 + 10 * n ≡ 10 * suc n
next_ten n = omega arith

pub phrases : (depth : ℕ) (p : Phrase) → Gives (g.phrase depth p) (Low (10 * depth))
unfolding g.phrase
phrases zero p = none
phrases (suc depth) p = subst (λ n. Gives (g.level (g.has_room depth) (g.phrase depth) p) (Low n)) (next_ten depth) (level (g.has_room depth) (10 * depth) (phrases depth) p)

-- ---- places and targets

low_place : (n : ℕ) (e : Expression) (ts : List Trailer) (last : Trailer) → Low (suc n) e → Each (λ t. of_trailer t ≤ n) ts → of_trailer last ≤ n → Low (2 + n) (g.with_trailers e (ts ++ last ∷ []))
low_place n e ts last h k j = low_primary n e (ts ++ last ∷ []) h (one_longer (λ t. of_trailer t ≤ n) ts last k j)

module _ (room : Bool) {inner : Phrase → Language Expression} (n : ℕ) (low : (p : Phrase) → Gives (inner p) (Low n)) where
  place_level : Gives (a.place_level room inner) (Low (2 + n))
  unfolding a.place_level
  place_level = so_too (name n low) (λ e h. omega (arith, h)) or (do
    (parts, so) ← primary_parts room n low
    (last, ends) ← attribute n low or item n low
    pure (low_place n parts.0 parts.1 last so.0 so.1 ends))

  module _ {inner_target : Language Expression} (low_target : Gives inner_target (Low n)) where
    target_in_parentheses : Gives (a.target_in_parentheses room inner inner_target) (Low (2 + n))
    unfolding a.target_in_parentheses
    target_in_parentheses = do
      whatever
      (inside, so) ← several n low_target
      whatever
      pure (omega (arith, so))

    target_in_brackets : Gives (a.target_in_brackets room inner inner_target) (Low (2 + n))
    unfolding a.target_in_brackets
    target_in_brackets = do
      whatever
      (all, so) ← listed low_target (λ all so. so) (λ all so. so)
      whatever
      pure (omega (arith, low_list n all so))

    target_level : Gives (a.target_level room inner inner_target) (Low (2 + n))
    unfolding a.target_level
    target_level = place_level or target_in_parentheses or target_in_brackets

pub place : (depth : ℕ) → Gives (a.place depth) (Low (10 * depth))
unfolding a.place
place zero = none
place (suc depth) = so_too (place_level (g.has_room depth) (10 * depth) (phrases depth)) (λ e h. omega (arith, h))

above_target : (depth : ℕ) → Gives (a.target depth) (Low (10 * depth)) → Gives (a.target (suc depth)) (Low (2 + 10 * depth))
unfolding a.target
above_target depth deeper = target_level (g.has_room depth) (10 * depth) (phrases depth) deeper

pub target : (depth : ℕ) → Gives (a.target depth) (Low (10 * depth))
unfolding a.target
target zero = none
target (suc depth) = so_too (above_target depth (target depth)) (λ e h. omega (arith, h))

pub targets : (depth : ℕ) → Gives (a.targets depth) (Low (10 * depth))
unfolding a.targets a.target
targets zero = gives (λ ts us e h. absurd h.2.2)
targets (suc depth) = so_too (several (2 + 10 * depth) (above_target depth (target depth))) (λ e h. omega (arith, h))
