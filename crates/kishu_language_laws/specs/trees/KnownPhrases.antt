-- The names in the tree of a phrase are names, and of its numbers and texts it holds what is known of those among its tokens; the keywords of a call differ, and places and targets are such.
use Rattle.std.specs.Prelude.{◌≡◌, IsTrue, Bool, ℕ, zero, suc, List, [], ◌∷◌, ◌++◌, map, Option, Some, None}
use Rattle.std.proofs.Common.{subst}
use Rattle.kishu_language.specs.declared.token.Mark.{Mark}
use Rattle.kishu_language.specs.declared.token.Mark.TheVariants as m
use Rattle.kishu_language.specs.declared.tree.Operator.{Operator}
use Rattle.kishu_language.specs.declared.tree.Comparison.{Comparison}
use Rattle.kishu_language.specs.trees.Tree.{Expression, Expressions, Operands, Links, Pairs, Trailers, Trailer, Bound, Arguments, Argument, expressions, operands, links, pairs, trailers, arguments, bound_of}
use Rattle.kishu_language.specs.trees.Tree as t
use Rattle.kishu_language.specs.trees.Holds.{ExpressionHolds, ExpressionsHold, OperandsHold, LinksHold, PairsHold, TrailersHold, TrailerHolds, BoundHolds, ArgumentsHold, ArgumentHolds}
use Rattle.kishu_language.specs.grammar.Language.{Tokens, Language}
use Rattle.kishu_language.specs.grammar.Language as l
use Rattle.kishu_language.specs.grammar.Grammar.{Phrase, exprs, expr, negated, unary}
use Rattle.kishu_language.specs.grammar.Grammar as g
use Rattle.kishu_language.specs.grammar.Targets.{is_target}
use Rattle.kishu_language.specs.grammar.Targets as a
use Rattle.kishu_language_laws.specs.reading.TargetTrees.{place_phrase, targets_phrase}
use Rattle.kishu_language_laws.specs.trees.Keywords.{keywords_differ}
use Rattle.kishu_language_laws.specs.trees.Gives.{pure, none, ◌>>=◌, ◌>>◌, ◌or◌, Each, IfAny, one_longer, many, some, optional}
use Rattle.kishu_language_laws.specs.trees.Placed.{PlaceHolds}
use Rattle.kishu_language_laws.specs.trees.Known.{Known, AllKnown, Tells, token, one_of, where_true, bracketed, listed, any_listed, operated}

some_is : {A : Type 0} {x y : A} → Some x ≡ Some y → x ≡ y
some_is e = cc

module _ (known : Known) where
  abbrev pub ExpressionTold : Expression → Type 0
  ExpressionTold = ExpressionHolds known.number known.text

  abbrev pub ExpressionsTold : Expressions → Type 0
  ExpressionsTold = ExpressionsHold known.number known.text

  abbrev pub OperandsTold : Operands → Type 0
  OperandsTold = OperandsHold known.number known.text

  abbrev pub LinksTold : Links → Type 0
  LinksTold = LinksHold known.number known.text

  abbrev pub PairsTold : Pairs → Type 0
  PairsTold = PairsHold known.number known.text

  abbrev pub TrailersTold : Trailers → Type 0
  TrailersTold = TrailersHold known.number known.text

  abbrev pub TrailerTold : Trailer → Type 0
  TrailerTold = TrailerHolds known.number known.text

  abbrev pub BoundTold : Bound → Type 0
  BoundTold = BoundHolds known.number known.text

  abbrev pub ArgumentsTold : Arguments → Type 0
  ArgumentsTold = ArgumentsHold known.number known.text

  abbrev pub ArgumentTold : Argument → Type 0
  ArgumentTold = ArgumentHolds known.number known.text

  -- ---- lists

  all_told : (es : List Expression) → Each ExpressionTold es → ExpressionsTold (expressions es)
  all_told [] h = tt
  all_told (e ∷ es) h = (h.0, all_told es h.1)

  seconds_told : {A : Type 0} (ps : List (A × Expression)) → Each (λ p. ExpressionTold p.1) ps → ExpressionsTold (expressions (map (λ p. p.1) ps))
  seconds_told [] h = tt
  seconds_told (p ∷ ps) h = (h.0, seconds_told ps h.1)

  operands_told : (os : List (Operator × Expression)) → Each (λ o. ExpressionTold o.1) os → OperandsTold (operands os)
  operands_told [] h = tt
  operands_told (o ∷ os) h = (h.0, operands_told os h.1)

  links_told : (ls : List (Comparison × Expression)) → Each (λ o. ExpressionTold o.1) ls → LinksTold (links ls)
  links_told [] h = tt
  links_told (o ∷ ls) h = (h.0, links_told ls h.1)

  pairs_told : (ps : List (Expression × Expression)) → Each (λ p. ExpressionTold p.0 × ExpressionTold p.1) ps → PairsTold (pairs ps)
  pairs_told [] h = tt
  pairs_told (p ∷ ps) h = (h.0.0, h.0.1, pairs_told ps h.1)

  trailers_told : (ts : List Trailer) → Each TrailerTold ts → TrailersTold (trailers ts)
  trailers_told [] h = tt
  trailers_told (t ∷ ts) h = (h.0, trailers_told ts h.1)

  arguments_told : (found : List Argument) → Each ArgumentTold found → ArgumentsTold (arguments found)
  arguments_told [] h = tt
  arguments_told (a ∷ found) h = (h.0, arguments_told found h.1)

  bound_told : (o : Option Expression) → IfAny ExpressionTold o → BoundTold (bound_of o)
  bound_told None h = tt
  bound_told (Some e) h = h

  alone_told : (es : List Expression) → Each ExpressionTold es → ExpressionTold (g.alone es)
  alone_told [] h = tt
  alone_told (e ∷ []) h = h.0
  alone_told (e ∷ f ∷ es) h = all_told (e ∷ f ∷ es) h

  primary_told : (e : Expression) (ts : List Trailer) → ExpressionTold e → Each TrailerTold ts → ExpressionTold (g.with_trailers e ts)
  primary_told e [] h k = h
  primary_told e (t ∷ ts) h k = (h, trailers_told (t ∷ ts) k)

  -- one, or several with commas
  several : {item : Language Expression} → Tells known item ExpressionTold → Tells known (g.listed item g.alone g.several) ExpressionTold
  several one = listed one alone_told all_told

  -- ---- expressions

  comparison : Tells known g.comparison (λ _. Unit {0})
  comparison = (token >> token >> pure tt) or (token >> (pure tt or (token >> pure tt))) or one_of

  name : Tells known g.name ExpressionTold
  name = do
    (x, so) ← token
    pure so

  integer : Tells known g.integer ExpressionTold
  integer = do
    (z, so) ← token
    pure so

  text : Tells known g.text ExpressionTold
  text = do
    (parts, so) ← some token
    pure (known.joins parts so)

  constant_told : (k : Mark) (e : Expression) → g.constant_of k ≡ Some e → ExpressionTold e
  constant_told m.None e h = subst ExpressionTold (some_is h) tt
  constant_told m.True e h = subst ExpressionTold (some_is h) tt
  constant_told m.False e h = subst ExpressionTold (some_is h) tt
  constant_told _ e h = absurd cc

  constant : Tells known (l.one_of g.constant_of) ExpressionTold
  constant = record { leads = λ ts us e i h. (let n = (subst (AllKnown known) h.2 i).each in (record { each = n.1 }, constant_told h.1 e h.4)) }

  -- what may stand one nesting deeper
  abbrev pub Inner : (Phrase → Language Expression) → Type 0
  Inner inner = (p : Phrase) → Tells known (inner p) ExpressionTold

  module _ {inner : Phrase → Language Expression} (deeper : Inner inner) where
    keyword_argument : Tells known (g.keyword_argument inner) ArgumentTold
    unfolding g.keyword_argument
    keyword_argument = do
      (x, first) ← token
      token
      (value, second) ← deeper expr
      pure (first, second)

    argument : Tells known (g.argument inner) ArgumentTold
    unfolding g.argument
    argument = (do
      (value, so) ← deeper expr
      pure so) or keyword_argument

    pub attribute : Tells known (g.attribute inner) TrailerTold
    unfolding g.attribute
    attribute = do
      token
      (x, so) ← token
      pure so

    call : Tells known (g.call inner) TrailerTold
    unfolding g.call
    call = do
      token
      (found, so) ← any_listed argument
      token
      (_, differ) ← where_true
      pure (arguments_told found so, keywords_differ found differ)

    pub item : Tells known (g.item inner) TrailerTold
    unfolding g.item
    item = do
      token
      (index, so) ← deeper exprs
      token
      pure so

    slice : Tells known (g.slice inner) TrailerTold
    unfolding g.slice
    slice = do
      token
      (start, first) ← optional (deeper expr)
      token
      (stop, second) ← optional (deeper expr)
      (step, third) ← pure tt or (token >> optional (deeper expr))
      token
      pure (bound_told start first, bound_told stop second, bound_told step third)

    inside_parentheses : Tells known (l.◌or◌ (l.pure (g.several [])) (l.◌>>=◌ (inner exprs) (λ e. l.pure (t.paren e)))) ExpressionTold
    inside_parentheses = pure tt or (do
      (e, so) ← deeper exprs
      pure so)

    parenthesised : Tells known (g.parenthesised inner) ExpressionTold
    unfolding g.parenthesised
    parenthesised = do
      token
      (inside, so) ← inside_parentheses
      token
      pure so

    list : Tells known (g.list inner) ExpressionTold
    unfolding g.list
    list = do
      token
      (found, so) ← any_listed (deeper expr)
      token
      pure (all_told found so)

    pair : Tells known (g.pair inner) (λ p. ExpressionTold p.0 × ExpressionTold p.1)
    unfolding g.pair
    pair = do
      (key, first) ← deeper expr
      token
      (value, second) ← deeper expr
      pure (first, second)

    dict : Tells known (g.dict inner) ExpressionTold
    unfolding g.dict
    dict = do
      token
      (found, so) ← any_listed pair
      token
      pure (pairs_told found so)

  module _ (room : Bool) {inner : Phrase → Language Expression} (deeper : Inner inner) where
    trailer : Tells known (g.trailer room inner) TrailerTold
    unfolding g.trailer
    trailer = attribute deeper or bracketed (call deeper or item deeper or slice deeper)

    atom : Tells known (g.atom room inner) ExpressionTold
    unfolding g.atom
    atom = name or integer or text or bracketed (parenthesised deeper) or bracketed (list deeper) or bracketed (dict deeper) or constant

    pub primary_parts : Tells known (g.primary_parts room inner) (λ p. ExpressionTold p.0 × Each TrailerTold p.1)
    unfolding g.primary_parts
    primary_parts = do
      (first, so) ← atom
      (found, each) ← many trailer
      pure (so, each)

    primary : Tells known (g.primary room inner) ExpressionTold
    unfolding g.primary
    primary = do
      (parts, so) ← primary_parts
      pure (primary_told parts.0 parts.1 so.0 so.1)

    power : Tells known (g.power room inner) ExpressionTold
    unfolding g.power
    power = do
      (base, first) ← primary
      pure first or (do
        token
        (exponent, second) ← deeper unary
        pure (first, second))

    unary_level : Tells known (g.unary_level room inner) ExpressionTold
    unfolding g.unary_level
    unary_level = (do
      before ← one_of
      (operand, so) ← deeper unary
      pure so) or power

    term : Tells known (g.term room inner) ExpressionTold
    unfolding g.term
    term = operated g.multiplied (λ e x xs h k. (h, operands_told (x ∷ xs) k)) unary_level one_of

    sum : Tells known (g.sum room inner) ExpressionTold
    unfolding g.sum
    sum = operated g.summed (λ e x xs h k. (h, operands_told (x ∷ xs) k)) term one_of

    compared : Tells known (g.compared room inner) ExpressionTold
    unfolding g.compared
    compared = operated g.compared_with (λ e x xs h k. (h, links_told (x ∷ xs) k)) sum comparison

    negated_level : Tells known (g.negated_level room inner) ExpressionTold
    unfolding g.negated_level
    negated_level = (do
      token
      (operand, so) ← deeper negated
      pure so) or compared

    conjunction : Tells known (g.conjunction room inner) ExpressionTold
    unfolding g.conjunction
    conjunction = operated g.all_of (λ e x xs h k. (h, seconds_told (x ∷ xs) k)) negated_level token

    disjunction : Tells known (g.disjunction room inner) ExpressionTold
    unfolding g.disjunction
    disjunction = operated g.any_of (λ e x xs h k. (h, seconds_told (x ∷ xs) k)) conjunction token

    expr_level : Tells known (g.expr_level room inner) ExpressionTold
    unfolding g.expr_level
    expr_level = do
      (value, first) ← disjunction
      pure first or (do
        token
        (test, second) ← disjunction
        token
        (other, third) ← deeper expr
        pure (first, second, third))

    exprs_level : Tells known (g.exprs_level room inner) ExpressionTold
    unfolding g.exprs_level
    exprs_level = several expr_level

    level : Inner (g.level room inner)
    level exprs = exprs_level
    level expr = expr_level
    level negated = negated_level
    level unary = unary_level

  pub phrases : (depth : ℕ) → Inner (g.phrase depth)
  unfolding g.phrase
  phrases zero p = none
  phrases (suc depth) p = level (g.has_room depth) (phrases depth) p

  -- ---- places and targets

  placed_told : (e : Expression) (ts : List Trailer) (last : Trailer) → ExpressionTold e → Each TrailerTold ts → TrailerTold last → ExpressionTold (g.with_trailers e (ts ++ last ∷ []))
  placed_told e ts last h k j = primary_told e (ts ++ last ∷ []) h (one_longer TrailerTold ts last k j)

  module _ (room : Bool) {inner : Phrase → Language Expression} (deeper : Inner inner) where
    place_level : Tells known (a.place_level room inner) ExpressionTold
    unfolding a.place_level
    place_level = name or (do
      (parts, so) ← primary_parts room deeper
      (last, ends) ← attribute deeper or item deeper
      pure (placed_told parts.0 parts.1 last so.0 so.1 ends))

    module _ {inner_target : Language Expression} (targeted : Tells known inner_target ExpressionTold) where
      target_in_parentheses : Tells known (a.target_in_parentheses room inner inner_target) ExpressionTold
      unfolding a.target_in_parentheses
      target_in_parentheses = do
        token
        (inside, so) ← several targeted
        token
        pure so

      target_in_brackets : Tells known (a.target_in_brackets room inner inner_target) ExpressionTold
      unfolding a.target_in_brackets
      target_in_brackets = do
        token
        (all, so) ← listed targeted (λ all so. so) (λ all so. so)
        token
        pure (all_told all so)

      target_level : Tells known (a.target_level room inner inner_target) ExpressionTold
      unfolding a.target_level
      target_level = place_level or target_in_parentheses or target_in_brackets

  place_told : (depth : ℕ) → Tells known (a.place depth) ExpressionTold
  unfolding a.place
  place_told zero = none
  place_told (suc depth) = place_level (g.has_room depth) (phrases depth)

  pub target : (depth : ℕ) → Tells known (a.target depth) ExpressionTold
  unfolding a.target
  target zero = none
  target (suc depth) = target_level (g.has_room depth) (phrases depth) (target depth)

  targets_told : (depth : ℕ) → Tells known (a.targets depth) ExpressionTold
  unfolding a.targets
  targets_told depth = several (target depth)

  -- with what the tree of a place is, and that of targets
  pub place : (depth : ℕ) → Tells known (a.place depth) (PlaceHolds known.number known.text)
  place depth = record {
    leads = λ ts us e i h. (let k = (place_told depth).leads ts us e i h in (k.0, (k.1, (place_phrase depth ts us e h).1)));
  }

  abbrev pub TargetTold : Expression → Type 0
  TargetTold e = ExpressionTold e × IsTrue (is_target e)

  pub targets : (depth : ℕ) → Tells known (a.targets depth) TargetTold
  targets depth = record {
    leads = λ ts us e i h. (let k = (targets_told depth).leads ts us e i h in (k.0, (k.1, (targets_phrase depth ts us e h).1)));
  }
