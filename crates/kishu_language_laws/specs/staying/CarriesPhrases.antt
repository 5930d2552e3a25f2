-- Each production of expressions looks only at the kinds of the tokens that it takes, and keeps a reading under a deeper limit.
use Rattle.std.specs.Prelude.{◌≡◌, Bool, true, ◌≤◌, ℕ, zero, suc}
use Rattle.std.proofs.Common.{refl, arith}
use Rattle.kishu_language.specs.trees.Tree.{Expression}
use Rattle.kishu_language.specs.grammar.Language.{Language}
use Rattle.kishu_language.specs.grammar.Grammar.{Phrase, exprs, expr, negated, unary}
use Rattle.kishu_language.specs.grammar.Grammar as g
use Rattle.kishu_language.specs.grammar.Targets as a
use Rattle.kishu_language_laws.specs.staying.Carries.{Likeness, Carries, pure, none, where_true, token, one_of, ◌>>=◌, ◌>>◌, ◌or◌, many, some, optional, bracketed, listed, any_listed, operated}

-- ---- expressions

comparison : {L : Likeness} → Carries L g.comparison g.comparison
comparison = (token >> token >> pure) or (token >> (pure or (token >> pure))) or one_of

name : {L : Likeness} → Carries L g.name g.name
name = do
  x ← token
  pure

integer : {L : Likeness} → Carries L g.integer g.integer
integer = do
  z ← token
  pure

text : {L : Likeness} → Carries L g.text g.text
text = do
  parts ← some token
  pure

-- what may stand one nesting deeper
abbrev pub Inner : Likeness → (Phrase → Language Expression) → (Phrase → Language Expression) → Type 0
Inner L inner inner' = (p : Phrase) → Carries L (inner p) (inner' p)

module _ {L : Likeness} {inner inner' : Phrase → Language Expression} (deeper : Inner L inner inner') where
  keyword_argument : Carries L (g.keyword_argument inner) (g.keyword_argument inner')
  unfolding g.keyword_argument
  keyword_argument = do
    x ← token
    token
    value ← deeper expr
    pure

  argument : Carries L (g.argument inner) (g.argument inner')
  unfolding g.argument
  argument = (do
    value ← deeper expr
    pure) or keyword_argument

  pub attribute : Carries L (g.attribute inner) (g.attribute inner')
  unfolding g.attribute
  attribute = do
    token
    x ← token
    pure

  call : Carries L (g.call inner) (g.call inner')
  unfolding g.call
  call = do
    token
    found ← any_listed argument
    token
    where_true
    pure

  pub item : Carries L (g.item inner) (g.item inner')
  unfolding g.item
  item = do
    token
    index ← deeper exprs
    token
    pure

  slice : Carries L (g.slice inner) (g.slice inner')
  unfolding g.slice
  slice = do
    token
    start ← optional (deeper expr)
    token
    stop ← optional (deeper expr)
    step ← pure or (token >> optional (deeper expr))
    token
    pure

  parenthesised : Carries L (g.parenthesised inner) (g.parenthesised inner')
  unfolding g.parenthesised
  parenthesised = do
    token
    inside ← pure or (do
      e ← deeper exprs
      pure)
    token
    pure

  list : Carries L (g.list inner) (g.list inner')
  unfolding g.list
  list = do
    token
    found ← any_listed (deeper expr)
    token
    pure

  pair : Carries L (g.pair inner) (g.pair inner')
  unfolding g.pair
  pair = do
    key ← deeper expr
    token
    value ← deeper expr
    pure

  dict : Carries L (g.dict inner) (g.dict inner')
  unfolding g.dict
  dict = do
    token
    found ← any_listed pair
    token
    pure

-- Where there was room for one nesting more, there is.
module _ {L : Likeness} {room room' : Bool} (still : room ≡ true → room' ≡ true) {inner inner' : Phrase → Language Expression} (deeper : Inner L inner inner') where
  trailer : Carries L (g.trailer room inner) (g.trailer room' inner')
  unfolding g.trailer
  trailer = attribute deeper or bracketed still (call deeper or item deeper or slice deeper)

  atom : Carries L (g.atom room inner) (g.atom room' inner')
  unfolding g.atom
  atom = name or integer or text or bracketed still (parenthesised deeper) or bracketed still (list deeper) or bracketed still (dict deeper) or one_of

  pub primary_parts : Carries L (g.primary_parts room inner) (g.primary_parts room' inner')
  unfolding g.primary_parts
  primary_parts = do
    first ← atom
    found ← many trailer
    pure

  primary : Carries L (g.primary room inner) (g.primary room' inner')
  unfolding g.primary
  primary = do
    parts ← primary_parts
    pure

  power : Carries L (g.power room inner) (g.power room' inner')
  unfolding g.power
  power = do
    base ← primary
    pure or (do
      token
      exponent ← deeper unary
      pure)

  unary_level : Carries L (g.unary_level room inner) (g.unary_level room' inner')
  unfolding g.unary_level
  unary_level = (do
    before ← one_of
    operand ← deeper unary
    pure) or power

  term : Carries L (g.term room inner) (g.term room' inner')
  unfolding g.term
  term = operated g.multiplied unary_level one_of

  sum : Carries L (g.sum room inner) (g.sum room' inner')
  unfolding g.sum
  sum = operated g.summed term one_of

  compared : Carries L (g.compared room inner) (g.compared room' inner')
  unfolding g.compared
  compared = operated g.compared_with sum comparison

  negated_level : Carries L (g.negated_level room inner) (g.negated_level room' inner')
  unfolding g.negated_level
  negated_level = (do
    token
    operand ← deeper negated
    pure) or compared

  conjunction : Carries L (g.conjunction room inner) (g.conjunction room' inner')
  unfolding g.conjunction
  conjunction = operated g.all_of negated_level token

  disjunction : Carries L (g.disjunction room inner) (g.disjunction room' inner')
  unfolding g.disjunction
  disjunction = operated g.any_of conjunction token

  expr_level : Carries L (g.expr_level room inner) (g.expr_level room' inner')
  unfolding g.expr_level
  expr_level = do
    value ← disjunction
    pure or (do
      token
      test ← disjunction
      token
      other ← deeper expr
      pure)

  exprs_level : Carries L (g.exprs_level room inner) (g.exprs_level room' inner')
  unfolding g.exprs_level
  exprs_level = listed expr_level

  level : Inner L (g.level room inner) (g.level room' inner')
  level exprs = exprs_level
  level expr = expr_level
  level negated = negated_level
  level unary = unary_level

room_stays : (n k : ℕ) → n ≤ k → g.has_room n ≡ true → g.has_room k ≡ true
room_stays zero k under h = absurd cc
room_stays (suc n) zero under h = absurd (omega (arith, under))
room_stays (suc n) (suc k) under h = refl

pub phrases : {L : Likeness} (n k : ℕ) → n ≤ k → (p : Phrase) → Carries L (g.phrase n p) (g.phrase k p)
unfolding g.phrase
phrases zero k under p = none
phrases (suc n) zero under p = absurd (omega (arith, under))
phrases (suc n) (suc k) under p = let below : n ≤ k = omega (arith, under) in level (room_stays n k below) (phrases n k below) p

-- ---- places and targets

module _ {L : Likeness} {room room' : Bool} (still : room ≡ true → room' ≡ true) {inner inner' : Phrase → Language Expression} (deeper : Inner L inner inner') where
  place_level : Carries L (a.place_level room inner) (a.place_level room' inner')
  unfolding a.place_level
  place_level = name or (do
    parts ← primary_parts still deeper
    last ← attribute deeper or item deeper
    pure)

  module _ {inner_target inner_target' : Language Expression} (targeted : Carries L inner_target inner_target') where
    target_in_parentheses : Carries L (a.target_in_parentheses room inner inner_target) (a.target_in_parentheses room' inner' inner_target')
    unfolding a.target_in_parentheses
    target_in_parentheses = do
      token
      inside ← listed targeted
      token
      pure

    target_in_brackets : Carries L (a.target_in_brackets room inner inner_target) (a.target_in_brackets room' inner' inner_target')
    unfolding a.target_in_brackets
    target_in_brackets = do
      token
      all ← listed targeted
      token
      pure

    target_level : Carries L (a.target_level room inner inner_target) (a.target_level room' inner' inner_target')
    unfolding a.target_level
    target_level = place_level or target_in_parentheses or target_in_brackets

pub place : {L : Likeness} (n k : ℕ) → n ≤ k → Carries L (a.place n) (a.place k)
unfolding a.place
place zero k under = none
place (suc n) zero under = absurd (omega (arith, under))
place (suc n) (suc k) under = let below : n ≤ k = omega (arith, under) in place_level (room_stays n k below) (phrases n k below)

pub target : {L : Likeness} (n k : ℕ) → n ≤ k → Carries L (a.target n) (a.target k)
unfolding a.target
target zero k under = none
target (suc n) zero under = absurd (omega (arith, under))
target (suc n) (suc k) under = let below : n ≤ k = omega (arith, under) in target_level (room_stays n k below) (phrases n k below) (target n k below)

pub targets : {L : Likeness} (n k : ℕ) → n ≤ k → Carries L (a.targets n) (a.targets k)
unfolding a.targets
targets n k under = listed (target n k under)
