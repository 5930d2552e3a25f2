-- How high the tree of a statement can be: ten for each nesting, and one.
use Rattle.std.specs.Prelude.{◌≤◌, ℕ, zero, suc, ◌*◌, List, [], ◌∷◌, Option, Some, None}
use Rattle.std.specs.List.{flat_map}
use Rattle.std.proofs.Common.{arith}
use Rattle.std.proofs.Math.Nat.{max-le}
use Rattle.kishu_language.specs.declared.token.Mark.{Mark}
use Rattle.kishu_language.specs.trees.Tree.{Text, Expression, Parameter, Statement, Statements, Arm, Handler, statements, arms, handlers}
use Rattle.kishu_language.specs.grammar.Language.{Language}
use Rattle.kishu_language.specs.grammar.Language as l
use Rattle.kishu_language.specs.grammar.Grammar.{exprs, expr, deepest}
use Rattle.kishu_language.specs.grammar.Refusals.{Around, top, in_function, in_loop, in_handler}
use Rattle.kishu_language.specs.grammar.Statements as s
use Rattle.kishu_language.specs.trees.Height.{of_optional, of_parameters, of_statement, of_statements, of_arms, of_handlers}
use Rattle.kishu_language_laws.specs.trees.Gives.{Gives, given, gives, pure, none, whatever, ◌>>=◌, ◌>>◌, ◌or◌, so_too, Each, IfAny, in_parts, many, many_from, some, optional, separated, any_listed}
use Rattle.kishu_language_laws.specs.trees.HeightPhrases.{Low, low_list, phrases, place, targets}

-- no higher than this
abbrev pub Short : ℕ → Statement → Type 0
Short n s = of_statement s ≤ n

-- ---- lists

module _ (n : ℕ) where
  pub low_optional : (o : Option Expression) → IfAny (Low n) o → of_optional o ≤ n
  low_optional None h = omega arith
  low_optional (Some e) h = h

  low_parameters : (ps : List Parameter) → Each (λ p. of_optional p.1 ≤ n) ps → of_parameters ps ≤ n
  low_parameters [] h = omega arith
  low_parameters (p ∷ ps) h = max-le h.0 (low_parameters ps h.1)

  pub low_statements : (ss : List Statement) → Each (Short n) ss → of_statements (statements ss) ≤ n
  low_statements [] h = omega arith
  low_statements (s ∷ ss) h = max-le h.0 (low_statements ss h.1)

  abbrev LowArm : Arm → Type 0
  LowArm a = Low n a.0 × (of_statements a.1 ≤ n)

  low_arms : (as' : List Arm) → Each LowArm as' → of_arms (arms as') ≤ n
  low_arms [] h = omega arith
  low_arms (a ∷ as') h = max-le h.0.0 (max-le h.0.1 (low_arms as' h.1))

  abbrev LowHandler : Handler → Type 0
  LowHandler h = (of_optional h.class ≤ n) × (of_statements h.body ≤ n)

  low_handlers : (hs : List Handler) → Each LowHandler hs → of_handlers (handlers hs) ≤ n
  low_handlers [] h = omega arith
  low_handlers (k ∷ hs) h = max-le h.0.0 (max-le h.0.1 (low_handlers hs h.1))

  low_handler : (found : Option (Expression × Option Text)) (body : Statements) → IfAny (λ c. Low n c.0) found → of_statements body ≤ n → LowHandler (s.handler_of found body)
  low_handler None body h k = (omega arith, k)
  low_handler (Some c) body h k = (h, k)

  longer : {k : ℕ} → n ≤ k → (ss : List Statement) → Each (Short n) ss → Each (Short k) ss
  longer under [] h = tt
  longer under (s ∷ ss) h = (omega (arith, under, h.0), longer under ss h.1)

-- ---- simple statements

module _ (around : Around) (depth : ℕ) where
  pass : Gives (s.pass around depth) (Short (suc (10 * depth)))
  unfolding s.pass
  pass = whatever >> pure (omega arith)

  break : Gives (s.break around depth) (Short (suc (10 * depth)))
  unfolding s.break
  break = do
    whatever
    whatever
    pure (omega arith)

  continue : Gives (s.continue around depth) (Short (suc (10 * depth)))
  unfolding s.continue
  continue = do
    whatever
    whatever
    pure (omega arith)

  return : Gives (s.return around depth) (Short (suc (10 * depth)))
  unfolding s.return
  return = do
    whatever
    whatever
    (value, so) ← optional (phrases depth exprs)
    pure (omega (arith, low_optional (10 * depth) value so))

  raise_again : Gives (s.raise_again around depth) (Short (suc (10 * depth)))
  unfolding s.raise_again
  raise_again = do
    whatever
    whatever
    pure (omega arith)

  raise : Gives (s.raise around depth) (Short (suc (10 * depth)))
  unfolding s.raise
  raise = do
    whatever
    (value, so) ← phrases depth expr
    pure (omega (arith, so))

  assertion : Gives (s.assertion around depth) (Short (suc (10 * depth)))
  unfolding s.assertion
  assertion = do
    whatever
    (test, first) ← phrases depth expr
    (message, second) ← optional (whatever >> phrases depth expr)
    pure (omega (arith, max-le first (low_optional (10 * depth) message second)))

  delete : Gives (s.delete around depth) (Short (suc (10 * depth)))
  unfolding s.delete
  delete = do
    whatever
    (places, so) ← separated (place depth)
    pure (omega (arith, low_list (10 * depth) places so))

  global : Gives (s.global around depth) (Short (suc (10 * depth)))
  unfolding s.global
  global = do
    whatever
    whatever
    names ← whatever
    pure (omega arith)

  import : Gives (s.import around depth) (Short (suc (10 * depth)))
  unfolding s.import
  import = do
    whatever
    whatever
    whatever
    whatever
    found ← whatever
    pure (omega arith)

  update : Gives (s.update around depth) (Short (suc (10 * depth)))
  unfolding s.update
  update = do
    (at, first) ← place depth
    operator ← whatever
    (value, second) ← phrases depth exprs
    pure (omega (arith, max-le first second))

  assignment : Gives (s.assignment around depth) (Short (suc (10 * depth)))
  unfolding s.assignment
  assignment = do
    (all, first) ← many (do
      (found, so) ← targets depth
      whatever
      pure so)
    (value, second) ← phrases depth exprs
    pure (omega (arith, max-le (low_list (10 * depth) all first) second))

  pub simple : Gives (s.simple around depth) (Short (suc (10 * depth)))
  unfolding s.simple
  simple = pass or break or continue or return or raise_again or raise or assertion or delete or global or import or update or assignment

  pub simples : Gives (s.simples around depth) (Each (Short (suc (10 * depth))))
  unfolding s.simples
  simples = do
    (all, so) ← separated simple
    whatever
    whatever
    pure so

line : (around : Around) (depth : ℕ) → Gives (s.line around depth) (Each (Short (suc (10 * depth))))
unfolding s.line
line around zero = none
line around (suc depth) = simples around (suc depth)

-- ---- compound statements

module _ (source : Text) (depth : ℕ) {inner : Around → Language (List Statement)} (low : (around : Around) → Gives (inner around) (Each (Short (10 * suc depth)))) where
  abbrev most : ℕ
  most = 10 * suc depth

  low_block : (around : Around) → Gives (s.block source depth inner around) (λ ss. of_statements ss ≤ most)
  unfolding s.block
  low_block around = (do
    (all, so) ← line around depth
    pure (low_statements most all (longer (suc (10 * depth)) (omega arith) all so))) or (do
      whatever
      whatever
      (parts, so) ← some (low around)
      whatever
      pure (low_statements most (flat_map (λ part. part) parts) (in_parts (Short most) parts so)))

  block_after : (before : Mark) (around : Around) → Gives (s.block_after source depth inner before around) (λ ss. of_statements ss ≤ most)
  unfolding s.block_after
  block_after before around = pure (omega arith) or (do
    whatever
    whatever
    low_block around)

  arm : (around : Around) → Gives (s.arm source depth inner around) (LowArm most)
  unfolding s.arm
  arm around = do
    (test, first) ← phrases (suc depth) expr
    whatever
    (body, second) ← low_block around
    pure (first, second)

  choice : (around : Around) → Gives (s.choice source depth inner around) (Short (suc most))
  unfolding s.choice
  choice around = do
    whatever
    (first, so) ← arm around
    (all, each) ← many_from (whatever >> arm around) (first ∷ []) (so, tt)
    (other, last) ← block_after _ around
    pure (omega (arith, max-le (low_arms most all each) last))

  while : (around : Around) → Gives (s.while source depth inner around) (Short (suc most))
  unfolding s.while
  while around = do
    whatever
    (found, so) ← arm (in_loop around)
    pure (omega (arith, max-le so.0 so.1))

  for : (around : Around) → Gives (s.for source depth inner around) (Short (suc most))
  unfolding s.for
  for around = do
    whatever
    (found, first) ← targets (suc depth)
    whatever
    (walked, second) ← phrases (suc depth) exprs
    whatever
    (body, third) ← low_block (in_loop around)
    pure (omega (arith, max-le first (max-le second third)))

  caught : Gives (s.caught source depth inner) (λ c. Low most c.0)
  unfolding s.caught
  caught = do
    (class, so) ← phrases (suc depth) expr
    found ← whatever
    pure so

  handler : (around : Around) → Gives (s.handler source depth inner around) (LowHandler most)
  unfolding s.handler
  handler around = do
    whatever
    (found, first) ← optional caught
    whatever
    (body, second) ← low_block (in_handler around)
    pure (low_handler most found body first second)

  handled : (body : Statements) (around : Around) → of_statements body ≤ most → Gives (s.handled source depth inner body around) (Short (suc most))
  unfolding s.handled
  handled body around first = do
    (found, second) ← some (handler around)
    whatever
    (other, third) ← block_after _ around
    (last, fourth) ← block_after _ around
    pure (omega (arith, max-le first (max-le (low_handlers most found second) (max-le third fourth))))

  finished : (body : Statements) (around : Around) → of_statements body ≤ most → Gives (s.finished source depth inner body around) (Short (suc most))
  unfolding s.finished
  finished body around first = do
    whatever
    whatever
    (last, second) ← low_block around
    pure (omega (arith, max-le first second))

  try : (around : Around) → Gives (s.try source depth inner around) (Short (suc most))
  unfolding s.try
  try around = do
    whatever
    whatever
    (body, so) ← low_block around
    handled body around so or finished body around so

  parameter : Gives (s.parameter source depth inner) (λ p. of_optional p.1 ≤ most)
  unfolding s.parameter
  parameter = do
    x ← whatever
    (default, so) ← optional (whatever >> phrases depth expr)
    pure (omega (arith, low_optional (10 * depth) default so))

  definition : Gives (s.definition source depth inner) (λ d. (of_parameters d.parameters ≤ most) × (of_statements d.body ≤ most))
  unfolding s.definition
  definition = do
    whatever
    x ← whatever
    whatever
    (all, first) ← any_listed parameter
    whatever
    whatever
    whatever
    (body, second) ← low_block in_function
    whatever
    pure (low_parameters most all first, second)

  spelled_definition : Gives (l.spelled (s.definition source depth inner)) (λ f. (of_parameters f.0.parameters ≤ most) × (of_statements f.0.body ≤ most))
  spelled_definition = gives (λ ts us f h. given definition ts us f.0 h.0)

  define : (around : Around) → Gives (s.define source depth inner around) (Short (suc most))
  unfolding s.define
  define around = do
    whatever
    (found, so) ← spelled_definition
    pure (omega (arith, max-le so.0 so.1))

  compound : (around : Around) → Gives (s.compound source depth inner around) (Short (suc most))
  unfolding s.compound
  compound around = choice around or while around or for around or try around or define around

pub chunks : (source : Text) (depth : ℕ) (around : Around) → Gives (s.chunk source depth around) (Each (Short (suc (10 * depth))))
unfolding s.chunk
chunks source zero around = none
chunks source (suc depth) around = simples around (suc depth) or (do
  (found, so) ← compound source depth (λ around. so_too (chunks source depth around) (longer (suc (10 * depth)) (omega arith))) around
  pure (so, tt))

pub programs : (source : Text) → Gives (s.program source) (Each (Short (suc (10 * deepest))))
unfolding s.program
programs source = do
  (parts, so) ← many (chunks source deepest top)
  pure (in_parts (Short (suc (10 * deepest))) parts so)
