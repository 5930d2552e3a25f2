-- Each production of statements looks only at the kinds of the tokens that it takes, but for the code of a function, and keeps a reading under a deeper limit.
use Rattle.std.specs.Prelude.{◌≡◌, Bool, true, false, not, ◌≤◌, ℕ, zero, suc, List, [], ◌∷◌}
use Rattle.std.proofs.Common.{refl, arith}
use Rattle.kishu_language.specs.declared.token.Mark.{Mark}
use Rattle.kishu_language.specs.trees.Tree.{Text, Statement, Statements}
use Rattle.kishu_language.specs.grammar.Language.{Language}
use Rattle.kishu_language.specs.grammar.Grammar.{exprs, expr, deepest}
use Rattle.kishu_language.specs.grammar.Refusals.{Around, top, in_function, in_loop, in_handler}
use Rattle.kishu_language.specs.grammar.Statements as s
use Rattle.kishu_language_laws.specs.staying.Carries.{Likeness, same, Carries, pure, none, where_true, token, one_of, perhaps, ◌>>=◌, ◌>>◌, ◌or◌, many, many_from, some, optional, spelled, separated, any_listed}
use Rattle.kishu_language_laws.specs.staying.CarriesPhrases.{phrases, place, targets}

-- ---- simple statements

module _ {L : Likeness} (around : Around) (n k : ℕ) (under : n ≤ k) where
  pass : Carries L (s.pass around n) (s.pass around k)
  unfolding s.pass
  pass = token >> pure

  break : Carries L (s.break around n) (s.break around k)
  unfolding s.break
  break = do
    token
    where_true
    pure

  continue : Carries L (s.continue around n) (s.continue around k)
  unfolding s.continue
  continue = do
    token
    where_true
    pure

  return : Carries L (s.return around n) (s.return around k)
  unfolding s.return
  return = do
    token
    where_true
    value ← optional (phrases n k under exprs)
    pure

  raise_again : Carries L (s.raise_again around n) (s.raise_again around k)
  unfolding s.raise_again
  raise_again = do
    token
    where_true
    pure

  raise : Carries L (s.raise around n) (s.raise around k)
  unfolding s.raise
  raise = do
    token
    value ← phrases n k under expr
    pure

  assertion : Carries L (s.assertion around n) (s.assertion around k)
  unfolding s.assertion
  assertion = do
    token
    test ← phrases n k under expr
    message ← optional (token >> phrases n k under expr)
    pure

  delete : Carries L (s.delete around n) (s.delete around k)
  unfolding s.delete
  delete = do
    token
    places ← separated (place n k under)
    pure

  global : Carries L (s.global around n) (s.global around k)
  unfolding s.global
  global = do
    token
    where_true
    names ← separated token
    pure

  import : Carries L (s.import around n) (s.import around k)
  unfolding s.import
  import = do
    token
    token
    token
    token
    found ← optional (token >> token)
    pure

  update : Carries L (s.update around n) (s.update around k)
  unfolding s.update
  update = do
    at ← place n k under
    operator ← one_of
    value ← phrases n k under exprs
    pure

  assignment : Carries L (s.assignment around n) (s.assignment around k)
  unfolding s.assignment
  assignment = do
    all ← many (do
      found ← targets n k under
      token
      pure)
    value ← phrases n k under exprs
    pure

  pub simple : Carries L (s.simple around n) (s.simple around k)
  unfolding s.simple
  simple = pass or break or continue or return or raise_again or raise or assertion or delete or global or import or update or assignment

  pub simples : Carries L (s.simples around n) (s.simples around k)
  unfolding s.simples
  simples = do
    all ← separated simple
    perhaps
    token
    pure

line : {L : Likeness} (around : Around) (n k : ℕ) → n ≤ k → Carries L (s.line around n) (s.line around k)
unfolding s.line
line around zero k under = none
line around (suc n) zero under = absurd (omega (arith, under))
line around (suc n) (suc k) under = simples around (suc n) (suc k) under

-- ---- compound statements

-- where statements may stand
pub record Arounds : Type 1 where
  pub Fine : Around → Type 0
  pub function : Fine in_function
  pub loop : (around : Around) → Fine around → Fine (in_loop around)
  pub handler : (around : Around) → Fine around → Fine (in_handler around)

abbrev pub everywhere : Arounds
everywhere = record { Fine = λ around. Unit {0}; function = tt; loop = λ around fine. tt; handler = λ around fine. tt }

abbrev pub in_functions : Arounds
in_functions = record { Fine = λ around. around.function ≡ true; function = refl; loop = λ around fine. fine; handler = λ around fine. fine }

-- what may stand in a block
abbrev pub Blocks : Likeness → Arounds → (Around → Language (List Statement)) → (Around → Language (List Statement)) → Type 0
Blocks L P inner inner' = (around : Around) → P.Fine around → Carries L (inner around) (inner' around)

module _ {L : Likeness} (P : Arounds) (source source' : Text) (n k : ℕ) (under : n ≤ k) {inner inner' : Around → Language (List Statement)} (deeper : Blocks L P inner inner') where
  above : suc n ≤ suc k
  above = omega (arith, under)

  block : (around : Around) → P.Fine around → Carries L (s.block source n inner around) (s.block source' k inner' around)
  unfolding s.block
  block around fine = (do
    all ← line around n k under
    pure) or (do
      token
      token
      parts ← some (deeper around fine)
      token
      pure)

  block_after : (before : Mark) (around : Around) → P.Fine around → Carries L (s.block_after source n inner before around) (s.block_after source' k inner' before around)
  unfolding s.block_after
  block_after before around fine = pure or (do
    token
    token
    block around fine)

  arm : (around : Around) → P.Fine around → Carries L (s.arm source n inner around) (s.arm source' k inner' around)
  unfolding s.arm
  arm around fine = do
    test ← phrases (suc n) (suc k) above expr
    token
    body ← block around fine
    pure

  choice : (around : Around) → P.Fine around → Carries L (s.choice source n inner around) (s.choice source' k inner' around)
  unfolding s.choice
  choice around fine = do
    token
    first ← arm around fine
    all ← many_from (token >> arm around fine) (first ∷ [])
    other ← block_after _ around fine
    pure

  while : (around : Around) → P.Fine around → Carries L (s.while source n inner around) (s.while source' k inner' around)
  unfolding s.while
  while around fine = do
    token
    found ← arm (in_loop around) (P.loop around fine)
    pure

  for : (around : Around) → P.Fine around → Carries L (s.for source n inner around) (s.for source' k inner' around)
  unfolding s.for
  for around fine = do
    token
    found ← targets (suc n) (suc k) above
    token
    walked ← phrases (suc n) (suc k) above exprs
    token
    body ← block (in_loop around) (P.loop around fine)
    pure

  pub caught : Carries L (s.caught source n inner) (s.caught source' k inner')
  unfolding s.caught
  caught = do
    class ← phrases (suc n) (suc k) above expr
    found ← optional (token >> token)
    pure

  handler : (around : Around) → P.Fine around → Carries L (s.handler source n inner around) (s.handler source' k inner' around)
  unfolding s.handler
  handler around fine = do
    token
    found ← optional caught
    token
    body ← block (in_handler around) (P.handler around fine)
    pure

  handled : (body : Statements) (around : Around) → P.Fine around → Carries L (s.handled source n inner body around) (s.handled source' k inner' body around)
  unfolding s.handled
  handled body around fine = do
    found ← some (handler around fine)
    where_true
    other ← block_after _ around fine
    last ← block_after _ around fine
    pure

  finished : (body : Statements) (around : Around) → P.Fine around → Carries L (s.finished source n inner body around) (s.finished source' k inner' body around)
  unfolding s.finished
  finished body around fine = do
    token
    token
    last ← block around fine
    pure

  try : (around : Around) → P.Fine around → Carries L (s.try source n inner around) (s.try source' k inner' around)
  unfolding s.try
  try around fine = do
    token
    token
    body ← block around fine
    handled body around fine or finished body around fine

  pub parameter : Carries L (s.parameter source n inner) (s.parameter source' k inner')
  unfolding s.parameter
  parameter = do
    x ← token
    default ← optional (token >> phrases n k under expr)
    pure

  pub definition : Carries L (s.definition source n inner) (s.definition source' k inner')
  unfolding s.definition
  definition = do
    token
    x ← token
    token
    all ← any_listed parameter
    token
    where_true
    token
    body ← block in_function P.function
    where_true
    pure

  compound : (around : Around) → P.Fine around → Carries L (s.define source n inner around) (s.define source' k inner' around) → Carries L (s.compound source n inner around) (s.compound source' k inner' around)
  unfolding s.compound
  compound around fine define = choice around fine or while around fine or for around fine or try around fine or define

-- ---- the whole

-- given it of functions
abbrev Defines : Likeness → Arounds → Text → Text → Type 1
Defines L P source source' = (n k : ℕ) (under : n ≤ k) (inner inner' : Around → Language (List Statement)) → Blocks L P inner inner'
    → (around : Around) → P.Fine around → Carries L (s.define source n inner around) (s.define source' k inner' around)

chunks_by : {L : Likeness} (P : Arounds) (source source' : Text) → Defines L P source source' → (n k : ℕ) → n ≤ k → Blocks L P (s.chunk source n) (s.chunk source' k)
unfolding s.chunk
chunks_by P source source' defines zero k under around fine = none
chunks_by P source source' defines (suc n) zero under around fine = absurd (omega (arith, under))
chunks_by P source source' defines (suc n) (suc k) under around fine =
    let below : n ≤ k = omega (arith, under) in
    let deeper = chunks_by P source source' defines n k below in
    simples around (suc n) (suc k) under or (do
      found ← compound P source source' n k below deeper around fine (defines n k below (s.chunk source n) (s.chunk source' k) deeper around fine)
      pure)

-- The tokens of a function are part of what is spelled, so they stay the same.
define : (source : Text) → Defines same everywhere source source
unfolding s.define
define source n k under inner inner' deeper around fine = do
  where_true
  found ← spelled (definition everywhere source source n k under deeper)
  pure

pub chunks : (source : Text) (n k : ℕ) → n ≤ k → (around : Around) → Carries same (s.chunk source n around) (s.chunk source k around)
chunks source n k under around = chunks_by everywhere source source (define source) n k under around tt

pub defines : (source : Text) (n k : ℕ) → n ≤ k → (around : Around) → Carries same (s.define source n (s.chunk source n) around) (s.define source k (s.chunk source k) around)
defines source n k under around = define source n k under (s.chunk source n) (s.chunk source k) (λ around fine. chunks source n k under around) around tt

pub programs : (source : Text) → Carries same (s.program source) (s.program source)
unfolding s.program
programs source = do
  parts ← many (chunks source deepest deepest (omega arith) top)
  pure

-- ---- in a function

outside : (b : Bool) → b ≡ true → not b ≡ true → ⊥
outside true h k = cc
outside false h k = cc

-- In a function stands no other.
none_inside : (L : Likeness) (source source' : Text) → Defines L in_functions source source'
unfolding s.define
none_inside L source source' n k under inner inner' deeper around fine = record { taken = λ ts us a h. absurd (outside around.function fine h.2.1) }

-- Its kinds of tokens are all that counts.
pub definitions : (L : Likeness) (source source' : Text) (n k : ℕ) → n ≤ k → Carries L (s.definition source n (s.chunk source n)) (s.definition source' k (s.chunk source' k))
definitions L source source' n k under = definition in_functions source source' n k under (chunks_by in_functions source source' (none_inside L source source') n k under)
