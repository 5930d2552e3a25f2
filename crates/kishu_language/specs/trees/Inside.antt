-- Which function definitions a tree holds, at any place in it, and when tokens of their own spell them.
use Rattle.std.specs.Prelude.{◌≡◌, ◌⊎◌, ℕ, List, [], ◌++◌}
use Rattle.kishu_language.specs.tokens.Layout.{Token}
use Rattle.kishu_language.specs.trees.Tree.{Text, Statement, Statements, Arms, Handlers, Definition}
use Rattle.kishu_language.specs.trees.Tree as t
use Rattle.kishu_language.specs.trees.Code.{code_of}
use Rattle.kishu_language.specs.grammar.Statements.{definition, chunk}

abbrev mutual
  -- The first is a definition that the second is or holds.
  pub InStatement : Statement → Statement → Type 0
  InStatement d t.pass = ⊥
  InStatement d t.break = ⊥
  InStatement d t.continue = ⊥
  InStatement d (t.return e) = ⊥
  InStatement d (t.raise e) = ⊥
  InStatement d (t.assert e message) = ⊥
  InStatement d (t.delete es) = ⊥
  InStatement d (t.global xs) = ⊥
  InStatement d (t.import x) = ⊥
  InStatement d (t.update e operator value) = ⊥
  InStatement d (t.assign es e) = ⊥
  InStatement d (t.choose arms other) = InArms d arms ⊎ InStatements d other
  InStatement d (t.while e body) = InStatements d body
  InStatement d (t.for e walked body) = InStatements d body
  InStatement d (t.try body hs other last) = InStatements d body ⊎ InHandlers d hs ⊎ InStatements d other ⊎ InStatements d last
  InStatement d (t.finally body last) = InStatements d body ⊎ InStatements d last
  InStatement d (t.define x ps body code) = (d ≡ t.define x ps body code) ⊎ InStatements d body

  pub InStatements : Statement → Statements → Type 0
  InStatements d t.no_statements = ⊥
  InStatements d (t.more_statements first ss) = InStatement d first ⊎ InStatements d ss

  pub InArms : Statement → Arms → Type 0
  InArms d t.no_arms = ⊥
  InArms d (t.more_arms e body as') = InStatements d body ⊎ InArms d as'

  pub InHandlers : Statement → Handlers → Type 0
  InHandlers d t.no_handlers = ⊥
  InHandlers d (t.more_handlers class caught body hs) = InStatements d body ⊎ InHandlers d hs

-- Some of these tokens, one after another, spell a function by themselves. The statement is that function with the code that they have. Its body has so many nestings.
pub record Apart (k : ℕ) (source : Text) (all : List Token) (d : Statement) : Type 0 where
  pub before : List Token
  pub own : List Token
  pub after : List Token
  pub function : Definition
  pub whole : all ≡ before ++ own ++ after
  pub spelled : definition source k (chunk source k) own [] function
  pub cut : d ≡ t.define function.title function.parameters function.body (code_of source own)
