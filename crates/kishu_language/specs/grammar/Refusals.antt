-- What the grammar would let through and is refused (Python Language Reference 3, "Simple statements", "Compound statements" and "Calls").
use Rattle.std.specs.Prelude.{Bool, true, false, not, ◌&&◌, List, [], ◌∷◌, ◌++◌, map, Option, Some, None, is_none}
use Rattle.std.specs.List.{flat_map}
use Rattle.kishu_language.specs.tokens.Names.{is_among}
use Rattle.kishu_language.specs.trees.Tree.{Text, Expression, Expressions, Operands, Links, Pairs, Trailers, Trailer, Bound, Arguments, Argument, Parameter, Statement, Statements, Arms, Handlers, Handler}
use Rattle.kishu_language.specs.trees.Tree as t

-- ---- where a statement stands

pub record Around : Type 0 where
  -- in a function's body
  pub function : Bool
  -- in a loop of the same function
  pub loop : Bool
  -- in a handler's block of the same function
  pub handler : Bool

abbrev pub top : Around
top = record { function = false; loop = false; handler = false }

abbrev pub in_function : Around
in_function = record { function = true; loop = false; handler = false }

abbrev pub in_loop : Around → Around
in_loop a = record a { loop = true }

abbrev pub in_handler : Around → Around
in_handler a = record a { handler = true }

-- ---- parameters and handlers

-- none twice
abbrev pub all_differ : List Text → Bool
all_differ [] = true
all_differ (x ∷ xs) = not (is_among x xs) && all_differ xs

-- no parameter without a default after one with a default
abbrev pub defaults_last : List Parameter → Bool
defaults_last [] = true
defaults_last ((x, None) ∷ ps) = defaults_last ps
defaults_last ((x, Some e) ∷ []) = true
defaults_last ((x, Some e) ∷ (y, None) ∷ ps) = false
defaults_last ((x, Some e) ∷ (y, Some f) ∷ ps) = defaults_last ((y, Some f) ∷ ps)

abbrev pub titles : List Parameter → List Text
titles ps = map (λ p. p.0) ps

-- no handler without a class but the last
abbrev pub handlers_fit : List Handler → Bool
handlers_fit [] = true
handlers_fit (h ∷ []) = true
handlers_fit (h ∷ k ∷ hs) = not (is_none h.class) && handlers_fit (k ∷ hs)

-- ---- names of a body

-- a name as it stands in a body: as a variable, or in a global statement
pub data Mention : Type 0 where
  variable : Text → Mention
  declared : Text → Mention

abbrev pub variables : Option Text → List Mention
variables None = []
variables (Some x) = variable x ∷ []

abbrev mutual
  -- the variables of an expression
  pub in_expression : Expression → List Mention
  in_expression (t.name x) = variable x ∷ []
  in_expression (t.integer z) = []
  in_expression (t.text x) = []
  in_expression t.none = []
  in_expression t.true = []
  in_expression t.false = []
  in_expression (t.tuple es) = in_expressions es
  in_expression (t.conditional e test other) = in_expression e ++ in_expression test ++ in_expression other
  in_expression (t.or es) = in_expressions es
  in_expression (t.and es) = in_expressions es
  in_expression (t.not e) = in_expression e
  in_expression (t.compared e ls) = in_expression e ++ in_links ls
  in_expression (t.sum e os) = in_expression e ++ in_operands os
  in_expression (t.product e os) = in_expression e ++ in_operands os
  in_expression (t.signed sign e) = in_expression e
  in_expression (t.power base exponent) = in_expression base ++ in_expression exponent
  in_expression (t.primary e ts) = in_expression e ++ in_trailers ts
  in_expression (t.paren e) = in_expression e
  in_expression (t.list es) = in_expressions es
  in_expression (t.dict ps) = in_pairs ps

  pub in_expressions : Expressions → List Mention
  in_expressions t.no_expressions = []
  in_expressions (t.more_expressions e es) = in_expression e ++ in_expressions es

  pub in_operands : Operands → List Mention
  in_operands t.no_operands = []
  in_operands (t.more_operands operator e os) = in_expression e ++ in_operands os

  pub in_links : Links → List Mention
  in_links t.no_links = []
  in_links (t.more_links comparison e ls) = in_expression e ++ in_links ls

  pub in_pairs : Pairs → List Mention
  in_pairs t.no_pairs = []
  in_pairs (t.more_pairs key e ps) = in_expression key ++ in_expression e ++ in_pairs ps

  pub in_trailers : Trailers → List Mention
  in_trailers t.no_trailers = []
  in_trailers (t.more_trailers first ts) = in_trailer first ++ in_trailers ts

  pub in_trailer : Trailer → List Mention
  in_trailer (t.attribute x) = []
  in_trailer (t.call found) = in_arguments found
  in_trailer (t.index e) = in_expression e
  in_trailer (t.slice start stop step) = in_bound start ++ in_bound stop ++ in_bound step

  pub in_bound : Bound → List Mention
  in_bound t.absent = []
  in_bound (t.bound e) = in_expression e

  pub in_arguments : Arguments → List Mention
  in_arguments t.no_arguments = []
  in_arguments (t.more_arguments first found) = in_argument first ++ in_arguments found

  pub in_argument : Argument → List Mention
  in_argument (t.plain e) = in_expression e
  in_argument (t.keyword x e) = in_expression e

abbrev pub in_optional : Option Expression → List Mention
in_optional None = []
in_optional (Some e) = in_expression e

abbrev pub in_parameter : Parameter → List Mention
in_parameter p = in_optional p.1

-- An import without a name binds the class under its own.
abbrev pub in_import : Option Text → List Mention
in_import None = variable t.simple_namespace ∷ []
in_import (Some x) = variable x ∷ []

abbrev mutual
  -- the names of a statement, in the order of the text
  pub in_statement : Statement → List Mention
  in_statement t.pass = []
  in_statement t.break = []
  in_statement t.continue = []
  in_statement (t.return e) = in_optional e
  in_statement (t.raise e) = in_optional e
  in_statement (t.assert e message) = in_expression e ++ in_optional message
  in_statement (t.delete es) = flat_map in_expression es
  in_statement (t.global xs) = map declared xs
  in_statement (t.import x) = in_import x
  in_statement (t.update e operator value) = in_expression e ++ in_expression value
  in_statement (t.assign es e) = flat_map in_expression es ++ in_expression e
  in_statement (t.choose arms other) = in_arms arms ++ in_statements other
  in_statement (t.while e body) = in_expression e ++ in_statements body
  in_statement (t.for e walked body) = in_expression e ++ in_expression walked ++ in_statements body
  in_statement (t.try body hs other last) = in_statements body ++ in_handlers hs ++ in_statements other ++ in_statements last
  in_statement (t.finally body last) = in_statements body ++ in_statements last
  in_statement (t.define x ps body code) = variable x ∷ flat_map in_parameter ps

  pub in_statements : Statements → List Mention
  in_statements t.no_statements = []
  in_statements (t.more_statements first ss) = in_statement first ++ in_statements ss

  pub in_arms : Arms → List Mention
  in_arms t.no_arms = []
  in_arms (t.more_arms e body as') = in_expression e ++ in_statements body ++ in_arms as'

  pub in_handlers : Handlers → List Mention
  in_handlers t.no_handlers = []
  in_handlers (t.more_handlers class caught body hs) = in_optional class ++ variables caught ++ in_statements body ++ in_handlers hs

-- No global name stood before as a variable. The first are the variables so far.
abbrev pub globals_fit_after : List Text → List Mention → Bool
globals_fit_after seen [] = true
globals_fit_after seen (variable x ∷ ms) = globals_fit_after (x ∷ seen) ms
globals_fit_after seen (declared x ∷ ms) = not (is_among x seen) && globals_fit_after seen ms

-- A global name is no parameter either.
abbrev pub globals_fit : List Parameter → Statements → Bool
globals_fit ps body = globals_fit_after (titles ps) (in_statements body)

abbrev pub parameters_fit : List Parameter → Bool
parameters_fit ps = all_differ (titles ps) && defaults_last ps
