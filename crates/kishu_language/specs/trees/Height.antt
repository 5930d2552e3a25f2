-- How high a tree is: each expression and each statement is one more than the highest of its parts, and lists count no level.
use Rattle.std.specs.Prelude.{ℕ, suc, max, List, [], ◌∷◌, Option, Some, None}
use Rattle.kishu_language.specs.trees.Tree.{Expression, Expressions, Operands, Links, Pairs, Trailers, Trailer, Bound, Arguments, Argument, Parameter, Statement, Statements, Arms, Handlers, expressions}
use Rattle.kishu_language.specs.trees.Tree as t

abbrev mutual
  pub of_expression : Expression → ℕ
  of_expression (t.name x) = 1
  of_expression (t.integer z) = 1
  of_expression (t.text x) = 1
  of_expression t.none = 1
  of_expression t.true = 1
  of_expression t.false = 1
  of_expression (t.tuple es) = suc (of_expressions es)
  of_expression (t.conditional e test other) = suc (max (of_expression e) (max (of_expression test) (of_expression other)))
  of_expression (t.or es) = suc (of_expressions es)
  of_expression (t.and es) = suc (of_expressions es)
  of_expression (t.not e) = suc (of_expression e)
  of_expression (t.compared e ls) = suc (max (of_expression e) (of_links ls))
  of_expression (t.sum e os) = suc (max (of_expression e) (of_operands os))
  of_expression (t.product e os) = suc (max (of_expression e) (of_operands os))
  of_expression (t.signed sign e) = suc (of_expression e)
  of_expression (t.power base exponent) = suc (max (of_expression base) (of_expression exponent))
  of_expression (t.primary e ts) = suc (max (of_expression e) (of_trailers ts))
  of_expression (t.paren e) = suc (of_expression e)
  of_expression (t.list es) = suc (of_expressions es)
  of_expression (t.dict ps) = suc (of_pairs ps)

  pub of_expressions : Expressions → ℕ
  of_expressions t.no_expressions = 0
  of_expressions (t.more_expressions e es) = max (of_expression e) (of_expressions es)

  pub of_operands : Operands → ℕ
  of_operands t.no_operands = 0
  of_operands (t.more_operands operator e os) = max (of_expression e) (of_operands os)

  pub of_links : Links → ℕ
  of_links t.no_links = 0
  of_links (t.more_links comparison e ls) = max (of_expression e) (of_links ls)

  pub of_pairs : Pairs → ℕ
  of_pairs t.no_pairs = 0
  of_pairs (t.more_pairs key e ps) = max (of_expression key) (max (of_expression e) (of_pairs ps))

  pub of_trailers : Trailers → ℕ
  of_trailers t.no_trailers = 0
  of_trailers (t.more_trailers first ts) = max (of_trailer first) (of_trailers ts)

  pub of_trailer : Trailer → ℕ
  of_trailer (t.attribute x) = 0
  of_trailer (t.call found) = of_arguments found
  of_trailer (t.index e) = of_expression e
  of_trailer (t.slice start stop step) = max (of_bound start) (max (of_bound stop) (of_bound step))

  pub of_bound : Bound → ℕ
  of_bound t.absent = 0
  of_bound (t.bound e) = of_expression e

  pub of_arguments : Arguments → ℕ
  of_arguments t.no_arguments = 0
  of_arguments (t.more_arguments first found) = max (of_argument first) (of_arguments found)

  pub of_argument : Argument → ℕ
  of_argument (t.plain e) = of_expression e
  of_argument (t.keyword x e) = of_expression e

abbrev pub of_optional : Option Expression → ℕ
of_optional None = 0
of_optional (Some e) = of_expression e

abbrev pub of_list : List Expression → ℕ
of_list es = of_expressions (expressions es)

abbrev pub of_parameters : List Parameter → ℕ
of_parameters [] = 0
of_parameters (p ∷ ps) = max (of_optional p.1) (of_parameters ps)

abbrev mutual
  pub of_statement : Statement → ℕ
  of_statement t.pass = 1
  of_statement t.break = 1
  of_statement t.continue = 1
  of_statement (t.return e) = suc (of_optional e)
  of_statement (t.raise e) = suc (of_optional e)
  of_statement (t.assert e message) = suc (max (of_expression e) (of_optional message))
  of_statement (t.delete es) = suc (of_list es)
  of_statement (t.global xs) = 1
  of_statement (t.import x) = 1
  of_statement (t.update e operator value) = suc (max (of_expression e) (of_expression value))
  of_statement (t.assign es e) = suc (max (of_list es) (of_expression e))
  of_statement (t.choose arms other) = suc (max (of_arms arms) (of_statements other))
  of_statement (t.while e body) = suc (max (of_expression e) (of_statements body))
  of_statement (t.for e walked body) = suc (max (of_expression e) (max (of_expression walked) (of_statements body)))
  of_statement (t.try body hs other last) = suc (max (of_statements body) (max (of_handlers hs) (max (of_statements other) (of_statements last))))
  of_statement (t.finally body last) = suc (max (of_statements body) (of_statements last))
  of_statement (t.define x ps body code) = suc (max (of_parameters ps) (of_statements body))

  pub of_statements : Statements → ℕ
  of_statements t.no_statements = 0
  of_statements (t.more_statements first ss) = max (of_statement first) (of_statements ss)

  pub of_arms : Arms → ℕ
  of_arms t.no_arms = 0
  of_arms (t.more_arms e body as') = max (of_expression e) (max (of_statements body) (of_arms as'))

  pub of_handlers : Handlers → ℕ
  of_handlers t.no_handlers = 0
  of_handlers (t.more_handlers class caught body hs) = max (of_optional class) (max (of_statements body) (of_handlers hs))
