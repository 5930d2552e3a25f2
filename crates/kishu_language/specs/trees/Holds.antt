-- What holds of each part of a tree: its names are names, no keyword stands twice in a call, and so on down; of its numbers and texts, its targets and places, and the codes of its functions what is asked of them.
use Rattle.std.specs.Prelude.{ℤ, Bool, IsTrue, List, [], ◌∷◌, Option, Some, None}
use Rattle.std.specs.List.{list_all}
use Rattle.kishu_language.specs.tokens.Names.{is_name}
use Rattle.kishu_language.specs.grammar.Refusals.{all_differ}
use Rattle.kishu_language.specs.trees.Tree.{Text, Expression, Expressions, Operands, Links, Pairs, Trailers, Trailer, Bound, Arguments, Argument, Parameter, Statement, Statements, Arms, Handlers, Definition}
use Rattle.kishu_language.specs.trees.Tree as t

abbrev pub keywords : Arguments → List Text
keywords t.no_arguments = []
keywords (t.more_arguments (t.plain e) found) = keywords found
keywords (t.more_arguments (t.keyword x e) found) = x ∷ keywords found

abbrev pub TitleFits : Option Text → Type 0
TitleFits None = Unit {0}
TitleFits (Some x) = IsTrue (is_name x)

-- ---- what asks nothing

abbrev pub any : {A : Type 0} → A → Type 0
any a = Unit {0}

abbrev pub any_code : Text → Definition → Type 0
any_code code d = Unit {0}

-- ---- what holds of the parts

abbrev pub EachHolds : (Expression → Type 0) → List Expression → Type 0
EachHolds P [] = Unit {0}
EachHolds P (e ∷ es) = P e × EachHolds P es

-- what is asked of numbers and of texts
module _ (number : ℤ → Type 0) (text : Text → Type 0) where
  abbrev mutual
    pub ExpressionHolds : Expression → Type 0
    ExpressionHolds (t.name x) = IsTrue (is_name x)
    ExpressionHolds (t.integer z) = number z
    ExpressionHolds (t.text x) = text x
    ExpressionHolds t.none = Unit {0}
    ExpressionHolds t.true = Unit {0}
    ExpressionHolds t.false = Unit {0}
    ExpressionHolds (t.tuple es) = ExpressionsHold es
    ExpressionHolds (t.conditional e test other) = ExpressionHolds e × ExpressionHolds test × ExpressionHolds other
    ExpressionHolds (t.or es) = ExpressionsHold es
    ExpressionHolds (t.and es) = ExpressionsHold es
    ExpressionHolds (t.not e) = ExpressionHolds e
    ExpressionHolds (t.compared e ls) = ExpressionHolds e × LinksHold ls
    ExpressionHolds (t.sum e os) = ExpressionHolds e × OperandsHold os
    ExpressionHolds (t.product e os) = ExpressionHolds e × OperandsHold os
    ExpressionHolds (t.signed sign e) = ExpressionHolds e
    ExpressionHolds (t.power base exponent) = ExpressionHolds base × ExpressionHolds exponent
    ExpressionHolds (t.primary e ts) = ExpressionHolds e × TrailersHold ts
    ExpressionHolds (t.paren e) = ExpressionHolds e
    ExpressionHolds (t.list es) = ExpressionsHold es
    ExpressionHolds (t.dict ps) = PairsHold ps

    pub ExpressionsHold : Expressions → Type 0
    ExpressionsHold t.no_expressions = Unit {0}
    ExpressionsHold (t.more_expressions e es) = ExpressionHolds e × ExpressionsHold es

    pub OperandsHold : Operands → Type 0
    OperandsHold t.no_operands = Unit {0}
    OperandsHold (t.more_operands operator e os) = ExpressionHolds e × OperandsHold os

    pub LinksHold : Links → Type 0
    LinksHold t.no_links = Unit {0}
    LinksHold (t.more_links comparison e ls) = ExpressionHolds e × LinksHold ls

    pub PairsHold : Pairs → Type 0
    PairsHold t.no_pairs = Unit {0}
    PairsHold (t.more_pairs key e ps) = ExpressionHolds key × ExpressionHolds e × PairsHold ps

    pub TrailersHold : Trailers → Type 0
    TrailersHold t.no_trailers = Unit {0}
    TrailersHold (t.more_trailers first ts) = TrailerHolds first × TrailersHold ts

    pub TrailerHolds : Trailer → Type 0
    TrailerHolds (t.attribute x) = IsTrue (is_name x)
    TrailerHolds (t.call found) = ArgumentsHold found × IsTrue (all_differ (keywords found))
    TrailerHolds (t.index e) = ExpressionHolds e
    TrailerHolds (t.slice start stop step) = BoundHolds start × BoundHolds stop × BoundHolds step

    pub BoundHolds : Bound → Type 0
    BoundHolds t.absent = Unit {0}
    BoundHolds (t.bound e) = ExpressionHolds e

    pub ArgumentsHold : Arguments → Type 0
    ArgumentsHold t.no_arguments = Unit {0}
    ArgumentsHold (t.more_arguments first found) = ArgumentHolds first × ArgumentsHold found

    pub ArgumentHolds : Argument → Type 0
    ArgumentHolds (t.plain e) = ExpressionHolds e
    ArgumentHolds (t.keyword x e) = IsTrue (is_name x) × ExpressionHolds e

  abbrev pub OptionalHolds : Option Expression → Type 0
  OptionalHolds None = Unit {0}
  OptionalHolds (Some e) = ExpressionHolds e

  abbrev pub ListHolds : List Expression → Type 0
  ListHolds es = EachHolds ExpressionHolds es

  abbrev pub ParametersHold : List Parameter → Type 0
  ParametersHold [] = Unit {0}
  ParametersHold (p ∷ ps) = IsTrue (is_name p.0) × OptionalHolds p.1 × ParametersHold ps

  -- what is asked of targets, of the places of `del` and of an operator with `=`, and of the code of a function
  module _ (target : Expression → Bool) (place : Expression → Type 0) (coded : Text → Definition → Type 0) where
    abbrev mutual
      pub StatementHolds : Statement → Type 0
      StatementHolds t.pass = Unit {0}
      StatementHolds t.break = Unit {0}
      StatementHolds t.continue = Unit {0}
      StatementHolds (t.return e) = OptionalHolds e
      StatementHolds (t.raise e) = OptionalHolds e
      StatementHolds (t.assert e message) = ExpressionHolds e × OptionalHolds message
      StatementHolds (t.delete es) = EachHolds place es
      StatementHolds (t.global xs) = Unit {0}
      StatementHolds (t.import x) = TitleFits x
      StatementHolds (t.update e operator operand) = place e × ExpressionHolds operand
      StatementHolds (t.assign es e) = ListHolds es × ExpressionHolds e × IsTrue (list_all target es)
      StatementHolds (t.choose arms other) = ArmsHold arms × StatementsHold other
      StatementHolds (t.while e body) = ExpressionHolds e × StatementsHold body
      StatementHolds (t.for e walked body) = ExpressionHolds e × ExpressionHolds walked × StatementsHold body × IsTrue (target e)
      StatementHolds (t.try body hs other last) = StatementsHold body × HandlersHold hs × StatementsHold other × StatementsHold last
      StatementHolds (t.finally body last) = StatementsHold body × StatementsHold last
      StatementHolds (t.define x ps body code) = IsTrue (is_name x) × ParametersHold ps × StatementsHold body × coded code (record { title = x; parameters = ps; body = body })

      pub StatementsHold : Statements → Type 0
      StatementsHold t.no_statements = Unit {0}
      StatementsHold (t.more_statements first ss) = StatementHolds first × StatementsHold ss

      pub ArmsHold : Arms → Type 0
      ArmsHold t.no_arms = Unit {0}
      ArmsHold (t.more_arms e body as') = ExpressionHolds e × StatementsHold body × ArmsHold as'

      pub HandlersHold : Handlers → Type 0
      HandlersHold t.no_handlers = Unit {0}
      HandlersHold (t.more_handlers class caught body hs) = OptionalHolds class × TitleFits caught × StatementsHold body × HandlersHold hs
