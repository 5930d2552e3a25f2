-- When a tree may run: its names are names, its targets are targets, no keyword stands twice in a call, and the code of each function in it reads as that function. The tree of a text is so.
use Rattle.kishu_language.specs.Limits.{height_limit, longest_text}
use Rattle.std.specs.Prelude.{◌<◌, ◌≤◌, IsTrue, List, length, Option}
use Rattle.kishu_language.specs.declared.profile.Profile.{Profile}
use Rattle.kishu_language.specs.tokens.Names.{is_name}
use Rattle.kishu_language.specs.grammar.Targets.{is_target}
use Rattle.kishu_language.specs.trees.Height.{of_statements}
use Rattle.kishu_language.specs.reading.ReadText.{ReadsDef}
use Rattle.kishu_language.specs.trees.Tree.{Text, Expression, Expressions, Operands, Links, Pairs, Trailers, Trailer, Bound, Arguments, Argument, Parameter, Statement, Statements, Arms, Handlers, Definition}
pub use Rattle.kishu_language.specs.trees.Holds.{keywords, TitleFits}
use Rattle.kishu_language.specs.trees.Holds.{any, ExpressionHolds, ExpressionsHold, OperandsHold, LinksHold, PairsHold, TrailersHold, TrailerHolds, BoundHolds, ArgumentsHold, ArgumentHolds, OptionalHolds, ListHolds, ParametersHold, StatementHolds, StatementsHold, ArmsHold, HandlersHold}

abbrev pub ExpressionFits : Expression → Type 0
ExpressionFits = ExpressionHolds any any

abbrev pub ExpressionsFit : Expressions → Type 0
ExpressionsFit = ExpressionsHold any any

abbrev pub OperandsFit : Operands → Type 0
OperandsFit = OperandsHold any any

abbrev pub LinksFit : Links → Type 0
LinksFit = LinksHold any any

abbrev pub PairsFit : Pairs → Type 0
PairsFit = PairsHold any any

abbrev pub TrailersFit : Trailers → Type 0
TrailersFit = TrailersHold any any

abbrev pub TrailerFits : Trailer → Type 0
TrailerFits = TrailerHolds any any

abbrev pub BoundFits : Bound → Type 0
BoundFits = BoundHolds any any

abbrev pub ArgumentsFit : Arguments → Type 0
ArgumentsFit = ArgumentsHold any any

abbrev pub ArgumentFits : Argument → Type 0
ArgumentFits = ArgumentHolds any any

abbrev pub OptionalFits : Option Expression → Type 0
OptionalFits = OptionalHolds any any

abbrev pub ListFits : List Expression → Type 0
ListFits = ListHolds any any

abbrev pub ParametersFit : List Parameter → Type 0
ParametersFit = ParametersHold any any

-- The code of a function is short and reads as that function.
abbrev pub CodeFits : Text → Definition → Type 0
CodeFits code d = (length code ≤ longest_text) × ((profile : Profile) → ∥ ReadsDef profile code d ∥₁)

abbrev pub StatementFits : Statement → Type 0
StatementFits = StatementHolds any any is_target ExpressionFits CodeFits

abbrev pub StatementsFit : Statements → Type 0
StatementsFit = StatementsHold any any is_target ExpressionFits CodeFits

abbrev pub ArmsFit : Arms → Type 0
ArmsFit = ArmsHold any any is_target ExpressionFits CodeFits

abbrev pub HandlersFit : Handlers → Type 0
HandlersFit = HandlersHold any any is_target ExpressionFits CodeFits

-- a function by itself: its parameters and its body
abbrev pub FunctionFits : Definition → Type 0
FunctionFits d = ParametersFit d.parameters × StatementsFit d.body

-- The code of a function: it reads as that function, which has a name, fits and is low.
pub record IsCodeOf (profile : Profile) (code : Text) (d : Definition) : Type 0 where
  pub reads : ReadsDef profile code d
  pub name : IsTrue (is_name d.title)
  pub fits : FunctionFits d
  pub low : of_statements d.body < height_limit
