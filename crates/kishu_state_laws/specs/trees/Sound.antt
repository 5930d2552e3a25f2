-- What holds of each part of a text's tree: its names are names, its whole numbers are in range, its texts are of Unicode scalar values, the keywords of a call differ, and the code of each function reads as it.
use Rattle.std.specs.Prelude.{ℤ, Bool, true, IsTrue, List, Option}
use Rattle.std.specs.Str.{chars, all_scalars}
use Rattle.kishu_language.specs.declared.profile.Profile.{Profile}
use Rattle.kishu_language.specs.trees.Tree.{Text, Expression, Expressions, Operands, Links, Pairs, Trailers, Trailer, Bound, Arguments, Parameter, Statement, Statements, Arms, Handlers, Definition}
use Rattle.kishu_language.specs.trees.Holds.{TitleFits, ExpressionHolds, ExpressionsHold, OperandsHold, LinksHold, PairsHold, TrailersHold, TrailerHolds, BoundHolds, ArgumentsHold, OptionalHolds, ListHolds, ParametersHold, StatementHolds, StatementsHold, ArmsHold, HandlersHold}
use Rattle.kishu_meaning.specs.values.Numbers.{is_whole}
use Rattle.kishu_meaning.specs.values.Sound.{with_default}
use Rattle.kishu_objects.specs.State.{IsCode}

abbrev pub NumberSound : ℤ → Type 0
NumberSound z = IsTrue (is_whole z)

abbrev pub TextSound : Text → Type 0
TextSound x = IsTrue (all_scalars (chars x))

abbrev pub ExpressionSound : Expression → Type 0
ExpressionSound = ExpressionHolds NumberSound TextSound

abbrev pub ExpressionsSound : Expressions → Type 0
ExpressionsSound = ExpressionsHold NumberSound TextSound

abbrev pub OperandsSound : Operands → Type 0
OperandsSound = OperandsHold NumberSound TextSound

abbrev pub LinksSound : Links → Type 0
LinksSound = LinksHold NumberSound TextSound

abbrev pub PairsSound : Pairs → Type 0
PairsSound = PairsHold NumberSound TextSound

abbrev pub TrailersSound : Trailers → Type 0
TrailersSound = TrailersHold NumberSound TextSound

abbrev pub TrailerSound : Trailer → Type 0
TrailerSound = TrailerHolds NumberSound TextSound

abbrev pub BoundSound : Bound → Type 0
BoundSound = BoundHolds NumberSound TextSound

abbrev pub ArgumentsSound : Arguments → Type 0
ArgumentsSound = ArgumentsHold NumberSound TextSound

abbrev pub OptionalSound : Option Expression → Type 0
OptionalSound = OptionalHolds NumberSound TextSound

abbrev pub ListSound : List Expression → Type 0
ListSound = ListHolds NumberSound TextSound

abbrev pub ParametersSound : List Parameter → Type 0
ParametersSound = ParametersHold NumberSound TextSound

abbrev pub TitleSound : Option Text → Type 0
TitleSound = TitleFits

-- The code of a function with these parameters reads as it under each profile.
abbrev pub CodeSound : Text → List Parameter → Type 0
CodeSound code ps = (profile : Profile) → IsCode profile code (with_default ps)

-- any target
abbrev pub any_test : Expression → Bool
any_test e = true

abbrev pub CodedSound : Text → Definition → Type 0
CodedSound code d = CodeSound code d.parameters

abbrev pub StatementSound : Statement → Type 0
StatementSound = StatementHolds NumberSound TextSound any_test ExpressionSound CodedSound

abbrev pub StatementsSound : Statements → Type 0
StatementsSound = StatementsHold NumberSound TextSound any_test ExpressionSound CodedSound

abbrev pub ArmsSound : Arms → Type 0
ArmsSound = ArmsHold NumberSound TextSound any_test ExpressionSound CodedSound

abbrev pub HandlersSound : Handlers → Type 0
HandlersSound = HandlersHold NumberSound TextSound any_test ExpressionSound CodedSound
