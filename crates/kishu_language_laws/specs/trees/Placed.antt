-- A tree in which what is deleted, or updated by an operator, is a place, and what is assigned to, or takes the items of a walk, is a target.
use Rattle.std.specs.Prelude.{ℤ, IsTrue}
use Rattle.kishu_language.specs.grammar.Targets.{is_place, is_target}
use Rattle.kishu_language.specs.trees.Tree.{Text, Expression, Statements}
use Rattle.kishu_language.specs.trees.Holds.{any, any_code, ExpressionHolds, StatementsHold}

abbrev pub PlaceHolds : (ℤ → Type 0) → (Text → Type 0) → Expression → Type 0
PlaceHolds number text e = ExpressionHolds number text e × IsTrue (is_place e)

abbrev pub StatementsPlaced : Statements → Type 0
StatementsPlaced = StatementsHold any any is_target (PlaceHolds any any) any_code
