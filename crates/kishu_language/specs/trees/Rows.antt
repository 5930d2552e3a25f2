-- What the code's trees stand for, variant by variant.
use Rattle.std.proofs.Common.{◌≡◌, map, sym, ap, ◌∙◌, Option, Some, None}
use Rattle.std.specs.Prelude.{ℤ}
use Rattle.std.specs.declared.alloc.Global.{Global}
use Rattle.std.specs.declared.boxed.Box.{Box}
use Rattle.std.specs.declared.rc.RcStr.{RcStr}
use Rattle.std.specs.declared.vec.Vec.{Vec}
use Rattle.std.specs.Rc.{rc_str_bytes}
use Rattle.kishu_language.specs.declared.tree.Operator.{Operator}
use Rattle.kishu_language.specs.declared.tree.Sign.{Sign}
use Rattle.kishu_language.specs.declared.tree.Comparison.{Comparison}
use Rattle.kishu_language.specs.declared.tree.Expr.{Expr}
use Rattle.kishu_language.specs.declared.tree.Expr.TheVariants as e
use Rattle.kishu_language.specs.declared.tree.Link.{Link}
use Rattle.kishu_language.specs.declared.tree.Operand.{Operand}
use Rattle.kishu_language.specs.declared.tree.Pair.{Pair}
use Rattle.kishu_language.specs.declared.tree.Trailer as rust_trailer
use Rattle.kishu_language.specs.declared.tree.Trailer.TheVariants as tr
use Rattle.kishu_language.specs.declared.tree.Argument as rust_argument
use Rattle.kishu_language.specs.declared.tree.Argument.TheVariants as ar
use Rattle.kishu_language.specs.declared.tree.Argument.TheOpen.{Expr-F, Trailer-F, Argument-F}
use Rattle.kishu_language.specs.declared.tree.Argument.TheFolds.{fold-roll-Expr, fold-roll-Trailer, fold-roll-Argument, fold-roll-Link, fold-roll-Operand, fold-roll-Pair}
use Rattle.kishu_language.specs.trees.Tree.{Expression, Trailer, Argument, expressions, links, operands, trailers, arguments, pairs, bound_of, value_of, expression_of, argument_step, expression_step, trailer_step, link_step, operand_step, pair_step}
use Rattle.kishu_language.specs.declared.tree.Argument.TheViews.{roll-Link, roll-Operand, roll-Pair}
use Rattle.kishu_language.specs.trees.Tree as t
use Rattle.kishu_language.specs.trees.Parts.{link_of, operand_of, pair_of, trailer_of, argument_of}

pub tuple_is : (v : Vec Expr Global) → expression_of (e.Tuple v) ≡ t.tuple (expressions (map expression_of v.items))
unfolding expression_of
tuple_is v = ap expression_of (sym (e.rolls-Tuple v)) ∙ fold-roll-Expr Argument Expression Trailer (Comparison × Expression) (Operator × Expression) (Expression × Expression) argument_step expression_step trailer_step link_step operand_step pair_step (Expr-F.Tuple v)

pub conditional_is : (a : Box Expr Global) (b : Box Expr Global) (c : Box Expr Global) → expression_of (e.Conditional a b c) ≡ t.conditional (expression_of a.value) (expression_of b.value) (expression_of c.value)
unfolding expression_of
conditional_is a b c = ap expression_of (sym (e.rolls-Conditional a b c)) ∙ fold-roll-Expr Argument Expression Trailer (Comparison × Expression) (Operator × Expression) (Expression × Expression) argument_step expression_step trailer_step link_step operand_step pair_step (Expr-F.Conditional a b c)

pub or_is : (v : Vec Expr Global) → expression_of (e.Or v) ≡ t.or (expressions (map expression_of v.items))
unfolding expression_of
or_is v = ap expression_of (sym (e.rolls-Or v)) ∙ fold-roll-Expr Argument Expression Trailer (Comparison × Expression) (Operator × Expression) (Expression × Expression) argument_step expression_step trailer_step link_step operand_step pair_step (Expr-F.Or v)

pub and_is : (v : Vec Expr Global) → expression_of (e.And v) ≡ t.and (expressions (map expression_of v.items))
unfolding expression_of
and_is v = ap expression_of (sym (e.rolls-And v)) ∙ fold-roll-Expr Argument Expression Trailer (Comparison × Expression) (Operator × Expression) (Expression × Expression) argument_step expression_step trailer_step link_step operand_step pair_step (Expr-F.And v)

pub not_is : (a : Box Expr Global) → expression_of (e.Not a) ≡ t.not (expression_of a.value)
unfolding expression_of
not_is a = ap expression_of (sym (e.rolls-Not a)) ∙ fold-roll-Expr Argument Expression Trailer (Comparison × Expression) (Operator × Expression) (Expression × Expression) argument_step expression_step trailer_step link_step operand_step pair_step (Expr-F.Not a)

pub compared_is : (a : Box Expr Global) (v : Vec Link Global) → expression_of (e.Compared a v) ≡ t.compared (expression_of a.value) (links (map link_of v.items))
unfolding expression_of link_of
compared_is a v = ap expression_of (sym (e.rolls-Compared a v)) ∙ fold-roll-Expr Argument Expression Trailer (Comparison × Expression) (Operator × Expression) (Expression × Expression) argument_step expression_step trailer_step link_step operand_step pair_step (Expr-F.Compared a v)

pub sum_is : (a : Box Expr Global) (v : Vec Operand Global) → expression_of (e.Sum a v) ≡ t.sum (expression_of a.value) (operands (map operand_of v.items))
unfolding expression_of operand_of
sum_is a v = ap expression_of (sym (e.rolls-Sum a v)) ∙ fold-roll-Expr Argument Expression Trailer (Comparison × Expression) (Operator × Expression) (Expression × Expression) argument_step expression_step trailer_step link_step operand_step pair_step (Expr-F.Sum a v)

pub product_is : (a : Box Expr Global) (v : Vec Operand Global) → expression_of (e.Product a v) ≡ t.product (expression_of a.value) (operands (map operand_of v.items))
unfolding expression_of operand_of
product_is a v = ap expression_of (sym (e.rolls-Product a v)) ∙ fold-roll-Expr Argument Expression Trailer (Comparison × Expression) (Operator × Expression) (Expression × Expression) argument_step expression_step trailer_step link_step operand_step pair_step (Expr-F.Product a v)

pub signed_is : (s : Sign) (a : Box Expr Global) → expression_of (e.Signed s a) ≡ t.signed s (expression_of a.value)
unfolding expression_of
signed_is s a = ap expression_of (sym (e.rolls-Signed s a)) ∙ fold-roll-Expr Argument Expression Trailer (Comparison × Expression) (Operator × Expression) (Expression × Expression) argument_step expression_step trailer_step link_step operand_step pair_step (Expr-F.Signed s a)

pub power_is : (a : Box Expr Global) (b : Box Expr Global) → expression_of (e.Power a b) ≡ t.power (expression_of a.value) (expression_of b.value)
unfolding expression_of
power_is a b = ap expression_of (sym (e.rolls-Power a b)) ∙ fold-roll-Expr Argument Expression Trailer (Comparison × Expression) (Operator × Expression) (Expression × Expression) argument_step expression_step trailer_step link_step operand_step pair_step (Expr-F.Power a b)

pub primary_is : (a : Box Expr Global) (v : Vec rust_trailer.Trailer Global) → expression_of (e.Primary a v) ≡ t.primary (expression_of a.value) (trailers (map trailer_of v.items))
unfolding expression_of trailer_of
primary_is a v = ap expression_of (sym (e.rolls-Primary a v)) ∙ fold-roll-Expr Argument Expression Trailer (Comparison × Expression) (Operator × Expression) (Expression × Expression) argument_step expression_step trailer_step link_step operand_step pair_step (Expr-F.Primary a v)

pub name_is : (x : RcStr Global) → expression_of (e.Name x) ≡ t.name (rc_str_bytes x)
unfolding expression_of
name_is x = ap expression_of (sym (e.rolls-Name x)) ∙ fold-roll-Expr Argument Expression Trailer (Comparison × Expression) (Operator × Expression) (Expression × Expression) argument_step expression_step trailer_step link_step operand_step pair_step (Expr-F.Name x)

pub int_is : (z : ℤ) → expression_of (e.Int z) ≡ t.integer z
unfolding expression_of
int_is z = ap expression_of (sym (e.rolls-Int z)) ∙ fold-roll-Expr Argument Expression Trailer (Comparison × Expression) (Operator × Expression) (Expression × Expression) argument_step expression_step trailer_step link_step operand_step pair_step (Expr-F.Int z)

pub text_is : (x : RcStr Global) → expression_of (e.Text x) ≡ t.text (rc_str_bytes x)
unfolding expression_of
text_is x = ap expression_of (sym (e.rolls-Text x)) ∙ fold-roll-Expr Argument Expression Trailer (Comparison × Expression) (Operator × Expression) (Expression × Expression) argument_step expression_step trailer_step link_step operand_step pair_step (Expr-F.Text x)

pub none_is : expression_of e.None ≡ t.none
unfolding expression_of
none_is = ap expression_of (sym e.rolls-None) ∙ fold-roll-Expr Argument Expression Trailer (Comparison × Expression) (Operator × Expression) (Expression × Expression) argument_step expression_step trailer_step link_step operand_step pair_step Expr-F.None

pub true_is : expression_of e.True ≡ t.true
unfolding expression_of
true_is = ap expression_of (sym e.rolls-True) ∙ fold-roll-Expr Argument Expression Trailer (Comparison × Expression) (Operator × Expression) (Expression × Expression) argument_step expression_step trailer_step link_step operand_step pair_step Expr-F.True

pub false_is : expression_of e.False ≡ t.false
unfolding expression_of
false_is = ap expression_of (sym e.rolls-False) ∙ fold-roll-Expr Argument Expression Trailer (Comparison × Expression) (Operator × Expression) (Expression × Expression) argument_step expression_step trailer_step link_step operand_step pair_step Expr-F.False

pub paren_is : (a : Box Expr Global) → expression_of (e.Paren a) ≡ t.paren (expression_of a.value)
unfolding expression_of
paren_is a = ap expression_of (sym (e.rolls-Paren a)) ∙ fold-roll-Expr Argument Expression Trailer (Comparison × Expression) (Operator × Expression) (Expression × Expression) argument_step expression_step trailer_step link_step operand_step pair_step (Expr-F.Paren a)

pub list_is : (v : Vec Expr Global) → expression_of (e.List v) ≡ t.list (expressions (map expression_of v.items))
unfolding expression_of
list_is v = ap expression_of (sym (e.rolls-List v)) ∙ fold-roll-Expr Argument Expression Trailer (Comparison × Expression) (Operator × Expression) (Expression × Expression) argument_step expression_step trailer_step link_step operand_step pair_step (Expr-F.List v)

pub dict_is : (v : Vec Pair Global) → expression_of (e.Dict v) ≡ t.dict (pairs (map pair_of v.items))
unfolding expression_of pair_of
dict_is v = ap expression_of (sym (e.rolls-Dict v)) ∙ fold-roll-Expr Argument Expression Trailer (Comparison × Expression) (Operator × Expression) (Expression × Expression) argument_step expression_step trailer_step link_step operand_step pair_step (Expr-F.Dict v)

pub attribute_is : (x : RcStr Global) → trailer_of (tr.Attribute x) ≡ t.attribute (rc_str_bytes x)
unfolding expression_of trailer_of
attribute_is x = ap trailer_of (sym (tr.rolls-Attribute x)) ∙ fold-roll-Trailer Argument Expression Trailer (Comparison × Expression) (Operator × Expression) (Expression × Expression) argument_step expression_step trailer_step link_step operand_step pair_step (Trailer-F.Attribute x)

pub call_is : (v : Vec rust_argument.Argument Global) → trailer_of (tr.Call v) ≡ t.call (arguments (map argument_of v.items))
unfolding expression_of trailer_of argument_of
call_is v = ap trailer_of (sym (tr.rolls-Call v)) ∙ fold-roll-Trailer Argument Expression Trailer (Comparison × Expression) (Operator × Expression) (Expression × Expression) argument_step expression_step trailer_step link_step operand_step pair_step (Trailer-F.Call v)

pub index_is : (a : Expr) → trailer_of (tr.Index a) ≡ t.index (expression_of a)
unfolding expression_of trailer_of
index_is a = ap trailer_of (sym (tr.rolls-Index a)) ∙ fold-roll-Trailer Argument Expression Trailer (Comparison × Expression) (Operator × Expression) (Expression × Expression) argument_step expression_step trailer_step link_step operand_step pair_step (Trailer-F.Index a)

pub slice_is : (a : Option Expr) (b : Option Expr) (c : Option Expr) → trailer_of (tr.Slice a b c) ≡ t.slice (bound_of (value_of a)) (bound_of (value_of b)) (bound_of (value_of c))
unfolding expression_of trailer_of
slice_is None None None = ap trailer_of (sym (tr.rolls-Slice None None None)) ∙ fold-roll-Trailer Argument Expression Trailer (Comparison × Expression) (Operator × Expression) (Expression × Expression) argument_step expression_step trailer_step link_step operand_step pair_step (Trailer-F.Slice None None None)
slice_is None None (Some c) = ap trailer_of (sym (tr.rolls-Slice None None (Some c))) ∙ fold-roll-Trailer Argument Expression Trailer (Comparison × Expression) (Operator × Expression) (Expression × Expression) argument_step expression_step trailer_step link_step operand_step pair_step (Trailer-F.Slice None None (Some c))
slice_is None (Some b) None = ap trailer_of (sym (tr.rolls-Slice None (Some b) None)) ∙ fold-roll-Trailer Argument Expression Trailer (Comparison × Expression) (Operator × Expression) (Expression × Expression) argument_step expression_step trailer_step link_step operand_step pair_step (Trailer-F.Slice None (Some b) None)
slice_is None (Some b) (Some c) = ap trailer_of (sym (tr.rolls-Slice None (Some b) (Some c))) ∙ fold-roll-Trailer Argument Expression Trailer (Comparison × Expression) (Operator × Expression) (Expression × Expression) argument_step expression_step trailer_step link_step operand_step pair_step (Trailer-F.Slice None (Some b) (Some c))
slice_is (Some a) None None = ap trailer_of (sym (tr.rolls-Slice (Some a) None None)) ∙ fold-roll-Trailer Argument Expression Trailer (Comparison × Expression) (Operator × Expression) (Expression × Expression) argument_step expression_step trailer_step link_step operand_step pair_step (Trailer-F.Slice (Some a) None None)
slice_is (Some a) None (Some c) = ap trailer_of (sym (tr.rolls-Slice (Some a) None (Some c))) ∙ fold-roll-Trailer Argument Expression Trailer (Comparison × Expression) (Operator × Expression) (Expression × Expression) argument_step expression_step trailer_step link_step operand_step pair_step (Trailer-F.Slice (Some a) None (Some c))
slice_is (Some a) (Some b) None = ap trailer_of (sym (tr.rolls-Slice (Some a) (Some b) None)) ∙ fold-roll-Trailer Argument Expression Trailer (Comparison × Expression) (Operator × Expression) (Expression × Expression) argument_step expression_step trailer_step link_step operand_step pair_step (Trailer-F.Slice (Some a) (Some b) None)
slice_is (Some a) (Some b) (Some c) = ap trailer_of (sym (tr.rolls-Slice (Some a) (Some b) (Some c))) ∙ fold-roll-Trailer Argument Expression Trailer (Comparison × Expression) (Operator × Expression) (Expression × Expression) argument_step expression_step trailer_step link_step operand_step pair_step (Trailer-F.Slice (Some a) (Some b) (Some c))

pub plain_is : (a : Expr) → argument_of (ar.Plain a) ≡ t.plain (expression_of a)
unfolding expression_of argument_of
plain_is a = ap argument_of (sym (ar.rolls-Plain a)) ∙ fold-roll-Argument Argument Expression Trailer (Comparison × Expression) (Operator × Expression) (Expression × Expression) argument_step expression_step trailer_step link_step operand_step pair_step (Argument-F.Plain a)

pub keyword_is : (x : RcStr Global) (a : Expr) → argument_of (ar.Keyword x a) ≡ t.keyword (rc_str_bytes x) (expression_of a)
unfolding expression_of argument_of
keyword_is x a = ap argument_of (sym (ar.rolls-Keyword x a)) ∙ fold-roll-Argument Argument Expression Trailer (Comparison × Expression) (Operator × Expression) (Expression × Expression) argument_step expression_step trailer_step link_step operand_step pair_step (Argument-F.Keyword x a)

pub link_is : (c : Comparison) (a : Expr) → link_of (roll-Link (record { comparison = c; value = a })) ≡ (c, expression_of a)
unfolding link_of expression_of
link_is c a = fold-roll-Link Argument Expression Trailer (Comparison × Expression) (Operator × Expression) (Expression × Expression) argument_step expression_step trailer_step link_step operand_step pair_step (record { comparison = c; value = a })

pub operand_is : (o : Operator) (a : Expr) → operand_of (roll-Operand (record { operator = o; value = a })) ≡ (o, expression_of a)
unfolding operand_of expression_of
operand_is o a = fold-roll-Operand Argument Expression Trailer (Comparison × Expression) (Operator × Expression) (Expression × Expression) argument_step expression_step trailer_step link_step operand_step pair_step (record { operator = o; value = a })

pub pair_is : (a b : Expr) → pair_of (roll-Pair (record { key = a; value = b })) ≡ (expression_of a, expression_of b)
unfolding pair_of expression_of
pair_is a b = fold-roll-Pair Argument Expression Trailer (Comparison × Expression) (Operator × Expression) (Expression × Expression) argument_step expression_step trailer_step link_step operand_step pair_step (record { key = a; value = b })

pub link_at : (l : Link) → link_of l ≡ (l.comparison, expression_of l.value)
link_at l = link_is l.comparison l.value

pub operand_at : (o : Operand) → operand_of o ≡ (o.operator, expression_of o.value)
operand_at o = operand_is o.operator o.value

pub ruleset part_rows = (link_at, operand_at)

pub ruleset tree_rows = (tuple_is, conditional_is, or_is, and_is, not_is, compared_is, sum_is, product_is, signed_is, power_is, primary_is, name_is, int_is, text_is, none_is, true_is, false_is, paren_is, list_is, attribute_is, call_is, index_is, slice_is, plain_is, keyword_is, link_is, operand_is, dict_is)
