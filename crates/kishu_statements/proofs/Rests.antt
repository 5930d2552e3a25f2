-- What is left of a list of trees behind an index: its first, and the rest.
use Rattle.std.proofs.Common.{◌≡◌, ◌∙◌, ap, ℕ, ◌+◌, ◌<◌, List, length, drop, get_or}
use Rattle.kishu_language.specs.declared.tree.Comparison.{Comparison}
use Rattle.kishu_language.specs.declared.tree.Operator.{Operator}
use Rattle.kishu_language.specs.declared.tree.Expr.{Expr}
use Rattle.kishu_language.specs.declared.tree.Link.{Link}
use Rattle.kishu_language.specs.declared.tree.Operand.{Operand}
use Rattle.kishu_language.specs.declared.tree.Pair.{Pair}
use Rattle.kishu_language.specs.declared.tree.Argument.TheFolds.{fold-roll-Pair}
use Rattle.kishu_language.specs.declared.tree.Argument.TheViews.{roll-Pair}
use Rattle.kishu_language.specs.trees.Tree.{Expression, Trailer, Argument, expression_of, more_expressions, more_operands, more_links, more_pairs, argument_step, expression_step, trailer_step, link_step, operand_step, pair_step}
use Rattle.kishu_language.specs.trees.Rows.{link_at, operand_at}
use Rattle.kishu_language.specs.trees.Parts.{expressions_of, operands_of, links_of, pairs_of, pair_of}
use Rattle.kishu_items.specs.Gathering.{dropped}

pub expressions_here : (xs : List Expr) (i : ℕ) (x : Expr) → i < length xs → x ≡ get_or xs i x → expressions_of (drop i xs) ≡ more_expressions (expression_of x) (expressions_of (drop (i + 1) xs))
expressions_here xs i x h p = ap expressions_of (dropped xs i x h p)

pub operands_here : (xs : List Operand) (i : ℕ) (x : Operand) → i < length xs → x ≡ get_or xs i x → operands_of (drop i xs) ≡ more_operands x.operator (expression_of x.value) (operands_of (drop (i + 1) xs))
operands_here xs i x h p = ap operands_of (dropped xs i x h p) ∙ ap (λ (o : Operator × Expression). more_operands o.0 o.1 (operands_of (drop (i + 1) xs))) (operand_at x)

pub links_here : (xs : List Link) (i : ℕ) (x : Link) → i < length xs → x ≡ get_or xs i x → links_of (drop i xs) ≡ more_links x.comparison (expression_of x.value) (links_of (drop (i + 1) xs))
links_here xs i x h p = ap links_of (dropped xs i x h p) ∙ ap (λ (l : Comparison × Expression). more_links l.0 l.1 (links_of (drop (i + 1) xs))) (link_at x)

pair_is : (a : Expr) (b : Expr) → pair_of (roll-Pair (record { key = a; value = b })) ≡ (expression_of a, expression_of b)
unfolding pair_of expression_of
pair_is a b = fold-roll-Pair Argument Expression Trailer (Comparison × Expression) (Operator × Expression) (Expression × Expression) argument_step expression_step trailer_step link_step operand_step pair_step (record { key = a; value = b })

pub pair_at : (p : Pair) → pair_of p ≡ (expression_of p.key, expression_of p.value)
pair_at p = pair_is p.key p.value

pub pairs_here : (xs : List Pair) (i : ℕ) (x : Pair) → i < length xs → x ≡ get_or xs i x → pairs_of (drop i xs) ≡ more_pairs (expression_of x.key) (expression_of x.value) (pairs_of (drop (i + 1) xs))
pairs_here xs i x h p = ap pairs_of (dropped xs i x h p) ∙ ap (λ (q : Expression × Expression). more_pairs q.0 q.1 (pairs_of (drop (i + 1) xs))) (pair_at x)
