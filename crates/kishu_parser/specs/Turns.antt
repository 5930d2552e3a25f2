-- Parts of the readers that are methods of their own.
use Rattle.std.specs.Prelude.{Bool, not, List, Option, Some, None}
use Rattle.kishu_language.specs.declared.token.Mark.{Mark}
use Rattle.kishu_language.specs.declared.token.Mark.TheVariants as m
use Rattle.kishu_language.specs.declared.tree.Comparison.{Comparison}
use Rattle.kishu_language.specs.declared.tree.Comparison.TheVariants as comparisons
use Rattle.kishu_language.specs.trees.Tree.{Expression, Trailer}
use Rattle.kishu_language.specs.trees.Tree as t
use Rattle.kishu_language.specs.grammar.Grammar.{Phrase, exprs, constant_of}
use Rattle.kishu_language.specs.reading.Reader.{Reader, ◌>>=◌, ◌>>◌, pure, where_true, token, a_name, mark, sees, one_of, either, one_more}
use Rattle.kishu_language.specs.reading.ReadExpressions.{bracketed, parenthesised, list, dict, bound, slice_after, is_several}

-- one more behind a mark
abbrev pub more_turn : {A : Type 0} → Mark → Reader A → List A → Reader (List A)
more_turn by item = one_more (mark by >> item)

abbrev pub comparison_is : Reader Comparison
comparison_is = mark m.Is >> either (sees m.Not) (mark m.Not >> pure comparisons.IsNot) (pure comparisons.Is)

abbrev pub attribute : Reader Trailer
attribute = do
  mark m.Dot
  x ← token a_name
  pure (t.attribute x)

abbrev pub bracketed_atom : Bool → (Phrase → Reader Expression) → Reader Expression
bracketed_atom room inner =
    either (sees m.LeftParenthesis) (bracketed room (parenthesised inner))
    (either (sees m.LeftBracket) (bracketed room (list inner))
    (either (sees m.LeftBrace) (bracketed room (dict inner)) (one_of constant_of)))

module _ (inner : Phrase → Reader Expression) where
  abbrev pub step : Reader (Option Expression)
  step = either (sees m.Colon) (mark m.Colon >> bound inner) (pure None)

  abbrev pub between_brackets : Reader Trailer
  between_brackets = either (sees m.Colon) (slice_after inner None) (do
    index ← inner exprs
    either (sees m.Colon) (where_true (not (is_several index)) >> slice_after inner (Some index)) (pure (t.index index)))
