-- What a row unfolds to compute the reading of a function's code, and the runs of cells, from their texts.
use Rattle.std.specs.Prelude.{⊤}
use Rattle.std.specs.Char.{encode_utf8}
use Rattle.std.specs.Fmt.{digits}
use Rattle.std.specs.Str.{chars}
use Rattle.kishu_language.specs.tokens.Marks.{reserved_marks, delimiter, operator}
use Rattle.kishu_language.specs.tokens.Names.{reserved_words}
use Rattle.kishu_language.specs.tokens.Numerals.{numeral}
use Rattle.kishu_language.specs.tokens.Quoted as Q
use Rattle.kishu_language.specs.tokens.Lexemes.{token_piece, lexeme}
use Rattle.kishu_language.specs.tokens.Layout as L
use Rattle.kishu_language.specs.trees.Code.{code_of}
use Rattle.kishu_language.specs.reading.ReadExpressions as E
use Rattle.kishu_language.specs.reading.ReadStatements as S
use Rattle.kishu_language.specs.reading.ReadText as R
use Rattle.kishu_meaning.specs.values.BuiltinNames.{builtin_names, class_names}
use Rattle.kishu_meaning.specs.values.Numbers.{power}
use Rattle.kishu_meaning.specs.cells.Meaning.{run, call}
use Rattle.kishu_bytes.specs.Numbers.{sixteen}
use Rattle.kishu_objects.specs.Bytes.{in_four}
use Rattle.kishu_reading.specs.FromBytes.{read_picture, code_defaults}

unfoldable pub codes_on_literals : ⊤
unfolding reserved_words reserved_marks delimiter operator numeral Q.escape Q.item Q.closes Q.body Q.quoted token_piece lexeme L.cut L.indented L.begin L.bracket L.step L.layout encode_utf8 code_of E.keyword_begins E.another E.argument E.attribute E.call E.slice_after E.item_or_slice E.trailer E.parenthesised E.list E.pair E.dict E.atom E.primary_parts E.primary E.power E.unary_level E.term E.sum E.compared E.negated_level E.conjunction E.disjunction E.expr_level E.exprs_level E.phrase S.primary_at S.another_simple S.raise S.return S.assertion S.delete S.global S.import S.update_of S.assignment_of S.update_or_assignment S.simple S.simples S.line S.block S.block_after S.arm S.choice S.while S.for S.caught S.handler S.handled S.finished S.try S.parameter S.definition S.define S.compound S.chunk S.program R.piece R.read_chars chars
codes_on_literals = tt

-- functions that are read from a picture
unfoldable pub functions_on_literals : ⊤
unfolding codes_on_literals read_picture code_defaults
functions_on_literals = tt

-- cells that are run, and pictures' bytes
unfoldable pub cells_on_literals : ⊤
unfolding codes_on_literals digits power builtin_names class_names run call in_four sixteen
cells_on_literals = tt
