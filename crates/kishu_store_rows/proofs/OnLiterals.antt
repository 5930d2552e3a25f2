-- What a row unfolds to compute the answers to requests, cells among them, from their texts.
use Rattle.std.specs.Prelude.{⊤}
use Rattle.std.specs.Char.{encode_utf8}
use Rattle.std.specs.Fmt.{digits}
use Rattle.std.specs.Str.{chars, is_utf8}
use Rattle.json.specs.Layout.{pretty_from}
use Rattle.serde_json.proofs.OnLiterals.{serde_json_on_literals}
use Rattle.kishu_language.specs.tokens.Marks.{reserved_marks, delimiter, operator}
use Rattle.kishu_language.specs.tokens.Numerals.{numeral}
use Rattle.kishu_language.specs.tokens.Quoted as Q
use Rattle.kishu_language.specs.tokens.Lexemes.{token_piece, lexeme}
use Rattle.kishu_language.specs.tokens.Layout as L
use Rattle.kishu_language.specs.trees.Code.{code_of}
use Rattle.kishu_language.specs.reading.ReadExpressions as E
use Rattle.kishu_language.specs.reading.ReadStatements as S
use Rattle.kishu_language.specs.reading.ReadText as R
use Rattle.kishu_meaning.specs.values.BuiltinNames.{builtin_names, class_names}
use Rattle.kishu_meaning.specs.values.Numbers.{power}
use Rattle.kishu_meaning.specs.cells.Meaning.{run, call}
use Rattle.kishu_bytes.specs.Numbers.{sixteen}
use Rattle.kishu_objects.specs.Bytes.{in_four}
use Rattle.kishu_model.specs.Reading.{request_in, reading}
use Rattle.kishu_model.specs.notebooks.Cells.{is_code, has_kind, is_id, has_source, source_of, has_outputs, has_count, is_cell}
use Rattle.kishu_model.specs.notebooks.Notebook.{has_format, missing_key, other_minor, unwhole, fault_from, fault_in, verdict, opening, sources_of}
use Rattle.kishu_model.specs.notebooks.Setting.{with_run_at}

unfoldable pub requests_on_literals : ⊤
unfolding reserved_marks delimiter operator numeral Q.escape Q.item Q.closes Q.body Q.quoted token_piece lexeme L.cut L.indented L.begin L.bracket L.step L.layout encode_utf8 code_of E.keyword_begins E.another E.argument E.attribute E.call E.slice_after E.item_or_slice E.trailer E.parenthesised E.list E.pair E.dict E.atom E.primary_parts E.primary E.power E.unary_level E.term E.sum E.compared E.negated_level E.conjunction E.disjunction E.expr_level E.exprs_level E.phrase S.primary_at S.another_simple S.raise S.return S.assertion S.delete S.global S.import S.update_of S.assignment_of S.update_or_assignment S.simple S.simples S.line S.block S.block_after S.arm S.choice S.while S.for S.caught S.handler S.handled S.finished S.try S.parameter S.definition S.define S.compound S.chunk S.program R.piece R.read_chars chars digits power builtin_names class_names run call in_four sixteen serde_json_on_literals
requests_on_literals = tt

-- a line's reading, too
unfoldable pub lines_on_literals : ⊤
unfolding requests_on_literals is_utf8 request_in reading
lines_on_literals = tt

-- and notebooks
unfoldable pub notebooks_on_literals : ⊤
unfolding lines_on_literals is_code has_kind is_id has_source source_of has_outputs has_count is_cell has_format missing_key other_minor unwhole fault_from fault_in verdict opening sources_of with_run_at pretty_from
notebooks_on_literals = tt
