use Rattle.std.proofs.Common.{sym, ap, ◌∙◌, refl, inr, map, Ok, [], ◌∷◌}
use Rattle.std.proofs.lemmas.Result.{err_from_is_err_and}
use Rattle.kishu_language.specs.trees.Tree.{definition_of}
use Rattle.kishu_parser.specs.Views.{tokens_of}
use Rattle.kishu_parser.specs.Statements as lines
use Rattle.kishu_parser.specs.TopLevel.{piece_of}
use Rattle.kishu_parser.specs.TopLaws.{statements_of, pieces_tree}
use Rattle.kishu_parser.proofs.Whole.{no_fault, fault_besides}
use Rattle.kishu_parser.proofs.TopPieces.{has_pieces, pieces_fault}
use Rattle.kishu_parser.proofs.FunctionRead.{function_found, same_function, none_other, low_function}
use Rattle.kishu_parser.proofs.top.parse_def.Goals as goal

pub returns-in-Ok-clause-found : goal.returns-in-Ok-clause-found
returns-in-Ok-clause-found c = function_found c.args.profile c.args.text.now c.as_str.result.now (tokens_of c.as_slice.result.now)
    (c.as_str.ensures.value ∙ c.in_ok-source.ensures) (c.in_ok-found.ensures.ok ∙ ap (λ v. Ok (tokens_of v)) (sym c.as_slice.ensures.value)) (definition_of c.in-Ok.definition) c.in-Ok.ensures

pub returns-in-Ok-clause-only : goal.returns-in-Ok-clause-only
returns-in-Ok-clause-only c d h = same_function c.args.profile c.args.text.now c.as_str.result.now (tokens_of c.as_slice.result.now)
    (c.as_str.ensures.value ∙ c.in_ok-source.ensures) (c.in_ok-found.ensures.ok ∙ ap (λ v. Ok (tokens_of v)) (sym c.as_slice.ensures.value)) (definition_of c.in-Ok.definition) d c.in-Ok.ensures h

pub returns-in-Ok-clause-height : goal.returns-in-Ok-clause-height
returns-in-Ok-clause-height c = low_function c.args.profile c.args.text.now (definition_of c.in-Ok.definition) (returns-in-Ok-clause-found c)

pub returns-in_err-lined_pieces-in-Err-Refused-clause-only :
    goal.returns-in_err-lined_pieces-in-Err-Refused-clause-only
returns-in_err-lined_pieces-in-Err-Refused-clause-only c d h =
    let p = err_from_is_err_and c.from_residual-in_err-lined_pieces-in-Err-Refused.result c.from_residual-in_err-lined_pieces-in-Err-Refused.ensures.1 in
    rw (p.1, p.2) (no_fault c.args.profile c.args.text.now (lines.defined d c.args.text.now ∷ []) _ (pieces_fault c.args.profile c.args.text.now c.as_str.result.now (tokens_of c.as_slice.result.now)
    (c.as_str.ensures.value ∙ c.in_ok-source.ensures) (c.in_ok-found.ensures.ok ∙ ap (λ v. Ok (tokens_of v)) (sym c.as_slice.ensures.value)) _ c.in_err-lined_pieces-in-Err-Refused.ensures) h)

pub returns-in_err-lined_pieces-in-Err-Refused-clause-line :
    goal.returns-in_err-lined_pieces-in-Err-Refused-clause-line
returns-in_err-lined_pieces-in-Err-Refused-clause-line c =
    let p = err_from_is_err_and c.from_residual-in_err-lined_pieces-in-Err-Refused.result c.from_residual-in_err-lined_pieces-in-Err-Refused.ensures.1 in
    rw (p.1, p.2) (fault_besides c.args.profile c.args.text.now _ (pieces_fault c.args.profile c.args.text.now c.as_str.result.now (tokens_of c.as_slice.result.now)
    (c.as_str.ensures.value ∙ c.in_ok-source.ensures) (c.in_ok-found.ensures.ok ∙ ap (λ v. Ok (tokens_of v)) (sym c.as_slice.ensures.value)) _ c.in_err-lined_pieces-in-Err-Refused.ensures))

pub returns-clause-only : goal.returns-clause-only
returns-clause-only c d h = absurd (none_other c.args.profile c.args.text.now c.as_str.result.now (tokens_of c.as_slice.result.now)
    (c.as_str.ensures.value ∙ c.in_ok-source.ensures) (c.in_ok-found.ensures.ok ∙ ap (λ v. Ok (tokens_of v)) (sym c.as_slice.ensures.value)) c.in-Err-Refused.field-0 c.in-Err-Refused.field-0-is c.in-Err-Refused.ensures d h)

pub returns-clause-line : goal.returns-clause-line
returns-clause-line c = inr (
  statements_of (map piece_of c.in_ok-lined_pieces-in-Err-Refused.field-0.items),
  pieces_tree c.args.profile c.args.text.now (map piece_of c.in_ok-lined_pieces-in-Err-Refused.field-0.items) (has_pieces c.args.profile c.args.text.now c.as_str.result.now (tokens_of c.as_slice.result.now)
      (c.as_str.ensures.value ∙ c.in_ok-source.ensures) (c.in_ok-found.ensures.ok ∙ ap (λ v. Ok (tokens_of v)) (sym c.as_slice.ensures.value)) _ c.in_ok-lined_pieces-in-Err-Refused.ensures),
  none_other c.args.profile c.args.text.now c.as_str.result.now (tokens_of c.as_slice.result.now)
      (c.as_str.ensures.value ∙ c.in_ok-source.ensures) (c.in_ok-found.ensures.ok ∙ ap (λ v. Ok (tokens_of v)) (sym c.as_slice.ensures.value)) c.in-Err-Refused.field-0 c.in-Err-Refused.field-0-is c.in-Err-Refused.ensures,
  refl,
)
