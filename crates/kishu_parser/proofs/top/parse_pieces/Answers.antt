use Rattle.std.proofs.Common.{sym, ap, ◌∙◌, Ok}
use Rattle.std.proofs.lemmas.Result.{err_from_is_err_and}
use Rattle.kishu_parser.specs.Views.{tokens_of}
use Rattle.kishu_parser.proofs.TopPieces.{has_pieces, only_pieces, no_pieces, pieces_fault}
use Rattle.kishu_parser.proofs.top.parse_pieces.Goals as goal

pub lined_pieces-requires : goal.lined_pieces-requires
lined_pieces-requires c = rw (c.as_str.ensures.value ∙ c.in_ok-source.ensures, c.as_slice.ensures.value) c.in_ok-found.ensures.boundaries

pub returns-in_err-all-clause-only : goal.returns-in_err-all-clause-only
returns-in_err-all-clause-only c all h =
    let p = err_from_is_err_and c.from_residual-in_err-all.result c.from_residual-in_err-all.ensures.1 in
    rw (p.1, p.2) (no_pieces c.args.profile c.args.text.now c.as_str.result.now (tokens_of c.as_slice.result.now) (c.as_str.ensures.value ∙ c.in_ok-source.ensures) (c.in_ok-found.ensures.ok ∙ ap (λ v. Ok (tokens_of v)) (sym c.as_slice.ensures.value)) _ all c.in_err-all.ensures h)

pub returns-in_err-all-clause-line : goal.returns-in_err-all-clause-line
returns-in_err-all-clause-line c =
    let p = err_from_is_err_and c.from_residual-in_err-all.result c.from_residual-in_err-all.ensures.1 in
    rw (p.1, p.2) (pieces_fault c.args.profile c.args.text.now c.as_str.result.now (tokens_of c.as_slice.result.now) (c.as_str.ensures.value ∙ c.in_ok-source.ensures) (c.in_ok-found.ensures.ok ∙ ap (λ v. Ok (tokens_of v)) (sym c.as_slice.ensures.value)) _ c.in_err-all.ensures)

pub returns-clause-found : goal.returns-clause-found
returns-clause-found c = has_pieces c.args.profile c.args.text.now c.as_str.result.now (tokens_of c.as_slice.result.now) (c.as_str.ensures.value ∙ c.in_ok-source.ensures) (c.in_ok-found.ensures.ok ∙ ap (λ v. Ok (tokens_of v)) (sym c.as_slice.ensures.value)) _ c.in_ok-all.ensures

pub returns-clause-only : goal.returns-clause-only
returns-clause-only c all h = only_pieces c.args.profile c.args.text.now c.as_str.result.now (tokens_of c.as_slice.result.now) (c.as_str.ensures.value ∙ c.in_ok-source.ensures) (c.in_ok-found.ensures.ok ∙ ap (λ v. Ok (tokens_of v)) (sym c.as_slice.ensures.value)) _ all c.in_ok-all.ensures h
