-- Texts that are notebooks and texts that are none, each with its fault, computed on the definitions.
use Rattle.std.proofs.Common.{◌≡◌, ℕ, List, ◌∷◌, ◌++◌, codes, Option, Some, None, refl}
use Rattle.std.specs.Char.{encode_utf8}
use Rattle.std.specs.Fmt.{digits}
use Rattle.std.specs.Prelude.{⊤, Result, Ok, Err}
use Rattle.std.specs.Str.{chars, is_utf8}
use Rattle.serde_json.specs.Data.{Data}
use Rattle.serde_json.proofs.OnLiterals.{serde_json_on_literals}
use Rattle.kishu_model.specs.notebooks.Cells.{is_code, has_kind, is_id, has_source, source_of, has_outputs, has_count, is_cell}
use Rattle.kishu_model.specs.notebooks.Notebook.{format_key, minor_key, metadata_key, cells_key, Fault, not_json, not_notebook, version, bad_cell, repeated_id, not_whole, has_format, missing_key, other_minor, unwhole, fault_from, fault_in, verdict, opening, sources_of}

-- what a row unfolds
unfoldable pub opens : ⊤
unfolding digits serde_json_on_literals is_utf8 chars encode_utf8 is_code has_kind is_id has_source source_of has_outputs has_count is_cell has_format missing_key other_minor unwhole fault_from fault_in verdict opening sources_of
opens = tt

abbrev fault_of_result : Result Data Fault → Option Fault
fault_of_result (Ok d) = None
fault_of_result (Err fault) = Some fault

abbrev fault_of_bytes : List ℕ → Option Fault
fault_of_bytes bytes = fault_of_result (opening bytes)

-- the text of a notebook with these cells
abbrev with_cells : List ℕ → List ℕ
with_cells cells = codes "{\"cells\":[" ++ (cells ++ codes "],\"metadata\":{},\"nbformat\":4,\"nbformat_minor\":5}")

refused-1 : fault_of_bytes (codes "") ≡ Some not_json
unfolding opens
refused-1 = refl

refused-2 : fault_of_bytes (codes "{") ≡ Some not_json
unfolding opens
refused-2 = refl

refused-3 : fault_of_bytes (codes "[1.5") ≡ Some not_json
unfolding opens
refused-3 = refl

refused-4 : fault_of_bytes (codes "{\"nbformat\":1e999}") ≡ Some not_json
unfolding opens
refused-4 = refl

refused-5 : fault_of_bytes (codes "[]") ≡ Some (not_notebook format_key)
unfolding opens
refused-5 = refl

refused-6 : fault_of_bytes (codes "1.5") ≡ Some (not_notebook format_key)
unfolding opens
refused-6 = refl

refused-7 : fault_of_bytes (codes "{}") ≡ Some (not_notebook format_key)
unfolding opens
refused-7 = refl

refused-8 : fault_of_bytes (codes "{\"nbformat\":3,\"nbformat_minor\":5}") ≡ Some (not_notebook format_key)
unfolding opens
refused-8 = refl

refused-9 : fault_of_bytes (codes "{\"nbformat\":4.0,\"nbformat_minor\":5}") ≡ Some (not_notebook format_key)
unfolding opens
refused-9 = refl

refused-10 : fault_of_bytes (codes "{\"nbformat\":\"4\",\"nbformat_minor\":5}") ≡ Some (not_notebook format_key)
unfolding opens
refused-10 = refl

refused-11 : fault_of_bytes (codes "{\"nbformat\":4}") ≡ Some (not_notebook minor_key)
unfolding opens
refused-11 = refl

refused-12 : fault_of_bytes (codes "{\"nbformat\":4,\"nbformat_minor\":-1,\"metadata\":[]}") ≡ Some (not_notebook minor_key)
unfolding opens
refused-12 = refl

refused-13 : fault_of_bytes (codes "{\"nbformat\":4,\"nbformat_minor\":18446744073709551616}") ≡ Some (not_notebook minor_key)
unfolding opens
refused-13 = refl

refused-14 : fault_of_bytes (codes "{\"nbformat\":4,\"nbformat_minor\":4}") ≡ Some (not_notebook metadata_key)
unfolding opens
refused-14 = refl

refused-15 : fault_of_bytes (codes "{\"nbformat\":4,\"nbformat_minor\":4,\"metadata\":[],\"cells\":{}}") ≡ Some (not_notebook metadata_key)
unfolding opens
refused-15 = refl

refused-16 : fault_of_bytes (codes "{\"nbformat\":4,\"nbformat_minor\":4,\"metadata\":{}}") ≡ Some (not_notebook cells_key)
unfolding opens
refused-16 = refl

refused-17 : fault_of_bytes (codes "{\"nbformat\":4,\"nbformat_minor\":4,\"metadata\":{},\"cells\":{}}") ≡ Some (not_notebook cells_key)
unfolding opens
refused-17 = refl

refused-18 : fault_of_bytes (codes "{\"nbformat\":4,\"nbformat_minor\":4,\"metadata\":{},\"cells\":[0]}") ≡ Some (version 4)
unfolding opens
refused-18 = refl

refused-19 : fault_of_bytes (codes "{\"nbformat\":4,\"nbformat_minor\":18446744073709551615,\"metadata\":{},\"cells\":[]}") ≡ Some (version 18446744073709551615)
unfolding opens
refused-19 = refl

refused-20 : fault_of_bytes (codes "{\"nbformat\":4,\"nbformat_minor\":5,\"metadata\":{\"a\":1.5},\"cells\":[]}") ≡ Some not_whole
unfolding opens
refused-20 = refl

refused-21 : fault_of_bytes (codes "{\"nbformat\":4,\"nbformat_minor\":5,\"metadata\":{\"a\":[{\"b\":-0}]},\"cells\":[]}") ≡ Some not_whole
unfolding opens
refused-21 = refl

refused-22 : fault_of_bytes (codes "{\"nbformat\":4,\"nbformat_minor\":5,\"metadata\":{\"a\":1.0},\"cells\":[0]}") ≡ Some (bad_cell 0)
unfolding opens
refused-22 = refl

cells-1 : fault_of_bytes (with_cells (codes "")) ≡ None
unfolding opens
cells-1 = refl

cells-2 : fault_of_bytes (with_cells (codes "{\"cell_type\":\"raw\",\"id\":\"a\",\"metadata\":{},\"source\":\"x\"}")) ≡ None
unfolding opens
cells-2 = refl

cells-3 : fault_of_bytes (with_cells (codes "{\"cell_type\":\"markdown\",\"id\":\"aZ09-_\",\"metadata\":{},\"source\":[]}")) ≡ None
unfolding opens
cells-3 = refl

cells-4 : fault_of_bytes (with_cells (codes "{\"cell_type\":\"code\",\"id\":\"a\",\"metadata\":{},\"source\":\"\",\"outputs\":[],\"execution_count\":null}")) ≡ None
unfolding opens
cells-4 = refl

cells-5 : fault_of_bytes (with_cells (codes "{\"cell_type\":\"code\",\"id\":\"a\",\"metadata\":{},\"source\":\"\",\"outputs\":[{\"output_type\":\"x\"}],\"execution_count\":0}")) ≡ None
unfolding opens
cells-5 = refl

cells-6 : fault_of_bytes (with_cells (codes "0")) ≡ Some (bad_cell 0)
unfolding opens
cells-6 = refl

cells-7 : fault_of_bytes (with_cells (codes "{}")) ≡ Some (bad_cell 0)
unfolding opens
cells-7 = refl

cells-8 : fault_of_bytes (with_cells (codes "{\"cell_type\":\"heading\",\"id\":\"a\",\"metadata\":{},\"source\":\"\"}")) ≡ Some (bad_cell 0)
unfolding opens
cells-8 = refl

cells-9 : fault_of_bytes (with_cells (codes "{\"cell_type\":1,\"id\":\"a\",\"metadata\":{},\"source\":\"\"}")) ≡ Some (bad_cell 0)
unfolding opens
cells-9 = refl

cells-10 : fault_of_bytes (with_cells (codes "{\"cell_type\":\"raw\",\"metadata\":{},\"source\":\"\"}")) ≡ Some (bad_cell 0)
unfolding opens
cells-10 = refl

cells-11 : fault_of_bytes (with_cells (codes "{\"cell_type\":\"raw\",\"id\":1,\"metadata\":{},\"source\":\"\"}")) ≡ Some (bad_cell 0)
unfolding opens
cells-11 = refl

cells-12 : fault_of_bytes (with_cells (codes "{\"cell_type\":\"raw\",\"id\":\"\",\"metadata\":{},\"source\":\"\"}")) ≡ Some (bad_cell 0)
unfolding opens
cells-12 = refl

cells-13 : fault_of_bytes (with_cells (codes "{\"cell_type\":\"raw\",\"id\":\"a b\",\"metadata\":{},\"source\":\"\"}")) ≡ Some (bad_cell 0)
unfolding opens
cells-13 = refl

cells-14 : fault_of_bytes (with_cells (codes "{\"cell_type\":\"raw\",\"id\":\"" ++ 195 ∷ 169 ∷ codes "\",\"metadata\":{},\"source\":\"\"}")) ≡ Some (bad_cell 0)
unfolding opens
cells-14 = refl

cells-15 : fault_of_bytes (with_cells (codes "{\"cell_type\":\"raw\",\"id\":\"0123456789012345678901234567890123456789012345678901234567890123\",\"metadata\":{},\"source\":\"\"}")) ≡ None
unfolding opens
cells-15 = refl

cells-16 : fault_of_bytes (with_cells (codes "{\"cell_type\":\"raw\",\"id\":\"01234567890123456789012345678901234567890123456789012345678901234\",\"metadata\":{},\"source\":\"\"}")) ≡ Some (bad_cell 0)
unfolding opens
cells-16 = refl

cells-17 : fault_of_bytes (with_cells (codes "{\"cell_type\":\"raw\",\"id\":\"a\",\"source\":\"\"}")) ≡ Some (bad_cell 0)
unfolding opens
cells-17 = refl

cells-18 : fault_of_bytes (with_cells (codes "{\"cell_type\":\"raw\",\"id\":\"a\",\"metadata\":[],\"source\":\"\"}")) ≡ Some (bad_cell 0)
unfolding opens
cells-18 = refl

cells-19 : fault_of_bytes (with_cells (codes "{\"cell_type\":\"raw\",\"id\":\"a\",\"metadata\":{}}")) ≡ Some (bad_cell 0)
unfolding opens
cells-19 = refl

cells-20 : fault_of_bytes (with_cells (codes "{\"cell_type\":\"raw\",\"id\":\"a\",\"metadata\":{},\"source\":null}")) ≡ Some (bad_cell 0)
unfolding opens
cells-20 = refl

cells-21 : fault_of_bytes (with_cells (codes "{\"cell_type\":\"raw\",\"id\":\"a\",\"metadata\":{},\"source\":[\"x\",1]}")) ≡ Some (bad_cell 0)
unfolding opens
cells-21 = refl

cells-22 : fault_of_bytes (with_cells (codes "{\"cell_type\":\"code\",\"id\":\"a\",\"metadata\":{},\"source\":\"\",\"execution_count\":null}")) ≡ Some (bad_cell 0)
unfolding opens
cells-22 = refl

cells-23 : fault_of_bytes (with_cells (codes "{\"cell_type\":\"code\",\"id\":\"a\",\"metadata\":{},\"source\":\"\",\"outputs\":{},\"execution_count\":null}")) ≡ Some (bad_cell 0)
unfolding opens
cells-23 = refl

cells-24 : fault_of_bytes (with_cells (codes "{\"cell_type\":\"code\",\"id\":\"a\",\"metadata\":{},\"source\":\"\",\"outputs\":[[]],\"execution_count\":null}")) ≡ Some (bad_cell 0)
unfolding opens
cells-24 = refl

cells-25 : fault_of_bytes (with_cells (codes "{\"cell_type\":\"code\",\"id\":\"a\",\"metadata\":{},\"source\":\"\",\"outputs\":[{\"output_type\":1}],\"execution_count\":null}")) ≡ Some (bad_cell 0)
unfolding opens
cells-25 = refl

cells-26 : fault_of_bytes (with_cells (codes "{\"cell_type\":\"code\",\"id\":\"a\",\"metadata\":{},\"source\":\"\",\"outputs\":[]}")) ≡ Some (bad_cell 0)
unfolding opens
cells-26 = refl

cells-27 : fault_of_bytes (with_cells (codes "{\"cell_type\":\"code\",\"id\":\"a\",\"metadata\":{},\"source\":\"\",\"outputs\":[],\"execution_count\":-1}")) ≡ Some (bad_cell 0)
unfolding opens
cells-27 = refl

cells-28 : fault_of_bytes (with_cells (codes "{\"cell_type\":\"code\",\"id\":\"a\",\"metadata\":{},\"source\":\"\",\"outputs\":[],\"execution_count\":1.0}")) ≡ Some (bad_cell 0)
unfolding opens
cells-28 = refl

cells-29 : fault_of_bytes (with_cells (codes "{\"cell_type\":\"raw\",\"id\":\"a\",\"metadata\":{},\"source\":\"\"},{\"cell_type\":\"raw\",\"id\":\"a\",\"metadata\":{},\"source\":\"\"}")) ≡ Some (repeated_id 1)
unfolding opens
cells-29 = refl

cells-30 : fault_of_bytes (with_cells (codes "{\"cell_type\":\"raw\",\"id\":\"a\",\"metadata\":{},\"source\":\"\"},{\"cell_type\":\"raw\",\"id\":\"a\",\"metadata\":{},\"source\":\"\"},0")) ≡ Some (bad_cell 2)
unfolding opens
cells-30 = refl

cells-31 : fault_of_bytes (with_cells (codes "{\"cell_type\":\"raw\",\"id\":\"a\",\"metadata\":{\"a\":0.5},\"source\":\"\"},{\"cell_type\":\"raw\",\"id\":\"a\",\"metadata\":{},\"source\":\"\"}")) ≡ Some (repeated_id 1)
unfolding opens
cells-31 = refl

cells-32 : fault_of_bytes (with_cells (codes "{\"cell_type\":\"code\",\"id\":\"a\",\"metadata\":{},\"source\":\"\",\"outputs\":[{\"output_type\":\"x\",\"y\":1e3}],\"execution_count\":1}")) ≡ Some not_whole
unfolding opens
cells-32 = refl

cells-33 : fault_of_bytes (with_cells (codes "{\"cell_type\":\"raw\",\"id\":\"a\",\"metadata\":{\"a\":-9223372036854775808,\"b\":18446744073709551615},\"source\":\"\"}")) ≡ None
unfolding opens
cells-33 = refl
