-- Pictures have no more nodes than bytes.
use Rattle.std.specs.Prelude.{◌≤◌, List, [], ◌∷◌, length, flat_map}
use Rattle.std.proofs.Common.{arith, length-append}
use Rattle.kishu_meaning.specs.values.Values.{Node, list, tuple, dict, object, function, exception, State}
use Rattle.kishu_objects.specs.Bytes.{name_bytes, row_bytes, state_bytes, many, in_four}

-- each row of a picture has a byte
pub some_byte : (m : Node) → 1 ≤ length (row_bytes m)
some_byte (list vs) = omega arith
some_byte (tuple vs) = omega arith
some_byte (dict es) = omega arith
some_byte (object es) = omega arith
some_byte (function profile code vs) = omega arith
some_byte (exception kind vs) = omega arith

pub rows_long : (ms : List Node) → length ms ≤ length (flat_map row_bytes ms)
rows_long [] = omega arith
rows_long (m ∷ ms) =
    let here = some_byte m in
    let rest = rows_long ms in
    let all = length-append (row_bytes m) (flat_map row_bytes ms) in
    omega (arith, here, rest, all)

pub nodes_fit : (p : State) → length p.nodes ≤ length (state_bytes p)
nodes_fit p =
    let rows = rows_long p.nodes in
    let front = length-append (in_four (length p.nodes)) (flat_map row_bytes p.nodes) in
    let all = length-append (many name_bytes p.names) (many row_bytes p.nodes) in
    omega (arith, rows, front, all)
