-- A picture that is read into a heap: the numbers of its nodes go behind those of the heap's nodes.
use Rattle.std.specs.Prelude.{ℕ, pos, ◌+◌, ◌^◌, zero, suc, ◌==◌, not, nat_le, nat_lt, Bool, true, ◌&&◌, if◌then◌else◌, List, [], ◌∷◌, Option, Some, None, Ok, Err}
use Rattle.std.specs.List.{list_any}
use Rattle.std.specs.Ordering.{int_eq}
use Rattle.std.specs.Str.{bytes_eq}
use Rattle.kishu_language.specs.Limits.{longest_text}
use Rattle.kishu_language.specs.tokens.Names.{is_name}
use Rattle.kishu_meaning.specs.values.Keys.{Key, KeyPart, is_one}
use Rattle.kishu_meaning.specs.values.Sound.{is_exception_class}
use Rattle.kishu_meaning.specs.values.Values.{Value, range, Node, list, tuple, dict, object, function, exception, Names, State}
use Rattle.kishu_objects.specs.Picture.{renumbered}
use Rattle.kishu_reading.specs.FromBytes.{Reading, Reader, ◌>>=◌, give, keeping, only_if, repeated, byte, bytes, number, whole_number, value, part, key, short_name, profile, is_code, code_defaults, is_number, is_behind, node_count, at_end}

-- what is read, as another thing
abbrev pub read_as : {A B : Type 0} → (A → B) → Reading A → Reading B
read_as f (Ok r) = Ok (f r.0, r.1)
read_as f (Err left) = Err left

abbrev pub moved : ℕ → Value → Value
moved base = renumbered (λ i. base + i)

-- The nodes that may be named: those of a picture that has so many, or any where that isn't read yet.
abbrev pub is_there : Option ℕ → ℕ → Bool
is_there None i = true
is_there (Some count) i = nat_lt i count

-- no number of a value is as high
abbrev pub top : ℕ → Option ℕ → ℕ
top base None = 2 ^ 32
top base (Some count) = base + count

-- a value, with a node's number among the heap's
unfoldable pub moved_value : ℕ → Option ℕ → Reader Value
moved_value base count s = read_as (moved base) (value (is_there count) s)

-- a range, whose step isn't 0
abbrev pub range_by : Reader Value
range_by =
    whole_number >>= λ start. whole_number >>= λ stop.
    keeping (λ step. not (int_eq step (pos 0))) whole_number >>= λ step. give (range start stop step)

-- a part of a key, as one word
unfoldable pub one_part : Reader KeyPart
one_part s = part s

abbrev pub parts_by : Reader (List KeyPart)
parts_by = number >>= λ n. repeated n one_part

-- a key, as one word
unfoldable pub one_key : Reader Key
one_key s = key s

-- an attribute's name, as one word
unfoldable pub attribute : Reader (List ℕ)
attribute s = short_name is_name s

-- a name behind the last one, as one word
unfoldable pub name_behind : Option (List ℕ) → Reader (List ℕ)
name_behind last s = short_name (λ x. is_name x && is_behind last x) s

-- ---- rows whose values a reader reads

abbrev pub values_by : Reader Value → Reader (List Value)
values_by v = number >>= λ n. repeated n v

-- so many pairs, of which no key is one of those that were seen or of those before it
abbrev pub pairs_by : {K : Type 0} → (K → K → Bool) → Reader K → Reader Value
    → ℕ → List K → Reader (List (K × Value))
pairs_by same one v zero seen = give []
pairs_by same one v (suc n) seen =
    keeping (λ x. not (list_any (same x) seen)) one >>= λ x. v >>= λ w.
    pairs_by same one v n (x ∷ seen) >>= λ es. give ((x, w) ∷ es)

abbrev pub entries_by : Reader Value → ℕ → Reader (List (Key × Value))
entries_by v n = pairs_by is_one one_key v n []

abbrev pub attributes_by : Reader Value → ℕ → Reader (List (List ℕ × Value))
attributes_by v n = pairs_by bytes_eq attribute v n []

unfoldable pub function_by : Reader Value → Reader Node
function_by v =
    profile >>= λ rules. keeping (λ n. nat_le n longest_text) number >>= λ n.
    keeping (is_code rules) (bytes n) >>= λ code.
    keeping (is_number (code_defaults rules code)) number >>= λ many.
    repeated many v >>= λ vs. give (function rules code vs)

abbrev pub dict_by : Reader Value → Reader Node
dict_by v = number >>= λ n. entries_by v n >>= λ es. give (dict es)

abbrev pub object_by : Reader Value → Reader Node
object_by v = number >>= λ n. attributes_by v n >>= λ as'. give (object as')

abbrev pub exception_by : Reader Value → Reader Node
exception_by v = keeping is_exception_class byte >>= λ c. values_by v >>= λ vs. give (exception c vs)

abbrev pub row_behind_by : Reader Value → ℕ → Reader Node
row_behind_by v kind =
    if kind == 1 then (values_by v >>= λ vs. give (list vs))
    else if kind == 2 then (values_by v >>= λ vs. give (tuple vs))
    else if kind == 3 then dict_by v
    else if kind == 4 then object_by v
    else if kind == 5 then function_by v
    else exception_by v

unfoldable pub row_by : Reader Value → Reader Node
row_by v = keeping (λ kind. nat_le 1 kind && nat_le kind 6) byte >>= row_behind_by v

abbrev pub rows_by : Reader Value → (n r : ℕ) → Reader (List Node)
rows_by v zero r = give []
rows_by v (suc n) r = λ s.
    only_if (nat_lt r s.met) (row_by v >>= λ m. rows_by v n (suc r) >>= λ ms. give (m ∷ ms)) s

abbrev pub names_by : Reader Value → ℕ → Option (List ℕ) → Reader Names
names_by v zero last = give []
names_by v (suc n) last =
    name_behind last >>= λ x. v >>= λ w. names_by v n (Some x) >>= λ ns. give ((x, w) ∷ ns)

-- the whole picture, with the numbers of its nodes behind so many
unfoldable pub moved_picture : ℕ → Reader State
moved_picture base =
    number >>= λ n. names_by (moved_value base None) n None >>= λ ns. node_count >>= λ m.
    rows_by (moved_value base (Some m)) m 0 >>= λ ms. at_end (record { names = ns; nodes = ms })
