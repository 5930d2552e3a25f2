-- A picture read from bytes: from the front, field by field, up to the first field that isn't whole or breaks its rule. Numbers are big-endian.
use Rattle.std.specs.Prelude.{ℕ, zero, suc, ◌-◌, ℤ, pos, ◌==◌, nat_le, nat_lt, Bool, true, false, not, ◌&&◌, ◌||◌, if◌then◌else◌, List, [], ◌∷◌, length, take, drop, Option, Some, None, Result, Ok, Err}
use Rattle.std.specs.Int.{w32, w128, from_be_bytes, cast_signed}
use Rattle.std.specs.List.{list_any}
use Rattle.std.specs.Str.{bytes_eq, chars, all_scalars, encode_utf8_all}
use Rattle.std.specs.Ordering.{nat_cmp, int_eq, match_ordering}
use Rattle.std.specs.Cmp.Lexicographic.{slice_cmp}
use Rattle.kishu_language.specs.Limits.{longest_text}
use Rattle.kishu_language.specs.declared.profile.Profile.{Profile}
use Rattle.kishu_language.specs.declared.profile.Profile.TheVariants.{One}
use Rattle.kishu_language.specs.reading.ReadText.{read_chars}
use Rattle.kishu_language.specs.tokens.Names.{is_name}
use Rattle.kishu_language.specs.trees.Tree.{Text, Statement}
use Rattle.kishu_language.specs.trees.Tree as t
use Rattle.kishu_meaning.specs.values.Keys.{Key, KeyPart, is_one}
use Rattle.kishu_meaning.specs.values.Keys as k
use Rattle.kishu_meaning.specs.values.Sound.{builtins, classes, is_exception_class, with_default}
use Rattle.kishu_meaning.specs.values.Values.{Value, none, bool, integer, text, range, builtin, class, node, Node, list, tuple, dict, object, function, exception, Names, State}

-- Where reading stands: the bytes that are left, and how many nodes were met.
pub record Front : Type 0 where
  pub rest : List ℕ
  pub met : ℕ

-- What is read and where reading stands then; or how many bytes are left where the field begins that is at fault.
abbrev pub Reading : Type 0 → Type 0
Reading A = Result (A × Front) ℕ

abbrev pub Reader : Type 0 → Type 0
Reader A = Front → Reading A

abbrev pub and_then : {A B : Type 0} → Reading A → (A → Reader B) → Reading B
and_then (Ok r) f = f r.0 r.1
and_then (Err left) f = Err left

infixl 10 ◌>>=◌
abbrev pub ◌>>=◌ : {A B : Type 0} → Reader A → (A → Reader B) → Reader B
p >>= f = λ s. and_then (p s) f

abbrev pub give : {A : Type 0} → A → Reader A
give a = λ s. Ok (a, s)

-- A fault where reading stands, unless so.
abbrev pub only_if : {A : Type 0} → Bool → Reader A → Reader A
only_if b p = λ s. if b then p s else Err (length s.rest)

-- What keeps a rule; a fault is where it begins.
abbrev pub keeping : {A : Type 0} → (A → Bool) → Reader A → Reader A
keeping rule p = λ s. and_then (p s) (λ a t. if rule a then Ok (a, t) else Err (length s.rest))

-- so many things, one after another
abbrev pub repeated : {A : Type 0} → ℕ → Reader A → Reader (List A)
repeated zero p = give []
repeated (suc n) p = p >>= λ a. repeated n p >>= λ as'. give (a ∷ as')

-- ---- fields

abbrev pub first_byte : List ℕ → ℕ → Reading ℕ
first_byte [] met = Err 0
first_byte (b ∷ bs) met = Ok (b, record { rest = bs; met = met })

abbrev pub byte : Reader ℕ
byte = λ s. first_byte s.rest s.met

abbrev pub bytes : ℕ → Reader (List ℕ)
bytes n = λ s. if nat_le n (length s.rest) then Ok (take n s.rest, record { rest = drop n s.rest; met = s.met }) else Err (length s.rest)

-- of four bytes
abbrev pub number : Reader ℕ
number = bytes 4 >>= λ bs. give (from_be_bytes w32 bs)

-- of sixteen bytes, in two's complement
abbrev pub whole_number : Reader ℤ
whole_number = bytes 16 >>= λ bs. give (cast_signed w128 (from_be_bytes w128 bs))

abbrev pub is_utf8 : List ℕ → Bool
is_utf8 bs = all_scalars (chars bs) && bytes_eq (encode_utf8_all (chars bs)) bs

-- the code points of a text that stands in UTF-8 behind its length
abbrev pub spelled : Reader (List ℕ)
spelled = number >>= λ n. keeping is_utf8 (bytes n) >>= λ bs. give (chars bs)

-- a name that keeps a rule, behind its length, which isn't 0
abbrev pub short_name : (List ℕ → Bool) → Reader (List ℕ)
short_name rule = keeping (λ n. not (n == 0)) byte >>= λ n. keeping rule (bytes n)

-- ---- values

-- The number of a node: at most that of the nodes met so far, of which there is one more then.
abbrev pub meets : ℕ → Front → Reading Value
meets i s = Ok (node i, record { rest = s.rest; met = if i == s.met then suc s.met else s.met })

abbrev pub node_number : (ℕ → Bool) → Reader Value
node_number there = λ s. (keeping (λ i. nat_le i s.met && there i) number >>= meets) s

-- a range, whose step isn't 0
abbrev pub range_of_three : Reader Value
range_of_three =
    whole_number >>= λ start. whole_number >>= λ stop.
    keeping (λ step. not (int_eq step (pos 0))) whole_number >>= λ step. give (range start stop step)

abbrev pub value_behind : (ℕ → Bool) → ℕ → Reader Value
value_behind there kind =
    if kind == 0 then give none
    else if kind == 1 then give (bool false)
    else if kind == 2 then give (bool true)
    else if kind == 3 then (whole_number >>= λ z. give (integer z))
    else if kind == 4 then (spelled >>= λ cs. give (text cs))
    else if kind == 5 then range_of_three
    else if kind == 6 then (keeping (λ n. nat_lt n builtins) byte >>= λ n. give (builtin n))
    else if kind == 7 then (keeping (λ n. nat_lt n classes) byte >>= λ n. give (class n))
    else node_number there

-- a value behind the number of its kind, where a rule says which nodes there are
abbrev pub value : (ℕ → Bool) → Reader Value
value there = keeping (λ kind. nat_le kind 8) byte >>= value_behind there

-- ---- keys

abbrev pub part_behind : ℕ → Reader KeyPart
part_behind kind =
    if kind == 0 then give k.none
    else if kind == 1 then give (k.bool false)
    else if kind == 2 then give (k.bool true)
    else if kind == 3 then (whole_number >>= λ z. give (k.integer z))
    else (spelled >>= λ cs. give (k.text cs))

abbrev pub part : Reader KeyPart
part = keeping (λ kind. nat_le kind 4) byte >>= part_behind

abbrev pub key_behind : ℕ → Reader Key
key_behind kind = if kind == 9 then (number >>= λ n. repeated n part >>= λ ps. give (k.tuple ps)) else (part_behind kind >>= λ p. give (k.single p))

abbrev pub key : Reader Key
key = keeping (λ kind. nat_le kind 4 || kind == 9) byte >>= key_behind

-- ---- rows

abbrev pub values : (ℕ → Bool) → Reader (List Value)
values there = number >>= λ n. repeated n (value there)

-- so many keys with their values, where the keys are none of these and no two of them are one
abbrev pub pairs : {K : Type 0} → (K → K → Bool) → Reader K → (ℕ → Bool) → ℕ → List K → Reader (List (K × Value))
pairs same one there zero seen = give []
pairs same one there (suc n) seen =
    keeping (λ x. not (list_any (same x) seen)) one >>= λ x. value there >>= λ v. pairs same one there n (x ∷ seen) >>= λ es. give ((x, v) ∷ es)

abbrev pub entries : (ℕ → Bool) → ℕ → Reader (List (Key × Value))
entries there n = pairs is_one key there n []

abbrev pub attributes : (ℕ → Bool) → ℕ → Reader (List (List ℕ × Value))
attributes there n = pairs bytes_eq (short_name is_name) there n []

-- The number of defaults of the function whose code a text is and nothing else.
abbrev pub defaults_of : Text → Statement → Option ℕ
defaults_of code (t.define title ps body own) = if bytes_eq own code then Some (with_default ps) else None
defaults_of code s = None

abbrev pub defaults_in : Text → Result (List Statement) ℕ → Option ℕ
defaults_in code (Ok (s ∷ [])) = defaults_of code s
defaults_in code r = None

unfoldable pub code_defaults : Profile → Text → Option ℕ
code_defaults profile code = defaults_in code (read_chars profile (chars code))

abbrev pub is_number : Option ℕ → ℕ → Bool
is_number None n = false
is_number (Some m) n = n == m

abbrev pub is_there : Option ℕ → Bool
is_there None = false
is_there (Some m) = true

abbrev pub is_code : Profile → Text → Bool
is_code profile code = is_utf8 code && is_there (code_defaults profile code)

-- The profile that a byte tells. There is one so far.
abbrev pub profile : Reader Profile
profile = keeping (λ n. n == 1) byte >>= λ n. give One

abbrev pub function_row : (ℕ → Bool) → Reader Node
function_row there =
    profile >>= λ rules. keeping (λ n. nat_le n longest_text) number >>= λ n. keeping (is_code rules) (bytes n) >>= λ code.
    keeping (is_number (code_defaults rules code)) number >>= λ many. repeated many (value there) >>= λ vs. give (function rules code vs)

abbrev pub row_behind : (ℕ → Bool) → ℕ → Reader Node
row_behind there kind =
    if kind == 1 then (values there >>= λ vs. give (list vs))
    else if kind == 2 then (values there >>= λ vs. give (tuple vs))
    else if kind == 3 then (number >>= λ n. entries there n >>= λ es. give (dict es))
    else if kind == 4 then (number >>= λ n. attributes there n >>= λ as'. give (object as'))
    else if kind == 5 then function_row there
    else (keeping is_exception_class byte >>= λ c. values there >>= λ vs. give (exception c vs))

abbrev pub row : (ℕ → Bool) → Reader Node
row there = keeping (λ kind. nat_le 1 kind && nat_le kind 6) byte >>= row_behind there

-- So many rows from the row r on. A row begins only where its node was met.
abbrev pub rows : (ℕ → Bool) → (n r : ℕ) → Reader (List Node)
rows there zero r = give []
rows there (suc n) r = λ s. only_if (nat_lt r s.met) (row there >>= λ m. rows there n (suc r) >>= λ ms. give (m ∷ ms)) s

-- ---- the picture

-- Whether a name is behind the last one, if there is one.
abbrev pub is_behind : Option (List ℕ) → List ℕ → Bool
is_behind None x = true
is_behind (Some last) x = match_ordering (slice_cmp nat_cmp last x) true false false

-- so many names, which rise
abbrev pub names : ℕ → Option (List ℕ) → Reader Names
names zero last = give []
names (suc n) last = short_name (λ x. is_name x && is_behind last x) >>= λ x. value (λ i. true) >>= λ v. names n (Some x) >>= λ ns. give ((x, v) ∷ ns)

-- the number of nodes, which isn't less than that of those met
abbrev pub node_count : Reader ℕ
node_count = λ s. keeping (nat_le s.met) number s

-- Nothing follows.
abbrev pub at_end : {A : Type 0} → A → Reader A
at_end a = λ s. only_if (length s.rest == 0) (give a) s

abbrev pub whole_picture : Reader State
whole_picture =
    number >>= λ n. names n None >>= λ ns. node_count >>= λ m. rows (λ i. nat_lt i m) m 0 >>= λ ms. at_end (record { names = ns; nodes = ms })

abbrev pub with_place : ℕ → Reading State → Result State ℕ
with_place size (Ok r) = Ok r.0
with_place size (Err left) = Err (size - left)

-- The state whose picture the bytes are, or the place of the fault: where the first field begins that isn't whole or breaks its rule.
unfoldable pub read_picture : List ℕ → Result State ℕ
read_picture bs = with_place (length bs) (whole_picture (record { rest = bs; met = 0 }))
