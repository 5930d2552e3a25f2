-- What can be written as bytes: whole numbers of 128 bits, texts of scalars, and no more of anything than four bytes count.
use Rattle.std.specs.Prelude.{◌≡◌, ◌^◌, ◌<◌, ℕ, ⊤, true, FitsSigned, List, length}
use Rattle.std.specs.Int.{w128}
use Rattle.std.specs.Str.{encode_utf8_all, all_scalars}
use Rattle.std.specs.List.{AllByRecursion}
use Rattle.kishu_meaning.specs.values.Keys.{Key, KeyPart}
use Rattle.kishu_meaning.specs.values.Keys as k
use Rattle.kishu_meaning.specs.values.Values.{Value, integer, text, range, node, Node, list, tuple, dict, object, function, exception, State}

-- Four bytes count it.
abbrev pub IsCounted : {A : Type 0} → List A → Type 0
IsCounted as' = length as' < 2 ^ 32

-- UTF-8 has the text's code points, and four bytes count what it makes of them.
abbrev pub Spells : List ℕ → Type 0
Spells cs = (all_scalars cs ≡ true) × IsCounted (encode_utf8_all cs)

-- A whole number has 128 bits, and four bytes hold the number of a node.
abbrev pub ValueFits : Value → Type 0
ValueFits (integer z) = FitsSigned w128 z
ValueFits (text cs) = Spells cs
ValueFits (range start stop step) = FitsSigned w128 start × FitsSigned w128 stop × FitsSigned w128 step
ValueFits (node i) = i < 2 ^ 32
ValueFits v = ⊤

-- the same of a part of a key
abbrev pub PartFits : KeyPart → Type 0
PartFits (k.integer z) = FitsSigned w128 z
PartFits (k.text cs) = Spells cs
PartFits p = ⊤

-- Each fits, and they are counted.
abbrev pub AllFit : {A : Type 0} → (A → Type 0) → List A → Type 0
AllFit Fits as' = IsCounted as' × AllByRecursion Fits as'

-- Each part fits.
abbrev pub KeyFits : Key → Type 0
KeyFits (k.single p) = PartFits p
KeyFits (k.tuple ps) = AllFit PartFits ps

-- Each key and each value fits.
abbrev pub NodeFits : Node → Type 0
NodeFits (list vs) = AllFit ValueFits vs
NodeFits (tuple vs) = AllFit ValueFits vs
NodeFits (dict es) = AllFit (λ (e : Key × Value). KeyFits e.0 × ValueFits e.1) es
NodeFits (object as') = AllFit (λ (a : List ℕ × Value). ValueFits a.1) as'
NodeFits (function profile code vs) = IsCounted code × AllFit ValueFits vs
NodeFits (exception kind vs) = AllFit ValueFits vs

-- Each value of a name and each node fits.
abbrev pub StateFits : State → Type 0
StateFits s = AllFit (λ (b : List ℕ × Value). ValueFits b.1) s.names × AllFit NodeFits s.nodes
