-- The bytes of a picture determine it.
use Rattle.std.specs.Prelude.{◌≡◌, ℕ, ◌^◌, ◌<◌, ℤ, ⊤, Bool, true, false, FitsSigned, List, [], ◌∷◌, ◌++◌, length, flat_map}
use Rattle.std.specs.Int.{w128}
use Rattle.std.specs.Str.{encode_utf8_all, chars}
use Rattle.std.specs.List.{AllByRecursion}
use Rattle.std.proofs.Common.{refl, ap, sym, ◌∙◌, arith, append_assoc}
use Rattle.std.proofs.lemmas.Str.{chars-encodes}
use Rattle.kishu_meaning.specs.values.Keys.{Key, KeyPart}
use Rattle.kishu_meaning.specs.values.Values.{Value, none, bool, integer, text, range, builtin, class, node, Node, list, tuple, dict, object, function, exception, Names, State}
use Rattle.kishu_meaning.specs.values.Keys as k
use Rattle.kishu_bytes.specs.Numbers.{sixteen, profile_number}
use Rattle.kishu_bytes_laws.specs.NumberLaws.{append-unique, four-unique, profile-unique, sixteen-unique}
use Rattle.kishu_objects.specs.Same.{SameOn}
use Rattle.kishu_objects.specs.Picture.{picture}
use Rattle.kishu_objects.specs.Sound.{IsSound}
use Rattle.kishu_objects.specs.Bytes.{in_four, short, long, many, value_bytes, part_bytes, key_bytes, entry_bytes, name_bytes, row_bytes, state_bytes, picture_bytes}
use Rattle.kishu_objects.specs.Fits.{IsCounted, Spells, ValueFits, PartFits, KeyFits, NodeFits, StateFits}
use Rattle.kishu_objects_laws.specs.SameLaws.{same_picture, picture_same}

-- Two things that are written alike, with more behind, are one.
abbrev pub Reads : {A : Type 0} → (A → List ℕ) → (A → Type 0) → Type 0
Reads {A} bytes Ok = (a b : A) (x y : List ℕ) → Ok a → Ok b → bytes a ++ x ≡ bytes b ++ y → (a ≡ b) × (x ≡ y)

pub reads_four : Reads in_four (λ n. n < 2 ^ 32)
unfolding in_four
reads_four m n x y hm hn e = four-unique m n x y hm hn e

pub reads_sixteen : Reads sixteen (λ z. FitsSigned w128 z)
reads_sixteen = sixteen-unique

pub reads_short : Reads short (λ cs. ⊤)
reads_short a b x y ha hb e = let n : length a ≡ length b = cc in append-unique a b x y n (cc)

pub reads_long : Reads long IsCounted
unfolding in_four
reads_long a b x y ha hb e =
    let n = four-unique (length a) (length b) (a ++ x) (b ++ y) ha hb (sym (append_assoc (in_four (length a)) a x) ∙ e ∙ append_assoc (in_four (length b)) b y) in
    append-unique a b x y n.0 n.1

module _ {A : Type 0} (bytes : A → List ℕ) (Ok : A → Type 0) (reads : Reads bytes Ok) where
  all_read : (as' bs : List A) (x y : List ℕ) → length as' ≡ length bs → AllByRecursion Ok as' → AllByRecursion Ok bs → flat_map bytes as' ++ x ≡ flat_map bytes bs ++ y → (as' ≡ bs) × (x ≡ y)
  all_read [] [] x y n ha hb e = (refl, e)
  all_read (a ∷ as') (b ∷ bs) x y n ha hb e =
      let first = reads a b (flat_map bytes as' ++ x) (flat_map bytes bs ++ y) ha.0 hb.0 (sym (append_assoc (bytes a) (flat_map bytes as') x) ∙ e ∙ append_assoc (bytes b) (flat_map bytes bs) y) in
      let rest = all_read as' bs x y (omega arith) ha.1 hb.1 first.1 in
      (ap (λ l. a ∷ l) rest.0 ∙ ap (λ c. c ∷ bs) first.0, rest.1)
  all_read [] (b ∷ bs) x y n ha hb e = absurd (omega arith)
  all_read (a ∷ as') [] x y n ha hb e = absurd (omega arith)

  -- a number of things, and the things
  pub reads_many : Reads (many bytes) (λ as'. IsCounted as' × AllByRecursion Ok as')
  unfolding in_four
  reads_many a b x y ha hb e =
      let n = four-unique (length a) (length b) (flat_map bytes a ++ x) (flat_map bytes b ++ y) ha.0 hb.0 (sym (append_assoc (in_four (length a)) (flat_map bytes a) x) ∙ e ∙ append_assoc (in_four (length b)) (flat_map bytes b) y) in
      all_read a b x y n.0 ha.1 hb.1 n.1

-- ---- values, keys, nodes

reads_text : (a b x y : List ℕ) → Spells a → Spells b → long (encode_utf8_all a) ++ x ≡ long (encode_utf8_all b) ++ y → (a ≡ b) × (x ≡ y)
reads_text a b x y ha hb e =
    let r = reads_long (encode_utf8_all a) (encode_utf8_all b) x y ha.1 hb.1 e in
    (sym (chars-encodes a ha.0) ∙ ap chars r.0 ∙ chars-encodes b hb.0, r.1)

reads_three : (a b c d e f : ℤ) (x y : List ℕ) → FitsSigned w128 a × FitsSigned w128 b × FitsSigned w128 c → FitsSigned w128 d × FitsSigned w128 e × FitsSigned w128 f
    → (sixteen a ++ (sixteen b ++ sixteen c)) ++ x ≡ (sixteen d ++ (sixteen e ++ sixteen f)) ++ y → ((a ≡ d) × (b ≡ e) × (c ≡ f)) × (x ≡ y)
unfolding sixteen
reads_three a b c d e f x y ha hb g =
    let first = reads_sixteen a d ((sixteen b ++ sixteen c) ++ x) ((sixteen e ++ sixteen f) ++ y) ha.0 hb.0 g in
    let second = reads_sixteen b e (sixteen c ++ x) (sixteen f ++ y) ha.1 hb.1 first.1 in
    let third = reads_sixteen c f x y ha.2 hb.2 second.1 in
    ((first.0, second.0, third.0), third.1)

bool_value : (b : Bool) (v : Value) (x y : List ℕ) → value_bytes (bool b) ++ x ≡ value_bytes v ++ y → (c : Bool) × (v ≡ bool c)
bool_value true (bool c) x y e = (c, refl)
bool_value false (bool c) x y e = (c, refl)
bool_value true v x y e = absurd (cc)
bool_value false v x y e = absurd (cc)

bool_part : (b : Bool) (p : KeyPart) (x y : List ℕ) → part_bytes (k.bool b) ++ x ≡ part_bytes p ++ y → (c : Bool) × (p ≡ k.bool c)
bool_part true (k.bool c) x y e = (c, refl)
bool_part false (k.bool c) x y e = (c, refl)
bool_part true p x y e = absurd (cc)
bool_part false p x y e = absurd (cc)

-- a value
pub reads_value : Reads value_bytes ValueFits
reads_value none none x y ha hb e = (refl, cc)
reads_value (bool false) (bool false) x y ha hb e = (refl, cc)
reads_value (bool true) (bool true) x y ha hb e = (refl, cc)
reads_value (integer a) (integer b) x y ha hb e = (let r = reads_sixteen a b x y ha hb (cc) in (ap integer r.0, r.1))
reads_value (text a) (text b) x y ha hb e = (let r = reads_text a b x y ha hb (cc) in (ap text r.0, r.1))
reads_value (range a b c) (range d f g) x y ha hb e = (let r = reads_three a b c d f g x y ha hb (cc) in let p = r.0.0 in let q = r.0.1 in let o = r.0.2 in (cc, r.1))
reads_value (builtin a) (builtin b) x y ha hb e = (cc, cc)
reads_value (class a) (class b) x y ha hb e = (cc, cc)
reads_value (node a) (node b) x y ha hb e = (let r = reads_four a b x y ha hb (cc) in (ap node r.0, r.1))
reads_value (bool b) w x y ha hb e = absurd (let r = bool_value b w x y e in let p : w ≡ bool r.0 = r.1 in cc)
reads_value v (bool b) x y ha hb e = absurd (let r = bool_value b v y x (sym e) in let p : v ≡ bool r.0 = r.1 in cc)
reads_value v w x y ha hb e = absurd (cc)

-- a part of a key
pub reads_part : Reads part_bytes PartFits
reads_part k.none k.none x y ha hb e = (refl, cc)
reads_part (k.bool false) (k.bool false) x y ha hb e = (refl, cc)
reads_part (k.bool true) (k.bool true) x y ha hb e = (refl, cc)
reads_part (k.integer a) (k.integer b) x y ha hb e = (let r = reads_sixteen a b x y ha hb (cc) in (ap k.integer r.0, r.1))
reads_part (k.text a) (k.text b) x y ha hb e = (let r = reads_text a b x y ha hb (cc) in (ap k.text r.0, r.1))
reads_part (k.bool b) q x y ha hb e = absurd (let r = bool_part b q x y e in let f : q ≡ k.bool r.0 = r.1 in cc)
reads_part p (k.bool b) x y ha hb e = absurd (let r = bool_part b p y x (sym e) in let f : p ≡ k.bool r.0 = r.1 in cc)
reads_part p q x y ha hb e = absurd (cc)

no_tuple : (p : KeyPart) (ps : List KeyPart) (x y : List ℕ) → part_bytes p ++ x ≡ (9 ∷ many part_bytes ps) ++ y → ⊥
no_tuple k.none ps x y e = cc
no_tuple (k.bool false) ps x y e = cc
no_tuple (k.bool true) ps x y e = cc
no_tuple (k.integer z) ps x y e = cc
no_tuple (k.text cs) ps x y e = cc

-- a key
pub reads_key : Reads key_bytes KeyFits
reads_key (k.single p) (k.single q) x y ha hb e = (let r = reads_part p q x y ha hb e in (ap k.single r.0, r.1))
reads_key (k.tuple ps) (k.tuple qs) x y ha hb e = (let r = reads_many part_bytes PartFits reads_part ps qs x y ha hb (cc) in (ap k.tuple r.0, r.1))
reads_key (k.single p) (k.tuple qs) x y ha hb e = absurd (no_tuple p qs x y e)
reads_key (k.tuple ps) (k.single q) x y ha hb e = absurd (no_tuple q ps y x (sym e))

reads_entry : Reads entry_bytes (λ (e : Key × Value). KeyFits e.0 × ValueFits e.1)
reads_entry a b x y ha hb e =
    let f = reads_key a.0 b.0 (value_bytes a.1 ++ x) (value_bytes b.1 ++ y) ha.0 hb.0 (sym (append_assoc (key_bytes a.0) (value_bytes a.1) x) ∙ e ∙ append_assoc (key_bytes b.0) (value_bytes b.1) y) in
    let g = reads_value a.1 b.1 x y ha.1 hb.1 f.1 in
    (ap {B = Key × Value} (λ c. (c, a.1)) f.0 ∙ ap {B = Key × Value} (λ v. (b.0, v)) g.0, g.1)

reads_name : Reads name_bytes (λ (b : List ℕ × Value). ValueFits b.1)
reads_name a b x y ha hb e =
    let f = reads_short a.0 b.0 (value_bytes a.1 ++ x) (value_bytes b.1 ++ y) tt tt (sym (append_assoc (short a.0) (value_bytes a.1) x) ∙ e ∙ append_assoc (short b.0) (value_bytes b.1) y) in
    let g = reads_value a.1 b.1 x y ha hb f.1 in
    (ap {B = List ℕ × Value} (λ c. (c, a.1)) f.0 ∙ ap {B = List ℕ × Value} (λ v. (b.0, v)) g.0, g.1)

reads_row : Reads row_bytes NodeFits
reads_row (list vs) (list ws) x y ha hb e = (let r = reads_many value_bytes ValueFits reads_value vs ws x y ha hb (cc) in (ap list r.0, r.1))
reads_row (tuple vs) (tuple ws) x y ha hb e = (let r = reads_many value_bytes ValueFits reads_value vs ws x y ha hb (cc) in (ap tuple r.0, r.1))
reads_row (dict vs) (dict ws) x y ha hb e = (let r = reads_many entry_bytes _ reads_entry vs ws x y ha hb (cc) in (ap dict r.0, r.1))
reads_row (object vs) (object ws) x y ha hb e = (let r = reads_many name_bytes _ reads_name vs ws x y ha hb (cc) in (ap object r.0, r.1))
reads_row (function p c vs) (function q d ws) x y ha hb e =
    let u : (long c ++ many value_bytes vs) ++ x ≡ (long d ++ many value_bytes ws) ++ y = cc in
    let f = reads_long c d (many value_bytes vs ++ x) (many value_bytes ws ++ y) ha.0 hb.0 (sym (append_assoc (long c) (many value_bytes vs) x) ∙ u ∙ append_assoc (long d) (many value_bytes ws) y) in
    let r = reads_many value_bytes ValueFits reads_value vs ws x y ha.1 hb.1 f.1 in
    let n : profile_number p ≡ profile_number q = cc in
    let o = profile-unique p q n in
    let g = f.0 in
    let h = r.0 in
    (cc, r.1)
reads_row (exception i vs) (exception j ws) x y ha hb e = (let r = reads_many value_bytes ValueFits reads_value vs ws x y ha hb (cc) in let p : i ≡ j = cc in let q = r.0 in (cc, r.1))
reads_row m n x y ha hb e = absurd (cc)

abbrev made : Names → List Node → State
made a m = record { names = a; nodes = m }

one_state : (a b : Names) (m n : List Node) → a ≡ b → m ≡ n → made a m ≡ made b n
one_state a b m n e f = ap (λ c. made c m) e ∙ ap (made b) f

-- Two pictures with the same bytes are one.
pub reads_state : (s t : State) → StateFits s → StateFits t → state_bytes s ≡ state_bytes t → s ≡ t
reads_state s t hs ht e =
    let f = reads_many name_bytes _ reads_name s.names t.names (many row_bytes s.nodes) (many row_bytes t.nodes) hs.0 ht.0 e in
    let g = reads_many row_bytes NodeFits reads_row s.nodes t.nodes [] [] hs.1 ht.1 (ap (λ l. l ++ []) f.1) in
    one_state s.names t.names s.nodes t.nodes f.0 g.0

-- ---- equal bytes exactly where the same

-- States that are the same on names have pictures with equal bytes.
pub same_bytes : (s t : State) (names : List (List ℕ)) → IsSound s → IsSound t → SameOn s t names → picture_bytes s names ≡ picture_bytes t names
same_bytes s t names sound other h = ap state_bytes (same_picture s t sound other names h)

-- States whose pictures have equal bytes are the same on the names, where the pictures can be written.
pub bytes_same : (s t : State) (names : List (List ℕ)) → IsSound s → IsSound t → StateFits (picture s names) → StateFits (picture t names) → picture_bytes s names ≡ picture_bytes t names → SameOn s t names
bytes_same s t names sound other fits fit e = picture_same s t sound other names (reads_state (picture s names) (picture t names) fits fit e)
