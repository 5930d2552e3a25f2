-- Texts, keys, items and methods make at most as many nodes as they take steps, and a method one more.
use Rattle.std.specs.Prelude.{◌≡◌, ℕ, zero, suc, ◌+◌, ◌-◌, ◌≤◌, nat_le, ℤ, Bool, true, false, if◌then◌else◌, List, [], ◌∷◌, ◌++◌, length, map, codes, Option, Some, None, option_and_then, slice_get}
use Rattle.std.proofs.Common.{refl, ap, arith, length-append, leb-true}
use Rattle.std.proofs.lemmas.List.{length-map}
use Rattle.kishu_meaning.specs.values.Keys as k
use Rattle.kishu_meaning.specs.values.Keys.{KeyPart, Key}
use Rattle.kishu_meaning.specs.values.Values.{Value, none, text, range, node, Node, list, tuple, dict}
use Rattle.kishu_meaning.specs.values.Nodes.{changed, replace_list}
use Rattle.kishu_meaning.specs.values.Texts.{is_nonempty, joined, pieces}
use Rattle.kishu_meaning.specs.moments.Moment.{Moment, Ends, fine, raised, stopped, M, and_then, ◌>>=◌, ◌>>◌, give, or_else, raise, raise_with, spend, look, make, change}
use Rattle.kishu_meaning.specs.moments.Counting.{Count, Counted, answer, too_deep, spent, counted, ended_in}
use Rattle.kishu_meaning_laws.specs.CountingLaws.{left_of, Falls, place_falls, count_falls, repr_falls, show_falls}
use Rattle.kishu_meaning.specs.values.Kinds.{value_error, index_error, no_key, no_attribute, not_iterable, bad_index, unhashable, bad_arguments}
use Rattle.kishu_meaning.specs.items.Indexes.{index_of, place_of}
use Rattle.kishu_meaning.specs.items.KeyOf.{part_in, parts_of, tuple_key, key_by, key_of_value, value_of_key, values_of_keys}
use Rattle.kishu_meaning.specs.items.Sequences.{node_count, count_in, node_items, items_of, walked, extended}
use Rattle.kishu_meaning.specs.items.Finding.{place_from, count_from, place_among, count_among}
use Rattle.kishu_meaning.specs.items.Sorting.{in_order, sort_steps}
use Rattle.kishu_meaning.specs.comparing.Show.{repr_in, repr_of, show_in, show}
use Rattle.kishu_meaning.specs.calls.Methods as m
use Rattle.kishu_meaning.specs.calls.Methods.{Method, call_method}

abbrev pub end_of : {A : Type 0} → Ends A → Moment
end_of (fine a t) = t
end_of (raised x t) = t
end_of (stopped t) = t

-- At the end, the nodes and the steps that are left are together at most this, and no step was given back.
abbrev pub Within : {A : Type 0} → ℕ → ℕ → Ends A → Type 0
Within most left e = (length (end_of e).nodes + (end_of e).left ≤ most) × ((end_of e).left ≤ left)

-- It makes at most as many nodes as it takes steps, and so many more.
pub record Grows {A : Type 0} (more : ℕ) (m : M A) : Type 0 where
  pub grows : (s : Moment) → Within (length s.nodes + s.left + more) s.left (m s)

-- ---- how such computations are put together

after : {A B : Type 0} (more : ℕ) (f : A → M B) → ((a : A) → Grows more (f a)) → (most left : ℕ) (e : Ends A) → Within most left e → Within (most + more) left (and_then e f)
after more f h most left (fine a t) w = (let v = (h a).grows t in (omega (arith, w.0, v.0), omega (arith, w.1, v.1)))
after more f h most left (raised x t) w = (omega (arith, w.0), w.1)
after more f h most left (stopped t) w = (omega (arith, w.0), w.1)

moved : {A : Type 0} (most most' left : ℕ) (e : Ends A) → most ≤ most' → Within most left e → Within most' left e
moved most most' left e fits w = (omega (arith, fits, w.0), w.1)

pub then_grows : {A B : Type 0} (j l : ℕ) (m : M A) (f : A → M B) → Grows j m → ((a : A) → Grows l (f a)) → Grows (j + l) (m >>= f)
then_grows j l m f hm hf = record { grows = λ s. moved _ _ s.left ((m >>= f) s) (omega arith) (after l f hf (length s.nodes + s.left + j) s.left (m s) (hm.grows s)) }

-- the same, where the first makes no more than it pays
pub then_pays : {A B : Type 0} (more : ℕ) (m : M A) (f : A → M B) → Grows 0 m → ((a : A) → Grows more (f a)) → Grows more (m >>= f)
then_pays more m f hm hf = record { grows = λ s. moved _ _ s.left ((m >>= f) s) (omega arith) (after more f hf (length s.nodes + s.left + 0) s.left (m s) (hm.grows s)) }

pub both_pay : {A B : Type 0} (more : ℕ) (m : M A) (n : M B) → Grows 0 m → Grows more n → Grows more (m >> n)
both_pay more m n hm hn = then_pays more m (λ _. n) hm (λ _. hn)

pub with_more : {A : Type 0} (j l : ℕ) (m : M A) → j ≤ l → Grows j m → Grows l m
with_more j l m fits h = record { grows = λ s. moved _ _ s.left (m s) (omega (arith, fits)) (h.grows s) }

pub give_grows : {A : Type 0} (more : ℕ) (a : A) → Grows more (give a)
give_grows more a = record { grows = λ s. (omega arith, omega arith) }

pub raise_grows : {A : Type 0} (more kind : ℕ) (message : List ℕ) → Grows more (raise {A = A} kind message)
raise_grows more kind message = record { grows = λ s. (omega arith, omega arith) }

pub raise_with_grows : {A : Type 0} (more kind : ℕ) (v : Value) → Grows more (raise_with {A = A} kind v)
raise_with_grows more kind v = record { grows = λ s. (omega arith, omega arith) }

pub look_grows : {A : Type 0} (f : List Node → A) → Grows 0 (look f)
look_grows f = record { grows = λ s. (omega arith, omega arith) }

pub make_grows : (n : Node) → Grows 1 (make n)
make_grows n = record { grows = λ s. (let l : length (s.nodes ++ n ∷ []) ≡ length s.nodes + 1 = length-append s.nodes (n ∷ []) in omega (arith, l), omega arith) }

length_changed : (f : Node → Node) (i : ℕ) (ns : List Node) → length (changed f i ns) ≡ length ns
length_changed f i [] = refl
length_changed f zero (n ∷ ns) = refl
length_changed f (suc i) (n ∷ ns) = ap suc (length_changed f i ns)

pub change_grows : (i : ℕ) (f : Node → Node) → Grows 0 (change i f)
change_grows i f = record { grows = λ s. (let l = length_changed f i s.nodes in omega (arith, l), omega arith) }

abbrev spent_if : Bool → ℕ → Moment → Ends (Unit {0})
spent_if enough n s = if enough then fine tt (record s { left = s.left - n }) else stopped (record s { left = 0 })

either_spent : (enough : Bool) (n : ℕ) (s : Moment) → Within (length s.nodes + s.left + 0) s.left (spent_if enough n s)
either_spent true n s = (omega arith, omega arith)
either_spent false n s = (omega arith, omega arith)

pub spend_grows : (n : ℕ) → Grows 0 (spend n)
spend_grows n = record { grows = λ s. either_spent (nat_le n s.left) n s }

pub or_else_grows : {A : Type 0} (more : ℕ) (other : M A) (o : Option A) → Grows more other → Grows more (or_else other o)
or_else_grows more other (Some a) h = give_grows more a
or_else_grows more other None h = h

ended_grows : {A : Type 0} (s : Moment) (e : Counted A) → left_of e ≤ s.left → Within (length s.nodes + s.left + 0) s.left (ended_in s e)
ended_grows s (answer a n) fits = (omega (arith, fits), fits)
ended_grows s (too_deep n) fits = (omega (arith, fits), fits)
ended_grows s (spent n) fits = (omega (arith, fits), fits)

pub counted_grows : {A : Type 0} (m : List Node → ℕ → Count A) → ((ns : List Node) (depth : ℕ) → Falls (m ns depth)) → Grows 0 (λ s. counted (m s.nodes s.depth) s)
counted_grows m h = record { grows = λ s. ended_grows s (m s.nodes s.depth s.left) ((h s.nodes s.depth).falls s.left) }

-- ---- texts

pub repr_grows : (v : Value) → Grows 0 (repr_of v)
repr_grows v = counted_grows (λ ns depth. repr_in ns depth v) (λ ns depth. repr_falls ns depth v)

pub show_grows : (v : Value) → Grows 0 (show v)
show_grows v = counted_grows (λ ns depth. show_in ns depth v) (λ ns depth. show_falls ns depth v)

-- ---- the exceptions that tell kinds

not_iterable_grows : {A : Type 0} (more : ℕ) (v : Value) → Grows more (not_iterable {A = A} v)
not_iterable_grows more v = record { grows = λ s. (omega arith, omega arith) }

bad_index_grows : {A : Type 0} (v : Value) → Grows 0 (bad_index {A = A} v)
bad_index_grows v = record { grows = λ s. (omega arith, omega arith) }

unhashable_grows : {A : Type 0} (v : Value) → Grows 0 (unhashable {A = A} v)
unhashable_grows v = record { grows = λ s. (omega arith, omega arith) }

no_attribute_grows : {A : Type 0} (v : Value) (name : List ℕ) → Grows 0 (no_attribute {A = A} v name)
no_attribute_grows v name = record { grows = λ s. (omega arith, omega arith) }

bad_arguments_grows : {A : Type 0} (more : ℕ) (name : List ℕ) → Grows more (bad_arguments {A = A} name)
bad_arguments_grows more name = record { grows = λ s. (omega arith, omega arith) }

-- ---- indexes, keys and items

pub index_grows : (v : Value) → Grows 0 (index_of v)
index_grows v = or_else_grows 0 (bad_index v) _ (bad_index_grows v)

pub place_grows : (n : ℕ) (z : ℤ) → Grows 0 (place_of n z)
place_grows n z = or_else_grows 0 (index_error (codes "index out of range")) _ (raise_grows 0 _ _)

parts_grow : (vs : List Value) → Grows 0 (parts_of vs)
parts_grow [] = give_grows 0 []
parts_grow (v ∷ vs) =
    then_pays 0 (or_else (unhashable v) (part_in v)) _ (or_else_grows 0 (unhashable v) (part_in v) (unhashable_grows v))
    (λ p. then_pays 0 (parts_of vs) _ (parts_grow vs) (λ ps. give_grows 0 (p ∷ ps)))

tuple_key_grows : (v : Value) (o : Option (List Value)) → Grows 0 (tuple_key v o)
tuple_key_grows v (Some vs) =
    then_pays 0 (spend (length vs) >> parts_of vs) _ (both_pay 0 (spend (length vs)) (parts_of vs) (spend_grows (length vs)) (parts_grow vs)) (λ ps. give_grows 0 (k.tuple ps))
tuple_key_grows v None = unhashable_grows v

key_by_grows : (v : Value) (o : Option KeyPart) → Grows 0 (key_by v o)
key_by_grows v (Some p) = give_grows 0 (k.single p)
key_by_grows v None = then_pays 0 (look _) (tuple_key v) (look_grows _) (tuple_key_grows v)

pub key_grows : (v : Value) → Grows 0 (key_of_value v)
key_grows v = key_by_grows v (part_in v)

pub value_grows : (key : Key) → Grows 1 (value_of_key key)
value_grows (k.single p) = give_grows 1 _
value_grows (k.tuple ps) = both_pay 1 (spend (length ps)) (make _) (spend_grows (length ps)) (make_grows _)

pub values_grow : (keys : List Key) → Grows (length keys) (values_of_keys keys)
values_grow [] = give_grows 0 []
values_grow (key ∷ keys) =
    with_more (1 + (length keys + 0)) (length (key ∷ keys)) (values_of_keys (key ∷ keys)) (omega arith)
    (then_grows 1 (length keys + 0) (value_of_key key) _ (value_grows key)
    (λ v. then_grows (length keys) 0 (values_of_keys keys) _ (values_grow keys) (λ vs. give_grows 0 (v ∷ vs))))

count_is : {n j : ℕ} → Some n ≡ Some j → n ≡ j
count_is e = cc

-- as many as there are items
node_items_grow : (v : Value) (o : Option Node) (n : ℕ) → option_and_then node_count o ≡ Some n → Grows n (node_items v o)
node_items_grow v (Some (list vs)) n e = give_grows n vs
node_items_grow v (Some (tuple vs)) n e = give_grows n vs
node_items_grow v (Some (dict es)) n e =
    (let l : length (map (λ f. f.0) es) ≡ length es = length-map es (λ f. f.0) in
    let c : length es ≡ n = count_is e in
    with_more (length (map (λ f. f.0) es)) n (values_of_keys (map (λ f. f.0) es)) (omega (arith, l, c)) (values_grow (map (λ f. f.0) es)))
node_items_grow v _ n e = not_iterable_grows n v

walk_on : (i : ℕ) (s : Moment) (n : ℕ) → option_and_then node_count (slice_get s.nodes i) ≡ Some n → (b : Bool) → nat_le n s.left ≡ b
    → Within (length s.nodes + s.left + 0) s.left (and_then (spent_if b n s) (λ _. items_of (node i)))
walk_on i s n e true b =
    (let fits : n ≤ s.left = leb-true n s.left b in
    let w = (node_items_grow (node i) (slice_get s.nodes i) n e).grows (record s { left = s.left - n }) in
    (omega (arith, fits, w.0), omega (arith, w.1)))
walk_on i s n e false b = (omega arith, omega arith)

walk_counted : (i : ℕ) (s : Moment) (c : Option ℕ) → option_and_then node_count (slice_get s.nodes i) ≡ c
    → Within (length s.nodes + s.left + 0) s.left (and_then (and_then (or_else (not_iterable (node i)) c s) spend) (λ _. items_of (node i)))
walk_counted i s (Some n) e = walk_on i s n e (nat_le n s.left) refl
walk_counted i s None e = (omega arith, omega arith)

count_grows : (v : Value) → Grows 0 (look (λ ns. count_in ns v) >>= or_else (not_iterable v))
count_grows v = then_pays 0 (look (λ ns. count_in ns v)) (or_else (not_iterable v)) (look_grows _) (λ o. or_else_grows 0 (not_iterable v) o (not_iterable_grows 0 v))

walk_plain : (v : Value) → Grows 0 (items_of v) → Grows 0 (walked v)
walk_plain v h =
    then_pays 0 (look (λ ns. count_in ns v) >>= or_else (not_iterable v) >>= spend) (λ _. items_of v)
    (then_pays 0 (look (λ ns. count_in ns v) >>= or_else (not_iterable v)) spend (count_grows v) spend_grows) (λ _. h)

pub walked_grows : (v : Value) → Grows 0 (walked v)
walked_grows (node i) = record { grows = λ s. walk_counted i s (option_and_then node_count (slice_get s.nodes i)) refl }
walked_grows (text cs) = walk_plain (text cs) (give_grows 0 _)
walked_grows (range a b c) = walk_plain (range a b c) (give_grows 0 _)
walked_grows v = walk_plain v (not_iterable_grows 0 v)

pub extended_grows : (i : ℕ) (v : Value) → Grows 0 (extended i v)
extended_grows i v = then_pays 0 (walked v) _ (walked_grows v) (λ more. change_grows i _)

pub place_among_grows : (x : Value) (vs : List Value) → Grows 0 (place_among x vs)
place_among_grows x vs = counted_grows (λ ns depth. place_from ns depth x 0 vs) (λ ns depth. place_falls ns depth x 0 vs)

pub count_among_grows : (x : Value) (vs : List Value) → Grows 0 (count_among x vs)
count_among_grows x vs = counted_grows (λ ns depth. count_from ns depth x 0 vs) (λ ns depth. count_falls ns depth x 0 vs)

-- ---- methods

kept : {A : Type 0} (m : M A) → Grows 0 m → Grows 1 m
kept m h = with_more 0 1 m (omega arith) h

changing_grows : (i : ℕ) (f : Node → Node) → Grows 0 (m.changing i f)
changing_grows i f = both_pay 0 (change i f) (give none) (change_grows i f) (give_grows 0 none)

place_of_equal_grows : (x : Value) (vs : List Value) → Grows 0 (m.place_of_equal x vs)
place_of_equal_grows x vs = then_pays 0 (place_among x vs) _ (place_among_grows x vs) (λ o. or_else_grows 0 (value_error (codes "value not found")) o (raise_grows 0 _ _))

place_number_grows : (x : Value) (vs : List Value) → Grows 0 (m.place_number x vs)
place_number_grows x vs = then_pays 0 (m.place_of_equal x vs) _ (place_of_equal_grows x vs) (λ place. give_grows 0 _)

count_number_grows : (x : Value) (vs : List Value) → Grows 0 (m.count_number x vs)
count_number_grows x vs = then_pays 0 (count_among x vs) _ (count_among_grows x vs) (λ n. give_grows 0 _)

last_grows : (vs : List Value) → Grows 0 (m.last_item vs)
last_grows vs = or_else_grows 0 (index_error (codes "pop from empty list")) _ (raise_grows 0 _ _)

pop_last_grows : (i : ℕ) (vs : List Value) → Grows 0 (m.pop_last i vs)
pop_last_grows i vs = then_pays 0 (m.last_item vs) _ (last_grows vs) (λ v. both_pay 0 (change i _) (give v) (change_grows i _) (give_grows 0 v))

take_out_grows : (i : ℕ) (vs : List Value) (place : ℕ) → Grows 0 (m.take_out i vs place)
take_out_grows i vs place = both_pay 0 (spend (length vs) >> change i _) (give _) (both_pay 0 (spend (length vs)) (change i _) (spend_grows (length vs)) (change_grows i _)) (give_grows 0 _)

pop_at_grows : (i : ℕ) (vs : List Value) (z : ℤ) → Grows 0 (m.pop_at i vs z)
pop_at_grows i vs z =
    then_pays 0 (m.last_item vs >> place_of (length vs) z) (m.take_out i vs)
    (both_pay 0 (m.last_item vs) (place_of (length vs) z) (last_grows vs) (place_grows (length vs) z)) (take_out_grows i vs)

insert_at_grows : (i : ℕ) (vs : List Value) (x : Value) (z : ℤ) → Grows 0 (m.insert_at i vs x z)
insert_at_grows i vs x z = both_pay 0 (spend (length vs)) (m.changing i _) (spend_grows (length vs)) (changing_grows i _)

sort_grows : (i : ℕ) (vs : List Value) → Grows 0 (m.sort_in_place i vs)
sort_grows i vs =
    let other = bad_arguments {A = List Value} (m.method_name m.sort) in
    then_pays 0 (spend (sort_steps (length vs)) >> or_else other (in_order vs)) _
    (both_pay 0 (spend (sort_steps (length vs))) (or_else other (in_order vs)) (spend_grows _) (or_else_grows 0 other (in_order vs) (bad_arguments_grows 0 (m.method_name m.sort))))
    (λ found. changing_grows i (replace_list found))

made_node_grows : (steps : ℕ) (n : Node) → Grows 1 (spend steps >> make n)
made_node_grows steps n = both_pay 1 (spend steps) (make n) (spend_grows steps) (make_grows n)

given_grows : {A : Type 0} (steps : ℕ) (a : A) → Grows 0 (spend steps >> give a)
given_grows steps a = both_pay 0 (spend steps) (give a) (spend_grows steps) (give_grows 0 a)

look_up_grows : (es : List (Key × Value)) (key : Value) (other : M Value) → Grows 0 other → Grows 0 (m.look_up es key other)
look_up_grows es key other h = then_pays 0 (key_of_value key) _ (key_grows key) (λ found. or_else_grows 0 other _ h)

set_default_grows : (i : ℕ) (es : List (Key × Value)) (key v : Value) → Grows 0 (m.set_default i es key v)
set_default_grows i es key v = then_pays 0 (key_of_value key) _ (key_grows key) (λ found. or_else_grows 0 (change i _ >> give v) _ (both_pay 0 (change i _) (give v) (change_grows i _) (give_grows 0 v)))

take_entry_grows : (i : ℕ) (key : Key) (other : M Value) → Grows 0 other → (o : Option Value) → Grows 0 (m.take_entry i key other o)
take_entry_grows i key other h (Some v) = both_pay 0 (change i _) (give v) (change_grows i _) (give_grows 0 v)
take_entry_grows i key other h None = h

pop_key_grows : (i : ℕ) (es : List (Key × Value)) (key : Value) (other : M Value) → Grows 0 other → Grows 0 (m.pop_key i es key other)
pop_key_grows i es key other h = then_pays 0 (key_of_value key) _ (key_grows key) (λ found. take_entry_grows i found other h _)

update_grows : (i : ℕ) (v : Value) → Grows 0 (m.entries_of v >>= m.update_by i)
update_grows i v =
    then_pays 0 (m.entries_of v) (m.update_by i)
    (then_pays 0 (look _) (or_else (bad_arguments (m.method_name m.update))) (look_grows _) (λ o. or_else_grows 0 (bad_arguments (m.method_name m.update)) o (bad_arguments_grows 0 (m.method_name m.update))))
    (λ es. both_pay 0 (spend (length es)) (m.changing i _) (spend_grows (length es)) (changing_grows i _))

refused_if_empty : (b : Bool) → Grows {A = Unit {0}} 0 (if b then give tt else value_error (codes "empty separator"))
refused_if_empty true = give_grows {A = Unit {0}} 0 tt
refused_if_empty false = raise_grows 0 _ _

searched_grows : (part cs : List ℕ) → Grows 0 (m.is_cutting part >> m.search part cs)
searched_grows part cs = both_pay 0 (m.is_cutting part) (m.search part cs) (refused_if_empty (is_nonempty part)) (spend_grows _)

made_joined_grows : (cs : List ℕ) (vs : List Value) → Grows 0 (m.joined_by cs vs)
made_joined_grows cs vs =
    let other = bad_arguments {A = List (List ℕ)} (m.method_name m.join) in
    then_pays 0 (or_else other (m.texts_in vs)) (λ parts. m.made (joined cs parts))
    (or_else_grows 0 other (m.texts_in vs) (bad_arguments_grows 0 (m.method_name m.join))) (λ parts. given_grows (length (joined cs parts)) (text (joined cs parts)))

list_row_grows : (method : Method) (i : ℕ) (vs args : List Value) → Grows 1 (m.list_row method i vs args)
list_row_grows m.append i vs (x ∷ []) = kept _ (changing_grows i _)
list_row_grows m.pop i vs [] = kept (m.pop_last i vs) (pop_last_grows i vs)
list_row_grows m.pop i vs (at ∷ []) = kept (index_of at >>= m.pop_at i vs) (then_pays 0 (index_of at) (m.pop_at i vs) (index_grows at) (pop_at_grows i vs))
list_row_grows m.insert i vs (at ∷ x ∷ []) = kept (index_of at >>= m.insert_at i vs x) (then_pays 0 (index_of at) (m.insert_at i vs x) (index_grows at) (insert_at_grows i vs x))
list_row_grows m.clear i vs [] = kept _ (changing_grows i _)
list_row_grows m.extend i vs (s ∷ []) = kept (extended i s >> give none) (both_pay 0 (extended i s) (give none) (extended_grows i s) (give_grows 0 none))
list_row_grows m.remove i vs (x ∷ []) = then_pays 1 (m.place_of_equal x vs) _ (place_of_equal_grows x vs) (λ place. kept _ (changing_grows i _))
list_row_grows m.index i vs (x ∷ []) = kept (m.place_number x vs) (place_number_grows x vs)
list_row_grows m.count i vs (x ∷ []) = kept (m.count_number x vs) (count_number_grows x vs)
list_row_grows m.reverse i vs [] = both_pay 1 (spend (length vs)) (m.changing i _) (spend_grows (length vs)) (kept _ (changing_grows i _))
list_row_grows m.copy i vs [] = made_node_grows _ _
list_row_grows m.sort i vs [] = kept (m.sort_in_place i vs) (sort_grows i vs)
list_row_grows method i vs args = bad_arguments_grows 1 (m.method_name method)

tuple_row_grows : (method : Method) (vs args : List Value) → Grows 1 (m.tuple_row method vs args)
tuple_row_grows m.index vs (x ∷ []) = kept (m.place_number x vs) (place_number_grows x vs)
tuple_row_grows m.count vs (x ∷ []) = kept (m.count_number x vs) (count_number_grows x vs)
tuple_row_grows method vs args = bad_arguments_grows 1 (m.method_name method)

dict_row_grows : (method : Method) (i : ℕ) (es : List (Key × Value)) (args : List Value) → Grows 1 (m.dict_row method i es args)
dict_row_grows m.get i es (key ∷ []) = kept (m.look_up es key (give none)) (look_up_grows es key (give none) (give_grows 0 none))
dict_row_grows m.get i es (key ∷ d ∷ []) = kept (m.look_up es key (give d)) (look_up_grows es key (give d) (give_grows 0 d))
dict_row_grows m.setdefault i es (key ∷ []) = kept (m.set_default i es key none) (set_default_grows i es key none)
dict_row_grows m.setdefault i es (key ∷ d ∷ []) = kept (m.set_default i es key d) (set_default_grows i es key d)
dict_row_grows m.pop i es (key ∷ []) = kept (m.pop_key i es key (no_key key)) (pop_key_grows i es key (no_key key) (raise_with_grows 0 _ key))
dict_row_grows m.pop i es (key ∷ d ∷ []) = kept (m.pop_key i es key (give d)) (pop_key_grows i es key (give d) (give_grows 0 d))
dict_row_grows m.clear i es [] = kept _ (changing_grows i _)
dict_row_grows m.update i es (d ∷ []) = kept (m.entries_of d >>= m.update_by i) (update_grows i d)
dict_row_grows m.copy i es [] = made_node_grows _ _
dict_row_grows method i es args = bad_arguments_grows 1 (m.method_name method)

text_row_grows : (method : Method) (cs : List ℕ) (args : List Value) → Grows 1 (m.text_row method cs args)
text_row_grows m.startswith cs (text t ∷ []) = kept _ (given_grows _ _)
text_row_grows m.endswith cs (text t ∷ []) = kept _ (given_grows _ _)
text_row_grows m.strip cs [] = kept _ (given_grows _ _)
text_row_grows m.isdigit cs [] = kept _ (given_grows _ _)
text_row_grows m.find cs (text t ∷ []) = kept _ (given_grows _ _)
text_row_grows m.count cs (text t ∷ []) = both_pay 1 (m.is_cutting t >> m.search t cs) (give _) (searched_grows t cs) (give_grows 1 _)
text_row_grows m.split cs [] = made_node_grows _ _
text_row_grows m.split cs (text t ∷ []) = both_pay 1 (m.is_cutting t >> m.search t cs) (m.made_all (pieces t cs)) (searched_grows t cs) (made_node_grows _ _)
text_row_grows m.replace cs (text t ∷ text u ∷ []) = both_pay 1 (m.is_cutting t >> m.search t cs) (m.made _) (searched_grows t cs) (kept _ (given_grows _ _))
text_row_grows m.join cs (s ∷ []) = then_pays 1 (walked s) (m.joined_by cs) (walked_grows s) (λ vs. kept (m.joined_by cs vs) (made_joined_grows cs vs))
text_row_grows method cs args = bad_arguments_grows 1 (m.method_name method)

node_row_grows : (method : Method) (i : ℕ) (args : List Value) (o : Option Node) → Grows 1 (m.node_row method i args o)
node_row_grows method i args (Some (list vs)) = list_row_grows method i vs args
node_row_grows method i args (Some (tuple vs)) = tuple_row_grows method vs args
node_row_grows method i args (Some (dict es)) = dict_row_grows method i es args
node_row_grows method i args _ = bad_arguments_grows 1 (m.method_name method)

value_row_grows : (method : Method) (v : Value) (args : List Value) → Grows 1 (m.value_row method v args)
value_row_grows method (text cs) args = text_row_grows method cs args
value_row_grows method (node i) args = then_pays 1 (look (λ ns. slice_get ns i)) (m.node_row method i args) (look_grows (λ ns. slice_get ns i)) (node_row_grows method i args)
value_row_grows method v args = bad_arguments_grows 1 (m.method_name method)

pub method_grows : (v : Value) (name : List ℕ) (args : List Value) → Grows 1 (call_method v name args)
method_grows v name args =
    then_pays 1 (look _ >>= or_else (no_attribute v name)) (λ method. m.value_row method v args)
    (then_pays 0 (look _) (or_else (no_attribute v name)) (look_grows _) (λ o. or_else_grows 0 (no_attribute v name) o (no_attribute_grows v name)))
    (λ method. value_row_grows method v args)
