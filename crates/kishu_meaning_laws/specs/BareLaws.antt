-- Texts, keys, items and methods are worked out from the nodes, the steps and the depth alone.
use Rattle.std.specs.Prelude.{◌≡◌, ℕ, nat_le, ◌-◌, ℤ, Bool, true, false, if◌then◌else◌, List, [], ◌∷◌, length, map, codes, Option, Some, None, slice_get}
use Rattle.std.proofs.Common.{refl, sym, ap, ◌∙◌}
use Rattle.kishu_meaning.specs.values.Keys as k
use Rattle.kishu_meaning.specs.values.Keys.{KeyPart, Key}
use Rattle.kishu_meaning.specs.values.Values.{Value, none, text, range, node, Node, list, tuple, dict}
use Rattle.kishu_meaning.specs.values.Texts.{is_nonempty, joined, pieces}
use Rattle.kishu_meaning.specs.values.Nodes.{replace_list}
use Rattle.kishu_meaning.specs.moments.Moment.{Moment, Ends, fine, raised, stopped, M, and_then, ◌>>=◌, ◌>>◌, give, or_else, raise, raise_with, spend, look, make, change}
use Rattle.kishu_meaning.specs.moments.Counting.{Count, Counted, answer, too_deep, spent, counted, ended_in}
use Rattle.kishu_meaning.specs.values.Kinds.{value_error, index_error, no_key, no_attribute, not_iterable, bad_index, unhashable, bad_arguments}
use Rattle.kishu_meaning.specs.items.Indexes.{index_of, place_of}
use Rattle.kishu_meaning.specs.items.KeyOf.{part_in, parts_of, tuple_key, key_by, key_of_value, value_of_key, values_of_keys}
use Rattle.kishu_meaning.specs.items.Sequences.{count_of, node_items, items_of, walked, extended}
use Rattle.kishu_meaning.specs.items.Finding.{place_from, count_from, place_among, count_among}
use Rattle.kishu_meaning.specs.items.Sorting.{in_order, sort_steps}
use Rattle.kishu_meaning.specs.comparing.Show.{repr_in, repr_of, show_in, show}
use Rattle.kishu_meaning.specs.calls.Methods as m
use Rattle.kishu_meaning.specs.calls.Methods.{Method, call_method}
use Rattle.kishu_meaning_laws.specs.Bare.{bare, changed_to, over, IsBare}

-- ---- how such computations are put together

over_again : {A : Type 0} (s t : Moment) (e : Ends A) → over (changed_to s t) e ≡ over s e
over_again s t (fine a u) = refl
over_again s t (raised x u) = refl
over_again s t (stopped u) = refl

further : {A B : Type 0} (f : A → M B) → ((a : A) → IsBare (f a)) → (s : Moment) (e : Ends A)
    → and_then (over s e) f ≡ over s (and_then (over (bare s.nodes s.left s.depth) e) f)
further f h s (fine a t) = (h a).ends (changed_to s t) ∙ over_again s t (f a (bare t.nodes t.left s.depth))
further f h s (raised x t) = refl
further f h s (stopped t) = refl

pub then_bare : {A B : Type 0} (m : M A) (f : A → M B) → IsBare m → ((a : A) → IsBare (f a)) → IsBare (m >>= f)
then_bare m f hm hf = record {
  ends = λ s.
      (let b = bare s.nodes s.left s.depth in
      ap (λ e. and_then e f) (hm.ends s) ∙ further f hf s (m b) ∙ ap (λ e. over s (and_then e f)) (sym (hm.ends b)));
}

pub both_bare : {A B : Type 0} (m : M A) (n : M B) → IsBare m → IsBare n → IsBare (m >> n)
both_bare m n hm hn = then_bare m (λ _. n) hm (λ _. hn)

pub give_bare : {A : Type 0} (a : A) → IsBare (give a)
give_bare a = record { ends = λ s. refl }

pub look_bare : {A : Type 0} (f : List Node → A) → IsBare (look f)
look_bare f = record { ends = λ s. refl }

pub make_bare : (n : Node) → IsBare (make n)
make_bare n = record { ends = λ s. refl }

pub change_bare : (i : ℕ) (f : Node → Node) → IsBare (change i f)
change_bare i f = record { ends = λ s. refl }

pub raise_bare : {A : Type 0} (kind : ℕ) (message : List ℕ) → IsBare (raise {A = A} kind message)
raise_bare kind message = record { ends = λ s. refl }

pub raise_with_bare : {A : Type 0} (kind : ℕ) (v : Value) → IsBare (raise_with {A = A} kind v)
raise_with_bare kind v = record { ends = λ s. refl }

abbrev spent_if : Bool → ℕ → Moment → Ends (Unit {0})
spent_if enough n s = if enough then fine tt (record s { left = s.left - n }) else stopped (record s { left = 0 })

either_bare : (enough : Bool) (n : ℕ) (s : Moment) → spent_if enough n s ≡ over s (spent_if enough n (bare s.nodes s.left s.depth))
either_bare true n s = refl
either_bare false n s = refl

pub spend_bare : (n : ℕ) → IsBare (spend n)
spend_bare n = record { ends = λ s. either_bare (nat_le n s.left) n s }

pub or_else_bare : {A : Type 0} (other : M A) (o : Option A) → IsBare other → IsBare (or_else other o)
or_else_bare other (Some a) h = give_bare a
or_else_bare other None h = h

ended_bare : {A : Type 0} (s : Moment) (e : Counted A) → ended_in s e ≡ over s (ended_in (bare s.nodes s.left s.depth) e)
ended_bare s (answer a n) = refl
ended_bare s (too_deep n) = refl
ended_bare s (spent n) = refl

-- what only counts, from the nodes and the depth
pub counted_bare : {A : Type 0} (m : List Node → ℕ → Count A) → IsBare (λ s. counted (m s.nodes s.depth) s)
counted_bare m = record { ends = λ s. ended_bare s (m s.nodes s.depth s.left) }

-- ---- texts

pub repr_bare : (v : Value) → IsBare (repr_of v)
repr_bare v = counted_bare (λ ns depth. repr_in ns depth v)

pub show_bare : (v : Value) → IsBare (show v)
show_bare v = counted_bare (λ ns depth. show_in ns depth v)

-- ---- the exceptions that tell kinds

not_iterable_bare : {A : Type 0} (v : Value) → IsBare (not_iterable {A = A} v)
not_iterable_bare v = record { ends = λ s. refl }

bad_index_bare : {A : Type 0} (v : Value) → IsBare (bad_index {A = A} v)
bad_index_bare v = record { ends = λ s. refl }

unhashable_bare : {A : Type 0} (v : Value) → IsBare (unhashable {A = A} v)
unhashable_bare v = record { ends = λ s. refl }

no_attribute_bare : {A : Type 0} (v : Value) (name : List ℕ) → IsBare (no_attribute {A = A} v name)
no_attribute_bare v name = record { ends = λ s. refl }

-- ---- indexes, keys and items

pub index_bare : (v : Value) → IsBare (index_of v)
index_bare v = or_else_bare (bad_index v) _ (bad_index_bare v)

pub place_bare : (n : ℕ) (z : ℤ) → IsBare (place_of n z)
place_bare n z = or_else_bare (index_error _) _ (raise_bare _ _)

parts_bare : (vs : List Value) → IsBare (parts_of vs)
parts_bare [] = give_bare []
parts_bare (v ∷ vs) =
    then_bare (or_else (unhashable v) (part_in v)) _ (or_else_bare (unhashable v) (part_in v) (unhashable_bare v))
    (λ p. then_bare (parts_of vs) _ (parts_bare vs) (λ ps. give_bare (p ∷ ps)))

tuple_key_bare : (v : Value) (o : Option (List Value)) → IsBare (tuple_key v o)
tuple_key_bare v (Some vs) = then_bare (spend (length vs) >> parts_of vs) _ (both_bare (spend (length vs)) (parts_of vs) (spend_bare (length vs)) (parts_bare vs)) (λ ps. give_bare (k.tuple ps))
tuple_key_bare v None = unhashable_bare v

key_by_bare : (v : Value) (o : Option KeyPart) → IsBare (key_by v o)
key_by_bare v (Some p) = give_bare (k.single p)
key_by_bare v None = then_bare (look _) (tuple_key v) (look_bare _) (tuple_key_bare v)

pub key_bare : (v : Value) → IsBare (key_of_value v)
key_bare v = key_by_bare v (part_in v)

pub value_bare : (key : Key) → IsBare (value_of_key key)
value_bare (k.single p) = give_bare _
value_bare (k.tuple ps) = both_bare (spend (length ps)) (make _) (spend_bare (length ps)) (make_bare _)

pub values_bare : (keys : List Key) → IsBare (values_of_keys keys)
values_bare [] = give_bare []
values_bare (key ∷ keys) = then_bare (value_of_key key) _ (value_bare key) (λ v. then_bare (values_of_keys keys) _ (values_bare keys) (λ vs. give_bare (v ∷ vs)))

pub count_bare : (v : Value) → IsBare (count_of v)
count_bare v = then_bare (look _) (or_else (not_iterable v)) (look_bare _) (λ o. or_else_bare (not_iterable v) o (not_iterable_bare v))

node_items_bare : (v : Value) (o : Option Node) → IsBare (node_items v o)
node_items_bare v (Some (list vs)) = give_bare vs
node_items_bare v (Some (tuple vs)) = give_bare vs
node_items_bare v (Some (dict es)) = values_bare (map (λ e. e.0) es)
node_items_bare v _ = not_iterable_bare v

pub items_bare : (v : Value) → IsBare (items_of v)
items_bare (text cs) = give_bare _
items_bare (range a b c) = give_bare _
items_bare (node i) = then_bare (look (λ ns. slice_get ns i)) (node_items (node i)) (look_bare (λ ns. slice_get ns i)) (node_items_bare (node i))
items_bare v = not_iterable_bare v

pub walked_bare : (v : Value) → IsBare (walked v)
walked_bare v = then_bare (count_of v >>= spend) _ (then_bare (count_of v) spend (count_bare v) spend_bare) (λ _. items_bare v)

pub extended_bare : (i : ℕ) (v : Value) → IsBare (extended i v)
extended_bare i v = then_bare (walked v) _ (walked_bare v) (λ more. change_bare i _)

pub place_among_bare : (x : Value) (vs : List Value) → IsBare (place_among x vs)
place_among_bare x vs = counted_bare (λ ns depth. place_from ns depth x 0 vs)

pub count_among_bare : (x : Value) (vs : List Value) → IsBare (count_among x vs)
count_among_bare x vs = counted_bare (λ ns depth. count_from ns depth x 0 vs)

-- ---- methods

bad_arguments_bare : {A : Type 0} (name : List ℕ) → IsBare (bad_arguments {A = A} name)
bad_arguments_bare name = record { ends = λ s. refl }

changing_bare : (i : ℕ) (f : Node → Node) → IsBare (m.changing i f)
changing_bare i f = record { ends = λ s. refl }

place_of_equal_bare : (x : Value) (vs : List Value) → IsBare (m.place_of_equal x vs)
place_of_equal_bare x vs = then_bare (place_among x vs) _ (place_among_bare x vs) (λ o. or_else_bare (value_error _) o (raise_bare _ _))

place_number_bare : (x : Value) (vs : List Value) → IsBare (m.place_number x vs)
place_number_bare x vs = then_bare (m.place_of_equal x vs) _ (place_of_equal_bare x vs) (λ place. give_bare _)

count_number_bare : (x : Value) (vs : List Value) → IsBare (m.count_number x vs)
count_number_bare x vs = then_bare (count_among x vs) _ (count_among_bare x vs) (λ n. give_bare _)

last_bare : (vs : List Value) → IsBare (m.last_item vs)
last_bare vs = or_else_bare (index_error _) _ (raise_bare _ _)

pop_last_bare : (i : ℕ) (vs : List Value) → IsBare (m.pop_last i vs)
pop_last_bare i vs = then_bare (m.last_item vs) _ (last_bare vs) (λ v. both_bare (change i _) (give v) (change_bare i _) (give_bare v))

take_out_bare : (i : ℕ) (vs : List Value) (place : ℕ) → IsBare (m.take_out i vs place)
take_out_bare i vs place = both_bare (spend (length vs) >> change i _) (give _) (both_bare (spend (length vs)) (change i _) (spend_bare (length vs)) (change_bare i _)) (give_bare _)

pop_at_bare : (i : ℕ) (vs : List Value) (z : ℤ) → IsBare (m.pop_at i vs z)
pop_at_bare i vs z =
    then_bare (m.last_item vs >> place_of (length vs) z) (m.take_out i vs)
    (both_bare (m.last_item vs) (place_of (length vs) z) (last_bare vs) (place_bare (length vs) z)) (take_out_bare i vs)

insert_at_bare : (i : ℕ) (vs : List Value) (x : Value) (z : ℤ) → IsBare (m.insert_at i vs x z)
insert_at_bare i vs x z = both_bare (spend (length vs)) (m.changing i _) (spend_bare (length vs)) (changing_bare i _)

sort_bare : (i : ℕ) (vs : List Value) → IsBare (m.sort_in_place i vs)
sort_bare i vs =
    let other = bad_arguments {A = List Value} (m.method_name m.sort) in
    then_bare (spend (sort_steps (length vs)) >> or_else other (in_order vs)) _
    (both_bare (spend (sort_steps (length vs))) (or_else other (in_order vs)) (spend_bare _) (or_else_bare other (in_order vs) (bad_arguments_bare (m.method_name m.sort))))
    (λ found. changing_bare i (replace_list found))

made_node_bare : (steps : ℕ) (n : Node) → IsBare (spend steps >> make n)
made_node_bare steps n = both_bare (spend steps) (make n) (spend_bare steps) (make_bare n)

given_bare : {A : Type 0} (steps : ℕ) (a : A) → IsBare (spend steps >> give a)
given_bare steps a = both_bare (spend steps) (give a) (spend_bare steps) (give_bare a)

look_up_bare : (es : List (Key × Value)) (key : Value) (other : M Value) → IsBare other → IsBare (m.look_up es key other)
look_up_bare es key other h = then_bare (key_of_value key) _ (key_bare key) (λ found. or_else_bare other _ h)

set_default_bare : (i : ℕ) (es : List (Key × Value)) (key v : Value) → IsBare (m.set_default i es key v)
set_default_bare i es key v = then_bare (key_of_value key) _ (key_bare key) (λ found. or_else_bare (change i _ >> give v) _ (both_bare (change i _) (give v) (change_bare i _) (give_bare v)))

take_entry_bare : (i : ℕ) (key : Key) (other : M Value) → IsBare other → (o : Option Value) → IsBare (m.take_entry i key other o)
take_entry_bare i key other h (Some v) = both_bare (change i _) (give v) (change_bare i _) (give_bare v)
take_entry_bare i key other h None = h

pop_key_bare : (i : ℕ) (es : List (Key × Value)) (key : Value) (other : M Value) → IsBare other → IsBare (m.pop_key i es key other)
pop_key_bare i es key other h = then_bare (key_of_value key) _ (key_bare key) (λ found. take_entry_bare i found other h _)

update_bare : (i : ℕ) (v : Value) → IsBare (m.entries_of v >>= m.update_by i)
update_bare i v =
    then_bare (m.entries_of v) (m.update_by i)
    (then_bare (look _) (or_else (bad_arguments (m.method_name m.update))) (look_bare _) (λ o. or_else_bare (bad_arguments (m.method_name m.update)) o (bad_arguments_bare (m.method_name m.update))))
    (λ es. both_bare (spend (length es)) (m.changing i _) (spend_bare (length es)) (changing_bare i _))

refused_if_empty : (b : Bool) → IsBare {A = Unit {0}} (if b then give tt else value_error (codes "empty separator"))
refused_if_empty true = give_bare {A = Unit {0}} tt
refused_if_empty false = raise_bare _ _

is_cutting_bare : (part : List ℕ) → IsBare (m.is_cutting part)
is_cutting_bare part = refused_if_empty (is_nonempty part)

searched_bare : (part cs : List ℕ) → IsBare (m.is_cutting part >> m.search part cs)
searched_bare part cs = both_bare (m.is_cutting part) (m.search part cs) (is_cutting_bare part) (spend_bare _)

made_all_bare : (parts : List (List ℕ)) → IsBare (m.made_all parts)
made_all_bare parts = made_node_bare _ _

made_joined_bare : (cs : List ℕ) (vs : List Value) → IsBare (m.joined_by cs vs)
made_joined_bare cs vs =
    let other = bad_arguments {A = List (List ℕ)} (m.method_name m.join) in
    then_bare (or_else other (m.texts_in vs)) (λ parts. m.made (joined cs parts))
    (or_else_bare other (m.texts_in vs) (bad_arguments_bare (m.method_name m.join))) (λ parts. given_bare (length (joined cs parts)) (text (joined cs parts)))

joined_bare : (cs : List ℕ) (s : Value) → IsBare (walked s >>= m.joined_by cs)
joined_bare cs s = then_bare (walked s) (m.joined_by cs) (walked_bare s) (made_joined_bare cs)

list_row_bare : (method : Method) (i : ℕ) (vs args : List Value) → IsBare (m.list_row method i vs args)
list_row_bare m.append i vs (x ∷ []) = changing_bare i _
list_row_bare m.pop i vs [] = pop_last_bare i vs
list_row_bare m.pop i vs (at ∷ []) = then_bare (index_of at) (m.pop_at i vs) (index_bare at) (pop_at_bare i vs)
list_row_bare m.insert i vs (at ∷ x ∷ []) = then_bare (index_of at) (m.insert_at i vs x) (index_bare at) (insert_at_bare i vs x)
list_row_bare m.clear i vs [] = changing_bare i _
list_row_bare m.extend i vs (s ∷ []) = both_bare (extended i s) (give none) (extended_bare i s) (give_bare none)
list_row_bare m.remove i vs (x ∷ []) = then_bare (m.place_of_equal x vs) _ (place_of_equal_bare x vs) (λ place. changing_bare i _)
list_row_bare m.index i vs (x ∷ []) = place_number_bare x vs
list_row_bare m.count i vs (x ∷ []) = count_number_bare x vs
list_row_bare m.reverse i vs [] = both_bare (spend (length vs)) (m.changing i _) (spend_bare (length vs)) (changing_bare i _)
list_row_bare m.copy i vs [] = made_node_bare _ _
list_row_bare m.sort i vs [] = sort_bare i vs
list_row_bare method i vs args = bad_arguments_bare (m.method_name method)

tuple_row_bare : (method : Method) (vs args : List Value) → IsBare (m.tuple_row method vs args)
tuple_row_bare m.index vs (x ∷ []) = place_number_bare x vs
tuple_row_bare m.count vs (x ∷ []) = count_number_bare x vs
tuple_row_bare method vs args = bad_arguments_bare (m.method_name method)

dict_row_bare : (method : Method) (i : ℕ) (es : List (Key × Value)) (args : List Value) → IsBare (m.dict_row method i es args)
dict_row_bare m.get i es (key ∷ []) = look_up_bare es key (give none) (give_bare none)
dict_row_bare m.get i es (key ∷ d ∷ []) = look_up_bare es key (give d) (give_bare d)
dict_row_bare m.setdefault i es (key ∷ []) = set_default_bare i es key none
dict_row_bare m.setdefault i es (key ∷ d ∷ []) = set_default_bare i es key d
dict_row_bare m.pop i es (key ∷ []) = pop_key_bare i es key (no_key key) (raise_with_bare _ key)
dict_row_bare m.pop i es (key ∷ d ∷ []) = pop_key_bare i es key (give d) (give_bare d)
dict_row_bare m.clear i es [] = changing_bare i _
dict_row_bare m.update i es (d ∷ []) = update_bare i d
dict_row_bare m.copy i es [] = made_node_bare _ _
dict_row_bare method i es args = bad_arguments_bare (m.method_name method)

text_row_bare : (method : Method) (cs : List ℕ) (args : List Value) → IsBare (m.text_row method cs args)
text_row_bare m.startswith cs (text t ∷ []) = given_bare _ _
text_row_bare m.endswith cs (text t ∷ []) = given_bare _ _
text_row_bare m.strip cs [] = given_bare _ _
text_row_bare m.isdigit cs [] = given_bare _ _
text_row_bare m.find cs (text t ∷ []) = given_bare _ _
text_row_bare m.count cs (text t ∷ []) = both_bare (m.is_cutting t >> m.search t cs) (give _) (searched_bare t cs) (give_bare _)
text_row_bare m.split cs [] = made_node_bare _ _
text_row_bare m.split cs (text t ∷ []) = both_bare (m.is_cutting t >> m.search t cs) (m.made_all (pieces t cs)) (searched_bare t cs) (made_all_bare (pieces t cs))
text_row_bare m.replace cs (text t ∷ text u ∷ []) = both_bare (m.is_cutting t >> m.search t cs) (m.made _) (searched_bare t cs) (given_bare _ _)
text_row_bare m.join cs (s ∷ []) = joined_bare cs s
text_row_bare method cs args = bad_arguments_bare (m.method_name method)

node_row_bare : (method : Method) (i : ℕ) (args : List Value) (o : Option Node) → IsBare (m.node_row method i args o)
node_row_bare method i args (Some (list vs)) = list_row_bare method i vs args
node_row_bare method i args (Some (tuple vs)) = tuple_row_bare method vs args
node_row_bare method i args (Some (dict es)) = dict_row_bare method i es args
node_row_bare method i args _ = bad_arguments_bare (m.method_name method)

value_row_bare : (method : Method) (v : Value) (args : List Value) → IsBare (m.value_row method v args)
value_row_bare method (text cs) args = text_row_bare method cs args
value_row_bare method (node i) args = then_bare (look _) (m.node_row method i args) (look_bare _) (node_row_bare method i args)
value_row_bare method v args = bad_arguments_bare (m.method_name method)

pub method_bare : (v : Value) (name : List ℕ) (args : List Value) → IsBare (call_method v name args)
method_bare v name args =
    then_bare (look _ >>= or_else (no_attribute v name)) (λ method. m.value_row method v args)
    (then_bare (look _) (or_else (no_attribute v name)) (look_bare _) (λ o. or_else_bare (no_attribute v name) o (no_attribute_bare v name)))
    (λ method. value_row_bare method v args)
