-- What is refused past a limit, and what isn't at it: texts of just so many letters, which aren't written out.
use Rattle.std.specs.Prelude.{◌≡◌, ◌+◌, ◌^◌, ℕ, zero, suc, nat_lt, nat_le, min, Bool, true, false, List, [], ◌∷◌, ◌++◌, codes, length, refl}
use Rattle.std.proofs.Common.{arith, ap, ◌∙◌, length-append}
use Rattle.std.specs.Char.{encode_utf8}
use Rattle.std.specs.Str.{encode_utf8_all}
use Rattle.kishu_language.specs.Limits.{longest_text}
use Rattle.kishu_meaning.specs.values.Values.{Value, text, integer, State, empty}
use Rattle.kishu_objects.specs.Bytes.{in_four}
use Rattle.kishu_objects.specs.Sizes.{size, most_bytes}
use Rattle.kishu_store.specs.Graph.{Graph, new_graph}
use Rattle.kishu_model.specs.Answers.{Refusal, cell_too_long, store_full, bad_request, state_too_large}
use Rattle.kishu_model.specs.Request.{Stepped, refused_with, cell, cells}
use Rattle.kishu_model.specs.Step.{step, charge_of}
use Rattle.kishu_model.specs.requests.Cell.{step_cell}
use Rattle.kishu_model.specs.requests.Cells.{step_cells, is_too_long, texts_size, largest_texts, HasRoom}
use Rattle.kishu_model.specs.requests.TooLarge.{is_too_large, too_large, most_told, unless_too_large}

-- so many letters a
unfoldable letters : ℕ → List ℕ
letters zero = []
letters (suc n) = 97 ∷ letters n

how_many : (n : ℕ) → length (letters n) ≡ n
unfolding letters
how_many zero = refl
how_many (suc n) = ap suc (how_many n)

in_bytes : (n : ℕ) → length (encode_utf8_all (letters n)) ≡ n
unfolding letters encode_utf8
in_bytes zero = refl
in_bytes (suc n) = ap suc (in_bytes n)

-- ---- states

-- a is a text of so many letters: its picture takes 15 bytes more
abbrev long_text : ℕ → State
long_text n = record { names = (codes "a", text (letters n)) ∷ []; nodes = [] }

takes : (n : ℕ) → size (long_text n) ≡ 15 + n
unfolding in_four
takes n = omega (arith, length-append (encode_utf8_all (letters n) ++ []) (0 ∷ 0 ∷ 0 ∷ 0 ∷ []), length-append (encode_utf8_all (letters n)) [], in_bytes n)

large : (n : ℕ) (b : Bool) → nat_lt most_bytes (15 + n) ≡ b → is_too_large (long_text n) ≡ b
large n b e = ap (nat_lt most_bytes) (takes n) ∙ e

large_1 : is_too_large (long_text 0) ≡ false
large_1 = large 0 false refl

large_2 : is_too_large (long_text 268435440) ≡ false
large_2 = large 268435440 false refl

-- 268,435,456 bytes are kept,
large_3 : is_too_large (long_text 268435441) ≡ false
large_3 = large 268435441 false refl

-- and one more isn't.
large_4 : is_too_large (long_text 268435442) ≡ true
large_4 = large 268435442 true refl

large_5 : is_too_large (long_text 4294967296) ≡ true
large_5 = large 4294967296 true refl

small_1 : is_too_large empty ≡ false
unfolding in_four
small_1 = refl

told : (n : ℕ) → too_large (long_text n) ≡ state_too_large (min (15 + n) most_told)
told n = ap (λ k. state_too_large (min k most_told)) (takes n)

told_1 : too_large (long_text 268435442) ≡ state_too_large 268435457
told_1 = told 268435442

told_2 : too_large (long_text 301001520) ≡ state_too_large 301001535
told_2 = told 301001520

-- 2 ^ 64 - 1 bytes are told as they are, and more are told by them, too.
told_3 : too_large (long_text 18446744073709551599) ≡ state_too_large 18446744073709551614
told_3 = told 18446744073709551599

told_4 : too_large (long_text 18446744073709551600) ≡ state_too_large 18446744073709551615
told_4 = told 18446744073709551600

told_5 : too_large (long_text 18446744073709551601) ≡ state_too_large 18446744073709551615
told_5 = told 18446744073709551601

kept_where : (s : State) (g : Graph) (k : Stepped) → is_too_large s ≡ false → unless_too_large s g k ≡ k
kept_where s g k e = rw e refl

refused_where : (s : State) (g : Graph) (k : Stepped) (bytes : ℕ) → is_too_large s ≡ true → too_large s ≡ state_too_large bytes → unless_too_large s g k ≡ refused_with (state_too_large bytes) g
refused_where s g k bytes e f = rw (e, f) refl

kept_1 : (k : Stepped) → unless_too_large (long_text 268435441) new_graph k ≡ k
kept_1 k = kept_where (long_text 268435441) new_graph k large_3

refused_1 : (k : Stepped) → unless_too_large (long_text 268435442) new_graph k ≡ refused_with (state_too_large 268435457) new_graph
refused_1 k = refused_where (long_text 268435442) new_graph k 268435457 large_4 told_1

-- ---- texts of cells

abbrev full : Graph
full = record new_graph { records = 1000000 }

length_tested : (n : ℕ) (b : Bool) → nat_lt longest_text n ≡ b → is_too_long (letters n) ≡ b
length_tested n b e = ap (nat_lt longest_text) (how_many n) ∙ e

long_1 : is_too_long (letters 1048576) ≡ false
long_1 = length_tested 1048576 false refl

long_2 : is_too_long (letters 1048577) ≡ true
long_2 = length_tested 1048577 true refl

too_long : (t : List ℕ) (g : Graph) → is_too_long t ≡ true → step g (cell t) ≡ refused_with cell_too_long g
too_long t g e = rw e refl

no_room : (t : List ℕ) (g : Graph) → is_too_long t ≡ false → nat_le 1000000 g.records ≡ true → step g (cell t) ≡ refused_with store_full g
no_room t g e f = rw (e, f) refl

refused_2 : step new_graph (cell (letters 1048577)) ≡ refused_with cell_too_long new_graph
refused_2 = too_long (letters 1048577) new_graph long_2

-- Before the room of the store the length is looked at.
refused_3 : step full (cell (letters 1048577)) ≡ refused_with cell_too_long full
refused_3 = too_long (letters 1048577) full long_2

refused_4 : step full (cell (letters 1048576)) ≡ refused_with store_full full
refused_4 = no_room (letters 1048576) full long_1 refl

-- One text that is too long is enough, wherever it stands.
first_long : (t u : List ℕ) (g : Graph) → is_too_long t ≡ true → step g (cells (t ∷ u ∷ [])) ≡ refused_with cell_too_long g
first_long t u g e = rw e refl

second_long : (t u : List ℕ) (g : Graph) → is_too_long t ≡ false → is_too_long u ≡ true → step g (cells (t ∷ u ∷ [])) ≡ refused_with cell_too_long g
second_long t u g e f = rw (e, f) refl

refused_5 : step full (cells (letters 1048577 ∷ [] ∷ [])) ≡ refused_with cell_too_long full
refused_5 = first_long (letters 1048577) [] full long_2

refused_6 : step new_graph (cells ([] ∷ letters 1048577 ∷ [])) ≡ refused_with cell_too_long new_graph
refused_6 = second_long [] (letters 1048577) new_graph refl long_2

-- What is refused so takes no step.
no_step : (t : List ℕ) (g : Graph) → is_too_long t ≡ true → charge_of g (cell t) ≡ 0
no_step t g e = rw e refl

steps_1 : charge_of new_graph (cell (letters 1048577)) ≡ 0
steps_1 = no_step (letters 1048577) new_graph long_2

-- ---- the texts of a request together

texts_1 : texts_size [] ≡ 0
texts_1 = refl

texts_2 : texts_size (codes "abc" ∷ [] ∷ codes "d" ∷ []) ≡ 16
texts_2 = refl

room_1 : HasRoom (cells (letters 67108860 ∷ []))
room_1 = omega (arith, how_many 67108860)

room_2 : HasRoom (cells (letters 67108861 ∷ [])) → ⊥
room_2 h = absurd (omega (arith, how_many 67108861, h))

room_3 : HasRoom (cell (letters 67108861))
room_3 = tt
