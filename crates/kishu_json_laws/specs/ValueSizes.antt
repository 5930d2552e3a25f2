-- A value that was read is no larger than its text.
use Rattle.std.proofs.Common.{◌≡◌, ℕ, suc, ◌+◌, ◌≤◌, ◌<◌, List, [], ◌∷◌, length, Option, Some, None, option_map, option_and_then, Ordering, Less, Equal, Greater, refl, ap, subst, arith}
use Rattle.std.specs.Cmp.Lexicographic.{slice_cmp}
use Rattle.std.specs.Ordering.{nat_cmp, match_ordering}
use Rattle.std.specs.Prelude.{⊤}
use Rattle.json.specs.Token.{Token}
use Rattle.json.specs.Lex.{tokens}
use Rattle.json.specs.Json as json
use Rattle.json.specs.Tree.{json_tokens, items_tokens, members_tokens}
use Rattle.json.proofs.Unique.Spelling.{value-json_tokens_back}
use Rattle.serde_json.specs.Data.{Data, null, boolean, number, string, array, object, Items, no_items, item, Members, no_members, member, put}
use Rattle.serde_json.specs.Events.{items_len}
use Rattle.serde_json.specs.Find.{get_member}
use Rattle.serde_json.specs.Read.{number_of, of_json, of_items, of_members, max_depth, read}
use Rattle.kishu_json_laws.specs.TokenSizes.{tokens_size, tokens_size-append, tokens_within}

-- a text with its quotes, the quotes of a key, and one for each other part
abbrev mutual
  pub size : Data → ℕ
  size null = 1
  size (boolean b) = 1
  size (number n) = 1
  size (string s) = length s + 2
  size (array ds) = suc (items_size ds)
  size (object ms) = suc (members_size ms)

  pub items_size : Items → ℕ
  items_size no_items = 0
  items_size (item d ds) = size d + items_size ds

  pub members_size : Members → ℕ
  members_size no_members = 0
  members_size (member k d ms) = 2 + size d + members_size ms

abbrev pub AtMost : {A : Type 0} → (A → ℕ) → ℕ → Option A → Type 0
AtMost f n None = ⊤
AtMost f n (Some a) = f a ≤ n

mapped : {A B : Type 0} (f : A → ℕ) (g : B → ℕ) (m n : ℕ) (h : A → B) → ((a : A) → f a ≤ m → g (h a) ≤ n) → (o : Option A) → AtMost f m o → AtMost g n (option_map h o)
mapped f g m n h k None x = tt
mapped f g m n h k (Some a) x = k a x

then : {A B : Type 0} (f : A → ℕ) (g : B → ℕ) (m n : ℕ) (h : A → Option B) → ((a : A) → f a ≤ m → AtMost g n (h a)) → (o : Option A) → AtMost f m o → AtMost g n (option_and_then h o)
then f g m n h k None x = tt
then f g m n h k (Some a) x = k a x

flat : {A : Type 0} (o : Option A) → AtMost (λ _. 0) 0 o
flat None = tt
flat (Some a) = omega arith

-- ---- a value is no larger than its tokens

put_at : (o : Ordering) (k l : List ℕ) (d e : Data) (ms : Members) → members_size (put k d ms) ≤ 2 + size d + members_size ms
    → members_size (match_ordering o (member k d (member l e ms)) (member l d ms) (member l e (put k d ms))) ≤ 2 + size d + (2 + size e + members_size ms)
put_at Less k l d e ms rest = omega arith
put_at Equal k l d e ms rest = omega arith
put_at Greater k l d e ms rest = omega (arith, rest)

put_size : (k : List ℕ) (d : Data) (ms : Members) → members_size (put k d ms) ≤ 2 + size d + members_size ms
put_size k d no_members = omega arith
put_size k d (member l e ms) = put_at (slice_cmp nat_cmp k l) k l d e ms (put_size k d ms)

mutual
  json_size : (j : json.Json) (n : ℕ) → tokens_size (json_tokens j) ≤ n → AtMost size n (of_json j)
  json_size json.null n h = omega arith
  json_size (json.boolean b) n h = omega arith
  json_size (json.number s) n h = mapped (λ _. 0) size 0 n number (λ a x. omega arith) (number_of s) (flat _)
  json_size (json.string s) n h = omega arith
  json_size (json.array js) n h = mapped items_size size (tokens_size (items_tokens js)) n array (λ a x. omega arith) _ (items_json_size js _ (omega arith))
  json_size (json.object ms) n h = mapped members_size size (tokens_size (members_tokens ms)) n object (λ a x. omega arith) _ (members_json_size ms no_members _ (omega arith))

  items_json_size : (js : json.Items) (n : ℕ) → tokens_size (items_tokens js) ≤ n → AtMost items_size n (of_items js)
  items_json_size json.no_items n h = omega arith
  items_json_size (json.item j js) n h =
      let both = tokens_size-append (json_tokens j) (items_tokens js) in
      then size items_size (tokens_size (json_tokens j)) n _
      (λ d x. mapped items_size items_size (tokens_size (items_tokens js)) n (item d) (λ ds y. omega (arith, both, h, x, y)) _ (items_json_size js _ (omega arith))) _ (json_size j _ (omega arith))

  members_json_size : (ms : json.Members) (found : Members) (n : ℕ) → members_size found + tokens_size (members_tokens ms) ≤ n → AtMost members_size n (of_members ms found)
  members_json_size json.no_members found n h = omega arith
  members_json_size (json.member k j ms) found n h =
      let both = tokens_size-append (json_tokens j) (members_tokens ms) in
      then size members_size (tokens_size (json_tokens j)) n _ (λ d x. members_json_size ms (put k d found) n (omega (arith, both, h, x, put_size k d found))) _ (json_size j _ (omega arith))

last_size : (o : Option (json.Json × List Token)) (n : ℕ) → ((j : json.Json) (r : List Token) → o ≡ Some (j, r) → tokens_size (json_tokens j) ≤ n)
    → AtMost (λ j. tokens_size (json_tokens j)) n (option_and_then (λ p. json.if_last p.0 p.1) o)
last_size None n h = tt
last_size (Some (j, [])) n h = h j [] refl
last_size (Some (j, t ∷ r)) n h = tt

begins : (text : List ℕ) (j : json.Json) (r : List Token) → json.value max_depth (tokens text) ≡ Some (j, r) → tokens_size (json_tokens j) ≤ length text
begins text j r is = omega (arith, tokens_within text, ap (λ (ts : List Token). tokens_size ts) (value-json_tokens_back max_depth (tokens text) r j is), tokens_size-append (json_tokens j) r)

pub read_size : (text : List ℕ) (d : Data) → read text ≡ Some d → size d ≤ length text
read_size text d is =
    subst (AtMost size (length text)) is (then (λ j. tokens_size (json_tokens j)) size (length text) (length text) of_json (λ j x. json_size j (length text) x) _ (last_size _ (length text) (begins text)))

-- ---- the parts of a value

pub some_size : (d : Data) → 0 < size d
some_size null = omega arith
some_size (boolean b) = omega arith
some_size (number n) = omega arith
some_size (string s) = omega arith
some_size (array ds) = omega arith
some_size (object ms) = omega arith

pub items_len-size : (ds : Items) → items_len ds ≤ items_size ds
items_len-size no_items = omega arith
items_len-size (item d ds) = omega (arith, some_size d, items_len-size ds)

-- a value at a key, with the key's quotes
abbrev pub keyed : Data → ℕ
keyed d = 2 + size d

wider : (o : Option Data) (m n : ℕ) → AtMost keyed m o → m ≤ n → AtMost keyed n o
wider None m n h le = tt
wider (Some d) m n h le = omega arith

found_at : (o : Ordering) (k : List ℕ) (e : Data) (ms : Members) → AtMost keyed (members_size ms) (get_member k ms)
    → AtMost keyed (2 + size e + members_size ms) (match_ordering o (get_member k ms) (Some e) (get_member k ms))
found_at Less k e ms rest = wider (get_member k ms) _ _ rest (omega arith)
found_at Equal k e ms rest = omega arith
found_at Greater k e ms rest = wider (get_member k ms) _ _ rest (omega arith)

pub found_size : (k : List ℕ) (ms : Members) → AtMost keyed (members_size ms) (get_member k ms)
found_size k no_members = tt
found_size k (member l e ms) = found_at (slice_cmp nat_cmp k l) k e ms (found_size k ms)
