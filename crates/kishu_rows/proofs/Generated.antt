-- Requests that are made from a number, and the lines that sum them up, computed on the definitions.
use Rattle.std.proofs.Common.{◌≡◌, ℕ, List, [], ◌∷◌, ◌++◌, map, codes, refl}
use Rattle.std.specs.Fmt.{digits}
use Rattle.hex.specs.Hex.{encode_lower, encode_with}
use Rattle.serde_json.proofs.OnLiterals.{serde_json_on_literals}
use Rattle.sha2.specs.Sha256.{compress, digest_bytes, first_words, hash_after, rounds, schedule, sha256}
use Rattle.kishu_store.specs.Graph.{new_graph}
use Rattle.kishu_model.specs.Request.{cell, checkout}
use Rattle.kishu_model.specs.Serve.{answered, answers}
use Rattle.kishu_model.specs.generated.Requests.{generated_requests, request_behind}
use Rattle.kishu_model.specs.generated.Run.{generated_run}
use Rattle.kishu_rows.proofs.OnLiterals.{cells_on_literals}

-- ---- requests; those from the largest start are as tools/compare/gen_rules.py makes them

first_ten : generated_requests 7 10
    ≡ map cell (
    codes "v0 = [1]" ∷ codes "v1 = [2]" ∷ codes "v2 = [3]" ∷ codes "v3 = [4]" ∷ codes "v4 = [5]"
    ∷ codes "v5 = [6]" ∷ codes "v6 = [7]" ∷ codes "v7 = [8]" ∷ codes "v8 = [9]" ∷ codes "v9 = [10]" ∷ []
    )
unfolding digits
first_ten = refl

a_look : request_behind 2147483647 10 ≡ cell (codes "print(v3 is v7, len(v7))")
unfolding digits
a_look = refl

a_growth : request_behind 2147483647 11 ≡ cell (codes "v9.append(12)")
unfolding digits
a_growth = refl

a_pair : request_behind 2147483647 12 ≡ cell (codes "v5 = [13, 3]")
unfolding digits
a_pair = refl

a_holder : request_behind 2147483647 13 ≡ cell (codes "v6 = [v5]")
unfolding digits
a_holder = refl

a_way_back : request_behind 2147483647 14 ≡ checkout (codes "4")
unfolding digits
a_way_back = refl

a_second_name : request_behind 2147483647 16 ≡ cell (codes "v9 = v7")
unfolding digits
a_second_name = refl

-- ---- what they come to; the digests are those of `sha256sum`

none_made : answers new_graph (generated_run 7 0 new_graph)
    ≡ codes "{\"answer\":\"gen\",\"commits\":1,\"records\":0,\"sha256\":\"e3b0c44298fc1c149afbf4c8996fb92427ae41e4649b934ca495991b7852b855\"}\n"
unfolding first_words schedule rounds compress hash_after digest_bytes sha256 encode_with digits serde_json_on_literals
none_made = refl

abbrev ten_lines : List ℕ
ten_lines =
    codes "{\"answer\":\"cell\",\"commit\":1,\"count\":1,\"outcome\":\"ok\",\"outputs\":[]}\n"
    ++ codes "{\"answer\":\"cell\",\"commit\":2,\"count\":2,\"outcome\":\"ok\",\"outputs\":[]}\n"
    ++ codes "{\"answer\":\"cell\",\"commit\":3,\"count\":3,\"outcome\":\"ok\",\"outputs\":[]}\n"
    ++ codes "{\"answer\":\"cell\",\"commit\":4,\"count\":4,\"outcome\":\"ok\",\"outputs\":[]}\n"
    ++ codes "{\"answer\":\"cell\",\"commit\":5,\"count\":5,\"outcome\":\"ok\",\"outputs\":[]}\n"
    ++ codes "{\"answer\":\"cell\",\"commit\":6,\"count\":6,\"outcome\":\"ok\",\"outputs\":[]}\n"
    ++ codes "{\"answer\":\"cell\",\"commit\":7,\"count\":7,\"outcome\":\"ok\",\"outputs\":[]}\n"
    ++ codes "{\"answer\":\"cell\",\"commit\":8,\"count\":8,\"outcome\":\"ok\",\"outputs\":[]}\n"
    ++ codes "{\"answer\":\"cell\",\"commit\":9,\"count\":9,\"outcome\":\"ok\",\"outputs\":[]}\n"
    ++ codes "{\"answer\":\"cell\",\"commit\":10,\"count\":10,\"outcome\":\"ok\",\"outputs\":[]}\n"

ten_answers : answers new_graph (map answered (generated_requests 7 10)) ≡ ten_lines
unfolding cells_on_literals
ten_answers = refl

ten_digest : encode_lower (sha256 ten_lines) ≡ codes "89157149c7c8a4bfa3103b258c6e36d99c3df19b483585f2d8aded32964d8e64"
unfolding first_words schedule rounds compress hash_after digest_bytes sha256 encode_with
ten_digest = refl

ten_made : answers new_graph (generated_run 7 10 new_graph)
    ≡ codes "{\"answer\":\"gen\",\"commits\":11,\"records\":10,\"sha256\":\"89157149c7c8a4bfa3103b258c6e36d99c3df19b483585f2d8aded32964d8e64\"}\n"
unfolding first_words schedule rounds compress hash_after digest_bytes sha256 encode_with cells_on_literals
ten_made = refl
