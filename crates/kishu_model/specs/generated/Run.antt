-- A run of generated requests: nothing is written for them, and then one line tells what they have come to.
use Rattle.std.specs.Prelude.{ℕ, suc, List, [], ◌∷◌, ◌++◌, map, codes}
use Rattle.hex.specs.Hex.{encode_lower}
use Rattle.serde_json.specs.Data.{Data, number, string, object, no_members, member, unsigned}
use Rattle.serde_json.specs.Written.{compact_text}
use Rattle.sha2.specs.Sha256.{sha256}
use Rattle.kishu_language.specs.tokens.Lines.{line_feed}
use Rattle.kishu_store.specs.Graph.{Graph, newest}
use Rattle.kishu_model.specs.Request.{Request}
use Rattle.kishu_model.specs.Serve.{Item, answered, silent, closing, after_all, answers}
use Rattle.kishu_model.specs.generated.Requests.{generated_requests}

-- how many commits and records there are, and a digest
abbrev pub summary_data : (commits records : ℕ) → (digest : List ℕ) → Data
summary_data commits records digest =
    object (
    member (codes "answer") (string (codes "gen"))
    (member (codes "commits") (number (unsigned commits)) (member (codes "records") (number (unsigned records)) (member (codes "sha256") (string digest) no_members)))
    )

-- The digest is the SHA-256 (FIPS 180-4), in hexadecimal digits, of the lines that would answer the requests: one behind another, each with its line feed.
abbrev pub summary_line : (commits records : ℕ) → (lines : List ℕ) → List ℕ
summary_line commits records lines = compact_text (summary_data commits records (encode_lower (sha256 lines))) ++ line_feed ∷ []

-- that of a graph; the root is counted among the commits
abbrev pub summary_of : Graph → (lines : List ℕ) → List ℕ
summary_of g lines = summary_line (suc (newest g)) g.records lines

-- These requests are applied to a graph, and summed up.
abbrev pub summed_up : Graph → List Request → List Item
summed_up g qs = map silent qs ++ closing (summary_of (after_all g (map silent qs)) (answers g (map answered qs))) ∷ []

abbrev pub generated_run : (start many : ℕ) → Graph → List Item
generated_run start many g = summed_up g (generated_requests start many)
