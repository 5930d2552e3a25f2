-- What is set for an answer where memory lacked on the way.
use Rattle.std.specs.Prelude.{◌≡◌, ◌<◌, ℕ, List, length, map, take}
use Rattle.serde_json.specs.Data.{Data}
use Rattle.kishu_model.specs.Answers.{Counted}
use Rattle.kishu_model.specs.Values.{counted_of}
use Rattle.kishu_model.specs.notebooks.Run.{with_results}
use Rattle.kishu_model.specs.declared.answer.Answer as rust
use Rattle.kishu_model.specs.declared.answer.Answer.TheVariants as answers

-- the first of these results are set, from this code cell on, and not all
abbrev pub IsPartlySet : (at : ℕ) → List Counted → (old new : Data) → Type 0
IsPartlySet at results old new = (n : ℕ) × (n < length results) × (new ≡ with_results at (take n results) old)

-- of several results the first ones, and of another answer nothing
abbrev pub IsCutShort : (at : ℕ) → rust.Answer → (old new : Data) → Type 0
IsCutShort at (answers.Cell commit count result) old new = new ≡ old
IsCutShort at (answers.Cells commit results) old new = IsPartlySet at (map counted_of results.items) old new
IsCutShort at (answers.Checkout commit head) old new = new ≡ old
IsCutShort at (answers.Branch commit name) old new = new ≡ old
IsCutShort at (answers.Log branches path) old new = new ≡ old
IsCutShort at (answers.Status head commit commits names records) old new = new ≡ old
IsCutShort at (answers.Inspect commit names nodes) old new = new ≡ old
IsCutShort at (answers.Stored commit gone new_groups) old new = new ≡ old
IsCutShort at (answers.Plan commit gone kept more) old new = new ≡ old
IsCutShort at (answers.Refused number bytes) old new = new ≡ old
