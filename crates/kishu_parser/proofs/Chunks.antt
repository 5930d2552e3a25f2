-- Turns of chunks, whose statements are in one list.
use Rattle.std.proofs.Common.{◌≡◌, ℕ, ◌-◌, ◌<◌, Bool, true, List, ◌++◌, Some, None, ap}
use Rattle.kishu_language.specs.trees.Tree.{Statement}
use Rattle.kishu_language.specs.grammar.Language.{Tokens}
use Rattle.kishu_language.specs.reading.Reader.{Reader, Outcome, and_then, climb}
use Rattle.kishu_parser.specs.declared.cursor.Stop.{Stop}
use Rattle.kishu_parser.specs.Views.{Fails}
use Rattle.kishu_parser.specs.Statements.{chunk_turn}
use Rattle.kishu_parser.proofs.Counts.{fails_by, breaks}

pub fails_chunk : {x : Outcome (List Statement)} (test : Tokens → Bool) (item : Reader (List Statement)) (n at : ℕ) (all : List Statement) (ts : Tokens) (e : Stop) → at < n → x ≡ climb test (chunk_turn item) (n - at) all ts → test ts ≡ true → Fails (item ts) e → Fails x e
fails_chunk {x} test item n at all ts e below so_far go k =
    fails_by (item ts) x e (λ none. breaks test (chunk_turn item) n at all ts below so_far go (ap (λ o. and_then o (λ next us. Some (all ++ next, us))) none)) k
