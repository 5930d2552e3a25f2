-- Readers that Rust's words name, by their bodies; and a block whose statements are in one list.
use Rattle.std.proofs.Common.{◌≡◌, ℕ, zero, suc, Bool, true, false, cond, List, [], ◌∷◌, ◌++◌, length, Option, Some, None, refl, sym, ap, ◌∙◌, append_assoc}
use Rattle.std.proofs.lemmas.List.{append-nil}
use Rattle.std.specs.List.{flat_map}
use Rattle.kishu_language.specs.trees.Tree.{Text, Statement, Statements, statements}
use Rattle.kishu_language.specs.grammar.Language.{Tokens}
use Rattle.kishu_language.specs.grammar.Refusals.{Around}
use Rattle.kishu_language.specs.grammar.Statements.{in_order}
use Rattle.kishu_language.specs.reading.Reader.{Reader, Outcome, and_then, token, is_newline, is_indent, is_dedent, sees_some, climb, turns, one_more, some}
use Rattle.kishu_language.specs.reading.ReadStatements as spec
use Rattle.kishu_parser.specs.Statements as lines
use Rattle.kishu_parser.specs.Statements.{chunk_turn, sees_chunk}

pub return_is : (around : Around) (depth : ℕ) (ts : Tokens) → spec.return around depth ts ≡ lines.return_body around depth ts
unfolding spec.return
return_is around depth ts = refl

pub while_is : (source : Text) (depth : ℕ) (inner : Around → Reader (List Statement)) (around : Around) (ts : Tokens) → spec.while source depth inner around ts ≡ lines.while_body source depth inner around ts
unfolding spec.while
while_is source depth inner around ts = refl

pub for_is : (source : Text) (depth : ℕ) (inner : Around → Reader (List Statement)) (around : Around) (ts : Tokens) → spec.for source depth inner around ts ≡ lines.for_body source depth inner around ts
unfolding spec.for
for_is source depth inner around ts = refl

pub try_is : (source : Text) (depth : ℕ) (inner : Around → Reader (List Statement)) (around : Around) (ts : Tokens) → spec.try source depth inner around ts ≡ lines.try_body source depth inner around ts
unfolding spec.try
try_is source depth inner around ts = refl

-- ---- statements in one list

abbrev flat : List (List Statement) → List Statement
flat parts = flat_map (λ part. part) parts

flat_more : (parts : List (List Statement)) (next : List Statement) → flat (parts ++ next ∷ []) ≡ flat parts ++ next
flat_more [] next = append-nil next
flat_more (p ∷ parts) next = ap (λ all. p ++ all) (flat_more parts next) ∙ sym (append_assoc p (flat parts) next)

abbrev flatly : Outcome (List (List Statement)) → Outcome (List Statement)
flatly None = None
flatly (Some p) = Some (flat p.0, p.1)

climb_flat : (test : Tokens → Bool) (item : Reader (List Statement)) (n : ℕ) (parts : List (List Statement)) (ts : Tokens)
    → flatly (climb test (one_more item) n parts ts) ≡ climb test (chunk_turn item) n (flat parts) ts
climb_flat test item zero parts ts = refl
climb_flat test item (suc n) parts ts = go (λ qs us. climb_flat test item n qs us) (test ts)
  where
    after : ((qs : List (List Statement)) (us : Tokens) → flatly (climb test (one_more item) n qs us) ≡ climb test (chunk_turn item) n (flat qs) us) → (o : Outcome (List Statement))
        → flatly (and_then (and_then o (λ next us. Some (parts ++ next ∷ [], us))) (climb test (one_more item) n)) ≡ and_then (and_then o (λ next us. Some (flat parts ++ next, us))) (climb test (chunk_turn item) n)
    after shorter None = refl
    after shorter (Some p) = shorter (parts ++ p.0 ∷ []) p.1 ∙ ap (λ all. climb test (chunk_turn item) n all p.1) (flat_more parts p.0)

    go : ((qs : List (List Statement)) (us : Tokens) → flatly (climb test (one_more item) n qs us) ≡ climb test (chunk_turn item) n (flat qs) us) → (b : Bool)
        → flatly (cond b (and_then (one_more item parts ts) (climb test (one_more item) n)) (Some (parts, ts)))
        ≡ cond b (and_then (chunk_turn item (flat parts) ts) (climb test (chunk_turn item) n)) (Some (flat parts, ts))
    go shorter false = refl
    go shorter true = after shorter (item ts)

abbrev ended : Outcome (List Statement) → Outcome Statements
ended o = and_then o (λ all us. and_then (token is_dedent us) (λ u vs. Some (statements all, vs)))

flat_ended : (o : Outcome (List (List Statement))) → and_then o (λ parts us. and_then (token is_dedent us) (λ u vs. Some (in_order parts, vs))) ≡ ended (flatly o)
flat_ended None = refl
flat_ended (Some p) = refl

pub block_is : (source : Text) (depth : ℕ) (inner : Around → Reader (List Statement)) (around : Around) (ts : Tokens) → spec.block source depth inner around ts ≡ lines.block_body source depth inner around ts
unfolding spec.block
block_is source depth inner around ts =
    elim (sees_some is_newline ts) as (λ b.
    cond b (and_then (token is_newline ts) (λ u ts. and_then (token is_indent ts) (λ u us. and_then (and_then (inner around us) (λ first vs. turns sees_chunk (one_more (inner around)) (first ∷ []) vs)) (λ parts vs. and_then (token is_dedent vs) (λ u ws. Some (in_order parts, ws)))))) (and_then (spec.line around depth ts) (λ all us. Some (statements all, us)))
    ≡ cond b (and_then (token is_newline ts) (λ u ts. and_then (token is_indent ts) (λ u us. and_then (inner around us) (λ first vs. ended (turns sees_chunk (chunk_turn (inner around)) first vs))))) (and_then (spec.line around depth ts) (λ all us. Some (statements all, us))))
    [ true ↦ opened (token is_newline ts) | false ↦ refl ]
  where
    chunks : (o : Outcome (List Statement))
        → and_then (and_then o (λ first us. turns sees_chunk (one_more (inner around)) (first ∷ []) us)) (λ parts us. and_then (token is_dedent us) (λ u vs. Some (in_order parts, vs)))
        ≡ and_then o (λ first us. ended (turns sees_chunk (chunk_turn (inner around)) first us))
    chunks None = refl
    chunks (Some p) = flat_ended (climb sees_chunk (one_more (inner around)) (length p.1) (p.0 ∷ []) p.1)
        ∙ ap ended (climb_flat sees_chunk (inner around) (length p.1) (p.0 ∷ []) p.1 ∙ ap (λ all. climb sees_chunk (chunk_turn (inner around)) (length p.1) all p.1) (append-nil p.0))

    indented : (o : Outcome (Unit {0})) →
        and_then o (λ u us. and_then (and_then (inner around us) (λ first vs. turns sees_chunk (one_more (inner around)) (first ∷ []) vs)) (λ parts vs. and_then (token is_dedent vs) (λ u ws. Some (in_order parts, ws))))
        ≡ and_then o (λ u us. and_then (inner around us) (λ first vs. ended (turns sees_chunk (chunk_turn (inner around)) first vs)))
    indented None = refl
    indented (Some p) = chunks (inner around p.1)

    opened : (o : Outcome (Unit {0})) →
        and_then o (λ u ts. and_then (token is_indent ts) (λ u us. and_then (and_then (inner around us) (λ first vs. turns sees_chunk (one_more (inner around)) (first ∷ []) vs)) (λ parts vs. and_then (token is_dedent vs) (λ u ws. Some (in_order parts, ws)))))
        ≡ and_then o (λ u ts. and_then (token is_indent ts) (λ u us. and_then (inner around us) (λ first vs. ended (turns sees_chunk (chunk_turn (inner around)) first vs))))
    opened None = refl
    opened (Some p) = indented (token is_indent p.1)
