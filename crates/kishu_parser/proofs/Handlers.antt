-- A handler's class and name are read apart.
use Rattle.std.proofs.Common.{◌≡◌, ℕ, suc, Bool, true, false, cond, List, Option, Some, None, refl, ap, ◌∙◌}
use Rattle.kishu_language.specs.declared.token.Mark.TheVariants as m
use Rattle.kishu_language.specs.trees.Tree.{Text, Expression, Statement, Statements, Handler}
use Rattle.kishu_language.specs.grammar.Language.{Tokens}
use Rattle.kishu_language.specs.grammar.Grammar.{expr}
use Rattle.kishu_language.specs.grammar.Refusals.{Around, in_handler}
use Rattle.kishu_language.specs.grammar.Statements.{handler_of}
use Rattle.kishu_language.specs.reading.Reader.{Reader, Outcome, and_then, mark, optional}
use Rattle.kishu_language.specs.reading.ReadExpressions.{expr_begins, phrase}
use Rattle.kishu_language.specs.reading.ReadStatements as spec
use Rattle.kishu_parser.specs.Statements as lines

abbrev Caught : Type 0
Caught = Option (Expression × Option Text)

abbrev Parts : Type 0
Parts = Option Expression × Option Text

abbrev parts_of : Caught → Parts
parts_of None = (None, None)
parts_of (Some c) = (Some c.0, c.1)

abbrev parted : Outcome Caught → Outcome Parts
parted None = None
parted (Some p) = Some (parts_of p.0, p.1)

named : (class : Expression) (o : Outcome (Option Text))
    → parted (and_then (and_then o (λ name us. Some ((class, name), us))) (λ c us. Some (Some c, us))) ≡ and_then o (λ name us. Some ((Some class, name), us))
named class None = refl
named class (Some p) = refl

classed : (o : Outcome Expression)
    → parted (and_then (and_then o (λ class us. and_then (lines.after_as us) (λ name vs. Some ((class, name), vs)))) (λ c us. Some (Some c, us)))
    ≡ and_then o (λ class us. and_then (lines.after_as us) (λ name vs. Some ((Some class, name), vs)))
classed None = refl
classed (Some p) = named p.0 (lines.after_as p.1)

begun : (depth : ℕ) (ts : Tokens) (b : Bool)
    → parted (cond b (and_then (and_then (phrase (suc depth) expr ts) (λ class us. and_then (lines.after_as us) (λ name vs. Some ((class, name), vs)))) (λ c us. Some (Some c, us))) (Some (None, ts)))
    ≡ cond b (and_then (phrase (suc depth) expr ts) (λ class us. and_then (lines.after_as us) (λ name vs. Some ((Some class, name), vs)))) (Some ((None, None), ts))
begun depth ts false = refl
begun depth ts true = classed (phrase (suc depth) expr ts)

caught_is : (source : Text) (depth : ℕ) (inner : Around → Reader (List Statement)) (ts : Tokens) → parted (optional expr_begins (spec.caught source depth inner) ts) ≡ lines.caught_parts depth ts
unfolding spec.caught
caught_is source depth inner ts = begun depth ts (expr_begins ts)

-- the rest of a handler
abbrev ended : Reader Statements → Option Expression → Option Text → Reader Handler
ended block class name ts = and_then (mark m.Colon ts) (λ u us. and_then (block us) (λ body vs. Some (record { class = class; caught = name; body = body }, vs)))

abbrev whole : Reader Statements → Caught → Reader Handler
whole block found ts = and_then (mark m.Colon ts) (λ u us. and_then (block us) (λ body vs. Some (handler_of found body, vs)))

ended_is : (block : Reader Statements) (o : Outcome Caught) → and_then o (whole block) ≡ and_then (parted o) (λ parts. ended block parts.0 parts.1)
ended_is block None = refl
ended_is block (Some (None, ts)) = refl
ended_is block (Some (Some c, ts)) = refl

pub body_is : (source : Text) (depth : ℕ) (inner : Around → Reader (List Statement)) (around : Around) (ts : Tokens) → spec.handler source depth inner around ts ≡ lines.handler_body source depth inner around ts
unfolding spec.handler
body_is source depth inner around ts = go (mark m.Except ts)
  where
    block : Reader Statements
    block = spec.block source depth inner (in_handler around)

    go : (o : Outcome (Unit {0}))
        → and_then o (λ u us. and_then (optional expr_begins (spec.caught source depth inner) us) (whole block))
        ≡ and_then o (λ u us. and_then (lines.caught_parts depth us) (λ parts. ended block parts.0 parts.1))
    go None = refl
    go (Some p) = ended_is block (optional expr_begins (spec.caught source depth inner) p.1) ∙ ap (λ o. and_then o (λ parts. ended block parts.0 parts.1)) (caught_is source depth inner p.1)
