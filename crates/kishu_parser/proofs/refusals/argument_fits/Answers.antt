use Rattle.std.proofs.Common.{◌≡◌, Bool, List, ◌∷◌, Option, sym, ap, ◌∙◌}
use Rattle.std.specs.Prelude.{Result, Ok, Err, IfOk, OnOk, not, ◌&&◌}
use Rattle.std.specs.Rc.{rc_str_bytes}
use Rattle.kishu_language.specs.tokens.Names.{is_among}
use Rattle.kishu_language.specs.trees.Tree.{Text, Expression, Argument, keyword, expression_of}
use Rattle.kishu_language.specs.grammar.Grammar.{fits_after}
use Rattle.kishu_parser.specs.Sets.{names_in, with_name}
use Rattle.kishu_language.specs.trees.Parts.{argument_of}
use Rattle.kishu_parser.proofs.NameSets.{plain_fits, keyword_fits}
use Rattle.kishu_language.specs.trees.Rows.{plain_is, keyword_is}
use Rattle.kishu_parser.proofs.refusals.argument_fits.Goals as goal

pub returns-in-Plain : goal.returns-in-Plain
returns-in-Plain c = λ rest.
    ap (λ a. fits_after (names_in c.args.seen.now) (a ∷ rest)) (ap argument_of c.in-Plain.is ∙ plain_is c.in-Plain.field-0)
    ∙ plain_fits (names_in c.args.seen.now) (expression_of c.in-Plain.field-0) rest
    ∙ ap (λ b. b && fits_after (names_in c.args.seen.now) rest) (sym c.is_empty.ensures)

inserted_fits : {E : Type 0} (r : Result Bool E) (old new : List Text) (a : Argument) (x : Text) (e : Expression) → a ≡ keyword x e
    → IfOk r (λ b. b ≡ not (is_among x old)) → OnOk r (new ≡ with_name old x)
    → IfOk r (λ b. (rest : List Argument) → fits_after old (a ∷ rest) ≡ (b && fits_after new rest))
inserted_fits (Ok b) old new a x e h fresh names = λ rest.
    ap (λ y. fits_after old (y ∷ rest)) h
    ∙ keyword_fits old x e rest
    ∙ ap (λ y. y && fits_after (with_name old x) rest) (sym fresh)
    ∙ ap (λ s. b && fits_after s rest) (sym names)
inserted_fits (Err k) old new a x e h fresh names = tt

pub returns-in-Keyword : goal.returns-in-Keyword
returns-in-Keyword c =
    inserted_fits c.insert.result (names_in c.args.seen.now) (names_in c.insert.new.self) (argument_of c.args.argument.now) (rc_str_bytes c.in-Keyword.name) (expression_of c.in-Keyword.field-1)
    (ap argument_of c.in-Keyword.is ∙ keyword_is c.in-Keyword.name c.in-Keyword.field-1)
    c.insert.ensures.new c.insert.ensures.names
