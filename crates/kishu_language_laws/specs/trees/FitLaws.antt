-- A tree of which all holds but for the codes of its functions, with codes of which what is asked holds: so it fits, where each code reads.
use Rattle.std.specs.Prelude.{ℤ, Bool, true, false, ◌&&◌, IsTrue, List, [], ◌∷◌}
use Rattle.std.specs.List.{list_all}
use Rattle.std.proofs.Common.{refl, inl, inr}
use Rattle.kishu_language.specs.grammar.Targets.{is_target}
use Rattle.kishu_language.specs.trees.Inside.{InStatement, InStatements, InArms, InHandlers}
use Rattle.kishu_language.specs.trees.Tree.{Text, Expression, Statement, Statements, Arms, Handlers, Definition}
use Rattle.kishu_language.specs.trees.Tree as t
use Rattle.kishu_language.specs.trees.Holds.{any_code, EachHolds, StatementHolds, StatementsHold, ArmsHold, HandlersHold}
use Rattle.kishu_language_laws.specs.trees.Placed.{PlaceHolds}

both : (a b : Bool) → IsTrue (a && b) → IsTrue a × IsTrue b
both true b h = (refl, h)
both false b h = absurd cc

-- where one test implies another, of a list
tests : (test other : Expression → Bool) → ((e : Expression) → IsTrue (test e) → IsTrue (other e)) → (es : List Expression) → IsTrue (list_all test es) → IsTrue (list_all other es)
tests test other implies [] h = refl
tests test other implies (e ∷ es) h = let p = both (test e) (list_all test es) h in λ i. implies e p.0 i && tests test other implies es p.1 i

each : (P Q : Expression → Type 0) → ((e : Expression) → P e → Q e) → (es : List Expression) → EachHolds P es → EachHolds Q es
each P Q implies [] h = tt
each P Q implies (e ∷ es) h = (implies e h.0, each P Q implies es h.1)

-- of each function that is inside
abbrev pub CodesInside : (Text → Definition → Type 0) → (Statement → Type 0) → Type 0
CodesInside coded inside = (d : Definition) (code : Text) → inside (t.define d.title d.parameters d.body code) → coded code d

module _ (number : ℤ → Type 0) (text : Text → Type 0) (target : Expression → Bool) (place : Expression → Type 0) (coded : Text → Definition → Type 0)
    (targets : (e : Expression) → IsTrue (is_target e) → IsTrue (target e)) (places : (e : Expression) → PlaceHolds number text e → place e) where
  mutual
    pub coded_statement : (s : Statement) → StatementHolds number text is_target (PlaceHolds number text) any_code s → CodesInside coded (λ d. InStatement d s) → StatementHolds number text target place coded s
    coded_statement t.pass n c = tt
    coded_statement t.break n c = tt
    coded_statement t.continue n c = tt
    coded_statement (t.return e) n c = n
    coded_statement (t.raise e) n c = n
    coded_statement (t.assert e message) n c = n
    coded_statement (t.delete es) n c = each (PlaceHolds number text) place places es n
    coded_statement (t.global xs) n c = tt
    coded_statement (t.import x) n c = n
    coded_statement (t.update e operator operand) n c = (places e n.0, n.1)
    coded_statement (t.assign es e) n c = (n.0, n.1, tests is_target target targets es n.2)
    coded_statement (t.choose arms other) n c = (coded_arms arms n.0 (λ d code i. c d code (inl i)), coded_statements other n.1 (λ d code i. c d code (inr i)))
    coded_statement (t.while e body) n c = (n.0, coded_statements body n.1 c)
    coded_statement (t.for e walked body) n c = (n.0, n.1, coded_statements body n.2 c, targets e n.3)
    coded_statement (t.try body hs other last) n c = (
      coded_statements body n.0 (λ d code i. c d code (inl i)),
      coded_handlers hs n.1 (λ d code i. c d code (inr (inl i))),
      coded_statements other n.2 (λ d code i. c d code (inr (inr (inl i)))),
      coded_statements last n.3 (λ d code i. c d code (inr (inr (inr i)))),
    )
    coded_statement (t.finally body last) n c = (coded_statements body n.0 (λ d code i. c d code (inl i)), coded_statements last n.1 (λ d code i. c d code (inr i)))
    coded_statement (t.define x ps body code) n c = (n.0, n.1, coded_statements body n.2 (λ d other i. c d other (inr i)), c (record { title = x; parameters = ps; body = body }) code (inl refl))

    pub coded_statements : (ss : Statements) → StatementsHold number text is_target (PlaceHolds number text) any_code ss → CodesInside coded (λ d. InStatements d ss) → StatementsHold number text target place coded ss
    coded_statements t.no_statements n c = tt
    coded_statements (t.more_statements first ss) n c = (coded_statement first n.0 (λ d code i. c d code (inl i)), coded_statements ss n.1 (λ d code i. c d code (inr i)))

    coded_arms : (as' : Arms) → ArmsHold number text is_target (PlaceHolds number text) any_code as' → CodesInside coded (λ d. InArms d as') → ArmsHold number text target place coded as'
    coded_arms t.no_arms n c = tt
    coded_arms (t.more_arms e body as') n c = (n.0, coded_statements body n.1 (λ d code i. c d code (inl i)), coded_arms as' n.2 (λ d code i. c d code (inr i)))

    coded_handlers : (hs : Handlers) → HandlersHold number text is_target (PlaceHolds number text) any_code hs → CodesInside coded (λ d. InHandlers d hs) → HandlersHold number text target place coded hs
    coded_handlers t.no_handlers n c = tt
    coded_handlers (t.more_handlers class caught body hs) n c = (n.0, n.1, coded_statements body n.2 (λ d code i. c d code (inl i)), coded_handlers hs n.3 (λ d code i. c d code (inr i)))
