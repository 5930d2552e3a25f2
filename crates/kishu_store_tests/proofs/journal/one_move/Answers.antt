use Rattle.std.proofs.Common.{◌≡◌, ℕ, List, [], ◌∷◌, ◌++◌, sym, ap, ◌∙◌, subst}
use Rattle.std.specs.List.{AllByRecursion}
use Rattle.kishu_record.specs.declared.entry.Entry as program
use Rattle.kishu_record.specs.declared.entry.Entry.TheVariants.{Move}
use Rattle.kishu_record.specs.declared.entry.MoveTo.TheVariants.{Commit}
use Rattle.kishu_store.specs.Rules.{IsEntry}
use Rattle.kishu_journal.specs.Found.{entries_of}
use Rattle.kishu_store_tests.proofs.Moved.{moved-entry}
use Rattle.kishu_store_tests.proofs.journal.one_move.Goals as goal

pub returns-clause-rules : goal.returns-clause-rules
returns-clause-rules c =
    let moved : ℕ × program.Entry = (25, Move (Commit c.args.number)) in
    let one : c.push.new.self.items ≡ moved ∷ [] = c.in_ok-push.ensures.items ∙ ap (λ (l : List (ℕ × program.Entry)). l ++ (moved ∷ [])) c.new-found.ensures.items in
    subst (λ (ps : List (ℕ × program.Entry)). AllByRecursion IsEntry (entries_of ps)) (sym one) (moved-entry c.args.number c.ranges.number.fits, tt)
