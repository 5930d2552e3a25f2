use Rattle.std.proofs.Common.{◌≤◌, length, subst, sym, arith}
use Rattle.kishu_language.specs.Limits.{longest_text}
use Rattle.kishu_loading.specs.Loaded.{held}
use Rattle.kishu_anew.specs.Anew.{IsWhole}
use Rattle.kishu_anew.specs.WholeLaws.{run_whole}
use Rattle.kishu_object_tests.proofs.anew.Left.after.Goals as goal

pub invariant_of-result : goal.invariant_of-result
invariant_of-result g c =
    let s = held c.args.self.heap c.args.self.names in
    let text = c.args.text.now in
    let short : length text ≤ longest_text = omega (arith, c.if-text-gt-LONGEST_TEXT.false) in
    record {
      sound = c.run_cell.ensures.sound;
      whole = subst (λ t. IsWhole t) (sym c.in_ok-run_cell.ensures.state) (run_whole text s (c.utf8.text, short) c.args.self.whole);
    }
