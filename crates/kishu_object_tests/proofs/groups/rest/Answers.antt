use Rattle.std.proofs.Common.{◌-◌, List, [], ◌∷◌, length, map, drop, sym, subst, arith, length-drop}
use Rattle.std.proofs.lemmas.List.{take_all}
use Rattle.std.specs.Rc.{rc_str_bytes}
use Rattle.std.specs.List.Sorted.{IsStrictlySortedBy}
use Rattle.std.specs.declared.alloc.Global.{Global}
use Rattle.std.specs.declared.rc.RcStr.{RcStr}
use Rattle.kishu_objects.specs.Lists.{Rise}
use Rattle.kishu_object_tests.proofs.groups.rest.Goals as goal

rest_rises : (xs : List (RcStr Global)) → Rise (map rc_str_bytes xs) → Rise (map rc_str_bytes (drop 1 xs))
unfolding IsStrictlySortedBy
rest_rises [] r = r
rest_rises (x ∷ xs) r = r.1

pub returns-else-is_empty : goal.returns-else-is_empty
returns-else-is_empty c =
    let of = c.args.of.now in
    subst (λ (xs : List (RcStr Global)). Rise (map rc_str_bytes xs)) (sym (take_all (length of - 1) (drop 1 of) (omega (arith, length-drop 1 of))))
    (rest_rises of c.requires)
