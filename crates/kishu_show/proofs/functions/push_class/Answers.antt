use Rattle.std.proofs.Common.{subst, sym}
use Rattle.std.specs.Prelude.{IsTrue, nat_lt}
use Rattle.std.specs.List.{list_all}
use Rattle.kishu_show.proofs.Ascii.{class_plain}
use Rattle.kishu_show.proofs.functions.push_class.Goals as goal

pub push_ascii-requires : goal.push_ascii-requires
push_ascii-requires c = subst (λ w. IsTrue (list_all (λ b. nat_lt b 128) w)) (sym c.class_name.ensures) (class_plain c.args.class.0)
