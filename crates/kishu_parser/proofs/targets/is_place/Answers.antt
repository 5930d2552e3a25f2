use Rattle.std.proofs.Common.{refl}
use Rattle.kishu_language.specs.trees.Rows.{tuple_is, conditional_is, or_is, and_is, not_is, compared_is, sum_is, product_is, signed_is, power_is, primary_is, name_is, int_is, text_is, none_is, true_is, false_is, paren_is, list_is, dict_is}
use Rattle.kishu_parser.proofs.targets.is_place.Goals as goal

pub returns-in-Primary : goal.returns-in-Primary
returns-in-Primary c = rw (c.in-Primary.is, primary_is) (rw c.as_slice.ensures.value at c.ends_in_place.ensures)

pub returns-in-Conditional : goal.returns-in-Conditional
returns-in-Conditional c = rw (c.in-Conditional.is, conditional_is) refl

pub returns-in-Or : goal.returns-in-Or
returns-in-Or c = rw (c.in-Or.is, or_is) refl

pub returns-in-And : goal.returns-in-And
returns-in-And c = rw (c.in-And.is, and_is) refl

pub returns-in-Not : goal.returns-in-Not
returns-in-Not c = rw (c.in-Not.is, not_is) refl

pub returns-in-Compared : goal.returns-in-Compared
returns-in-Compared c = rw (c.in-Compared.is, compared_is) refl

pub returns-in-Sum : goal.returns-in-Sum
returns-in-Sum c = rw (c.in-Sum.is, sum_is) refl

pub returns-in-Product : goal.returns-in-Product
returns-in-Product c = rw (c.in-Product.is, product_is) refl

pub returns-in-Signed : goal.returns-in-Signed
returns-in-Signed c = rw (c.in-Signed.is, signed_is) refl

pub returns-in-Power : goal.returns-in-Power
returns-in-Power c = rw (c.in-Power.is, power_is) refl

pub returns-in-Int : goal.returns-in-Int
returns-in-Int c = rw (c.in-Int.is, int_is) refl

pub returns-in-Text : goal.returns-in-Text
returns-in-Text c = rw (c.in-Text.is, text_is) refl

pub returns-in-Dict : goal.returns-in-Dict
returns-in-Dict c = rw (c.in-Dict.is, dict_is) refl

pub returns-in-None : goal.returns-in-None
returns-in-None c = rw (c.in-None.is, none_is) refl

pub returns-in-True : goal.returns-in-True
returns-in-True c = rw (c.in-True.is, true_is) refl

pub returns-in-False : goal.returns-in-False
returns-in-False c = rw (c.in-False.is, false_is) refl

pub returns-in-Name : goal.returns-in-Name
returns-in-Name c = rw (c.in-Name.is, name_is) refl

pub returns-in-Tuple : goal.returns-in-Tuple
returns-in-Tuple c = rw (c.in-Tuple.is, tuple_is) refl

pub returns-in-Paren : goal.returns-in-Paren
returns-in-Paren c = rw (c.in-Paren.is, paren_is) refl

pub returns-in-List : goal.returns-in-List
returns-in-List c = rw (c.in-List.is, list_is) refl
