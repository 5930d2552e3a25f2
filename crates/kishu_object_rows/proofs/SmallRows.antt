-- That no state is too large after any of these cells: computed on the definitions. Made by tools/rows/checkout_rows.py.
use Rattle.std.specs.Prelude.{[], ◌∷◌, codes}
use Rattle.std.proofs.Common.{arith}
use Rattle.kishu_language.specs.declared.profile.Profile.TheVariants.{One}
use Rattle.kishu_meaning.specs.values.Values.{empty}
use Rattle.kishu_history.specs.Sizes.{StaySmall, AllStaySmall}
use Rattle.kishu_object_rows.proofs.OnLiterals.{cells_on_literals}

small_1 : StaySmall One ((codes "x = 1") ∷ []) empty
unfolding cells_on_literals
small_1 = (omega arith, tt)

small_2 : StaySmall One ((codes "x") ∷ []) empty
unfolding cells_on_literals
small_2 = (omega arith, tt)

small_3 : StaySmall One ((codes "x = 1") ∷ (codes "x") ∷ []) empty
unfolding cells_on_literals
small_3 = (omega arith, (omega arith, tt))

small_4 : StaySmall One ((codes "x = y = 1") ∷ []) empty
unfolding cells_on_literals
small_4 = (omega arith, tt)

small_5 : StaySmall One ((codes "x = y") ∷ []) empty
unfolding cells_on_literals
small_5 = (omega arith, tt)

small_6 : StaySmall One ((codes "a, b = 1, 2") ∷ []) empty
unfolding cells_on_literals
small_6 = (omega arith, tt)

small_7 : StaySmall One ((codes "del x") ∷ []) empty
unfolding cells_on_literals
small_7 = (omega arith, tt)

small_8 : StaySmall One ((codes "x = 1; del x") ∷ []) empty
unfolding cells_on_literals
small_8 = (omega arith, tt)

small_9 : StaySmall One ((codes "x = 1") ∷ (codes "del x") ∷ (codes "x") ∷ []) empty
unfolding cells_on_literals
small_9 = (omega arith, (omega arith, (omega arith, tt)))

small_10 : StaySmall One ((codes "x = []; x.append(1)") ∷ []) empty
unfolding cells_on_literals
small_10 = (omega arith, tt)

small_11 : StaySmall One ((codes "x = [0]; x[0] = y") ∷ []) empty
unfolding cells_on_literals
small_11 = (omega arith, tt)

small_12 : StaySmall One ((codes "x = {}; x['k'] = 1; x['k']") ∷ []) empty
unfolding cells_on_literals
small_12 = (omega arith, tt)

small_13 : StaySmall One ((codes "print(1)") ∷ []) empty
unfolding cells_on_literals
small_13 = (omega arith, tt)

small_14 : StaySmall One ((codes "len([])") ∷ []) empty
unfolding cells_on_literals
small_14 = (omega arith, tt)

small_15 : StaySmall One ((codes "z = len") ∷ []) empty
unfolding cells_on_literals
small_15 = (omega arith, tt)

small_16 : StaySmall One ((codes "x += 1") ∷ []) empty
unfolding cells_on_literals
small_16 = (omega arith, tt)

small_17 : StaySmall One ((codes "x = 1; x += 2") ∷ []) empty
unfolding cells_on_literals
small_17 = (omega arith, tt)

small_18 : StaySmall One ((codes "if 0: x = 1") ∷ []) empty
unfolding cells_on_literals
small_18 = (omega arith, tt)

small_19 : StaySmall One ((codes "1 or x") ∷ []) empty
unfolding cells_on_literals
small_19 = (omega arith, tt)

small_20 : StaySmall One ((codes "0 or x") ∷ []) empty
unfolding cells_on_literals
small_20 = (omega arith, tt)

small_21 : StaySmall One ((codes "x = 1 if 1 else y") ∷ []) empty
unfolding cells_on_literals
small_21 = (omega arith, tt)

small_22 : StaySmall One ((codes "for i in []: x = 1") ∷ []) empty
unfolding cells_on_literals
small_22 = (omega arith, tt)

small_23 : StaySmall One ((codes "for i in [1]: j = i") ∷ []) empty
unfolding cells_on_literals
small_23 = (omega arith, tt)

small_24 : StaySmall One ((codes "while 0: x") ∷ []) empty
unfolding cells_on_literals
small_24 = (omega arith, tt)

small_25 : StaySmall One ((codes "1 // 0; x = 1") ∷ []) empty
unfolding cells_on_literals
small_25 = (omega arith, tt)

small_26 : StaySmall One ((codes "x = 1 // 0") ∷ []) empty
unfolding cells_on_literals
small_26 = (omega arith, tt)

all_small_1 : AllStaySmall [] empty
unfolding cells_on_literals
all_small_1 = tt

all_small_2 : AllStaySmall ((record { parent = 0; profile = One; cells = ((codes "x = 1") ∷ []) }) ∷ []) empty
unfolding cells_on_literals
all_small_2 = ((omega arith, tt), tt)

all_small_3 : AllStaySmall ((record { parent = 0; profile = One; cells = ((codes "x = 1") ∷ (codes "y = [x]") ∷ []) }) ∷ (record { parent = 1; profile = One; cells = ((codes "y.append(y)") ∷ []) }) ∷ (record { parent = 2; profile = One; cells = ([] ∷ []) }) ∷ []) empty
unfolding cells_on_literals
all_small_3 = ((omega arith, (omega arith, tt)), ((omega arith, tt), ((omega arith, tt), tt)))

all_small_4 : AllStaySmall ((record { parent = 0; profile = One; cells = ((codes "x = 1 // 0") ∷ []) }) ∷ (record { parent = 1; profile = One; cells = ((codes "x") ∷ []) }) ∷ []) empty
unfolding cells_on_literals
all_small_4 = ((omega arith, tt), ((omega arith, tt), tt))
