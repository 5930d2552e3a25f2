-- The names that cells access, each cell's in byte order: computed on the definition, as CPython tells. Made by tools/rows/checkout_rows.py.
use Rattle.std.specs.Prelude.{◌≡◌, [], ◌∷◌, codes, refl}
use Rattle.kishu_language.specs.declared.profile.Profile.TheVariants.{One}
use Rattle.kishu_meaning.specs.values.Values.{empty}
use Rattle.kishu_history.specs.Accessed.{accessed_by}
use Rattle.kishu_object_rows.proofs.OnLiterals.{cells_on_literals}

accessed_1 : accessed_by One ((codes "x = 1") ∷ []) empty ≡ ((codes "x") ∷ [])
unfolding cells_on_literals
accessed_1 = refl

accessed_2 : accessed_by One ((codes "x") ∷ []) empty ≡ ((codes "x") ∷ [])
unfolding cells_on_literals
accessed_2 = refl

accessed_3 : accessed_by One ((codes "x = 1") ∷ (codes "x") ∷ []) empty ≡ ((codes "x") ∷ (codes "x") ∷ [])
unfolding cells_on_literals
accessed_3 = refl

accessed_4 : accessed_by One ((codes "x = y = 1") ∷ []) empty ≡ ((codes "x") ∷ (codes "y") ∷ [])
unfolding cells_on_literals
accessed_4 = refl

accessed_5 : accessed_by One ((codes "x = y") ∷ []) empty ≡ ((codes "y") ∷ [])
unfolding cells_on_literals
accessed_5 = refl

accessed_6 : accessed_by One ((codes "a, b = 1, 2") ∷ []) empty ≡ ((codes "a") ∷ (codes "b") ∷ [])
unfolding cells_on_literals
accessed_6 = refl

accessed_7 : accessed_by One ((codes "del x") ∷ []) empty ≡ ((codes "x") ∷ [])
unfolding cells_on_literals
accessed_7 = refl

accessed_8 : accessed_by One ((codes "x = 1; del x") ∷ []) empty ≡ ((codes "x") ∷ [])
unfolding cells_on_literals
accessed_8 = refl

accessed_9 : accessed_by One ((codes "x = 1") ∷ (codes "del x") ∷ (codes "x") ∷ []) empty ≡ ((codes "x") ∷ (codes "x") ∷ (codes "x") ∷ [])
unfolding cells_on_literals
accessed_9 = refl

accessed_10 : accessed_by One ((codes "x = []; x.append(1)") ∷ []) empty ≡ ((codes "x") ∷ [])
unfolding cells_on_literals
accessed_10 = refl

accessed_11 : accessed_by One ((codes "x = [0]; x[0] = y") ∷ []) empty ≡ ((codes "x") ∷ (codes "y") ∷ [])
unfolding cells_on_literals
accessed_11 = refl

accessed_12 : accessed_by One ((codes "x = {}; x['k'] = 1; x['k']") ∷ []) empty ≡ ((codes "x") ∷ [])
unfolding cells_on_literals
accessed_12 = refl

accessed_13 : accessed_by One ((codes "print(1)") ∷ []) empty ≡ ((codes "print") ∷ [])
unfolding cells_on_literals
accessed_13 = refl

accessed_14 : accessed_by One ((codes "len([])") ∷ []) empty ≡ ((codes "len") ∷ [])
unfolding cells_on_literals
accessed_14 = refl

accessed_15 : accessed_by One ((codes "z = len") ∷ []) empty ≡ ((codes "len") ∷ (codes "z") ∷ [])
unfolding cells_on_literals
accessed_15 = refl

accessed_16 : accessed_by One ((codes "x += 1") ∷ []) empty ≡ ((codes "x") ∷ [])
unfolding cells_on_literals
accessed_16 = refl

accessed_17 : accessed_by One ((codes "x = 1; x += 2") ∷ []) empty ≡ ((codes "x") ∷ [])
unfolding cells_on_literals
accessed_17 = refl

accessed_18 : accessed_by One ((codes "if 0: x = 1") ∷ []) empty ≡ []
unfolding cells_on_literals
accessed_18 = refl

accessed_19 : accessed_by One ((codes "1 or x") ∷ []) empty ≡ []
unfolding cells_on_literals
accessed_19 = refl

accessed_20 : accessed_by One ((codes "0 or x") ∷ []) empty ≡ ((codes "x") ∷ [])
unfolding cells_on_literals
accessed_20 = refl

accessed_21 : accessed_by One ((codes "x = 1 if 1 else y") ∷ []) empty ≡ ((codes "x") ∷ [])
unfolding cells_on_literals
accessed_21 = refl

accessed_22 : accessed_by One ((codes "for i in []: x = 1") ∷ []) empty ≡ []
unfolding cells_on_literals
accessed_22 = refl

accessed_23 : accessed_by One ((codes "for i in [1]: j = i") ∷ []) empty ≡ ((codes "i") ∷ (codes "j") ∷ [])
unfolding cells_on_literals
accessed_23 = refl

accessed_24 : accessed_by One ((codes "while 0: x") ∷ []) empty ≡ []
unfolding cells_on_literals
accessed_24 = refl

accessed_25 : accessed_by One ((codes "1 // 0; x = 1") ∷ []) empty ≡ []
unfolding cells_on_literals
accessed_25 = refl

accessed_26 : accessed_by One ((codes "x = 1 // 0") ∷ []) empty ≡ []
unfolding cells_on_literals
accessed_26 = refl

accessed_27 : accessed_by One ((codes "def f(): return y") ∷ []) empty ≡ ((codes "f") ∷ [])
unfolding cells_on_literals
accessed_27 = refl

accessed_28 : accessed_by One ((codes "def f(): return y\nf()") ∷ []) empty ≡ ((codes "f") ∷ (codes "y") ∷ [])
unfolding cells_on_literals
accessed_28 = refl

accessed_29 : accessed_by One ((codes "def f(a=y): pass") ∷ []) empty ≡ ((codes "y") ∷ [])
unfolding cells_on_literals
accessed_29 = refl

accessed_30 : accessed_by One ((codes "y = 1\ndef f(a=y): pass") ∷ []) empty ≡ ((codes "f") ∷ (codes "y") ∷ [])
unfolding cells_on_literals
accessed_30 = refl

accessed_31 : accessed_by One ((codes "def f(a): return a\nf(1)") ∷ []) empty ≡ ((codes "f") ∷ [])
unfolding cells_on_literals
accessed_31 = refl

accessed_32 : accessed_by One ((codes "def f():\n    x = 1\n    return x\nf()") ∷ []) empty ≡ ((codes "f") ∷ [])
unfolding cells_on_literals
accessed_32 = refl

accessed_33 : accessed_by One ((codes "def f():\n    global x\n    x = 1\nf()") ∷ []) empty ≡ ((codes "f") ∷ (codes "x") ∷ [])
unfolding cells_on_literals
accessed_33 = refl

accessed_34 : accessed_by One ((codes "def f(): return print") ∷ []) empty ≡ ((codes "f") ∷ [])
unfolding cells_on_literals
accessed_34 = refl

accessed_35 : accessed_by One ((codes "def f(): return g()\ndef g(): return 1\nf()") ∷ []) empty ≡ ((codes "f") ∷ (codes "g") ∷ [])
unfolding cells_on_literals
accessed_35 = refl

accessed_36 : accessed_by One ((codes "x = 1") ∷ (codes "def f(): return x") ∷ (codes "f()") ∷ []) empty ≡ ((codes "x") ∷ (codes "f") ∷ (codes "f") ∷ (codes "x") ∷ [])
unfolding cells_on_literals
accessed_36 = refl

accessed_37 : accessed_by One ((codes "try:\n    x\nexcept NameError: y = 1") ∷ []) empty ≡ ((codes "NameError") ∷ (codes "x") ∷ (codes "y") ∷ [])
unfolding cells_on_literals
accessed_37 = refl

accessed_38 : accessed_by One ((codes "try:\n    1 // 0\nexcept ZeroDivisionError as e: pass") ∷ []) empty ≡ ((codes "ZeroDivisionError") ∷ (codes "e") ∷ [])
unfolding cells_on_literals
accessed_38 = refl

accessed_39 : accessed_by One ((codes "try:\n    1 // 0\nexcept KeyError: y = 1") ∷ []) empty ≡ ((codes "KeyError") ∷ [])
unfolding cells_on_literals
accessed_39 = refl

accessed_40 : accessed_by One ((codes "try: x = 1\nfinally: y = 2") ∷ []) empty ≡ ((codes "x") ∷ (codes "y") ∷ [])
unfolding cells_on_literals
accessed_40 = refl

accessed_41 : accessed_by One ((codes "raise ValueError") ∷ []) empty ≡ ((codes "ValueError") ∷ [])
unfolding cells_on_literals
accessed_41 = refl

accessed_42 : accessed_by One ((codes "x = ") ∷ []) empty ≡ []
unfolding cells_on_literals
accessed_42 = refl

accessed_43 : accessed_by One ([] ∷ (codes "pass") ∷ []) empty ≡ []
unfolding cells_on_literals
accessed_43 = refl

accessed_44 : accessed_by One ((codes "o = SimpleNamespace(a=1); o.a = 2") ∷ []) empty ≡ ((codes "SimpleNamespace") ∷ (codes "o") ∷ [])
unfolding cells_on_literals
accessed_44 = refl

accessed_45 : accessed_by One ((codes "x = [1]") ∷ (codes "y = x") ∷ (codes "y.append(2)") ∷ (codes "x") ∷ []) empty ≡ ((codes "x") ∷ (codes "x") ∷ (codes "y") ∷ (codes "y") ∷ (codes "x") ∷ [])
unfolding cells_on_literals
accessed_45 = refl

accessed_46 : accessed_by One ((codes "'x'") ∷ []) empty ≡ []
unfolding cells_on_literals
accessed_46 = refl

accessed_47 : accessed_by One ((codes "x is y") ∷ []) empty ≡ ((codes "x") ∷ [])
unfolding cells_on_literals
accessed_47 = refl

accessed_48 : accessed_by One ((codes "1 < 0 < x") ∷ []) empty ≡ []
unfolding cells_on_literals
accessed_48 = refl

accessed_49 : accessed_by One ((codes "assert 1, x") ∷ []) empty ≡ []
unfolding cells_on_literals
accessed_49 = refl

accessed_50 : accessed_by One ((codes "assert 0, x") ∷ []) empty ≡ ((codes "x") ∷ [])
unfolding cells_on_literals
accessed_50 = refl

accessed_51 : accessed_by One ((codes "(x)") ∷ []) empty ≡ ((codes "x") ∷ [])
unfolding cells_on_literals
accessed_51 = refl
