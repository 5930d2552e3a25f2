-- Which texts are the code of a function, with how many defaults, told by the picture of one. Computed on the definition; made by tools/rows/reading_rows.py.
use Rattle.std.specs.Prelude.{◌≡◌, false, [], ◌∷◌, codes, Ok, Err, refl}
use Rattle.kishu_language.specs.declared.profile.Profile.TheVariants.{One}
use Rattle.kishu_meaning.specs.values.Values.{bool, node, function}
use Rattle.kishu_reading.specs.FromBytes.{read_picture}
use Rattle.kishu_object_rows.proofs.OnLiterals.{functions_on_literals}

-- `def f(): pass`
code_1 : read_picture (0 ∷ 0 ∷ 0 ∷ 1 ∷ 1 ∷ 102 ∷ 8 ∷ 0 ∷ 0 ∷ 0 ∷ 0 ∷ 0 ∷ 0 ∷ 0 ∷ 1 ∷ 5 ∷ 1 ∷ 0 ∷ 0 ∷ 0 ∷ 13 ∷ 100 ∷ 101 ∷ 102 ∷ 32 ∷ 102 ∷ 40 ∷ 41 ∷ 58 ∷ 32 ∷ 112 ∷ 97 ∷ 115 ∷ 115 ∷ 0 ∷ 0 ∷ 0 ∷ 0 ∷ []) ∷ read_picture (0 ∷ 0 ∷ 0 ∷ 1 ∷ 1 ∷ 102 ∷ 8 ∷ 0 ∷ 0 ∷ 0 ∷ 0 ∷ 0 ∷ 0 ∷ 0 ∷ 1 ∷ 5 ∷ 1 ∷ 0 ∷ 0 ∷ 0 ∷ 13 ∷ 100 ∷ 101 ∷ 102 ∷ 32 ∷ 102 ∷ 40 ∷ 41 ∷ 58 ∷ 32 ∷ 112 ∷ 97 ∷ 115 ∷ 115 ∷ 0 ∷ 0 ∷ 0 ∷ 1 ∷ 1 ∷ []) ∷ []
    ≡ Ok (record { names = (((codes "f"), (node 0)) ∷ []); nodes = ((function One (codes "def f(): pass") []) ∷ []) }) ∷ Err 34 ∷ []
unfolding functions_on_literals
code_1 = refl

-- `def f(a): pass`
code_2 : read_picture (0 ∷ 0 ∷ 0 ∷ 1 ∷ 1 ∷ 102 ∷ 8 ∷ 0 ∷ 0 ∷ 0 ∷ 0 ∷ 0 ∷ 0 ∷ 0 ∷ 1 ∷ 5 ∷ 1 ∷ 0 ∷ 0 ∷ 0 ∷ 14 ∷ 100 ∷ 101 ∷ 102 ∷ 32 ∷ 102 ∷ 40 ∷ 97 ∷ 41 ∷ 58 ∷ 32 ∷ 112 ∷ 97 ∷ 115 ∷ 115 ∷ 0 ∷ 0 ∷ 0 ∷ 0 ∷ []) ∷ read_picture (0 ∷ 0 ∷ 0 ∷ 1 ∷ 1 ∷ 102 ∷ 8 ∷ 0 ∷ 0 ∷ 0 ∷ 0 ∷ 0 ∷ 0 ∷ 0 ∷ 1 ∷ 5 ∷ 1 ∷ 0 ∷ 0 ∷ 0 ∷ 14 ∷ 100 ∷ 101 ∷ 102 ∷ 32 ∷ 102 ∷ 40 ∷ 97 ∷ 41 ∷ 58 ∷ 32 ∷ 112 ∷ 97 ∷ 115 ∷ 115 ∷ 0 ∷ 0 ∷ 0 ∷ 1 ∷ 1 ∷ []) ∷ []
    ≡ Ok (record { names = (((codes "f"), (node 0)) ∷ []); nodes = ((function One (codes "def f(a): pass") []) ∷ []) }) ∷ Err 35 ∷ []
unfolding functions_on_literals
code_2 = refl

-- `def f(a=1): pass`
code_3 : read_picture (0 ∷ 0 ∷ 0 ∷ 1 ∷ 1 ∷ 102 ∷ 8 ∷ 0 ∷ 0 ∷ 0 ∷ 0 ∷ 0 ∷ 0 ∷ 0 ∷ 1 ∷ 5 ∷ 1 ∷ 0 ∷ 0 ∷ 0 ∷ 16 ∷ 100 ∷ 101 ∷ 102 ∷ 32 ∷ 102 ∷ 40 ∷ 97 ∷ 61 ∷ 49 ∷ 41 ∷ 58 ∷ 32 ∷ 112 ∷ 97 ∷ 115 ∷ 115 ∷ 0 ∷ 0 ∷ 0 ∷ 1 ∷ 1 ∷ []) ∷ read_picture (0 ∷ 0 ∷ 0 ∷ 1 ∷ 1 ∷ 102 ∷ 8 ∷ 0 ∷ 0 ∷ 0 ∷ 0 ∷ 0 ∷ 0 ∷ 0 ∷ 1 ∷ 5 ∷ 1 ∷ 0 ∷ 0 ∷ 0 ∷ 16 ∷ 100 ∷ 101 ∷ 102 ∷ 32 ∷ 102 ∷ 40 ∷ 97 ∷ 61 ∷ 49 ∷ 41 ∷ 58 ∷ 32 ∷ 112 ∷ 97 ∷ 115 ∷ 115 ∷ 0 ∷ 0 ∷ 0 ∷ 2 ∷ 1 ∷ 1 ∷ []) ∷ []
    ≡ Ok (record { names = (((codes "f"), (node 0)) ∷ []); nodes = ((function One (codes "def f(a=1): pass") ((bool false) ∷ [])) ∷ []) }) ∷ Err 37 ∷ []
unfolding functions_on_literals
code_3 = refl

-- `def f(a, b=1, c=2): pass`
code_4 : read_picture (0 ∷ 0 ∷ 0 ∷ 1 ∷ 1 ∷ 102 ∷ 8 ∷ 0 ∷ 0 ∷ 0 ∷ 0 ∷ 0 ∷ 0 ∷ 0 ∷ 1 ∷ 5 ∷ 1 ∷ 0 ∷ 0 ∷ 0 ∷ 24 ∷ 100 ∷ 101 ∷ 102 ∷ 32 ∷ 102 ∷ 40 ∷ 97 ∷ 44 ∷ 32 ∷ 98 ∷ 61 ∷ 49 ∷ 44 ∷ 32 ∷ 99 ∷ 61 ∷ 50 ∷ 41 ∷ 58 ∷ 32 ∷ 112 ∷ 97 ∷ 115 ∷ 115 ∷ 0 ∷ 0 ∷ 0 ∷ 2 ∷ 1 ∷ 1 ∷ []) ∷ read_picture (0 ∷ 0 ∷ 0 ∷ 1 ∷ 1 ∷ 102 ∷ 8 ∷ 0 ∷ 0 ∷ 0 ∷ 0 ∷ 0 ∷ 0 ∷ 0 ∷ 1 ∷ 5 ∷ 1 ∷ 0 ∷ 0 ∷ 0 ∷ 24 ∷ 100 ∷ 101 ∷ 102 ∷ 32 ∷ 102 ∷ 40 ∷ 97 ∷ 44 ∷ 32 ∷ 98 ∷ 61 ∷ 49 ∷ 44 ∷ 32 ∷ 99 ∷ 61 ∷ 50 ∷ 41 ∷ 58 ∷ 32 ∷ 112 ∷ 97 ∷ 115 ∷ 115 ∷ 0 ∷ 0 ∷ 0 ∷ 3 ∷ 1 ∷ 1 ∷ 1 ∷ []) ∷ []
    ≡ Ok (record { names = (((codes "f"), (node 0)) ∷ []); nodes = ((function One (codes "def f(a, b=1, c=2): pass") ((bool false) ∷ (bool false) ∷ [])) ∷ []) }) ∷ Err 45 ∷ []
unfolding functions_on_literals
code_4 = refl

-- `def f(a=1,): pass`
code_5 : read_picture (0 ∷ 0 ∷ 0 ∷ 1 ∷ 1 ∷ 102 ∷ 8 ∷ 0 ∷ 0 ∷ 0 ∷ 0 ∷ 0 ∷ 0 ∷ 0 ∷ 1 ∷ 5 ∷ 1 ∷ 0 ∷ 0 ∷ 0 ∷ 17 ∷ 100 ∷ 101 ∷ 102 ∷ 32 ∷ 102 ∷ 40 ∷ 97 ∷ 61 ∷ 49 ∷ 44 ∷ 41 ∷ 58 ∷ 32 ∷ 112 ∷ 97 ∷ 115 ∷ 115 ∷ 0 ∷ 0 ∷ 0 ∷ 1 ∷ 1 ∷ []) ∷ read_picture (0 ∷ 0 ∷ 0 ∷ 1 ∷ 1 ∷ 102 ∷ 8 ∷ 0 ∷ 0 ∷ 0 ∷ 0 ∷ 0 ∷ 0 ∷ 0 ∷ 1 ∷ 5 ∷ 1 ∷ 0 ∷ 0 ∷ 0 ∷ 17 ∷ 100 ∷ 101 ∷ 102 ∷ 32 ∷ 102 ∷ 40 ∷ 97 ∷ 61 ∷ 49 ∷ 44 ∷ 41 ∷ 58 ∷ 32 ∷ 112 ∷ 97 ∷ 115 ∷ 115 ∷ 0 ∷ 0 ∷ 0 ∷ 2 ∷ 1 ∷ 1 ∷ []) ∷ []
    ≡ Ok (record { names = (((codes "f"), (node 0)) ∷ []); nodes = ((function One (codes "def f(a=1,): pass") ((bool false) ∷ [])) ∷ []) }) ∷ Err 38 ∷ []
unfolding functions_on_literals
code_5 = refl

-- `def f():\n    pass`
code_6 : read_picture (0 ∷ 0 ∷ 0 ∷ 1 ∷ 1 ∷ 102 ∷ 8 ∷ 0 ∷ 0 ∷ 0 ∷ 0 ∷ 0 ∷ 0 ∷ 0 ∷ 1 ∷ 5 ∷ 1 ∷ 0 ∷ 0 ∷ 0 ∷ 17 ∷ 100 ∷ 101 ∷ 102 ∷ 32 ∷ 102 ∷ 40 ∷ 41 ∷ 58 ∷ 10 ∷ 32 ∷ 32 ∷ 32 ∷ 32 ∷ 112 ∷ 97 ∷ 115 ∷ 115 ∷ 0 ∷ 0 ∷ 0 ∷ 0 ∷ []) ∷ read_picture (0 ∷ 0 ∷ 0 ∷ 1 ∷ 1 ∷ 102 ∷ 8 ∷ 0 ∷ 0 ∷ 0 ∷ 0 ∷ 0 ∷ 0 ∷ 0 ∷ 1 ∷ 5 ∷ 1 ∷ 0 ∷ 0 ∷ 0 ∷ 17 ∷ 100 ∷ 101 ∷ 102 ∷ 32 ∷ 102 ∷ 40 ∷ 41 ∷ 58 ∷ 10 ∷ 32 ∷ 32 ∷ 32 ∷ 32 ∷ 112 ∷ 97 ∷ 115 ∷ 115 ∷ 0 ∷ 0 ∷ 0 ∷ 1 ∷ 1 ∷ []) ∷ []
    ≡ Ok (record { names = (((codes "f"), (node 0)) ∷ []); nodes = ((function One (100 ∷ 101 ∷ 102 ∷ 32 ∷ 102 ∷ 40 ∷ 41 ∷ 58 ∷ 10 ∷ 32 ∷ 32 ∷ 32 ∷ 32 ∷ 112 ∷ 97 ∷ 115 ∷ 115 ∷ []) []) ∷ []) }) ∷ Err 38 ∷ []
unfolding functions_on_literals
code_6 = refl

-- `def f():\n    if 1:\n        pass\n    return 2`
code_7 : read_picture (0 ∷ 0 ∷ 0 ∷ 1 ∷ 1 ∷ 102 ∷ 8 ∷ 0 ∷ 0 ∷ 0 ∷ 0 ∷ 0 ∷ 0 ∷ 0 ∷ 1 ∷ 5 ∷ 1 ∷ 0 ∷ 0 ∷ 0 ∷ 44 ∷ 100 ∷ 101 ∷ 102 ∷ 32 ∷ 102 ∷ 40 ∷ 41 ∷ 58 ∷ 10 ∷ 32 ∷ 32 ∷ 32 ∷ 32 ∷ 105 ∷ 102 ∷ 32 ∷ 49 ∷ 58 ∷ 10 ∷ 32 ∷ 32 ∷ 32 ∷ 32 ∷ 32 ∷ 32 ∷ 32 ∷ 32 ∷ 112 ∷ 97 ∷ 115 ∷ 115 ∷ 10 ∷ 32 ∷ 32 ∷ 32 ∷ 32 ∷ 114 ∷ 101 ∷ 116 ∷ 117 ∷ 114 ∷ 110 ∷ 32 ∷ 50 ∷ 0 ∷ 0 ∷ 0 ∷ 0 ∷ []) ∷ read_picture (0 ∷ 0 ∷ 0 ∷ 1 ∷ 1 ∷ 102 ∷ 8 ∷ 0 ∷ 0 ∷ 0 ∷ 0 ∷ 0 ∷ 0 ∷ 0 ∷ 1 ∷ 5 ∷ 1 ∷ 0 ∷ 0 ∷ 0 ∷ 44 ∷ 100 ∷ 101 ∷ 102 ∷ 32 ∷ 102 ∷ 40 ∷ 41 ∷ 58 ∷ 10 ∷ 32 ∷ 32 ∷ 32 ∷ 32 ∷ 105 ∷ 102 ∷ 32 ∷ 49 ∷ 58 ∷ 10 ∷ 32 ∷ 32 ∷ 32 ∷ 32 ∷ 32 ∷ 32 ∷ 32 ∷ 32 ∷ 112 ∷ 97 ∷ 115 ∷ 115 ∷ 10 ∷ 32 ∷ 32 ∷ 32 ∷ 32 ∷ 114 ∷ 101 ∷ 116 ∷ 117 ∷ 114 ∷ 110 ∷ 32 ∷ 50 ∷ 0 ∷ 0 ∷ 0 ∷ 1 ∷ 1 ∷ []) ∷ []
    ≡ Ok (record { names = (((codes "f"), (node 0)) ∷ []); nodes = ((function One (100 ∷ 101 ∷ 102 ∷ 32 ∷ 102 ∷ 40 ∷ 41 ∷ 58 ∷ 10 ∷ 32 ∷ 32 ∷ 32 ∷ 32 ∷ 105 ∷ 102 ∷ 32 ∷ 49 ∷ 58 ∷ 10 ∷ 32 ∷ 32 ∷ 32 ∷ 32 ∷ 32 ∷ 32 ∷ 32 ∷ 32 ∷ 112 ∷ 97 ∷ 115 ∷ 115 ∷ 10 ∷ 32 ∷ 32 ∷ 32 ∷ 32 ∷ 114 ∷ 101 ∷ 116 ∷ 117 ∷ 114 ∷ 110 ∷ 32 ∷ 50 ∷ []) []) ∷ []) }) ∷ Err 65 ∷ []
unfolding functions_on_literals
code_7 = refl

-- `def f(): pass;`
code_8 : read_picture (0 ∷ 0 ∷ 0 ∷ 1 ∷ 1 ∷ 102 ∷ 8 ∷ 0 ∷ 0 ∷ 0 ∷ 0 ∷ 0 ∷ 0 ∷ 0 ∷ 1 ∷ 5 ∷ 1 ∷ 0 ∷ 0 ∷ 0 ∷ 14 ∷ 100 ∷ 101 ∷ 102 ∷ 32 ∷ 102 ∷ 40 ∷ 41 ∷ 58 ∷ 32 ∷ 112 ∷ 97 ∷ 115 ∷ 115 ∷ 59 ∷ 0 ∷ 0 ∷ 0 ∷ 0 ∷ []) ∷ read_picture (0 ∷ 0 ∷ 0 ∷ 1 ∷ 1 ∷ 102 ∷ 8 ∷ 0 ∷ 0 ∷ 0 ∷ 0 ∷ 0 ∷ 0 ∷ 0 ∷ 1 ∷ 5 ∷ 1 ∷ 0 ∷ 0 ∷ 0 ∷ 14 ∷ 100 ∷ 101 ∷ 102 ∷ 32 ∷ 102 ∷ 40 ∷ 41 ∷ 58 ∷ 32 ∷ 112 ∷ 97 ∷ 115 ∷ 115 ∷ 59 ∷ 0 ∷ 0 ∷ 0 ∷ 1 ∷ 1 ∷ []) ∷ []
    ≡ Ok (record { names = (((codes "f"), (node 0)) ∷ []); nodes = ((function One (codes "def f(): pass;") []) ∷ []) }) ∷ Err 35 ∷ []
unfolding functions_on_literals
code_8 = refl

-- `def f(): x = 1; return x`
code_9 : read_picture (0 ∷ 0 ∷ 0 ∷ 1 ∷ 1 ∷ 102 ∷ 8 ∷ 0 ∷ 0 ∷ 0 ∷ 0 ∷ 0 ∷ 0 ∷ 0 ∷ 1 ∷ 5 ∷ 1 ∷ 0 ∷ 0 ∷ 0 ∷ 24 ∷ 100 ∷ 101 ∷ 102 ∷ 32 ∷ 102 ∷ 40 ∷ 41 ∷ 58 ∷ 32 ∷ 120 ∷ 32 ∷ 61 ∷ 32 ∷ 49 ∷ 59 ∷ 32 ∷ 114 ∷ 101 ∷ 116 ∷ 117 ∷ 114 ∷ 110 ∷ 32 ∷ 120 ∷ 0 ∷ 0 ∷ 0 ∷ 0 ∷ []) ∷ read_picture (0 ∷ 0 ∷ 0 ∷ 1 ∷ 1 ∷ 102 ∷ 8 ∷ 0 ∷ 0 ∷ 0 ∷ 0 ∷ 0 ∷ 0 ∷ 0 ∷ 1 ∷ 5 ∷ 1 ∷ 0 ∷ 0 ∷ 0 ∷ 24 ∷ 100 ∷ 101 ∷ 102 ∷ 32 ∷ 102 ∷ 40 ∷ 41 ∷ 58 ∷ 32 ∷ 120 ∷ 32 ∷ 61 ∷ 32 ∷ 49 ∷ 59 ∷ 32 ∷ 114 ∷ 101 ∷ 116 ∷ 117 ∷ 114 ∷ 110 ∷ 32 ∷ 120 ∷ 0 ∷ 0 ∷ 0 ∷ 1 ∷ 1 ∷ []) ∷ []
    ≡ Ok (record { names = (((codes "f"), (node 0)) ∷ []); nodes = ((function One (codes "def f(): x = 1; return x") []) ∷ []) }) ∷ Err 45 ∷ []
unfolding functions_on_literals
code_9 = refl

-- `def f( ) :pass`
code_10 : read_picture (0 ∷ 0 ∷ 0 ∷ 1 ∷ 1 ∷ 102 ∷ 8 ∷ 0 ∷ 0 ∷ 0 ∷ 0 ∷ 0 ∷ 0 ∷ 0 ∷ 1 ∷ 5 ∷ 1 ∷ 0 ∷ 0 ∷ 0 ∷ 14 ∷ 100 ∷ 101 ∷ 102 ∷ 32 ∷ 102 ∷ 40 ∷ 32 ∷ 41 ∷ 32 ∷ 58 ∷ 112 ∷ 97 ∷ 115 ∷ 115 ∷ 0 ∷ 0 ∷ 0 ∷ 0 ∷ []) ∷ read_picture (0 ∷ 0 ∷ 0 ∷ 1 ∷ 1 ∷ 102 ∷ 8 ∷ 0 ∷ 0 ∷ 0 ∷ 0 ∷ 0 ∷ 0 ∷ 0 ∷ 1 ∷ 5 ∷ 1 ∷ 0 ∷ 0 ∷ 0 ∷ 14 ∷ 100 ∷ 101 ∷ 102 ∷ 32 ∷ 102 ∷ 40 ∷ 32 ∷ 41 ∷ 32 ∷ 58 ∷ 112 ∷ 97 ∷ 115 ∷ 115 ∷ 0 ∷ 0 ∷ 0 ∷ 1 ∷ 1 ∷ []) ∷ []
    ≡ Ok (record { names = (((codes "f"), (node 0)) ∷ []); nodes = ((function One (codes "def f( ) :pass") []) ∷ []) }) ∷ Err 35 ∷ []
unfolding functions_on_literals
code_10 = refl

-- "def f(): return `é`"
code_11 : read_picture (0 ∷ 0 ∷ 0 ∷ 1 ∷ 1 ∷ 102 ∷ 8 ∷ 0 ∷ 0 ∷ 0 ∷ 0 ∷ 0 ∷ 0 ∷ 0 ∷ 1 ∷ 5 ∷ 1 ∷ 0 ∷ 0 ∷ 0 ∷ 20 ∷ 100 ∷ 101 ∷ 102 ∷ 32 ∷ 102 ∷ 40 ∷ 41 ∷ 58 ∷ 32 ∷ 114 ∷ 101 ∷ 116 ∷ 117 ∷ 114 ∷ 110 ∷ 32 ∷ 39 ∷ 195 ∷ 169 ∷ 39 ∷ 0 ∷ 0 ∷ 0 ∷ 0 ∷ []) ∷ read_picture (0 ∷ 0 ∷ 0 ∷ 1 ∷ 1 ∷ 102 ∷ 8 ∷ 0 ∷ 0 ∷ 0 ∷ 0 ∷ 0 ∷ 0 ∷ 0 ∷ 1 ∷ 5 ∷ 1 ∷ 0 ∷ 0 ∷ 0 ∷ 20 ∷ 100 ∷ 101 ∷ 102 ∷ 32 ∷ 102 ∷ 40 ∷ 41 ∷ 58 ∷ 32 ∷ 114 ∷ 101 ∷ 116 ∷ 117 ∷ 114 ∷ 110 ∷ 32 ∷ 39 ∷ 195 ∷ 169 ∷ 39 ∷ 0 ∷ 0 ∷ 0 ∷ 1 ∷ 1 ∷ []) ∷ []
    ≡ Ok (record { names = (((codes "f"), (node 0)) ∷ []); nodes = ((function One (100 ∷ 101 ∷ 102 ∷ 32 ∷ 102 ∷ 40 ∷ 41 ∷ 58 ∷ 32 ∷ 114 ∷ 101 ∷ 116 ∷ 117 ∷ 114 ∷ 110 ∷ 32 ∷ 39 ∷ 195 ∷ 169 ∷ 39 ∷ []) []) ∷ []) }) ∷ Err 41 ∷ []
unfolding functions_on_literals
code_11 = refl

-- `def f(): # c\n    pass`
code_12 : read_picture (0 ∷ 0 ∷ 0 ∷ 1 ∷ 1 ∷ 102 ∷ 8 ∷ 0 ∷ 0 ∷ 0 ∷ 0 ∷ 0 ∷ 0 ∷ 0 ∷ 1 ∷ 5 ∷ 1 ∷ 0 ∷ 0 ∷ 0 ∷ 21 ∷ 100 ∷ 101 ∷ 102 ∷ 32 ∷ 102 ∷ 40 ∷ 41 ∷ 58 ∷ 32 ∷ 35 ∷ 32 ∷ 99 ∷ 10 ∷ 32 ∷ 32 ∷ 32 ∷ 32 ∷ 112 ∷ 97 ∷ 115 ∷ 115 ∷ 0 ∷ 0 ∷ 0 ∷ 0 ∷ []) ∷ read_picture (0 ∷ 0 ∷ 0 ∷ 1 ∷ 1 ∷ 102 ∷ 8 ∷ 0 ∷ 0 ∷ 0 ∷ 0 ∷ 0 ∷ 0 ∷ 0 ∷ 1 ∷ 5 ∷ 1 ∷ 0 ∷ 0 ∷ 0 ∷ 21 ∷ 100 ∷ 101 ∷ 102 ∷ 32 ∷ 102 ∷ 40 ∷ 41 ∷ 58 ∷ 32 ∷ 35 ∷ 32 ∷ 99 ∷ 10 ∷ 32 ∷ 32 ∷ 32 ∷ 32 ∷ 112 ∷ 97 ∷ 115 ∷ 115 ∷ 0 ∷ 0 ∷ 0 ∷ 1 ∷ 1 ∷ []) ∷ []
    ≡ Ok (record { names = (((codes "f"), (node 0)) ∷ []); nodes = ((function One (100 ∷ 101 ∷ 102 ∷ 32 ∷ 102 ∷ 40 ∷ 41 ∷ 58 ∷ 32 ∷ 35 ∷ 32 ∷ 99 ∷ 10 ∷ 32 ∷ 32 ∷ 32 ∷ 32 ∷ 112 ∷ 97 ∷ 115 ∷ 115 ∷ []) []) ∷ []) }) ∷ Err 42 ∷ []
unfolding functions_on_literals
code_12 = refl

-- `def f():\n\n    pass`
code_13 : read_picture (0 ∷ 0 ∷ 0 ∷ 1 ∷ 1 ∷ 102 ∷ 8 ∷ 0 ∷ 0 ∷ 0 ∷ 0 ∷ 0 ∷ 0 ∷ 0 ∷ 1 ∷ 5 ∷ 1 ∷ 0 ∷ 0 ∷ 0 ∷ 18 ∷ 100 ∷ 101 ∷ 102 ∷ 32 ∷ 102 ∷ 40 ∷ 41 ∷ 58 ∷ 10 ∷ 10 ∷ 32 ∷ 32 ∷ 32 ∷ 32 ∷ 112 ∷ 97 ∷ 115 ∷ 115 ∷ 0 ∷ 0 ∷ 0 ∷ 0 ∷ []) ∷ read_picture (0 ∷ 0 ∷ 0 ∷ 1 ∷ 1 ∷ 102 ∷ 8 ∷ 0 ∷ 0 ∷ 0 ∷ 0 ∷ 0 ∷ 0 ∷ 0 ∷ 1 ∷ 5 ∷ 1 ∷ 0 ∷ 0 ∷ 0 ∷ 18 ∷ 100 ∷ 101 ∷ 102 ∷ 32 ∷ 102 ∷ 40 ∷ 41 ∷ 58 ∷ 10 ∷ 10 ∷ 32 ∷ 32 ∷ 32 ∷ 32 ∷ 112 ∷ 97 ∷ 115 ∷ 115 ∷ 0 ∷ 0 ∷ 0 ∷ 1 ∷ 1 ∷ []) ∷ []
    ≡ Ok (record { names = (((codes "f"), (node 0)) ∷ []); nodes = ((function One (100 ∷ 101 ∷ 102 ∷ 32 ∷ 102 ∷ 40 ∷ 41 ∷ 58 ∷ 10 ∷ 10 ∷ 32 ∷ 32 ∷ 32 ∷ 32 ∷ 112 ∷ 97 ∷ 115 ∷ 115 ∷ []) []) ∷ []) }) ∷ Err 39 ∷ []
unfolding functions_on_literals
code_13 = refl

-- `def f(): pass `
code_14 : read_picture (0 ∷ 0 ∷ 0 ∷ 1 ∷ 1 ∷ 102 ∷ 8 ∷ 0 ∷ 0 ∷ 0 ∷ 0 ∷ 0 ∷ 0 ∷ 0 ∷ 1 ∷ 5 ∷ 1 ∷ 0 ∷ 0 ∷ 0 ∷ 14 ∷ 100 ∷ 101 ∷ 102 ∷ 32 ∷ 102 ∷ 40 ∷ 41 ∷ 58 ∷ 32 ∷ 112 ∷ 97 ∷ 115 ∷ 115 ∷ 32 ∷ 0 ∷ 0 ∷ 0 ∷ 0 ∷ []) ∷ []
    ≡ Err 21 ∷ []
unfolding functions_on_literals
code_14 = refl

-- `def f(): pass\n`
code_15 : read_picture (0 ∷ 0 ∷ 0 ∷ 1 ∷ 1 ∷ 102 ∷ 8 ∷ 0 ∷ 0 ∷ 0 ∷ 0 ∷ 0 ∷ 0 ∷ 0 ∷ 1 ∷ 5 ∷ 1 ∷ 0 ∷ 0 ∷ 0 ∷ 14 ∷ 100 ∷ 101 ∷ 102 ∷ 32 ∷ 102 ∷ 40 ∷ 41 ∷ 58 ∷ 32 ∷ 112 ∷ 97 ∷ 115 ∷ 115 ∷ 10 ∷ 0 ∷ 0 ∷ 0 ∷ 0 ∷ []) ∷ []
    ≡ Err 21 ∷ []
unfolding functions_on_literals
code_15 = refl

-- `def f(): pass # c`
code_16 : read_picture (0 ∷ 0 ∷ 0 ∷ 1 ∷ 1 ∷ 102 ∷ 8 ∷ 0 ∷ 0 ∷ 0 ∷ 0 ∷ 0 ∷ 0 ∷ 0 ∷ 1 ∷ 5 ∷ 1 ∷ 0 ∷ 0 ∷ 0 ∷ 17 ∷ 100 ∷ 101 ∷ 102 ∷ 32 ∷ 102 ∷ 40 ∷ 41 ∷ 58 ∷ 32 ∷ 112 ∷ 97 ∷ 115 ∷ 115 ∷ 32 ∷ 35 ∷ 32 ∷ 99 ∷ 0 ∷ 0 ∷ 0 ∷ 0 ∷ []) ∷ []
    ≡ Err 21 ∷ []
unfolding functions_on_literals
code_16 = refl

-- ` def f(): pass`
code_17 : read_picture (0 ∷ 0 ∷ 0 ∷ 1 ∷ 1 ∷ 102 ∷ 8 ∷ 0 ∷ 0 ∷ 0 ∷ 0 ∷ 0 ∷ 0 ∷ 0 ∷ 1 ∷ 5 ∷ 1 ∷ 0 ∷ 0 ∷ 0 ∷ 14 ∷ 32 ∷ 100 ∷ 101 ∷ 102 ∷ 32 ∷ 102 ∷ 40 ∷ 41 ∷ 58 ∷ 32 ∷ 112 ∷ 97 ∷ 115 ∷ 115 ∷ 0 ∷ 0 ∷ 0 ∷ 0 ∷ []) ∷ []
    ≡ Err 21 ∷ []
unfolding functions_on_literals
code_17 = refl

-- `\ndef f(): pass`
code_18 : read_picture (0 ∷ 0 ∷ 0 ∷ 1 ∷ 1 ∷ 102 ∷ 8 ∷ 0 ∷ 0 ∷ 0 ∷ 0 ∷ 0 ∷ 0 ∷ 0 ∷ 1 ∷ 5 ∷ 1 ∷ 0 ∷ 0 ∷ 0 ∷ 14 ∷ 10 ∷ 100 ∷ 101 ∷ 102 ∷ 32 ∷ 102 ∷ 40 ∷ 41 ∷ 58 ∷ 32 ∷ 112 ∷ 97 ∷ 115 ∷ 115 ∷ 0 ∷ 0 ∷ 0 ∷ 0 ∷ []) ∷ []
    ≡ Err 21 ∷ []
unfolding functions_on_literals
code_18 = refl

-- `# c\ndef f(): pass`
code_19 : read_picture (0 ∷ 0 ∷ 0 ∷ 1 ∷ 1 ∷ 102 ∷ 8 ∷ 0 ∷ 0 ∷ 0 ∷ 0 ∷ 0 ∷ 0 ∷ 0 ∷ 1 ∷ 5 ∷ 1 ∷ 0 ∷ 0 ∷ 0 ∷ 17 ∷ 35 ∷ 32 ∷ 99 ∷ 10 ∷ 100 ∷ 101 ∷ 102 ∷ 32 ∷ 102 ∷ 40 ∷ 41 ∷ 58 ∷ 32 ∷ 112 ∷ 97 ∷ 115 ∷ 115 ∷ 0 ∷ 0 ∷ 0 ∷ 0 ∷ []) ∷ []
    ≡ Err 21 ∷ []
unfolding functions_on_literals
code_19 = refl

-- `def f(): pass\ndef g(): pass`
code_20 : read_picture (0 ∷ 0 ∷ 0 ∷ 1 ∷ 1 ∷ 102 ∷ 8 ∷ 0 ∷ 0 ∷ 0 ∷ 0 ∷ 0 ∷ 0 ∷ 0 ∷ 1 ∷ 5 ∷ 1 ∷ 0 ∷ 0 ∷ 0 ∷ 27 ∷ 100 ∷ 101 ∷ 102 ∷ 32 ∷ 102 ∷ 40 ∷ 41 ∷ 58 ∷ 32 ∷ 112 ∷ 97 ∷ 115 ∷ 115 ∷ 10 ∷ 100 ∷ 101 ∷ 102 ∷ 32 ∷ 103 ∷ 40 ∷ 41 ∷ 58 ∷ 32 ∷ 112 ∷ 97 ∷ 115 ∷ 115 ∷ 0 ∷ 0 ∷ 0 ∷ 0 ∷ []) ∷ []
    ≡ Err 21 ∷ []
unfolding functions_on_literals
code_20 = refl

-- `def f():\n    pass\n    # c`
code_21 : read_picture (0 ∷ 0 ∷ 0 ∷ 1 ∷ 1 ∷ 102 ∷ 8 ∷ 0 ∷ 0 ∷ 0 ∷ 0 ∷ 0 ∷ 0 ∷ 0 ∷ 1 ∷ 5 ∷ 1 ∷ 0 ∷ 0 ∷ 0 ∷ 25 ∷ 100 ∷ 101 ∷ 102 ∷ 32 ∷ 102 ∷ 40 ∷ 41 ∷ 58 ∷ 10 ∷ 32 ∷ 32 ∷ 32 ∷ 32 ∷ 112 ∷ 97 ∷ 115 ∷ 115 ∷ 10 ∷ 32 ∷ 32 ∷ 32 ∷ 32 ∷ 35 ∷ 32 ∷ 99 ∷ 0 ∷ 0 ∷ 0 ∷ 0 ∷ []) ∷ []
    ≡ Err 21 ∷ []
unfolding functions_on_literals
code_21 = refl

-- `def f():\r    pass`
code_22 : read_picture (0 ∷ 0 ∷ 0 ∷ 1 ∷ 1 ∷ 102 ∷ 8 ∷ 0 ∷ 0 ∷ 0 ∷ 0 ∷ 0 ∷ 0 ∷ 0 ∷ 1 ∷ 5 ∷ 1 ∷ 0 ∷ 0 ∷ 0 ∷ 17 ∷ 100 ∷ 101 ∷ 102 ∷ 32 ∷ 102 ∷ 40 ∷ 41 ∷ 58 ∷ 13 ∷ 32 ∷ 32 ∷ 32 ∷ 32 ∷ 112 ∷ 97 ∷ 115 ∷ 115 ∷ 0 ∷ 0 ∷ 0 ∷ 0 ∷ []) ∷ []
    ≡ Err 21 ∷ []
unfolding functions_on_literals
code_22 = refl

-- `def f():\r\n    pass`
code_23 : read_picture (0 ∷ 0 ∷ 0 ∷ 1 ∷ 1 ∷ 102 ∷ 8 ∷ 0 ∷ 0 ∷ 0 ∷ 0 ∷ 0 ∷ 0 ∷ 0 ∷ 1 ∷ 5 ∷ 1 ∷ 0 ∷ 0 ∷ 0 ∷ 18 ∷ 100 ∷ 101 ∷ 102 ∷ 32 ∷ 102 ∷ 40 ∷ 41 ∷ 58 ∷ 13 ∷ 10 ∷ 32 ∷ 32 ∷ 32 ∷ 32 ∷ 112 ∷ 97 ∷ 115 ∷ 115 ∷ 0 ∷ 0 ∷ 0 ∷ 0 ∷ []) ∷ []
    ≡ Err 21 ∷ []
unfolding functions_on_literals
code_23 = refl

-- `def f(a=1, b): pass`
code_24 : read_picture (0 ∷ 0 ∷ 0 ∷ 1 ∷ 1 ∷ 102 ∷ 8 ∷ 0 ∷ 0 ∷ 0 ∷ 0 ∷ 0 ∷ 0 ∷ 0 ∷ 1 ∷ 5 ∷ 1 ∷ 0 ∷ 0 ∷ 0 ∷ 19 ∷ 100 ∷ 101 ∷ 102 ∷ 32 ∷ 102 ∷ 40 ∷ 97 ∷ 61 ∷ 49 ∷ 44 ∷ 32 ∷ 98 ∷ 41 ∷ 58 ∷ 32 ∷ 112 ∷ 97 ∷ 115 ∷ 115 ∷ 0 ∷ 0 ∷ 0 ∷ 0 ∷ []) ∷ []
    ≡ Err 21 ∷ []
unfolding functions_on_literals
code_24 = refl

-- `def f(a, a): pass`
code_25 : read_picture (0 ∷ 0 ∷ 0 ∷ 1 ∷ 1 ∷ 102 ∷ 8 ∷ 0 ∷ 0 ∷ 0 ∷ 0 ∷ 0 ∷ 0 ∷ 0 ∷ 1 ∷ 5 ∷ 1 ∷ 0 ∷ 0 ∷ 0 ∷ 17 ∷ 100 ∷ 101 ∷ 102 ∷ 32 ∷ 102 ∷ 40 ∷ 97 ∷ 44 ∷ 32 ∷ 97 ∷ 41 ∷ 58 ∷ 32 ∷ 112 ∷ 97 ∷ 115 ∷ 115 ∷ 0 ∷ 0 ∷ 0 ∷ 0 ∷ []) ∷ []
    ≡ Err 21 ∷ []
unfolding functions_on_literals
code_25 = refl

-- `def f(): def g(): pass`
code_26 : read_picture (0 ∷ 0 ∷ 0 ∷ 1 ∷ 1 ∷ 102 ∷ 8 ∷ 0 ∷ 0 ∷ 0 ∷ 0 ∷ 0 ∷ 0 ∷ 0 ∷ 1 ∷ 5 ∷ 1 ∷ 0 ∷ 0 ∷ 0 ∷ 22 ∷ 100 ∷ 101 ∷ 102 ∷ 32 ∷ 102 ∷ 40 ∷ 41 ∷ 58 ∷ 32 ∷ 100 ∷ 101 ∷ 102 ∷ 32 ∷ 103 ∷ 40 ∷ 41 ∷ 58 ∷ 32 ∷ 112 ∷ 97 ∷ 115 ∷ 115 ∷ 0 ∷ 0 ∷ 0 ∷ 0 ∷ []) ∷ []
    ≡ Err 21 ∷ []
unfolding functions_on_literals
code_26 = refl

-- `def f():\n    def g(): pass`
code_27 : read_picture (0 ∷ 0 ∷ 0 ∷ 1 ∷ 1 ∷ 102 ∷ 8 ∷ 0 ∷ 0 ∷ 0 ∷ 0 ∷ 0 ∷ 0 ∷ 0 ∷ 1 ∷ 5 ∷ 1 ∷ 0 ∷ 0 ∷ 0 ∷ 26 ∷ 100 ∷ 101 ∷ 102 ∷ 32 ∷ 102 ∷ 40 ∷ 41 ∷ 58 ∷ 10 ∷ 32 ∷ 32 ∷ 32 ∷ 32 ∷ 100 ∷ 101 ∷ 102 ∷ 32 ∷ 103 ∷ 40 ∷ 41 ∷ 58 ∷ 32 ∷ 112 ∷ 97 ∷ 115 ∷ 115 ∷ 0 ∷ 0 ∷ 0 ∷ 0 ∷ []) ∷ []
    ≡ Err 21 ∷ []
unfolding functions_on_literals
code_27 = refl

-- `def f(): break`
code_28 : read_picture (0 ∷ 0 ∷ 0 ∷ 1 ∷ 1 ∷ 102 ∷ 8 ∷ 0 ∷ 0 ∷ 0 ∷ 0 ∷ 0 ∷ 0 ∷ 0 ∷ 1 ∷ 5 ∷ 1 ∷ 0 ∷ 0 ∷ 0 ∷ 14 ∷ 100 ∷ 101 ∷ 102 ∷ 32 ∷ 102 ∷ 40 ∷ 41 ∷ 58 ∷ 32 ∷ 98 ∷ 114 ∷ 101 ∷ 97 ∷ 107 ∷ 0 ∷ 0 ∷ 0 ∷ 0 ∷ []) ∷ []
    ≡ Err 21 ∷ []
unfolding functions_on_literals
code_28 = refl

-- `def f()`
code_29 : read_picture (0 ∷ 0 ∷ 0 ∷ 1 ∷ 1 ∷ 102 ∷ 8 ∷ 0 ∷ 0 ∷ 0 ∷ 0 ∷ 0 ∷ 0 ∷ 0 ∷ 1 ∷ 5 ∷ 1 ∷ 0 ∷ 0 ∷ 0 ∷ 7 ∷ 100 ∷ 101 ∷ 102 ∷ 32 ∷ 102 ∷ 40 ∷ 41 ∷ 0 ∷ 0 ∷ 0 ∷ 0 ∷ []) ∷ []
    ≡ Err 21 ∷ []
unfolding functions_on_literals
code_29 = refl

-- `f`
code_30 : read_picture (0 ∷ 0 ∷ 0 ∷ 1 ∷ 1 ∷ 102 ∷ 8 ∷ 0 ∷ 0 ∷ 0 ∷ 0 ∷ 0 ∷ 0 ∷ 0 ∷ 1 ∷ 5 ∷ 1 ∷ 0 ∷ 0 ∷ 0 ∷ 1 ∷ 102 ∷ 0 ∷ 0 ∷ 0 ∷ 0 ∷ []) ∷ []
    ≡ Err 21 ∷ []
unfolding functions_on_literals
code_30 = refl

-- ``
code_31 : read_picture (0 ∷ 0 ∷ 0 ∷ 1 ∷ 1 ∷ 102 ∷ 8 ∷ 0 ∷ 0 ∷ 0 ∷ 0 ∷ 0 ∷ 0 ∷ 0 ∷ 1 ∷ 5 ∷ 1 ∷ 0 ∷ 0 ∷ 0 ∷ 0 ∷ 0 ∷ 0 ∷ 0 ∷ 0 ∷ []) ∷ []
    ≡ Err 21 ∷ []
unfolding functions_on_literals
code_31 = refl

-- `pass`
code_32 : read_picture (0 ∷ 0 ∷ 0 ∷ 1 ∷ 1 ∷ 102 ∷ 8 ∷ 0 ∷ 0 ∷ 0 ∷ 0 ∷ 0 ∷ 0 ∷ 0 ∷ 1 ∷ 5 ∷ 1 ∷ 0 ∷ 0 ∷ 0 ∷ 4 ∷ 112 ∷ 97 ∷ 115 ∷ 115 ∷ 0 ∷ 0 ∷ 0 ∷ 0 ∷ []) ∷ []
    ≡ Err 21 ∷ []
unfolding functions_on_literals
code_32 = refl

-- `def if(): pass`
code_33 : read_picture (0 ∷ 0 ∷ 0 ∷ 1 ∷ 1 ∷ 102 ∷ 8 ∷ 0 ∷ 0 ∷ 0 ∷ 0 ∷ 0 ∷ 0 ∷ 0 ∷ 1 ∷ 5 ∷ 1 ∷ 0 ∷ 0 ∷ 0 ∷ 14 ∷ 100 ∷ 101 ∷ 102 ∷ 32 ∷ 105 ∷ 102 ∷ 40 ∷ 41 ∷ 58 ∷ 32 ∷ 112 ∷ 97 ∷ 115 ∷ 115 ∷ 0 ∷ 0 ∷ 0 ∷ 0 ∷ []) ∷ []
    ≡ Err 21 ∷ []
unfolding functions_on_literals
code_33 = refl
