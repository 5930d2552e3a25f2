-- The steps that requests take, counted by hand: computed on the definitions. Made by tools/rows/charge_rows.py.
use Rattle.std.specs.Prelude.{◌≡◌, [], ◌∷◌, codes, None, refl}
use Rattle.kishu_store.specs.Graph.{Graph, new_graph}
use Rattle.kishu_model.specs.Request.{cell, cells, checkout, branch, log, status, inspect, stored, plan, unreadable}
use Rattle.kishu_store_rows.proofs.OnLiterals.{requests_on_literals}
use Rattle.kishu_model.specs.Step.{charge_of}

-- ---- cells, one in a request

cell_1 : charge_of new_graph (cell ([])) ≡ 0
unfolding requests_on_literals
cell_1 = refl

cell_2 : charge_of new_graph (cell (codes "pass")) ≡ 1
unfolding requests_on_literals
cell_2 = refl

cell_3 : charge_of new_graph (cell (codes "x = 1")) ≡ 2
unfolding requests_on_literals
cell_3 = refl

cell_4 : charge_of new_graph (cell (codes "None")) ≡ 2
unfolding requests_on_literals
cell_4 = refl

cell_5 : charge_of new_graph (cell (codes "x = = 1")) ≡ 0
unfolding requests_on_literals
cell_5 = refl

cell_6 : charge_of new_graph (cell (codes "1")) ≡ 3
unfolding requests_on_literals
cell_6 = refl

cell_7 : charge_of new_graph (cell (codes "'ab'")) ≡ 6
unfolding requests_on_literals
cell_7 = refl

cell_8 : charge_of new_graph (cell (codes "1 + 2")) ≡ 5
unfolding requests_on_literals
cell_8 = refl

cell_9 : charge_of new_graph (cell (codes "x = [1, 2]")) ≡ 4
unfolding requests_on_literals
cell_9 = refl

cell_10 : charge_of new_graph (cell (codes "x = (1, 2)")) ≡ 4
unfolding requests_on_literals
cell_10 = refl

cell_11 : charge_of new_graph (cell (codes "x = {1: 2}")) ≡ 4
unfolding requests_on_literals
cell_11 = refl

cell_12 : charge_of new_graph (cell (codes "print(1)")) ≡ 6
unfolding requests_on_literals
cell_12 = refl

cell_13 : charge_of new_graph (cell (codes "x = 1; x")) ≡ 5
unfolding requests_on_literals
cell_13 = refl

cell_14 : charge_of new_graph (cell (codes "if 1: pass")) ≡ 3
unfolding requests_on_literals
cell_14 = refl

cell_15 : charge_of new_graph (cell (codes "if 0: pass")) ≡ 2
unfolding requests_on_literals
cell_15 = refl

cell_16 : charge_of new_graph (cell (codes "while 0: pass")) ≡ 2
unfolding requests_on_literals
cell_16 = refl

cell_17 : charge_of new_graph (cell (codes "for i in [1]: pass")) ≡ 5
unfolding requests_on_literals
cell_17 = refl

cell_18 : charge_of new_graph (cell (codes "for i in []: pass")) ≡ 2
unfolding requests_on_literals
cell_18 = refl

cell_19 : charge_of new_graph (cell (codes "not 1")) ≡ 8
unfolding requests_on_literals
cell_19 = refl

cell_20 : charge_of new_graph (cell (codes "-1")) ≡ 5
unfolding requests_on_literals
cell_20 = refl

cell_21 : charge_of new_graph (cell (codes "'a' + 'b'")) ≡ 10
unfolding requests_on_literals
cell_21 = refl

cell_22 : charge_of new_graph (cell (codes "[1] * 3")) ≡ 17
unfolding requests_on_literals
cell_22 = refl

cell_23 : charge_of new_graph (cell (codes "1 < 2")) ≡ 8
unfolding requests_on_literals
cell_23 = refl

cell_24 : charge_of new_graph (cell (codes "x = 5\nx += 1")) ≡ 6
unfolding requests_on_literals
cell_24 = refl

cell_25 : charge_of new_graph (cell (codes "def f(): pass")) ≡ 1
unfolding requests_on_literals
cell_25 = refl

cell_26 : charge_of new_graph (cell (codes "def f(): return 1\nf()")) ≡ 7
unfolding requests_on_literals
cell_26 = refl

cell_27 : charge_of new_graph (cell (codes "1 or 2")) ≡ 4
unfolding requests_on_literals
cell_27 = refl

cell_28 : charge_of new_graph (cell (codes "1 if 1 else 2")) ≡ 5
unfolding requests_on_literals
cell_28 = refl

cell_29 : charge_of new_graph (cell (codes "x = [0]; x[0]")) ≡ 8
unfolding requests_on_literals
cell_29 = refl

cell_30 : charge_of new_graph (cell (codes "x = [0]; x[0] = 1")) ≡ 7
unfolding requests_on_literals
cell_30 = refl

cell_31 : charge_of new_graph (cell (codes "x = []; x.append(1)")) ≡ 7
unfolding requests_on_literals
cell_31 = refl

cell_32 : charge_of new_graph (cell (codes "x = 1; del x")) ≡ 3
unfolding requests_on_literals
cell_32 = refl

cell_33 : charge_of new_graph (cell (codes "x")) ≡ 26
unfolding requests_on_literals
cell_33 = refl

cell_34 : charge_of new_graph (cell (codes "1 // 0")) ≡ 21
unfolding requests_on_literals
cell_34 = refl

cell_35 : charge_of new_graph (cell (codes "assert 1")) ≡ 2
unfolding requests_on_literals
cell_35 = refl

cell_36 : charge_of new_graph (cell (codes "try: pass\nfinally: pass")) ≡ 3
unfolding requests_on_literals
cell_36 = refl

cell_37 : charge_of new_graph (cell (codes "x = y = 1")) ≡ 2
unfolding requests_on_literals
cell_37 = refl

cell_38 : charge_of new_graph (cell (codes "a, b = [1, 2]")) ≡ 6
unfolding requests_on_literals
cell_38 = refl

-- ---- several, up to the first that doesn't end well

cells_1 : charge_of new_graph (cells ((codes "x = 1") ∷ (codes "x") ∷ [])) ≡ 5
unfolding requests_on_literals
cells_1 = refl

cells_2 : charge_of new_graph (cells ((codes "x = 1") ∷ (codes "x // 0") ∷ (codes "y") ∷ [])) ≡ 23
unfolding requests_on_literals
cells_2 = refl

cells_3 : charge_of new_graph (cells (([]) ∷ ([]) ∷ [])) ≡ 0
unfolding requests_on_literals
cells_3 = refl

cells_4 : charge_of new_graph (cells ((codes "x =") ∷ (codes "1") ∷ [])) ≡ 0
unfolding requests_on_literals
cells_4 = refl

cells_5 : charge_of new_graph (cells []) ≡ 0
unfolding requests_on_literals
cells_5 = refl

-- ---- other requests take none, nor do cells that aren't run

abbrev full : Graph
full = record new_graph { records = 1000000 }

other_1 : charge_of new_graph (unreadable) ≡ 0
unfolding requests_on_literals
other_1 = refl

other_2 : charge_of new_graph (checkout (codes "main")) ≡ 0
unfolding requests_on_literals
other_2 = refl

other_3 : charge_of new_graph (checkout (codes "7")) ≡ 0
unfolding requests_on_literals
other_3 = refl

other_4 : charge_of new_graph (branch (codes "try") None) ≡ 0
unfolding requests_on_literals
other_4 = refl

other_5 : charge_of new_graph (log) ≡ 0
unfolding requests_on_literals
other_5 = refl

other_6 : charge_of new_graph (status) ≡ 0
unfolding requests_on_literals
other_6 = refl

other_7 : charge_of new_graph (inspect) ≡ 0
unfolding requests_on_literals
other_7 = refl

other_8 : charge_of new_graph (stored (codes "0")) ≡ 0
unfolding requests_on_literals
other_8 = refl

other_9 : charge_of new_graph (plan (codes "0")) ≡ 0
unfolding requests_on_literals
other_9 = refl

other_10 : charge_of full (unreadable) ≡ 0
unfolding requests_on_literals
other_10 = refl

other_11 : charge_of full (checkout (codes "main")) ≡ 0
unfolding requests_on_literals
other_11 = refl

other_12 : charge_of full (checkout (codes "7")) ≡ 0
unfolding requests_on_literals
other_12 = refl

other_13 : charge_of full (branch (codes "try") None) ≡ 0
unfolding requests_on_literals
other_13 = refl

other_14 : charge_of full (log) ≡ 0
unfolding requests_on_literals
other_14 = refl

other_15 : charge_of full (status) ≡ 0
unfolding requests_on_literals
other_15 = refl

other_16 : charge_of full (inspect) ≡ 0
unfolding requests_on_literals
other_16 = refl

other_17 : charge_of full (stored (codes "0")) ≡ 0
unfolding requests_on_literals
other_17 = refl

other_18 : charge_of full (plan (codes "0")) ≡ 0
unfolding requests_on_literals
other_18 = refl

other_19 : charge_of full (cell (codes "1")) ≡ 0
unfolding requests_on_literals
other_19 = refl

other_20 : charge_of full (cells ((codes "1") ∷ (codes "2") ∷ [])) ≡ 0
unfolding requests_on_literals
other_20 = refl
