-- Requests that are made from a number: computed on the definitions. Made by tools/rows/generated_rows.py.
use Rattle.std.specs.Prelude.{◌≡◌, [], ◌∷◌, codes, refl}
use Rattle.std.specs.Fmt.{digits}
use Rattle.kishu_model.specs.Request.{cell, checkout}
use Rattle.kishu_model.specs.generated.Requests.{next_number, number, cells_among, requests_behind, generated_requests}

-- ---- from 0

number_1 : number 0 5 ≡ 229283573
number_1 = refl

number_2 : next_number 0 ≡ 12345
number_2 = refl

cells_1 : cells_among 0 60 ≡ 54
cells_1 = refl

none_1 : generated_requests 0 0 ≡ []
none_1 = refl

requests0_0 : requests_behind 0 0 12 ≡ cell (codes "v0 = [1]") ∷ cell (codes "v1 = [2]") ∷ cell (codes "v2 = [3]") ∷ cell (codes "v3 = [4]") ∷ cell (codes "v4 = [5]") ∷ cell (codes "v5 = [6]") ∷ cell (codes "v6 = [7]") ∷ cell (codes "v7 = [8]") ∷ cell (codes "v8 = [9]") ∷ cell (codes "v9 = [10]") ∷ cell (codes "v1 = [11, 6]") ∷ cell (codes "v2 = [12, 5]") ∷ []
unfolding digits
requests0_0 = refl

requests0_12 : requests_behind 0 12 12 ≡ cell (codes "v9.append(13)") ∷ cell (codes "print(v8 is v5, len(v5))") ∷ cell (codes "v7 = [15, 8]") ∷ cell (codes "v5 = v7") ∷ cell (codes "v8 = [v6]") ∷ cell (codes "v3 = [18, 3]") ∷ cell (codes "v2 = [19, 1]") ∷ cell (codes "v1.append(20)") ∷ cell (codes "v6 = [v9]") ∷ cell (codes "v1 = [22, 9]") ∷ cell (codes "v5 = [23, 6]") ∷ cell (codes "v1 = [v7]") ∷ []
unfolding digits
requests0_12 = refl

requests0_24 : requests_behind 0 24 12 ≡ cell (codes "v6 = [25, 9]") ∷ cell (codes "print(v1 is v8, len(v8))") ∷ cell (codes "v6.append(27)") ∷ cell (codes "v2 = [28, 1]") ∷ cell (codes "v4 = [29, 4]") ∷ cell (codes "v1.append(30)") ∷ cell (codes "v4.append(31)") ∷ cell (codes "v3.append(32)") ∷ cell (codes "v0 = [v5]") ∷ cell (codes "v6.append(34)") ∷ cell (codes "v1 = [35, 5]") ∷ cell (codes "v4 = [36, 3]") ∷ []
unfolding digits
requests0_24 = refl

requests0_48 : requests_behind 0 48 12 ≡ checkout (codes "6") ∷ checkout (codes "25") ∷ cell (codes "v1.append(51)") ∷ cell (codes "v4 = [52, 0]") ∷ cell (codes "v3 = [53, 7]") ∷ cell (codes "v5 = [54, 6]") ∷ cell (codes "v9.append(55)") ∷ cell (codes "v7 = [56, 8]") ∷ cell (codes "v0.append(57)") ∷ cell (codes "v8 = [v5]") ∷ cell (codes "v0 = [59, 3]") ∷ checkout (codes "15") ∷ []
unfolding digits
requests0_48 = refl

-- ---- from 7

number_3 : number 7 5 ≡ 2131988640
number_3 = refl

number_4 : next_number 7 ≡ 1282168116
number_4 = refl

cells_2 : cells_among 7 60 ≡ 55
cells_2 = refl

none_2 : generated_requests 7 0 ≡ []
none_2 = refl

requests7_0 : requests_behind 7 0 12 ≡ cell (codes "v0 = [1]") ∷ cell (codes "v1 = [2]") ∷ cell (codes "v2 = [3]") ∷ cell (codes "v3 = [4]") ∷ cell (codes "v4 = [5]") ∷ cell (codes "v5 = [6]") ∷ cell (codes "v6 = [7]") ∷ cell (codes "v7 = [8]") ∷ cell (codes "v8 = [9]") ∷ cell (codes "v9 = [10]") ∷ cell (codes "v3 = [11, 1]") ∷ cell (codes "v3 = [v6]") ∷ []
unfolding digits
requests7_0 = refl

requests7_12 : requests_behind 7 12 12 ≡ cell (codes "v0.append(13)") ∷ cell (codes "v4 = v7") ∷ cell (codes "print(v9 is v4, len(v4))") ∷ cell (codes "v2 = [v2]") ∷ cell (codes "v5 = [17, 8]") ∷ cell (codes "v4.append(18)") ∷ cell (codes "v0 = [19, 5]") ∷ cell (codes "v0 = [v6]") ∷ cell (codes "v2 = [21, 5]") ∷ cell (codes "v7 = [v6]") ∷ cell (codes "v9 = [23, 7]") ∷ cell (codes "v8.append(24)") ∷ []
unfolding digits
requests7_12 = refl

requests7_24 : requests_behind 7 24 12 ≡ cell (codes "v1 = [25, 6]") ∷ cell (codes "v4.append(26)") ∷ cell (codes "v9.append(27)") ∷ cell (codes "v3 = [28, 7]") ∷ cell (codes "v4 = [v7]") ∷ cell (codes "v0 = [30, 1]") ∷ checkout (codes "23") ∷ checkout (codes "14") ∷ cell (codes "v8 = v1") ∷ cell (codes "v0 = [v9]") ∷ cell (codes "v8 = [v4]") ∷ cell (codes "v7 = [36, 6]") ∷ []
unfolding digits
requests7_24 = refl

requests7_48 : requests_behind 7 48 12 ≡ cell (codes "v0 = [v5]") ∷ cell (codes "v3 = [v7]") ∷ checkout (codes "1") ∷ cell (codes "print(v9 is v1, len(v1))") ∷ cell (codes "print(v3 is v7, len(v7))") ∷ cell (codes "v9 = [54, 5]") ∷ cell (codes "print(v3 is v9, len(v9))") ∷ cell (codes "print(v4 is v3, len(v3))") ∷ cell (codes "v6 = [57, 8]") ∷ cell (codes "v5 = v3") ∷ cell (codes "v0 = [v2]") ∷ checkout (codes "6") ∷ []
unfolding digits
requests7_48 = refl

-- ---- from 123456789

number_5 : number 123456789 5 ≡ 1634557174
number_5 = refl

number_6 : next_number 123456789 ≡ 231794730
number_6 = refl

cells_3 : cells_among 123456789 60 ≡ 53
cells_3 = refl

none_3 : generated_requests 123456789 0 ≡ []
none_3 = refl

requests123456789_0 : requests_behind 123456789 0 12 ≡ cell (codes "v0 = [1]") ∷ cell (codes "v1 = [2]") ∷ cell (codes "v2 = [3]") ∷ cell (codes "v3 = [4]") ∷ cell (codes "v4 = [5]") ∷ cell (codes "v5 = [6]") ∷ cell (codes "v6 = [7]") ∷ cell (codes "v7 = [8]") ∷ cell (codes "v8 = [9]") ∷ cell (codes "v9 = [10]") ∷ cell (codes "v6 = v8") ∷ cell (codes "v5 = [v2]") ∷ []
unfolding digits
requests123456789_0 = refl

requests123456789_12 : requests_behind 123456789 12 12 ≡ cell (codes "v7 = [13, 8]") ∷ cell (codes "v0.append(14)") ∷ cell (codes "print(v7 is v4, len(v4))") ∷ cell (codes "v7.append(16)") ∷ checkout (codes "13") ∷ cell (codes "v0 = [18, 7]") ∷ cell (codes "print(v8 is v0, len(v0))") ∷ cell (codes "v7 = [20, 5]") ∷ cell (codes "v2 = [21, 5]") ∷ cell (codes "v4 = v7") ∷ cell (codes "v8.append(23)") ∷ cell (codes "print(v5 is v2, len(v2))") ∷ []
unfolding digits
requests123456789_12 = refl

requests123456789_24 : requests_behind 123456789 24 12 ≡ cell (codes "v4 = [25, 4]") ∷ cell (codes "v6 = [26, 9]") ∷ cell (codes "v9.append(27)") ∷ cell (codes "v0 = [28, 5]") ∷ cell (codes "v6 = [v7]") ∷ checkout (codes "5") ∷ cell (codes "v5 = [31, 0]") ∷ cell (codes "v3.append(32)") ∷ cell (codes "v1 = v3") ∷ cell (codes "v4 = [v1]") ∷ cell (codes "v0 = [v4]") ∷ checkout (codes "30") ∷ []
unfolding digits
requests123456789_24 = refl

requests123456789_48 : requests_behind 123456789 48 12 ≡ cell (codes "v4 = [v4]") ∷ cell (codes "print(v4 is v7, len(v7))") ∷ cell (codes "v7 = v4") ∷ cell (codes "v9 = [52, 2]") ∷ cell (codes "v5 = [v0]") ∷ cell (codes "v7 = [v7]") ∷ cell (codes "v2 = [55, 8]") ∷ cell (codes "v9.append(56)") ∷ cell (codes "v3 = [v0]") ∷ cell (codes "v6 = [58, 5]") ∷ cell (codes "v8 = [59, 2]") ∷ cell (codes "v8 = [v9]") ∷ []
unfolding digits
requests123456789_48 = refl

-- ---- from 2147483647

number_7 : number 2147483647 5 ≡ 571035320
number_7 = refl

number_8 : next_number 2147483647 ≡ 1043980748
number_8 = refl

cells_4 : cells_among 2147483647 60 ≡ 59
cells_4 = refl

none_4 : generated_requests 2147483647 0 ≡ []
none_4 = refl

requests2147483647_0 : requests_behind 2147483647 0 12 ≡ cell (codes "v0 = [1]") ∷ cell (codes "v1 = [2]") ∷ cell (codes "v2 = [3]") ∷ cell (codes "v3 = [4]") ∷ cell (codes "v4 = [5]") ∷ cell (codes "v5 = [6]") ∷ cell (codes "v6 = [7]") ∷ cell (codes "v7 = [8]") ∷ cell (codes "v8 = [9]") ∷ cell (codes "v9 = [10]") ∷ cell (codes "print(v3 is v7, len(v7))") ∷ cell (codes "v9.append(12)") ∷ []
unfolding digits
requests2147483647_0 = refl

requests2147483647_12 : requests_behind 2147483647 12 12 ≡ cell (codes "v5 = [13, 3]") ∷ cell (codes "v6 = [v5]") ∷ checkout (codes "4") ∷ cell (codes "v8 = [v3]") ∷ cell (codes "v9 = v7") ∷ cell (codes "v2 = [18, 8]") ∷ cell (codes "v7 = [19, 8]") ∷ cell (codes "print(v7 is v5, len(v5))") ∷ cell (codes "v5 = [21, 2]") ∷ cell (codes "v4 = [v0]") ∷ cell (codes "v4.append(23)") ∷ cell (codes "v2 = v6") ∷ []
unfolding digits
requests2147483647_12 = refl

requests2147483647_24 : requests_behind 2147483647 24 12 ≡ cell (codes "v8 = [25, 5]") ∷ cell (codes "v5 = [26, 7]") ∷ cell (codes "v2 = [27, 6]") ∷ cell (codes "v2.append(28)") ∷ cell (codes "v7.append(29)") ∷ cell (codes "v5 = [v5]") ∷ cell (codes "v3 = [31, 7]") ∷ cell (codes "print(v1 is v8, len(v8))") ∷ cell (codes "v4 = [33, 7]") ∷ cell (codes "v0 = [34, 5]") ∷ cell (codes "v8 = [35, 1]") ∷ cell (codes "v0 = [v0]") ∷ []
unfolding digits
requests2147483647_24 = refl

requests2147483647_48 : requests_behind 2147483647 48 12 ≡ cell (codes "v1 = [v2]") ∷ cell (codes "v2 = [50, 3]") ∷ cell (codes "v9 = v8") ∷ cell (codes "v8 = [52, 8]") ∷ cell (codes "v4 = [v3]") ∷ cell (codes "print(v8 is v2, len(v2))") ∷ cell (codes "v4 = v6") ∷ cell (codes "v6 = [56, 5]") ∷ cell (codes "print(v7 is v5, len(v5))") ∷ cell (codes "v9 = [v8]") ∷ cell (codes "v3 = v0") ∷ cell (codes "v6 = v7") ∷ []
unfolding digits
requests2147483647_48 = refl
