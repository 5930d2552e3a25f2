-- Store files: which records they have and which graph they hold. Made by tools/rows/file_rows.py.
use Rattle.std.specs.Prelude.{◌≡◌, ℕ, List, [], ◌∷◌, refl}
use Rattle.std.proofs.Common.{inl, ap, arith, slice_index}
use Rattle.std.specs.Char.{encode_utf8}
use Rattle.std.specs.List.Sorted.{IsStrictlySortedBy}
use Rattle.kishu_language.specs.tokens.Names.{reserved_words}
use Rattle.kishu_store.specs.EntryBytes.{head_of, body_of}
use Rattle.kishu_store.specs.Graph.{new_graph}
use Rattle.kishu_store.specs.Holds.{header, framed, graph_by, changes_by, Ends, Holds, Gives, HasRecords, IsForeign}
use Rattle.kishu_store_laws.specs.Laws.{ends-records, ends-holds, ends-gives}
use Rattle.kishu_store_rows.proofs.Records.{first0, first1, first2, first3, first4, first5, first6}
use Rattle.kishu_store_rows.proofs.FittingRecords.{are0, are1, are2, are3, are4, are5, are6}

-- ---- files that end with them, at a gate that is closed, whatever follows

abbrev file0 : List ℕ
file0 = 75 ∷ 73 ∷ 83 ∷ 72 ∷ 85 ∷ 45 ∷ 74 ∷ 79 ∷ 85 ∷ 82 ∷ 78 ∷ 65 ∷ 76 ∷ 45 ∷ 49 ∷ 10 ∷ 0 ∷ []

ends_1 : Ends file0 first0
unfolding header framed head_of body_of encode_utf8 IsStrictlySortedBy reserved_words
ends_1 = record { gate = 0; rest = []; split = refl; closed = λ e. absurd (omega (arith, e)); fit = are0 }

abbrev file1 : List ℕ
file1 = 75 ∷ 73 ∷ 83 ∷ 72 ∷ 85 ∷ 45 ∷ 74 ∷ 79 ∷ 85 ∷ 82 ∷ 78 ∷ 65 ∷ 76 ∷ 45 ∷ 49 ∷ 10 ∷ 165 ∷ 0 ∷ 0 ∷ 0 ∷ 0 ∷ 0 ∷ 0 ∷ 0 ∷ 85 ∷ 0 ∷ 0 ∷ 0 ∷ 77 ∷ 1 ∷ 0 ∷ 0 ∷ 0 ∷ 0 ∷ 1 ∷ 0 ∷ 0 ∷ 0 ∷ 1 ∷ 0 ∷ 0 ∷ 0 ∷ 25 ∷ 120 ∷ 32 ∷ 61 ∷ 32 ∷ 91 ∷ 49 ∷ 93 ∷ 59 ∷ 32 ∷ 121 ∷ 32 ∷ 61 ∷ 32 ∷ 91 ∷ 120 ∷ 93 ∷ 59 ∷ 32 ∷ 122 ∷ 32 ∷ 61 ∷ 32 ∷ 91 ∷ 50 ∷ 93 ∷ 0 ∷ 0 ∷ 0 ∷ 0 ∷ 0 ∷ 0 ∷ 0 ∷ 2 ∷ 0 ∷ 0 ∷ 0 ∷ 2 ∷ 1 ∷ 120 ∷ 1 ∷ 121 ∷ 0 ∷ 0 ∷ 0 ∷ 0 ∷ 0 ∷ 0 ∷ 0 ∷ 3 ∷ 0 ∷ 0 ∷ 0 ∷ 1 ∷ 1 ∷ 122 ∷ 0 ∷ 0 ∷ 0 ∷ 0 ∷ 0 ∷ 0 ∷ 0 ∷ 1 ∷ 1 ∷ 2 ∷ 3 ∷ 4 ∷ 60 ∷ 165 ∷ 165 ∷ []

ends_2 : Ends file1 first1
unfolding header framed head_of body_of encode_utf8 IsStrictlySortedBy reserved_words
ends_2 = record { gate = 60; rest = (165 ∷ 165 ∷ []); split = refl; closed = λ e. absurd (omega (arith, e)); fit = are1 }

has_records_1 : HasRecords file1 first1
has_records_1 = ends-records file1 first1 ends_2

holds_1 : Holds file1 (graph_by first1)
holds_1 = ends-holds file1 first1 ends_2

gives_1 : Gives file1 (changes_by first1)
gives_1 = ends-gives file1 first1 ends_2

abbrev file2 : List ℕ
file2 = 75 ∷ 73 ∷ 83 ∷ 72 ∷ 85 ∷ 45 ∷ 74 ∷ 79 ∷ 85 ∷ 82 ∷ 78 ∷ 65 ∷ 76 ∷ 45 ∷ 49 ∷ 10 ∷ 165 ∷ 0 ∷ 0 ∷ 0 ∷ 0 ∷ 0 ∷ 0 ∷ 0 ∷ 85 ∷ 0 ∷ 0 ∷ 0 ∷ 77 ∷ 1 ∷ 0 ∷ 0 ∷ 0 ∷ 0 ∷ 1 ∷ 0 ∷ 0 ∷ 0 ∷ 1 ∷ 0 ∷ 0 ∷ 0 ∷ 25 ∷ 120 ∷ 32 ∷ 61 ∷ 32 ∷ 91 ∷ 49 ∷ 93 ∷ 59 ∷ 32 ∷ 121 ∷ 32 ∷ 61 ∷ 32 ∷ 91 ∷ 120 ∷ 93 ∷ 59 ∷ 32 ∷ 122 ∷ 32 ∷ 61 ∷ 32 ∷ 91 ∷ 50 ∷ 93 ∷ 0 ∷ 0 ∷ 0 ∷ 0 ∷ 0 ∷ 0 ∷ 0 ∷ 2 ∷ 0 ∷ 0 ∷ 0 ∷ 2 ∷ 1 ∷ 120 ∷ 1 ∷ 121 ∷ 0 ∷ 0 ∷ 0 ∷ 0 ∷ 0 ∷ 0 ∷ 0 ∷ 3 ∷ 0 ∷ 0 ∷ 0 ∷ 1 ∷ 1 ∷ 122 ∷ 0 ∷ 0 ∷ 0 ∷ 0 ∷ 0 ∷ 0 ∷ 0 ∷ 1 ∷ 1 ∷ 2 ∷ 3 ∷ 4 ∷ 165 ∷ 0 ∷ 0 ∷ 0 ∷ 0 ∷ 0 ∷ 0 ∷ 0 ∷ 70 ∷ 0 ∷ 0 ∷ 0 ∷ 63 ∷ 1 ∷ 0 ∷ 0 ∷ 0 ∷ 1 ∷ 1 ∷ 0 ∷ 0 ∷ 0 ∷ 1 ∷ 0 ∷ 0 ∷ 0 ∷ 5 ∷ 121 ∷ 32 ∷ 61 ∷ 32 ∷ 48 ∷ 0 ∷ 0 ∷ 0 ∷ 1 ∷ 0 ∷ 0 ∷ 0 ∷ 2 ∷ 1 ∷ 120 ∷ 1 ∷ 121 ∷ 0 ∷ 0 ∷ 0 ∷ 2 ∷ 0 ∷ 0 ∷ 0 ∷ 1 ∷ 1 ∷ 120 ∷ 0 ∷ 0 ∷ 0 ∷ 0 ∷ 0 ∷ 0 ∷ 0 ∷ 2 ∷ 0 ∷ 0 ∷ 0 ∷ 1 ∷ 1 ∷ 121 ∷ 0 ∷ 0 ∷ 0 ∷ 0 ∷ 0 ∷ 0 ∷ 0 ∷ 1 ∷ 5 ∷ 6 ∷ 7 ∷ 164 ∷ 120 ∷ []

ends_3 : Ends file2 first2
unfolding header framed head_of body_of encode_utf8 IsStrictlySortedBy reserved_words
ends_3 = record { gate = 164; rest = (120 ∷ []); split = refl; closed = λ e. absurd (omega (arith, e)); fit = are2 }

has_records_2 : HasRecords file2 first2
has_records_2 = ends-records file2 first2 ends_3

holds_2 : Holds file2 (graph_by first2)
holds_2 = ends-holds file2 first2 ends_3

gives_2 : Gives file2 (changes_by first2)
gives_2 = ends-gives file2 first2 ends_3

abbrev file3 : List ℕ
file3 = 75 ∷ 73 ∷ 83 ∷ 72 ∷ 85 ∷ 45 ∷ 74 ∷ 79 ∷ 85 ∷ 82 ∷ 78 ∷ 65 ∷ 76 ∷ 45 ∷ 49 ∷ 10 ∷ 165 ∷ 0 ∷ 0 ∷ 0 ∷ 0 ∷ 0 ∷ 0 ∷ 0 ∷ 85 ∷ 0 ∷ 0 ∷ 0 ∷ 77 ∷ 1 ∷ 0 ∷ 0 ∷ 0 ∷ 0 ∷ 1 ∷ 0 ∷ 0 ∷ 0 ∷ 1 ∷ 0 ∷ 0 ∷ 0 ∷ 25 ∷ 120 ∷ 32 ∷ 61 ∷ 32 ∷ 91 ∷ 49 ∷ 93 ∷ 59 ∷ 32 ∷ 121 ∷ 32 ∷ 61 ∷ 32 ∷ 91 ∷ 120 ∷ 93 ∷ 59 ∷ 32 ∷ 122 ∷ 32 ∷ 61 ∷ 32 ∷ 91 ∷ 50 ∷ 93 ∷ 0 ∷ 0 ∷ 0 ∷ 0 ∷ 0 ∷ 0 ∷ 0 ∷ 2 ∷ 0 ∷ 0 ∷ 0 ∷ 2 ∷ 1 ∷ 120 ∷ 1 ∷ 121 ∷ 0 ∷ 0 ∷ 0 ∷ 0 ∷ 0 ∷ 0 ∷ 0 ∷ 3 ∷ 0 ∷ 0 ∷ 0 ∷ 1 ∷ 1 ∷ 122 ∷ 0 ∷ 0 ∷ 0 ∷ 0 ∷ 0 ∷ 0 ∷ 0 ∷ 1 ∷ 1 ∷ 2 ∷ 3 ∷ 4 ∷ 165 ∷ 0 ∷ 0 ∷ 0 ∷ 0 ∷ 0 ∷ 0 ∷ 0 ∷ 70 ∷ 0 ∷ 0 ∷ 0 ∷ 63 ∷ 1 ∷ 0 ∷ 0 ∷ 0 ∷ 1 ∷ 1 ∷ 0 ∷ 0 ∷ 0 ∷ 1 ∷ 0 ∷ 0 ∷ 0 ∷ 5 ∷ 121 ∷ 32 ∷ 61 ∷ 32 ∷ 48 ∷ 0 ∷ 0 ∷ 0 ∷ 1 ∷ 0 ∷ 0 ∷ 0 ∷ 2 ∷ 1 ∷ 120 ∷ 1 ∷ 121 ∷ 0 ∷ 0 ∷ 0 ∷ 2 ∷ 0 ∷ 0 ∷ 0 ∷ 1 ∷ 1 ∷ 120 ∷ 0 ∷ 0 ∷ 0 ∷ 0 ∷ 0 ∷ 0 ∷ 0 ∷ 2 ∷ 0 ∷ 0 ∷ 0 ∷ 1 ∷ 1 ∷ 121 ∷ 0 ∷ 0 ∷ 0 ∷ 0 ∷ 0 ∷ 0 ∷ 0 ∷ 1 ∷ 5 ∷ 6 ∷ 7 ∷ 165 ∷ 0 ∷ 0 ∷ 0 ∷ 0 ∷ 0 ∷ 0 ∷ 0 ∷ 13 ∷ 0 ∷ 0 ∷ 0 ∷ 9 ∷ 3 ∷ 3 ∷ 116 ∷ 114 ∷ 121 ∷ 0 ∷ 0 ∷ 0 ∷ 1 ∷ 166 ∷ []

ends_4 : Ends file3 first3
unfolding header framed head_of body_of encode_utf8 IsStrictlySortedBy reserved_words
ends_4 = record { gate = 166; rest = []; split = refl; closed = λ e. absurd (omega (arith, e)); fit = are3 }

has_records_3 : HasRecords file3 first3
has_records_3 = ends-records file3 first3 ends_4

holds_3 : Holds file3 (graph_by first3)
holds_3 = ends-holds file3 first3 ends_4

gives_3 : Gives file3 (changes_by first3)
gives_3 = ends-gives file3 first3 ends_4

abbrev file4 : List ℕ
file4 = 75 ∷ 73 ∷ 83 ∷ 72 ∷ 85 ∷ 45 ∷ 74 ∷ 79 ∷ 85 ∷ 82 ∷ 78 ∷ 65 ∷ 76 ∷ 45 ∷ 49 ∷ 10 ∷ 165 ∷ 0 ∷ 0 ∷ 0 ∷ 0 ∷ 0 ∷ 0 ∷ 0 ∷ 85 ∷ 0 ∷ 0 ∷ 0 ∷ 77 ∷ 1 ∷ 0 ∷ 0 ∷ 0 ∷ 0 ∷ 1 ∷ 0 ∷ 0 ∷ 0 ∷ 1 ∷ 0 ∷ 0 ∷ 0 ∷ 25 ∷ 120 ∷ 32 ∷ 61 ∷ 32 ∷ 91 ∷ 49 ∷ 93 ∷ 59 ∷ 32 ∷ 121 ∷ 32 ∷ 61 ∷ 32 ∷ 91 ∷ 120 ∷ 93 ∷ 59 ∷ 32 ∷ 122 ∷ 32 ∷ 61 ∷ 32 ∷ 91 ∷ 50 ∷ 93 ∷ 0 ∷ 0 ∷ 0 ∷ 0 ∷ 0 ∷ 0 ∷ 0 ∷ 2 ∷ 0 ∷ 0 ∷ 0 ∷ 2 ∷ 1 ∷ 120 ∷ 1 ∷ 121 ∷ 0 ∷ 0 ∷ 0 ∷ 0 ∷ 0 ∷ 0 ∷ 0 ∷ 3 ∷ 0 ∷ 0 ∷ 0 ∷ 1 ∷ 1 ∷ 122 ∷ 0 ∷ 0 ∷ 0 ∷ 0 ∷ 0 ∷ 0 ∷ 0 ∷ 1 ∷ 1 ∷ 2 ∷ 3 ∷ 4 ∷ 165 ∷ 0 ∷ 0 ∷ 0 ∷ 0 ∷ 0 ∷ 0 ∷ 0 ∷ 70 ∷ 0 ∷ 0 ∷ 0 ∷ 63 ∷ 1 ∷ 0 ∷ 0 ∷ 0 ∷ 1 ∷ 1 ∷ 0 ∷ 0 ∷ 0 ∷ 1 ∷ 0 ∷ 0 ∷ 0 ∷ 5 ∷ 121 ∷ 32 ∷ 61 ∷ 32 ∷ 48 ∷ 0 ∷ 0 ∷ 0 ∷ 1 ∷ 0 ∷ 0 ∷ 0 ∷ 2 ∷ 1 ∷ 120 ∷ 1 ∷ 121 ∷ 0 ∷ 0 ∷ 0 ∷ 2 ∷ 0 ∷ 0 ∷ 0 ∷ 1 ∷ 1 ∷ 120 ∷ 0 ∷ 0 ∷ 0 ∷ 0 ∷ 0 ∷ 0 ∷ 0 ∷ 2 ∷ 0 ∷ 0 ∷ 0 ∷ 1 ∷ 1 ∷ 121 ∷ 0 ∷ 0 ∷ 0 ∷ 0 ∷ 0 ∷ 0 ∷ 0 ∷ 1 ∷ 5 ∷ 6 ∷ 7 ∷ 165 ∷ 0 ∷ 0 ∷ 0 ∷ 0 ∷ 0 ∷ 0 ∷ 0 ∷ 13 ∷ 0 ∷ 0 ∷ 0 ∷ 9 ∷ 3 ∷ 3 ∷ 116 ∷ 114 ∷ 121 ∷ 0 ∷ 0 ∷ 0 ∷ 1 ∷ 165 ∷ 0 ∷ 0 ∷ 0 ∷ 0 ∷ 0 ∷ 0 ∷ 0 ∷ 10 ∷ 0 ∷ 0 ∷ 0 ∷ 6 ∷ 2 ∷ 1 ∷ 3 ∷ 116 ∷ 114 ∷ 121 ∷ 0 ∷ []

ends_5 : Ends file4 first4
unfolding header framed head_of body_of encode_utf8 IsStrictlySortedBy reserved_words
ends_5 = record { gate = 0; rest = []; split = refl; closed = λ e. absurd (omega (arith, e)); fit = are4 }

has_records_4 : HasRecords file4 first4
has_records_4 = ends-records file4 first4 ends_5

holds_4 : Holds file4 (graph_by first4)
holds_4 = ends-holds file4 first4 ends_5

gives_4 : Gives file4 (changes_by first4)
gives_4 = ends-gives file4 first4 ends_5

abbrev file5 : List ℕ
file5 = 75 ∷ 73 ∷ 83 ∷ 72 ∷ 85 ∷ 45 ∷ 74 ∷ 79 ∷ 85 ∷ 82 ∷ 78 ∷ 65 ∷ 76 ∷ 45 ∷ 49 ∷ 10 ∷ 165 ∷ 0 ∷ 0 ∷ 0 ∷ 0 ∷ 0 ∷ 0 ∷ 0 ∷ 85 ∷ 0 ∷ 0 ∷ 0 ∷ 77 ∷ 1 ∷ 0 ∷ 0 ∷ 0 ∷ 0 ∷ 1 ∷ 0 ∷ 0 ∷ 0 ∷ 1 ∷ 0 ∷ 0 ∷ 0 ∷ 25 ∷ 120 ∷ 32 ∷ 61 ∷ 32 ∷ 91 ∷ 49 ∷ 93 ∷ 59 ∷ 32 ∷ 121 ∷ 32 ∷ 61 ∷ 32 ∷ 91 ∷ 120 ∷ 93 ∷ 59 ∷ 32 ∷ 122 ∷ 32 ∷ 61 ∷ 32 ∷ 91 ∷ 50 ∷ 93 ∷ 0 ∷ 0 ∷ 0 ∷ 0 ∷ 0 ∷ 0 ∷ 0 ∷ 2 ∷ 0 ∷ 0 ∷ 0 ∷ 2 ∷ 1 ∷ 120 ∷ 1 ∷ 121 ∷ 0 ∷ 0 ∷ 0 ∷ 0 ∷ 0 ∷ 0 ∷ 0 ∷ 3 ∷ 0 ∷ 0 ∷ 0 ∷ 1 ∷ 1 ∷ 122 ∷ 0 ∷ 0 ∷ 0 ∷ 0 ∷ 0 ∷ 0 ∷ 0 ∷ 1 ∷ 1 ∷ 2 ∷ 3 ∷ 4 ∷ 165 ∷ 0 ∷ 0 ∷ 0 ∷ 0 ∷ 0 ∷ 0 ∷ 0 ∷ 70 ∷ 0 ∷ 0 ∷ 0 ∷ 63 ∷ 1 ∷ 0 ∷ 0 ∷ 0 ∷ 1 ∷ 1 ∷ 0 ∷ 0 ∷ 0 ∷ 1 ∷ 0 ∷ 0 ∷ 0 ∷ 5 ∷ 121 ∷ 32 ∷ 61 ∷ 32 ∷ 48 ∷ 0 ∷ 0 ∷ 0 ∷ 1 ∷ 0 ∷ 0 ∷ 0 ∷ 2 ∷ 1 ∷ 120 ∷ 1 ∷ 121 ∷ 0 ∷ 0 ∷ 0 ∷ 2 ∷ 0 ∷ 0 ∷ 0 ∷ 1 ∷ 1 ∷ 120 ∷ 0 ∷ 0 ∷ 0 ∷ 0 ∷ 0 ∷ 0 ∷ 0 ∷ 2 ∷ 0 ∷ 0 ∷ 0 ∷ 1 ∷ 1 ∷ 121 ∷ 0 ∷ 0 ∷ 0 ∷ 0 ∷ 0 ∷ 0 ∷ 0 ∷ 1 ∷ 5 ∷ 6 ∷ 7 ∷ 165 ∷ 0 ∷ 0 ∷ 0 ∷ 0 ∷ 0 ∷ 0 ∷ 0 ∷ 13 ∷ 0 ∷ 0 ∷ 0 ∷ 9 ∷ 3 ∷ 3 ∷ 116 ∷ 114 ∷ 121 ∷ 0 ∷ 0 ∷ 0 ∷ 1 ∷ 165 ∷ 0 ∷ 0 ∷ 0 ∷ 0 ∷ 0 ∷ 0 ∷ 0 ∷ 10 ∷ 0 ∷ 0 ∷ 0 ∷ 6 ∷ 2 ∷ 1 ∷ 3 ∷ 116 ∷ 114 ∷ 121 ∷ 165 ∷ 0 ∷ 0 ∷ 0 ∷ 0 ∷ 0 ∷ 0 ∷ 0 ∷ 60 ∷ 0 ∷ 0 ∷ 0 ∷ 54 ∷ 1 ∷ 0 ∷ 0 ∷ 0 ∷ 1 ∷ 1 ∷ 0 ∷ 0 ∷ 0 ∷ 2 ∷ 0 ∷ 0 ∷ 0 ∷ 5 ∷ 119 ∷ 32 ∷ 61 ∷ 32 ∷ 122 ∷ 0 ∷ 0 ∷ 0 ∷ 1 ∷ 49 ∷ 0 ∷ 0 ∷ 0 ∷ 1 ∷ 0 ∷ 0 ∷ 0 ∷ 1 ∷ 1 ∷ 122 ∷ 0 ∷ 0 ∷ 0 ∷ 1 ∷ 0 ∷ 0 ∷ 0 ∷ 2 ∷ 1 ∷ 119 ∷ 1 ∷ 122 ∷ 0 ∷ 0 ∷ 0 ∷ 0 ∷ 0 ∷ 0 ∷ 0 ∷ 2 ∷ 8 ∷ 8 ∷ 60 ∷ 165 ∷ 165 ∷ []

ends_6 : Ends file5 first5
unfolding header framed head_of body_of encode_utf8 IsStrictlySortedBy reserved_words
ends_6 = record { gate = 60; rest = (165 ∷ 165 ∷ []); split = refl; closed = λ e. absurd (omega (arith, e)); fit = are5 }

has_records_5 : HasRecords file5 first5
has_records_5 = ends-records file5 first5 ends_6

holds_5 : Holds file5 (graph_by first5)
holds_5 = ends-holds file5 first5 ends_6

gives_5 : Gives file5 (changes_by first5)
gives_5 = ends-gives file5 first5 ends_6

abbrev file6 : List ℕ
file6 = 75 ∷ 73 ∷ 83 ∷ 72 ∷ 85 ∷ 45 ∷ 74 ∷ 79 ∷ 85 ∷ 82 ∷ 78 ∷ 65 ∷ 76 ∷ 45 ∷ 49 ∷ 10 ∷ 165 ∷ 0 ∷ 0 ∷ 0 ∷ 0 ∷ 0 ∷ 0 ∷ 0 ∷ 85 ∷ 0 ∷ 0 ∷ 0 ∷ 77 ∷ 1 ∷ 0 ∷ 0 ∷ 0 ∷ 0 ∷ 1 ∷ 0 ∷ 0 ∷ 0 ∷ 1 ∷ 0 ∷ 0 ∷ 0 ∷ 25 ∷ 120 ∷ 32 ∷ 61 ∷ 32 ∷ 91 ∷ 49 ∷ 93 ∷ 59 ∷ 32 ∷ 121 ∷ 32 ∷ 61 ∷ 32 ∷ 91 ∷ 120 ∷ 93 ∷ 59 ∷ 32 ∷ 122 ∷ 32 ∷ 61 ∷ 32 ∷ 91 ∷ 50 ∷ 93 ∷ 0 ∷ 0 ∷ 0 ∷ 0 ∷ 0 ∷ 0 ∷ 0 ∷ 2 ∷ 0 ∷ 0 ∷ 0 ∷ 2 ∷ 1 ∷ 120 ∷ 1 ∷ 121 ∷ 0 ∷ 0 ∷ 0 ∷ 0 ∷ 0 ∷ 0 ∷ 0 ∷ 3 ∷ 0 ∷ 0 ∷ 0 ∷ 1 ∷ 1 ∷ 122 ∷ 0 ∷ 0 ∷ 0 ∷ 0 ∷ 0 ∷ 0 ∷ 0 ∷ 1 ∷ 1 ∷ 2 ∷ 3 ∷ 4 ∷ 165 ∷ 0 ∷ 0 ∷ 0 ∷ 0 ∷ 0 ∷ 0 ∷ 0 ∷ 70 ∷ 0 ∷ 0 ∷ 0 ∷ 63 ∷ 1 ∷ 0 ∷ 0 ∷ 0 ∷ 1 ∷ 1 ∷ 0 ∷ 0 ∷ 0 ∷ 1 ∷ 0 ∷ 0 ∷ 0 ∷ 5 ∷ 121 ∷ 32 ∷ 61 ∷ 32 ∷ 48 ∷ 0 ∷ 0 ∷ 0 ∷ 1 ∷ 0 ∷ 0 ∷ 0 ∷ 2 ∷ 1 ∷ 120 ∷ 1 ∷ 121 ∷ 0 ∷ 0 ∷ 0 ∷ 2 ∷ 0 ∷ 0 ∷ 0 ∷ 1 ∷ 1 ∷ 120 ∷ 0 ∷ 0 ∷ 0 ∷ 0 ∷ 0 ∷ 0 ∷ 0 ∷ 2 ∷ 0 ∷ 0 ∷ 0 ∷ 1 ∷ 1 ∷ 121 ∷ 0 ∷ 0 ∷ 0 ∷ 0 ∷ 0 ∷ 0 ∷ 0 ∷ 1 ∷ 5 ∷ 6 ∷ 7 ∷ 165 ∷ 0 ∷ 0 ∷ 0 ∷ 0 ∷ 0 ∷ 0 ∷ 0 ∷ 13 ∷ 0 ∷ 0 ∷ 0 ∷ 9 ∷ 3 ∷ 3 ∷ 116 ∷ 114 ∷ 121 ∷ 0 ∷ 0 ∷ 0 ∷ 1 ∷ 165 ∷ 0 ∷ 0 ∷ 0 ∷ 0 ∷ 0 ∷ 0 ∷ 0 ∷ 10 ∷ 0 ∷ 0 ∷ 0 ∷ 6 ∷ 2 ∷ 1 ∷ 3 ∷ 116 ∷ 114 ∷ 121 ∷ 165 ∷ 0 ∷ 0 ∷ 0 ∷ 0 ∷ 0 ∷ 0 ∷ 0 ∷ 60 ∷ 0 ∷ 0 ∷ 0 ∷ 54 ∷ 1 ∷ 0 ∷ 0 ∷ 0 ∷ 1 ∷ 1 ∷ 0 ∷ 0 ∷ 0 ∷ 2 ∷ 0 ∷ 0 ∷ 0 ∷ 5 ∷ 119 ∷ 32 ∷ 61 ∷ 32 ∷ 122 ∷ 0 ∷ 0 ∷ 0 ∷ 1 ∷ 49 ∷ 0 ∷ 0 ∷ 0 ∷ 1 ∷ 0 ∷ 0 ∷ 0 ∷ 1 ∷ 1 ∷ 122 ∷ 0 ∷ 0 ∷ 0 ∷ 1 ∷ 0 ∷ 0 ∷ 0 ∷ 2 ∷ 1 ∷ 119 ∷ 1 ∷ 122 ∷ 0 ∷ 0 ∷ 0 ∷ 0 ∷ 0 ∷ 0 ∷ 0 ∷ 2 ∷ 8 ∷ 8 ∷ 165 ∷ 0 ∷ 0 ∷ 0 ∷ 0 ∷ 0 ∷ 0 ∷ 0 ∷ 10 ∷ 0 ∷ 0 ∷ 0 ∷ 6 ∷ 2 ∷ 0 ∷ 0 ∷ 0 ∷ 0 ∷ 2 ∷ 164 ∷ 120 ∷ []

ends_7 : Ends file6 first6
unfolding header framed head_of body_of encode_utf8 IsStrictlySortedBy reserved_words
ends_7 = record { gate = 164; rest = (120 ∷ []); split = refl; closed = λ e. absurd (omega (arith, e)); fit = are6 }

has_records_6 : HasRecords file6 first6
has_records_6 = ends-records file6 first6 ends_7

holds_6 : Holds file6 (graph_by first6)
holds_6 = ends-holds file6 first6 ends_7

gives_6 : Gives file6 (changes_by first6)
gives_6 = ends-gives file6 first6 ends_7

-- ---- short files hold the new graph, whatever they are

short_1 : Holds [] new_graph
short_1 = inl (omega arith, refl)

short_2 : HasRecords [] []
short_2 = inl (omega arith, refl)

short_3 : Holds (165 ∷ []) new_graph
short_3 = inl (omega arith, refl)

short_4 : HasRecords (165 ∷ []) []
short_4 = inl (omega arith, refl)

short_5 : Holds (75 ∷ 73 ∷ 83 ∷ 72 ∷ 85 ∷ []) new_graph
short_5 = inl (omega arith, refl)

short_6 : HasRecords (75 ∷ 73 ∷ 83 ∷ 72 ∷ 85 ∷ []) []
short_6 = inl (omega arith, refl)

short_7 : Holds (75 ∷ 73 ∷ 83 ∷ 72 ∷ 85 ∷ 45 ∷ 74 ∷ 79 ∷ 85 ∷ 82 ∷ 78 ∷ 65 ∷ 76 ∷ 45 ∷ 49 ∷ 10 ∷ []) new_graph
short_7 = inl (omega arith, refl)

short_8 : HasRecords (75 ∷ 73 ∷ 83 ∷ 72 ∷ 85 ∷ 45 ∷ 74 ∷ 79 ∷ 85 ∷ 82 ∷ 78 ∷ 65 ∷ 76 ∷ 45 ∷ 49 ∷ 10 ∷ []) []
short_8 = inl (omega arith, refl)

short_9 : Holds (75 ∷ 73 ∷ 83 ∷ 72 ∷ 85 ∷ 45 ∷ 74 ∷ 79 ∷ 85 ∷ 82 ∷ 78 ∷ 65 ∷ 76 ∷ 45 ∷ 49 ∷ 10 ∷ 165 ∷ []) new_graph
short_9 = inl (omega arith, refl)

short_10 : HasRecords (75 ∷ 73 ∷ 83 ∷ 72 ∷ 85 ∷ 45 ∷ 74 ∷ 79 ∷ 85 ∷ 82 ∷ 78 ∷ 65 ∷ 76 ∷ 45 ∷ 49 ∷ 10 ∷ 165 ∷ []) []
short_10 = inl (omega arith, refl)

short_11 : Holds (120 ∷ 120 ∷ 120 ∷ 120 ∷ 120 ∷ 120 ∷ 120 ∷ 120 ∷ 120 ∷ 120 ∷ 120 ∷ 120 ∷ 120 ∷ 120 ∷ 120 ∷ 120 ∷ 120 ∷ []) new_graph
short_11 = inl (omega arith, refl)

short_12 : HasRecords (120 ∷ 120 ∷ 120 ∷ 120 ∷ 120 ∷ 120 ∷ 120 ∷ 120 ∷ 120 ∷ 120 ∷ 120 ∷ 120 ∷ 120 ∷ 120 ∷ 120 ∷ 120 ∷ 120 ∷ []) []
short_12 = inl (omega arith, refl)

-- ---- a longer file with another header is foreign: of each byte of the header, one that differs

foreign_1 : IsForeign (76 ∷ 73 ∷ 83 ∷ 72 ∷ 85 ∷ 45 ∷ 74 ∷ 79 ∷ 85 ∷ 82 ∷ 78 ∷ 65 ∷ 76 ∷ 45 ∷ 49 ∷ 10 ∷ 0 ∷ 0 ∷ [])
unfolding header
foreign_1 = (omega arith, λ rest e. let d : 76 ≡ 75 = ap (λ (l : List ℕ). slice_index l 0) e in absurd (omega (arith, d)))

foreign_2 : IsForeign (75 ∷ 74 ∷ 83 ∷ 72 ∷ 85 ∷ 45 ∷ 74 ∷ 79 ∷ 85 ∷ 82 ∷ 78 ∷ 65 ∷ 76 ∷ 45 ∷ 49 ∷ 10 ∷ 0 ∷ 0 ∷ [])
unfolding header
foreign_2 = (omega arith, λ rest e. let d : 74 ≡ 73 = ap (λ (l : List ℕ). slice_index l 1) e in absurd (omega (arith, d)))

foreign_3 : IsForeign (75 ∷ 73 ∷ 84 ∷ 72 ∷ 85 ∷ 45 ∷ 74 ∷ 79 ∷ 85 ∷ 82 ∷ 78 ∷ 65 ∷ 76 ∷ 45 ∷ 49 ∷ 10 ∷ 0 ∷ 0 ∷ [])
unfolding header
foreign_3 = (omega arith, λ rest e. let d : 84 ≡ 83 = ap (λ (l : List ℕ). slice_index l 2) e in absurd (omega (arith, d)))

foreign_4 : IsForeign (75 ∷ 73 ∷ 83 ∷ 73 ∷ 85 ∷ 45 ∷ 74 ∷ 79 ∷ 85 ∷ 82 ∷ 78 ∷ 65 ∷ 76 ∷ 45 ∷ 49 ∷ 10 ∷ 0 ∷ 0 ∷ [])
unfolding header
foreign_4 = (omega arith, λ rest e. let d : 73 ≡ 72 = ap (λ (l : List ℕ). slice_index l 3) e in absurd (omega (arith, d)))

foreign_5 : IsForeign (75 ∷ 73 ∷ 83 ∷ 72 ∷ 86 ∷ 45 ∷ 74 ∷ 79 ∷ 85 ∷ 82 ∷ 78 ∷ 65 ∷ 76 ∷ 45 ∷ 49 ∷ 10 ∷ 0 ∷ 0 ∷ [])
unfolding header
foreign_5 = (omega arith, λ rest e. let d : 86 ≡ 85 = ap (λ (l : List ℕ). slice_index l 4) e in absurd (omega (arith, d)))

foreign_6 : IsForeign (75 ∷ 73 ∷ 83 ∷ 72 ∷ 85 ∷ 46 ∷ 74 ∷ 79 ∷ 85 ∷ 82 ∷ 78 ∷ 65 ∷ 76 ∷ 45 ∷ 49 ∷ 10 ∷ 0 ∷ 0 ∷ [])
unfolding header
foreign_6 = (omega arith, λ rest e. let d : 46 ≡ 45 = ap (λ (l : List ℕ). slice_index l 5) e in absurd (omega (arith, d)))

foreign_7 : IsForeign (75 ∷ 73 ∷ 83 ∷ 72 ∷ 85 ∷ 45 ∷ 75 ∷ 79 ∷ 85 ∷ 82 ∷ 78 ∷ 65 ∷ 76 ∷ 45 ∷ 49 ∷ 10 ∷ 0 ∷ 0 ∷ [])
unfolding header
foreign_7 = (omega arith, λ rest e. let d : 75 ≡ 74 = ap (λ (l : List ℕ). slice_index l 6) e in absurd (omega (arith, d)))

foreign_8 : IsForeign (75 ∷ 73 ∷ 83 ∷ 72 ∷ 85 ∷ 45 ∷ 74 ∷ 80 ∷ 85 ∷ 82 ∷ 78 ∷ 65 ∷ 76 ∷ 45 ∷ 49 ∷ 10 ∷ 0 ∷ 0 ∷ [])
unfolding header
foreign_8 = (omega arith, λ rest e. let d : 80 ≡ 79 = ap (λ (l : List ℕ). slice_index l 7) e in absurd (omega (arith, d)))

foreign_9 : IsForeign (75 ∷ 73 ∷ 83 ∷ 72 ∷ 85 ∷ 45 ∷ 74 ∷ 79 ∷ 86 ∷ 82 ∷ 78 ∷ 65 ∷ 76 ∷ 45 ∷ 49 ∷ 10 ∷ 0 ∷ 0 ∷ [])
unfolding header
foreign_9 = (omega arith, λ rest e. let d : 86 ≡ 85 = ap (λ (l : List ℕ). slice_index l 8) e in absurd (omega (arith, d)))

foreign_10 : IsForeign (75 ∷ 73 ∷ 83 ∷ 72 ∷ 85 ∷ 45 ∷ 74 ∷ 79 ∷ 85 ∷ 83 ∷ 78 ∷ 65 ∷ 76 ∷ 45 ∷ 49 ∷ 10 ∷ 0 ∷ 0 ∷ [])
unfolding header
foreign_10 = (omega arith, λ rest e. let d : 83 ≡ 82 = ap (λ (l : List ℕ). slice_index l 9) e in absurd (omega (arith, d)))

foreign_11 : IsForeign (75 ∷ 73 ∷ 83 ∷ 72 ∷ 85 ∷ 45 ∷ 74 ∷ 79 ∷ 85 ∷ 82 ∷ 79 ∷ 65 ∷ 76 ∷ 45 ∷ 49 ∷ 10 ∷ 0 ∷ 0 ∷ [])
unfolding header
foreign_11 = (omega arith, λ rest e. let d : 79 ≡ 78 = ap (λ (l : List ℕ). slice_index l 10) e in absurd (omega (arith, d)))

foreign_12 : IsForeign (75 ∷ 73 ∷ 83 ∷ 72 ∷ 85 ∷ 45 ∷ 74 ∷ 79 ∷ 85 ∷ 82 ∷ 78 ∷ 66 ∷ 76 ∷ 45 ∷ 49 ∷ 10 ∷ 0 ∷ 0 ∷ [])
unfolding header
foreign_12 = (omega arith, λ rest e. let d : 66 ≡ 65 = ap (λ (l : List ℕ). slice_index l 11) e in absurd (omega (arith, d)))

foreign_13 : IsForeign (75 ∷ 73 ∷ 83 ∷ 72 ∷ 85 ∷ 45 ∷ 74 ∷ 79 ∷ 85 ∷ 82 ∷ 78 ∷ 65 ∷ 77 ∷ 45 ∷ 49 ∷ 10 ∷ 0 ∷ 0 ∷ [])
unfolding header
foreign_13 = (omega arith, λ rest e. let d : 77 ≡ 76 = ap (λ (l : List ℕ). slice_index l 12) e in absurd (omega (arith, d)))

foreign_14 : IsForeign (75 ∷ 73 ∷ 83 ∷ 72 ∷ 85 ∷ 45 ∷ 74 ∷ 79 ∷ 85 ∷ 82 ∷ 78 ∷ 65 ∷ 76 ∷ 46 ∷ 49 ∷ 10 ∷ 0 ∷ 0 ∷ [])
unfolding header
foreign_14 = (omega arith, λ rest e. let d : 46 ≡ 45 = ap (λ (l : List ℕ). slice_index l 13) e in absurd (omega (arith, d)))

foreign_15 : IsForeign (75 ∷ 73 ∷ 83 ∷ 72 ∷ 85 ∷ 45 ∷ 74 ∷ 79 ∷ 85 ∷ 82 ∷ 78 ∷ 65 ∷ 76 ∷ 45 ∷ 50 ∷ 10 ∷ 0 ∷ 0 ∷ [])
unfolding header
foreign_15 = (omega arith, λ rest e. let d : 50 ≡ 49 = ap (λ (l : List ℕ). slice_index l 14) e in absurd (omega (arith, d)))

foreign_16 : IsForeign (75 ∷ 73 ∷ 83 ∷ 72 ∷ 85 ∷ 45 ∷ 74 ∷ 79 ∷ 85 ∷ 82 ∷ 78 ∷ 65 ∷ 76 ∷ 45 ∷ 49 ∷ 11 ∷ 0 ∷ 0 ∷ [])
unfolding header
foreign_16 = (omega arith, λ rest e. let d : 11 ≡ 10 = ap (λ (l : List ℕ). slice_index l 15) e in absurd (omega (arith, d)))
