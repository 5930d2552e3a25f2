-- Which groups stand in a state with a picture, and which change: computed on the definitions. Made by tools/rows/history_rows.py.
use Rattle.std.specs.Prelude.{◌≡◌, true, false, [], ◌∷◌, codes, refl}
use Rattle.kishu_meaning.specs.values.Values.{empty}
use Rattle.kishu_objects.specs.Picture.{picture}
use Rattle.kishu_objects.specs.Groups.{groups_of}
use Rattle.kishu_history.specs.Changed.{stands, changed}
use Rattle.kishu_object_rows.proofs.Histories.{lists1, lists2, lists3, lists4, lists5, lists6, lists7, lists8, lists9, lists10, lists11, lists12, lists13, ways1, ways2, ways3, ways5, ways4, ways6, ways7, ways8, kinds1, kinds2, kinds3, kinds4, kinds5, kinds6, kinds7, kinds8, kinds9, kinds10}

-- lists1: x = [1]; y = [x]; z = [2]
changes_1 : groups_of lists1 ∷ changed empty lists1 ∷ changed lists1 empty ∷ []
    ≡ (((codes "x") ∷ (codes "y") ∷ []) ∷ ((codes "z") ∷ []) ∷ []) ∷ [] ∷ (((codes "x") ∷ (codes "y") ∷ []) ∷ ((codes "z") ∷ []) ∷ []) ∷ []
changes_1 = refl

-- lists2: y = 0
changes_2 : groups_of lists2 ∷ changed lists1 lists2 ∷ changed lists2 lists1 ∷ []
    ≡ (((codes "x") ∷ []) ∷ ((codes "y") ∷ []) ∷ ((codes "z") ∷ []) ∷ []) ∷ (((codes "x") ∷ (codes "y") ∷ []) ∷ []) ∷ (((codes "x") ∷ []) ∷ ((codes "y") ∷ []) ∷ []) ∷ []
changes_2 = refl

stays_1 : stands ((codes "x") ∷ (codes "y") ∷ []) (picture lists1 ((codes "x") ∷ (codes "y") ∷ [])) lists2 ∷ stands ((codes "z") ∷ []) (picture lists1 ((codes "z") ∷ [])) lists2 ∷ []
    ≡ false ∷ true ∷ []
stays_1 = refl

-- lists3: y = [x]
changes_3 : groups_of lists3 ∷ changed lists2 lists3 ∷ changed lists3 lists2 ∷ []
    ≡ (((codes "x") ∷ (codes "y") ∷ []) ∷ ((codes "z") ∷ []) ∷ []) ∷ (((codes "x") ∷ []) ∷ ((codes "y") ∷ []) ∷ []) ∷ (((codes "x") ∷ (codes "y") ∷ []) ∷ []) ∷ []
changes_3 = refl

stays_2 : stands ((codes "x") ∷ []) (picture lists2 ((codes "x") ∷ [])) lists3 ∷ stands ((codes "y") ∷ []) (picture lists2 ((codes "y") ∷ [])) lists3 ∷ stands ((codes "z") ∷ []) (picture lists2 ((codes "z") ∷ [])) lists3 ∷ []
    ≡ false ∷ false ∷ true ∷ []
stays_2 = refl

-- lists4: z.append(3)
changes_4 : groups_of lists4 ∷ changed lists3 lists4 ∷ changed lists4 lists3 ∷ []
    ≡ (((codes "x") ∷ (codes "y") ∷ []) ∷ ((codes "z") ∷ []) ∷ []) ∷ (((codes "z") ∷ []) ∷ []) ∷ (((codes "z") ∷ []) ∷ []) ∷ []
changes_4 = refl

stays_3 : stands ((codes "x") ∷ (codes "y") ∷ []) (picture lists3 ((codes "x") ∷ (codes "y") ∷ [])) lists4 ∷ stands ((codes "z") ∷ []) (picture lists3 ((codes "z") ∷ [])) lists4 ∷ []
    ≡ true ∷ false ∷ []
stays_3 = refl

-- lists5: w = z
changes_5 : groups_of lists5 ∷ changed lists4 lists5 ∷ changed lists5 lists4 ∷ []
    ≡ (((codes "w") ∷ (codes "z") ∷ []) ∷ ((codes "x") ∷ (codes "y") ∷ []) ∷ []) ∷ (((codes "z") ∷ []) ∷ []) ∷ (((codes "w") ∷ (codes "z") ∷ []) ∷ []) ∷ []
changes_5 = refl

stays_4 : stands ((codes "x") ∷ (codes "y") ∷ []) (picture lists4 ((codes "x") ∷ (codes "y") ∷ [])) lists5 ∷ stands ((codes "z") ∷ []) (picture lists4 ((codes "z") ∷ [])) lists5 ∷ []
    ≡ true ∷ false ∷ []
stays_4 = refl

-- lists6: del w
changes_6 : groups_of lists6 ∷ changed lists5 lists6 ∷ changed lists6 lists5 ∷ []
    ≡ (((codes "x") ∷ (codes "y") ∷ []) ∷ ((codes "z") ∷ []) ∷ []) ∷ (((codes "w") ∷ (codes "z") ∷ []) ∷ []) ∷ (((codes "z") ∷ []) ∷ []) ∷ []
changes_6 = refl

stays_5 : stands ((codes "w") ∷ (codes "z") ∷ []) (picture lists5 ((codes "w") ∷ (codes "z") ∷ [])) lists6 ∷ stands ((codes "x") ∷ (codes "y") ∷ []) (picture lists5 ((codes "x") ∷ (codes "y") ∷ [])) lists6 ∷ []
    ≡ false ∷ true ∷ []
stays_5 = refl

-- lists7: x, y, z
changes_7 : groups_of lists7 ∷ changed lists6 lists7 ∷ changed lists7 lists6 ∷ []
    ≡ (((codes "x") ∷ (codes "y") ∷ []) ∷ ((codes "z") ∷ []) ∷ []) ∷ [] ∷ [] ∷ []
changes_7 = refl

stays_6 : stands ((codes "x") ∷ (codes "y") ∷ []) (picture lists6 ((codes "x") ∷ (codes "y") ∷ [])) lists7 ∷ stands ((codes "z") ∷ []) (picture lists6 ((codes "z") ∷ [])) lists7 ∷ []
    ≡ true ∷ true ∷ []
stays_6 = refl

-- lists8: x = [1], an equal list and another one
changes_8 : groups_of lists8 ∷ changed lists7 lists8 ∷ changed lists8 lists7 ∷ []
    ≡ (((codes "x") ∷ []) ∷ ((codes "y") ∷ []) ∷ ((codes "z") ∷ []) ∷ []) ∷ (((codes "x") ∷ (codes "y") ∷ []) ∷ []) ∷ (((codes "x") ∷ []) ∷ ((codes "y") ∷ []) ∷ []) ∷ []
changes_8 = refl

stays_7 : stands ((codes "x") ∷ (codes "y") ∷ []) (picture lists7 ((codes "x") ∷ (codes "y") ∷ [])) lists8 ∷ stands ((codes "z") ∷ []) (picture lists7 ((codes "z") ∷ [])) lists8 ∷ []
    ≡ false ∷ true ∷ []
stays_7 = refl

-- lists9: w = 5
changes_9 : groups_of lists9 ∷ changed lists8 lists9 ∷ changed lists9 lists8 ∷ []
    ≡ (((codes "w") ∷ []) ∷ ((codes "x") ∷ []) ∷ ((codes "y") ∷ []) ∷ ((codes "z") ∷ []) ∷ []) ∷ [] ∷ (((codes "w") ∷ []) ∷ []) ∷ []
changes_9 = refl

stays_8 : stands ((codes "x") ∷ []) (picture lists8 ((codes "x") ∷ [])) lists9 ∷ stands ((codes "y") ∷ []) (picture lists8 ((codes "y") ∷ [])) lists9 ∷ stands ((codes "z") ∷ []) (picture lists8 ((codes "z") ∷ [])) lists9 ∷ []
    ≡ true ∷ true ∷ true ∷ []
stays_8 = refl

-- lists10: w = 5, as it was
changes_10 : groups_of lists10 ∷ changed lists9 lists10 ∷ changed lists10 lists9 ∷ []
    ≡ (((codes "w") ∷ []) ∷ ((codes "x") ∷ []) ∷ ((codes "y") ∷ []) ∷ ((codes "z") ∷ []) ∷ []) ∷ [] ∷ [] ∷ []
changes_10 = refl

stays_9 : stands ((codes "w") ∷ []) (picture lists9 ((codes "w") ∷ [])) lists10 ∷ stands ((codes "x") ∷ []) (picture lists9 ((codes "x") ∷ [])) lists10 ∷ stands ((codes "y") ∷ []) (picture lists9 ((codes "y") ∷ [])) lists10 ∷ stands ((codes "z") ∷ []) (picture lists9 ((codes "z") ∷ [])) lists10 ∷ []
    ≡ true ∷ true ∷ true ∷ true ∷ []
stays_9 = refl

-- lists11: w = True
changes_11 : groups_of lists11 ∷ changed lists10 lists11 ∷ changed lists11 lists10 ∷ []
    ≡ (((codes "w") ∷ []) ∷ ((codes "x") ∷ []) ∷ ((codes "y") ∷ []) ∷ ((codes "z") ∷ []) ∷ []) ∷ (((codes "w") ∷ []) ∷ []) ∷ (((codes "w") ∷ []) ∷ []) ∷ []
changes_11 = refl

stays_10 : stands ((codes "w") ∷ []) (picture lists10 ((codes "w") ∷ [])) lists11 ∷ stands ((codes "x") ∷ []) (picture lists10 ((codes "x") ∷ [])) lists11 ∷ stands ((codes "y") ∷ []) (picture lists10 ((codes "y") ∷ [])) lists11 ∷ stands ((codes "z") ∷ []) (picture lists10 ((codes "z") ∷ [])) lists11 ∷ []
    ≡ false ∷ true ∷ true ∷ true ∷ []
stays_10 = refl

-- lists12: del x, y, z, w
changes_12 : groups_of lists12 ∷ changed lists11 lists12 ∷ changed lists12 lists11 ∷ []
    ≡ [] ∷ (((codes "w") ∷ []) ∷ ((codes "x") ∷ []) ∷ ((codes "y") ∷ []) ∷ ((codes "z") ∷ []) ∷ []) ∷ [] ∷ []
changes_12 = refl

stays_11 : stands ((codes "w") ∷ []) (picture lists11 ((codes "w") ∷ [])) lists12 ∷ stands ((codes "x") ∷ []) (picture lists11 ((codes "x") ∷ [])) lists12 ∷ stands ((codes "y") ∷ []) (picture lists11 ((codes "y") ∷ [])) lists12 ∷ stands ((codes "z") ∷ []) (picture lists11 ((codes "z") ∷ [])) lists12 ∷ []
    ≡ false ∷ false ∷ false ∷ false ∷ []
stays_11 = refl

-- lists13: the first cell again
changes_13 : groups_of lists13 ∷ changed lists12 lists13 ∷ changed lists13 lists12 ∷ []
    ≡ (((codes "x") ∷ (codes "y") ∷ []) ∷ ((codes "z") ∷ []) ∷ []) ∷ [] ∷ (((codes "x") ∷ (codes "y") ∷ []) ∷ ((codes "z") ∷ []) ∷ []) ∷ []
changes_13 = refl

-- ways1: a = [1]; b = [2]; c = [3]
changes_14 : groups_of ways1 ∷ changed empty ways1 ∷ changed ways1 empty ∷ []
    ≡ (((codes "a") ∷ []) ∷ ((codes "b") ∷ []) ∷ ((codes "c") ∷ []) ∷ []) ∷ [] ∷ (((codes "a") ∷ []) ∷ ((codes "b") ∷ []) ∷ ((codes "c") ∷ []) ∷ []) ∷ []
changes_14 = refl

-- ways2: a.append(0)
changes_15 : groups_of ways2 ∷ changed ways1 ways2 ∷ changed ways2 ways1 ∷ []
    ≡ (((codes "a") ∷ []) ∷ ((codes "b") ∷ []) ∷ ((codes "c") ∷ []) ∷ []) ∷ (((codes "a") ∷ []) ∷ []) ∷ (((codes "a") ∷ []) ∷ []) ∷ []
changes_15 = refl

stays_12 : stands ((codes "a") ∷ []) (picture ways1 ((codes "a") ∷ [])) ways2 ∷ stands ((codes "b") ∷ []) (picture ways1 ((codes "b") ∷ [])) ways2 ∷ stands ((codes "c") ∷ []) (picture ways1 ((codes "c") ∷ [])) ways2 ∷ []
    ≡ false ∷ true ∷ true ∷ []
stays_12 = refl

-- ways3: on one way: b.append(7)
changes_16 : groups_of ways3 ∷ changed ways2 ways3 ∷ changed ways3 ways2 ∷ []
    ≡ (((codes "a") ∷ []) ∷ ((codes "b") ∷ []) ∷ ((codes "c") ∷ []) ∷ []) ∷ (((codes "b") ∷ []) ∷ []) ∷ (((codes "b") ∷ []) ∷ []) ∷ []
changes_16 = refl

stays_13 : stands ((codes "a") ∷ []) (picture ways2 ((codes "a") ∷ [])) ways3 ∷ stands ((codes "b") ∷ []) (picture ways2 ((codes "b") ∷ [])) ways3 ∷ stands ((codes "c") ∷ []) (picture ways2 ((codes "c") ∷ [])) ways3 ∷ []
    ≡ true ∷ false ∷ true ∷ []
stays_13 = refl

-- ways5: and c.append(b)
changes_17 : groups_of ways5 ∷ changed ways3 ways5 ∷ changed ways5 ways3 ∷ []
    ≡ (((codes "a") ∷ []) ∷ ((codes "b") ∷ (codes "c") ∷ []) ∷ []) ∷ (((codes "b") ∷ []) ∷ ((codes "c") ∷ []) ∷ []) ∷ (((codes "b") ∷ (codes "c") ∷ []) ∷ []) ∷ []
changes_17 = refl

stays_14 : stands ((codes "a") ∷ []) (picture ways3 ((codes "a") ∷ [])) ways5 ∷ stands ((codes "b") ∷ []) (picture ways3 ((codes "b") ∷ [])) ways5 ∷ stands ((codes "c") ∷ []) (picture ways3 ((codes "c") ∷ [])) ways5 ∷ []
    ≡ true ∷ false ∷ false ∷ []
stays_14 = refl

-- ways4: on the other way: b.append(7), too
changes_18 : groups_of ways4 ∷ changed ways2 ways4 ∷ changed ways4 ways2 ∷ []
    ≡ (((codes "a") ∷ []) ∷ ((codes "b") ∷ []) ∷ ((codes "c") ∷ []) ∷ []) ∷ (((codes "b") ∷ []) ∷ []) ∷ (((codes "b") ∷ []) ∷ []) ∷ []
changes_18 = refl

stays_15 : stands ((codes "a") ∷ []) (picture ways2 ((codes "a") ∷ [])) ways4 ∷ stands ((codes "b") ∷ []) (picture ways2 ((codes "b") ∷ [])) ways4 ∷ stands ((codes "c") ∷ []) (picture ways2 ((codes "c") ∷ [])) ways4 ∷ []
    ≡ true ∷ false ∷ true ∷ []
stays_15 = refl

-- ways6: and d = a
changes_19 : groups_of ways6 ∷ changed ways4 ways6 ∷ changed ways6 ways4 ∷ []
    ≡ (((codes "a") ∷ (codes "d") ∷ []) ∷ ((codes "b") ∷ []) ∷ ((codes "c") ∷ []) ∷ []) ∷ (((codes "a") ∷ []) ∷ []) ∷ (((codes "a") ∷ (codes "d") ∷ []) ∷ []) ∷ []
changes_19 = refl

stays_16 : stands ((codes "a") ∷ []) (picture ways4 ((codes "a") ∷ [])) ways6 ∷ stands ((codes "b") ∷ []) (picture ways4 ((codes "b") ∷ [])) ways6 ∷ stands ((codes "c") ∷ []) (picture ways4 ((codes "c") ∷ [])) ways6 ∷ []
    ≡ false ∷ true ∷ true ∷ []
stays_16 = refl

-- ways7: del d
changes_20 : groups_of ways7 ∷ changed ways6 ways7 ∷ changed ways7 ways6 ∷ []
    ≡ (((codes "a") ∷ []) ∷ ((codes "b") ∷ []) ∷ ((codes "c") ∷ []) ∷ []) ∷ (((codes "a") ∷ (codes "d") ∷ []) ∷ []) ∷ (((codes "a") ∷ []) ∷ []) ∷ []
changes_20 = refl

stays_17 : stands ((codes "a") ∷ (codes "d") ∷ []) (picture ways6 ((codes "a") ∷ (codes "d") ∷ [])) ways7 ∷ stands ((codes "b") ∷ []) (picture ways6 ((codes "b") ∷ [])) ways7 ∷ stands ((codes "c") ∷ []) (picture ways6 ((codes "c") ∷ [])) ways7 ∷ []
    ≡ false ∷ true ∷ true ∷ []
stays_17 = refl

-- ways8: from the first commit: del c
changes_21 : groups_of ways8 ∷ changed ways1 ways8 ∷ changed ways8 ways1 ∷ []
    ≡ (((codes "a") ∷ []) ∷ ((codes "b") ∷ []) ∷ []) ∷ (((codes "c") ∷ []) ∷ []) ∷ [] ∷ []
changes_21 = refl

stays_18 : stands ((codes "a") ∷ []) (picture ways1 ((codes "a") ∷ [])) ways8 ∷ stands ((codes "b") ∷ []) (picture ways1 ((codes "b") ∷ [])) ways8 ∷ stands ((codes "c") ∷ []) (picture ways1 ((codes "c") ∷ [])) ways8 ∷ []
    ≡ true ∷ true ∷ false ∷ []
stays_18 = refl

-- kinds1: def g(x, acc=[]): ..
changes_22 : groups_of kinds1 ∷ changed empty kinds1 ∷ changed kinds1 empty ∷ []
    ≡ (((codes "g") ∷ []) ∷ []) ∷ [] ∷ (((codes "g") ∷ []) ∷ []) ∷ []
changes_22 = refl

-- kinds2: p = g(1)
changes_23 : groups_of kinds2 ∷ changed kinds1 kinds2 ∷ changed kinds2 kinds1 ∷ []
    ≡ (((codes "g") ∷ (codes "p") ∷ []) ∷ []) ∷ (((codes "g") ∷ []) ∷ []) ∷ (((codes "g") ∷ (codes "p") ∷ []) ∷ []) ∷ []
changes_23 = refl

stays_19 : stands ((codes "g") ∷ []) (picture kinds1 ((codes "g") ∷ [])) kinds2 ∷ []
    ≡ false ∷ []
stays_19 = refl

-- kinds3: p = 0
changes_24 : groups_of kinds3 ∷ changed kinds2 kinds3 ∷ changed kinds3 kinds2 ∷ []
    ≡ (((codes "g") ∷ []) ∷ ((codes "p") ∷ []) ∷ []) ∷ (((codes "g") ∷ (codes "p") ∷ []) ∷ []) ∷ (((codes "g") ∷ []) ∷ ((codes "p") ∷ []) ∷ []) ∷ []
changes_24 = refl

stays_20 : stands ((codes "g") ∷ (codes "p") ∷ []) (picture kinds2 ((codes "g") ∷ (codes "p") ∷ [])) kinds3 ∷ []
    ≡ false ∷ []
stays_20 = refl

-- kinds4: d = {1: 'a', (1, True): None}; t = (1, 2)
changes_25 : groups_of kinds4 ∷ changed kinds3 kinds4 ∷ changed kinds4 kinds3 ∷ []
    ≡ (((codes "d") ∷ []) ∷ ((codes "g") ∷ []) ∷ ((codes "p") ∷ []) ∷ ((codes "t") ∷ []) ∷ []) ∷ [] ∷ (((codes "d") ∷ []) ∷ ((codes "t") ∷ []) ∷ []) ∷ []
changes_25 = refl

stays_21 : stands ((codes "g") ∷ []) (picture kinds3 ((codes "g") ∷ [])) kinds4 ∷ stands ((codes "p") ∷ []) (picture kinds3 ((codes "p") ∷ [])) kinds4 ∷ []
    ≡ true ∷ true ∷ []
stays_21 = refl

-- kinds5: the same keys in the other order
changes_26 : groups_of kinds5 ∷ changed kinds4 kinds5 ∷ changed kinds5 kinds4 ∷ []
    ≡ (((codes "d") ∷ []) ∷ ((codes "g") ∷ []) ∷ ((codes "p") ∷ []) ∷ ((codes "t") ∷ []) ∷ []) ∷ (((codes "d") ∷ []) ∷ []) ∷ (((codes "d") ∷ []) ∷ []) ∷ []
changes_26 = refl

stays_22 : stands ((codes "d") ∷ []) (picture kinds4 ((codes "d") ∷ [])) kinds5 ∷ stands ((codes "g") ∷ []) (picture kinds4 ((codes "g") ∷ [])) kinds5 ∷ stands ((codes "p") ∷ []) (picture kinds4 ((codes "p") ∷ [])) kinds5 ∷ stands ((codes "t") ∷ []) (picture kinds4 ((codes "t") ∷ [])) kinds5 ∷ []
    ≡ false ∷ true ∷ true ∷ true ∷ []
stays_22 = refl

-- kinds6: d[1, True] = t
changes_27 : groups_of kinds6 ∷ changed kinds5 kinds6 ∷ changed kinds6 kinds5 ∷ []
    ≡ (((codes "d") ∷ (codes "t") ∷ []) ∷ ((codes "g") ∷ []) ∷ ((codes "p") ∷ []) ∷ []) ∷ (((codes "d") ∷ []) ∷ ((codes "t") ∷ []) ∷ []) ∷ (((codes "d") ∷ (codes "t") ∷ []) ∷ []) ∷ []
changes_27 = refl

stays_23 : stands ((codes "d") ∷ []) (picture kinds5 ((codes "d") ∷ [])) kinds6 ∷ stands ((codes "g") ∷ []) (picture kinds5 ((codes "g") ∷ [])) kinds6 ∷ stands ((codes "p") ∷ []) (picture kinds5 ((codes "p") ∷ [])) kinds6 ∷ stands ((codes "t") ∷ []) (picture kinds5 ((codes "t") ∷ [])) kinds6 ∷ []
    ≡ false ∷ true ∷ true ∷ false ∷ []
stays_23 = refl

-- kinds7: t = (1, 2), another one
changes_28 : groups_of kinds7 ∷ changed kinds6 kinds7 ∷ changed kinds7 kinds6 ∷ []
    ≡ (((codes "d") ∷ []) ∷ ((codes "g") ∷ []) ∷ ((codes "p") ∷ []) ∷ ((codes "t") ∷ []) ∷ []) ∷ (((codes "d") ∷ (codes "t") ∷ []) ∷ []) ∷ (((codes "d") ∷ []) ∷ ((codes "t") ∷ []) ∷ []) ∷ []
changes_28 = refl

stays_24 : stands ((codes "d") ∷ (codes "t") ∷ []) (picture kinds6 ((codes "d") ∷ (codes "t") ∷ [])) kinds7 ∷ stands ((codes "g") ∷ []) (picture kinds6 ((codes "g") ∷ [])) kinds7 ∷ stands ((codes "p") ∷ []) (picture kinds6 ((codes "p") ∷ [])) kinds7 ∷ []
    ≡ false ∷ true ∷ true ∷ []
stays_24 = refl

-- kinds8: e = ValueError(t); o = SimpleNamespace(t=t)
changes_29 : groups_of kinds8 ∷ changed kinds7 kinds8 ∷ changed kinds8 kinds7 ∷ []
    ≡ (((codes "d") ∷ []) ∷ ((codes "e") ∷ (codes "o") ∷ (codes "t") ∷ []) ∷ ((codes "g") ∷ []) ∷ ((codes "p") ∷ []) ∷ []) ∷ (((codes "t") ∷ []) ∷ []) ∷ (((codes "e") ∷ (codes "o") ∷ (codes "t") ∷ []) ∷ []) ∷ []
changes_29 = refl

stays_25 : stands ((codes "d") ∷ []) (picture kinds7 ((codes "d") ∷ [])) kinds8 ∷ stands ((codes "g") ∷ []) (picture kinds7 ((codes "g") ∷ [])) kinds8 ∷ stands ((codes "p") ∷ []) (picture kinds7 ((codes "p") ∷ [])) kinds8 ∷ stands ((codes "t") ∷ []) (picture kinds7 ((codes "t") ∷ [])) kinds8 ∷ []
    ≡ true ∷ true ∷ true ∷ false ∷ []
stays_25 = refl

-- kinds9: del o.t
changes_30 : groups_of kinds9 ∷ changed kinds8 kinds9 ∷ changed kinds9 kinds8 ∷ []
    ≡ (((codes "d") ∷ []) ∷ ((codes "e") ∷ (codes "t") ∷ []) ∷ ((codes "g") ∷ []) ∷ ((codes "o") ∷ []) ∷ ((codes "p") ∷ []) ∷ []) ∷ (((codes "e") ∷ (codes "o") ∷ (codes "t") ∷ []) ∷ []) ∷ (((codes "e") ∷ (codes "t") ∷ []) ∷ ((codes "o") ∷ []) ∷ []) ∷ []
changes_30 = refl

stays_26 : stands ((codes "d") ∷ []) (picture kinds8 ((codes "d") ∷ [])) kinds9 ∷ stands ((codes "e") ∷ (codes "o") ∷ (codes "t") ∷ []) (picture kinds8 ((codes "e") ∷ (codes "o") ∷ (codes "t") ∷ [])) kinds9 ∷ stands ((codes "g") ∷ []) (picture kinds8 ((codes "g") ∷ [])) kinds9 ∷ stands ((codes "p") ∷ []) (picture kinds8 ((codes "p") ∷ [])) kinds9 ∷ []
    ≡ true ∷ false ∷ true ∷ true ∷ []
stays_26 = refl

-- kinds10: def g(x): return x
changes_31 : groups_of kinds10 ∷ changed kinds9 kinds10 ∷ changed kinds10 kinds9 ∷ []
    ≡ (((codes "d") ∷ []) ∷ ((codes "e") ∷ (codes "t") ∷ []) ∷ ((codes "g") ∷ []) ∷ ((codes "o") ∷ []) ∷ ((codes "p") ∷ []) ∷ []) ∷ (((codes "g") ∷ []) ∷ []) ∷ (((codes "g") ∷ []) ∷ []) ∷ []
changes_31 = refl

stays_27 : stands ((codes "d") ∷ []) (picture kinds9 ((codes "d") ∷ [])) kinds10 ∷ stands ((codes "e") ∷ (codes "t") ∷ []) (picture kinds9 ((codes "e") ∷ (codes "t") ∷ [])) kinds10 ∷ stands ((codes "g") ∷ []) (picture kinds9 ((codes "g") ∷ [])) kinds10 ∷ stands ((codes "o") ∷ []) (picture kinds9 ((codes "o") ∷ [])) kinds10 ∷ stands ((codes "p") ∷ []) (picture kinds9 ((codes "p") ∷ [])) kinds10 ∷ []
    ≡ true ∷ true ∷ false ∷ true ∷ true ∷ []
stays_27 = refl
