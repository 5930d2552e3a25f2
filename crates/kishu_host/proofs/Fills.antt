-- The file whose unsynced ranges hold one byte.
use Rattle.std.proofs.Common.{◌≡◌, ◌≤◌, ◌<◌, ◌⊎◌, ℕ, ◌+◌, ◌-◌, Bool, true, false, ◌&&◌, ◌||◌, nat_le, nat_lt, List, [], ◌∷◌, ◌++◌, length, take, drop, get_or, slice_index, replicate, refl, inl, inr, ⊎_elim, sym, ◌∙◌, ap, subst, arith, length-append, length-take, length-drop}
use Rattle.std.proofs.lemmas.List.{get_or-take, get_or-drop, get_or-replicate, get_or_append_left, get_or-append_right, length-take-le, length-replicate, take_more, take-append-drop, drop-append-le, drop_all}
use Rattle.std.proofs.lemmas.Bool.Decides.{nat_tests}
use Rattle.std.proofs.lemmas.Bool.{or_parts}
use Rattle.std.proofs.lemmas.Grind.{same_number_lists}
use Rattle.kishu_host.specs.declared.tape.Entry.{Entry}
use Rattle.kishu_host.specs.declared.tape.Entry.TheVariants.{Write, Sync, Append}
use Rattle.kishu_host.specs.Host.{overwrite}
use Rattle.kishu_host.specs.Story.{Event, Wrote, Synced, Put, file_after, is_valid, torn_of}
use Rattle.kishu_host.specs.Laws.{length-overwrite}
use Rattle.kishu_host.specs.Crash.{Range, range, is_written, ranges_since, IsFilled, all_within}
use Rattle.kishu_host.specs.Tape.{history, write_total, unsynced, ranges_of, IsTape}

-- one place of a file after a write
pub overwrite-before : (at : ℕ) (bytes f : List ℕ) (i : ℕ) → at ≤ length f → i < at → slice_index (overwrite at bytes f) i ≡ slice_index f i
overwrite-before at bytes f i le lt =
    get_or_append_left (take at f ++ bytes) (drop (at + length bytes) f) 0 i (omega (arith, length-append (take at f) bytes, length-take-le at f le))
    ∙ get_or_append_left (take at f) bytes 0 i (omega (arith, length-take-le at f le))
    ∙ get_or-take at f i 0 lt

pub overwrite-inside : (at : ℕ) (bytes f : List ℕ) (i : ℕ) → at ≤ length f → at ≤ i → i < at + length bytes → slice_index (overwrite at bytes f) i ≡ slice_index bytes (i - at)
overwrite-inside at bytes f i le ge lt =
    get_or_append_left (take at f ++ bytes) (drop (at + length bytes) f) 0 i (omega (arith, length-append (take at f) bytes, length-take-le at f le))
    ∙ get_or-append_right (take at f) bytes at i 0 (length-take-le at f le) ge

pub overwrite-after : (at : ℕ) (bytes f : List ℕ) (i : ℕ) → at ≤ length f → at + length bytes ≤ i → slice_index (overwrite at bytes f) i ≡ slice_index f i
overwrite-after at bytes f i le ge =
    get_or-append_right (take at f ++ bytes) (drop (at + length bytes) f) (at + length bytes) i 0 (omega (arith, length-append (take at f) bytes, length-take-le at f le)) ge
    ∙ get_or-drop (at + length bytes) f (i - (at + length bytes)) 0
    ∙ ap (λ k. get_or f k 0) (omega (arith, ge))

pub overwrite-outside : (at : ℕ) (bytes f : List ℕ) (i : ℕ) → at ≤ length f → (nat_le at i && nat_lt i (at + length bytes)) ≡ false → slice_index (overwrite at bytes f) i ≡ slice_index f i
overwrite-outside at bytes f i le out =
    let cases : (i < at) ⊎ (at + length bytes ≤ i) = grind (arith, nat_tests) in
    ⊎_elim (λ lt. overwrite-before at bytes f i le lt) (λ ge. overwrite-after at bytes f i le ge) cases

fill-inside : (at n fill : ℕ) (f : List ℕ) (i : ℕ) → at ≤ length f → (nat_le at i && nat_lt i (at + n)) ≡ true → slice_index (overwrite at (replicate n fill) f) i ≡ fill
fill-inside at n fill f i le inside =
    let ge : at ≤ i = grind (arith, nat_tests) in
    let lt : i < at + n = grind (arith, nat_tests) in
    overwrite-inside at (replicate n fill) f i le ge (omega (arith, lt, length-replicate n fill)) ∙ get_or-replicate n (i - at) fill 0 (omega (arith, ge, lt))

fill-outside : (at n fill : ℕ) (f : List ℕ) (i : ℕ) → at ≤ length f → (nat_le at i && nat_lt i (at + n)) ≡ false → slice_index (overwrite at (replicate n fill) f) i ≡ slice_index f i
fill-outside at n fill f i le out =
    overwrite-outside at (replicate n fill) f i le (subst (λ m. (nat_le at i && nat_lt i (at + m)) ≡ false) (sym (length-replicate n fill)) out)

bool_cases : (b : Bool) → (b ≡ true) ⊎ (b ≡ false)
bool_cases true = inl refl
bool_cases false = inr refl

either : (a b : Bool) → (a || b) ≡ true → (a ≡ true) ⊎ ((a ≡ false) × (b ≡ true))
either true b is = inl refl
either false b is = inr (refl, is)

neither : (a b : Bool) → (a || b) ≡ false → (a ≡ false) × (b ≡ false)
neither a b is = or_parts a b is

-- no range is filled yet
pub filled-none : (fill : ℕ) (file : List ℕ) → IsFilled fill [] file file
filled-none fill file = record { len = refl; inside = λ i lt is. grind arith; outside = λ i lt is. refl }

-- one range more is filled
pub filled-more : (fill : ℕ) (rs : List Range) (at n : ℕ) (file t : List ℕ) → IsFilled fill rs file t → at + n ≤ length file
    → IsFilled fill (range at n ∷ rs) file (overwrite at (replicate n fill) t)
filled-more fill rs at n file t f le =
    let within : at ≤ length t = omega (arith, le, f.len) in
    record {
      len = omega (arith, length-overwrite at (replicate n fill) t within, length-replicate n fill, f.len, le);
      inside = λ i lt is. ⊎_elim (λ here. fill-inside at n fill t i within here) (λ there. fill-outside at n fill t i within there.0 ∙ f.inside i lt there.1) (either (nat_le at i && nat_lt i (at + n)) (is_written i rs) is);
      outside = λ i lt is. let out = neither (nat_le at i && nat_lt i (at + n)) (is_written i rs) is in fill-outside at n fill t i within out.0 ∙ f.outside i lt out.1;
    }

-- There is one such file.
pub filled-one : (fill : ℕ) (rs : List Range) (file s t : List ℕ) → IsFilled fill rs file s → IsFilled fill rs file t → s ≡ t
filled-one fill rs file s t f g =
    same_number_lists s t (f.len ∙ sym g.len)
    (λ k lt. let low : k < length file = omega (arith, lt, f.len) in
    ⊎_elim (λ is. f.inside k low is ∙ sym (g.inside k low is)) (λ is. f.outside k low is ∙ sym (g.outside k low is)) (bool_cases (is_written k rs)))

module _ (fill : ℕ) (first : List ℕ) where
  -- the torn file is the one that reads give, filled
  pub torn_of-filled : (es : List Event) → is_valid first es ≡ true → IsFilled fill (ranges_since es) (file_after first es) (torn_of fill first es)
  torn_of-filled [] valid = filled-none fill first
  torn_of-filled (Wrote at bytes ∷ es) valid =
      let le : at ≤ length (file_after first es) = grind (arith, nat_tests) in
      let rest : is_valid first es ≡ true = grind (arith, nat_tests) in
      let f = torn_of-filled es rest in
      let n = length bytes in
      let t = torn_of fill first es in
      let file = file_after first es in
      let rs = ranges_since es in
      let within : at ≤ length t = omega (arith, le, f.len) in
      let longer = length-overwrite at bytes file le in
      record {
        len = omega (arith, length-overwrite at (replicate n fill) t within, length-replicate n fill, f.len, longer);
        inside = λ i lt is. ⊎_elim (λ here. fill-inside at n fill t i within here)
            (λ there. let low : i < length file = grind (arith, nat_tests, longer, lt, there.0) in fill-outside at n fill t i within there.0 ∙ f.inside i low there.1)
            (either (nat_le at i && nat_lt i (at + n)) (is_written i rs) is);
        outside = λ i lt is.
            let out = neither (nat_le at i && nat_lt i (at + n)) (is_written i rs) is in
            let low : i < length file = grind (arith, nat_tests, longer, lt, out.0) in
            fill-outside at n fill t i within out.0 ∙ f.outside i low out.1 ∙ sym (overwrite-outside at bytes file i le out.0);
      }
  torn_of-filled (Synced ∷ es) valid = filled-none fill (file_after first es)
  torn_of-filled (Put bytes ∷ es) valid = torn_of-filled es valid

-- a range stays within a file that grows
within-longer : (m n : ℕ) (rs : List Range) → m ≤ n → all_within m rs ≡ true → all_within n rs ≡ true
within-longer m n [] le within = refl
within-longer m n (r ∷ rs) le within =
    let rest : all_within m rs ≡ true = grind (arith, nat_tests) in
    let here : r.from + r.count ≤ m = grind (arith, nat_tests) in
    grind (arith, nat_tests, within-longer m n rs le rest, here)

-- each range that was written lies within the file
pub since-within : (first : List ℕ) (es : List Event) → is_valid first es ≡ true → all_within (length (file_after first es)) (ranges_since es) ≡ true
since-within first [] valid = refl
since-within first (Wrote at bytes ∷ es) valid =
    let le : at ≤ length (file_after first es) = grind (arith, nat_tests) in
    let rest : is_valid first es ≡ true = grind (arith, nat_tests) in
    let longer = length-overwrite at bytes (file_after first es) le in
    let old = within-longer (length (file_after first es)) (length (overwrite at bytes (file_after first es))) (ranges_since es) (omega (arith, longer)) (since-within first es rest) in
    grind (arith, nat_tests, longer, old)
since-within first (Synced ∷ es) valid = refl
since-within first (Put bytes ∷ es) valid = since-within first es valid

-- The events have the ranges of the entries.
pub history-ranges : (es : List Entry) (w o : List ℕ) (earlier : List Event) → write_total es ≤ length w → ranges_since (history es w o earlier) ≡ unsynced es (ranges_since earlier)
history-ranges [] w o earlier le = refl
history-ranges (Write at n ∷ es) w o earlier le =
    let short : length (take n w) ≡ n = length-take-le n w (omega arith) in
    history-ranges es (drop n w) o (Wrote at (take n w) ∷ earlier) (omega (arith, length-drop n w)) ∙ ap (λ m. unsynced es (range at m ∷ ranges_since earlier)) short
history-ranges (Sync ∷ es) w o earlier le = history-ranges es w o (Synced ∷ earlier) le
history-ranges (Append n ∷ es) w o earlier le = history-ranges es w (drop n o) (Put (take n o) ∷ earlier) le

-- some entries more
unsynced-join : (es fs : List Entry) (rs : List Range) → unsynced (es ++ fs) rs ≡ unsynced fs (unsynced es rs)
unsynced-join [] fs rs = refl
unsynced-join (Write a m ∷ es) fs rs = unsynced-join es fs (range a m ∷ rs)
unsynced-join (Sync ∷ es) fs rs = unsynced-join es fs []
unsynced-join (Append m ∷ es) fs rs = unsynced-join es fs rs

ranges_of-join : (es fs : List Entry) (rs : List Range) → ranges_of (es ++ fs) rs ≡ ranges_of fs (ranges_of es rs)
ranges_of-join [] fs rs = refl
ranges_of-join (Write a m ∷ es) fs rs = ranges_of-join es fs (range a m ∷ rs)
ranges_of-join (Sync ∷ es) fs rs = ranges_of-join es fs rs
ranges_of-join (Append m ∷ es) fs rs = ranges_of-join es fs rs

no_range : (e : Entry) (rs : List Range) → ((a n : ℕ) → e ≡ Write a n → ⊥) → ranges_of (e ∷ []) rs ≡ rs
no_range (Write a n) rs other = absurd (other a n refl)
no_range Sync rs other = refl
no_range (Append n) rs other = refl

same_range : (e : Entry) (rs : List Range) → (e ≡ Sync → ⊥) → unsynced (e ∷ []) rs ≡ ranges_of (e ∷ []) rs
same_range (Write a n) rs other = refl
same_range Sync rs other = absurd (other refl)
same_range (Append n) rs other = refl

-- the ranges of the writes among the first entries, one entry on
module _ (es : List Entry) (i : ℕ) (lt : i < length es) where
  more-unsynced : unsynced (take (i + 1) es) [] ≡ unsynced (get_or es i (Write 0 0) ∷ []) (unsynced (take i es) [])
  more-unsynced = ap (λ (l : List Entry). unsynced l []) (take_more es i (Write 0 0) lt) ∙ unsynced-join (take i es) (get_or es i (Write 0 0) ∷ []) []

  more-ranges : ranges_of (take (i + 1) es) [] ≡ ranges_of (get_or es i (Write 0 0) ∷ []) (ranges_of (take i es) [])
  more-ranges = ap (λ (l : List Entry). ranges_of l []) (take_more es i (Write 0 0) lt) ∙ ranges_of-join (take i es) (get_or es i (Write 0 0) ∷ []) []

  pub ranges_of-write : (a n : ℕ) → get_or es i (Write 0 0) ≡ Write a n → ranges_of (take (i + 1) es) [] ≡ range a n ∷ ranges_of (take i es) []
  ranges_of-write a n is = more-ranges ∙ ap (λ (e : Entry). ranges_of (e ∷ []) (ranges_of (take i es) [])) is

  pub ranges_of-other : ((a n : ℕ) → get_or es i (Write 0 0) ≡ Write a n → ⊥) → ranges_of (take (i + 1) es) [] ≡ ranges_of (take i es) []
  ranges_of-other other = more-ranges ∙ no_range (get_or es i (Write 0 0)) (ranges_of (take i es) []) other

  pub since-sync : (start : ℕ) → start ≡ i + 1 → get_or es i (Write 0 0) ≡ Sync → unsynced (take (i + 1) es) [] ≡ ranges_of (drop start (take (i + 1) es)) []
  since-sync start is sync =
      more-unsynced ∙ ap (λ (e : Entry). unsynced (e ∷ []) (unsynced (take i es) [])) sync
      ∙ sym (ap (λ (l : List Entry). ranges_of l []) (drop_all start (take (i + 1) es) (omega (arith, is, length-take (i + 1) es))))

  pub since-other : (start : ℕ) → start ≤ i → (get_or es i (Write 0 0) ≡ Sync → ⊥) → unsynced (take i es) [] ≡ ranges_of (drop start (take i es)) []
      → unsynced (take (i + 1) es) [] ≡ ranges_of (drop start (take (i + 1) es)) []
  since-other start le other same =
      let e = get_or es i (Write 0 0) in
      let cut : drop start (take (i + 1) es) ≡ drop start (take i es) ++ e ∷ [] =
      ap (λ (l : List Entry). drop start l) (take_more es i (Write 0 0) lt) ∙ drop-append-le start (take i es) (e ∷ []) (omega (arith, le, lt, length-take i es)) in
      more-unsynced ∙ same_range e (unsynced (take i es) []) other ∙ ap (λ (rs : List Range). ranges_of (e ∷ []) rs) same
      ∙ sym (ap (λ (l : List Entry). ranges_of l []) cut ∙ ranges_of-join (drop start (take i es)) (e ∷ []) [])

all_within-earlier : (n : ℕ) (es : List Entry) (rs : List Range) → all_within n (ranges_of es rs) ≡ true → all_within n rs ≡ true
all_within-earlier n [] rs within = within
all_within-earlier n (Write a m ∷ es) rs within =
    let more : all_within n (range a m ∷ rs) ≡ true = all_within-earlier n es (range a m ∷ rs) within in grind (arith, nat_tests)
all_within-earlier n (Sync ∷ es) rs within = all_within-earlier n es rs within
all_within-earlier n (Append m ∷ es) rs within = all_within-earlier n es rs within

-- each write lies within a file in which all ranges lie
pub write-within : (n : ℕ) (es : List Entry) (i a m : ℕ) → all_within n (ranges_of es []) ≡ true → i < length es → get_or es i (Write 0 0) ≡ Write a m → a + m ≤ n
write-within n es i a m within lt is =
    let cut : ranges_of es [] ≡ ranges_of (drop (i + 1) es) (ranges_of (take (i + 1) es) []) =
    ap (λ (l : List Entry). ranges_of l []) (sym (take-append-drop (i + 1) es)) ∙ ranges_of-join (take (i + 1) es) (drop (i + 1) es) [] in
    let all : all_within n (ranges_of (drop (i + 1) es) (ranges_of (take (i + 1) es) [])) ≡ true = sym (ap (λ (rs : List Range). all_within n rs) cut) ∙ within in
    let here : all_within n (range a m ∷ ranges_of (take i es) []) ≡ true =
    sym (ap (λ (rs : List Range). all_within n rs) (ranges_of-write es i lt a m is)) ∙ all_within-earlier n (drop (i + 1) es) (ranges_of (take (i + 1) es) []) all in
    grind (arith, nat_tests)

-- what a tape keeps is enough to make the torn file
module _ (first file out written : List ℕ) (entries : List Entry) (t : IsTape first file out written entries) (valid : is_valid first (history entries written out []) ≡ true) where
  same-ranges : ranges_since (history entries written out []) ≡ unsynced entries []
  same-ranges = history-ranges entries written out [] (omega (arith, t.writes))

  pub tape-within : all_within (length file) (unsynced entries []) ≡ true
  tape-within =
      ap (λ (f : List ℕ). all_within (length f) (unsynced entries [])) t.file_is
      ∙ ap (λ (rs : List Range). all_within (length (file_after first (history entries written out []))) rs) (sym same-ranges)
      ∙ since-within first (history entries written out []) valid

  pub tape-torn : (fill : ℕ) (x : List ℕ) → IsFilled fill (unsynced entries []) file x → x ≡ torn_of fill first (history entries written out [])
  tape-torn fill x f =
      filled-one fill (ranges_since (history entries written out [])) (file_after first (history entries written out [])) x (torn_of fill first (history entries written out []))
      (subst (λ (g : List ℕ). IsFilled fill (ranges_since (history entries written out [])) g x) t.file_is
      (subst (λ (rs : List Range). IsFilled fill rs file x) (sym same-ranges) f))
      (torn_of-filled fill first (history entries written out []) valid)
