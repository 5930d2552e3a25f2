-- One entry more, and the story that a tape keeps.
use Rattle.std.proofs.Common.{◌≡◌, ◌≤◌, ◌+◌, ℕ, List, [], ◌∷◌, ◌++◌, length, take, drop, refl, sym, ◌∙◌, ap, arith, length-append, length-drop}
use Rattle.std.proofs.lemmas.List.{take_all, take-append-le, drop-append-le}
use Rattle.kishu_host.specs.declared.tape.Entry.{Entry}
use Rattle.kishu_host.specs.declared.tape.Entry.TheVariants.{Write, Sync, Append}
use Rattle.kishu_host.specs.Host.{overwrite}
use Rattle.kishu_host.specs.Story.{Event, Wrote, Synced, Put, file_after, out_after, all_written}
use Rattle.kishu_host.specs.Tape.{history, write_total, put_total, IsTape}

pub history-sync : (es : List Entry) (w o : List ℕ) (earlier : List Event) → history (es ++ Sync ∷ []) w o earlier ≡ Synced ∷ history es w o earlier
history-sync [] w o earlier = refl
history-sync (Write at n ∷ es) w o earlier = history-sync es (drop n w) o (Wrote at (take n w) ∷ earlier)
history-sync (Sync ∷ es) w o earlier = history-sync es w o (Synced ∷ earlier)
history-sync (Append n ∷ es) w o earlier = history-sync es w (drop n o) (Put (take n o) ∷ earlier)

pub history-write : (es : List Entry) (w o : List ℕ) (earlier : List Event) (at : ℕ) (bytes : List ℕ) → write_total es ≡ length w
    → history (es ++ Write at (length bytes) ∷ []) (w ++ bytes) o earlier ≡ Wrote at bytes ∷ history es w o earlier
history-write [] [] o earlier at bytes total = ap (λ (b : List ℕ). Wrote at b ∷ earlier) (take_all _ bytes (omega arith))
history-write [] (x ∷ w) o earlier at bytes total = absurd (omega arith)
history-write (Write a n ∷ es) w o earlier at bytes total =
    let within : n ≤ length w = omega arith in
    ap (λ (u : List ℕ). history (es ++ Write at (length bytes) ∷ []) u o (Wrote a (take n (w ++ bytes)) ∷ earlier)) (drop-append-le n w bytes within)
    ∙ ap (λ (b : List ℕ). history (es ++ Write at (length bytes) ∷ []) (drop n w ++ bytes) o (Wrote a b ∷ earlier)) (take-append-le n w bytes within)
    ∙ history-write es (drop n w) o (Wrote a (take n w) ∷ earlier) at bytes (omega (arith, length-drop n w))
history-write (Sync ∷ es) w o earlier at bytes total = history-write es w o (Synced ∷ earlier) at bytes total
history-write (Append n ∷ es) w o earlier at bytes total = history-write es w (drop n o) (Put (take n o) ∷ earlier) at bytes total

pub history-put : (es : List Entry) (w o : List ℕ) (earlier : List Event) (bytes : List ℕ) → put_total es ≡ length o
    → history (es ++ Append (length bytes) ∷ []) w (o ++ bytes) earlier ≡ Put bytes ∷ history es w o earlier
history-put [] w [] earlier bytes total = ap (λ (b : List ℕ). Put b ∷ earlier) (take_all _ bytes (omega arith))
history-put [] w (x ∷ o) earlier bytes total = absurd (omega arith)
history-put (Append n ∷ es) w o earlier bytes total =
    let within : n ≤ length o = omega arith in
    ap (λ (u : List ℕ). history (es ++ Append (length bytes) ∷ []) w u (Put (take n (o ++ bytes)) ∷ earlier)) (drop-append-le n o bytes within)
    ∙ ap (λ (b : List ℕ). history (es ++ Append (length bytes) ∷ []) w (drop n o ++ bytes) (Put b ∷ earlier)) (take-append-le n o bytes within)
    ∙ history-put es w (drop n o) (Put (take n o) ∷ earlier) bytes (omega (arith, length-drop n o))
history-put (Sync ∷ es) w o earlier bytes total = history-put es w o (Synced ∷ earlier) bytes total
history-put (Write a n ∷ es) w o earlier bytes total = history-put es (drop n w) o (Wrote a (take n w) ∷ earlier) bytes total

write_total-push : (es : List Entry) (e : Entry) → write_total (es ++ e ∷ []) ≡ write_total es + write_total (e ∷ [])
write_total-push [] e = omega arith
write_total-push (Write a n ∷ es) e = omega (arith, write_total-push es e)
write_total-push (Sync ∷ es) e = write_total-push es e
write_total-push (Append n ∷ es) e = write_total-push es e

put_total-push : (es : List Entry) (e : Entry) → put_total (es ++ e ∷ []) ≡ put_total es + put_total (e ∷ [])
put_total-push [] e = omega arith
put_total-push (Write a n ∷ es) e = put_total-push es e
put_total-push (Sync ∷ es) e = put_total-push es e
put_total-push (Append n ∷ es) e = omega (arith, put_total-push es e)

module _ (first file out written : List ℕ) (entries : List Entry) (t : IsTape first file out written entries) where
  pub tape-sync : IsTape first file out written (entries ++ Sync ∷ [])
  tape-sync =
      let e = history-sync entries written out [] in
      record {
        file_is = t.file_is ∙ ap (file_after first) (sym e);
        out_is = t.out_is ∙ ap out_after (sym e);
        written_is = t.written_is ∙ ap all_written (sym e);
        count = omega (arith, ap length e, t.count, length-append entries (Sync ∷ []));
        writes = omega (arith, write_total-push entries Sync, t.writes);
        puts = omega (arith, put_total-push entries Sync, t.puts);
      }

  pub tape-write : (at : ℕ) (bytes : List ℕ) → IsTape first (overwrite at bytes file) out (written ++ bytes) (entries ++ Write at (length bytes) ∷ [])
  tape-write at bytes =
      let e = history-write entries written out [] at bytes t.writes in
      record {
        file_is = ap (overwrite at bytes) t.file_is ∙ ap (file_after first) (sym e);
        out_is = t.out_is ∙ ap out_after (sym e);
        written_is = ap (λ (l : List ℕ). l ++ bytes) t.written_is ∙ ap all_written (sym e);
        count = omega (arith, ap length e, t.count, length-append entries (Write at (length bytes) ∷ []));
        writes = omega (arith, write_total-push entries (Write at (length bytes)), t.writes, length-append written bytes);
        puts = omega (arith, put_total-push entries (Write at (length bytes)), t.puts);
      }

  pub tape-put : (bytes : List ℕ) → IsTape first file (out ++ bytes) written (entries ++ Append (length bytes) ∷ [])
  tape-put bytes =
      let e = history-put entries written out [] bytes t.puts in
      record {
        file_is = t.file_is ∙ ap (file_after first) (sym e);
        out_is = ap (λ (l : List ℕ). l ++ bytes) t.out_is ∙ ap out_after (sym e);
        written_is = t.written_is ∙ ap all_written (sym e);
        count = omega (arith, ap length e, t.count, length-append entries (Append (length bytes) ∷ []));
        writes = omega (arith, write_total-push entries (Append (length bytes)), t.writes);
        puts = omega (arith, put_total-push entries (Append (length bytes)), t.puts, length-append out bytes);
      }
