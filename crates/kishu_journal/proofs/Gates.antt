-- What stands at a gate, by what was read there.
use Rattle.std.proofs.Common.{◌≡◌, ◌<◌, ◌≤◌, ℕ, ◌+◌, ◌-◌, List, ◌∷◌, ◌++◌, length, take, drop, get_or, refl, sym, ◌∙◌, ap, arith, length-append, length-drop, append_assoc, take-append-drop}
use Rattle.std.specs.Int.{w64, to_be_bytes, from_be_bytes}
use Rattle.std.proofs.lemmas.List.{take_at, drop_more, drop-drop, get_or-take, get_or-drop, length-take-le}
use Rattle.std.proofs.lemmas.Nat.{from_be_bytes-to_be_bytes_8}
use Rattle.kishu_store.specs.Entries.{Record}
use Rattle.kishu_store.specs.EntryBytes.{body_of}
use Rattle.kishu_store.specs.Histories.{History}
use Rattle.kishu_store.specs.Limits.{longest_body}
use Rattle.kishu_store.specs.Holds.{open_gate, framed, BeginsRecord}
use Rattle.kishu_store_laws.specs.Laws.{length-framed, framed-unique}
use Rattle.kishu_journal.specs.Found.{BeginsBody}

module _ (file : List ℕ) (at : ℕ) where
  pub gate_is : (into : List ℕ) (g : ℕ) → into ≡ take 1 (drop at file) → get_or into 0 0 ≡ g → 1 ≤ length file - at → drop at file ≡ g ∷ drop (at + 1) file
  gate_is into g is here room =
      let place : get_or file (at + 0) 0 ≡ get_or file at 0 = grind arith in
      let there : get_or file at 0 ≡ g =
      sym place ∙ sym (get_or-drop at file 0 0) ∙ sym (get_or-take 1 (drop at file) 0 0 (omega arith)) ∙ sym (ap (λ (l : List ℕ). get_or l 0 0) is) ∙ here in
      drop_more file at 0 (omega arith) ∙ ap (λ (x : ℕ). x ∷ drop (at + 1) file) there

  -- how long the file is that has a body there
  room_is : (body : List ℕ) (b : BeginsBody (open_gate ∷ drop (at + 1) file) body) → 10 + length body ≤ length file - at
  room_is body b = omega (arith, ap length b.1, length-append (framed body) b.0, length-framed body, length-drop (at + 1) file, b.2)

  pub no_room : length file - at < 10 → (body : List ℕ) → BeginsBody (open_gate ∷ drop (at + 1) file) body → ⊥
  no_room few body b = omega (arith, room_is body b, few)

  module _ (eight : List ℕ) (size : ℕ) (read : eight ≡ take 8 (drop (at + 1) file)) (spelt : size ≡ from_be_bytes w64 eight) where
    size_is : (body : List ℕ) → BeginsBody (open_gate ∷ drop (at + 1) file) body → size ≡ length body
    unfolding framed
    size_is body b =
        let number = to_be_bytes w64 (length body) in
        let rest : drop (at + 1) file ≡ framed body ++ b.0 = cc (b.1) in
        let first : eight ≡ number = read ∙ ap (λ (l : List ℕ). take 8 l) (rest ∙ append_assoc number body b.0) ∙ take_at number (body ++ b.0) 8 refl in
        spelt ∙ ap (λ (l : List ℕ). from_be_bytes w64 l) first ∙ from_be_bytes-to_be_bytes_8 (length body) (omega (arith, b.3))

    pub too_long : longest_body < size → (body : List ℕ) → BeginsBody (open_gate ∷ drop (at + 1) file) body → ⊥
    too_long long body b = omega (arith, size_is body b, b.3, long)

    pub past_end : length file - at - 10 < size → (body : List ℕ) → BeginsBody (open_gate ∷ drop (at + 1) file) body → ⊥
    past_end long body b = omega (arith, size_is body b, room_is body b, long)

    pub begins : (body : List ℕ) → drop at file ≡ open_gate ∷ drop (at + 1) file → to_be_bytes w64 size ≡ eight → size ≤ longest_body → size + 10 ≤ length file - at
        → body ≡ take size (drop (at + 9) file) → BeginsBody (drop at file) body
    unfolding framed
    begins body gate back small room is =
        let behind = drop (at + 9) file in
        let rest = drop size behind in
        let long : length body ≡ size = ap length is ∙ length-take-le size behind (omega (arith, length-drop (at + 9) file, room)) in
        let number : take 8 (drop (at + 1) file) ≡ to_be_bytes w64 (length body) = sym read ∙ sym back ∙ ap (λ (n : ℕ). to_be_bytes w64 n) (sym long) in
        let nine : at + 1 + 8 ≡ at + 9 = omega arith in
        let tail : drop 8 (drop (at + 1) file) ≡ body ++ rest =
        drop-drop 8 (at + 1) file ∙ ap (λ (n : ℕ). drop n file) nine ∙ sym (take-append-drop size behind) ∙ ap (λ (l : List ℕ). l ++ rest) (sym is) in
        let whole : drop (at + 1) file ≡ framed body ++ rest =
        sym (take-append-drop 8 (drop (at + 1) file))
        ∙ ap (λ (l : List ℕ). l ++ drop 8 (drop (at + 1) file)) number
        ∙ ap (λ (l : List ℕ). to_be_bytes w64 (length body) ++ l) tail
        ∙ sym (append_assoc (to_be_bytes w64 (length body)) body rest) in (
          rest,
          gate ∙ ap (λ (l : List ℕ). open_gate ∷ l) whole,
          omega (arith, length-drop size behind, length-drop (at + 9) file, room),
          omega (arith, long, small),
        )

-- a record is a body
pub body_there : (bytes : List ℕ) (h : History) (r : Record) → BeginsRecord bytes h r → BeginsBody bytes (body_of r)
body_there bytes h r b = (b.0, b.1, b.2, b.3.small)

-- one body stands there
pub one_body : (bytes a b : List ℕ) → BeginsBody bytes a → BeginsBody bytes b → a ≡ b
one_body bytes a b p q =
    let same : framed a ++ p.0 ≡ framed b ++ q.0 = cc (p.1, q.1) in
    (framed-unique a b p.0 q.0 p.3 q.3 same).0
