-- What the opening of a store finds: what its records say, and the places of their bodies.
use Rattle.std.specs.Prelude.{◌≡◌, ◌≢◌, ◌<◌, ◌≤◌, ℕ, ◌+◌, List, [], ◌∷◌, ◌++◌, length, take, drop, map}
use Rattle.kishu_bytes.specs.Numbers.{four}
use Rattle.kishu_record.specs.declared.entry.Entry as program
use Rattle.kishu_record.specs.Entries.{entry_of}
use Rattle.kishu_store.specs.Entries.{Entry, Record}
use Rattle.kishu_store.specs.EntryBytes.{body_of}
use Rattle.kishu_store.specs.Histories.{History, Follows, led, led_at, new_history}
use Rattle.kishu_store.specs.Holds.{open_gate, framed, end_of, BeginsRecord}
use Rattle.kishu_store.specs.Limits.{longest_body}
use Rattle.kishu_store.specs.Rules.{IsRecord}
use Rattle.kishu_journal.specs.Stands.{with_record}

-- what was found, without the places
abbrev pub entries_of : List (ℕ × program.Entry) → List Entry
entries_of found = map (λ p. entry_of p.1) found

-- between a gate and the body of the record behind it: the gate and eight bytes
abbrev pub before_body : ℕ
before_body = 9

-- and up to its head: four bytes more
abbrev pub before_head : ℕ
before_head = 13

-- Behind the records before, these say what was found, each at the place of its body.
abbrev pub ArePlaced : List Record → List (ℕ × program.Entry) → List Record → Type 0
ArePlaced before [] [] = Unit {0}
ArePlaced before [] (r ∷ rs) = ⊥
ArePlaced before (p ∷ ps) [] = ⊥
ArePlaced before (p ∷ ps) (r ∷ rs) = (r.entry ≡ entry_of p.1) × (p.0 ≡ end_of before + before_body) × ArePlaced (with_record before r) ps rs

-- all places are below this
abbrev pub AreBelow : ℕ → List (ℕ × program.Entry) → Type 0
AreBelow most [] = Unit {0}
AreBelow most (p ∷ ps) = (p.0 < most) × AreBelow most ps

-- each entry fits behind those before it
abbrev pub AllFit : History → List Entry → Type 0
AllFit h [] = Unit {0}
AllFit h (e ∷ es) = Follows h e × AllFit (led h e) es

-- the history of what was found, each at the place that is told of it
abbrev pub led_on : History → List (ℕ × program.Entry) → History
led_on h [] = h
led_on h (p ∷ ps) = led_on (led_at p.0 h (entry_of p.1)) ps

abbrev pub history_at : List (ℕ × program.Entry) → History
history_at found = led_on new_history found

-- a record that says this and has these pictures
abbrev pub with_pictures : Entry → List (List ℕ) → Record
with_pictures e ps = record { entry = e; pictures = ps }

-- ---- what stands at a gate

-- an open gate: a whole body, and a byte behind it
abbrev pub BeginsBody : List ℕ → List ℕ → Type 0
BeginsBody bytes body = (rest : List ℕ) × (bytes ≡ open_gate ∷ (framed body ++ rest)) × (0 < length rest) × (length body ≤ longest_body)

-- the body of that length behind the gate at a place
abbrev pub body_at : List ℕ → ℕ → ℕ → List ℕ
body_at file at size = take size (drop (at + before_body) file)

-- an open gate: a whole body with this head, and with so many bytes of pictures
abbrev pub BeginsHead : List ℕ → List ℕ → ℕ → Type 0
BeginsHead bytes head size = (pictures : List ℕ) × (length pictures ≡ size) × BeginsBody bytes (four (length head) ++ (head ++ pictures))

-- the gate there is closed
pub record IsShut (file : List ℕ) (at : ℕ) : Type 0 where
  pub gate : ℕ
  pub rest : List ℕ
  pub split : drop at file ≡ gate ∷ rest
  pub closed : gate ≢ open_gate

-- the gate there is open, and no whole record stands behind it
pub record HasNoBody (file : List ℕ) (at : ℕ) : Type 0 where
  pub rest : List ℕ
  pub split : drop at file ≡ open_gate ∷ rest
  pub none : (r : Record) → IsRecord r → BeginsBody (open_gate ∷ rest) (body_of r) → ⊥

-- the gate there is open, and no whole record that fits behind those of this history stands behind it
pub record HasNoRecord (file : List ℕ) (at : ℕ) (h : History) : Type 0 where
  pub rest : List ℕ
  pub split : drop at file ≡ open_gate ∷ rest
  pub none : (r : Record) → BeginsRecord (open_gate ∷ rest) h r → ⊥
