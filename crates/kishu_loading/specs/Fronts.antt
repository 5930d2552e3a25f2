-- What the calls that read bytes from the front answer.
use Rattle.std.specs.Prelude.{◌≡◌, ℕ, ◌+◌, ◌<◌, ◌≤◌, ◌^◌, List, length, Result, Ok, Err, OnOk}
use Rattle.std.specs.Rc.{rc_str_bytes}
use Rattle.std.specs.Str.{chars}
use Rattle.std.specs.declared.alloc.Global.{Global}
use Rattle.std.specs.declared.rc.RcStr.{RcStr}
use Rattle.kishu_reading.specs.FromBytes.{Front, Reading, Reader}
use Rattle.kishu_loading.specs.declared.cursor.Cursor.{Cursor}
use Rattle.kishu_loading.specs.declared.cursor.Stop.{Stop}
use Rattle.kishu_loading.specs.declared.cursor.Stop.TheVariants as stop

-- where a cursor stands
abbrev pub front_of : Cursor → Front
front_of c = record { rest = c.rest.now; met = c.met }

-- The reader finds the fault too; want of memory says nothing.
abbrev pub Fails : {A : Type 0} → Reading A → Stop → Type 0
Fails outcome (stop.Fault left) = outcome ≡ Err left
Fails outcome stop.NoMemory = Unit {0}

-- What a call answers stands for what the reader gives, and the cursor stands where the reader does.
abbrev pub Gives : {X A : Type 0} → (X → A) → Reading A → Result X Stop → Front → Type 0
Gives view outcome (Ok x) new = outcome ≡ Ok (view x, new)
Gives view outcome (Err e) new = Fails outcome e

-- The same of a reader, from where a cursor stood to where it stands.
abbrev pub Reads : {X A : Type 0} → (X → A) → Reader A → Cursor → Result X Stop → Cursor → Type 0
Reads view p old result new = Gives view (p (front_of old)) result (front_of new)

-- Bytes were taken, of which those that met a node were at least as many as the nodes.
abbrev pub Forward : Front → Front → Type 0
Forward old new = (old.met ≤ new.met) × (new.met + length new.rest ≤ old.met + length old.rest)

-- the same of cursors, where a call read something
abbrev pub GoesOn : {X : Type 0} → Cursor → Result X Stop → Cursor → Type 0
GoesOn old result new = OnOk result (Forward (front_of old) (front_of new))

-- The nodes that there may be, those that are met and those that may be met yet, have numbers behind so many.
abbrev pub HasRoom : ℕ → Front → Type 0
HasRoom base s = base + (s.met + length s.rest) + 1 < 2 ^ 32

abbrev pub same : {A : Type 0} → A → A
same a = a

-- the code points of a text
abbrev pub chars_of : RcStr Global → List ℕ
chars_of x = chars (rc_str_bytes x)
