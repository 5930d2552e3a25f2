-- What the names of a function in progress stand for, and when a run's values are sound.
use Rattle.std.specs.Prelude.{ℕ, Bool, true, false, ◌&&◌, List, length, Option, Some, None}
use Rattle.kishu_language.specs.tokens.Names.{is_among}
use Rattle.kishu_meaning.specs.moments.Accesses.{unbind}
use Rattle.kishu_meaning.specs.values.Values.{Node, Names, Value, find, bind}
use Rattle.kishu_meaning.specs.values.Sound.{is_sound, are_sound_names}
use Rattle.kishu_meaning.specs.moments.Moment.{Locals}
pub use Rattle.kishu_names.specs.Namespace.{names_of}
pub use Rattle.kishu_names.specs.Record.{texts_of}
use Rattle.kishu_machine.specs.declared.frame.Frame.{Frame}

abbrev pub frame_of : Frame → Locals
frame_of f = record { own = texts_of f.own.items; values = names_of f.values.entries }

abbrev pub locals_of : Option Frame → Option Locals
locals_of None = None
locals_of (Some f) = Some (frame_of f)

-- whether a name is one of the function in progress
abbrev pub is_own : List ℕ → Option Locals → Bool
is_own x None = false
is_own x (Some here) = is_among x here.own

-- the value of such a name, these with one of them bound, and with one of them not bound
abbrev pub own_value : List ℕ → Option Locals → Option Value
own_value x None = None
own_value x (Some here) = find x here.values

abbrev pub own_bound : List ℕ → Value → Option Locals → Option Locals
own_bound x v None = None
own_bound x v (Some here) = Some (record here { values = bind x v here.values })

abbrev pub own_unbound : List ℕ → Option Locals → Option Locals
own_unbound x None = None
own_unbound x (Some here) = Some (record here { values = unbind x here.values })

-- ---- what is sound among n nodes

abbrev pub is_sound_frame : ℕ → Locals → Bool
is_sound_frame n f = are_sound_names n f.values

abbrev pub is_sound_locals : ℕ → Option Locals → Bool
is_sound_locals n None = true
is_sound_locals n (Some f) = is_sound_frame n f

abbrev pub is_sound_handled : ℕ → Option Value → Bool
is_sound_handled n None = true
is_sound_handled n (Some v) = is_sound n v

-- the values of names, of locals and of the exception that is handled
abbrev pub is_sound_run : List Node → Names → Option Locals → Option Value → Bool
is_sound_run nodes names locals handled = are_sound_names (length nodes) names && (is_sound_locals (length nodes) locals && is_sound_handled (length nodes) handled)
