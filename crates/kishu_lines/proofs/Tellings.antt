-- A line's reading is what its value tells, and nothing else.
use Rattle.std.proofs.Common.{◌≡◌, ℕ, Bool, true, false, cond, List, [], ◌∷◌, map, Option, Some, None, option_map, option_and_then, codes, refl, sym, ap, ◌∙◌, subst}
use Rattle.std.proofs.lemmas.Bool.{eqb-true}
use Rattle.std.proofs.lemmas.Option.{none-some, same_Some, option_and_then_some}
use Rattle.std.proofs.lemmas.Slice.Eq.{bytes_eq-Decides}
use Rattle.std.specs.Str.{bytes_eq, is_utf8}
use Rattle.serde_json.specs.Data.{Data, null, boolean, number, string, array, object, Items, no_items, item, Members, no_members, member}
use Rattle.serde_json.specs.Events.{members_len}
use Rattle.serde_json.specs.Find.{get_member, as_str, as_array}
use Rattle.serde_json.specs.Read.{read}
use Rattle.serde_json.specs.View.{items_of}
use Rattle.kishu_model.specs.Reading.{Tells, tells_cell, tells_cells, tells_checkout, tells_branch, tells_branch_at, tells_log, tells_status, tells_inspect, tells_stored, tells_plan, Reads, has_members, text_at, cell_in, texts_in, texts_at, cells_of_texts, cells_in, checkout_in, stored_in, plan_in, branch_at_in, branch_named_in, branch_in, alone_in, asked_in, request_in, reading}
use Rattle.kishu_model.specs.Request.{Request, cell, cells, checkout, branch, log, status, inspect, stored, plan}
use Rattle.kishu_lines.proofs.Members.{Ascends, AscendsIn, ascends_read, one_member, two_members, three_members}

all_texts : (texts : List (List ℕ)) → texts_in (items_of (map string texts)) ≡ Some texts
all_texts [] = refl
all_texts (text ∷ texts) = ap (option_map (λ ts. text ∷ ts)) (all_texts texts)

pub told_is_read : {d : Data} {q : Request} → Tells d q → request_in d ≡ Some q
unfolding request_in
told_is_read (tells_cell text) = refl
told_is_read (tells_cells text texts) = ap (option_and_then cells_of_texts) (all_texts (text ∷ texts))
told_is_read (tells_checkout to) = refl
told_is_read (tells_branch name) = refl
told_is_read (tells_branch_at name at) = refl
told_is_read tells_log = refl
told_is_read tells_status = refl
told_is_read tells_inspect = refl
told_is_read (tells_stored of) = refl
told_is_read (tells_plan to) = refl

-- ---- the other way

as_string : (d : Data) (t : List ℕ) → as_str d ≡ Some t → d ≡ string t
as_string null t is = absurd (none-some t is)
as_string (boolean b) t is = absurd (none-some t is)
as_string (number n) t is = absurd (none-some t is)
as_string (string s) t is = ap string (same_Some s t is)
as_string (array ds) t is = absurd (none-some t is)
as_string (object ms) t is = absurd (none-some t is)

as_list : (d : Data) (ds : Items) → as_array d ≡ Some ds → d ≡ array ds
as_list null ds is = absurd (none-some ds is)
as_list (boolean b) ds is = absurd (none-some ds is)
as_list (number n) ds is = absurd (none-some ds is)
as_list (string s) ds is = absurd (none-some ds is)
as_list (array es) ds is = ap array (same_Some es ds is)
as_list (object ms) ds is = absurd (none-some ds is)

-- a text that was found
found_text : (key : List ℕ) (ms : Members) (t : List ℕ) → text_at key (object ms) ≡ Some t → get_member key ms ≡ Some (string t)
found_text key ms t is = option_and_then_some as_str (get_member key ms) t is (λ d found text. found ∙ ap Some (as_string d t text))

tested : {A : Type 0} (b : Bool) (o : Option A) (y : A) → cond b o None ≡ Some y → (b ≡ true) × (o ≡ Some y)
tested true o y is = (refl, is)
tested false o y is = absurd (none-some y is)

sized : (n : ℕ) (ms : Members) → has_members n (object ms) ≡ true → members_len ms ≡ n
sized n ms is = eqb-true (members_len ms) n is

mapped : {A B P : Type 0} (f : A → B) (o : Option A) (y : B) → option_map f o ≡ Some y → ((x : A) → o ≡ Some x → f x ≡ y → P) → P
mapped f None y is uses = absurd (none-some y is)
mapped f (Some x) y is uses = uses x refl (same_Some (f x) y is)

-- two equations make one telling another
moved : (d e : Data) (q r : Request) → e ≡ d → q ≡ r → Tells d q → Tells e r
moved d e q r same asked tells = subst (λ (x : Data). Tells x r) (sym same) (subst (λ (y : Request). Tells d y) asked tells)

read_cell : (ms : Members) (q : Request) → Ascends ms → get_member (codes "op") ms ≡ Some (string (codes "cell")) → cell_in (object ms) ≡ Some q → Tells (object ms) q
read_cell ms q ascends op is =
    let parts = tested (has_members 2 (object ms)) _ q is in
    mapped cell _ q parts.1 (λ t text asked.
    moved _ (object ms) (cell t) q (ap object (two_members (codes "op") (codes "text") _ _ ms ascends (sized 2 ms parts.0) refl op (found_text (codes "text") ms t text))) asked (tells_cell t))

-- texts that were found
texts_read : (ds : Items) (texts : List (List ℕ)) → texts_in ds ≡ Some texts → ds ≡ items_of (map string texts)
texts_read no_items texts is = ap (λ (ts : List (List ℕ)). items_of (map string ts)) (same_Some [] texts is)
texts_read (item d ds) texts is =
    option_and_then_some (λ text. option_map (λ ts. text ∷ ts) (texts_in ds)) (as_str d) texts is
    (λ text found rest. mapped (λ ts. text ∷ ts) (texts_in ds) texts rest
    (λ ts others whole.
    ap (λ (e : Data). item e ds) (as_string d text found)
    ∙ ap (item (string text)) (texts_read ds ts others)
    ∙ ap (λ (all : List (List ℕ)). items_of (map string all)) whole))

found_texts : (key : List ℕ) (ms : Members) (texts : List (List ℕ)) → texts_at key (object ms) ≡ Some texts → get_member key ms ≡ Some (array (items_of (map string texts)))
found_texts key ms texts is =
    option_and_then_some texts_in (option_and_then as_array (get_member key ms)) texts is
    (λ ds listed texts_is. option_and_then_some as_array (get_member key ms) ds listed
    (λ d found list_is. found ∙ ap Some (as_list d ds list_is ∙ ap array (texts_read ds texts texts_is))))

read_texts : (ms : Members) (texts : List (List ℕ)) (q : Request) → Ascends ms → members_len ms ≡ 2 → get_member (codes "op") ms ≡ Some (string (codes "cells"))
    → get_member (codes "texts") ms ≡ Some (array (items_of (map string texts))) → cells_of_texts texts ≡ Some q → Tells (object ms) q
read_texts ms [] q ascends size op found asked = absurd (none-some q asked)
read_texts ms (text ∷ texts) q ascends size op found asked =
    moved _ (object ms) (cells (text ∷ texts)) q (ap object (two_members (codes "op") (codes "texts") _ _ ms ascends size refl op found)) (same_Some _ q asked) (tells_cells text texts)

read_cells : (ms : Members) (q : Request) → Ascends ms → get_member (codes "op") ms ≡ Some (string (codes "cells")) → cells_in (object ms) ≡ Some q → Tells (object ms) q
read_cells ms q ascends op is =
    let parts = tested (has_members 2 (object ms)) _ q is in
    option_and_then_some cells_of_texts (texts_at (codes "texts") (object ms)) q parts.1
    (λ texts found asked. read_texts ms texts q ascends (sized 2 ms parts.0) op (found_texts (codes "texts") ms texts found) asked)

read_checkout : (ms : Members) (q : Request) → Ascends ms → get_member (codes "op") ms ≡ Some (string (codes "checkout")) → checkout_in (object ms) ≡ Some q → Tells (object ms) q
read_checkout ms q ascends op is =
    let parts = tested (has_members 2 (object ms)) _ q is in
    mapped checkout _ q parts.1 (λ t text asked.
    moved _ (object ms) (checkout t) q (ap object (two_members (codes "op") (codes "to") _ _ ms ascends (sized 2 ms parts.0) refl op (found_text (codes "to") ms t text))) asked (tells_checkout t))

read_branch_at : (ms : Members) (name : List ℕ) (q : Request) → Ascends ms → get_member (codes "op") ms ≡ Some (string (codes "branch")) → get_member (codes "name") ms ≡ Some (string name)
    → branch_at_in name (object ms) ≡ Some q → Tells (object ms) q
read_branch_at ms name q ascends op named is =
    let parts = tested (has_members 3 (object ms)) _ q is in
    mapped (λ at. branch name (Some at)) _ q parts.1 (λ t text asked.
    moved _ (object ms) (branch name (Some t)) q
    (ap object (three_members (codes "at") (codes "name") (codes "op") _ _ _ ms ascends (sized 3 ms parts.0) refl refl (found_text (codes "at") ms t text) named op)) asked (tells_branch_at name t))

read_branch_named : (b : Bool) (ms : Members) (name : List ℕ) (q : Request) → has_members 2 (object ms) ≡ b → Ascends ms → get_member (codes "op") ms ≡ Some (string (codes "branch"))
    → get_member (codes "name") ms ≡ Some (string name) → cond b (Some (branch name None)) (branch_at_in name (object ms)) ≡ Some q → Tells (object ms) q
read_branch_named true ms name q size ascends op named is =
    moved _ (object ms) (branch name None) q (ap object (two_members (codes "name") (codes "op") _ _ ms ascends (sized 2 ms size) refl named op)) (same_Some _ q is) (tells_branch name)
read_branch_named false ms name q size ascends op named is = read_branch_at ms name q ascends op named is

read_branch : (ms : Members) (q : Request) → Ascends ms → get_member (codes "op") ms ≡ Some (string (codes "branch")) → branch_in (object ms) ≡ Some q → Tells (object ms) q
read_branch ms q ascends op is =
    option_and_then_some (λ name. branch_named_in name (object ms)) (text_at (codes "name") (object ms)) q is
    (λ name text rest. read_branch_named (has_members 2 (object ms)) ms name q refl ascends op (found_text (codes "name") ms name text) rest)

read_stored : (ms : Members) (q : Request) → Ascends ms → get_member (codes "op") ms ≡ Some (string (codes "stored")) → stored_in (object ms) ≡ Some q → Tells (object ms) q
read_stored ms q ascends op is =
    let parts = tested (has_members 2 (object ms)) _ q is in
    mapped stored _ q parts.1 (λ t text asked.
    moved _ (object ms) (stored t) q (ap object (two_members (codes "of") (codes "op") _ _ ms ascends (sized 2 ms parts.0) refl (found_text (codes "of") ms t text) op)) asked (tells_stored t))

read_plan : (ms : Members) (q : Request) → Ascends ms → get_member (codes "op") ms ≡ Some (string (codes "plan")) → plan_in (object ms) ≡ Some q → Tells (object ms) q
read_plan ms q ascends op is =
    let parts = tested (has_members 2 (object ms)) _ q is in
    mapped plan _ q parts.1 (λ t text asked.
    moved _ (object ms) (plan t) q (ap object (two_members (codes "op") (codes "to") _ _ ms ascends (sized 2 ms parts.0) refl op (found_text (codes "to") ms t text))) asked (tells_plan t))

read_alone : (ms : Members) (op : List ℕ) (asked q : Request) → Tells (object (member (codes "op") (string op) no_members)) asked → get_member (codes "op") ms ≡ Some (string op)
    → alone_in asked (object ms) ≡ Some q → Tells (object ms) q
read_alone ms op asked q tells found is =
    let parts = tested (has_members 1 (object ms)) _ q is in
    moved _ (object ms) asked q (ap object (one_member (codes "op") _ ms (sized 1 ms parts.0) found)) (same_Some asked q parts.1) tells

same_op : (op word : List ℕ) (ms : Members) → bytes_eq op word ≡ true → get_member (codes "op") ms ≡ Some (string op) → get_member (codes "op") ms ≡ Some (string word)
same_op op word ms is found = found ∙ ap (λ (w : List ℕ). Some (string w)) ((bytes_eq-Decides op word).0 is)

-- ---- the words, of which each is tried in its turn: what is asked from one of them on

read_from_plan : (b : Bool) (ms : Members) (op : List ℕ) (q : Request) → bytes_eq op (codes "plan") ≡ b → Ascends ms → get_member (codes "op") ms ≡ Some (string op)
    → cond b (plan_in (object ms)) None ≡ Some q → Tells (object ms) q
read_from_plan true ms op q word ascends found is = read_plan ms q ascends (same_op op (codes "plan") ms word found) is
read_from_plan false ms op q word ascends found is = absurd (none-some q is)

abbrev from_plan : List ℕ → Data → Option Request
from_plan op d = cond (bytes_eq op (codes "plan")) (plan_in d) None

read_from_stored : (b : Bool) (ms : Members) (op : List ℕ) (q : Request) → bytes_eq op (codes "stored") ≡ b → Ascends ms → get_member (codes "op") ms ≡ Some (string op)
    → cond b (stored_in (object ms)) (from_plan op (object ms)) ≡ Some q → Tells (object ms) q
read_from_stored true ms op q word ascends found is = read_stored ms q ascends (same_op op (codes "stored") ms word found) is
read_from_stored false ms op q word ascends found is = read_from_plan (bytes_eq op (codes "plan")) ms op q refl ascends found is

abbrev from_stored : List ℕ → Data → Option Request
from_stored op d = cond (bytes_eq op (codes "stored")) (stored_in d) (from_plan op d)

read_from_inspect : (b : Bool) (ms : Members) (op : List ℕ) (q : Request) → bytes_eq op (codes "inspect") ≡ b → Ascends ms → get_member (codes "op") ms ≡ Some (string op)
    → cond b (alone_in inspect (object ms)) (from_stored op (object ms)) ≡ Some q → Tells (object ms) q
read_from_inspect true ms op q word ascends found is = read_alone ms (codes "inspect") inspect q tells_inspect (same_op op (codes "inspect") ms word found) is
read_from_inspect false ms op q word ascends found is = read_from_stored (bytes_eq op (codes "stored")) ms op q refl ascends found is

abbrev from_inspect : List ℕ → Data → Option Request
from_inspect op d = cond (bytes_eq op (codes "inspect")) (alone_in inspect d) (from_stored op d)

read_from_status : (b : Bool) (ms : Members) (op : List ℕ) (q : Request) → bytes_eq op (codes "status") ≡ b → Ascends ms → get_member (codes "op") ms ≡ Some (string op)
    → cond b (alone_in status (object ms)) (from_inspect op (object ms)) ≡ Some q → Tells (object ms) q
read_from_status true ms op q word ascends found is = read_alone ms (codes "status") status q tells_status (same_op op (codes "status") ms word found) is
read_from_status false ms op q word ascends found is = read_from_inspect (bytes_eq op (codes "inspect")) ms op q refl ascends found is

abbrev from_status : List ℕ → Data → Option Request
from_status op d = cond (bytes_eq op (codes "status")) (alone_in status d) (from_inspect op d)

read_from_log : (b : Bool) (ms : Members) (op : List ℕ) (q : Request) → bytes_eq op (codes "log") ≡ b → Ascends ms → get_member (codes "op") ms ≡ Some (string op)
    → cond b (alone_in log (object ms)) (from_status op (object ms)) ≡ Some q → Tells (object ms) q
read_from_log true ms op q word ascends found is = read_alone ms (codes "log") log q tells_log (same_op op (codes "log") ms word found) is
read_from_log false ms op q word ascends found is = read_from_status (bytes_eq op (codes "status")) ms op q refl ascends found is

abbrev from_log : List ℕ → Data → Option Request
from_log op d = cond (bytes_eq op (codes "log")) (alone_in log d) (from_status op d)

read_from_branch : (b : Bool) (ms : Members) (op : List ℕ) (q : Request) → bytes_eq op (codes "branch") ≡ b → Ascends ms → get_member (codes "op") ms ≡ Some (string op)
    → cond b (branch_in (object ms)) (from_log op (object ms)) ≡ Some q → Tells (object ms) q
read_from_branch true ms op q word ascends found is = read_branch ms q ascends (same_op op (codes "branch") ms word found) is
read_from_branch false ms op q word ascends found is = read_from_log (bytes_eq op (codes "log")) ms op q refl ascends found is

abbrev from_branch : List ℕ → Data → Option Request
from_branch op d = cond (bytes_eq op (codes "branch")) (branch_in d) (from_log op d)

read_from_checkout : (b : Bool) (ms : Members) (op : List ℕ) (q : Request) → bytes_eq op (codes "checkout") ≡ b → Ascends ms → get_member (codes "op") ms ≡ Some (string op)
    → cond b (checkout_in (object ms)) (from_branch op (object ms)) ≡ Some q → Tells (object ms) q
read_from_checkout true ms op q word ascends found is = read_checkout ms q ascends (same_op op (codes "checkout") ms word found) is
read_from_checkout false ms op q word ascends found is = read_from_branch (bytes_eq op (codes "branch")) ms op q refl ascends found is

abbrev from_checkout : List ℕ → Data → Option Request
from_checkout op d = cond (bytes_eq op (codes "checkout")) (checkout_in d) (from_branch op d)

read_from_cells : (b : Bool) (ms : Members) (op : List ℕ) (q : Request) → bytes_eq op (codes "cells") ≡ b → Ascends ms → get_member (codes "op") ms ≡ Some (string op)
    → cond b (cells_in (object ms)) (from_checkout op (object ms)) ≡ Some q → Tells (object ms) q
read_from_cells true ms op q word ascends found is = read_cells ms q ascends (same_op op (codes "cells") ms word found) is
read_from_cells false ms op q word ascends found is = read_from_checkout (bytes_eq op (codes "checkout")) ms op q refl ascends found is

abbrev from_cells : List ℕ → Data → Option Request
from_cells op d = cond (bytes_eq op (codes "cells")) (cells_in d) (from_checkout op d)

read_from_cell : (b : Bool) (ms : Members) (op : List ℕ) (q : Request) → bytes_eq op (codes "cell") ≡ b → Ascends ms → get_member (codes "op") ms ≡ Some (string op)
    → cond b (cell_in (object ms)) (from_cells op (object ms)) ≡ Some q → Tells (object ms) q
read_from_cell true ms op q word ascends found is = read_cell ms q ascends (same_op op (codes "cell") ms word found) is
read_from_cell false ms op q word ascends found is = read_from_cells (bytes_eq op (codes "cells")) ms op q refl ascends found is

read_object : (ms : Members) (q : Request) → Ascends ms → request_in (object ms) ≡ Some q → Tells (object ms) q
unfolding request_in
read_object ms q ascends is =
    option_and_then_some (λ op. asked_in op (object ms)) (text_at (codes "op") (object ms)) q is
    (λ op text rest. read_from_cell (bytes_eq op (codes "cell")) ms op q refl ascends (found_text (codes "op") ms op text) rest)

-- no other value tells anything
read_is_told : (d : Data) (q : Request) → AscendsIn d → request_in d ≡ Some q → Tells d q
unfolding request_in
read_is_told null q ascends is = absurd (none-some q is)
read_is_told (boolean b) q ascends is = absurd (none-some q is)
read_is_told (number n) q ascends is = absurd (none-some q is)
read_is_told (string s) q ascends is = absurd (none-some q is)
read_is_told (array ds) q ascends is = absurd (none-some q is)
read_is_told (object ms) q ascends is = read_object ms q ascends is

pub Reads-from_reading : (line : List ℕ) (q : Request) → reading line ≡ Some q → Reads line q
unfolding reading
Reads-from_reading line q is =
    let parts = tested (is_utf8 line) _ q is in
    option_and_then_some request_in (read line) q parts.1 (λ d found told. record { utf8 = parts.0; data_read = d; is_read = found; tells = read_is_told d q (ascends_read line d found) told })

read_as : (b : Bool) (o : Option Data) (d : Data) (q : Request) → b ≡ true → o ≡ Some d → request_in d ≡ Some q → cond b (option_and_then request_in o) None ≡ Some q
read_as b o d q text value told = rw (text, value) told

pub reading-from_Reads : (line : List ℕ) (q : Request) → Reads line q → reading line ≡ Some q
unfolding reading
reading-from_Reads line q reads = read_as (is_utf8 line) (read line) reads.data_read q reads.utf8 reads.is_read (told_is_read reads.tells)
