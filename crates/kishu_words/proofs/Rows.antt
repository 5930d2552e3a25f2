-- Rows of command lines, computed on the definitions.
use Rattle.std.proofs.Common.{◌≡◌, refl, Option, Some, None, List, [], ◌∷◌, true, false}
use Rattle.std.specs.Prelude.{codes}
use Rattle.kishu_model.specs.Request.{branch, checkout, inspect, log, status}
use Rattle.kishu_model.specs.Task.{generated, notebook, one_cell, one_request, session}
use Rattle.kishu_words.specs.Words.{form_of, store_word}

a_session : form_of (codes "S" ∷ codes "session" ∷ []) ≡ Some session
a_session = refl

a_cell : form_of (codes "S" ∷ codes "cell" ∷ []) ≡ Some one_cell
a_cell = refl

a_run : form_of (codes "S" ∷ codes "run" ∷ []) ≡ Some (notebook false)
a_run = refl

flag_last : form_of (codes "S" ∷ codes "run" ∷ codes "--together" ∷ []) ≡ Some (notebook true)
flag_last = refl

flag_first : form_of (codes "--together" ∷ codes "S" ∷ codes "run" ∷ []) ≡ Some (notebook true)
flag_first = refl

flag_between : form_of (codes "S" ∷ codes "--together" ∷ codes "run" ∷ []) ≡ Some (notebook true)
flag_between = refl

the_log : form_of (codes "S" ∷ codes "log" ∷ []) ≡ Some (one_request log)
the_log = refl

the_status : form_of (codes "S" ∷ codes "status" ∷ []) ≡ Some (one_request status)
the_status = refl

an_inspection : form_of (codes "S" ∷ codes "inspect" ∷ []) ≡ Some (one_request inspect)
an_inspection = refl

a_checkout : form_of (codes "S" ∷ codes "checkout" ∷ codes "1" ∷ []) ≡ Some (one_request (checkout (codes "1")))
a_checkout = refl

a_branch : form_of (codes "S" ∷ codes "branch" ∷ codes "try" ∷ []) ≡ Some (one_request (branch (codes "try") None))
a_branch = refl

a_branch_there : form_of (codes "S" ∷ codes "branch" ∷ codes "try" ∷ codes "1" ∷ []) ≡ Some (one_request (branch (codes "try") (Some (codes "1"))))
a_branch_there = refl

made_requests : form_of (codes "S" ∷ codes "gen" ∷ codes "7" ∷ codes "10" ∷ []) ≡ Some (generated 7 10)
made_requests = refl

no_request_made : form_of (codes "S" ∷ codes "gen" ∷ codes "0" ∷ codes "0" ∷ []) ≡ Some (generated 0 0)
no_request_made = refl

largest_numbers : form_of (codes "S" ∷ codes "gen" ∷ codes "2147483647" ∷ codes "100000" ∷ []) ≡ Some (generated 2147483647 100000)
largest_numbers = refl

start_too_large : form_of (codes "S" ∷ codes "gen" ∷ codes "2147483648" ∷ codes "1" ∷ []) ≡ None
start_too_large = refl

too_many_requests : form_of (codes "S" ∷ codes "gen" ∷ codes "7" ∷ codes "100001" ∷ []) ≡ None
too_many_requests = refl

a_leading_zero : form_of (codes "S" ∷ codes "gen" ∷ codes "07" ∷ codes "10" ∷ []) ≡ None
a_leading_zero = refl

a_sign : form_of (codes "S" ∷ codes "gen" ∷ codes "7" ∷ codes "+10" ∷ []) ≡ None
a_sign = refl

a_start_alone : form_of (codes "S" ∷ codes "gen" ∷ codes "7" ∷ []) ≡ None
a_start_alone = refl

flag_with_made_requests : form_of (codes "S" ∷ codes "gen" ∷ codes "7" ∷ codes "10" ∷ codes "--together" ∷ []) ≡ None
flag_with_made_requests = refl

flag_twice : form_of (codes "S" ∷ codes "--together" ∷ codes "--together" ∷ codes "run" ∷ []) ≡ None
flag_twice = refl

flag_with_a_cell : form_of (codes "S" ∷ codes "cell" ∷ codes "--together" ∷ []) ≡ None
flag_with_a_cell = refl

flag_cut : form_of (codes "S" ∷ codes "run" ∷ codes "--togethe" ∷ []) ≡ None
flag_cut = refl

flag_with_a_value : form_of (codes "S" ∷ codes "run" ∷ codes "--together=true" ∷ []) ≡ None
flag_with_a_value = refl

two_dashes : form_of (codes "S" ∷ codes "run" ∷ codes "--" ∷ []) ≡ None
two_dashes = refl

no_words : form_of [] ≡ None
no_words = refl

a_store_alone : form_of (codes "S" ∷ []) ≡ None
a_store_alone = refl

another_command : form_of (codes "S" ∷ codes "fly" ∷ []) ≡ None
another_command = refl

a_word_too_many : form_of (codes "S" ∷ codes "log" ∷ codes "x" ∷ []) ≡ None
a_word_too_many = refl

two_words_too_many : form_of (codes "S" ∷ codes "branch" ∷ codes "try" ∷ codes "1" ∷ codes "2" ∷ []) ≡ None
two_words_too_many = refl

an_empty_store : form_of (codes "" ∷ codes "cell" ∷ []) ≡ None
an_empty_store = refl

an_unknown_flag : form_of (codes "-S" ∷ codes "cell" ∷ []) ≡ None
an_unknown_flag = refl

store_behind_the_flag : store_word (codes "--together" ∷ codes "S" ∷ codes "run" ∷ []) ≡ Some (codes "S")
store_behind_the_flag = refl

no_store : store_word (codes "--together" ∷ []) ≡ None
no_store = refl
