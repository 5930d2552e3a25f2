-- What cells run on, and their runs there.
use Rattle.std.specs.Prelude.{ℕ, List, Ok}
use Rattle.kishu_language.specs.declared.profile.Profile.{Profile}
use Rattle.kishu_language.specs.declared.tree.Program.{Program}
use Rattle.kishu_language.specs.trees.Tree.{program_of}
use Rattle.kishu_meaning.specs.cells.Meaning.{run, run_tree}
use Rattle.kishu_meaning.specs.values.Values.{Node, Ran}
use Rattle.kishu_names.specs.Namespace.{Namespace}
pub use Rattle.kishu_machine.specs.Machine.{state_in}

-- the run of a text, and of a tree, on what the cells before left
abbrev pub text_run : Profile → List ℕ → List Node → Namespace → Ran
text_run profile text nodes names = run profile text (state_in nodes names)

abbrev pub tree_run : Profile → Program → List Node → Namespace → Ran
tree_run profile program nodes names = run_tree profile (Ok (program_of program)) (state_in nodes names)
