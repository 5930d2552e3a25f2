use Rattle.std.proofs.Common.{◌+◌, ◌*◌}
use Rattle.kishu_show.proofs.shows.+show.Given as goal

abbrev pub decreases-push_shown : goal.decreases-push_shown
decreases-push_shown g l = 4 * l.room

abbrev pub decreases-push_argument : goal.decreases-push_argument
decreases-push_argument g l = 4 * l.room + 1

abbrev pub decreases-push_exception_shown : goal.decreases-push_exception_shown
decreases-push_exception_shown g l = 4 * l.room + 2

abbrev pub decreases-push_shown_node : goal.decreases-push_shown_node
decreases-push_shown_node g l = 4 * l.room + 3
