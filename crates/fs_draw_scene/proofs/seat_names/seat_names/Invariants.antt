use Rattle.std.proofs.Common.{length}
use Rattle.fs_draw_scene.proofs.seat_names.seat_names.Given as goal

abbrev pub decreases-lines : goal.decreases-lines
decreases-lines l = length l.left
