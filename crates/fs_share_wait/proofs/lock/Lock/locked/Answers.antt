use Rattle.std.proofs.Common.{refl}
use Rattle.fs_share_wait.proofs.lock.Lock.locked.Goals as goal

pub returns : goal.returns
returns g c = (_, _, record { shown = _; shows = refl; left = _; met = c.what-made.ensures; leaves = refl })
