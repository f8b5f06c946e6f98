use Rattle.fs_share_observe.proofs.Keeping.{looks}
use Rattle.fs_share_observe.proofs.observer.count_in.Goals as goal

pub enter_as-requires : goal.enter_as-requires
enter_as-requires g c = looks _ _
