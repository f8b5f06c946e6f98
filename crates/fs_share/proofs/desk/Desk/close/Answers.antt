use Rattle.fs_core.specs.CoreValues.{state_of}
use Rattle.fs_core.proofs.Resting.{rest_when_idle}
use Rattle.fs_share.proofs.Idle.{idle_when_returned}
use Rattle.fs_share.proofs.desk.Desk.close.Goals as goal

pub returns-clause-spelled : goal.returns-clause-spelled
returns-clause-spelled g c =
    let parts = c.into_parts-start.ensures in
    rw (parts.start, parts.timeline, parts.store) (λ all. c.told.ensures.spelled (rest_when_idle c.close-core.result c.told.ensures.run (idle_when_returned (state_of c.close-core.result) c.told.ensures.run all)))
