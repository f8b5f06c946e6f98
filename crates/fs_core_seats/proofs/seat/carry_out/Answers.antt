use Rattle.fs_core_seats.proofs.seat.carry_out.Goals as goal

pub carry_out-requires-clause-plan : goal.carry_out-requires-clause-plan
carry_out-requires-clause-plan c = c.requires.plan c.in-Some.running c.in-Some.is

pub carry_out-requires-clause-form : goal.carry_out-requires-clause-form
carry_out-requires-clause-form c = c.requires.form c.in-Some.running c.in-Some.is
