use Rattle.std.proofs.Common.{ap, ◌∙◌, ◌∷◌, ℕ, sym}
use Rattle.rand_pcg.specs.Pcg.{pcg32}
use Rattle.fs_sched.specs.Schedules.{seats_from}
use Rattle.fs_sched.proofs.DrawLemmas.{seats_next}
use Rattle.fs_sched.proofs.schedule.Draws.seat.Goals as goal

pub returns-clause-seats : goal.returns-clause-seats
returns-clause-seats c k =
    let threads = c.args.threads.now in
    seats_next threads c.next_word.result c.args.self.now c.next_word.new.self (c.next_word.ensures ∙ ap pcg32 c.self.view_is) k
    ∙ ap (λ (seat : ℕ). seat ∷ seats_from threads k c.next_word.new.self) (sym c.rest.ensures.rest)
