use Rattle.std.proofs.Common.{◌∷◌, ℕ, List, refl, sym, ap}
use Rattle.fs_sched.proofs.DrawLemmas.{upcoming_after}
use Rattle.fs_sched.proofs.seats.SeatsAhead.next_seat.Goals as goal

pub returns : goal.returns
returns c =
    let seats = c.args.self.now in
    record {
      seats = λ k. ap (λ (more : List ℕ). seats.ahead ∷ more) (sym (upcoming_after seats.draws _ c.seat-self.ensures.seats k));
      threads = refl;
      there = seats.there;
    }
