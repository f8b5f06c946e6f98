use Rattle.std.proofs.Common.{◌*◌, ◌<◌, ℕ, ap, arith}
use Rattle.std.proofs.Math.Nat.{mod-lt}
use Rattle.std.proofs.lemmas.Nat.{div-add-mod'}
use Rattle.fs_sched.proofs.seats.Divisor.rest.Goals as goal

pub returns : goal.returns
returns c =
    let number = c.args.self.now in
    let some : 0 < number = omega (arith, c.self.view_is, c.self.invariant.0) in
    let taken = ap (λ (n : ℕ). n * number) c.quotient.ensures in
    let same = ap (λ (n : ℕ). c.quotient.result * n) c.self.view_is in
    record {
      rest = omega (arith, c.from.ensures, taken, same, div-add-mod' c.args.word number);
      less = omega (arith, c.from.ensures, taken, same, div-add-mod' c.args.word number, mod-lt c.args.word some);
    }
