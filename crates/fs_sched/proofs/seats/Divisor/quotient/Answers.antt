use Rattle.std.proofs.Common.{◌≡◌, ◌+◌, ◌-◌, ◌*◌, ◌/◌, ◌^◌, ℕ, ap, ap₂, ◌∙◌, arith}
use Rattle.fs_sched.proofs.DivisionLemmas.{quotient_by_reciprocal, short_word}
use Rattle.fs_sched.proofs.seats.Divisor.quotient.Goals as goal

pub returns : goal.returns
returns c =
    let number = c.self.inside.number in
    let word : c.from-2.result ≡ c.args.word + 1 = omega (arith, c.from.ensures, c.from-2.ensures) in
    let reciprocal : c.from-3.result ≡ (2 ^ 64 - 1) / number = c.from-3.ensures ∙ c.self.invariant.1 in
    ap (λ (n : ℕ). n / 2 ^ 64) (ap₂ (λ (x y : ℕ). x * y) word reciprocal)
    ∙ quotient_by_reciprocal (2 ^ 64 - 1) number c.args.word c.self.invariant.0 (short_word c.args.word c.ranges.word.fits)
    ∙ ap (λ (n : ℕ). c.args.word / n) c.self.view_is
