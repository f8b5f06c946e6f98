use Rattle.std.proofs.Common.{◌≡◌, ap, ℕ}
use Rattle.atomfs_arguments.proofs.Somes.{in_some}
use Rattle.atomfs_arguments.proofs.subcommand.drawn_runs_of.Goals as goal

pub returns-in-Some-clause-some : goal.returns-in-Some-clause-some
returns-in-Some-clause-some c seed runs by are is =
    let same = in_some _ _ (c.in-Some.ensures.some seed runs are) in
    record {
      from = c.get_str.ensures;
      seed = ap (λ (n : ℕ × ℕ). n.0) same;
      runs = ap (λ (n : ℕ × ℕ). n.1) same;
      by = c.policy_of.ensures by is;
    }

pub returns-in-None-clause-some : goal.returns-in-None-clause-some
returns-in-None-clause-some c seed runs by are is = let same = c.in-None.ensures.some seed runs are in absurd cc
