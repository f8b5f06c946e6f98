-- The lines of drawn runs.
use Rattle.std.specs.Prelude.{ℕ, ◌≡◌, ◌+◌, ◌≤◌, ◌<◌, List, [], ◌++◌, Ok, codes, decimal}
use Rattle.std.specs.List.{flat_map, range_with_len}
use Rattle.fs_timeline.specs.Verdicts.{verdict}
use Rattle.fs_timeline.specs.declared.verdict.Verdict.{Verdict}
use Rattle.fs_timeline.specs.declared.verdict.Verdict.TheVariants.{Lawful}
use Rattle.fs_script.specs.Script.{script_of}
use Rattle.fs_script.specs.declared.script.Script.{Script}
use Rattle.fs_sched.specs.Checks.{verdict_line}
use Rattle.fs_sched.specs.Origins.{from_root, tree_at, DrawnOn}
use Rattle.fs_sched.specs.Runs.{Stage}
use Rattle.fs_sched.specs.declared.policy.Campaign.{Campaign}

-- how the verdict on the run that is drawn from a number is written
abbrev pub seed_line : ℕ → Verdict → List ℕ
seed_line n v = codes "seed " ++ (decimal n ++ (codes " " ++ verdict_line v))

-- the line of a drawn run whose journal is lawful
abbrev pub lawful_line : ℕ → List ℕ
lawful_line n = seed_line n Lawful

-- the run that is drawn from a number comes to its end, and its journal is lawful; it is one piece
abbrev pub IsLawfulOn : Campaign → Script → ℕ → Type 0
IsLawfulOn drawn script n = (last : Stage) × DrawnOn drawn n script [] last × (verdict (tree_at drawn.from script.limits) last.state.timeline ≡ Lawful)

-- so many runs are drawn from a number, the next one, and so on: each is lawful, and the text says so, a line for each
pub record AreLawfulOn (drawn : Campaign) (script : Script) (seed : ℕ) (runs : ℕ) (text : List ℕ) : Type 0 where
  pub each : (n : ℕ) → seed ≤ n → n < seed + runs → IsLawfulOn drawn script n
  pub lines : text ≡ flat_map lawful_line (range_with_len seed runs)

-- the same from the root alone
abbrev pub IsLawfulFrom : Script → ℕ → Type 0
IsLawfulFrom script n = IsLawfulOn from_root script n

abbrev pub AreLawful : Script → ℕ → ℕ → List ℕ → Type 0
AreLawful script seed runs text = AreLawfulOn from_root script seed runs text

-- the same of the script that an input has
abbrev pub AreRunsOf : ℕ → ℕ → List ℕ → List ℕ → Type 0
AreRunsOf seed runs input text = (script : Script) × (script_of input ≡ Ok script) × AreLawful script seed runs text
