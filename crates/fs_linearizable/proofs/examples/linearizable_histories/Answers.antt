use Rattle.std.proofs.Common.{List, [], ◌∷◌, ◌≡◌, refl}
use Rattle.fs_names.specs.declared.limits.Limits.TheVariants.{V1}
use Rattle.fs_calls.specs.Tree.{look, inserted, removed, renamed}
use Rattle.fs_calls.specs.Starts.{root_start}
use Rattle.fs_calls.specs.Outcomes.{fault, reply, after}
use Rattle.fs_calls.specs.declared.call.Call.TheVariants.{Mkdir, Stat}
use Rattle.fs_calls.specs.declared.reply.Reply.TheVariants as answer
use Rattle.fs_timeline.specs.Verdicts.{verdict}
use Rattle.fs_linearizable.specs.Linearizable.{history}
use Rattle.fs_linearizable.specs.Examples.{IsLinear, at_a, directory, nothing}
use Rattle.fs_timeline.specs.declared.entry.Entry.{Entry}
use Rattle.fs_timeline.specs.declared.entry.Entry.TheVariants.{Begin, Commit, Return}
use Rattle.fs_timeline.specs.declared.verdict.Verdict.TheVariants.{Lawful}
use Rattle.fs_timeline.proofs.VerdictLemmas.{lawful_is_lawful}
use Rattle.fs_linearizable.proofs.LawfulLemmas.{lawful_is_linearizable}
use Rattle.fs_linearizable.proofs.examples.linearizable_histories.Goals as goal

by : (es : List Entry) → verdict (root_start V1) es ≡ Lawful → IsLinear (history es)
by es h = lawful_is_linearizable (root_start V1) es ((lawful_is_lawful (root_start V1) es).0 h)

pub returns : goal.returns
unfolding look inserted removed renamed fault reply after
returns c = record {
  empty = by [] refl;
  read_after = by (Begin 1 0 (Mkdir at_a) ∷ Commit 1 ∷ Return 1 answer.Done ∷ Begin 2 1 (Stat at_a) ∷ Commit 2 ∷ Return 2 directory ∷ []) refl;
  read_during_first = by (Begin 1 0 (Mkdir at_a) ∷ Begin 2 1 (Stat at_a) ∷ Commit 2 ∷ Return 2 nothing ∷ Commit 1 ∷ Return 1 answer.Done ∷ []) refl;
  read_during_last = by (Begin 1 0 (Mkdir at_a) ∷ Begin 2 1 (Stat at_a) ∷ Commit 1 ∷ Commit 2 ∷ Return 2 directory ∷ Return 1 answer.Done ∷ []) refl;
  took_effect = by (Begin 1 0 (Mkdir at_a) ∷ Begin 2 1 (Stat at_a) ∷ Commit 1 ∷ Commit 2 ∷ Return 2 directory ∷ []) refl;
  no_effect = by (Begin 1 0 (Mkdir at_a) ∷ Begin 2 1 (Stat at_a) ∷ Commit 2 ∷ Return 2 nothing ∷ []) refl;
  effect_between = by (Begin 1 0 (Mkdir at_a) ∷ Begin 2 1 (Stat at_a) ∷ Commit 2 ∷ Return 2 nothing ∷ Commit 1 ∷ Begin 3 1 (Stat at_a) ∷ Commit 3 ∷ Return 3 directory ∷ []) refl;
}
