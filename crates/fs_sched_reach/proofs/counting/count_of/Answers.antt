use Rattle.std.proofs.Common.{ℕ, List, ◌++◌, Option, MatchOption, IfOk, ap, subst}
use Rattle.std.proofs.lemmas.Option.{MatchOption-at_none, MatchOption-at_some}
use Rattle.std.proofs.lemmas.Result.{IfOk-weaker}
use Rattle.fs_sched_reach.specs.Counts.{HasNoCount, IsCount}
use Rattle.fs_sched_reach.specs.Words.{times_word, CallWord}
use Rattle.fs_sched_reach.specs.code.Counting.{CountsBy}
use Rattle.fs_sched_reach.proofs.Seeking.{at_last, no_target}
use Rattle.fs_sched_reach.proofs.counting.count_of.Goals as goal

pub returns-in_default : goal.returns-in_default
returns-in_default c = no_target c.args.from.now c.args.limits c.args.text.now c.args.reach.now (MatchOption-at_none _ _ c.in_default.is c.in_ok-sought.ensures)

pub returns : goal.returns
returns c =
    let from = c.args.from.now in
    let limits = c.args.limits in
    let text = c.args.text.now in
    let reach = c.args.reach.now in
    let sought = c.in-Some.sought in
    IfOk-weaker c.count_within-2.result (CountsBy from limits sought.target sought.before (text ++ times_word reach.name sought.room))
    (λ (count : Option ℕ). MatchOption count (HasNoCount from limits text reach) (IsCount from limits text reach))
    (λ (count : Option ℕ) found. at_last from limits text reach sought count (MatchOption-at_some _ _ sought c.in-Some.is c.in_ok-sought.ensures) found)
    (subst (λ (name : List ℕ). IfOk c.count_within-2.result (CountsBy from limits sought.target sought.before (text ++ times_word name sought.room))) (ap (λ (w : CallWord). w.name) c.reach.view_is) c.count_within-2.ensures)
