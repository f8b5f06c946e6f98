use Rattle.std.proofs.Common.{◌≡◌, ℕ, Bool, List, true, false, set, sym, ap, subst, ◌∙◌}
use Rattle.fs_sched_shrink.specs.Shrinks.{IsKeptOn, IsShrunkOn}
use Rattle.fs_sched_shrink.proofs.Going.{set_back}
use Rattle.fs_sched_shrink.proofs.cutting.cut_one.Goals as goal

back : (old cleared now : List Bool) (at : ℕ) → cleared ≡ set old at false → now ≡ set cleared at true → set (set old at false) at true ≡ old → now ≡ old
back old cleared now at c n is = n ∙ ap (λ (l : List Bool). set l at true) c ∙ is

pub returns-clause-shrunk : goal.returns-clause-shrunk
returns-clause-shrunk c =
    let same = back c.args.kept.now.items c.set_flag.new.kept.items c.set_flag-2.new.kept.items c.args.at c.set_flag.ensures c.set_flag-2.ensures (set_back c.args.kept.now.items c.args.at c.requires.stays) in
    subst (IsShrunkOn c.args.from.now c.args.script.now c.args.what.now) (sym same) c.requires.shrunk

pub returns-clause-cannot : goal.returns-clause-cannot
returns-clause-cannot c e =
    let same = back c.args.kept.now.items c.set_flag.new.kept.items c.set_flag-2.new.kept.items c.args.at c.set_flag.ensures c.set_flag-2.ensures (set_back c.args.kept.now.items c.args.at c.requires.stays) in
    let tried = subst (λ (b : Bool). IsKeptOn c.args.from.now c.args.script.now c.args.what.now c.as_slice.result.now b) c.if-still.false c.in_ok-still.ensures in
    (same, subst (λ (l : List Bool). IsKeptOn c.args.from.now c.args.script.now c.args.what.now l false) (c.as_slice.ensures.value ∙ c.set_flag.ensures) tried)
