use Rattle.std.proofs.Common.{[], ◌∷◌, ◌++◌, sym, ap, subst, ◌∙◌}
use Rattle.fs_calls.specs.declared.reply.Reply.TheVariants.{Done}
use Rattle.fs_timeline.specs.declared.entry.Entry.{Entry}
use Rattle.fs_timeline.specs.declared.entry.Entry.TheVariants.{Begin, Return}
use Rattle.fs_linearize_histories.specs.Heard.{entry_of}
use Rattle.fs_linearize.specs.code.Knowing.{IsKnown}
use Rattle.fs_linearize.proofs.faults.Known.take_in.Goals as goal

pub returns-in_ok-begin-in-Begin : goal.returns-in_ok-begin-in-Begin
returns-in_ok-begin-in-Begin c = λ before k.
    let call = c.in-Begin.field-2 in
    let same = ap (λ n. Begin n c.get-in-Begin.result call) c.get.ensures ∙ ap (λ s. Begin c.in-Begin.number s call) c.get-in-Begin.ensures ∙ ap entry_of (sym c.in-Begin.is) in
    subst (λ (e : Entry). IsKnown (before ++ e ∷ []) c.begin.new.self) same (c.in_ok-begin-in-Begin.ensures before call k)

pub returns-in_ok-end-in-Return : goal.returns-in_ok-end-in-Return
returns-in_ok-end-in-Return c = λ before k.
    let same = ap (λ n. Return n Done) c.get-in-Return.ensures ∙ ap entry_of (sym c.in-Return.is) in
    subst (λ (e : Entry). IsKnown (before ++ e ∷ []) c.end.new.self) same (c.in_ok-end-in-Return.ensures before k)
