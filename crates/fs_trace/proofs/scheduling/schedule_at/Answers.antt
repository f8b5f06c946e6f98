use Rattle.std.proofs.Common.{[], sym, ◌∙◌, arith}
use Rattle.std.proofs.lemmas.Bool.{ltb-true, ltb-false}
use Rattle.fs_trace.proofs.Making.{not_made}
use Rattle.fs_trace.proofs.Playing.{read_back}
use Rattle.fs_trace.proofs.scheduling.schedule_at.Goals as goal

pub returns-then-are_too_many-clause-fault : goal.returns-then-are_too_many-clause-fault
returns-then-are_too_many-clause-fault c =
    let watched = c.in_ok-watch_at.ensures.watches in
    let words = watched.hears c.new-words.result [] c.new-words.ensures in
    let many = ltb-true _ _ (sym c.are_too_many.ensures ∙ c.if-are_too_many.true) in
    (watched.moments, watched.last, watched.tells, omega (arith, many, words.most))

pub returns-in-Ok-clause-scheduled : goal.returns-in-Ok-clause-scheduled
returns-in-Ok-clause-scheduled c =
    let watched = c.in_ok-watch_at.ensures.watches in
    let words = (watched.hears c.new-words.result [] c.new-words.ensures).all (ltb-false _ _ (sym c.are_too_many.ensures ∙ c.if-are_too_many.false)) in
    (watched.moments, watched.last, watched.tells, c.in-Ok.ensures.made watched.moments words.given)

pub returns-in-Ok-clause-again : goal.returns-in-Ok-clause-again
returns-in-Ok-clause-again c =
    let watched = c.in_ok-watch_at.ensures.watches in
    let words = (watched.hears c.new-words.result [] c.new-words.ensures).all (ltb-false _ _ (sym c.are_too_many.ensures ∙ c.if-are_too_many.false)) in
    read_back c.args.from.now c.args.schedule c.args.text.now c.in-Ok.made.items c.args.script.now c.watch_at.new.witness watched.moments watched.last c.requires.read watched.tells words c.in-Ok.ensures.written c.in-Ok.ensures.short

pub returns-in-Err-clause-fault : goal.returns-in-Err-clause-fault
returns-in-Err-clause-fault c =
    let watched = c.in_ok-watch_at.ensures.watches in
    let words = (watched.hears c.new-words.result [] c.new-words.ensures).all (ltb-false _ _ (sym c.are_too_many.ensures ∙ c.if-are_too_many.false)) in
    not_made c.args.from.now c.args.schedule c.args.text.now c.args.script.now watched.moments watched.last c.in-Err.fault watched.tells (c.in-Err.ensures.fault watched.moments words.given)
