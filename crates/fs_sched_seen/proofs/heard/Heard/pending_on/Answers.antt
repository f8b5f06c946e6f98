use Rattle.std.proofs.Common.{◌<◌, ◌-◌, ℕ, Option, Some, None, length, get_or, refl, sym, ◌∙◌, subst, arith}
use Rattle.fs_sched_seen.specs.Calls.{reply_of}
use Rattle.fs_sched_seen.specs.code.Heards.{IsReplyAt}
use Rattle.fs_sched_seen.proofs.MeetLemmas.{pending_last, pending_none}
use Rattle.fs_sched_seen.proofs.heard.Heard.pending_on.Goals as goal

pub returns-then-turn-eq0 : goal.returns-then-turn-eq0
returns-then-turn-eq0 c = λ es heard. sym (pending_none es c.args.seat c.calls_of-calls.result.now (c.calls_of-calls.ensures ∙ heard.begun c.args.seat) c.if-turn-eq0.true)

pub returns-in-Some : goal.returns-in-Some
returns-in-Some c = λ es heard.
    let calls = c.calls_of-calls.result.now in
    let some : 0 < length c.calls_of-calls.result.now = omega arith in
    let call = get_or calls (length calls - 1) 0 in
    let reply = subst (λ (at : Option ℕ). IsReplyAt es (reply_of call es) at) (sym c.return_of.ensures ∙ c.in-Some.is) (heard.returned call) in
    sym (pending_last es c.args.seat calls call 0 (Some c.in-Some.field-0) (c.calls_of-calls.ensures ∙ heard.begun c.args.seat) some refl reply)

pub returns-in-None : goal.returns-in-None
returns-in-None c = λ es heard.
    let calls = c.calls_of-calls.result.now in
    let some : 0 < length c.calls_of-calls.result.now = omega arith in
    let call = get_or calls (length calls - 1) 0 in
    let reply = subst (λ (at : Option ℕ). IsReplyAt es (reply_of call es) at) (sym c.return_of.ensures ∙ c.in-None.is) (heard.returned call) in
    sym (pending_last es c.args.seat calls call 0 None (c.calls_of-calls.ensures ∙ heard.begun c.args.seat) some refl reply)
