use Rattle.std.proofs.Common.{◌≡◌, ◌++◌, ◌∷◌, [], List, Vec, Global, length, refl, subst, sym, ap, ◌∙◌}
use Rattle.fs_calls.specs.declared.reply.Reply.{Reply}
use Rattle.fs_linearize_histories.specs.declared.heard.Heard.{Heard}
use Rattle.fs_linearize_histories.specs.declared.heard.Heard.TheVariants.{Return}
use Rattle.fs_linearize_histories.specs.declared.heard.Pattern.TheVariants.{Except}
use Rattle.fs_linearize_histories.specs.Histories.{IsHistory}
use Rattle.fs_linearize.proofs.PossibleLemmas.{AreSome, some_none, goes_on_by, ends_all, ends_limited}
use Rattle.fs_linearize.proofs.replies.possible_replies.Goals as goal

pub loop-turn-init : goal.loop-turn-init
loop-turn-init g c = (refl, subst (AreSome c.args.start.now c.args.before.items c.args.number) (sym c.new-replies.ensures.items) (some_none c.args.start.now c.args.before.items c.args.number), ap length c.new-replies.ensures.items)

pub ask-requires : goal.ask-requires
ask-requires g c =
    subst (λ (xs : List Heard). IsHistory (xs ++ Return c.args.number (Except c.loop-turn.replies) ∷ [])) (sym c.loop-turn.invariant.0) (c.requires (Except c.loop-turn.replies))

pub ask-requires-2 : goal.ask-requires-2
ask-requires-2 g c =
    subst (λ (xs : List Heard). IsHistory (xs ++ Return c.args.number (Except c.loop-turn.replies) ∷ [])) (sym c.loop-turn.invariant.0) (c.requires (Except c.loop-turn.replies))

pub returns-in-No : goal.returns-in-No
returns-in-No g c =
    ends_all c.args.start.now c.args.before.items c.loop-turn.entries.items c.args.limit c.args.number (Except c.loop-turn.replies) c.in_ok-asked.asked.another c.loop-turn.replies.items _ c.loop-turn.invariant.0 c.loop-turn.invariant.1
    (sym (ap Except c.in_ok-asked.ensures.replies)) (sym (ap (λ (v : Vec Reply Global). v.items) c.in_ok-asked.ensures.replies)) c.in_ok-asked.ensures.another c.in-No.is refl

pub returns-in-Limited : goal.returns-in-Limited
returns-in-Limited g c =
    ends_limited c.args.start.now c.args.before.items c.loop-turn.entries.items c.args.limit c.args.number (Except c.loop-turn.replies) c.in_ok-asked.asked.another c.loop-turn.replies.items _ c.loop-turn.invariant.0 c.loop-turn.invariant.1
    (sym (ap Except c.in_ok-asked.ensures.replies)) (sym (ap (λ (v : Vec Reply Global). v.items) c.in_ok-asked.ensures.replies)) c.in_ok-asked.ensures.another c.in-Limited.is refl

pub returns-in-Limited-another : goal.returns-in-Limited-another
returns-in-Limited-another g c =
    ends_limited c.args.start.now c.args.before.items c.loop-turn.entries.items c.args.limit c.args.number (Except c.loop-turn.replies) c.in_ok-asked-2.asked.another c.loop-turn.replies.items _ c.loop-turn.invariant.0 c.loop-turn.invariant.1
    (sym (ap Except c.in_ok-asked-2.ensures.replies)) (sym (ap (λ (v : Vec Reply Global). v.items) c.in_ok-asked-2.ensures.replies)) c.in_ok-asked-2.ensures.another c.in-Limited-another.is refl

pub returns : goal.returns
returns g c =
    ends_all c.args.start.now c.args.before.items c.loop-turn.entries.items c.args.limit c.args.number (Except c.loop-turn.replies) c.in_ok-asked-2.asked.another c.loop-turn.replies.items _ c.loop-turn.invariant.0 c.loop-turn.invariant.1
    (sym (ap Except c.in_ok-asked-2.ensures.replies)) (sym (ap (λ (v : Vec Reply Global). v.items) c.in_ok-asked-2.ensures.replies)) c.in_ok-asked-2.ensures.another c.in-No-another.is refl

pub loop-turn-preserved : goal.loop-turn-preserved
loop-turn-preserved g c =
    let pushed : c.push.new.self.items ≡ c.in_ok-asked.asked.replies.items ++ c.in-Is.reply ∷ [] =
    let e = c.in-Is.reply-is in
    let p = c.in_ok-push-in-Is.ensures.items in
    cc in
    let both = goes_on_by c.args.start.now c.args.before.items c.loop-turn.entries.items c.args.limit c.args.number c.loop-turn._turn (Except c.loop-turn.replies) c.in_ok-asked.asked.another c.loop-turn.replies.items c.in_ok-asked.asked.replies.items c.push.new.self.items c.in-Is.reply
    c.loop-turn.invariant.0 c.loop-turn.invariant.1 (λ t none. none) c.in_ok-asked.ensures.another c.in-Is.is (ap (λ (v : Vec Reply Global). v.items) c.in_ok-asked.ensures.replies) pushed c.loop-turn.invariant.2 in
    (c.in_ok-asked.ensures.before ∙ c.loop-turn.invariant.0, both.0, both.1)
