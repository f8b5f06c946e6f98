use Rattle.std.proofs.Common.{◌≡◌, ◌+◌, ◌∷◌, [], ◌++◌, ◌∙◌, rules}
use Rattle.std.proofs.lemmas.Result.{on_ok_weaker}
use Rattle.fs_trace_entries.proofs.Objecting.{returned}
use Rattle.fs_trace_entries.proofs.objects.push_return.Goals as goal

pub returns-clause-ok : goal.returns-clause-ok
returns-clause-ok c =
    let more : c.push.new.self.items ≡ c.in_ok-members.members.items ++ c.text.result ∷ [] = search rules in
    on_ok_weaker c.push_members.result
    (λ e. returned (c.args.at + 1) c.args.number c.args.reply.now c.in_ok-members.members.items c.push.new.self.items c.text.result c.as_slice.result.now c.args.text.now.added c.push_members.new.text.added more c.text.ensures (c.as_slice.ensures.value ∙ c.in_ok-words.ensures) e)
    c.push_members.ensures.ok
