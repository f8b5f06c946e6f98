use Rattle.std.proofs.Common.{◌≡◌, ◌+◌, ◌∷◌, [], ◌∙◌, ap, codes, rules}
use Rattle.std.proofs.lemmas.Result.{on_ok_weaker}
use Rattle.fs_words.specs.JsonObjects.{Number}
use Rattle.fs_trace_entries.proofs.Objecting.{begun}
use Rattle.fs_trace_entries.proofs.objects.push_begin.Goals as goal

pub returns-clause-ok : goal.returns-clause-ok
returns-clause-ok c =
    let more : c.push-2.new.self.items ≡ c.number.result ∷ c.text.result ∷ [] = search rules in
    let seat = c.number.ensures ∙ ap (λ n. (codes "seat", Number n)) c.get.ensures in
    on_ok_weaker c.push_members.result
    (λ e. begun (c.args.at + 1) c.args.number c.args.seat c.args.call.now c.push-2.new.self.items c.number.result c.text.result c.as_slice.result.now c.args.text.now.added c.push_members.new.text.added more seat c.text.ensures (c.as_slice.ensures.value ∙ c.in_ok-words.ensures) e)
    c.push_members.ensures.ok
