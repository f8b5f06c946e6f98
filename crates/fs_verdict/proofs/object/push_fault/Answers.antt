use Rattle.std.proofs.Common.{◌++◌, ◌∙◌, ap, codes, decimal}
use Rattle.std.proofs.lemmas.Result.{on_ok_weaker}
use Rattle.fs_words.specs.Json.{string_text}
use Rattle.fs_words.proofs.Chains.{added, added_number}
use Rattle.fs_verdict.specs.Checks.{kind_word}
use Rattle.fs_verdict.proofs.object.push_fault.Goals as goal

pub returns-clause-ok : goal.returns-clause-ok
returns-clause-ok c =
    let kind = string_text (kind_word c.args.kind) in
    let reason = string_text c.args.reason.now in
    let last = reason ++ codes "}\n" in
    let told = codes ",\"reason\":" ++ last in
    let named = kind ++ told in
    let new = c.push-3.new.self.added in
    let word = c.in_ok-push_string.ensures.ok ∙ ap (λ w. c.push.new.self.added ++ string_text w) c.kind_text.ensures in
    on_ok_weaker c.push-3.result (λ e. added_number c.args.text.now.added (codes "{\"lawful\":false,\"place\":") (decimal c.args.place) (codes ",\"kind\":" ++ named) c.push_with_number.new.self.added new c.in_ok-push_with_number.ensures.ok
    (added c.push_with_number.new.self.added (codes ",\"kind\":") named c.push.new.self.added new c.in_ok-push.ensures.ok
    (added c.push.new.self.added kind told c.push_string.new.text.added new word
    (added c.push_string.new.text.added (codes ",\"reason\":") last c.push-2.new.self.added new c.in_ok-push-2.ensures.ok
    (added c.push-2.new.self.added reason (codes "}\n") c.push_string-2.new.text.added new c.in_ok-push_string-2.ensures.ok e))))) c.push-3.ensures.ok
