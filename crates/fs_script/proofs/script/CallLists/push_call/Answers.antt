use Rattle.std.proofs.Common.{◌≡◌, ◌+◌, ◌-◌, length, arith, sym, ap, ◌∙◌}
use Rattle.fs_script.proofs.ScriptLemmas.{call_pushed, length_mapped}
use Rattle.fs_script.proofs.script.CallLists.push_call.Goals as goal

pub returns : goal.returns
returns c =
    let vs = c.self.inside.lists.items in
    let same : length vs ≡ length c.args.self.now = sym (length_mapped (λ v. v.items) vs) ∙ ap length c.self.view_is in
    let len : (c.len-last.result - 1) + 1 ≡ length vs = omega (arith, same, c.requires, c.len-last.ensures, c.self.inside.lists.ok.0) in
    call_pushed (λ v. v.items) c.push_last.result vs c.args.self.now c.index_mut.result.now c.push_last.new.calls _ (c.len-last.result - 1) c.args.call len c.self.view_is c.index_mut.ensures.value c.push_last.ensures
