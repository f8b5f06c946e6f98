use Rattle.std.proofs.Common.{◌<◌, ap, sym, subst, ◌∙◌, length}
use Rattle.fs_seq_nodes.specs.code.Lists.{IsIn}
use Rattle.fs_seq_nodes.proofs.ListEdits.{led_at, led_count, read_some, still_some}
use Rattle.fs_seq_nodes.proofs.many.Many.lead.Goals as goal

pub invariant_of-self : goal.invariant_of-self
invariant_of-self c =
    let ls = c.self.inside.lists.items in
    let is = subst (λ z. IsIn z c.args.place c.find-i.result.0 c.find-i.result.1) c.deref.ensures.value c.find-i.ensures in
    let told = led_count ls c.args.place c.find-i.result.0 c.find-i.result.1 c.args.node c.index_mut.result.now c.lead.new.self is c.index_mut.ensures.value c.lead.ensures in
    let some = read_some ls c.find-i.result.0 c.index_mut.result.now c.self.invariant.0 is.list c.index_mut.ensures.value in
    (still_some ls c.find-i.result.0 c.lead.new.self c.self.invariant.0 (subst (λ n. 0 < n) (sym told.0) some), c.self.invariant.1 ∙ sym told.1)

pub returns-clause-leads : goal.returns-clause-leads
returns-clause-leads c x named =
    let ls = c.self.inside.lists.items in
    let is = subst (λ z. IsIn z c.args.place c.find-i.result.0 c.find-i.result.1) c.deref.ensures.value c.find-i.ensures in
    let told = led_at ls c.args.place c.find-i.result.0 c.find-i.result.1 c.args.node c.index_mut.result.now c.lead.new.self x is c.index_mut.ensures.value c.lead.ensures (rw c.self.view_is named) in
    rw c.self.view_is at told

pub returns-clause-len : goal.returns-clause-len
returns-clause-len c =
    let ls = c.self.inside.lists.items in
    let is = subst (λ z. IsIn z c.args.place c.find-i.result.0 c.find-i.result.1) c.deref.ensures.value c.find-i.ensures in
    let told = led_count ls c.args.place c.find-i.result.0 c.find-i.result.1 c.args.node c.index_mut.result.now c.lead.new.self is c.index_mut.ensures.value c.lead.ensures in
    told.1 ∙ ap length c.self.view_is
