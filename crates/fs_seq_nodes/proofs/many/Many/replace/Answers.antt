use Rattle.std.proofs.Common.{◌<◌, ℕ, ap, sym, subst, ◌∙◌, length}
use Rattle.std.specs.Prelude.{remove, slice_set}
use Rattle.std.specs.FinMap.{find, put, is_sorted}
use Rattle.fs_names.specs.Names.{Name, name_cmp}
use Rattle.fs_seq_nodes.specs.declared.piece.TheConstants.{MOST}
use Rattle.fs_seq_nodes.specs.code.Entries.{pairs}
use Rattle.fs_seq_nodes.specs.code.Lists.{IsIn, flat}
use Rattle.fs_seq_nodes.proofs.FlatLemmas.{length_set, got_set}
use Rattle.fs_seq_nodes.proofs.ListEdits.{taken_at, emptied, left_pairs, back_again}
use Rattle.fs_seq_nodes.proofs.many.Many.replace.Goals as goal

pub put_in-requires-clause-rising : goal.put_in-requires-clause-rising
put_in-requires-clause-rising c =
    let ls = c.self.inside.lists.items in
    let i = c.find-i.result.0 in
    let q = c.remove-link.new.self in
    let is = subst (λ z. IsIn z c.args.place i c.find-i.result.1) c.deref.ensures.value c.find-i.ensures in
    let gone = taken_at ls c.args.place i c.find-i.result.1 c.index_mut.result.now q is c.index_mut.ensures.value c.remove-link.ensures.links in
    let left = ap flat c.remove-spare.ensures.items ∙ emptied (slice_set ls i q) i c.index.result.now (subst (λ n. i < n) (sym (length_set ls i q)) is.list) c.index.ensures (sym c.len.ensures.len ∙ c.if-len-eq0.true) ∙ gone in
    ap (is_sorted name_cmp) (left_pairs (flat ls) (flat c.remove-spare.new.self.items) c.args.place left ∙ ap (λ z. remove (pairs z) c.args.place) c.self.view_is) ∙ c.requires.rising

pub put_in-requires-clause-absent : goal.put_in-requires-clause-absent
put_in-requires-clause-absent c =
    let ls = c.self.inside.lists.items in
    let i = c.find-i.result.0 in
    let q = c.remove-link.new.self in
    let is = subst (λ z. IsIn z c.args.place i c.find-i.result.1) c.deref.ensures.value c.find-i.ensures in
    let gone = taken_at ls c.args.place i c.find-i.result.1 c.index_mut.result.now q is c.index_mut.ensures.value c.remove-link.ensures.links in
    let left = ap flat c.remove-spare.ensures.items ∙ emptied (slice_set ls i q) i c.index.result.now (subst (λ n. i < n) (sym (length_set ls i q)) is.list) c.index.ensures (sym c.len.ensures.len ∙ c.if-len-eq0.true) ∙ gone in
    ap (λ (z : Name × ℕ). find name_cmp z.0 (pairs (flat c.remove-spare.new.self.items))) c.reset.ensures
    ∙ ap (find name_cmp c.args.name) (left_pairs (flat ls) (flat c.remove-spare.new.self.items) c.args.place left ∙ ap (λ z. remove (pairs z) c.args.place) c.self.view_is) ∙ c.requires.absent

pub invariant_of-self : goal.invariant_of-self
invariant_of-self c =
    let ls = c.self.inside.lists.items in
    let i = c.find-i.result.0 in
    let q = c.remove-link.new.self in
    let is = subst (λ z. IsIn z c.args.place i c.find-i.result.1) c.deref.ensures.value c.find-i.ensures in
    let gone = taken_at ls c.args.place i c.find-i.result.1 c.index_mut.result.now q is c.index_mut.ensures.value c.remove-link.ensures.links in
    let left = ap flat c.remove-spare.ensures.items ∙ emptied (slice_set ls i q) i c.index.result.now (subst (λ n. i < n) (sym (length_set ls i q)) is.list) c.index.ensures (sym c.len.ensures.len ∙ c.if-len-eq0.true) ∙ gone in
    (c.put_in.ensures.lists, c.self.invariant.1 ∙ back_again (flat ls) (flat c.remove-spare.new.self.items) (flat c.put_in.new.lists.items) c.args.place (subst (λ z. c.args.place < length z) (sym c.self.view_is) c.requires.within) left c.put_in.ensures.len)

pub put_back-requires-clause-room : goal.put_back-requires-clause-room
put_back-requires-clause-room c =
    let ls = c.self.inside.lists.items in
    let is = subst (λ z. IsIn z c.args.place c.find-i.result.0 c.find-i.result.1) c.deref.ensures.value c.find-i.ensures in
    subst (λ z. length z < MOST) (sym (got_set ls c.find-i.result.0 c.remove-link.new.self is.list)) c.remove-link.ensures.most

pub put_back-requires-clause-rising : goal.put_back-requires-clause-rising
put_back-requires-clause-rising c =
    let ls = c.self.inside.lists.items in
    let i = c.find-i.result.0 in
    let q = c.remove-link.new.self in
    let is = subst (λ z. IsIn z c.args.place i c.find-i.result.1) c.deref.ensures.value c.find-i.ensures in
    let gone = taken_at ls c.args.place i c.find-i.result.1 c.index_mut.result.now q is c.index_mut.ensures.value c.remove-link.ensures.links in
    ap (is_sorted name_cmp) (left_pairs (flat ls) (flat (slice_set ls i q)) c.args.place gone ∙ ap (λ z. remove (pairs z) c.args.place) c.self.view_is) ∙ c.requires.rising

pub put_back-requires-clause-absent : goal.put_back-requires-clause-absent
put_back-requires-clause-absent c =
    let ls = c.self.inside.lists.items in
    let i = c.find-i.result.0 in
    let q = c.remove-link.new.self in
    let is = subst (λ z. IsIn z c.args.place i c.find-i.result.1) c.deref.ensures.value c.find-i.ensures in
    let gone = taken_at ls c.args.place i c.find-i.result.1 c.index_mut.result.now q is c.index_mut.ensures.value c.remove-link.ensures.links in
    ap (λ (z : Name × ℕ). find name_cmp z.0 (pairs (flat (slice_set ls i q)))) c.reset.ensures
    ∙ ap (find name_cmp c.args.name) (left_pairs (flat ls) (flat (slice_set ls i q)) c.args.place gone ∙ ap (λ z. remove (pairs z) c.args.place) c.self.view_is) ∙ c.requires.absent

pub invariant_of-self-else-len-eq0 : goal.invariant_of-self-else-len-eq0
invariant_of-self-else-len-eq0 c =
    let ls = c.self.inside.lists.items in
    let i = c.find-i.result.0 in
    let q = c.remove-link.new.self in
    let is = subst (λ z. IsIn z c.args.place i c.find-i.result.1) c.deref.ensures.value c.find-i.ensures in
    let gone = taken_at ls c.args.place i c.find-i.result.1 c.index_mut.result.now q is c.index_mut.ensures.value c.remove-link.ensures.links in
    (c.put_back.ensures.lists, c.self.invariant.1 ∙ back_again (flat ls) (flat (slice_set ls i q)) (flat c.put_back.new.lists.items) c.args.place (subst (λ z. c.args.place < length z) (sym c.self.view_is) c.requires.within) gone c.put_back.ensures.len)

pub returns-then-len-eq0-clause-links : goal.returns-then-len-eq0-clause-links
returns-then-len-eq0-clause-links c =
    let ls = c.self.inside.lists.items in
    let i = c.find-i.result.0 in
    let q = c.remove-link.new.self in
    let is = subst (λ z. IsIn z c.args.place i c.find-i.result.1) c.deref.ensures.value c.find-i.ensures in
    let gone = taken_at ls c.args.place i c.find-i.result.1 c.index_mut.result.now q is c.index_mut.ensures.value c.remove-link.ensures.links in
    let left = ap flat c.remove-spare.ensures.items ∙ emptied (slice_set ls i q) i c.index.result.now (subst (λ n. i < n) (sym (length_set ls i q)) is.list) c.index.ensures (sym c.len.ensures.len ∙ c.if-len-eq0.true) ∙ gone in
    c.put_in.ensures.links ∙ ap (λ (z : Name × ℕ). put name_cmp z.0 z.1 (pairs (flat c.remove-spare.new.self.items))) c.reset.ensures
    ∙ ap (put name_cmp c.args.name c.args.node) (left_pairs (flat ls) (flat c.remove-spare.new.self.items) c.args.place left ∙ ap (λ z. remove (pairs z) c.args.place) c.self.view_is)

pub returns-then-len-eq0-clause-len : goal.returns-then-len-eq0-clause-len
returns-then-len-eq0-clause-len c =
    let ls = c.self.inside.lists.items in
    let i = c.find-i.result.0 in
    let q = c.remove-link.new.self in
    let is = subst (λ z. IsIn z c.args.place i c.find-i.result.1) c.deref.ensures.value c.find-i.ensures in
    let gone = taken_at ls c.args.place i c.find-i.result.1 c.index_mut.result.now q is c.index_mut.ensures.value c.remove-link.ensures.links in
    let left = ap flat c.remove-spare.ensures.items ∙ emptied (slice_set ls i q) i c.index.result.now (subst (λ n. i < n) (sym (length_set ls i q)) is.list) c.index.ensures (sym c.len.ensures.len ∙ c.if-len-eq0.true) ∙ gone in
    sym (back_again (flat ls) (flat c.remove-spare.new.self.items) (flat c.put_in.new.lists.items) c.args.place (subst (λ z. c.args.place < length z) (sym c.self.view_is) c.requires.within) left c.put_in.ensures.len) ∙ ap length c.self.view_is

pub returns-else-len-eq0-clause-links : goal.returns-else-len-eq0-clause-links
returns-else-len-eq0-clause-links c =
    let ls = c.self.inside.lists.items in
    let i = c.find-i.result.0 in
    let q = c.remove-link.new.self in
    let is = subst (λ z. IsIn z c.args.place i c.find-i.result.1) c.deref.ensures.value c.find-i.ensures in
    let gone = taken_at ls c.args.place i c.find-i.result.1 c.index_mut.result.now q is c.index_mut.ensures.value c.remove-link.ensures.links in
    c.put_back.ensures.links ∙ ap (λ (z : Name × ℕ). put name_cmp z.0 z.1 (pairs (flat (slice_set ls i q)))) c.reset.ensures
    ∙ ap (put name_cmp c.args.name c.args.node) (left_pairs (flat ls) (flat (slice_set ls i q)) c.args.place gone ∙ ap (λ z. remove (pairs z) c.args.place) c.self.view_is)

pub returns-else-len-eq0-clause-len : goal.returns-else-len-eq0-clause-len
returns-else-len-eq0-clause-len c =
    let ls = c.self.inside.lists.items in
    let i = c.find-i.result.0 in
    let q = c.remove-link.new.self in
    let is = subst (λ z. IsIn z c.args.place i c.find-i.result.1) c.deref.ensures.value c.find-i.ensures in
    let gone = taken_at ls c.args.place i c.find-i.result.1 c.index_mut.result.now q is c.index_mut.ensures.value c.remove-link.ensures.links in
    sym (back_again (flat ls) (flat (slice_set ls i q)) (flat c.put_back.new.lists.items) c.args.place (subst (λ z. c.args.place < length z) (sym c.self.view_is) c.requires.within) gone c.put_back.ensures.len) ∙ ap length c.self.view_is
