use Rattle.std.proofs.Common.{◌≡◌, ◌<◌, [], ◌∷◌, List, ap, sym, ◌∙◌, arith, length, refl}
use Rattle.fs_seq_nodes.specs.declared.nodes.Link.{Link}
use Rattle.fs_seq_nodes.specs.code.Lists.{flat, list_at}
use Rattle.fs_seq_nodes.proofs.FlatLemmas.{joined_without_empty, all_with}
use Rattle.fs_seq_nodes.proofs.ListEdits.{got}
use Rattle.fs_seq_nodes.proofs.many.shrink.Goals as goal

-- a list without entries
none_there : (l : List Link) → length l ≡ 0 → l ≡ []
none_there [] e = refl
none_there (x ∷ l) e = absurd (omega arith)

pub returns-then-len-eq0-clause-same : goal.returns-then-len-eq0-clause-same
returns-then-len-eq0-clause-same c =
    let ls = c.args.lists.now.items in
    let same = got ls c.args.i c.index.result.now c.requires.list c.index.ensures in
    ap flat c.remove.ensures.items ∙ joined_without_empty ls c.args.i c.requires.list (none_there (list_at ls c.args.i) (ap length (sym same) ∙ sym c.len.ensures.len ∙ c.if-len-eq0.true))

pub join-requires-clause-lists : goal.join-requires-clause-lists
join-requires-clause-lists c =
    let ls = c.args.lists.now.items in
    let same = got ls c.args.i c.index.result.now c.requires.list c.index.ensures in
    let some = c.if-len-eq0.false in
    let long : c.len.result ≡ length (list_at ls c.args.i) = c.len.ensures.len ∙ ap length same in
    all_with (λ l. 0 < length l) ls c.args.i c.requires.list c.requires.others (omega (arith, some, long))
