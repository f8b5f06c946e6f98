use Rattle.std.proofs.Common.{rules}
use Rattle.std.proofs.lemmas.Fn.{always_returns_same}
use Rattle.fs_names.specs.Names.{name_cmp}
use Rattle.fs_seq_nodes.specs.declared.nodes.Link.{Link}
use Rattle.fs_seq_nodes.proofs.SearchLemmas.{bisected}
use Rattle.fs_seq_nodes.proofs.nodes.bisect.Goals as goal

pub returns : goal.returns
returns c = bisected c.args.name.now c.args.links.now c.binary_search_by.result c.requires c.binary_search_by.ensures.bound (c.binary_search_by.ensures.position (λ (l : Link). name_cmp l.name c.args.name.now) (always_returns_same _ _ _ (λ a r g called. search rules)))
