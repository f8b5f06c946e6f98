use Rattle.std.proofs.Common.{ap, ◌∙◌, subst}
use Rattle.std.specs.FinMap.{find, is_sorted}
use Rattle.fs_names.specs.Names.{name_cmp}
use Rattle.fs_seq_nodes.specs.code.Entries.{pairs, BelongsAt}
use Rattle.fs_seq_nodes.proofs.LinkLemmas.{not_in_place, replaced, pairs-remove}
use Rattle.fs_seq_nodes.proofs.links.replace.Goals as goal

pub search-requires : goal.search-requires
search-requires c = ap (is_sorted name_cmp) (ap pairs (c.deref.ensures.value ∙ c.remove-link.ensures.items) ∙ pairs-remove c.args.links.now.items c.args.place) ∙ c.requires.rising

pub unreachable-requires : goal.unreachable-requires
unreachable-requires c =
    not_in_place (pairs c.deref.result.now) c.args.name c.in_default.field-0
    (ap (find name_cmp c.args.name) (ap pairs (c.deref.ensures.value ∙ c.remove-link.ensures.items) ∙ pairs-remove c.args.links.now.items c.args.place) ∙ c.requires.absent)
    c.in_default.ensures

pub returns-clause-links : goal.returns-clause-links
returns-clause-links c =
    replaced c.args.links.now.items c.remove-link.new.self.items c.insert.new.self.items c.args.place c.in-Err.at c.reset.new.link _ _ c.reset.ensures c.remove-link.ensures.items c.in-Ok.ensures.items
    (subst (λ z. BelongsAt (pairs z) c.args.name c.in-Err.at) c.deref.ensures.value c.in-Err.ensures)
