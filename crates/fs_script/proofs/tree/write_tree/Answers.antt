use Rattle.std.proofs.Common.{◌≡◌, ap, ◌∙◌, Result, Ok, Err, OnOk}
use Rattle.fs_seq_nodes.specs.code.Slots.{tree_of}
use Rattle.fs_nodes.specs.Seen.{seen}
use Rattle.fs_script.specs.code.Walks.{forest_of}
use Rattle.fs_script.proofs.ForestLemmas.{store_tree}
use Rattle.fs_script.proofs.StepLemmas.{kept_after}
use Rattle.fs_script.proofs.tree.write_tree.Goals as goal

-- what holds of a text that was put back, where what was added says so
kept : {A E P Q R S : Type 0} (result added : Result A E) → result ≡ added → (P → Q → R → S) → OnOk result P → OnOk added Q → OnOk added R → OnOk result S
kept (Ok x) (Ok y) same go p q r = go p q r
kept (Ok x) (Err e) same go p q r = absurd (cc)
kept (Err e) added same go p q r = tt

pub returns-clause-ok : goal.returns-clause-ok
returns-clause-ok c =
    kept c.put_back.result c.push_tree-added.result c.put_back.ensures.same (λ text tree real. (
      tree_of (forest_of (seen c.args.store.now)),
      store_tree (seen c.args.store.now) real,
      kept_after _ _ _ c.args.text.now.items _ _ text (c.push_tree-added.ensures.before ∙ c.new-line.ensures.before ∙ ap (λ v. v.items) c.replace.ensures.value) tree c.new-line.ensures.added,
    )) c.put_back.ensures.ok c.push_tree-added.ensures.ok c.push_tree-added.ensures.real
