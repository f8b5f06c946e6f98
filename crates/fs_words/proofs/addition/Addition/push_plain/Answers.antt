use Rattle.std.proofs.Common.{◌≡◌, length, arith, sym, ◌∙◌}
use Rattle.fs_names.specs.Keys.{path_text}
use Rattle.fs_words.proofs.PlainLemmas.{plain_added}
use Rattle.fs_words.proofs.addition.Addition.push_plain.Goals as goal

pub returns-clause-plain : goal.returns-clause-plain
returns-clause-plain c _ =
    let from : c.len-from.result ≡ length c.self.inside.text.items = omega (arith, c.len-from.ensures) in
    rw (← c.self.view_is)
    (plain_added c.self.inside.start c.len-from.result c.self.inside.text.items c.write.new.text.items c.deref.result.now (path_text c.args.path.now) c.self.invariant from c.in_ok-write.ensures.ok c.deref.ensures.value
    (sym c.any_escaped.ensures ∙ c.if-any_escaped.false))
