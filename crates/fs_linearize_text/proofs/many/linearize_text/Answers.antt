use Rattle.std.proofs.Common.{subst, ap, ◌∙◌}
use Rattle.fs_words.proofs.ReadLemmas.{words_in}
use Rattle.fs_linearize_text.specs.Makes.{Given, MakesMany}
use Rattle.fs_linearize_text.proofs.ManyLemmas.{many_by}
use Rattle.fs_linearize_text.proofs.many.linearize_text.Goals as goal

pub returns : goal.returns
returns g c =
    let lines = c.in_ok-lines.ensures.ok in
    subst (λ (given : Given). MakesMany given c.args.limit c.linearize_lines.result)
    (many_by c.args.dialect.now c.args.text.now (words_in c.deref.result.now) lines.0 (ap words_in c.deref.ensures.value ∙ lines.1)) c.linearize_lines.ensures
