use Rattle.std.proofs.Common.{◌<◌, length, arith, sym, ◌∙◌, ap, length-drop, drop, ◌+◌, ◌∷◌}
use Rattle.std.proofs.lemmas.Bool.Decides.{nat_tests}
use Rattle.fs_words.specs.Lines.{lines_of}
use Rattle.fs_words.proofs.ReadLemmas.{lines_cut, lines_whole}
use Rattle.fs_words.proofs.lines.cut_line.Goals as goal

pub returns-in-Some : goal.returns-in-Some
returns-in-Some c =
    let xs = c.args.text.now in
    let at = c.in-Some.at in
    let cut = lines_cut xs at (sym c.line_end.ensures ∙ c.in-Some.is) in
    let back = c.parts.ensures.back in (
      cut.1 ∙ ap (λ line. line ∷ lines_of (drop (at + 1) xs)) (sym c.parts.ensures.front) ∙ ap (λ more. c.parts.result.0.now ∷ lines_of more) (sym back),
      omega (arith, cut.0, ap length back, length-drop (at + 1) xs),
    )

pub returns-in-None : goal.returns-in-None
returns-in-None c =
    let some : 0 < length c.args.text.now = grind (arith, nat_tests) in
    (lines_whole c.args.text.now (sym c.line_end.ensures ∙ c.in-None.is) some, some)
