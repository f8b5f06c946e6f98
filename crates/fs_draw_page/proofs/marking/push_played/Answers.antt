use Rattle.std.proofs.Common.{◌≡◌, ap, ◌∙◌, rules, Some}
use Rattle.fs_draw_page.specs.Html.{printed}
use Rattle.fs_draw_page.specs.code.Marks.{marked}
use Rattle.fs_draw_page.proofs.Reading.{read_again}
use Rattle.fs_draw_page.proofs.marking.push_played.Goals as goal

pub returns : goal.returns
returns c =
    let text : c.push_printed.new.text.items ≡ printed c.args.played.now = search rules in
    (marked c.push_printed.new.text.items, search rules, read_again c.push_printed.new.text.items ∙ ap (λ t. Some t) text)
