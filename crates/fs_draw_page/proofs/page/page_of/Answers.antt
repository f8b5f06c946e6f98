use Rattle.std.proofs.Common.{rules}
use Rattle.fs_draw_page.proofs.Making.{page_made}
use Rattle.fs_draw_page.proofs.page.page_of.Goals as goal

pub returns : goal.returns
returns c =
    page_made c.args.picture.now c.args.played.now c.extend_from_slice.new.self.items c.extend_from_slice-2.new.self.items c.extend_from_slice-3.new.self.items c.push_played.new.page.items c.extend_from_slice-4.new.self.items
    (search rules) (search rules) (search rules) (search rules) (search rules)
