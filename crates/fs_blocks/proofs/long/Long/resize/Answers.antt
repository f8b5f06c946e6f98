use Rattle.std.proofs.Common.{List, ℕ, ap, ◌∙◌}
use Rattle.fs_calls.specs.Rows.{resized}
use Rattle.fs_blocks.specs.code.Bytes.{byte_of_file}
use Rattle.fs_blocks.proofs.SpanLemmas.{bytes_from-resized}
use Rattle.fs_blocks.proofs.long.Long.resize.Goals as goal

pub returns : goal.returns
returns c =
    let old = byte_of_file c.self.inside.first c.self.inside.chunks.items in
    let new = byte_of_file c.shorten.new.first c.shorten.new.chunks.items in
    bytes_from-resized old new c.self.inside.len c.args.size c.self.invariant c.shorten.ensures.below
    ∙ ap (λ (xs : List ℕ). resized xs c.args.size) c.self.view_is
