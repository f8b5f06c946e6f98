use Rattle.std.proofs.Common.{List, ℕ, length, sym, ap, ◌∙◌}
use Rattle.std.proofs.lemmas.List.FromFn.{length-map-range_with_len}
use Rattle.fs_blocks.specs.code.Bytes.{byte_of_file}
use Rattle.fs_blocks.proofs.long.Long.len.Goals as goal

pub returns : goal.returns
returns c =
    sym (length-map-range_with_len (byte_of_file c.self.inside.first c.self.inside.chunks.items) 0 c.self.inside.len) ∙ ap (λ (xs : List ℕ). length xs) c.self.view_is
