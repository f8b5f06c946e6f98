use Rattle.std.proofs.Common.{List, ℕ, ◌≡◌, ◌+◌, ◌≤◌, ◌++◌, length, take, drop, sym, ap, ◌∙◌, arith}
use Rattle.std.proofs.lemmas.List.FromFn.{length-map-range_with_len}
use Rattle.fs_blocks.specs.code.Bytes.{byte_of_file, bytes_from}
use Rattle.fs_blocks.proofs.SpanLemmas.{bytes_from-part}
use Rattle.fs_blocks.proofs.long.Long.read.Goals as goal

pub returns : goal.returns
returns c =
    let first = c.self.inside.first in
    let f = byte_of_file first c.self.inside.chunks.items in
    let len : c.self.inside.len ≡ length c.args.self.now = sym (length-map-range_with_len f 0 c.self.inside.len) ∙ ap (λ (xs : List ℕ). length xs) c.self.view_is in
    let fits : c.args.off + c.args.count ≤ c.self.inside.len = omega (arith, c.requires.within) in
    c.read_all.ensures
    ∙ ap (λ (xs : List ℕ). c.args.into.now.items ++ xs)
    (ap (λ (chunks : List (List (List ℕ))). bytes_from (byte_of_file first chunks) c.args.off c.args.count) c.deref.ensures.value
    ∙ sym (bytes_from-part f c.self.inside.len c.args.off c.args.count fits)
    ∙ ap (λ (xs : List ℕ). take c.args.count (drop c.args.off xs)) c.self.view_is)
