use Rattle.std.proofs.Common.{List, ℕ, ◌≡◌, ◌+◌, ◌≤◌, ◌<◌, length, max, ap, ◌∙◌, arith}
use Rattle.fs_calls.specs.Rows.{written}
use Rattle.fs_blocks.specs.declared.sizes.TheConstants.{BLOCK}
use Rattle.fs_blocks.specs.code.Bytes.{byte_of_file, bytes_from}
use Rattle.fs_blocks.proofs.FileLemmas.{Puts-file}
use Rattle.fs_blocks.proofs.SpanLemmas.{bytes_from-written}
use Rattle.fs_blocks.proofs.long.Long.write.Goals as goal

pub returns : goal.returns
returns c =
    let bytes = c.args.bytes in
    let before = c.count_in_first-before in
    let old = byte_of_file c.self.inside.first c.self.inside.chunks.items in
    let new = byte_of_file c.put_first.new.first c.put_rest.new.chunks.items in
    let fits : before.result ≤ length bytes = omega arith in
    let behind : before.result < length bytes → BLOCK ≤ c.args.off + before.result = λ h. omega arith in
    let put = Puts-file c.self.inside.first c.put_first.new.first c.self.inside.chunks.items c.put_rest.new.chunks.items c.args.off before.result bytes c.split_at-head.result.0 c.split_at-head.result.1 fits c.split_at-head.ensures.front c.split_at-head.ensures.back before.ensures.first behind c.put_first.ensures.bytes c.put_rest.ensures in
    let len : c.max-self-inside.result ≡ max c.self.inside.len (c.args.off + length bytes) = omega arith in
    ap (bytes_from new 0) len
    ∙ bytes_from-written old new c.self.inside.len c.args.off bytes c.self.invariant put
    ∙ ap (λ (xs : List ℕ). written xs c.args.off bytes) c.self.view_is
