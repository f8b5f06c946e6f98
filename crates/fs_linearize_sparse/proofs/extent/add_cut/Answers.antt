use Rattle.std.proofs.Common.{rules, ◌≡◌, ℕ, ◌-◌, List, ◌++◌, length, take, drop, replicate, sym, ap, ◌∙◌}
use Rattle.std.specs.List.{flat_map}
use Rattle.fs_linearize_sparse.specs.code.Extents.{bytes_of}
use Rattle.fs_linearize_sparse.proofs.PartLemmas.{extent_part, extent_left}
use Rattle.fs_linearize_sparse.proofs.extent.add_cut.Goals as goal

pub returns-clause-added : goal.returns-clause-added
returns-clause-added c =
    let s = c.after-behind.result.skip in
    let n = c.after-behind.result.count in
    let bytes : c.bytes.result.now ≡ take n (drop s c.args.extent.now.data.items) = c.bytes.ensures ∙ ap (λ (z : List ℕ). take n (drop s z)) c.deref.ensures.value in
    c.in_ok-add.ensures
    ∙ ap (λ (z : List ℕ). flat_map bytes_of c.args.to.now.items ++ z)
    (ap (λ (z : List ℕ). z ++ c.bytes.result.now) c.zeros.ensures
    ∙ ap (λ (z : List ℕ). take c.args.cut.count (drop c.args.cut.skip (replicate {A = ℕ} c.args.extent.now.hole 0)) ++ z) bytes
    ∙ sym (extent_part c.args.cut.skip c.args.cut.count s n c.args.extent.now c.after-behind.ensures.skip c.after-behind.ensures.count))

pub returns-clause-left : goal.returns-clause-left
returns-clause-left c rest =
    let long : c.len.result ≡ length c.args.extent.now.data.items = search rules in
    let s = c.after-behind.result.skip in
    let n = c.after-behind.result.count in
    extent_left c.args.cut.skip c.args.cut.count s n c.after.result.skip c.after.result.count c.args.extent.now rest
    c.after-behind.ensures.skip c.after-behind.ensures.count
    (c.after.ensures.skip ∙ ap (λ k. s - k) long) (c.after.ensures.count ∙ ap (λ k. n - (k - s)) long)
