-- By the first and the second limits no directory is crowded, and no read is cut.
use Rattle.std.proofs.Common.{◌≡◌, ◌≤◌, ◌<◌, ℕ, ◌⊎◌, inl, inr, false, List, length, take, drop, Option, Some, None, refl, sym, ap, ◌∙◌, arith}
use Rattle.std.specs.Prelude.{min}
use Rattle.std.proofs.Math.Nat.{min-eq_left, min-eq_right}
use Rattle.std.proofs.lemmas.Bool.{cases_lt}
use Rattle.std.proofs.lemmas.Bool.Decides.{nat_tests}
use Rattle.std.proofs.lemmas.List.{take_all, length-drop}
use Rattle.fs_names.specs.Keys.{Key}
use Rattle.fs_names.specs.Limits.{entry_limit, file_limit, read_limit}
use Rattle.fs_names.specs.declared.limits.Limits.{Limits}
use Rattle.fs_names.specs.declared.limits.Limits.TheVariants.{V1, V2}
use Rattle.fs_calls.specs.Tree.{Tree, Node, look, names_in, Dir, File}
use Rattle.fs_calls.specs.Sights.{shape_of, tree_shapes, bytes_of, is_crowded}
use Rattle.fs_calls.specs.declared.reply.Reply.TheVariants.{Bytes}
use Rattle.fs_seq.specs.Rows.{IsWithinLimits}
use Rattle.fs_seq.specs.RowLaws.{HasPlainReplies, EarlierRepliesArePlain}

-- a list that is no longer than the limit is not cut by it
short : (limit count : ℕ) (xs : List ℕ) → length xs ≤ limit → take (min count limit) xs ≡ take count xs
short limit count xs h = go (cases_lt count limit)
  where
    go : (count < limit) ⊎ (limit ≤ count) → take (min count limit) xs ≡ take count xs
    go (inl less) = let le : count ≤ limit = omega (arith, less) in ap (λ n. take n xs) (min-eq_left le)
    go (inr more) = let all : length xs ≤ count = omega (arith, h, more) in ap (λ n. take n xs) (min-eq_right more) ∙ take_all limit xs h ∙ sym (take_all count xs all)

module _ (limits : Limits) (few : entry_limit limits ≤ 256) (small : file_limit limits ≤ read_limit limits) where
  not_crowded : (t : Tree) (d : Key) (o : Option Node) → IsWithinLimits limits t → is_crowded (shape_of t d o) ≡ false
  not_crowded t d None within = refl
  not_crowded t d (Some Dir) within = let h : length (names_in t d) ≤ 256 = omega (arith, few, within.entries d) in grind (arith, nat_tests)
  not_crowded t d (Some (File bytes)) within = refl

  not_cut : (t : Tree) (k : Key) (o : Option Node) (off count : ℕ) → look t k ≡ o → IsWithinLimits limits t → length (bytes_of (shape_of t k o)) ≤ read_limit limits
  not_cut t k None off count is within = omega arith
  not_cut t k (Some Dir) off count is within = omega arith
  not_cut t k (Some (File bytes)) off count is within = omega (arith, small, within.bytes k bytes is)

  plain : HasPlainReplies limits
  plain = record {
    crowded = λ t d within. not_crowded t d (look t d) within;
    uncut = λ t k off count within.
        let whole = not_cut t k (look t k) off count refl within in
        ap Bytes (short (read_limit limits) count (drop off (bytes_of (tree_shapes t k))) (omega (arith, whole, length-drop off (bytes_of (tree_shapes t k)))));
  }

pub earlier_replies_are_plain : EarlierRepliesArePlain
earlier_replies_are_plain = (plain V1 (omega arith) (omega arith), plain V2 (omega arith) (omega arith))
