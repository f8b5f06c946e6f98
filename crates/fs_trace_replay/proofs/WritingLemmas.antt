-- The path of a key, as it is written.
use Rattle.std.proofs.Common.{◌≡◌, ℕ, true, false, List, [], ◌∷◌, ◌++◌, length, refl, sym, ap, ◌∙◌, arith}
use Rattle.std.proofs.lemmas.Bool.{eqb-true}
use Rattle.std.specs.Prelude.{◌==◌}
use Rattle.std.specs.List.{flat_map}
use Rattle.fs_names.specs.Names.{Name}
use Rattle.fs_names.specs.Keys.{Key}
use Rattle.fs_words.specs.Words.{escaped, path_word}
use Rattle.fs_script.proofs.NodeLines.{path_spelled, root_pushed}

pub root_written : (line new : List ℕ) (key : Key) → (length key == 0) ≡ true → new ≡ line ++ 47 ∷ [] → new ≡ line ++ path_word key
root_written line new [] none e = root_pushed line new [] refl e
root_written line new (x ∷ key) none e = absurd (omega (arith, eqb-true (length (x ∷ key)) 0 none))

pub key_written : (line new : List ℕ) (key : Key) → (length key == 0) ≡ false → new ≡ line ++ flat_map (λ (n : Name). 47 ∷ escaped n) key → new ≡ line ++ path_word key
key_written line new [] some e = absurd (cc)
key_written line new (x ∷ key) some e = e ∙ ap (λ (z : List ℕ). line ++ z) (sym (path_spelled x key))

-- pieces that are written one behind the other
pub chained : (a1 a2 a3 a4 a5 a6 k t u p1 n1 p2 n2 p3 th p4 n3 p5 w e : List ℕ) → a1 ≡ p1 ++ n1 → a2 ≡ a1 ++ p2 ++ n2 → a3 ≡ a2 ++ p3 → a4 ≡ a3 ++ th → a5 ≡ a4 ++ p4 ++ n3 → a6 ≡ a5 ++ p5 → k ≡ a6 → t ≡ k ++ w → u ≡ t ++ e
    → u ≡ p1 ++ n1 ++ p2 ++ n2 ++ p3 ++ th ++ p4 ++ n3 ++ p5 ++ w ++ e
chained a1 a2 a3 a4 a5 a6 k t u p1 n1 p2 n2 p3 th p4 n3 p5 w e h1 h2 h3 h4 h5 h6 h7 h8 h9 = cc
