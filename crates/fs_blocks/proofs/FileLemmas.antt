-- The first block of a file, and what stands behind it.
use Rattle.std.proofs.Common.{ℕ, ◌≡◌, ◌+◌, ◌-◌, ◌*◌, ◌/◌, ◌%◌, ◌<◌, ◌≤◌, List, ◌++◌, length, get_or, take, drop, refl, sym, ap, ◌∙◌, arith, ⊎_elim}
use Rattle.std.proofs.lemmas.Bool.{cases_lt, cond_below, cond_above}
use Rattle.std.proofs.lemmas.List.{append_assoc, length-take-le, length-drop, get_or-take, get_or-drop}
use Rattle.std.proofs.lemmas.Nat.{div-add-mod'}
use Rattle.fs_blocks.specs.declared.sizes.TheConstants.{BLOCK}
use Rattle.fs_blocks.specs.code.Bytes.{byte_of_block, byte_of_rest, byte_of_file, bytes_from, Puts}
use Rattle.fs_blocks.proofs.SpanLemmas.{bytes_from-list, bytes_from-same, bytes_from-add}

file_first : (first : List ℕ) (chunks : List (List (List ℕ))) (i : ℕ) → i < BLOCK → byte_of_file first chunks i ≡ byte_of_block first i
file_first first chunks i h = sym (cond_below i BLOCK (byte_of_block first i) (byte_of_rest chunks (i - BLOCK)) h)

file_behind : (first : List ℕ) (chunks : List (List (List ℕ))) (i : ℕ) → BLOCK ≤ i → byte_of_file first chunks i ≡ byte_of_rest chunks (i - BLOCK)
file_behind first chunks i h = sym (cond_above i BLOCK (byte_of_block first i) (byte_of_rest chunks (i - BLOCK)) (byte_of_rest chunks (i - BLOCK)) h refl)

-- bytes are put into the first block, and those that follow behind it
pub Puts-file : (first first' : List ℕ) (chunks chunks' : List (List (List ℕ))) (off before : ℕ) (bytes head rest : List ℕ) → before ≤ length bytes → head ≡ take before bytes → rest ≡ drop before bytes → (0 < before → off + before ≤ BLOCK) → (before < length bytes → BLOCK ≤ off + before) → Puts (byte_of_block first) (byte_of_block first') off head → Puts (byte_of_rest chunks) (byte_of_rest chunks') ((off + before) - BLOCK) rest → Puts (byte_of_file first chunks) (byte_of_file first' chunks') off bytes
Puts-file first first' chunks chunks' off before bytes head rest fits h r in_first behind put_head put_rest =
    let head_len : length head ≡ before = ap (λ (xs : List ℕ). length xs) h ∙ length-take-le before bytes fits in
    let rest_len : length rest ≡ length bytes - before = ap (λ (xs : List ℕ). length xs) r ∙ length-drop before bytes in
    record {
      inside = λ k lt.
          ⊎_elim
          (λ (here : k < before).
          let most : off + before ≤ BLOCK = in_first (omega arith) in
          file_first first' chunks' (off + k) (omega arith) ∙ put_head.inside k (omega arith) ∙ ap (λ (xs : List ℕ). get_or xs k 0) h ∙ get_or-take before bytes k 0 here)
          (λ (there : before ≤ k).
          let least : BLOCK ≤ off + before = behind (omega arith) in
          let e : (off + k) - BLOCK ≡ ((off + before) - BLOCK) + (k - before) = omega arith in
          let e' : before + (k - before) ≡ k = omega arith in
          file_behind first' chunks' (off + k) (omega arith) ∙ ap (byte_of_rest chunks') e ∙ put_rest.inside (k - before) (omega arith) ∙ ap (λ (xs : List ℕ). get_or xs (k - before) 0) r ∙ get_or-drop before bytes (k - before) 0 ∙ ap (λ (n : ℕ). get_or bytes n 0) e')
          (cases_lt k before);
      below = λ i lt.
          ⊎_elim
          (λ (here : i < BLOCK). file_first first' chunks' i here ∙ put_head.below i lt ∙ sym (file_first first chunks i here))
          (λ (there : BLOCK ≤ i). file_behind first' chunks' i there ∙ put_rest.below (i - BLOCK) (omega arith) ∙ sym (file_behind first chunks i there))
          (cases_lt i BLOCK);
      above = λ i le.
          ⊎_elim
          (λ (here : i < BLOCK). file_first first' chunks' i here ∙ put_head.above i (omega arith) ∙ sym (file_first first chunks i here))
          (λ (there : BLOCK ≤ i).
          let past : ((off + before) - BLOCK) + length rest ≤ i - BLOCK =
          ⊎_elim
          (λ (some : before < length bytes). let least : BLOCK ≤ off + before = behind some in omega arith)
          (λ (none : length bytes ≤ before). omega arith)
          (cases_lt before (length bytes))
          in
          file_behind first' chunks' i there ∙ put_rest.above (i - BLOCK) past ∙ sym (file_behind first chunks i there))
          (cases_lt i BLOCK);
    }

-- a file that has only its first block
pub bytes_from-first : (first : List ℕ) (chunks : List (List (List ℕ))) (len : ℕ) → len ≡ length first → length first ≤ BLOCK → bytes_from (byte_of_file first chunks) 0 len ≡ first
bytes_from-first first chunks len e most =
    sym
    (bytes_from-list first (byte_of_file first chunks) 0 len (sym e)
    (λ k h. sym (file_first first chunks k (omega arith)) ∙ ap (byte_of_file first chunks) (omega arith)))

-- what is read of a block, and then what follows
pub bytes_from-piece : (into new block : List ℕ) (f : ℕ → ℕ) (at piece left : ℕ) → piece ≤ left → at % BLOCK + piece ≤ BLOCK → new ≡ into ++ bytes_from (byte_of_block block) (at % BLOCK) piece → ((i : ℕ) → i < BLOCK → f (at / BLOCK * BLOCK + i) ≡ get_or block i 0) → new ++ bytes_from f (at + piece) (left - piece) ≡ into ++ bytes_from f at left
bytes_from-piece into new block f at piece left fits most is same =
    let here : bytes_from (byte_of_block block) (at % BLOCK) piece ≡ bytes_from f at piece =
    bytes_from-same (byte_of_block block) f (at % BLOCK) at piece
    (λ k h.
    let e : at / BLOCK * BLOCK + (at % BLOCK + k) ≡ at + k = omega (arith, div-add-mod' at BLOCK) in
    sym (same (at % BLOCK + k) (omega arith)) ∙ ap f e)
    in
    let all : piece + (left - piece) ≡ left = omega arith in
    ap (λ (xs : List ℕ). xs ++ bytes_from f (at + piece) (left - piece)) (is ∙ ap (λ (xs : List ℕ). into ++ xs) here)
    ∙ append_assoc into (bytes_from f at piece) (bytes_from f (at + piece) (left - piece))
    ∙ ap (λ (xs : List ℕ). into ++ xs) (sym (bytes_from-add f at piece (left - piece)) ∙ ap (bytes_from f at) all)
