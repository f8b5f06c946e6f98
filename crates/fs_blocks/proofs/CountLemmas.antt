-- How many parts a piece touches, one part after the other.
use Rattle.std.proofs.Common.{ℕ, zero, suc, ◌≡◌, ◌+◌, ◌-◌, ◌/◌, ◌%◌, ◌<◌, ◌≤◌, min, ap, ◌∙◌, arith, ⊎_elim}
use Rattle.std.proofs.lemmas.Bool.{cases_lt}
use Rattle.fs_blocks.specs.declared.sizes.TheConstants.{BLOCK, SPAN}
use Rattle.fs_blocks.specs.Spares.{parts_of}

-- of one byte or more
pub parts_of-some : (size place count : ℕ) → 0 < count → parts_of size place count ≡ (place % size + (count - 1)) / size + 1
parts_of-some size place zero h = absurd (omega arith)
parts_of-some size place (suc more) h = ap (λ (n : ℕ). (place % size + n) / size + 1) (omega arith)

-- the bytes in the first part, and those behind it
pub parts_of-block : (place count left : ℕ) → 0 < left → count ≡ min left (BLOCK - place % BLOCK) → parts_of BLOCK (place + count) (left - count) + 1 ≡ parts_of BLOCK place left
parts_of-block place count left some is =
    ⊎_elim
    (λ (more : count < left).
    let last : (place + count) % BLOCK ≡ 0 = omega arith in
    omega (arith, parts_of-some BLOCK (place + count) (left - count) (omega arith), parts_of-some BLOCK place left some))
    (λ (all : left ≤ count).
    let none : left - count ≡ 0 = omega arith in
    ap (λ (n : ℕ). parts_of BLOCK (place + count) n + 1) none ∙ omega (arith, parts_of-some BLOCK place left some))
    (cases_lt count left)

pub parts_of-span : (place count left : ℕ) → 0 < left → count ≡ min left (SPAN - place % SPAN) → parts_of SPAN (place + count) (left - count) + 1 ≡ parts_of SPAN place left
parts_of-span place count left some is =
    ⊎_elim
    (λ (more : count < left).
    let last : (place + count) % SPAN ≡ 0 = omega arith in
    omega (arith, parts_of-some SPAN (place + count) (left - count) (omega arith), parts_of-some SPAN place left some))
    (λ (all : left ≤ count).
    let none : left - count ≡ 0 = omega arith in
    ap (λ (n : ℕ). parts_of SPAN (place + count) n + 1) none ∙ omega (arith, parts_of-some SPAN place left some))
    (cases_lt count left)

-- the blocks of the bytes in the first chunk, and of those behind it
pub parts_of-chunk : (place count left : ℕ) → 0 < left → count ≡ min left (SPAN - place % SPAN) → parts_of BLOCK (place % SPAN) count + parts_of BLOCK (place + count) (left - count) ≡ parts_of BLOCK place left
parts_of-chunk place count left some is =
    let inner : place % SPAN % BLOCK ≡ place % BLOCK = omega arith in
    ⊎_elim
    (λ (more : count < left).
    let last : (place + count) % BLOCK ≡ 0 = omega arith in
    omega (arith, parts_of-some BLOCK (place % SPAN) count (omega arith), parts_of-some BLOCK (place + count) (left - count) (omega arith), parts_of-some BLOCK place left some))
    (λ (all : left ≤ count).
    let none : left - count ≡ 0 = omega arith in
    let same : count ≡ left = omega arith in
    ap (λ (n : ℕ). parts_of BLOCK (place % SPAN) count + parts_of BLOCK (place + count) n) none ∙ omega (arith, parts_of-some BLOCK (place % SPAN) count (omega arith), parts_of-some BLOCK place left some))
    (cases_lt count left)
