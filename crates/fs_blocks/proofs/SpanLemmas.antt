-- Lists that are made of bytes by their places.
use Rattle.std.proofs.Common.{ℕ, ◌≡◌, ◌+◌, ◌-◌, ◌<◌, ◌≤◌, zero, suc, List, ◌∷◌, ◌++◌, length, get_or, take, drop, map, min, replicate, refl, sym, ap, ap₂, ◌∙◌, max, arith, ⊎_elim}
use Rattle.std.specs.List.{range_with_len}
use Rattle.std.proofs.lemmas.Bool.{cases_lt}
use Rattle.std.proofs.lemmas.List.{get_or_past, get_or_default, same_lists, map-append, length-take, length-drop, get_or-take, get_or-drop, length-append, length-replicate, get_or_append_left, get_or-append_right, get_or-replicate}
use Rattle.std.proofs.lemmas.List.FromFn.{length-map-range_with_len, get_or-map-range_with_len}
use Rattle.fs_calls.specs.Rows.{written, resized}
use Rattle.fs_blocks.specs.code.Bytes.{byte_of_block, bytes_from, Puts}
use Rattle.fs_blocks.proofs.PutLemmas.{Puts-written, length-written}

-- a list is its bytes
pub bytes_from-list : (xs : List ℕ) (f : ℕ → ℕ) (place count : ℕ) → length xs ≡ count → ((k : ℕ) → k < count → get_or xs k 0 ≡ f (place + k)) → xs ≡ bytes_from f place count
bytes_from-list xs f place count len same =
    same_lists xs (bytes_from f place count) (len ∙ sym (length-map-range_with_len f place count))
    (λ k d h.
    let lt : k < count = omega arith in
    get_or_default xs k d 0 h ∙ same k lt ∙ sym (get_or-map-range_with_len f place count k (place + k) d lt refl))

-- the same bytes at other places
pub bytes_from-same : (f g : ℕ → ℕ) (place other count : ℕ) → ((k : ℕ) → k < count → f (place + k) ≡ g (other + k)) → bytes_from f place count ≡ bytes_from g other count
bytes_from-same f g place other count same =
    bytes_from-list (bytes_from f place count) g other count (length-map-range_with_len f place count)
    (λ k h. get_or-map-range_with_len f place count k (place + k) 0 h refl ∙ same k h)

-- the byte at a place of such a list, where all bytes behind it are 0
pub byte_of-bytes_from : (f : ℕ → ℕ) (count : ℕ) → ((i : ℕ) → count ≤ i → f i ≡ 0) → (k : ℕ) → get_or (bytes_from f 0 count) k 0 ≡ f k
byte_of-bytes_from f count clear k =
    let len : length (bytes_from f 0 count) ≡ count = length-map-range_with_len f 0 count in
    ⊎_elim
    (λ (h : k < count). get_or-map-range_with_len f 0 count k k 0 h (omega arith))
    (λ (h : count ≤ k). get_or_past (bytes_from f 0 count) k 0 (omega arith) ∙ sym (clear k h))
    (cases_lt k count)

-- more of them
range_with_len-add : (a m n : ℕ) → range_with_len a (m + n) ≡ range_with_len a m ++ range_with_len (a + m) n
range_with_len-add a zero n = ap₂ range_with_len (omega arith) (omega arith)
range_with_len-add a (suc m) n =
    let e : suc m + n ≡ suc (m + n) = omega arith in
    let e' : (a + 1) + m ≡ a + suc m = omega arith in
    ap (range_with_len a) e ∙ ap (λ (xs : List ℕ). a ∷ xs) (range_with_len-add (a + 1) m n ∙ ap (λ (p : ℕ). range_with_len (a + 1) m ++ range_with_len p n) e')

pub bytes_from-add : (f : ℕ → ℕ) (place m n : ℕ) → bytes_from f place (m + n) ≡ bytes_from f place m ++ bytes_from f (place + m) n
bytes_from-add f place m n = ap (map f) (range_with_len-add place m n) ∙ map-append f (range_with_len place m) (range_with_len (place + m) n)

-- what a read answers
pub bytes_from-part : (f : ℕ → ℕ) (len off count : ℕ) → off + count ≤ len → take count (drop off (bytes_from f 0 len)) ≡ bytes_from f off count
bytes_from-part f len off count fits =
    let xs = bytes_from f 0 len in
    let all : length xs ≡ len = length-map-range_with_len f 0 len in
    bytes_from-list (take count (drop off xs)) f off count
    (omega (arith, length-take count (drop off xs), length-drop off xs))
    (λ k h. get_or-take count (drop off xs) k 0 h ∙ get_or-drop off xs k 0 ∙ get_or-map-range_with_len f 0 len (off + k) (off + k) 0 (omega arith) (omega arith))

-- the bytes of a block from a place on: what it has, and zeros
pub bytes_from-block : (block : List ℕ) (off count : ℕ) (there : List ℕ) → there ≡ take count (drop off block) → there ++ replicate (count - length there) 0 ≡ bytes_from (byte_of_block block) off count
bytes_from-block block off count there e =
    let there_len : length there ≡ min count (length block - off) = ap (λ (xs : List ℕ). length xs) e ∙ omega (arith, length-take count (drop off block), length-drop off block) in
    let zeros : List ℕ = replicate (count - length there) 0 in
    bytes_from-list (there ++ zeros) (byte_of_block block) off count
    (omega (arith, length-append there zeros, length-replicate {A = ℕ} (count - length there) 0))
    (λ k h.
    ⊎_elim
    (λ (here : k < length there). get_or_append_left there zeros 0 k here ∙ ap (λ (xs : List ℕ). get_or xs k 0) e ∙ get_or-take count (drop off block) k 0 h ∙ get_or-drop off block k 0)
    (λ (past : length there ≤ k). get_or-append_right there zeros (length there) k 0 refl past ∙ get_or-replicate (count - length there) (k - length there) 0 0 (omega arith) ∙ sym (get_or_past block (off + k) 0 (omega arith)))
    (cases_lt k (length there)))

-- the bytes of a file after a write
pub bytes_from-written : (f g : ℕ → ℕ) (len off : ℕ) (bytes : List ℕ) → ((i : ℕ) → len ≤ i → f i ≡ 0) → Puts f g off bytes → bytes_from g 0 (max len (off + length bytes)) ≡ written (bytes_from f 0 len) off bytes
bytes_from-written f g len off bytes clear put =
    let old = bytes_from f 0 len in
    let old_len : length old ≡ len = length-map-range_with_len f 0 len in
    let stays = byte_of-bytes_from f len clear in
    let p = Puts-written old off bytes in
    let goes : (k : ℕ) → get_or (written old off bytes) k 0 ≡ g k =
    λ k.
    ⊎_elim
    (λ (before : k < off). p.below k before ∙ stays k ∙ sym (put.below k before))
    (λ (behind : off ≤ k).
    ⊎_elim
    (λ (inside : k - off < length bytes).
    let e : off + (k - off) ≡ k = omega arith in
    ap (byte_of_block (written old off bytes)) (sym e) ∙ p.inside (k - off) inside ∙ sym (put.inside (k - off) inside) ∙ ap g e)
    (λ (past : length bytes ≤ k - off). p.above k (omega arith) ∙ stays k ∙ sym (put.above k (omega arith)))
    (cases_lt (k - off) (length bytes)))
    (cases_lt k off)
    in
    sym (bytes_from-list (written old off bytes) g 0 (max len (off + length bytes)) (omega (arith, length-written old off bytes, old_len)) (λ k h. goes k ∙ ap g (omega arith)))

-- the bytes of a file of another size
pub bytes_from-resized : (f g : ℕ → ℕ) (len size : ℕ) → ((i : ℕ) → len ≤ i → f i ≡ 0) → ((i : ℕ) → i < size → g i ≡ f i) → bytes_from g 0 size ≡ resized (bytes_from f 0 len) size
bytes_from-resized f g len size clear same =
    let old = bytes_from f 0 len in
    let old_len : length old ≡ len = length-map-range_with_len f 0 len in
    let stays = byte_of-bytes_from f len clear in
    let front = take size old in
    let zeros : List ℕ = replicate (size - length old) 0 in
    let front_len : length front ≡ min size len = omega (arith, length-take size old) in
    sym
    (bytes_from-list (front ++ zeros) g 0 size (omega (arith, length-append front zeros, length-replicate {A = ℕ} (size - length old) 0))
    (λ k h.
    ⊎_elim
    (λ (here : k < len). get_or_append_left front zeros 0 k (omega arith) ∙ get_or-take size old k 0 h ∙ stays k ∙ sym (same k h) ∙ ap g (omega arith))
    (λ (past : len ≤ k). get_or-append_right front zeros len k 0 (omega arith) past ∙ get_or-replicate (size - length old) (k - len) 0 0 (omega arith) ∙ sym (clear k past) ∙ sym (same k h) ∙ ap g (omega arith))
    (cases_lt k len)))
