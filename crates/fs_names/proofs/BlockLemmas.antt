-- What the marks of a block say of the places of a byte.
use Rattle.std.proofs.Common.{◌≡◌, ℕ, ◌+◌, ◌-◌, ◌<◌, ◌≤◌, ◌/◌, ◌%◌, ◌^◌, Bool, true, false, cond, ltb, List, [], ◌∷◌, length, take, drop, get_or, map, replicate, eqb, Option, None, Some, refl, sym, ap, ◌∙◌, arith, w8}
use Rattle.std.specs.Int.{bit_at}
use Rattle.std.specs.Option.{option_map}
use Rattle.std.specs.Simd.Lanes.{zip2, mask_l, top}
use Rattle.std.proofs.lemmas.Bool.{ltb-true, ltb-false}
use Rattle.std.proofs.lemmas.List.{length-map, get_or-map, get_or-take, get_or-drop, get_or_past, length-drop, length-take-le}
use Rattle.std.proofs.Math.Seq.{take-length}
use Rattle.std.proofs.lemmas.Nat.{shr-shr}
use Rattle.std.proofs.lemmas.Nat.Bits.{bit_at-zero}
use Rattle.std.proofs.lemmas.Simd.{tops_compared, bit_mask_l, mask_l-mod}
use Rattle.memchr.specs.Find.{IsFirst, IsFirstByte, Nowhere, Passes, is_byte}
use Rattle.fs_names.specs.code.Marks.{MarksByte}

-- what stands behind a place, up to the end
pub to_end : (from : ℕ) (text : List ℕ) → take (length text - from) (drop from text) ≡ drop from text
to_end from text = ap (λ n. take n (drop from text)) (sym (length-drop from text)) ∙ take-length (drop from text)

-- a comparison with one value in each lane
compared_with : (test : ℕ → ℕ → Bool) (x : ℕ) (ys : List ℕ) → zip2 test ys (replicate (length ys) x) ≡ map (λ y. test y x) ys
compared_with test x [] = refl
compared_with test x (y ∷ ys) = ap (λ (rest : List Bool). test y x ∷ rest) (compared_with test x ys)

-- the mask of the lanes that hold the byte marks the byte
pub byte_marks : (byte : ℕ) (block : List ℕ) → length block ≡ 16 → MarksByte byte block (mask_l (map (top 7) (zip2 (λ a b. cond (eqb a b) 255 0) block (replicate 16 byte))) % 2 ^ 64)
byte_marks byte block long k =
    let mask : mask_l (map (top 7) (zip2 (λ a b. cond (eqb a b) 255 0) block (replicate 16 byte))) % 2 ^ 64 ≡ mask_l (map (is_byte byte) block) =
    ap (λ ms. mask_l ms % 2 ^ 64) (tops_compared w8 eqb block (replicate 16 byte) ∙ ap (λ m. zip2 eqb block (replicate m byte)) (sym long) ∙ compared_with eqb byte block)
    ∙ mask_l-mod (map (is_byte byte) block) 64 (omega (arith, length-map block (is_byte byte))) in
    ap (λ m. bit_at m k) mask ∙ bit_mask_l (map (is_byte byte) block) k

-- the bits of a number say where the byte stands among so many bytes from a place on
pub record Tells (byte : ℕ) (text : List ℕ) (from room marks : ℕ) : Type 0 where
  pub within : from + room ≤ length text
  pub inside : (j : ℕ) → j < room → bit_at marks j ≡ cond (is_byte byte (get_or text (from + j) 0)) 1 0
  pub past : (j : ℕ) → room ≤ j → bit_at marks j ≡ 0

-- the marks of a block tell of the block
pub block_tells : (byte from marks : ℕ) (text : List ℕ) → from + 16 ≤ length text → MarksByte byte (take 16 (drop from text)) marks → Tells byte text from 16 marks
block_tells byte from marks text room says =
    let block = take 16 (drop from text) in
    let long : length block ≡ 16 = length-take-le 16 (drop from text) (omega (arith, length-drop from text, room)) in
    record {
      within = room;
      inside = λ j less.
          let here : get_or (map (is_byte byte) block) j false ≡ is_byte byte (get_or text (from + j) 0) = get_or-map (is_byte byte) block j 0 false (omega (arith, long, less)) ∙ ap (is_byte byte) (get_or-take 16 (drop from text) j 0 less ∙ get_or-drop from text j 0) in
          says j ∙ ap (λ (b : Bool). cond {A = ℕ} b 1 0) here;
      past = λ j more. says j ∙ ap (λ (b : Bool). cond {A = ℕ} b 1 0) (get_or_past (map (is_byte byte) block) j false (omega (arith, length-map block (is_byte byte), long, more)));
    }

-- without the lowest bits they tell of what stands behind so many bytes
pub shifted_tells : (byte first from marks : ℕ) (text : List ℕ) → first ≤ from → from ≤ first + 16 → Tells byte text first 16 marks → Tells byte text from (16 - (from - first)) (marks / 2 ^ (from - first))
shifted_tells byte first from marks text low high tells =
    let shift : ℕ = from - first in
    let bit : (j : ℕ) → bit_at (marks / 2 ^ shift) j ≡ bit_at marks (shift + j) = λ j. ap (λ (n : ℕ). n % 2) (shr-shr marks shift j) in
    let place : (j : ℕ) → first + (shift + j) ≡ from + j = λ j. omega (arith, low) in
    record {
      within = omega (arith, tells.within, low, high);
      inside = λ j less. bit j ∙ tells.inside (shift + j) (omega (arith, less)) ∙ ap (λ (n : ℕ). cond {A = ℕ} (is_byte byte (get_or text n 0)) 1 0) (place j);
      past = λ j more. bit j ∙ tells.past (shift + j) (omega (arith, more));
    }

-- the byte stands at no place of a clear run of bits
none_told : (byte start from room run marks : ℕ) (text : List ℕ) → Tells byte text from room marks → run ≤ room → ((j : ℕ) → j < run → bit_at marks j ≡ 0) → Nowhere (Passes (is_byte byte) text) start from → Nowhere (Passes (is_byte byte) text) start (from + run)
none_told byte start from room run marks text tells short clear before k low less passes = go (ltb k from) refl
  where
    go : (b : Bool) → ltb k from ≡ b → ⊥
    go true t = before k low (ltb-true _ _ t) passes
    go false f =
        let beyond : from ≤ k = omega (arith, ltb-false _ _ f) in
        let j : ℕ = k - from in
        let is : k ≡ from + j = omega (arith, beyond) in
        let stands : is_byte byte (get_or text (from + j) 0) ≡ true = ap (λ (n : ℕ). is_byte byte (get_or text n 0)) (sym is) ∙ passes in
        let one : bit_at marks j ≡ 1 = tells.inside j (omega (arith, less, short, beyond)) ∙ ap (λ (b : Bool). cond {A = ℕ} b 1 0) stands in
        let none : bit_at marks j ≡ 0 = clear j (omega (arith, less, beyond)) in
        omega (arith, one, none)

-- where no bit is set, the byte does not stand there
pub none_marked : (byte start from room marks : ℕ) (text : List ℕ) → Tells byte text from room marks → marks ≡ 0 → Nowhere (Passes (is_byte byte) text) start from → Nowhere (Passes (is_byte byte) text) start (from + room)
none_marked byte start from room marks text tells none before = none_told byte start from room room marks text tells (omega arith) (λ j less. ap (λ (n : ℕ). bit_at n j) none ∙ bit_at-zero j) before

-- the lowest bit that is set marks the first place
pub first_marked : (byte start from room low marks : ℕ) (text : List ℕ) → start ≤ from → Tells byte text from room marks → bit_at marks low ≡ 1 → ((j : ℕ) → j < low → bit_at marks j ≡ 0) → Nowhere (Passes (is_byte byte) text) start from → IsFirst (Passes (is_byte byte) text) start (length text) (Some (from + low))
first_marked byte start from room low marks text after tells set clear before = (
  record {
    low = omega (arith, after);
    high = omega (arith, tells.within, inside);
    before = none_told byte start from room low marks text tells (omega (arith, inside)) clear before;
  },
  stands (is_byte byte (get_or text (from + low) 0)) refl,
)
  where
    inside : low < room
    inside = go (ltb low room) refl
      where
        go : (b : Bool) → ltb low room ≡ b → low < room
        go true t = ltb-true _ _ t
        go false f = absurd (let none : bit_at marks low ≡ 0 = tells.past low (omega (arith, ltb-false _ _ f)) in omega (arith, set, none))

    stands : (b : Bool) → is_byte byte (get_or text (from + low) 0) ≡ b → Passes (is_byte byte) text (from + low)
    stands true t = t
    stands false f = absurd (let none : bit_at marks low ≡ 0 = tells.inside low inside ∙ ap (λ (b : Bool). cond {A = ℕ} b 1 0) f in omega (arith, set, none))

-- what is found from a place on is found in what stands behind the place
pub found_behind : (test : ℕ → Bool) (start : ℕ) (text : List ℕ) (r : Option ℕ) → IsFirst (Passes test text) start (length text) r → IsFirstByte test (drop start text) (option_map (λ at. at - start) r)
found_behind test start text None none = λ k low less passes. none (start + k) (omega arith) (omega (arith, length-drop start text, less)) (ap test (sym (get_or-drop start text k 0)) ∙ passes)
found_behind test start text (Some at) first =
    let is : start + (at - start) ≡ at = omega (arith, first.0.low) in (
      record {
        low = omega arith;
        high = omega (arith, length-drop start text, first.0.low, first.0.high);
        before = λ k low less passes. first.0.before (start + k) (omega arith) (omega (arith, less)) (ap test (sym (get_or-drop start text k 0)) ∙ passes);
      },
      ap test (get_or-drop start text (at - start) 0 ∙ ap (λ (n : ℕ). get_or text n 0) is) ∙ first.1,
    )

-- what is found in what stands behind a place is found from the place on
pub found_from : (test : ℕ → Bool) (from : ℕ) (text : List ℕ) (r : Option ℕ) → from ≤ length text → IsFirstByte test (drop from text) r → IsFirst (Passes test text) from (length text) (option_map (λ at. from + at) r)
found_from test from text r within first = go r first
  where
    nowhere : (end : ℕ) → Nowhere (Passes test (drop from text)) 0 end → Nowhere (Passes test text) from (from + end)
    nowhere end none k after less passes =
        let is : from + (k - from) ≡ k = omega (arith, after) in
        none (k - from) (omega arith) (omega (arith, less, after)) (ap test (get_or-drop from text (k - from) 0 ∙ ap (λ (n : ℕ). get_or text n 0) is) ∙ passes)

    go : (r : Option ℕ) → IsFirstByte test (drop from text) r → IsFirst (Passes test text) from (length text) (option_map (λ at. from + at) r)
    go None none = λ k after less passes. nowhere (length (drop from text)) none k after (omega (arith, length-drop from text, less, within)) passes
    go (Some at) found = (
      record {
        low = omega arith;
        high = omega (arith, length-drop from text, found.0.high);
        before = nowhere at found.0.before;
      },
      ap test (sym (get_or-drop from text at 0)) ∙ found.1,
    )

-- and from an earlier place on, if it stands nowhere in between
pub found_later : (P : ℕ → Type 0) (start from end : ℕ) (r : Option ℕ) → start ≤ from → Nowhere P start from → IsFirst P from end r → IsFirst P start end r
found_later P start from end r low before first = go r first
  where
    nowhere : (high : ℕ) → Nowhere P from high → Nowhere P start high
    nowhere high none k after less holds = at (ltb k from) refl
      where
        at : (b : Bool) → ltb k from ≡ b → ⊥
        at true t = before k after (ltb-true _ _ t) holds
        at false f = none k (ltb-false _ _ f) less holds

    go : (r : Option ℕ) → IsFirst P from end r → IsFirst P start end r
    go None none = nowhere end none
    go (Some k) found = (
      record {
        low = omega (arith, low, found.0.low);
        high = found.0.high;
        before = nowhere k found.0.before;
      },
      found.1,
    )
