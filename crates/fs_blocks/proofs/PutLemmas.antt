-- What is put, one piece after the other, and what a write of a list puts.
use Rattle.std.proofs.Common.{ℕ, ◌≡◌, ◌+◌, ◌-◌, ◌*◌, ◌/◌, ◌%◌, ◌<◌, ◌≤◌, subst, List, ◌++◌, length, get_or, take, drop, replicate, refl, sym, ap, ◌∙◌, max, arith, ⊎_elim}
use Rattle.std.proofs.lemmas.Bool.{cases_lt}
use Rattle.std.proofs.lemmas.List.{length-take, length-drop, length-append, length-replicate, get_or-take, get_or-drop, get_or_append_left, get_or-append_right, get_or-replicate, get_or_past}
use Rattle.std.proofs.lemmas.Nat.{div-add-mod'}
use Rattle.fs_calls.specs.Rows.{written}
use Rattle.fs_blocks.specs.code.Bytes.{byte_of_block, Puts}

-- nothing is put
pub Puts-nothing : (f : ℕ → ℕ) (place : ℕ) (bytes : List ℕ) → length bytes ≡ 0 → Puts f f place bytes
Puts-nothing f place bytes none = record {
  inside = λ k h. absurd (omega arith);
  below = λ i h. refl;
  above = λ i h. refl;
}

-- a piece is put, and then what follows it
pub Puts-then : (f g h : ℕ → ℕ) (place count : ℕ) (bytes : List ℕ) → count ≤ length bytes → Puts f g place (take count bytes) → Puts g h (place + count) (drop count bytes) → Puts f h place bytes
Puts-then f g h place count bytes fits first rest =
    let taken : length (take count bytes) ≡ count = omega (arith, length-take count bytes) in
    let left : length (drop count bytes) ≡ length bytes - count = length-drop count bytes in
    record {
      inside = λ k lt.
          ⊎_elim
          (λ (here : k < count). rest.below (place + k) (omega arith) ∙ first.inside k (omega arith) ∙ get_or-take count bytes k 0 here)
          (λ (there : count ≤ k).
          let e : place + k ≡ (place + count) + (k - count) = omega arith in
          let e' : count + (k - count) ≡ k = omega arith in
          ap h e ∙ rest.inside (k - count) (omega arith) ∙ get_or-drop count bytes (k - count) 0 ∙ ap (λ (n : ℕ). get_or bytes n 0) e')
          (cases_lt k count);
      below = λ i lt. rest.below i (omega arith) ∙ first.below i lt;
      above = λ i le. rest.above i (omega arith) ∙ first.above i (omega arith);
    }

-- a piece is put, as a loop does it, and then what follows it
pub Puts-piece : (f g h : ℕ → ℕ) (size place count : ℕ) (bytes piece left : List ℕ) → count ≤ length bytes → piece ≡ take count bytes → left ≡ drop count bytes → Puts f g (place / size * size + place % size) piece → Puts g h (place + count) left → Puts f h place bytes
Puts-piece f g h size place count bytes piece left fits p l first rest =
    Puts-then f g h place count bytes fits
    (subst (λ (xs : List ℕ). Puts f g place xs) p (subst (λ (i : ℕ). Puts f g i piece) (div-add-mod' place size) first))
    (subst (λ (xs : List ℕ). Puts g h (place + count) xs) l rest)

-- the length of what is written
pub length-written : (old : List ℕ) (off : ℕ) (bytes : List ℕ) → length (written old off bytes) ≡ max (length old) (off + length bytes)
length-written old off bytes =
    simp (length-append, length-take, length-drop, length-replicate) (omega arith)

-- bytes stand between those that were before them and those behind them
Puts-between : (f : ℕ → ℕ) (front bytes last : List ℕ) (off : ℕ) → length front ≡ off → ((i : ℕ) → i < off → get_or front i 0 ≡ f i) → ((i : ℕ) → get_or last i 0 ≡ f ((off + length bytes) + i)) → Puts f (byte_of_block (front ++ bytes ++ last)) off bytes
Puts-between f front bytes last off front_len before behind =
    let left_len : length (front ++ bytes) ≡ off + length bytes = omega (arith, length-append front bytes, front_len) in
    record {
      inside = λ k h.
          let e : (off + k) - off ≡ k = omega arith in
          get_or_append_left (front ++ bytes) last 0 (off + k) (omega arith)
          ∙ get_or-append_right front bytes off (off + k) 0 front_len (omega arith)
          ∙ ap (λ (n : ℕ). get_or bytes n 0) e;
      below = λ i h.
          get_or_append_left (front ++ bytes) last 0 i (omega arith) ∙ get_or_append_left front bytes 0 i (omega arith) ∙ before i h;
      above = λ i h.
          let e : (off + length bytes) + (i - (off + length bytes)) ≡ i = omega arith in
          get_or-append_right (front ++ bytes) last (off + length bytes) i 0 left_len h ∙ behind (i - (off + length bytes)) ∙ ap f e;
    }

-- the bytes of a list up to an offset, and zeros where it is shorter
get_or-padded : (old : List ℕ) (off i : ℕ) → i < off → get_or (take off old ++ replicate (off - length old) 0) i 0 ≡ get_or old i 0
get_or-padded old off i h =
    ⊎_elim
    (λ (in_old : i < length old). get_or_append_left (take off old) (replicate (off - length old) 0) 0 i (omega (arith, length-take off old)) ∙ get_or-take off old i 0 h)
    (λ (past : length old ≤ i).
    get_or-append_right (take off old) (replicate (off - length old) 0) (length old) i 0 (omega (arith, length-take off old)) past
    ∙ get_or-replicate (off - length old) (i - length old) 0 0 (omega arith)
    ∙ sym (get_or_past old i 0 past))
    (cases_lt i (length old))

length-padded : (old : List ℕ) (off : ℕ) → length (take off old ++ replicate (off - length old) 0) ≡ off
length-padded old off =
    omega (arith, length-append (take off old) (replicate (off - length old) 0), length-take off old, length-replicate {A = ℕ} (off - length old) 0)

-- a write of a list puts its bytes
pub Puts-written : (old : List ℕ) (off : ℕ) (bytes : List ℕ) → Puts (byte_of_block old) (byte_of_block (written old off bytes)) off bytes
Puts-written old off bytes =
    Puts-between (byte_of_block old) (take off old ++ replicate (off - length old) 0) bytes (drop (off + length bytes) old) off (length-padded old off) (get_or-padded old off) (λ i. get_or-drop (off + length bytes) old i 0)
