-- A change of one part of a whole is a change of the whole.
use Rattle.std.proofs.Common.{ℕ, ◌≡◌, ◌≢◌, ◌+◌, ◌-◌, ◌*◌, ◌/◌, ◌%◌, ◌<◌, ◌≤◌, List, ◌++◌, length, get_or, set, replicate, refl, sym, ap, ◌∙◌, subst, arith, ⊎_elim}
use Rattle.std.proofs.lemmas.Bool.{cases_eq, cases_lt}
use Rattle.std.proofs.lemmas.List.{get_or_past, get_or_append_left, get_or-append_right, get_or-replicate, length-replicate, length-append, get_or-set_same, get_or-set_other, get_or_default}
use Rattle.std.proofs.lemmas.Nat.{div-mul-add, mod-mul-add, div-add-mod', mod_below, mul-le}
use Rattle.fs_blocks.specs.code.Bytes.{byte_of_parts, Puts, Cuts}

-- parts that are missing may as well be there
get_or-replicate_same : {X : Type 0} (none : X) (n i : ℕ) → get_or (replicate n none) i none ≡ none
get_or-replicate_same none n i =
    ⊎_elim
    (λ (h : i < n). get_or-replicate n i none none h)
    (λ (h : n ≤ i). get_or_past (replicate n none) i none (omega (arith, length-replicate n none)))
    (cases_lt i n)

get_or-filled : {X : Type 0} (none : X) (parts : List X) (n i : ℕ) → get_or (parts ++ replicate n none) i none ≡ get_or parts i none
get_or-filled none parts n i =
    ⊎_elim
    (λ (h : i < length parts). get_or_append_left parts (replicate n none) none i h)
    (λ (h : length parts ≤ i). get_or-append_right parts (replicate n none) (length parts) i none refl h ∙ get_or-replicate_same none n (i - length parts) ∙ sym (get_or_past parts i none h))
    (cases_lt i (length parts))

module _ {X : Type 0} (byte_of : X → ℕ → ℕ) (none : X) (size : ℕ) where
  -- the byte of a part
  pub byte_of_parts_at : (parts : List X) (k r : ℕ) → r < size → byte_of_parts byte_of none size parts (k * size + r) ≡ byte_of (get_or parts k none) r
  byte_of_parts_at parts k r h = rw (div-mul-add k size r h, mod-mul-add k size r h)

  -- a byte stays if its part does
  byte_stays : (parts parts' : List X) (k i : ℕ) → ((m : ℕ) → m ≢ k → get_or parts' m none ≡ get_or parts m none) → (i / size ≡ k → byte_of (get_or parts' k none) (i % size) ≡ byte_of (get_or parts k none) (i % size)) → byte_of_parts byte_of none size parts' i ≡ byte_of_parts byte_of none size parts i
  byte_stays parts parts' k i others here =
      ⊎_elim
      (λ (e : i / size ≡ k). subst (λ q. byte_of (get_or parts' q none) (i % size) ≡ byte_of (get_or parts q none) (i % size)) (sym e) (here e))
      (λ (ne : i / size ≢ k). ap (λ (part : X). byte_of part (i % size)) (others (i / size) ne))
      (cases_eq (i / size) k)

  -- the place of a byte, if it is in this part
  place_in : (k i : ℕ) → i / size ≡ k → k * size + i % size ≡ i
  place_in k i e = subst (λ q. q * size + i % size ≡ i) e (div-add-mod' i size)

  -- what is put into a part is put into the whole
  pub Puts-parts : (parts parts' : List X) (k inner : ℕ) (bytes : List ℕ) → 0 < size → inner + length bytes ≤ size → ((m : ℕ) → m ≢ k → get_or parts' m none ≡ get_or parts m none) → Puts (byte_of (get_or parts k none)) (byte_of (get_or parts' k none)) inner bytes → Puts (byte_of_parts byte_of none size parts) (byte_of_parts byte_of none size parts') (k * size + inner) bytes
  Puts-parts parts parts' k inner bytes positive fits others put = record {
    inside = λ i h.
        let e : (k * size + inner) + i ≡ k * size + (inner + i) = omega arith in
        let below : inner + i < size = omega arith in
        ap (byte_of_parts byte_of none size parts') e ∙ byte_of_parts_at parts' k (inner + i) below ∙ put.inside i h;
    below = λ i h. byte_stays parts parts' k i others (λ e. put.below (i % size) (omega (arith, place_in k i e)));
    above = λ i h. byte_stays parts parts' k i others (λ e. put.above (i % size) (omega (arith, place_in k i e)));
  }

  -- what is cut off a part is cut off the whole, where no part follows it
  pub Cuts-parts : (parts parts' : List X) (k inner : ℕ) → inner < size → ((m : ℕ) → m < k → get_or parts' m none ≡ get_or parts m none) → ((m : ℕ) → k < m → get_or parts' m none ≡ none) → ((r : ℕ) → byte_of none r ≡ 0) → Cuts (byte_of (get_or parts k none)) (byte_of (get_or parts' k none)) inner → Cuts (byte_of_parts byte_of none size parts) (byte_of_parts byte_of none size parts') (k * size + inner)
  Cuts-parts parts parts' k inner inside before after zeros cut =
      let place = λ (i : ℕ). div-add-mod' i size in
      let rest = λ (i : ℕ). mod_below i size (omega arith) in
      record {
        below = λ i h.
            ⊎_elim
            (λ (lt : i / size < k). ap (λ (part : X). byte_of part (i % size)) (before (i / size) lt))
            (λ (ge : k ≤ i / size).
            ⊎_elim
            (λ (e : i / size ≡ k). subst (λ q. byte_of (get_or parts' q none) (i % size) ≡ byte_of (get_or parts q none) (i % size)) (sym e) (cut.below (i % size) (omega (arith, place_in k i e))))
            (λ (ne : i / size ≢ k). absurd (omega (arith, place i, mul-le (k + 1) size (i / size) size (omega arith) (omega arith))))
            (cases_eq (i / size) k))
            (cases_lt (i / size) k);
        above = λ i h.
            ⊎_elim
            (λ (lt : i / size < k). absurd (omega (arith, place i, rest i, mul-le (i / size + 1) size k size (omega arith) (omega arith))))
            (λ (ge : k ≤ i / size).
            ⊎_elim
            (λ (e : i / size ≡ k). subst (λ q. byte_of (get_or parts' q none) (i % size) ≡ 0) (sym e) (cut.above (i % size) (omega (arith, place_in k i e))))
            (λ (ne : i / size ≢ k). ap (λ (part : X). byte_of part (i % size)) (after (i / size) (omega arith)) ∙ zeros (i % size))
            (cases_eq (i / size) k))
            (cases_lt (i / size) k);
      }

  -- bytes are put into a part, up to which parts were added
  pub Puts-part : (parts filled : List X) (k inner : ℕ) (old new : X) (bytes : List ℕ) → 0 < size → inner + length bytes ≤ size → filled ≡ parts ++ replicate ((k + 1) - length parts) none → old ≡ get_or filled k old → Puts (byte_of old) (byte_of new) inner bytes → Puts (byte_of_parts byte_of none size parts) (byte_of_parts byte_of none size (set filled k new)) (k * size + inner) bytes
  Puts-part parts filled k inner old new bytes positive fits is read put =
      let n = (k + 1) - length parts in
      let filled_len : length filled ≡ length parts + n = ap length is ∙ length-append parts (replicate n none) ∙ ap (λ (m : ℕ). length parts + m) (length-replicate n none) in
      let there : k < length filled = omega arith in
      let same : (m : ℕ) → get_or filled m none ≡ get_or parts m none = λ m. ap (λ (xs : List X). get_or xs m none) is ∙ get_or-filled none parts n m in
      let was : old ≡ get_or parts k none = read ∙ get_or_default filled k old none there ∙ same k in
      let now : new ≡ get_or (set filled k new) k none = sym (get_or-set_same filled k new none there) in
      Puts-parts parts (set filled k new) k inner bytes positive fits
      (λ m ne. get_or-set_other filled k m new none ne ∙ same m)
      (subst (λ (x : X). Puts (byte_of x) (byte_of (get_or (set filled k new) k none)) inner bytes) was (subst (λ (x : X). Puts (byte_of old) (byte_of x) inner bytes) now put))
