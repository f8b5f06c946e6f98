-- Lemmas on a text that is cut at its slashes, name by name.
use Rattle.std.proofs.Common.{◌≡◌, ℕ, zero, suc, ◌+◌, ◌<◌, ◌≤◌, true, false, cond, List, [], ◌∷◌, length, take, drop, refl, sym, ap, ◌∙◌, arith, filter, inl, inr}
use Rattle.std.specs.List.{position_or_len, slice_split, onto_first}
use Rattle.std.proofs.lemmas.Bool.{cases_Bool}
use Rattle.std.proofs.lemmas.List.Sums.{prefix_len-le-length}
use Rattle.std.proofs.lemmas.List.Splits.{slice_split-cons_yes, slice_split-cons_no}
use Rattle.fs_names.specs.Names.{Name}
use Rattle.fs_names.specs.Reading.{names, is_slash, has_bytes, starts_at_root}

-- the first slash is no further than the end
pub slash_within : (text : List ℕ) → position_or_len is_slash text ≤ length text
slash_within text = prefix_len-le-length _ text

-- the pieces behind the first
behind : List ℕ → List Name
behind [] = []
behind (b ∷ bs) = cond (is_slash b) (slice_split is_slash bs) (behind bs)

-- the first piece ends at the first slash
split_first : (text : List ℕ) → slice_split is_slash text ≡ take (position_or_len is_slash text) text ∷ behind text
unfolding behind
split_first [] = refl
split_first (b ∷ bs) = elim (cases_Bool (is_slash b)) [
  | inl e ↦ rw e refl
  | inr e ↦
      let count : 1 + position_or_len is_slash bs ≡ suc (position_or_len is_slash bs) = omega arith in
      slice_split-cons_no is_slash b bs e ∙ ap (onto_first b) (split_first bs) ∙ rw (e, count) refl
]

-- the names behind the first are those of the bytes from the first slash on
names_behind : (text : List ℕ) → filter has_bytes (behind text) ≡ names (drop (position_or_len is_slash text) text)
unfolding behind
names_behind [] = refl
names_behind (b ∷ bs) = elim (cases_Bool (is_slash b)) [
  | inl e ↦
      let none : position_or_len is_slash (b ∷ bs) ≡ 0 = rw e refl in
      let pieces : behind (b ∷ bs) ≡ slice_split is_slash bs = rw e refl in
      ap (filter has_bytes) pieces ∙ sym (ap (filter has_bytes) (slice_split-cons_yes is_slash b bs e)) ∙ ap (λ n. names (drop n (b ∷ bs))) (sym none)
  | inr e ↦
      let count : 1 + position_or_len is_slash bs ≡ suc (position_or_len is_slash bs) = omega arith in
      rw (e, count) (names_behind bs)
]

-- a piece with bytes is a name
kept : (x : Name) (pieces : List Name) → has_bytes x ≡ true → filter has_bytes (x ∷ pieces) ≡ x ∷ filter has_bytes pieces
kept x pieces e = rw e refl

-- some bytes of some are some
some_taken : (text : List ℕ) (n : ℕ) → 0 < n → 0 < length text → has_bytes (take n text) ≡ true
some_taken [] n h l = absurd (omega arith)
some_taken (b ∷ bs) zero h l = absurd (omega arith)
some_taken (b ∷ bs) (suc n) h l = refl

-- a text that begins with no slash begins with a byte of a name
pub some_before : (text : List ℕ) → 0 < length text → starts_at_root text ≡ false → 0 < position_or_len is_slash text
some_before [] l e = absurd (omega arith)
some_before (b ∷ bs) l e = rw e (omega arith)

-- a text that begins with no slash begins with its first name
pub names_cut : (text : List ℕ) → 0 < length text → starts_at_root text ≡ false
    → names text ≡ take (position_or_len is_slash text) text ∷ names (drop (position_or_len is_slash text) text)
names_cut text l e =
    ap (filter has_bytes) (split_first text)
    ∙ kept _ (behind text) (some_taken text _ (some_before text l e) l)
    ∙ ap (λ more. take (position_or_len is_slash text) text ∷ more) (names_behind text)
