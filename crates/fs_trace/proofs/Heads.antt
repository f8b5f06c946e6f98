-- The lines of a text up to its line `schedule`, one after the other.
use Rattle.std.proofs.Common.{◌≡◌, ℕ, suc, eqb, ◌+◌, ◌-◌, ◌<◌, ◌≤◌, Bool, true, false, List, [], ◌∷◌, ◌++◌, length, take, drop, refl, sym, ap, ◌∙◌, append_assoc, append-nil, inl, inr, codes, arith, length-drop, subst}
use Rattle.std.specs.List.{slice_split, list_any, All, onto_first}
use Rattle.std.proofs.Math.Seq.{take-add}
use Rattle.std.proofs.lemmas.Bool.{cases_Bool, eqb-true, cond-false}
use Rattle.std.proofs.lemmas.Bool.Decides.{nat_tests}
use Rattle.std.proofs.lemmas.List.{take_more, get_or-take, get_or-drop, take-append-drop, take_rest, length-take-le}
use Rattle.std.proofs.lemmas.List.Elements.{All-from_get_or}
use Rattle.std.proofs.lemmas.List.Folds.{list_any-append}
use Rattle.std.proofs.lemmas.List.Splits.{slice_split_at, slice_split_none, slice_split-cons_yes, slice_split-cons_no}
use Rattle.std.proofs.lemmas.Slice.Eq.{bytes_eq-Decides}
use Rattle.memchr.specs.Find.{Nowhere, Passes, NoneBefore}
use Rattle.fs_words.specs.Lines.{is_line_feed, lines_of, without_last_empty}
use Rattle.fs_trace.specs.code.WordTexts.{is_schedule, IsHead}

-- no line feed
abbrev pub IsOneLine : List ℕ → Type 0
IsOneLine line = All (λ b. is_line_feed b ≡ false) line

some_part : (p : ℕ → Bool) (xs : List ℕ) → (part : List ℕ) × (parts : List (List ℕ)) × (slice_split p xs ≡ part ∷ parts)
some_part p [] = ([], [], refl)
some_part p (x ∷ xs) = elim (cases_Bool (p x)) [
  | inl e ↦ ([], slice_split p xs, slice_split-cons_yes p x xs e)
  | inr e ↦
      let r = some_part p xs in
      (x ∷ r.0, r.1, slice_split-cons_no p x xs e ∙ ap (onto_first x) r.2)
]

-- a line, and those behind its line feed
pub line_first : (line rest : List ℕ) → IsOneLine line → lines_of (line ++ 10 ∷ rest) ≡ line ∷ lines_of rest
line_first line rest one =
    let some = some_part is_line_feed rest in
    ap without_last_empty (slice_split_at is_line_feed line 10 rest one refl)
    ∙ ap (λ ps. without_last_empty (line ∷ ps)) some.2
    ∙ ap (λ ps. line ∷ without_last_empty ps) (sym some.2)

some_bytes : (n : ℕ) → eqb (suc n) 0 ≡ false
some_bytes n = grind (arith, nat_tests)

-- a last line without a line feed behind it
line_last : (b : ℕ) (line : List ℕ) → IsOneLine (b ∷ line) → lines_of (b ∷ line) ≡ (b ∷ line) ∷ []
line_last b line one = ap without_last_empty (slice_split_none is_line_feed (b ∷ line) one) ∙ cond-false _ _ _ (some_bytes (length line))

fails : (b : Bool) → ¬ (b ≡ true) → b ≡ false
fails true h = absurd (h refl)
fails false h = refl

-- the bytes from a place up to the first line feed behind it
pub one_line : (text : List ℕ) (start end : ℕ) → start ≤ end → end ≤ length text → Nowhere (Passes is_line_feed text) start end → IsOneLine (take (end - start) (drop start text))
one_line text start end low high none =
    All-from_get_or (λ b. is_line_feed b ≡ false) (take (end - start) (drop start text)) 0
    (λ i less.
    let within : i < end - start = omega (arith, less, length-take-le (end - start) (drop start text) (omega (arith, length-drop start text, low, high))) in
    ap is_line_feed (get_or-take (end - start) (drop start text) i 0 within ∙ get_or-drop start text i 0) ∙ fails _ (none (start + i) (omega arith) (omega (arith, low, within))))

-- ---- from line to line

-- the lines before a place end there, and none of them is the line `schedule`
abbrev pub AreCut : List ℕ → ℕ → Type 0
AreCut text start = (before : List (List ℕ)) × (list_any is_schedule before ≡ false) × ((more : List ℕ) → lines_of (take start text ++ more) ≡ before ++ lines_of more)

pub cut_none : (text : List ℕ) → AreCut text 0
cut_none text = ([], refl, λ more. refl)

none_more : (before : List (List ℕ)) (line : List ℕ) → list_any is_schedule before ≡ false → is_schedule line ≡ false → list_any is_schedule (before ++ line ∷ []) ≡ false
none_more before line none other = list_any-append is_schedule before (line ∷ []) ∙ cc

-- a line more is cut at its line feed
cut_behind : (text : List ℕ) (start end : ℕ) → start ≤ end → take end text ≡ take start text ++ take (end - start) (drop start text)
cut_behind text start end low = let sum : end ≡ start + (end - start) = omega (arith, low) in ap (λ n. take n text) sum ∙ take-add start (end - start) text

cut_fed : (text : List ℕ) (end : ℕ) → end < length text → Passes is_line_feed text end → take (end + 1) text ≡ take end text ++ 10 ∷ []
cut_fed text end high feed = take_more text end 0 high ∙ ap (λ b. take end text ++ b ∷ []) (eqb-true _ _ feed)

-- the lines of what begins with a line behind those that are cut
cut_line : (text line : List ℕ) (start : ℕ) (cut : AreCut text start) → IsOneLine line → (more : List ℕ) → lines_of ((take start text ++ line) ++ 10 ∷ more) ≡ cut.0 ++ line ∷ lines_of more
cut_line text line start cut one more =
    ap lines_of (append_assoc (take start text) line (10 ∷ more)) ∙ cut.2 (line ++ 10 ∷ more) ∙ ap (λ ls. cut.0 ++ ls) (line_first line more one)

pub cut_more : (text : List ℕ) (start end : ℕ) → NoneBefore (Passes is_line_feed text) start (length text) end → Passes is_line_feed text end → is_schedule (take (end - start) (drop start text)) ≡ false → AreCut text start → AreCut text (end + 1)
cut_more text start end first feed other cut =
    let line : List ℕ = take (end - start) (drop start text) in
    let one : IsOneLine line = one_line text start end first.low (omega (arith, first.high)) first.before in
    let is : take (end + 1) text ≡ (take start text ++ line) ++ 10 ∷ [] = cut_fed text end first.high feed ∙ ap (λ l. l ++ 10 ∷ []) (cut_behind text start end first.low) in (
      cut.0 ++ line ∷ [],
      none_more cut.0 line cut.1 other,
      λ more.
          ap (λ l. lines_of (l ++ more)) is ∙ ap lines_of (append_assoc (take start text ++ line) (10 ∷ []) more)
          ∙ cut_line text line start cut one more ∙ sym (append_assoc cut.0 (line ∷ []) (lines_of more)),
    )

-- ---- the head

is_it : (line : List ℕ) → is_schedule line ≡ true → line ≡ codes "schedule"
is_it line e = (bytes_eq-Decides line (codes "schedule")).0 e

whole : (text : List ℕ) (start : ℕ) → text ≡ take start text ++ drop start text
whole text start = sym (take-append-drop start text)

pub cut_found : (text : List ℕ) (start end : ℕ) → NoneBefore (Passes is_line_feed text) start (length text) end → Passes is_line_feed text end → is_schedule (take (end - start) (drop start text)) ≡ true → AreCut text start → IsHead text (take end text)
cut_found text start end first feed is_schedule cut =
    let line : List ℕ = take (end - start) (drop start text) in
    let one : IsOneLine line = one_line text start end first.low (omega (arith, first.high)) first.before in
    let is : line ≡ codes "schedule" = is_it line is_schedule in
    let all : text ≡ (take start text ++ line) ++ 10 ∷ drop (end + 1) text =
    whole text (end + 1) ∙ ap (λ l. l ++ drop (end + 1) text) (cut_fed text end first.high feed ∙ ap (λ l. l ++ 10 ∷ []) (cut_behind text start end first.low)) ∙ append_assoc (take start text ++ line) (10 ∷ []) (drop (end + 1) text) in (
      cut.0,
      lines_of (drop (end + 1) text),
      cut.1,
      ap lines_of all ∙ cut_line text line start cut one (drop (end + 1) text) ∙ ap (λ l. cut.0 ++ l ∷ lines_of (drop (end + 1) text)) is,
      λ more. ap (λ l. lines_of (l ++ 10 ∷ more)) (cut_behind text start end first.low) ∙ cut_line text line start cut one more ∙ ap (λ l. cut.0 ++ l ∷ lines_of more) is,
    )

-- where no line feed is left, the last line is the line `schedule`
last_head : (text last : List ℕ) (start : ℕ) (cut : AreCut text start) → text ≡ take start text ++ last → IsOneLine last → list_any is_schedule (lines_of text) ≡ true → IsHead text text
last_head text [] start cut is one some =
    absurd (let none : list_any is_schedule (lines_of text) ≡ false = ap (λ l. list_any is_schedule (lines_of l)) is ∙ ap (list_any is_schedule) (cut.2 [] ∙ append-nil cut.0) ∙ cut.1 in cc)
last_head text (b ∷ last) start cut is one some = go (is_schedule (b ∷ last)) refl
  where
    lines : lines_of text ≡ cut.0 ++ (b ∷ last) ∷ []
    lines = ap lines_of is ∙ cut.2 (b ∷ last) ∙ ap (λ ls. cut.0 ++ ls) (line_last b last one)

    go : (t : Bool) → is_schedule (b ∷ last) ≡ t → IsHead text text
    go false e = absurd (let none : list_any is_schedule (lines_of text) ≡ false = ap (list_any is_schedule) lines ∙ none_more cut.0 (b ∷ last) cut.1 e in cc)
    go true e = (
      cut.0,
      [],
      cut.1,
      lines ∙ ap (λ l. cut.0 ++ l ∷ []) (is_it (b ∷ last) e),
      λ more. ap (λ l. lines_of (l ++ 10 ∷ more)) is ∙ cut_line text (b ∷ last) start cut one more ∙ ap (λ l. cut.0 ++ l ∷ lines_of more) (is_it (b ∷ last) e),
    )

pub cut_last : (text : List ℕ) (start : ℕ) → start ≤ length text → Nowhere (Passes is_line_feed text) start (length text) → AreCut text start → list_any is_schedule (lines_of text) ≡ true → IsHead text text
cut_last text start within none cut some =
    let one : IsOneLine (drop start text) = subst IsOneLine (take_rest text start) (one_line text start (length text) within (omega arith) none) in
    last_head text (drop start text) start cut (whole text start) one some
