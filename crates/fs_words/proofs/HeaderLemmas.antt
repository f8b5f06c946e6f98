-- The version of a text, by its first line, and how long it may be.
use Rattle.std.proofs.Common.{◌≡◌, ◌<◌, ◌≤◌, ℕ, Bool, true, false, cond, List, [], ◌∷◌, ◌++◌, length, codes, Option, Some, None, find, ap, ap₂, subst, refl, sym, ◌∙◌, arith, inl, inr, ⊎_elim, ◌⊎◌}
use Rattle.std.specs.Str.{bytes_eq}
use Rattle.std.specs.List.{slice_split, onto_first}
use Rattle.std.proofs.lemmas.Bool.{cond-true, cond-false, cases_Bool, false_from_ne_true}
use Rattle.std.proofs.lemmas.List.Splits.{slice_split-cons_yes, slice_split-cons_no}
use Rattle.std.proofs.lemmas.Bool.Decides.{nat_tests}
use Rattle.std.proofs.lemmas.Slice.Eq.{bytes_eq-Decides}
use Rattle.fs_names.specs.declared.limits.Limits.{Limits}
use Rattle.fs_names.specs.declared.limits.Limits.TheVariants.{V1, V2, V3}
use Rattle.fs_words.specs.Lines.{lines_of, is_empty, is_line_feed, without_last_empty}
use Rattle.fs_words.specs.Headers.{script_header, started_header, announced, text_limit, limit_by, limit_of_line, limit_of_lines, limit_of_text, is_too_long}
use Rattle.fs_words.specs.declared.limits.TheConstants.{SETS}

-- ---- the limits that a line announces

-- what is found among sets of limits has the header
found_is : (header : Limits → List ℕ) (line : List ℕ) (sets : List Limits) (limits : Limits) → find (λ l. bytes_eq line (header l)) sets ≡ Some limits → bytes_eq line (header limits) ≡ true
found_is header line [] limits is = absurd (cc)
found_is header line (l ∷ sets) limits is = go (bytes_eq line (header l)) refl is (λ e. found_is header line sets limits e)
  where
    go : (b : Bool) → bytes_eq line (header l) ≡ b → cond {A = Option Limits} b (Some l) (find (λ m. bytes_eq line (header m)) sets) ≡ Some limits
        → (find (λ m. bytes_eq line (header m)) sets ≡ Some limits → bytes_eq line (header limits) ≡ true) → bytes_eq line (header limits) ≡ true
    go true e h later = let same : l ≡ limits = cc in subst (λ (m : Limits). bytes_eq line (header m) ≡ true) same e
    go false e h later = later h

-- a line that announces limits is their header
pub announced_is : (header : Limits → List ℕ) (line : List ℕ) (limits : Limits) → announced header line ≡ Some limits → line ≡ header limits
announced_is header line limits is = (bytes_eq-Decides line (header limits)).0 (found_is header line SETS limits is)

-- and a header announces its limits
pub script_announced : (limits : Limits) → announced script_header (script_header limits) ≡ Some limits
script_announced V1 = refl
script_announced V2 = refl
script_announced V3 = refl

pub started_announced : (limits : Limits) → announced started_header (started_header limits) ≡ Some limits
started_announced V1 = refl
started_announced V2 = refl
started_announced V3 = refl

-- ---- how long a text may be

least : (limits : Limits) → 16777216 ≤ text_limit limits
least V1 = omega arith
least V2 = omega arith
least V3 = omega arith

least_by : (script journal : Option Limits) → 16777216 ≤ limit_by script journal
least_by (Some limits) journal = least limits
least_by None (Some limits) = least limits
least_by None None = omega arith

least_of_line : (line : List ℕ) → 16777216 ≤ limit_of_line line
least_of_line line = go (bytes_eq line (codes "tree")) (announced script_header line) (announced started_header line)
  where
    go : (b : Bool) (script journal : Option Limits) → 16777216 ≤ cond b 1073741824 (limit_by script journal)
    go true script journal = omega arith
    go false script journal = least_by script journal

least_of_lines : (lines : List (List ℕ)) → 16777216 ≤ limit_of_lines lines
least_of_lines [] = omega arith
least_of_lines (line ∷ more) = least_of_line line

-- no text may have fewer bytes than this
pub least_of_text : (text : List ℕ) → 16777216 ≤ limit_of_text text
least_of_text text = least_of_lines (lines_of text)

most : (limits : Limits) → text_limit limits ≤ 1073741824
most V1 = omega arith
most V2 = omega arith
most V3 = omega arith

most_by : (script journal : Option Limits) → limit_by script journal ≤ 1073741824
most_by (Some limits) journal = most limits
most_by None (Some limits) = most limits
most_by None None = omega arith

most_of_lines : (lines : List (List ℕ)) → limit_of_lines lines ≤ 1073741824
most_of_lines [] = omega arith
most_of_lines (line ∷ more) = go (bytes_eq line (codes "tree")) (announced script_header line) (announced started_header line)
  where
    go : (b : Bool) (script journal : Option Limits) → cond b 1073741824 (limit_by script journal) ≤ 1073741824
    go true script journal = omega arith
    go false script journal = most_by script journal

-- and none more than this
pub most_of_text : (text : List ℕ) → limit_of_text text ≤ 1073741824
most_of_text text = most_of_lines (lines_of text)

-- a text that begins so keeps the limits that it announces
pub limit_of_script : (limits : Limits) (text : List ℕ) (more : List (List ℕ)) → lines_of text ≡ script_header limits ∷ more → limit_of_text text ≡ text_limit limits
limit_of_script limits text more are = ap limit_of_lines are ∙ go limits
  where
    go : (l : Limits) → limit_of_line (script_header l) ≡ text_limit l
    go V1 = refl
    go V2 = refl
    go V3 = refl

pub limit_of_started : (limits : Limits) (text : List ℕ) (more : List (List ℕ)) → lines_of text ≡ started_header limits ∷ more → limit_of_text text ≡ text_limit limits
limit_of_started limits text more are = ap limit_of_lines are ∙ go limits
  where
    go : (l : Limits) → limit_of_line (started_header l) ≡ text_limit l
    go V1 = refl
    go V2 = refl
    go V3 = refl

-- a text that keeps a limit is not too long where its own is no less
pub not_too_long : (text : List ℕ) (limit : ℕ) → length text ≤ limit → limit ≤ limit_of_text text → is_too_long text ≡ false
not_too_long text limit short least = grind (arith, nat_tests)

pub short_enough : (text : List ℕ) → length text ≤ 16777216 → is_too_long text ≡ false
short_enough text short = not_too_long text 16777216 short (least_of_text text)

-- ---- the beginning of a text

-- what stands before the first line feed
abbrev first_part : List ℕ → List ℕ
first_part [] = []
first_part (b ∷ bs) = cond (is_line_feed b) [] (b ∷ first_part bs)

part_ended : (b : ℕ) (bs : List ℕ) → is_line_feed b ≡ true → first_part (b ∷ bs) ≡ []
part_ended b bs e = cond-true _ _ _ e

part_more : (b : ℕ) (bs : List ℕ) → is_line_feed b ≡ false → first_part (b ∷ bs) ≡ b ∷ first_part bs
part_more b bs e = cond-false _ _ _ e

split_first : (xs : List ℕ) → (parts : List (List ℕ)) × (slice_split is_line_feed xs ≡ first_part xs ∷ parts)
split_first [] = ([], refl)
split_first (b ∷ bs) = elim (cases_Bool (is_line_feed b)) [
  | inl e ↦ (slice_split is_line_feed bs, slice_split-cons_yes is_line_feed b bs e ∙ ap (λ (f : List ℕ). f ∷ slice_split is_line_feed bs) (sym (part_ended b bs e)))
  | inr e ↦
      let rest = split_first bs in
      (rest.0, slice_split-cons_no is_line_feed b bs e ∙ ap (onto_first b) rest.1 ∙ ap (λ (f : List ℕ). f ∷ rest.0) (sym (part_more b bs e)))
]

kept_part : (b : ℕ) (f : List ℕ) (parts : List (List ℕ)) → (more : List (List ℕ)) × (without_last_empty ((b ∷ f) ∷ parts) ≡ (b ∷ f) ∷ more)
kept_part b f [] = let some : is_empty (b ∷ f) ≡ false = grind (arith, nat_tests) in ([], cond-false _ _ _ some)
kept_part b f (p ∷ ps) = (without_last_empty (p ∷ ps), refl)

-- is the first line of a text that has one
line_first : (b : ℕ) (bs : List ℕ) → (more : List (List ℕ)) × (lines_of (b ∷ bs) ≡ first_part (b ∷ bs) ∷ more)
line_first b bs =
    let rest = split_first bs in
    elim (cases_Bool (is_line_feed b)) [
      | inl e ↦ (
        without_last_empty (first_part bs ∷ rest.0),
        ap without_last_empty (slice_split-cons_yes is_line_feed b bs e ∙ ap (λ (ps : List (List ℕ)). [] ∷ ps) rest.1) ∙ ap (λ (f : List ℕ). f ∷ without_last_empty (first_part bs ∷ rest.0)) (sym (part_ended b bs e)),
      )
      | inr e ↦
          let kept = kept_part b (first_part bs) rest.0 in (
            kept.0,
            ap without_last_empty (slice_split-cons_no is_line_feed b bs e ∙ ap (onto_first b) rest.1) ∙ kept.1 ∙ ap (λ (f : List ℕ). f ∷ kept.0) (sym (part_more b bs e)),
          )
    ]

-- more bytes behind a text leave its first line as it is, or all of the text is in it
part_kept : (xs ys : List ℕ) → (first_part (xs ++ ys) ≡ first_part xs) ⊎ ((first_part xs ≡ xs) × (length xs ≤ length (first_part (xs ++ ys))))
part_kept [] ys = inr (refl, omega arith)
part_kept (b ∷ bs) ys = elim (cases_Bool (is_line_feed b)) [
  | inl e ↦ inl (part_ended b (bs ++ ys) e ∙ sym (part_ended b bs e))
  | inr e ↦
      let here = part_more b bs e in
      let there = part_more b (bs ++ ys) e in
      ⊎_elim (λ same. inl (there ∙ ap (λ (f : List ℕ). b ∷ f) same ∙ sym here))
      (λ all. inr (here ∙ ap (λ (f : List ℕ). b ∷ f) all.0, let some = all.1 in let l = ap length there in omega (arith, some, l))) (part_kept bs ys)
]

other_line : (line header : List ℕ) → length header < length line → bytes_eq line header ≡ false
other_line line header h = false_from_ne_true _ (λ t. let e = ap length ((bytes_eq-Decides line header).0 t) in absurd (omega (arith, h, e)))

none_announced : (header : Limits → List ℕ) (line : List ℕ) → ((limits : Limits) → length (header limits) < length line) → announced header line ≡ None
none_announced header line short =
    cond-false _ _ _ (other_line line (header V1) (short V1)) ∙ cond-false _ _ _ (other_line line (header V2) (short V2)) ∙ cond-false _ _ _ (other_line line (header V3) (short V3))

-- so long a line announces nothing
long_line : (line : List ℕ) → 16777216 < length line → limit_of_line line ≡ 16777216
long_line line long =
    cond-false _ _ _ (other_line line (codes "tree") (omega (arith, long)))
    ∙ ap₂ limit_by (none_announced script_header line scripts) (none_announced started_header line journals)
  where
    scripts : (limits : Limits) → length (script_header limits) < length line
    scripts V1 = omega (arith, long)
    scripts V2 = omega (arith, long)
    scripts V3 = omega (arith, long)

    journals : (limits : Limits) → length (started_header limits) < length line
    journals V1 = omega (arith, long)
    journals V2 = omega (arith, long)
    journals V3 = omega (arith, long)

-- the limit of a text is that of its beginning, where that is longer than the least limit
pub same_limit : (text more : List ℕ) → 16777216 < length text → limit_of_text (text ++ more) ≡ limit_of_text text
same_limit [] more long = absurd (omega (arith, long))
same_limit (b ∷ bs) more long =
    let one = ap limit_of_lines (line_first b bs).1 in
    let other = ap limit_of_lines (line_first b (bs ++ more)).1 in
    other ∙ ⊎_elim (λ same. ap limit_of_line same)
    (λ all. let first = ap length all.0 in let some = all.1 in long_line (first_part (b ∷ bs ++ more)) (omega (arith, long, some)) ∙ sym (long_line (first_part (b ∷ bs)) (omega (arith, long, first)))) (part_kept (b ∷ bs) more) ∙ sym one
