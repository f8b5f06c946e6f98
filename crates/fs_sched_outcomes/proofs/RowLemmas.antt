-- Rows and the texts of their ends, with one row more.
use Rattle.std.proofs.Common.{ℕ, zero, suc, ◌≡◌, ◌+◌, ◌<◌, Bool, true, false, cond, not, ◌||◌, if◌then◌else◌, List, [], ◌∷◌, ◌++◌, length, map, get_or, set, nat_lt, refl, sym, ap, ◌∙◌, subst, true≢false, arith}
use Rattle.std.specs.List.{list_any, position_or_len}
use Rattle.std.specs.Str.{bytes_eq}
use Rattle.std.proofs.lemmas.List.Sums.{passes_at_first}
use Rattle.fs_sched_outcomes.specs.Ends.{end_text}
use Rattle.fs_sched_outcomes.specs.Sums.{same_end}
use Rattle.fs_sched_outcomes.specs.code.Adding.{merged_by, merged, with_row}
use Rattle.fs_sched_outcomes.specs.declared.rows.Row.{Row}
use Rattle.fs_sched_outcomes.proofs.AddLemmas.{text_is}

abbrev pub text_of : Row → List ℕ
text_of row = end_text row.end

-- ---- a test of texts is one of rows

pub any_mapped : {X Y : Type 0} (f : X → Y) (p : Y → Bool) (xs : List X) → list_any p (map f xs) ≡ list_any (λ x. p (f x)) xs
any_mapped f p [] = refl
any_mapped f p (x ∷ xs) = ap (λ r. p (f x) || r) (any_mapped f p xs)

pub place_mapped : {X Y : Type 0} (f : X → Y) (p : Y → Bool) (xs : List X) → position_or_len p (map f xs) ≡ position_or_len (λ x. p (f x)) xs
place_mapped f p [] = refl
place_mapped f p (x ∷ xs) = ap (λ n. cond (not (p (f x))) (1 + n) 0) (place_mapped f p xs)

-- ---- a row more

pub row_new : (rows : List Row) (g : Row) → list_any (same_end g) rows ≡ false → with_row rows g ≡ rows ++ g ∷ []
row_new [] g none = refl
row_new (row ∷ rows) g none = by (same_end g row) refl none (λ h. row_new rows g h)
  where
    by : (b : Bool) → same_end g row ≡ b → (b || list_any (same_end g) rows) ≡ false → (list_any (same_end g) rows ≡ false → with_row rows g ≡ rows ++ g ∷ []) → with_row (row ∷ rows) g ≡ row ∷ (rows ++ g ∷ [])
    by true e h rest = absurd (true≢false h)
    by false e h rest = rw e (ap (λ l. row ∷ l) (rest h))

pub row_there : (rows : List Row) (g : Row) (i : ℕ) (d : Row) → position_or_len (same_end g) rows ≡ i → i < length rows → with_row rows g ≡ set rows i (merged (get_or rows i d) g)
row_there [] g i d is less = absurd (omega (arith, less))
row_there (row ∷ rows) g zero d is less = by (same_end g row) refl is
  where
    by : (b : Bool) → same_end g row ≡ b → cond (not b) (1 + position_or_len (same_end g) rows) 0 ≡ 0 → with_row (row ∷ rows) g ≡ merged row g ∷ rows
    by true e h = rw e refl
    by false e h = absurd (let z : 1 + position_or_len (same_end g) rows ≡ 0 = h in omega (arith, z))
row_there (row ∷ rows) g (suc i) d is less = by (same_end g row) refl is (λ here small. row_there rows g i d here small)
  where
    by : (b : Bool) → same_end g row ≡ b → cond (not b) (1 + position_or_len (same_end g) rows) 0 ≡ suc i → (position_or_len (same_end g) rows ≡ i → i < length rows → with_row rows g ≡ set rows i (merged (get_or rows i d) g)) → with_row (row ∷ rows) g ≡ row ∷ set rows i (merged (get_or rows i d) g)
    by true e h rest = absurd (let z : 0 ≡ suc i = h in omega (arith, z))
    by false e h rest =
        let z : 1 + position_or_len (same_end g) rows ≡ suc i = h in
        let here : position_or_len (same_end g) rows ≡ i = omega (arith, z) in
        let small : suc i < suc (length rows) = less in
        rw e (ap (λ l. row ∷ l) (rest here (omega (arith, small))))

-- ---- the texts of the ends

pub texts_more : (rows : List Row) (g : Row) → map text_of (rows ++ g ∷ []) ≡ map text_of rows ++ text_of g ∷ []
texts_more [] g = refl
texts_more (row ∷ rows) g = ap (λ l. text_of row ∷ l) (texts_more rows g)

pub texts_kept : (rows : List Row) (i : ℕ) (x d : Row) → i < length rows → text_of x ≡ text_of (get_or rows i d) → map text_of (set rows i x) ≡ map text_of rows
texts_kept [] i x d less same = refl
texts_kept (row ∷ rows) zero x d less same = ap (λ t. t ∷ map text_of rows) same
texts_kept (row ∷ rows) (suc i) x d less same = ap (λ l. text_of row ∷ l) (texts_kept rows i x d (let z : suc i < suc (length rows) = less in omega (arith, z)) same)

merged_is : (less : Bool) (row g : Row) → same_end g row ≡ true → text_of (merged_by less row g) ≡ text_of row
merged_is true row g e = text_is g row e
merged_is false row g e = refl

-- the text of the row to which one more of its end was added
pub text_stays : (rows : List Row) (g : Row) (i : ℕ) (d : Row) → position_or_len (same_end g) rows ≡ i → i < length rows → text_of (merged (get_or rows i d) g) ≡ text_of (get_or rows i d)
text_stays rows g i d is less =
    let there : same_end g (get_or rows i d) ≡ true = subst (λ n. same_end g (get_or rows n d) ≡ true) is (passes_at_first (same_end g) rows d (subst (λ n. n < length rows) (sym is) less)) in
    merged_is (nat_lt g.seed (get_or rows i d).seed) (get_or rows i d) g there

-- ---- what an insert of the text tells of rows

any_texts : {V : Type 0} (f : V → List ℕ) (keys : List V) (k : V) (rows : List Row) (g : Row) → map f keys ≡ map text_of rows → f k ≡ text_of g → list_any (λ y. bytes_eq (f k) (f y)) keys ≡ list_any (same_end g) rows
any_texts f keys k rows g kept is =
    sym (any_mapped f (bytes_eq (f k)) keys) ∙ ap (list_any (bytes_eq (f k))) kept ∙ any_mapped text_of (bytes_eq (f k)) rows ∙ ap (λ t. list_any (λ r. bytes_eq t (text_of r)) rows) is

place_texts : {V : Type 0} (f : V → List ℕ) (keys : List V) (k : V) (rows : List Row) (g : Row) → map f keys ≡ map text_of rows → f k ≡ text_of g → position_or_len (λ y. bytes_eq (f k) (f y)) keys ≡ position_or_len (same_end g) rows
place_texts f keys k rows g kept is =
    sym (place_mapped f (bytes_eq (f k)) keys) ∙ ap (position_or_len (bytes_eq (f k))) kept ∙ place_mapped text_of (bytes_eq (f k)) rows ∙ ap (λ t. position_or_len (λ r. bytes_eq t (text_of r)) rows) is

texts_last : {V : Type 0} (f : V → List ℕ) (keys : List V) (k : V) → map f (keys ++ k ∷ []) ≡ map f keys ++ f k ∷ []
texts_last f [] k = refl
texts_last f (x ∷ xs) k = ap (λ l. f x ∷ l) (texts_last f xs k)

is_none : (a b : Bool) → b ≡ not a → b ≡ true → a ≡ false
is_none true b is t = absurd (true≢false (sym t ∙ is))
is_none false b is t = refl

is_any : (a b : Bool) → b ≡ not a → b ≡ false → a ≡ true
is_any true b is f = refl
is_any false b is f = absurd (true≢false (sym is ∙ f))

-- a row of a new end goes last
pub row_first : {V : Type 0} (f : V → List ℕ) (keys new : List V) (k : V) (b : Bool) (rows others : List Row) (g : Row) → map f keys ≡ map text_of rows → f k ≡ text_of g
    → new ≡ (if list_any (λ y. bytes_eq (f k) (f y)) keys then keys else keys ++ k ∷ []) → b ≡ not (list_any (λ y. bytes_eq (f k) (f y)) keys) → b ≡ true → others ≡ rows ++ g ∷ []
    → (map f new ≡ map text_of others) × (others ≡ with_row rows g)
row_first f keys new k b rows others g kept is added told isnew pushed =
    let none : list_any (λ y. bytes_eq (f k) (f y)) keys ≡ false = is_none _ b told isnew in
    let apart : list_any (same_end g) rows ≡ false = sym (any_texts f keys k rows g kept is) ∙ none in
    let last : new ≡ keys ++ k ∷ [] = added ∙ ap (λ c. if c then keys else keys ++ k ∷ []) none in (
      ap (map f) last ∙ texts_last f keys k ∙ ap (λ l. l ++ f k ∷ []) kept ∙ ap (λ t. map text_of rows ++ t ∷ []) is ∙ sym (texts_more rows g) ∙ ap (map text_of) (sym pushed),
      pushed ∙ sym (row_new rows g apart),
    )

any_within : (rows : List Row) (g : Row) → list_any (same_end g) rows ≡ true → position_or_len (same_end g) rows < length rows
any_within [] g has = absurd (true≢false (sym has))
any_within (row ∷ rows) g has = by (same_end g row) has (λ h. any_within rows g h)
  where
    by : (b : Bool) → (b || list_any (same_end g) rows) ≡ true → (list_any (same_end g) rows ≡ true → position_or_len (same_end g) rows < length rows) → cond (not b) (1 + position_or_len (same_end g) rows) 0 < suc (length rows)
    by true h rest = omega arith
    by false h rest = let z : position_or_len (same_end g) rows < length rows = rest h in omega (arith, z)

-- a row of an end that is there is merged with that
pub row_again : {V : Type 0} (f : V → List ℕ) (keys new : List V) (k : V) (b : Bool) (i : ℕ) (rows others : List Row) (g d : Row) → map f keys ≡ map text_of rows → f k ≡ text_of g
    → new ≡ (if list_any (λ y. bytes_eq (f k) (f y)) keys then keys else keys ++ k ∷ []) → b ≡ not (list_any (λ y. bytes_eq (f k) (f y)) keys) → b ≡ false → i ≡ position_or_len (λ y. bytes_eq (f k) (f y)) keys
    → others ≡ set rows i (merged (get_or rows i d) g) → (i < length rows) × ((map f new ≡ map text_of others) × (others ≡ with_row rows g))
row_again f keys new k b i rows others g d kept is added told known at changed =
    let some : list_any (λ y. bytes_eq (f k) (f y)) keys ≡ true = is_any _ b told known in
    let has : list_any (same_end g) rows ≡ true = sym (any_texts f keys k rows g kept is) ∙ some in
    let place : position_or_len (same_end g) rows ≡ i = sym (place_texts f keys k rows g kept is) ∙ sym at in
    let less : i < length rows = subst (λ n. n < length rows) place (any_within rows g has) in
    let same : new ≡ keys = added ∙ ap (λ c. if c then keys else keys ++ k ∷ []) some in (
      less,
      (
        ap (map f) same ∙ kept ∙ sym (ap (map text_of) changed ∙ texts_kept rows i (merged (get_or rows i d) g) d less (text_stays rows g i d place less)),
        changed ∙ sym (row_there rows g i d place less),
      ),
    )
