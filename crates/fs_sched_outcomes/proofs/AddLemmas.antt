-- Rows with one more, and what they add up.
use Rattle.std.proofs.Common.{ℕ, ◌≡◌, ◌+◌, ◌<◌, ◌≤◌, Bool, true, false, if◌then◌else◌, nat_lt, List, [], ◌∷◌, ◌++◌, ◌||◌, refl, sym, ap, ◌∙◌, true≢false, ltb-true, ltb-false, le_refl, arith}
use Rattle.std.specs.List.{AllByRecursion, IsDistinct, list_any, sum_by}
use Rattle.std.specs.Str.{bytes_eq}
use Rattle.std.proofs.lemmas.Slice.Eq.{bytes_eq-Decides}
use Rattle.std.proofs.lemmas.List.Elements.{Contains-append_left, Contains-append_right}
use Rattle.std.proofs.lemmas.List.Sums.{sum_by-append, sum_by-cons}
use Rattle.fs_sched_outcomes.specs.Ends.{end_text}
use Rattle.fs_sched_outcomes.specs.Sums.{same_end, times_of, times_with, IsSum, IsAmongEnds, AddsUp}
use Rattle.fs_sched_outcomes.specs.code.Adding.{merged_by, merged, with_row}
use Rattle.fs_sched_outcomes.specs.declared.rows.Row.{Row}

-- ---- rows of one end

pub text_is : (a b : Row) → same_end a b ≡ true → end_text a.end ≡ end_text b.end
text_is a b e = (bytes_eq-Decides (end_text a.end) (end_text b.end)).0 e

is_text : (a b : Row) → end_text a.end ≡ end_text b.end → same_end a b ≡ true
is_text a b e = (bytes_eq-Decides (end_text a.end) (end_text b.end)).1 e

pub same_itself : (a : Row) → same_end a a ≡ true
same_itself a = is_text a a refl

by_true : (s t : Bool) → (s ≡ true → t ≡ true) → (t ≡ true → s ≡ true) → s ≡ t
by_true true t there back = sym (there refl)
by_true false true there back = back refl
by_true false false there back = refl

pub same_flip : (a b : Row) → same_end a b ≡ same_end b a
same_flip a b = by_true (same_end a b) (same_end b a) (λ e. is_text b a (sym (text_is a b e))) (λ e. is_text a b (sym (text_is b a e)))

-- a row of the same end is the same as others
same_as : (a b other : Row) → same_end a b ≡ true → same_end a other ≡ same_end b other
same_as a b other e = ap (λ t. bytes_eq t (end_text other.end)) (text_is a b e)

-- ---- a row and one more

all_more : {X : Type 0} (P : X → Type 0) (xs : List X) (x : X) → AllByRecursion P xs → P x → AllByRecursion P (xs ++ x ∷ [])
all_more P [] x all one = (one, tt)
all_more P (y ∷ ys) x all one = (all.0, all_more P ys x all.1 one)

all_map : {X : Type 0} (P Q : X → Type 0) → ((x : X) → P x → Q x) → (xs : List X) → AllByRecursion P xs → AllByRecursion Q xs
all_map P Q f [] all = tt
all_map P Q f (x ∷ xs) all = (f x all.0, all_map P Q f xs all.1)

sum_more : (f : Row → ℕ) (given : List Row) (g : Row) → sum_by f (given ++ g ∷ []) ≡ sum_by f given + f g
sum_more f given g =
    let all : sum_by f (given ++ g ∷ []) ≡ sum_by f given + sum_by f (g ∷ []) = sum_by-append f given (g ∷ []) in
    let one : sum_by f (g ∷ []) ≡ 0 + f g = refl in
    omega (arith, all, one)

-- a row of another end adds nothing
apart_times : (row g : Row) → same_end row g ≡ false → times_with row g ≡ 0
apart_times row g e = ap (λ b. if b then g.times else 0) e

with_times : (row g : Row) → same_end row g ≡ true → times_with row g ≡ g.times
with_times row g e = ap (λ b. if b then g.times else 0) e

kept_sum : (given : List Row) (g row : Row) → same_end row g ≡ false → IsSum given row → IsSum (given ++ g ∷ []) row
kept_sum given g row e s = record {
  times =
      let more : sum_by (times_with row) (given ++ g ∷ []) ≡ sum_by (times_with row) given + times_with row g = sum_more (times_with row) given g in
      let none : times_with row g ≡ 0 = apart_times row g e in
      let was = s.times in
      omega (arith, more, none, was);
  one = s.one;
  among = Contains-append_left given (g ∷ []) s.one s.among;
  seed = s.seed;
  end = s.end;
  least = all_more _ given g s.least (λ t. absurd (true≢false (sym t ∙ e)));
}

none_sum : (g : Row) (given : List Row) → AllByRecursion (λ other. same_end g other ≡ false) given → sum_by (times_with g) given ≡ 0
none_sum g [] all = refl
none_sum g (x ∷ xs) all =
    let both : sum_by (times_with g) (x ∷ xs) ≡ times_with g x + sum_by (times_with g) xs = sum_by-cons (times_with g) x xs in
    let none : times_with g x ≡ 0 = apart_times g x all.0 in
    let rest : sum_by (times_with g) xs ≡ 0 = none_sum g xs all.1 in
    omega (arith, both, none, rest)

new_sum : (given : List Row) (g : Row) → AllByRecursion (λ other. same_end g other ≡ false) given → IsSum (given ++ g ∷ []) g
new_sum given g none = record {
  times =
      let more : sum_by (times_with g) (given ++ g ∷ []) ≡ sum_by (times_with g) given + times_with g g = sum_more (times_with g) given g in
      let before : sum_by (times_with g) given ≡ 0 = none_sum g given none in
      let its : times_with g g ≡ g.times = with_times g g (same_itself g) in
      omega (arith, more, before, its);
  one = g;
  among = Contains-append_right given (g ∷ []) g (0, omega arith, refl);
  seed = refl;
  end = refl;
  least = all_more _ given g (all_map _ _ (λ other e t. absurd (true≢false (sym t ∙ e))) given none) (λ t. le_refl g.seed);
}

-- the sum that a row is depends on its end alone
same_times : (a b : Row) (given : List Row) → same_end a b ≡ true → sum_by (times_with a) given ≡ sum_by (times_with b) given
same_times a b given e = ap (λ t. sum_by (λ (other : Row). if bytes_eq t (end_text other.end) then other.times else 0) given) (text_is a b e)

merged_text : (less : Bool) (row g : Row) → same_end row g ≡ true → same_end (merged_by less row g) row ≡ true
merged_text true row g e = same_flip g row ∙ e
merged_text false row g e = same_itself row

merged_times : (less : Bool) (given : List Row) (row g : Row) → same_end row g ≡ true → row.times ≡ sum_by (times_with row) given → row.times + g.times ≡ sum_by (times_with (merged_by less row g)) (given ++ g ∷ [])
merged_times less given row g e was =
    let at : sum_by (times_with (merged_by less row g)) (given ++ g ∷ []) ≡ sum_by (times_with row) (given ++ g ∷ []) = same_times (merged_by less row g) row (given ++ g ∷ []) (merged_text less row g e) in
    let more : sum_by (times_with row) (given ++ g ∷ []) ≡ sum_by (times_with row) given + times_with row g = sum_more (times_with row) given g in
    let its : times_with row g ≡ g.times = with_times row g e in
    omega (arith, at, more, its, was)

merged_sum_by : (less : Bool) (given : List Row) (row g : Row) → nat_lt g.seed row.seed ≡ less → same_end row g ≡ true → IsSum given row → IsSum (given ++ g ∷ []) (merged_by less row g)
merged_sum_by true given row g l e s = record {
  times = merged_times true given row g e s.times;
  one = g;
  among = Contains-append_right given (g ∷ []) g (0, omega arith, refl);
  seed = refl;
  end = refl;
  least =
      let below : g.seed < row.seed = ltb-true g.seed row.seed l in
      all_more _ given g (all_map _ _ (λ other has t. let its : row.seed ≤ other.seed = has (same_as row g other e ∙ t) in omega (arith, below, its)) given s.least) (λ t. le_refl g.seed);
}
merged_sum_by false given row g l e s = record {
  times = merged_times false given row g e s.times;
  one = s.one;
  among = Contains-append_left given (g ∷ []) s.one s.among;
  seed = s.seed;
  end = s.end;
  least = all_more _ given g s.least (λ t. ltb-false g.seed row.seed l);
}

-- ---- rows and one more

total_if : (b : Bool) (row g : Row) (rows more : List Row) → sum_by times_of more ≡ sum_by times_of rows + g.times → sum_by times_of (if b then merged row g ∷ rows else row ∷ more) ≡ sum_by times_of (row ∷ rows) + g.times
total_if true row g rows more e =
    let new : sum_by times_of (merged row g ∷ rows) ≡ (row.times + g.times) + sum_by times_of rows = sum_by-cons times_of (merged row g) rows in
    let old : sum_by times_of (row ∷ rows) ≡ row.times + sum_by times_of rows = sum_by-cons times_of row rows in
    omega (arith, new, old)
total_if false row g rows more e =
    let new : sum_by times_of (row ∷ more) ≡ row.times + sum_by times_of more = sum_by-cons times_of row more in
    let old : sum_by times_of (row ∷ rows) ≡ row.times + sum_by times_of rows = sum_by-cons times_of row rows in
    omega (arith, new, old, e)

pub total_more : (rows : List Row) (g : Row) → sum_by times_of (with_row rows g) ≡ sum_by times_of rows + g.times
total_more [] g = refl
total_more (row ∷ rows) g = total_if (same_end g row) row g rows (with_row rows g) (total_more rows g)

-- what holds of each row and of the one more, and of both together
all_if : (P : Row → Type 0) (b : Bool) (row g : Row) (rows more : List Row) → P row → P (merged row g) → AllByRecursion P rows → AllByRecursion P more → AllByRecursion P (if b then merged row g ∷ rows else row ∷ more)
all_if P true row g rows more kept both all after = (both, all)
all_if P false row g rows more kept both all after = (kept, after)

all_with : (P : Row → Type 0) (rows : List Row) (g : Row) → ((row : Row) → P row → P (merged row g)) → P g → AllByRecursion P rows → AllByRecursion P (with_row rows g)
all_with P [] g both one all = (one, tt)
all_with P (row ∷ rows) g both one all = all_if P (same_end g row) row g rows (with_row rows g) all.0 (both row all.0) all.1 (all_with P rows g both one all.1)

-- ---- no end twice

apart_if : (b : Bool) (row g : Row) (rows more : List Row) → same_end g row ≡ b → IsDistinct same_end (row ∷ rows) → (same_end g row ≡ false → AllByRecursion (λ y. same_end row y ≡ false) more) → IsDistinct same_end more → IsDistinct same_end (if b then merged row g ∷ rows else row ∷ more)
unfolding IsDistinct
apart_if true row g rows more e d apart after =
    let one : same_end (merged row g) row ≡ true = merged_text (nat_lt g.seed row.seed) row g (same_flip row g ∙ e) in
    (all_map _ _ (λ y no. same_as (merged row g) row y one ∙ no) rows d.0, d.1)
apart_if false row g rows more e d apart after = (apart e, after)

pub distinct_more : (rows : List Row) (g : Row) → IsDistinct same_end rows → IsDistinct same_end (with_row rows g)
unfolding IsDistinct
distinct_more [] g d = (tt, tt)
distinct_more (row ∷ rows) g d =
    apart_if (same_end g row) row g rows (with_row rows g) refl d
    (λ no. all_with (λ y. same_end row y ≡ false) rows g
    (λ y apart. merged_apart (nat_lt g.seed y.seed) row y g apart (same_flip row g ∙ no))
    (same_flip row g ∙ no) d.0)
    (distinct_more rows g d.1)
  where
    merged_apart : (less : Bool) (row y g : Row) → same_end row y ≡ false → same_end row g ≡ false → same_end row (merged_by less y g) ≡ false
    merged_apart true row y g a b = b
    merged_apart false row y g a b = a

-- ---- each end is there

among_if : (b : Bool) (x row g : Row) (rows more : List Row) → same_end g row ≡ b → list_any (same_end x) (row ∷ rows) ≡ true → (list_any (same_end x) rows ≡ true → list_any (same_end x) more ≡ true) → list_any (same_end x) (if b then merged row g ∷ rows else row ∷ more) ≡ true
among_if true x row g rows more e has after =
    let one : same_end (merged row g) row ≡ true = merged_text (nat_lt g.seed row.seed) row g (same_flip row g ∙ e) in
    let at : same_end x (merged row g) ≡ same_end x row = same_flip x (merged row g) ∙ same_as (merged row g) row x one ∙ same_flip row x in
    ap (λ b. b || list_any (same_end x) rows) at ∙ has
among_if false x row g rows more e has after = or_after (same_end x row) (list_any (same_end x) rows) (list_any (same_end x) more) has after
  where
    or_after : (a b c : Bool) → (a || b) ≡ true → (b ≡ true → c ≡ true) → (a || c) ≡ true
    or_after true b c has after = refl
    or_after false b c has after = after has

among_more : (rows : List Row) (g x : Row) → list_any (same_end x) rows ≡ true → list_any (same_end x) (with_row rows g) ≡ true
among_more [] g x has = absurd (true≢false (sym has))
among_more (row ∷ rows) g x has = among_if (same_end g row) x row g rows (with_row rows g) refl has (among_more rows g x)

itself_if : (b : Bool) (row g : Row) (rows more : List Row) → same_end g row ≡ b → list_any (same_end g) more ≡ true → list_any (same_end g) (if b then merged row g ∷ rows else row ∷ more) ≡ true
itself_if true row g rows more e after =
    let one : same_end (merged row g) row ≡ true = merged_text (nat_lt g.seed row.seed) row g (same_flip row g ∙ e) in
    let at : same_end g (merged row g) ≡ true = same_flip g (merged row g) ∙ same_as (merged row g) row g one ∙ same_flip row g ∙ e in
    ap (λ b. b || list_any (same_end g) rows) at
itself_if false row g rows more e after = or_last (same_end g row) (list_any (same_end g) more) after
  where
    or_last : (a b : Bool) → b ≡ true → (a || b) ≡ true
    or_last true b e = refl
    or_last false b e = e

itself_more : (rows : List Row) (g : Row) → list_any (same_end g) (with_row rows g) ≡ true
itself_more [] g = ap (λ b. b || false) (same_itself g)
itself_more (row ∷ rows) g = itself_if (same_end g row) row g rows (with_row rows g) refl (itself_more rows g)

-- ---- each row is a sum

-- a row of which no given one has the end, where no row has it
fresh_one : (g other : Row) (rows : List Row) → AllByRecursion (λ row. same_end g row ≡ false) rows → list_any (same_end other) rows ≡ true → same_end g other ≡ false
fresh_one g other [] none has = absurd (true≢false (sym has))
fresh_one g other (row ∷ rows) none has = by_head (same_end other row) refl has (λ h. fresh_one g other rows none.1 h)
  where
    by_end : (b : Bool) → same_end other row ≡ true → same_end g other ≡ b → same_end g other ≡ false
    by_end true has e = absurd (true≢false (sym (same_as g other row e ∙ has) ∙ none.0))
    by_end false has e = e

    by_head : (b : Bool) → same_end other row ≡ b → (b || list_any (same_end other) rows) ≡ true → (list_any (same_end other) rows ≡ true → same_end g other ≡ false) → same_end g other ≡ false
    by_head true e h rest = by_end (same_end g other) e refl
    by_head false e h rest = rest h

fresh : (g : Row) (given rows : List Row) → AllByRecursion (λ row. same_end g row ≡ false) rows → AllByRecursion (IsAmongEnds rows) given → AllByRecursion (λ other. same_end g other ≡ false) given
fresh g given rows none every = all_map _ _ (λ other has. fresh_one g other rows none has) given every

-- rows of another end stay sums
kept_all : (given : List Row) (g : Row) (rows : List Row) → AllByRecursion (λ row. same_end row g ≡ false) rows → AllByRecursion (IsSum given) rows → AllByRecursion (IsSum (given ++ g ∷ [])) rows
kept_all given g [] apart all = tt
kept_all given g (row ∷ rows) apart all = (kept_sum given g row apart.0 all.0, kept_all given g rows apart.1 all.1)

each_if : (b : Bool) (given : List Row) (row g : Row) (rows more : List Row) → same_end g row ≡ b → IsSum given row → AllByRecursion (λ y. same_end row y ≡ false) rows → AllByRecursion (IsSum given) rows
    → (same_end g row ≡ false → AllByRecursion (IsSum (given ++ g ∷ [])) more) → AllByRecursion (IsSum (given ++ g ∷ [])) (if b then merged row g ∷ rows else row ∷ more)
each_if true given row g rows more e s apart all after =
    let one : same_end row g ≡ true = same_flip row g ∙ e in
    (merged_sum_by (nat_lt g.seed row.seed) given row g refl one s, kept_all given g rows (all_map _ _ (λ y no. same_flip y g ∙ sym (same_as row g y one) ∙ no) rows apart) all)
each_if false given row g rows more e s apart all after = (kept_sum given g row (same_flip row g ∙ e) s, after e)

each_more : (given : List Row) (g : Row) (rows : List Row) → (AllByRecursion (λ row. same_end g row ≡ false) rows → AllByRecursion (λ other. same_end g other ≡ false) given) → IsDistinct same_end rows → AllByRecursion (IsSum given) rows → AllByRecursion (IsSum (given ++ g ∷ [])) (with_row rows g)
unfolding IsDistinct
each_more given g [] none d all = (new_sum given g (none tt), tt)
each_more given g (row ∷ rows) none d all =
    each_if (same_end g row) given row g rows (with_row rows g) refl all.0 d.0 all.1
    (λ no. each_more given g rows (λ apart. none (no, apart)) d.1 all.1)

pub adds_none : AddsUp [] []
unfolding IsDistinct
adds_none = record { each = tt; every = tt; once = tt; total = refl }

-- rows that add up others add up one more, once that is added to them
pub adds_more : (given rows : List Row) (g : Row) → AddsUp given rows → AddsUp (given ++ g ∷ []) (with_row rows g)
adds_more given rows g a = record {
  each = each_more given g rows (λ none. fresh g given rows none a.every) a.once a.each;
  every = all_more _ given g (all_map _ _ (λ x has. among_more rows g x has) given a.every) (itself_more rows g);
  once = distinct_more rows g a.once;
  total =
      let new : sum_by times_of (with_row rows g) ≡ sum_by times_of rows + g.times = total_more rows g in
      let all : sum_by times_of (given ++ g ∷ []) ≡ sum_by times_of given + g.times = sum_more times_of given g in
      let was = a.total in
      omega (arith, new, all, was);
}
