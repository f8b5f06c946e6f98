-- Names that were written, each after a slash, are read again.
use Rattle.std.proofs.Common.{◌≡◌, ◌≢◌, ℕ, ◌<◌, true, false, not, eqb, List, [], ◌∷◌, ◌++◌, length, sym, refl, ap, ◌∙◌, append-nil, append_assoc, arith, subst}
use Rattle.std.specs.Prelude.{filter}
use Rattle.std.specs.List.{All, AllByRecursion, list_all, slice_split}
use Rattle.std.proofs.lemmas.List.Splits.{slice_split_at, slice_split_none}
use Rattle.std.proofs.lemmas.List.Elements.{All-cons, All-nil, All-weaker}
use Rattle.std.proofs.lemmas.Bool.{and_parts, not-true, leb-true}
use Rattle.std.proofs.lemmas.Bool.Decides.{nat_tests, same_from_decides, Decides-like, Decides-eqb}
use Rattle.std.proofs.lemmas.Slice.Eq.{slice_eq-Decides}
use Rattle.fs_names.specs.Names.{Name, can_name, may_stand, is_dots, IsName, same_bytes, same_names}
use Rattle.fs_names.specs.Keys.{Key, names_text}
use Rattle.fs_names.specs.Reading.{names, has_bytes, is_slash}
use Rattle.fs_names.specs.code.NameTexts.{IsNameText}

-- what the test of a name says
pub record NameFacts (n : Name) : Type 0 where
  pub some : 0 < length n
  pub clean : All (λ b. (b ≢ 47) × (b ≢ 0)) n
  pub no_dot : is_dots n ≡ false

clean_byte : (b : ℕ) → may_stand b ≡ true → (b ≢ 47) × (b ≢ 0)
clean_byte b h =
    let parts = and_parts (not (eqb b 0)) (not (eqb b 47)) h in
    let no_zero : eqb b 0 ≡ false = not-true _ parts.0 in
    let no_slash : eqb b 47 ≡ false = not-true _ parts.1 in
    (grind (arith, nat_tests), grind (arith, nat_tests))

clean_from_test : (n : Name) → list_all may_stand n ≡ true → All (λ b. (b ≢ 47) × (b ≢ 0)) n
clean_from_test [] h = All-nil _
clean_from_test (b ∷ bs) h =
    let parts = and_parts (may_stand b) (list_all may_stand bs) h in
    All-cons (λ x. (x ≢ 47) × (x ≢ 0)) b bs (clean_byte b parts.0) (clean_from_test bs parts.1)

pub name_facts : (n : Name) → can_name n ≡ true → NameFacts n
name_facts n h =
    let p = and_parts _ _ h in
    let q = and_parts _ _ p.0 in
    let r = and_parts _ _ q.0 in
    record {
      some = leb-true 1 (length n) r.0;
      clean = clean_from_test n q.1;
      no_dot = not-true _ p.1;
    }

pub not_slash : (b : ℕ) → (b ≢ 47) × (b ≢ 0) → is_slash b ≡ false
not_slash b h = let no = h.0 in grind (arith, nat_tests)

pub split_tail : (n : List ℕ) (ns : Key) → NameFacts n → AllByRecursion NameFacts ns → slice_split is_slash (n ++ names_text ns) ≡ n ∷ ns
split_tail n [] f h = ap (slice_split is_slash) (append-nil n) ∙ slice_split_none is_slash n (All-weaker _ _ not_slash n f.clean)
split_tail n (m ∷ ms) f h =
    slice_split_at is_slash n 47 (m ++ names_text ms) (All-weaker _ _ not_slash n f.clean) refl
    ∙ ap (λ t. n ∷ t) (split_tail m ms h.0 h.1)

pub kept_names : (ns : Key) → AllByRecursion NameFacts ns → filter has_bytes ns ≡ ns
kept_names [] h = refl
kept_names ([] ∷ ns) h = let some : 0 < 0 = h.0.some in absurd (omega (arith, some))
kept_names ((b ∷ bs) ∷ ns) h = ap (λ t. (b ∷ bs) ∷ t) (kept_names ns h.1)

pub names_again : (n : Name) (ns : Key) → NameFacts n → AllByRecursion NameFacts ns → names (names_text (n ∷ ns)) ≡ n ∷ ns
names_again n ns f h = ap (filter has_bytes) (split_tail n ns f h) ∙ kept_names (n ∷ ns) (f, h)

-- what names are holds of their bytes
facts_each : (ns : Key) → AllByRecursion IsName ns → AllByRecursion NameFacts ns
facts_each [] h = h
facts_each (n ∷ ns) h = (name_facts n h.0.test, facts_each ns h.1)

-- names that were written are read again, also where there are none
pub names_all : (ns : Key) → AllByRecursion IsName ns → names (names_text ns) ≡ ns
names_all [] h = refl
names_all (n ∷ ns) h = names_again n ns (name_facts n h.0.test) (facts_each ns h.1)

-- names behind names are written behind them
names_text-append : (p q : Key) → names_text (p ++ q) ≡ names_text p ++ names_text q
names_text-append [] q = refl
names_text-append (x ∷ p) q = ap (λ t. 47 ∷ (x ++ t)) (names_text-append p q) ∙ ap (λ t. 47 ∷ t) (sym (append_assoc x (names_text p) (names_text q)))

-- one more is one of them
named_more : (ns : Key) (x : Name) → AllByRecursion IsName ns → IsName x → AllByRecursion IsName (ns ++ x ∷ [])
named_more [] x h n = (n, h)
named_more (y ∷ ns) x h n = (h.0, named_more ns x h.1 n)

-- the text with one name more
more_written : (text : List ℕ) (x : Name) → IsNameText text → names_text (names text ++ x ∷ []) ≡ text ++ 47 ∷ x
more_written text x h = names_text-append (names text) (x ∷ []) ∙ ap (λ t. t ++ 47 ∷ (x ++ [])) h.written ∙ ap (λ t. text ++ 47 ∷ t) (append-nil x)

-- has that name behind the others
pub more_names : (text : List ℕ) (x : Name) → IsNameText text → IsName x → names (text ++ 47 ∷ x) ≡ names text ++ x ∷ []
more_names text x h n = ap names (sym (more_written text x h)) ∙ names_all (names text ++ x ∷ []) (named_more (names text) x h.named n)

-- and is one of names
pub more_text : (text : List ℕ) (x : Name) → IsNameText text → IsName x → IsNameText (text ++ 47 ∷ x)
more_text text x h n =
    let all = more_names text x h n in
    record {
      written = ap names_text all ∙ more_written text x h;
      named = subst (AllByRecursion IsName) (sym all) (named_more (names text) x h.named n);
    }

-- names are the same where their texts are
pub same_text : (t u : List ℕ) → IsNameText t → IsNameText u → same_bytes t u ≡ same_names (names t) (names u)
same_text t u h g =
    same_from_decides (same_bytes t u) (same_names (names t) (names u))
    (slice_eq-Decides Decides-eqb t u (same_bytes t u) refl)
    (Decides-like _ (λ e. sym h.written ∙ ap names_text e ∙ g.written) (λ e. ap names e)
    (slice_eq-Decides (λ x y. slice_eq-Decides Decides-eqb x y (same_bytes x y) refl) (names t) (names u) _ refl))
