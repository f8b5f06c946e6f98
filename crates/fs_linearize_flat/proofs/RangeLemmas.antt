-- Where the entries at a key and below it stand among entries whose keys rise.
use Rattle.std.proofs.Common.{◌≡◌, ℕ, zero, suc, ◌+◌, ◌-◌, ◌<◌, ◌≤◌, Bool, true, false, cond, not, [], ◌∷◌, ◌++◌, length, take, drop, get_or, None, Option, is_some, refl, sym, ap, subst, ◌∙◌, arith, T, Less, Equal, Greater, inl, inr, length-drop}
use Rattle.std.specs.Ordering.{is_lt, ordering_then}
use Rattle.std.specs.List.{AllWithin}
use Rattle.std.specs.List.Sorted.{IsPartitionedBy}
use Rattle.std.specs.FinMap.{is_sorted}
use Rattle.std.specs.FinMap.Entries.{where_key, below_all, is_sorted-where_key}
use Rattle.std.proofs.lemmas.List.{take-append-drop, take_all}
use Rattle.std.proofs.lemmas.Bool.{cases_lt}
use Rattle.std.proofs.lemmas.Cmp.{tied_itself}
use Rattle.fs_names.specs.Names.{Name, name_cmp, same_name}
use Rattle.fs_names.specs.Keys.{Key, key_cmp, after_prefix}
use Rattle.fs_names.proofs.Lemmas.{name_exact, name_total, key_total, same_name_exact, same_name_refl}
use Rattle.fs_calls.specs.Tree.{Node, Tree}
use Rattle.fs_linearize_flat.proofs.SearchLemmas.{is_less, below_each, both_first, both_second, both, true_T, T_true}
use Rattle.fs_linearize_flat.specs.code.Cells.{IsAt, BelongsAt, IsRange, without_key, beside_key}

-- an entry of a tree
abbrev Cell : Type 0
Cell = Key × Node

-- ---- keys that begin with others

-- whether a key begins with another
abbrev pub begins : Key → Key → Bool
begins p k = is_some (after_prefix p k)

-- the same names are tied the other way round
tied_names : (x y : Name) → same_name x y ≡ true → name_cmp y x ≡ Equal
tied_names x y s = ap (name_cmp y) (same_name_exact x y s) ∙ tied_itself name_total y

-- what is below a key does not begin with it
pub less_begins_not : (p k : Key) → key_cmp k p ≡ Less → begins p k ≡ false
less_begins_not [] [] h = absurd (cc)
less_begins_not [] (y ∷ k) h = absurd (cc)
less_begins_not (x ∷ p) [] h = refl
less_begins_not (x ∷ p) (y ∷ k) h =
    elim (same_name x y) as (λ b. same_name x y ≡ b → is_some (cond {A = Option Key} b (after_prefix p k) None) ≡ false) [
      | true ↦ λ s. less_begins_not p k (ap (λ o. ordering_then o (key_cmp k p)) (sym (tied_names x y s)) ∙ h)
      | false ↦ λ s. refl
    ] refl

-- what is between a key and one that begins with it begins with it
pub between_begins : (p a b : Key) → is_lt (key_cmp a p) ≡ false → key_cmp a b ≡ Less → begins p b ≡ true → begins p a ≡ true
between_begins [] a b above less h = refl
between_begins (x ∷ p) [] b above less h = absurd (cc)
between_begins (x ∷ p) (y ∷ a) [] above less h = absurd (cc)
between_begins (x ∷ p) (y ∷ a) (z ∷ b) above less h =
    let one : same_name x z ≡ true = first_same (same_name x z) h in
    let rest : begins p b ≡ true = ap (λ c. is_some (cond {A = Option Key} c (after_prefix p b) None)) (sym one) ∙ h in
    let same : x ≡ z = same_name_exact x z one in
    elim (name_cmp y x) as (λ o. name_cmp y x ≡ o → is_lt (ordering_then o (key_cmp a p)) ≡ false → ordering_then o (key_cmp a b) ≡ Less → begins (x ∷ p) (y ∷ a) ≡ true) [
      | Less ↦ λ e up lo. absurd (cc)
      | Equal ↦ λ e up lo. on_same (name_exact y x e) (between_begins p a b up lo rest)
      | Greater ↦ λ e up lo. absurd (cc)
    ] refl above (ap (λ n. ordering_then (name_cmp y n) (key_cmp a b)) same ∙ less)
  where
    first_same : (c : Bool) → is_some (cond {A = Option Key} c (after_prefix p b) None) ≡ true → c ≡ true
    first_same true g = refl
    first_same false g = absurd (cc)

    on_same : y ≡ x → begins p a ≡ true → begins (x ∷ p) (y ∷ a) ≡ true
    on_same e g = ap (λ c. is_some (cond {A = Option Key} c (after_prefix p a) None)) (ap (same_name x) e ∙ same_name_refl x) ∙ g

-- ---- entries that are kept

-- all are kept
pub keeps_all : (p : Key → Bool) (t : Tree) → ((n : ℕ) (d : Cell) → n < length t → p (get_or t n d).0 ≡ true) → where_key key_cmp p t ≡ t
keeps_all p [] h = refl
keeps_all p (l ∷ t) h =
    let rest : where_key key_cmp p t ≡ t = keeps_all p t (λ n d g. h (suc n) d (omega arith)) in
    ap (λ b. cond {A = Tree} b (l ∷ where_key key_cmp p t) (where_key key_cmp p t)) (h 0 l (omega arith)) ∙ ap (λ z. l ∷ z) rest

-- none is
pub keeps_none : (p : Key → Bool) (t : Tree) → ((n : ℕ) (d : Cell) → n < length t → p (get_or t n d).0 ≡ false) → where_key key_cmp p t ≡ []
keeps_none p [] h = refl
keeps_none p (l ∷ t) h =
    ap (λ b. cond {A = Tree} b (l ∷ where_key key_cmp p t) (where_key key_cmp p t)) (h 0 l (omega arith)) ∙ keeps_none p t (λ n d g. h (suc n) d (omega arith))

-- a test holds from one place up to another, and nowhere else
pub record HoldsFrom (p : Key → Bool) (t : Tree) (i j : ℕ) : Type 0 where
  pub before : (n : ℕ) (d : Cell) → n < i → p (get_or t n d).0 ≡ false
  pub inside : (n : ℕ) (d : Cell) → i ≤ n → n < j → p (get_or t n d).0 ≡ true
  pub behind : (n : ℕ) (d : Cell) → j ≤ n → n < length t → p (get_or t n d).0 ≡ false

-- what is kept then
pub record IsKept (p : Key → Bool) (t : Tree) (i m j : ℕ) : Type 0 where
  pub kept : take m (drop i t) ≡ where_key key_cmp p t
  pub left : take i t ++ drop j t ≡ where_key key_cmp (λ y. not (p y)) t

-- one entry more in front
kept_in : (p : Key → Bool) (l : Cell) (t : Tree) → p l.0 ≡ true → where_key key_cmp p (l ∷ t) ≡ l ∷ where_key key_cmp p t
kept_in p l t e = ap (λ b. cond {A = Tree} b (l ∷ where_key key_cmp p t) (where_key key_cmp p t)) e

kept_out : (p : Key → Bool) (l : Cell) (t : Tree) → p l.0 ≡ false → where_key key_cmp p (l ∷ t) ≡ where_key key_cmp p t
kept_out p l t e = ap (λ b. cond {A = Tree} b (l ∷ where_key key_cmp p t) (where_key key_cmp p t)) e

-- from the first place on
kept_first : (p : Key → Bool) (t : Tree) (m : ℕ) → m ≤ length t → HoldsFrom p t 0 m → (take m t ≡ where_key key_cmp p t) × (drop m t ≡ where_key key_cmp (λ y. not (p y)) t)
kept_first p [] zero h holds = (refl, refl)
kept_first p [] (suc m) h holds = absurd (omega arith)
kept_first p (l ∷ t) zero h holds =
    (sym (keeps_none p (l ∷ t) (λ n d g. holds.behind n d (omega arith) g)), sym (keeps_all (λ y. not (p y)) (l ∷ t) (λ n d g. ap not (holds.behind n d (omega arith) g))))
kept_first p (l ∷ t) (suc m) h holds =
    let here : p l.0 ≡ true = holds.inside 0 l (omega arith) (omega arith) in
    let rest = kept_first p t m (omega arith) (record {
      before = λ n d g. absurd (omega arith);
      inside = λ n d low g. holds.inside (suc n) d (omega arith) (omega arith);
      behind = λ n d low g. holds.behind (suc n) d (omega arith) (omega arith);
    }) in
    (ap (λ z. l ∷ z) rest.0 ∙ sym (kept_in p l t here), rest.1 ∙ sym (kept_out (λ y. not (p y)) l t (ap not here)))

pub kept_range : (p : Key → Bool) (t : Tree) (i m j : ℕ) → i + m ≡ j → j ≤ length t → HoldsFrom p t i j → IsKept p t i m j
kept_range p [] zero zero zero e h holds = record { kept = refl; left = refl }
kept_range p [] zero zero (suc j) e h holds = absurd (omega arith)
kept_range p [] zero (suc m) j e h holds = absurd (omega arith)
kept_range p [] (suc i) m j e h holds = absurd (omega arith)
kept_range p (l ∷ t) zero m j e h holds =
    let same : m ≡ j = omega arith in
    let both = kept_first p (l ∷ t) m (omega arith) (subst (λ z. HoldsFrom p (l ∷ t) 0 z) (sym same) holds) in
    record { kept = both.0; left = ap (λ z. drop z (l ∷ t)) (sym same) ∙ both.1 }
kept_range p (l ∷ t) (suc i) m zero e h holds = absurd (omega arith)
kept_range p (l ∷ t) (suc i) m (suc j) e h holds =
    let here : p l.0 ≡ false = holds.before 0 l (omega arith) in
    let rest = kept_range p t i m j (omega arith) (omega arith) (record {
      before = λ n d g. holds.before (suc n) d (omega arith);
      inside = λ n d low g. holds.inside (suc n) d (omega arith) (omega arith);
      behind = λ n d low g. holds.behind (suc n) d (omega arith) (omega arith);
    }) in
    record { kept = rest.kept ∙ sym (kept_out p l t here); left = ap (λ z. l ∷ z) rest.left ∙ sym (kept_in (λ y. not (p y)) l t (ap not here)) }

-- ---- entries that rise

-- each is below those behind it
rising : (t : Tree) (i j : ℕ) (d : Cell) → T (is_sorted key_cmp t) → i < j → j < length t → key_cmp (get_or t i d).0 (get_or t j d).0 ≡ Less
rising [] i j d sorted le h = absurd (omega arith)
rising (l ∷ t) i zero d sorted le h = absurd (omega arith)
rising (l ∷ t) zero (suc j) d sorted le h = below_each l.0 t j d (both_first _ _ sorted) (omega arith)
rising (l ∷ t) (suc i) (suc j) d sorted le h = rising t i j d (both_second _ _ sorted) (omega arith) (omega arith)

-- a front of them rises
below_take : (x : Key) (n : ℕ) (t : Tree) → T (below_all key_cmp x t) → T (below_all key_cmp x (take n t))
below_take x zero [] h = tt
below_take x zero (l ∷ t) h = tt
below_take x (suc n) [] h = tt
below_take x (suc n) (l ∷ t) h = both _ _ (both_first _ _ h) (below_take x n t (both_second _ _ h))

take_sorted : (n : ℕ) (t : Tree) → T (is_sorted key_cmp t) → T (is_sorted key_cmp (take n t))
take_sorted zero [] h = tt
take_sorted zero (l ∷ t) h = tt
take_sorted (suc n) [] h = tt
take_sorted (suc n) (l ∷ t) h = both _ _ (below_take l.0 n t (both_first _ _ h)) (take_sorted n t (both_second _ _ h))

drop_sorted : (n : ℕ) (t : Tree) → T (is_sorted key_cmp t) → T (is_sorted key_cmp (drop n t))
drop_sorted zero [] h = tt
drop_sorted zero (l ∷ t) h = h
drop_sorted (suc n) [] h = tt
drop_sorted (suc n) (l ∷ t) h = drop_sorted n t (both_second _ _ h)

pub take_rises : (n : ℕ) (t : Tree) → is_sorted key_cmp t ≡ true → is_sorted key_cmp (take n t) ≡ true
take_rises n t h = T_true _ (take_sorted n t (true_T _ h))

pub drop_rises : (n : ℕ) (t : Tree) → is_sorted key_cmp t ≡ true → is_sorted key_cmp (drop n t) ≡ true
drop_rises n t h = T_true _ (drop_sorted n t (true_T _ h))

-- and a part that begins at a place
pub rest_rises : (n : ℕ) (t : Tree) → is_sorted key_cmp t ≡ true → is_sorted key_cmp (take (length t - n) (drop n t)) ≡ true
rest_rises n t h = take_rises (length t - n) (drop n t) (drop_rises n t h)

-- so do those that are not at a key, nor below it
pub beside_rises : (k : Key) (t new : Tree) → is_sorted key_cmp t ≡ true → new ≡ beside_key k t → is_sorted key_cmp new ≡ true
beside_rises k t new h e = ap (is_sorted key_cmp) e ∙ T_true _ (is_sorted-where_key key_cmp _ t (true_T _ h))

-- ---- what two searches find

-- keys that are below one come before the others
pub less_first : (k : Key) (t : Tree) → is_sorted key_cmp t ≡ true → IsPartitionedBy (λ (c : Cell). is_lt (key_cmp c.0 k)) t
less_first k t sorted i j d le h less =
    elim (cases_lt i j) [
      | inl under ↦ ap is_lt (key_total.trans _ _ k (rising t i j d (true_T _ sorted) under h) (is_less _ (true_T _ less)))
      | inr over ↦ let same : i ≡ j = omega arith in ap (λ m. is_lt (key_cmp (get_or t m d).0 k)) same ∙ less
    ]

-- of those that are not below a key the ones that begin with it come first
pub begins_first : (k : Key) (t : Tree) → is_sorted key_cmp t ≡ true → AllWithin (λ (c : Cell). is_lt (key_cmp c.0 k) ≡ false) t 0 (length t) → IsPartitionedBy (λ (c : Cell). begins k c.0) t
begins_first k t sorted above i j d le h g =
    elim (cases_lt i j) [
      | inl under ↦ between_begins k _ _ (above i d (omega arith) (omega arith)) (rising t i j d (true_T _ sorted) under h) g
      | inr over ↦ let same : i ≡ j = omega arith in ap (λ m. begins k (get_or t m d).0) same ∙ g
    ]

-- an entry behind a place
pub behind_place : (t : Tree) (i n : ℕ) (d : Cell) → get_or (drop i t) n d ≡ get_or t (i + n) d
behind_place [] zero n d = refl
behind_place [] (suc i) n d = refl
behind_place (l ∷ t) zero n d = let s : n ≡ 0 + n = omega arith in ap (λ m. get_or (l ∷ t) m d) s
behind_place (l ∷ t) (suc i) n d = let s : suc (i + n) ≡ suc i + n = omega arith in behind_place t i n d ∙ ap (λ m. get_or (l ∷ t) m d) s

-- what is not before a key is not below it, also among those from there on
pub above_from : (k : Key) (t rest : Tree) (i : ℕ) → i ≤ length t → rest ≡ drop i t → AllWithin (λ (c : Cell). is_lt (key_cmp c.0 k) ≡ false) t i (length t) → AllWithin (λ (c : Cell). is_lt (key_cmp c.0 k) ≡ false) rest 0 (length rest)
above_from k t rest i within is above n d low h =
    let long : length rest ≡ length t - i = ap length is ∙ length-drop i t in
    ap (λ z. is_lt (key_cmp (get_or z n d).0 k)) is ∙ ap (λ (c : Cell). is_lt (key_cmp c.0 k)) (behind_place t i n d) ∙ above (i + n) d (omega arith) (omega arith)

-- the places of the entries at a key and below it
pub range_is : (k : Key) (t rest : Tree) (i m : ℕ) → i ≤ length t → m ≤ length rest → rest ≡ drop i t
    → AllWithin (λ (c : Cell). is_lt (key_cmp c.0 k) ≡ true) t 0 i → AllWithin (λ (c : Cell). begins k c.0 ≡ true) rest 0 m → AllWithin (λ (c : Cell). begins k c.0 ≡ false) rest m (length rest) → IsRange t k i (i + m)
range_is k t rest i m within short is before inside behind =
    let long : length rest ≡ length t - i = ap length is ∙ length-drop i t in
    let kept : IsKept (begins k) t i m (i + m) = kept_range (begins k) t i m (i + m) refl (omega arith) (record {
      before = λ n d h. less_begins_not k _ (is_less _ (true_T _ (before n d (omega arith) h)));
      inside = λ n d low h. at n d low ∙ inside (n - i) d (omega arith) (omega arith);
      behind = λ n d low h. at n d (omega arith) ∙ behind (n - i) d (omega arith) (omega arith);
    }) in
    let same : i + m - i ≡ m = omega arith in
    record { order = omega arith; within = omega arith; below = ap (λ z. take z (drop i t)) same ∙ kept.kept; beside = kept.left }
  where
    at : (n : ℕ) (d : Cell) → i ≤ n → begins k (get_or t n d).0 ≡ begins k (get_or rest (n - i) d).0
    at n d low = let s : n ≡ i + (n - i) = omega arith in
        ap (λ z. begins k (get_or t z d).0) s ∙ ap (λ (c : Cell). begins k c.0) (sym (behind_place t i (n - i) d)) ∙ ap (λ z. begins k (get_or z (n - i) d).0) (sym is)

-- ---- the entries before a key, and those behind it

-- all from a place on
all_from : (n : ℕ) (t : Tree) → take (length t - n) (drop n t) ≡ drop n t
all_from n t = let long : length (drop n t) ≡ length t - n = length-drop n t in take_all (length t - n) (drop n t) (omega arith)

pub parts_found : (t : Tree) (k : Key) (i : ℕ) → IsAt t k i → take i t ++ take (length t - (i + 1)) (drop (i + 1) t) ≡ without_key k t
parts_found t k i at = ap (λ z. take i t ++ z) (all_from (i + 1) t) ∙ sym at.without

pub parts_missing : (t : Tree) (k : Key) (i : ℕ) → BelongsAt t k i → take i t ++ take (length t - i) (drop i t) ≡ without_key k t
parts_missing t k i at = ap (λ z. take i t ++ z) (all_from i t) ∙ take-append-drop i t ∙ sym at.without
