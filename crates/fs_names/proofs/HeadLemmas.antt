-- Names stand to each other as the numbers of their first bytes do, where these differ.
use Rattle.std.proofs.Common.{◌≡◌, ℕ, zero, suc, ◌+◌, ◌*◌, ◌<◌, ◌≤◌, true, ◌&&◌, not, nat_le, IsTrue, List, [], ◌∷◌, length, take, drop, ◌++◌, min, refl, sym, ap, ap₂, subst, ◌∙◌, arith, Ordering, Less, Equal, Greater}
use Rattle.std.specs.Ordering.{nat_cmp, ordering_then, ordering_reverse}
use Rattle.std.specs.Cmp.{nat_cmp_is}
use Rattle.std.specs.List.{list_all}
use Rattle.std.proofs.lemmas.Cmp.{tied_itself}
use Rattle.std.proofs.Math.Seq.{take-add}
use Rattle.fs_names.specs.Names.{Name, name_cmp, may_stand, is_dots, can_name}
use Rattle.fs_names.specs.Limits.{largest, name_limit}
use Rattle.fs_names.proofs.Lemmas.{name_total}
use Rattle.std.proofs.lemmas.Bool.{and_parts}
use Rattle.fs_names.specs.Heads.{first, rest, number_with, AreBytes, IsHead}

-- how two numbers stand to each other
data Holdings (x y : ℕ) : Type 0 where
  Lesser : x < y → Holdings x y
  Alike : x ≡ y → Holdings x y
  Larger : y < x → Holdings x y

holdings : (x y : ℕ) → Holdings x y
holdings zero zero = Alike refl
holdings zero (suc y) = Lesser (omega arith)
holdings (suc x) zero = Larger (omega arith)
holdings (suc x) (suc y) = go (holdings x y)
  where
    go : Holdings x y → Holdings (suc x) (suc y)
    go (Lesser h) = Lesser (omega arith)
    go (Alike h) = Alike (ap suc h)
    go (Larger h) = Larger (omega arith)

-- a number with no more bytes is at most a greater one with some
no_more : (k a b : ℕ) (ys : List ℕ) → a ≤ b → number_with a k [] ≤ number_with b k ys
no_more zero a b ys h = h
no_more (suc k) a b ys h = no_more k (a * 256 + 0) (b * 256 + first ys) (rest ys) (omega arith)

-- a lesser number stays lesser with bytes
stays_less : (k a b : ℕ) (xs ys : List ℕ) → AreBytes k xs → a < b → number_with a k xs < number_with b k ys
stays_less zero a b xs ys r h = h
stays_less (suc k) a b xs ys r h = stays_less k (a * 256 + first xs) (b * 256 + first ys) (rest xs) (rest ys) r.1 (let f : first xs < 256 = r.0 in omega arith)

-- of bytes with a lesser number the name is lesser
lesser : (k a : ℕ) (xs ys : Name) → AreBytes k ys → number_with a k xs < number_with a k ys → name_cmp xs ys ≡ Less
lesser zero a xs ys r h = absurd (omega arith)
lesser (suc k) a [] [] r h = absurd (omega arith)
lesser (suc k) a [] (y ∷ ys) r h = refl
lesser (suc k) a (x ∷ xs) [] r h = absurd (let g : number_with (a * 256 + 0) k [] ≤ number_with (a * 256 + x) k xs = no_more k (a * 256 + 0) (a * 256 + x) xs (omega arith) in omega arith)
lesser (suc k) a (x ∷ xs) (y ∷ ys) r h = go (holdings x y) (λ i. lesser k (a * 256 + y) xs ys r.1 i)
  where
    go : Holdings x y → (number_with (a * 256 + y) k xs < number_with (a * 256 + y) k ys → name_cmp xs ys ≡ Less) → name_cmp (x ∷ xs) (y ∷ ys) ≡ Less
    go (Lesser g) more = ap (λ (o : Ordering). ordering_then o (name_cmp xs ys)) (sym (nat_cmp_is x y Less g))
    go (Alike g) more =
        let i : number_with (a * 256 + y) k xs < number_with (a * 256 + y) k ys = subst (λ (z : ℕ). number_with (a * 256 + z) k xs < number_with (a * 256 + y) k ys) g h in
        ap (λ (o : Ordering). ordering_then o (name_cmp xs ys)) (sym (nat_cmp_is x y Equal g)) ∙ more i
    go (Larger g) more = absurd (let i : number_with (a * 256 + y) k ys < number_with (a * 256 + x) k xs = stays_less k (a * 256 + y) (a * 256 + x) ys xs r.1 (omega arith) in omega arith)

-- the same of two names with their numbers
pub head_less : (a b : ℕ) (x y : Name) → IsHead a x → IsHead b y → a < b → name_cmp x y ≡ Less
head_less a b x y i j h = lesser 8 0 x y j.bytes (subst (λ (z : ℕ). z < number_with 0 8 y) i.is (subst (λ (z : ℕ). a < z) j.is h))

-- and the other way round
pub head_greater : (a b : ℕ) (x y : Name) → IsHead a x → IsHead b y → b < a → name_cmp x y ≡ Greater
head_greater a b x y i j h = name_total.antisymm x y ∙ ap ordering_reverse (head_less b a y x j i h)

-- a byte that may stand in a name is not zero
not_zero : (b : ℕ) (bs : List ℕ) → list_all may_stand (b ∷ bs) ≡ true → (0 < b) × (list_all may_stand bs ≡ true)
not_zero b bs e = let two : (may_stand b ≡ true) × (list_all may_stand bs ≡ true) = and_parts (may_stand b) (list_all may_stand bs) e in (go b two.0, two.1)
  where
    go : (b : ℕ) → may_stand b ≡ true → 0 < b
    go zero e = absurd (cc)
    go (suc b) e = omega arith

-- names with the same number begin with the same bytes
same_front : (k a : ℕ) (xs ys : Name) → AreBytes k xs → AreBytes k ys → list_all may_stand xs ≡ true → list_all may_stand ys ≡ true → number_with a k xs ≡ number_with a k ys → take k xs ≡ take k ys
same_front zero a xs ys r s e f n = refl
same_front (suc k) a [] [] r s e f n = refl
same_front (suc k) a [] (y ∷ ys) r s e f n =
    let p : 0 < y = (not_zero y ys f).0 in
    let l : number_with (a * 256 + 0) k [] < number_with (a * 256 + y) k ys = stays_less k (a * 256 + 0) (a * 256 + y) [] ys r.1 (omega arith) in
    absurd (omega arith)
same_front (suc k) a (x ∷ xs) [] r s e f n =
    let p : 0 < x = (not_zero x xs e).0 in
    let l : number_with (a * 256 + 0) k [] < number_with (a * 256 + x) k xs = stays_less k (a * 256 + 0) (a * 256 + x) [] xs s.1 (omega arith) in
    absurd (omega arith)
same_front (suc k) a (x ∷ xs) (y ∷ ys) r s e f n = go (holdings x y) (λ m. same_front k (a * 256 + y) xs ys r.1 s.1 (not_zero x xs e).1 (not_zero y ys f).1 m)
  where
    go : Holdings x y → (number_with (a * 256 + y) k xs ≡ number_with (a * 256 + y) k ys → take k xs ≡ take k ys) → take (suc k) (x ∷ xs) ≡ take (suc k) (y ∷ ys)
    go (Lesser g) more = absurd (let l : number_with (a * 256 + x) k xs < number_with (a * 256 + y) k ys = stays_less k (a * 256 + x) (a * 256 + y) xs ys r.1 (omega arith) in omega arith)
    go (Alike g) more = ap (λ (z : ℕ). z ∷ take k xs) g ∙ ap (λ (l : List ℕ). y ∷ l) (more (subst (λ (z : ℕ). number_with (a * 256 + z) k xs ≡ number_with (a * 256 + y) k ys) g n))
    go (Larger g) more = absurd (let l : number_with (a * 256 + y) k ys < number_with (a * 256 + x) k xs = stays_less k (a * 256 + y) (a * 256 + x) ys xs s.1 (omega arith) in omega arith)

-- all bytes of a short name
whole : (k : ℕ) (xs : Name) → length xs ≤ k → take k xs ≡ xs
whole zero [] h = refl
whole zero (x ∷ xs) h = absurd (omega arith)
whole (suc k) [] h = refl
whole (suc k) (x ∷ xs) h = ap (λ (l : List ℕ). x ∷ l) (whole k xs (omega arith))

-- what may stand in a name
named : (x : Name) → IsTrue (can_name x) → list_all may_stand x ≡ true
named x h =
    let one : ((nat_le 1 (length x) && nat_le (length x) (name_limit largest) && list_all may_stand x) ≡ true) × (not (is_dots x) ≡ true) = and_parts (nat_le 1 (length x) && nat_le (length x) (name_limit largest) && list_all may_stand x) (not (is_dots x)) h in
    (and_parts (nat_le 1 (length x) && nat_le (length x) (name_limit largest)) (list_all may_stand x) one.0).1

-- names with the same number begin with the same eight bytes
pub head_front : (a b : ℕ) (x y : Name) → IsHead a x → IsHead b y → IsTrue (can_name x) → IsTrue (can_name y) → b ≤ a → a ≤ b → take 8 x ≡ take 8 y
head_front a b x y i j e f least most =
    let same : a ≡ b = omega arith in
    same_front 8 0 x y i.bytes j.bytes (named x e) (named y f) (sym i.is ∙ same ∙ j.is)

-- short names with the same number stand to each other as equal names
pub head_same : (a b : ℕ) (x y : Name) → IsHead a x → IsHead b y → IsTrue (can_name x) → IsTrue (can_name y) → length x ≤ 8 → length y ≤ 8 → b ≤ a → a ≤ b → Equal ≡ name_cmp x y
head_same a b x y i j e f h k least most =
    let s : x ≡ y = sym (whole 8 x h) ∙ head_front a b x y i j e f least most ∙ whole 8 y k in
    sym (ap (λ (w : Name). name_cmp x w) (sym s) ∙ tied_itself name_total x)

-- names that begin with the same bytes stand to each other as they do without some of these
behind : (j k : ℕ) (xs ys : Name) → j ≤ k → take k xs ≡ take k ys → name_cmp (drop j xs) (drop j ys) ≡ name_cmp xs ys
behind zero k xs ys h e = refl
behind (suc j) zero xs ys h e = absurd (omega arith)
behind (suc j) (suc k) [] [] h e = refl
behind (suc j) (suc k) [] (y ∷ ys) h e = absurd (cc)
behind (suc j) (suc k) (x ∷ xs) [] h e = absurd (cc)
behind (suc j) (suc k) (x ∷ xs) (y ∷ ys) h e =
    let same : x ≡ y = cc in
    let more : take k xs ≡ take k ys = cc in
    behind j k xs ys (omega arith) more ∙ ap (λ (o : Ordering). ordering_then o (name_cmp xs ys)) (nat_cmp_is x y Equal same)

-- so the numbers of what is left tell
pub behind_less : (j k a b : ℕ) (x y : Name) → j ≤ k → take k x ≡ take k y → IsHead a (drop j x) → IsHead b (drop j y) → a < b → Less ≡ name_cmp x y
behind_less j k a b x y h e m n l = sym (head_less a b (drop j x) (drop j y) m n l) ∙ behind j k x y h e

pub behind_greater : (j k a b : ℕ) (x y : Name) → j ≤ k → take k x ≡ take k y → IsHead a (drop j x) → IsHead b (drop j y) → b < a → Greater ≡ name_cmp x y
behind_greater j k a b x y h e m n l = sym (head_greater a b (drop j x) (drop j y) m n l) ∙ behind j k x y h e

-- fewer bytes at the front are the same too
fewer : (j k : ℕ) (xs ys : Name) → j ≤ k → take k xs ≡ take k ys → take j xs ≡ take j ys
fewer zero k xs ys h e = refl
fewer (suc j) zero xs ys h e = absurd (omega arith)
fewer (suc j) (suc k) [] [] h e = refl
fewer (suc j) (suc k) [] (y ∷ ys) h e = absurd (cc)
fewer (suc j) (suc k) (x ∷ xs) [] h e = absurd (cc)
fewer (suc j) (suc k) (x ∷ xs) (y ∷ ys) h e =
    let same : x ≡ y = cc in
    let more : take k xs ≡ take k ys = cc in
    ap₂ (λ (z : ℕ) (l : List ℕ). z ∷ l) same (fewer j k xs ys (omega arith) more)

-- the bytes behind some may stand
rest_named : (j : ℕ) (bs : List ℕ) → list_all may_stand bs ≡ true → list_all may_stand (drop j bs) ≡ true
rest_named zero bs e = e
rest_named (suc j) [] e = e
rest_named (suc j) (b ∷ bs) e = rest_named j bs (not_zero b bs e).1

-- eight bytes more are the same, where their numbers are
pub eight_more : (j k a b : ℕ) (x y : Name) → j ≤ k → take k x ≡ take k y → IsHead a (drop j x) → IsHead b (drop j y) → IsTrue (can_name x) → IsTrue (can_name y) → b ≤ a → a ≤ b → take (j + 8) x ≡ take (j + 8) y
eight_more j k a b x y h e m n f g least most =
    let same : a ≡ b = omega arith in
    let more : take 8 (drop j x) ≡ take 8 (drop j y) = same_front 8 0 (drop j x) (drop j y) m.bytes n.bytes (rest_named j x (named x f)) (rest_named j y (named y g)) (sym m.is ∙ same ∙ n.is) in
    take-add j 8 x ∙ ap₂ (λ (us vs : List ℕ). us ++ vs) (fewer j k x y h e) more ∙ sym (take-add j 8 y)

-- lengths stand to each other as those of names with a byte less
one_more : (m n : ℕ) → nat_cmp (suc m) (suc n) ≡ nat_cmp m n
one_more m n = go (holdings m n)
  where
    go : Holdings m n → nat_cmp (suc m) (suc n) ≡ nat_cmp m n
    go (Lesser h) = sym (nat_cmp_is (suc m) (suc n) Less (omega arith)) ∙ nat_cmp_is m n Less h
    go (Alike h) = sym (nat_cmp_is (suc m) (suc n) Equal (ap suc h)) ∙ nat_cmp_is m n Equal h
    go (Larger h) = sym (nat_cmp_is (suc m) (suc n) Greater (omega arith)) ∙ nat_cmp_is m n Greater h

-- names of which the shorter one begins the other stand to each other as their lengths do
pub ends : (k : ℕ) (xs ys : Name) → take k xs ≡ take k ys → min (length xs) (length ys) ≤ k → nat_cmp (length xs) (length ys) ≡ name_cmp xs ys
ends k [] [] e h = refl
ends k [] (y ∷ ys) e h = sym (nat_cmp_is zero (suc (length ys)) Less (omega arith))
ends k (x ∷ xs) [] e h = sym (nat_cmp_is (suc (length xs)) zero Greater (omega arith))
ends zero (x ∷ xs) (y ∷ ys) e h = absurd (omega arith)
ends (suc k) (x ∷ xs) (y ∷ ys) e h =
    let same : x ≡ y = cc in
    let more : take k xs ≡ take k ys = cc in
    one_more (length xs) (length ys) ∙ ends k xs ys more (omega arith) ∙ ap (λ (o : Ordering). ordering_then o (name_cmp xs ys)) (nat_cmp_is x y Equal same)
