-- The pieces of a list, one behind the other, are the directory.
use Rattle.std.proofs.Common.{◌≡◌, ℕ, zero, suc, ◌+◌, ◌*◌, Bool, true, false, cond, ◌&&◌, List, [], ◌∷◌, ◌++◌, take, drop, refl, sym, ap, subst, ◌∙◌, T, Ordering, Less, Equal, Greater, arith, append_assoc}
use Rattle.std.specs.Prelude.{min}
use Rattle.std.specs.Ordering.{is_lt, ordering_reverse}
use Rattle.std.specs.FinMap.{is_sorted}
use Rattle.std.specs.FinMap.Entries.{below_all}
use Rattle.std.proofs.lemmas.Cmp.{tied_itself}
use Rattle.std.proofs.lemmas.List.{take-append-drop}
use Rattle.std.proofs.Math.Seq.{take-add}
use Rattle.fs_names.specs.Names.{Name, name_cmp, names_above}
use Rattle.fs_names.specs.Keys.{Key, last_of}
use Rattle.fs_names.specs.declared.limits.TheConstants.{LIST_LIMIT}
use Rattle.fs_names.proofs.Lemmas.{name_total}
use Rattle.fs_calls.specs.Tree.{names_in}
use Rattle.fs_calls.specs.Laws.{behind, pieces, HaveBytes, PiecesAreAll}
use Rattle.fs_calls.proofs.Children.{marked, sorted-names_in}
use Rattle.fs_calls.proofs.ListLemmas.{true_T}

-- the first and the second of two facts
first : (a b : Bool) → T (a && b) → T a
first true b p = tt
first false b p = p

second : (a b : Bool) → T (a && b) → T b
second true b p = p
second false b p = absurd p

is_so : (b : Bool) → T b → b ≡ true
is_so true h = refl
is_so false h = absurd h

-- ---- what stands above a name of a directory

-- a name that is kept, and one that is left out
abbrev kept : Bool → Name → List Name → List Name
kept b y names = cond {A = List Name} b (y ∷ names) names

-- each name that rises stands above
all_above : (x : Name) (names : List Name) → T (below_all name_cmp x (marked names)) → names_above x names ≡ names
all_above x [] h = refl
all_above x (y ∷ names) h =
    let less : is_lt (name_cmp x y) ≡ true = is_so (is_lt (name_cmp x y)) (first (is_lt (name_cmp x y)) (below_all name_cmp x (marked names)) h) in
    ap (λ (b : Bool). kept b y (names_above x names)) less
    ∙ ap (λ (ys : List Name). y ∷ ys) (all_above x names (second (is_lt (name_cmp x y)) (below_all name_cmp x (marked names)) h))

below_it : (x y : Name) (front rest : List Name) → T (below_all name_cmp y (marked (front ++ x ∷ rest))) → T (is_lt (name_cmp y x))
below_it x y [] rest h = first (is_lt (name_cmp y x)) (below_all name_cmp y (marked rest)) h
below_it x y (z ∷ front) rest h = below_it x y front rest (second (is_lt (name_cmp y z)) (below_all name_cmp y (marked (front ++ x ∷ rest))) h)

not_less : (o : Ordering) → T (is_lt o) → is_lt (ordering_reverse o) ≡ false
not_less Less h = refl
not_less Equal h = absurd h
not_less Greater h = absurd h

not_above : (x y : Name) → T (is_lt (name_cmp y x)) → is_lt (name_cmp x y) ≡ false
not_above x y h = ap is_lt (name_total.antisymm x y) ∙ not_less (name_cmp y x) h

above_it : (x : Name) (front rest : List Name) → T (is_sorted name_cmp (marked (front ++ x ∷ rest))) → names_above x (front ++ x ∷ rest) ≡ rest
above_it x [] rest h =
    let same : is_lt (name_cmp x x) ≡ false = ap is_lt (tied_itself name_total x) in
    ap (λ (b : Bool). kept b x (names_above x rest)) same ∙ all_above x rest (first (below_all name_cmp x (marked rest)) (is_sorted name_cmp (marked rest)) h)
above_it x (y ∷ front) rest h =
    let less : is_lt (name_cmp x y) ≡ false = not_above x y (below_it x y front rest (first (below_all name_cmp y (marked (front ++ x ∷ rest))) (is_sorted name_cmp (marked (front ++ x ∷ rest))) h)) in
    ap (λ (b : Bool). kept b y (names_above x (front ++ x ∷ rest))) less
    ∙ above_it x front rest (second (below_all name_cmp y (marked (front ++ x ∷ rest))) (is_sorted name_cmp (marked (front ++ x ∷ rest))) h)

-- all stand above no bytes
above_none : (names : List Name) → HaveBytes names → names_above [] names ≡ names
above_none [] h = refl
above_none ([] ∷ names) h = absurd (h.0 refl)
above_none ((b ∷ bs) ∷ names) h = ap (λ (ys : List Name). (b ∷ bs) ∷ ys) (above_none names h.1)

-- ---- pieces

module _ (names : List Name) (rises : T (is_sorted name_cmp (marked names))) where
  -- what is left behind a piece stands above its last name
  left : (m : ℕ) (front rest : List Name) (after : Key) → names ≡ front ++ rest → names_above (last_of after) names ≡ rest → names_above (last_of (behind after (take m rest))) names ≡ drop m rest
  left zero front rest after are above = above
  left (suc m) front [] after are above = above
  left (suc m) front (x ∷ rest) after are above =
      left m (front ++ x ∷ []) rest (x ∷ []) (are ∙ sym (append_assoc front (x ∷ []) rest))
      (ap (names_above x) are ∙ above_it x front rest (subst (λ (ns : List Name). T (is_sorted name_cmp (marked ns))) are rises))

  all_pieces : (n count m : ℕ) (front rest : List Name) (after : Key) → min count LIST_LIMIT ≡ m → names ≡ front ++ rest → names_above (last_of after) names ≡ rest → pieces n count after names ≡ take (n * m) rest
  all_pieces zero count m front rest after most are above = let none : 0 * m ≡ 0 = omega arith in sym (ap (λ k. take k rest) none)
  all_pieces (suc n) count m front rest after most are above =
      let piece : take (min count LIST_LIMIT) (names_above (last_of after) names) ≡ take m rest = ap (λ k. take k (names_above (last_of after) names)) most ∙ ap (take m) above in
      let split : front ++ rest ≡ (front ++ take m rest) ++ drop m rest = sym (append_assoc front (take m rest) (drop m rest) ∙ ap (λ (z : List Name). front ++ z) (take-append-drop m rest)) in
      let more : m + n * m ≡ suc n * m = omega arith in
      ap (λ (p : List Name). p ++ pieces n count (behind after p) names) piece
      ∙ ap (λ (z : List Name). take m rest ++ z) (all_pieces n count m (front ++ take m rest) (drop m rest) (behind after (take m rest)) most (are ∙ split) (left m front rest after are above))
      ∙ sym (take-add m (n * m) rest)
      ∙ ap (λ k. take k rest) more

pub pieces_are_all : PiecesAreAll
pieces_are_all t d n count tree bytes =
    all_pieces (names_in t d) (sorted-names_in t d (true_T tree.sorted)) n count (min count LIST_LIMIT) [] (names_in t d) [] refl refl (above_none (names_in t d) bytes)
