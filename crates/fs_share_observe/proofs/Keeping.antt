-- Each step of a reader or the writer keeps the rule.
use Rattle.std.proofs.Common.{◌≡◌, ◌≢◌, ℕ, List, [], ◌∷◌, ◌++◌, set, sym, refl, subst, ⊎_elim}
use mathlib.Core.Option.{some, some-ne-none}
use lib.ListN.{get_elem?}
use Rattle.left_right.specs.Register.{Admits, TurnsAt, Turns, Forks, Merges}
use Rattle.atomic_table.proofs.Lists.{at_set, at_snoc}
use Rattle.logbook.specs.Pages.{Book}
use Rattle.logbook.specs.declared.tokens.Seen.{Seen}
use Rattle.fs_share_observe.specs.declared.history.Law.{Law}
use Rattle.fs_share_observe.specs.declared.history.Noted.{Noted}
use Rattle.fs_share_observe.specs.declared.shown.Shown.{Shown}
use Rattle.fs_share_observe.specs.Playing.{AllOf, Keeps, Looks, IsPlayed}

abbrev Known : Type 0
Known = List (Seen Noted ℕ Law)

abbrev Rules : Shown → List Known → Type 0
Rules = Keeps

set_known : (b : Book) (views : List Known) (seat : ℕ) (w : Known) → AllOf b w → ((j : ℕ) (v : Known) → get_elem? views j ≡ some v → AllOf b v) → (j : ℕ) (v : Known) → get_elem? (set views seat w) j ≡ some v → AllOf b v
set_known b views seat w mine others j u at = ⊎_elim (λ (t : (j ≡ seat) × (w ≡ u)). subst (λ (y : Known). AllOf b y) t.1 mine)
    (λ (t : (j ≢ seat) × (get_elem? views j ≡ some u)). others j u t.1) (at_set views seat j w u at)

more_known : (b : Book) (views : List Known) (w : Known) → AllOf b w → ((j : ℕ) (v : Known) → get_elem? views j ≡ some v → AllOf b v) → (j : ℕ) (v : Known) → get_elem? (views ++ w ∷ []) j ≡ some v → AllOf b v
more_known b views w mine others j u at = ⊎_elim (λ (e : get_elem? views j ≡ some u). others j u e) (λ (is : w ≡ u). subst (λ (y : Known). AllOf b y) is mine) (at_snoc views w u j at)

pub begins : (x : Shown) → IsPlayed x → Rules x ([] ∷ [])
begins x is = (is, more_known x.token.book [] [] tt (λ j v at. absurd (some-ne-none v (sym at))))

pub admits : Admits Rules []
admits x views h = (h.0, more_known x.token.book views [] tt h.1)

pub looks : (seat : ℕ) (v : Known) → Turns Rules seat v (λ x. x) Looks
looks seat v x views h at = (v, (h.0, set_known x.token.book views seat v (h.1 seat v at) h.1), (refl, h.0, h.1 seat v at))

pub publishes : (seat : ℕ) (v : Known) (x y : Shown) (w : Seen Noted ℕ Law) → w.book ≡ y.token.book → IsPlayed y → y.token.book ≡ x.token.book → TurnsAt Rules seat v x y (λ v x y u. u ≡ w ∷ [])
publishes seat v x y w own count same views h at = (
  w ∷ [],
  (count, set_known y.token.book views seat (w ∷ []) (own, tt) (λ j u e. subst (λ (b : Book). AllOf b u) (sym same) (h.1 j u e))),
  refl,
)

pub forks : (seat : ℕ) (v : Known) → Forks Rules seat v v v
forks seat v x views h at = (h.0, more_known x.token.book (set views seat v) v (h.1 seat v at) (set_known x.token.book views seat v (h.1 seat v at) h.1))

pub merges : (seat : ℕ) (v : Known) (other : ℕ) (w : Known) → Merges Rules seat v other w w []
merges seat v other w x views h at apart there =
    let b = x.token.book in
    let theirs : AllOf b w = ⊎_elim (λ (t : (other ≡ seat) × (w ≡ w)). absurd (apart t.0)) (λ (t : (other ≢ seat) × (get_elem? views other ≡ some w)). h.1 other w t.1) (at_set views seat other w w there) in
    (h.0, set_known b (set views seat w) other [] tt (set_known b views seat w theirs h.1))
