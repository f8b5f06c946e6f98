-- Layers: each configuration once, found by its key.
use Rattle.std.proofs.Common.{◌≡◌, ℕ, zero, suc, ◌+◌, ◌<◌, ◌≤◌, List, [], ◌∷◌, ◌++◌, length, slice_get, Option, Some, None, refl, sym, ap, ◌∙◌, subst, ⊎_elim, arith, ◌⊎◌, inl, inr}
use Rattle.std.specs.List.{Contains}
use Rattle.std.proofs.lemmas.Bool.{cases_lt}
use Rattle.std.proofs.lemmas.List.{length-map, map-append}
use Rattle.std.proofs.lemmas.List.Elements.{Contains-append_right, Contains-append_cases, Contains-push_cases}
use Rattle.std.proofs.lemmas.Option.{slice_get-map, slice_get-get_or}
use Rattle.fs_linearize_histories.specs.Configurations.{Configuration}
use Rattle.fs_linearize_histories.specs.Apart.{AreApart}
use Rattle.fs_linearize_configurations.specs.code.Keys.{key_of, IsLastWith}
use Rattle.fs_linearize_configurations.specs.code.Layers.{keys}
use Rattle.fs_linearize_configurations.specs.code.Ways.{configurations}
use Rattle.fs_linearize_configurations.specs.declared.reached.Reached.{Reached}
use Rattle.fs_linearize_configurations.proofs.WayLemmas.{contains_way}

-- ---- no configuration twice

pub apart_append : (xs ys : List Configuration) → AreApart xs → AreApart ys → ((x : Configuration) → Contains xs x → Contains ys x → ⊥) → AreApart (xs ++ ys)
apart_append [] ys a b none = b
apart_append (x ∷ xs) ys a b none = (
  λ there. ⊎_elim (λ one. a.0 one) (λ other. none x (0, omega arith, refl) other) (Contains-append_cases xs ys x there),
  apart_append xs ys a.1 b (λ z one other. none z (Contains-append_right (x ∷ []) xs z one) other),
)

pub apart_push : (xs : List Configuration) (x : Configuration) → AreApart xs → (Contains xs x → ⊥) → AreApart (xs ++ x ∷ [])
apart_push xs x a absent = apart_append xs (x ∷ []) a ((λ none. let small = none.1 in omega (arith, small)), tt) (λ z one here. absent (subst (Contains xs) (sym (only z here)) one))
  where
    only : (z : Configuration) → Contains (x ∷ []) z → x ≡ z
    only z here = ⊎_elim (λ none. absurd (let small = none.1 in omega (arith, small))) (λ same. same) (Contains-push_cases [] x z here)

pub keyed_push : (rs : List Reached) (r : Reached) → keys (rs ++ r ∷ []) ≡ keys rs ++ key_of r.configuration.held ∷ []
keyed_push rs r = map-append (λ (s : Reached). key_of s.configuration.held) rs (r ∷ [])

-- ---- a configuration that is looked for

-- what is left of a chain: behind its place there is no such configuration
pub record IsLeft (rs : List Reached) (x : Configuration) (next : Option ℕ) : Type 0 where
  pub bound : ℕ
  pub within : bound ≤ length rs
  pub last : IsLastWith (keys rs) (key_of x.held) bound next
  pub others : (i : ℕ) (r : Reached) → bound ≤ i → slice_get rs i ≡ Some r → r.configuration ≡ x → ⊥

key_at : (rs : List Reached) (i : ℕ) (r : Reached) → slice_get rs i ≡ Some r → slice_get (keys rs) i ≡ Some (key_of r.configuration.held)
key_at rs i r is = slice_get-map (λ (s : Reached). key_of s.configuration.held) rs i ∙ ap (option_key) is
  where
    option_key : Option Reached → Option ℕ
    option_key None = None
    option_key (Some s) = Some (key_of s.configuration.held)

pub left_first : (rs : List Reached) (x : Configuration) (next : Option ℕ) → IsLastWith (keys rs) (key_of x.held) (length (keys rs)) next → IsLeft rs x next
left_first rs x next k = record {
  bound = length rs;
  within = omega arith;
  last = subst (λ n. IsLastWith (keys rs) (key_of x.held) n next) (length-map rs (λ (s : Reached). key_of s.configuration.held)) k;
  others = λ i r large is same. past rs i r large is;
}
  where
    past : (ss : List Reached) (i : ℕ) (r : Reached) → length ss ≤ i → slice_get ss i ≡ Some r → ⊥
    past [] i r large is = absurd (cc)
    past (s ∷ ss) zero r large is = omega (arith, large)
    past (s ∷ ss) (suc i) r large is = past ss i r (omega (arith, large)) is

-- the place of a chain is one of the layer
pub left_within : (rs : List Reached) (x : Configuration) (place : ℕ) → IsLeft rs x (Some place) → place < length rs
left_within rs x place k = let small = k.last.0 in let within = k.within in omega (arith, small, within)

pub left_more : (rs : List Reached) (x : Configuration) (place : ℕ) (r : Reached) (next : Option ℕ) → IsLeft rs x (Some place) → slice_get rs place ≡ Some r → (r.configuration ≡ x → ⊥)
    → ((key : ℕ) → slice_get (keys rs) place ≡ Some key → IsLastWith (keys rs) key place next) → IsLeft rs x next
left_more rs x place r next k at other goes = record {
  bound = place;
  within = (let small = left_within rs x place k in omega (arith, small));
  last = goes (key_of x.held) k.last.1;
  others = λ i s large is same. ⊎_elim
      (λ here. other (subst (λ (t : Reached). t.configuration ≡ x) (one i s here is) same))
      (λ later. ⊎_elim
      (λ low. k.last.2 i later low (key_at rs i s is ∙ ap (λ (y : Configuration). Some (key_of y.held)) same))
      (λ high. k.others i s high is same)
      (cases_lt i k.bound))
      (from place i large);
}
  where
    one : (i : ℕ) (s : Reached) → place ≡ i → slice_get rs i ≡ Some s → s ≡ r
    one i s here is = let both : Some s ≡ Some r = sym is ∙ ap (slice_get rs) (sym here) ∙ at in cc

    from : (a b : ℕ) → a ≤ b → (a ≡ b) ⊎ (a < b)
    from a b le = ⊎_elim (λ low. inr low) (λ high. inl (omega (arith, le, high))) (cases_lt a b)

-- at its end the configuration is not in the layer
pub left_none : (rs : List Reached) (x : Configuration) → IsLeft rs x None → Contains (configurations rs) x → ⊥
left_none rs x k there =
    let way = contains_way rs x there in
    let i = way.1.0 in
    let at : slice_get rs i ≡ Some way.0 = slice_get-get_or rs i way.0 way.1.1 ∙ ap Some way.1.2 in
    ⊎_elim
    (λ low. k.last i low (key_at rs i way.0 at ∙ ap (λ (y : Configuration). Some (key_of y.held)) way.2))
    (λ high. k.others i way.0 high at way.2)
    (cases_lt i k.bound)

-- how far a chain still goes
abbrev pub places_left : Option ℕ → ℕ
places_left None = 0
places_left (Some place) = place + 1

pub fewer_left : (rs : List Reached) (x : Configuration) (place : ℕ) (next : Option ℕ) → IsLeft rs x (Some place) → ((key : ℕ) → slice_get (keys rs) place ≡ Some key → IsLastWith (keys rs) key place next) → places_left next < place + 1
fewer_left rs x place None k goes = omega arith
fewer_left rs x place (Some earlier) k goes = let small = (goes (key_of x.held) k.last.1).0 in omega (arith, small)

pub apart_pushed : (rs : List Reached) (r : Reached) → AreApart (configurations rs) → (Contains (configurations rs) r.configuration → ⊥) → AreApart (configurations (rs ++ r ∷ []))
apart_pushed rs r a absent = subst AreApart (sym (map-append (λ (s : Reached). s.configuration) rs (r ∷ []))) (apart_push (configurations rs) r.configuration a absent)
