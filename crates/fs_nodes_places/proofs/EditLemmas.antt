-- What the places say after one of them has changed.
use Rattle.std.proofs.Common.{◌≡◌, ℕ, zero, suc, ◌<◌, Bool, false, cond, eqb, List, [], ◌∷◌, Option, Some, None, option_map, set, get_or, length, refl, ap, ◌∙◌, arith}
use Rattle.std.specs.Prelude.{slice_get}
use Rattle.std.proofs.lemmas.Option.{slice_get_read}
use Rattle.fs_nodes_places.specs.declared.node.Node.{Node}
use Rattle.fs_nodes_places.specs.declared.place.Place.{Place}
use Rattle.fs_nodes_places.specs.Plains.{plain, plains}
use Rattle.fs_nodes_places.specs.code.Edits.{edited}

-- a place is read at its number
pub read_place : (ps : List Place) (n : ℕ) (p : Place) → n < length ps → p ≡ get_or ps n p → slice_get ps n ≡ Some p
read_place ps n p h v = slice_get_read ps _ n p refl h v

-- a place that is read after an edit
pub get_edited : (n : ℕ) (f : Place → Place) (ps : List Place) (m : ℕ) → slice_get (edited n f ps) m ≡ option_map (λ p. cond (eqb m n) (f p) p) (slice_get ps m)
get_edited n f [] m = refl
get_edited zero f (p ∷ ps) zero = refl
get_edited zero f (p ∷ ps) (suc m) = let e : false ≡ eqb (suc m) 0 = grind arith in same (slice_get ps m) (eqb (suc m) 0) e
  where
    same : (o : Option Place) (b : Bool) → false ≡ b → o ≡ option_map (λ q. cond b (f q) q) o
    same None b e = refl
    same (Some q) b e = ap (λ (t : Bool). Some (cond t (f q) q)) e
get_edited (suc n) f (p ∷ ps) zero = let e : false ≡ eqb 0 (suc n) = grind arith in ap (λ (t : Bool). Some (cond t (f p) p)) e
get_edited (suc n) f (p ∷ ps) (suc m) = get_edited n f ps m ∙ (let e : eqb m n ≡ eqb (suc m) (suc n) = grind arith in ap (λ (t : Bool). option_map (λ q. cond t (f q) q) (slice_get ps m)) e)

-- the edit that the code makes
pub set_edited : (n : ℕ) (f : Place → Place) (ps : List Place) (p q : Place) → p ≡ get_or ps n p → q ≡ f p → set ps n q ≡ edited n f ps
set_edited n f [] p q e g = refl
set_edited zero f (r ∷ ps) p q e g = ap (λ (z : Place). z ∷ ps) (g ∙ ap f e)
set_edited (suc n) f (r ∷ ps) p q e g = ap (λ (l : List Place). r ∷ l) (set_edited n f ps p q e g)

-- there are as many places as before
pub length_edited : (n : ℕ) (f : Place → Place) (ps : List Place) → length (edited n f ps) ≡ length ps
length_edited n f [] = refl
length_edited zero f (p ∷ ps) = refl
length_edited (suc n) f (p ∷ ps) = ap suc (length_edited n f ps)

-- an edit of a way says nothing to those who look along no way
pub plains_edited : (n : ℕ) (f : Place → Place) (ps : List Place) → ((p : Place) → plain (f p) ≡ plain p) → plains (edited n f ps) ≡ plains ps
plains_edited n f [] h = refl
plains_edited zero f (p ∷ ps) h = ap (λ (z : Option Node). z ∷ plains ps) (h p)
plains_edited (suc n) f (p ∷ ps) h = ap (λ (l : List (Option Node)). plain p ∷ l) (plains_edited n f ps h)

-- an edit of an entry sets the node
pub plains_set : (n : ℕ) (f : Place → Place) (ps : List Place) (p : Place) → slice_get ps n ≡ Some p → plains (edited n f ps) ≡ set (plains ps) n (plain (f p))
plains_set n f [] p e = cc
plains_set zero f (q ∷ ps) p e = let h : q ≡ p = cc in ap (λ (z : Place). plain (f z) ∷ plains ps) h
plains_set (suc n) f (q ∷ ps) p e = ap (λ (l : List (Option Node)). plain q ∷ l) (plains_set n f ps p e)
