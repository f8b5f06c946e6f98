-- Lines that are added up.
use Rattle.std.proofs.Common.{ℕ, suc, ◌≡◌, ◌+◌, ◌<◌, List, [], ◌∷◌, ◌++◌, length, map, take, get_or, IsPermutation, Bor, refl, sym, ap, ◌∙◌, subst, arith, take-suc}
use Rattle.fs_words.specs.Lines.{lines_of}
use Rattle.fs_sched_outcomes.specs.Added.{AreAdded}
use Rattle.fs_sched_outcomes.specs.Lines.{added_line, added_text}
use Rattle.fs_sched_outcomes.specs.Sums.{AddsUp, AreInOrder}
use Rattle.fs_sched_outcomes.specs.code.Mades.{AddsLine, HasLines}
use Rattle.fs_sched_outcomes.specs.declared.lines.Form.{Form}
use Rattle.fs_sched_outcomes.specs.declared.rows.Row.{Row}
use Rattle.fs_sched_outcomes.proofs.AddLemmas.{adds_none, adds_more}
use Rattle.fs_sched_outcomes.proofs.OutcomeLemmas.{sums_order}

pub lines_none : (labels : List (List ℕ)) → HasLines labels [] []
lines_none labels = ([], refl, adds_none)

mapped_more : {X Y : Type 0} (f : X → Y) (xs : List X) (x : X) → map f (xs ++ x ∷ []) ≡ map f xs ++ f x ∷ []
mapped_more f [] x = refl
mapped_more f (y ∷ ys) x = ap (λ l. f y ∷ l) (mapped_more f ys x)

pub lines_more : (labels : List (List ℕ)) (lines : List (Bor (List ℕ))) (at : ℕ) (d : Bor (List ℕ)) (old new : List Row) → at < length lines
    → HasLines labels (map (λ l. l.now) (take at lines)) old → AddsLine labels (get_or lines at d).now old new → HasLines labels (map (λ l. l.now) (take (at + 1) lines)) new
lines_more labels lines at d old new less (given, told, sums) (row, is, changed) =
    let on : at + 1 ≡ suc at = omega arith in
    let line : List ℕ = (get_or lines at d).now in
    let all : map (λ (l : Bor (List ℕ)). l.now) (take (at + 1) lines) ≡ map (λ (l : Bor (List ℕ)). l.now) (take at lines) ++ line ∷ [] =
    ap (λ n. map (λ (l : Bor (List ℕ)). l.now) (take n lines)) on ∙ ap (map (λ (l : Bor (List ℕ)). l.now)) (take-suc lines at d less) ∙ mapped_more (λ (l : Bor (List ℕ)). l.now) (take at lines) (get_or lines at d) in (
      given ++ row ∷ [],
      all ∙ ap (λ l. l ++ line ∷ []) told ∙ ap (λ l. map (added_line labels) given ++ l ∷ []) is ∙ sym (mapped_more (added_line labels) given row),
      subst (λ rows. AddsUp (given ++ row ∷ []) rows) (sym changed) (adds_more given old row sums),
    )

pub added_made : (form : Form) (input text : List ℕ) (labels : List (List ℕ)) (lines : List (List ℕ)) (rows ordered : List Row) → lines ≡ lines_of input → HasLines labels lines rows → IsPermutation rows ordered → AreInOrder ordered
    → text ≡ added_text form labels ordered → AreAdded form input text
added_made form input text labels lines rows ordered read (given, told, sums) moved order is = (labels, given, ordered, sym read ∙ told, sums_order given rows ordered moved sums, order, is)
