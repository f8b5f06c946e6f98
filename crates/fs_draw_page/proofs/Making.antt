-- A page is made of its parts.
use Rattle.std.proofs.Common.{◌≡◌, ℕ, List, ◌++◌, Some, arith}
use Rattle.std.proofs.lemmas.Grind.{common_steps}
use Rattle.fs_draw_page.specs.Html.{printed, read_html}
use Rattle.fs_draw_page.specs.Pages.{IsPage}
use Rattle.fs_draw_page.specs.declared.template.TheConstants.{BEFORE, BETWEEN, AFTER}

-- five parts, one after the other
parts : (before picture between written after one two three four five : List ℕ) → one ≡ before → two ≡ one ++ picture → three ≡ two ++ between → four ≡ three ++ written → five ≡ four ++ after → five ≡ before ++ (picture ++ (between ++ (written ++ after)))
parts before picture between written after one two three four five e f g h i = grind (arith, common_steps)

pub page_made : (picture played one two three four five : List ℕ) → one ≡ BEFORE.now → two ≡ one ++ picture → three ≡ two ++ BETWEEN.now → ((written : List ℕ) × (four ≡ three ++ written) × (read_html written ≡ Some (printed played))) → five ≡ four ++ AFTER.now → IsPage picture played five
page_made picture played one two three four five e f g h i =
    record { written = h.0; parts = parts BEFORE.now picture BETWEEN.now h.0 AFTER.now one two three four five e f g h.1 i; reads = h.2 }
