use Rattle.std.proofs.Common.{rules, ◌≡◌, ◌<◌, true, ℕ, [], List, count_by, length, map, take, get_or, ap, sym, ◌∙◌, subst, arith}
use Rattle.std.proofs.lemmas.Bool.{eqb-true}
use Rattle.std.proofs.lemmas.List.{take_all, length-map}
use Rattle.fs_timeline.specs.declared.entry.Entry.{Entry}
use Rattle.fs_share.specs.code.Begun.{AreBegun, begins_one, returns_one}
use Rattle.fs_share.proofs.Beginning.{all_begun}
use Rattle.fs_share.proofs.Waiting.{counted_returned}
use Rattle.fs_share.proofs.played.are_played.Goals as goal

pub returns : goal.returns
returns c same formed =
    let lists = map (λ v. v.items) c.args.lists.now in
    let entries = c.args.entries.now in
    let threads : length lists ≡ length c.args.lists.now = length-map c.args.lists.now (λ v. v.items) in
    let whole : take c.loop-entry.entry-index entries ≡ entries = take_all c.loop-entry.entry-index entries (omega arith) in
    let begun : AreBegun lists c.loop-entry.begun.items entries = subst (λ (es : List Entry). AreBegun lists c.loop-entry.begun.items es) whole c.loop-entry.invariant.begun in
    let yes : c.are_all.result ≡ true = search rules in
    let all : (k : ℕ) → k < length lists → get_or c.loop-entry.begun.items k 0 ≡ length (get_or lists k []) =
    λ k less. ap (λ (l : List ℕ). get_or l k 0) (sym c.as_slice.ensures.value) ∙ c.are_all.ensures yes k (subst (λ (n : ℕ). k < n) threads less) in
    let counted : count_by begins_one entries ≡ count_by returns_one entries = sym c.begun_in.ensures ∙ (eqb-true c.begun_in.result c.returned_in.result same ∙ c.returned_in.ensures) in
    record { begun = all_begun lists c.loop-entry.begun.items entries all begun; returned = counted_returned entries formed counted }
