use Rattle.std.proofs.lemmas.List.{length-map, map-append}
use Rattle.std.proofs.Common.{◌≡◌, ◌++◌, ◌∷◌, [], length, map, append_assoc, arith, refl, sym, ap, ◌∙◌}
use Rattle.fs_names.specs.Reading.{names, name_fault}
use Rattle.fs_names.proofs.ReadingLemmas.{front_of, place_of, read_one, fault_one}
use Rattle.fs_names.proofs.path.cut_names.Goals as goal

pub returns-in-Some-clause-fault : goal.returns-in-Some-clause-fault
returns-in-Some-clause-fault c =
    let all = names c.args.bytes.now in
    let cut = map (λ text. text.now) c.loop-left.cut.items in
    let name = c.cut_name.result.0.now in
    let len : c.len.result ≡ length cut = c.len.ensures.value ∙ sym (length-map c.loop-left.cut.items (λ text. text.now)) in
    let whole = ap (λ more. cut ++ more) (sym c.cut_name.ensures.names) ∙ c.loop-left.invariant.all in
    let here = ap (λ n. name_fault c.args.limits n name) (sym len) ∙ sym c.name_fault.ensures ∙ c.in-Some.is in
    λ known. fault_one c.args.limits all cut (length cut) name _ (front_of all cut _ whole) refl (place_of all cut _ name whole) c.loop-left.invariant.right here

pub loop-left-preserved : goal.loop-left-preserved
loop-left-preserved c =
    let all = names c.args.bytes.now in
    let cut = map (λ text. text.now) c.loop-left.cut.items in
    let name = c.cut_name.result.0.now in
    let rest = names c.cut_name.result.1.now in
    let len : c.len.result ≡ length cut = c.len.ensures.value ∙ sym (length-map c.loop-left.cut.items (λ text. text.now)) in
    let whole = ap (λ more. cut ++ more) (sym c.cut_name.ensures.names) ∙ c.loop-left.invariant.all in
    let here = ap (λ n. name_fault c.args.limits n name) (sym len) ∙ sym c.name_fault.ensures ∙ c.in_default.is in
    let pushed = ap (map (λ text. text.now)) c.in-Ok.ensures.ok ∙ map-append (λ text. text.now) c.loop-left.cut.items _ in
    let next = read_one c.args.limits all cut (map (λ text. text.now) c.push.new.self.items) (length cut) name (front_of all cut _ whole) refl (place_of all cut _ name whole) pushed c.loop-left.invariant.right here in
    record {
      all = ap (λ xs. xs ++ rest) pushed ∙ append_assoc cut (name ∷ []) rest ∙ whole;
      right = next.1;
      name = c.cut_name.ensures.name;
      stack = omega (arith, c.loop-left.invariant.stack, c.push.ensures.capacity);
    }
