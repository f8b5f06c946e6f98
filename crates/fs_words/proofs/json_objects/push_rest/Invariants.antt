use Rattle.std.proofs.Common.{◌≡◌, ◌++◌, take}
use Rattle.std.specs.List.{flat_map}
use Rattle.fs_words.specs.JsonObjects.{next_text}
use Rattle.fs_words.proofs.json_objects.push_rest.Given as goal

abbrev pub invariant-loop-member : goal.invariant-loop-member
invariant-loop-member l = record {
  before : l.text.before ≡ l.fn.text.before;
  members : l.text.added ≡ l.fn.text.added ++ flat_map next_text (take l.member-index l.members);
}
