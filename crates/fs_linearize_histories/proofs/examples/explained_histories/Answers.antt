use Rattle.std.proofs.Common.{refl, [], ◌∷◌}
use Rattle.fs_calls.specs.Tree.{look, inserted, removed, renamed, exchanged}
use Rattle.fs_calls.specs.Outcomes.{fault, reply, after}
use Rattle.fs_names.specs.declared.kind.Kind.TheVariants as kinds
use Rattle.fs_calls.specs.declared.reply.Reply.TheVariants as answer
use Rattle.fs_calls.specs.declared.errno.Errno.TheVariants.{Enoent, Eexist}
use Rattle.fs_linearize_histories.specs.declared.heard.Pattern.TheVariants.{Exactly, AnyError, OneOf, AnyDirectory, Anything}
use Rattle.fs_linearize_histories.proofs.examples.explained_histories.Goals as goal

pub returns : goal.returns
unfolding look inserted removed renamed exchanged fault reply after
returns c = record {
  stat_first = record { lawful = refl; heard_as = (refl, (refl, ((Exactly (answer.Failed Enoent), refl, refl), ((Exactly answer.Done, refl, refl), tt)))); whole = refl };
  mkdir_first = record { lawful = refl; heard_as = (refl, (refl, ((AnyDirectory, refl, refl), ((Exactly answer.Done, refl, refl), tt)))); whole = refl };
  never_returned = record { lawful = refl; heard_as = (refl, (refl, ((Exactly (answer.Stat kinds.Dir 0), refl, refl), tt))); whole = refl };
  from_a_tree = record { lawful = refl; heard_as = (refl, ((AnyError, refl, refl), tt)); whole = refl };
  one_of_two = record { lawful = refl; heard_as = (refl, ((OneOf (Enoent ∷ Eexist ∷ []), refl, refl), tt)); whole = refl };
  any_reply = record { lawful = refl; heard_as = (refl, ((Anything, refl, tt), tt)); whole = refl };
  exchanged = record { lawful = refl; heard_as = (refl, (refl, ((Exactly (answer.Stat kinds.File 1), refl, refl), ((Exactly answer.Done, refl, refl), tt)))); whole = refl };
  wrong_order = refl;
}
