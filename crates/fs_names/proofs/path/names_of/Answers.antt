use Rattle.std.proofs.Common.{arith}
use Rattle.fs_names.proofs.ReadingLemmas.{named_at, one_mapped}
use Rattle.fs_names.proofs.path.names_of.Goals as goal

pub of-requires : goal.of-requires
of-requires c = named_at (λ text. text.now) c.args.texts.now c.loop-text.text-index _ c.requires c.loop-text-test.true

pub loop-text-preserved : goal.loop-text-preserved
loop-text-preserved c = record {
  names = one_mapped (λ text. text.now) c.args.texts.now c.loop-text.text-index _ _ _ _ c.loop-text-test.true c.loop-text.invariant.names c.in_ok-name.ensures.name c.push_reserved.ensures.items;
  room = omega (arith, c.loop-text.invariant.room, c.push_reserved.ensures.capacity);
}
