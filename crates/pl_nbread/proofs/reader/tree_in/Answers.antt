use Rattle.std.proofs.Common.{◌∙◌, ◌+◌, ◌-◌, ℕ, arith, length, rules}
use Rattle.pl_nbread.specs.Building.{IsWithin, most_parts}
use Rattle.pl_nbread.proofs.BuildingSteps.{within_more}
use Rattle.pl_nbread.proofs.ReaderSteps.{stepped}
use Rattle.pl_nbread.proofs.reader.tree_in.Goals as goal

pub take-requires : goal.take-requires
take-requires c =
    record {
      room = within_more (length c.args.body.now - length c.loop-text.text.now) most_parts c.loop-text.builder
          (omega (arith, c.requires.short)) c.loop-text.invariant.within;
    }

pub loop-text-preserved : goal.loop-text-preserved
loop-text-preserved c =
    let taken : ℕ = length c.args.body.now - length c.loop-text.text.now in
    let within : IsWithin (taken + 1) c.take.new.self = c.in_ok-take.ensures.within taken c.loop-text.invariant.within in
    record {
      text = search rules;
      tree = stepped c.loop-text.text.now c.next_part.result.1.now c.next_part.result.0 c.loop-text.builder
          c.take.new.self (omega arith) c.next_part.ensures.part c.next_part.ensures.behind c.in_ok-take.ensures.tree
          ∙ c.loop-text.invariant.tree;
      within = within_more (taken + 1) (length c.args.body.now - length c.next_part.result.1.now) c.take.new.self
          (omega (arith, c.next_part.ensures.shorter, c.loop-text.invariant.shorter)) within;
      shorter = omega (arith, c.next_part.ensures.shorter, c.loop-text.invariant.shorter);
    }
