use Rattle.std.proofs.Common.{◌≡◌, vec_len}
use Rattle.slots_main.specs.Texts.{HaveUrls}
use Rattle.slots_main.proofs.texts.store_urls.Given as goal

abbrev pub invariant-loop-number : goal.invariant-loop-number
invariant-loop-number g l =
    record {
      urls : HaveUrls l.slots.items l.arena;
      count : vec_len l.slots ≡ l.number;
    }
