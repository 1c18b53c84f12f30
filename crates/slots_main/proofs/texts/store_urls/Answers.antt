use Rattle.std.proofs.Common.{arith, subst, sym}
use Rattle.slots_main.specs.Texts.{HaveUrls}
use Rattle.slots_main.proofs.TextLaws.{urls_more}
use Rattle.slots_main.proofs.texts.store_urls.Goals as goal

pub loop-number-preserved : goal.loop-number-preserved
loop-number-preserved g c =
    record {
      urls =
          subst (λ slots. HaveUrls slots c.store.new.arena) (sym c.in_ok-push.ensures.items)
          (urls_more c.loop-number.slots.items c.in_ok-slot.slot c.url.result c.loop-number.arena c.store.new.arena
          c.in_ok-slot.ensures.stored c.url.ensures c.loop-number.invariant.urls);
      count = omega (arith, c.in_ok-push.ensures.len, c.loop-number.invariant.count);
    }
