-- What holds of the rows once items went, but of the pages that lost one.
use Rattle.std.proofs.Common.{◌≡◌, ◌≢◌, ◌∙◌, ◌==◌, ◌||◌, All, Bool, false, IsTrue, List, ap, get_or, refl}
use Rattle.std.specs.List.{AllPairs, list_any}
use Rattle.pl_base.specs.declared.id.PageId.{PageId}
use Rattle.pl_base.specs.Good.{HasGoodItems, is_visited}
use Rattle.pl_base.specs.Rows.{IsSound, IsWellKept, Kept, has_page, store_of, with_items}
use Rattle.pl_base.specs.Store.{Item}
use Rattle.pl_base.proofs.OriginSums.{sums_of_sound, sums_still}
use Rattle.pl_history.specs.Sound.{AreStanding}
use Rattle.pl_history.specs.Settled.{AreSettledBut}
use Rattle.pl_history.proofs.GoodRows.{standing_of}
use Rattle.pl_history.proofs.ItemMarks.{has_reference, right_alike}

pub settled_with : (old : Kept) (items : List Item) (lost : List PageId) → IsWellKept old → IsSound old
    → All (λ (id : PageId). IsTrue (has_page old id)) lost → AllPairs (λ (a b : PageId). a.0 ≢ b.0) lost
    → ((page : PageId) → list_any (λ (id : PageId). page.0 == id.0) lost ≡ false
    → has_reference items page ≡ has_reference old.items page)
    → HasGoodItems (store_of (with_items items old)) → AreSettledBut lost (with_items items old)
settled_with old items lost h sound there apart same good =
    let standing : AreStanding old = standing_of old sound.good in
    record {
      there = there;
      apart = apart;
      items = good;
      counts = sound.right.counts;
      right =
          right_alike old old.ids items lost
          (λ k d within other. same (get_or old.pages k d).page.id other)
          (λ k d within _. (
            sound.right.frecencies k d within,
            sound.right.counts k d within,
            sound.right.hidden k d within,
          ));
      by_row =
          λ k d within other.
          let id : PageId = (get_or old.pages k d).page.id in
          ap (λ (b : Bool). is_visited (store_of old) id || b) (same id other) ∙ standing.by_row k d within;
      typed = standing.typed;
      sums = sums_still old (with_items items old) refl refl (sums_of_sound old h sound);
    }
