-- That a title has its slots, by what the calls of rows tell of its page.
use Rattle.std.proofs.Common.{◌≡◌, ◌<◌, ◌≤◌, ℕ, List, Option, Some, None}
use Rattle.std.proofs.Common.{arith, length, map, refl}
use Rattle.std.specs.List.Sorted.{IsStrictlyIncreasing}
use Rattle.std.specs.Option.{option_map}
use Rattle.pl_base.specs.declared.id.PageId.{PageId}
use Rattle.pl_base.specs.declared.row.Mark.{Mark}
use Rattle.pl_base.specs.Live.{live_slots, slot_limit}
use Rattle.pl_base.specs.Rows.{Kept, KeptPage, live_with_title, mark_of, page_at, store_of}
use Rattle.pl_plain.proofs.FlatChanges.{slots_with_title}

found_where : (kept : Kept) (page : PageId) (mark : Mark) → Some mark ≡ option_map mark_of (page_at kept page)
    → (p : KeptPage) × (page_at kept page ≡ Some p)
found_where kept page mark told = choose (page_at kept page) refl told
  where
    choose : (found : Option KeptPage) → page_at kept page ≡ found → Some mark ≡ option_map mark_of found
        → (p : KeptPage) × (page_at kept page ≡ Some p)
    choose None is none = absurd (cc)
    choose (Some p) is some = (p, is)

pub room_for_title : (kept : Kept) (page : PageId) (title : List ℕ) (mark : Mark)
    → IsStrictlyIncreasing (map (λ (p : KeptPage). p.page.id.0) kept.pages)
    → Some mark ≡ option_map mark_of (page_at kept page) → length title < 100 → live_slots (store_of kept) < 4_000_000
    → live_with_title page title kept ≤ slot_limit
room_for_title kept page title mark ascending told short few =
    let p = found_where kept page mark told in
    omega (arith, slots_with_title page title kept p.0 ascending p.1)
