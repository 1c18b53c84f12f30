use Rattle.std.proofs.Common.{◌≡◌, ◌+◌, ◌-◌, arith, length, ℕ, List}
use Rattle.std.proofs.lemmas.List.{map_push}
use Rattle.pl_base.specs.Live.{chunks}
use Rattle.pl_plain.specs.Flat.{kept_of}
use Rattle.pl_plain.specs.FlatRows.{origins_from, page_of}
use Rattle.pl_plain.specs.Place.{grown}
use Rattle.pl_plain.proofs.FlatChanges.{IsFlat-with_page}
use Rattle.pl_plain.proofs.OriginTotals.{length-grown}
use Rattle.pl_plain.proofs.flat.Flat.add_page.Goals as goal

pub invariant_of-self-2 : goal.invariant_of-self-2
invariant_of-self-2 c =
    let f = c.args.self.now in
    let before : ℕ = length f.totals.items in
    let totals : List ℕ = grown f.totals.items c.args.origins in
    let slots : f.live + (c.from.result + 1 + c.chunks.result) ≡ f.live
    + (c.args.origins - before + (1 + chunks c.args.url.now)) =
    omega (arith, c.from.ensures, c.len.ensures, c.chunks.ensures) in
    let few : length totals ≡ c.args.origins =
    length-grown f.totals.items c.args.origins (omega (arith, c.requires.place.counted)) in
    record {
      rows =
          rw (
            c.in_ok-push.ensures.items,
            c.in_ok-grow.ensures.grown,
            c.in_ok-reserve.ensures.items,
            c.in_ok-copied.ensures,
            c.in_ok-copied-2.ensures,
            map_push page_of,
            slots,
            few,
          )
          (IsFlat-with_page c.args.url.now c.args.origin (kept_of f) (origins_from totals) before c.args.origins f.live
          c.requires.url c.requires.absent c.requires.place
          c.requires.id c.requires.live f.rows);
    }
