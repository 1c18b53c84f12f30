use Rattle.std.proofs.Common.{◌≡◌, ◌-◌, ◌≤◌}
use Rattle.pl_sheets.specs.Sheets.{page_count}
use Rattle.pl_sheets.proofs.Listing.{listed_below}
use Rattle.pl_sheets.proofs.sheets.Sheets.listed.Given as goal

abbrev pub invariant-loop-page : goal.invariant-loop-page
invariant-loop-page l =
    record {
      listed : l.change ≡ listed_below l.from l.self;
      within : l.from ≤ page_count l.self;
    }

abbrev pub decreases-loop-page : goal.decreases-loop-page
decreases-loop-page l = page_count l.self - l.from
