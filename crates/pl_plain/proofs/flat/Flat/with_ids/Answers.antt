use Rattle.std.proofs.Common.{arith, refl}
use Rattle.std.proofs.lemmas.List.Elements.{All-nil}
use Rattle.pl_plain.proofs.OpeningGood.{no_ids, opening_is_sound, root_ids}
use Rattle.pl_plain.proofs.flat.Flat.with_ids.Goals as goal

pub invariant_of-result : goal.invariant_of-result
invariant_of-result c =
    record {
      rows =
          rw (c.new.ensures.items, c.new-2.ensures.items, c.new-3.ensures.items, c.in_ok-opening.ensures)
          record {
            day = omega arith;
            page_ids = no_ids c.args.ids.page c.requires.page (omega arith);
            visit_ids = no_ids c.args.ids.visit c.requires.visit (omega arith);
            item_ids = root_ids c.args.ids.item c.requires.item (omega arith);
            urls = All-nil _;
            distinct_urls = λ i j d before within same. absurd (omega arith);
            titles = All-nil _;
            visits = All-nil _;
            sources = All-nil _;
            named = All-nil _;
            used = λ n some few. absurd (omega arith);
            same = All-nil _;
            counted = refl;
            filled = refl;
            few = omega arith;
          };
    }

pub returns-clause-sound : goal.returns-clause-sound
returns-clause-sound c =
    rw (c.new.ensures.items, c.new-2.ensures.items, c.new-3.ensures.items, c.in_ok-opening.ensures)
    (opening_is_sound c.args.ids c.requires.page c.requires.visit c.requires.item (omega arith) (omega arith)
    (omega arith))
