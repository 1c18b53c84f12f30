use Rattle.std.proofs.Common.{◌≡◌, ◌+◌, ◌++◌, ◌∙◌, ◌∷◌, [], List, ap, false, get_or, pos, rules, take, w64}
use Rattle.std.proofs.lemmas.Int.{to_z-of_z}
use Rattle.std.proofs.lemmas.List.{take_all, take_more}
use Rattle.pl_base.specs.Totals.{share}
use Rattle.pl_record.specs.declared.rows.Place.{Place}
use Rattle.pl_sound.specs.Sums.{named_sum, sum_in}
use Rattle.pl_sound.proofs.NamedSums.{sum_fits, sums_more}
use Rattle.pl_sound.proofs.totals.sums_of.Goals as goal
use Rattle.pl_sound.proofs.totals.sums_of.Goals.{After-share}

-- what a page beyond the last would be
abbrev none : Place
none =
    record {
      id = record { 0 = 0 };
      mark = record { frecency = pos 0; count = 0; typed = false; hidden = false };
      origin = record { 0 = 0 };
      url = record { slot = record { 0 = 0 }; length = 0 };
      title = record { slot = record { 0 = 0 }; length = 0 };
    }

abbrev place : After-share → Place
place c = get_or c.args.places.now c.loop-place.place-index none

more : (c : After-share) → take (c.loop-place.place-index + 1) c.args.places.now
    ≡ take c.loop-place.place-index c.args.places.now ++ place c ∷ []
more c = take_more c.args.places.now c.loop-place.place-index none c.loop-place-test.true

added : (c : After-share) → c.share.result ≡ share (place c).mark.frecency
added c = c.share.ensures ∙ ap share (to_z-of_z w64 (place c).mark.frecency (search rules))

pub add-requires : goal.add-requires
add-requires c =
    sum_fits c.args.places.now c.loop-place.place-index (place c) (more c)
    (sum_in c.loop-place.sums (place c).origin.0) c.share.result c.requires.few c.requires.small
    (c.loop-place.invariant (place c).origin.0) (added c)

pub loop-place-preserved : goal.loop-place-preserved
loop-place-preserved c name =
    let s : After-share = c.before.before.before in
    sums_more s.args.places.now s.loop-place.place-index (place s) (more s) name
    (sum_in s.loop-place.sums name) (sum_in c.add.new.self name) s.share.result (s.loop-place.invariant name) (added s)
    (c.in_ok-add.ensures name)

pub returns : goal.returns
returns c name =
    c.loop-place.invariant name
    ∙ ap (λ (ps : List Place). named_sum ps name)
    (take_all c.loop-place.place-index c.args.places.now c.loop-place-test.false)
