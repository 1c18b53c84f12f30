-- How much a visit counts at most.
use Rattle.std.proofs.Common.{◌≤◌, Bool, true, false, Option, Some, None, arith}
use Rattle.pl_base.specs.declared.transition.Transition.{Transition}
use Rattle.pl_base.specs.declared.transition.Transition.TheVariants.{Link, Typed, Bookmark, Embed, RedirectPermanent}
use Rattle.pl_base.specs.declared.transition.Transition.TheVariants.{RedirectTemporary, Download, FramedLink, Reload}
use Rattle.pl_base.specs.Tables.{bonus_by_source, bonus_of, greatest_bonus, transition_bonus}

transition_bonus-le : (t : Transition) → transition_bonus t ≤ 2000
transition_bonus-le Link = omega arith
transition_bonus-le Typed = omega arith
transition_bonus-le Bookmark = omega arith
transition_bonus-le Embed = omega arith
transition_bonus-le RedirectPermanent = omega arith
transition_bonus-le RedirectTemporary = omega arith
transition_bonus-le Download = omega arith
transition_bonus-le FramedLink = omega arith
transition_bonus-le Reload = omega arith

by_source-le : (own : Transition) (source : Option Transition) (is_source : Bool)
    → bonus_by_source own source is_source ≤ 2000
by_source-le own source true = omega arith
by_source-le own (Some source) false = transition_bonus-le source
by_source-le own None false = transition_bonus-le own

pub bonus_of-le : (own : Transition) (source : Option Transition) (is_source referenced : Bool)
    → bonus_of own source is_source referenced ≤ greatest_bonus
bonus_of-le own source is_source true = omega (arith, by_source-le own source is_source)
bonus_of-le own source is_source false = omega (arith, by_source-le own source is_source)
