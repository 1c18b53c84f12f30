use Rattle.std.proofs.Common.{◌∙◌, ◌+◌, ◌^◌, ◌<◌, ap, arith, length, subst, sym}
use Rattle.pl_sheets.specs.Sheets.{ArePages, Pages, with_blank}
use Rattle.pl_sheets.proofs.PagesLaws.{blank_added, with_blank-are}
use Rattle.pl_sheets.proofs.sheets.Sheets.grow.Goals as goal

pub invariant_of-self-in_default : goal.invariant_of-self-in_default
invariant_of-self-in_default c =
    let old : Pages = record {
      bytes = c.self.inside.bytes.items;
      changed = c.self.inside.changed;
      before = c.self.inside.before;
    } in
    let few : length c.self.inside.changed + 1 < 2 ^ 32 =
    omega (arith, c.requires.few, ap (λ (pages : Pages). length pages.changed) c.self.view_is) in
    subst ArePages
    (sym (blank_added old c.extend_from_slice.new.self.items c.grow.new.self
    c.in_ok-extend_from_slice.ensures.items c.in_default.ensures.ok))
    (with_blank-are old c.self.invariant few)

pub returns-clause-ok : goal.returns-clause-ok
returns-clause-ok c =
    let old : Pages = record {
      bytes = c.self.inside.bytes.items;
      changed = c.self.inside.changed;
      before = c.self.inside.before;
    } in
    blank_added old c.extend_from_slice.new.self.items c.grow.new.self
    c.in_ok-extend_from_slice.ensures.items c.in_default.ensures.ok
    ∙ ap with_blank c.self.view_is
