use Rattle.std.proofs.Common.{◌≤◌, ◌∙◌, ap, subst, sym}
use Rattle.std.proofs.lemmas.Result.{on_ok_weaker}
use Rattle.pl_base.specs.Live.{live_slots, slot_limit}
use Rattle.pl_base.specs.Rows.{live_with_title, store_of, title_of, with_title}
use Rattle.pl_slotted.specs.Slotted.{kept_of}
use Rattle.pl_record.proofs.PagesChanged.{titled_twice}
use Rattle.pl_record.proofs.TitleCalls.{bare_then}
use Rattle.pl_slotted.proofs.slotted.Slotted.set_title.Goals as goal

pub give_title-requires-clause-bare : goal.give_title-requires-clause-bare
give_title-requires-clause-bare g c =
    ap (λ k. title_of k c.args.page) c.drop_title.ensures.kept
    ∙ bare_then (kept_of c.args.self.now) c.args.page c.requires.page

pub give_title-requires-clause-live : goal.give_title-requires-clause-live
give_title-requires-clause-live g c =
    subst (λ k. live_with_title c.args.page c.args.title.now k ≤ slot_limit) (sym c.drop_title.ensures.kept)
    (subst (λ k. live_slots (store_of k) ≤ slot_limit)
    (sym (titled_twice (kept_of c.args.self.now) c.args.page c.args.title.now)) c.requires.live)

pub returns-clause-kept : goal.returns-clause-kept
returns-clause-kept g c =
    on_ok_weaker c.give_title.result
    (λ is.
    is ∙ ap (with_title c.args.page c.args.title.now) c.drop_title.ensures.kept
    ∙ titled_twice (kept_of c.args.self.now) c.args.page c.args.title.now) c.give_title.ensures.kept
