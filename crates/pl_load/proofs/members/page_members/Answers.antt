use Rattle.std.proofs.Common.{◌≡◌, ◌≢◌, ◌∙◌, ap, map, rules, subst, sym}
use Rattle.std.specs.List.{AllPairs}
use Rattle.std.proofs.lemmas.List.Sorted.{answers_always}
use Rattle.std.proofs.lemmas.Result.{IfOk-weaker}
use Rattle.pl_base.specs.Sorting.{sorted_by}
use Rattle.pl_base.proofs.SortLaws.{none_tie, weak_sorted_is}
use Rattle.pl_load.specs.Members.{VisitIn, is_newer, page_member}
use Rattle.pl_load.proofs.Newest.{apart, newer_ranks, tied_ids}
use Rattle.pl_load.proofs.members.page_members.Goals as goal

pub returns : goal.returns
returns c =
    let differ =
    subst (AllPairs (λ (v w : VisitIn). v.1.id.0 ≢ w.1.id.0)) (sym c.in_ok-rows.ensures)
    (apart c.args.slots.now c.args.visits.now c.requires.as_many c.requires.ids) in
    let sorted : c.sort_unstable_by.new.self.items ≡ sorted_by is_newer c.in_ok-rows.rows.items =
    weak_sorted_is is_newer newer_ranks c.in_ok-rows.rows.items c.sort_unstable_by.new.self.items
    (none_tie is_newer (λ (r : VisitIn). r.1.id.0) tied_ids c.in_ok-rows.rows.items differ)
    c.sort_unstable_by.ensures.permutation
    (c.sort_unstable_by.ensures.sorted is_newer newer_ranks (answers_always _ _ _ (λ f a r g called. search rules))) in
    IfOk-weaker c.members_by_page.result _ _
    (λ members same.
    same ∙ ap (map page_member) (c.deref.ensures.value ∙ sorted ∙ ap (sorted_by is_newer) c.in_ok-rows.ensures))
    c.members_by_page.ensures
