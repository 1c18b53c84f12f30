-- A tag that is counted is that of the store where the page has it.
use Rattle.std.proofs.Common.{◌≡◌, ◌∙◌, ◌+◌, ℕ, List, add-zero, ap, refl, subst, sym}
use Rattle.pl_base.specs.Fold.{folded}
use Rattle.pl_base.specs.Live.{chunks}
use Rattle.pl_keyed.specs.declared.tags.Entering.TheVariants.{Has, Known, New}
use Rattle.pl_keyed.specs.KnownTags.{IsEntering, KnowsTags}
use Rattle.pl_keyed.specs.TagRows.{entered, tag_rows}
use Rattle.pl_graft.proofs.TallyLaws.{below_item, tag_taken}
use Rattle.pl_graft.proofs.cost.Tally.take_tag.Goals.{in-Has, in-Known, in-New}
use Rattle.pl_graft.proofs.cost.Tally.take_tag.Goals as goal

pub returns-clause-tally : goal.returns-clause-tally
returns-clause-tally c =
    λ store id date t same there is_date.
    let old = c.args.self.now in
    let name : List ℕ = c.args.name.now in
    let folds : folded name ≡ c.in_ok-folds.folds =
    sym (c.in_ok-folds.ensures ∙ ap folded c.text.ensures.value) in
    let enters : IsEntering id (folded name) (tag_rows store.items) c.in_ok-enter.field-0 =
    subst (λ (f : List ℕ). IsEntering id f (tag_rows store.items) c.in_ok-enter.field-0) (sym folds)
    (c.in_ok-enter.ensures.step (tag_rows store.items) id t.tags same) in
    let known : KnowsTags c.enter.new.self (entered id name old.next_item (tag_rows store.items)) =
    c.in_ok-enter.ensures.tags (tag_rows store.items) id name t.tags (below_item old store t) same folds in
    let name_fits = c.text.ensures.given in
    elim c.match-branch-3.branch [
      | in-Has w ↦
          tag_taken store id date name old c.match-branch-3.self c.enter.new.self old.live old.next_item Has t name_fits
          is_date there (rw w.in-Has.is at enters) known w.self-is (sym (add-zero old.live))
          (sym (add-zero old.next_item))
      | in-Known w ↦
          tag_taken store id date name old c.match-branch-3.self c.enter.new.self (old.live + 1) (old.next_item + 1)
          (Known w.in-Known.field-0) t name_fits is_date there (rw w.in-Known.is at enters) known
          (w.self-is ∙ w.take_items.ensures) refl refl
      | in-New w ↦
          tag_taken store id date name old c.match-branch-3.self c.enter.new.self (old.live + (2 + w.chunks.result))
          (old.next_item + 2) (New w.in-New.field-0) t name_fits is_date there (rw w.in-New.is at enters) known
          (w.self-is ∙ w.take_items-in-New.ensures)
          (ap (λ (n : ℕ). old.live + (2 + n)) (w.chunks.ensures ∙ ap chunks w.text-in-New.ensures.value)) refl
    ]
