-- What the folded texts of pages stand for where views come and go.
use Rattle.std.proofs.Common.{◌≡◌, ◌≢◌, ◌∙◌, ◌<◌, ◌++◌, ◌==◌, All, Bool, true, false, List, [], ◌∷◌, Option, Some, None}
use Rattle.std.proofs.Common.{ap, arith, cond, eq-eqb, eqb-true, find, if◌then◌else◌, nat_eq, refl, subst, sym}
use Rattle.std.specs.HashMap.{Updates, UpdatesBy, get_by}
use Rattle.std.specs.List.{AllByRecursion, Contains, starts_with}
use Rattle.std.specs.Option.{option_map}
use Rattle.std.proofs.lemmas.Bool.{ne_eqb}
use Rattle.std.proofs.lemmas.List.Elements.{All-from_recursion}
use Rattle.pl_base.specs.declared.id.PageId.{PageId}
use Rattle.pl_base.specs.declared.view.View.{View}
use Rattle.pl_base.proofs.ListLaws.{weaker}
use Rattle.pl_base.proofs.LookUps.{part}
use Rattle.pl_follow.specs.Changes.{AreInOrder, Suits, changed, has_view, removed, with_view, without_id}
use Rattle.pl_follow.specs.Texts.{KeepsTexts, folded_of}
use Rattle.pl_follow.specs.declared.texts.Folded.{Folded}
use Rattle.pl_follow.specs.declared.texts.FoldedTexts.{FoldedTexts}
use Rattle.pl_follow.proofs.ChangedLists.{added_in_order, old_parted, parted_one}
use Rattle.pl_follow.proofs.Parted.{Ascend, Parted, added_parted, ascend, removed_in_order, removed_parted}
use Rattle.pl_follow.proofs.Told.{IsOnly, parted_find, told_others, told_same, told_with}

-- ids with the same number
abbrev same_page : PageId → PageId → Bool
same_page a b = a.0 == b.0

-- the texts that are kept of a page
abbrev kept : FoldedTexts → PageId → Option Folded
kept texts page = get_by (same_page page) texts.pages

-- ---- each id stands once

other_ids : (front : List View) (view : View) (back : List View) → Ascend (front ++ view ∷ back)
    → AllByRecursion (λ (w : View). w.id.0 ≢ view.id.0) (front ++ back)
other_ids [] view back a =
    weaker (λ (w : View). view.id.0 < w.id.0) (λ (w : View). w.id.0 ≢ view.id.0) back
    (λ w below same. omega (arith, below, same)) a.0
other_ids (v ∷ front) view back a =
    let below : v.id.0 < view.id.0 = part (λ (w : View). v.id.0 < w.id.0) front view back a.0 in
    (λ same. omega (arith, below, same), other_ids front view back a.1)

parted_id : (views others : List View) (view : View) → Parted views view others → AreInOrder views
    → All (λ (w : View). w.id.0 ≢ view.id.0) others
parted_id views others view p order =
    subst (All (λ (w : View). w.id.0 ≢ view.id.0)) (sym p.rest)
    (All-from_recursion (λ (w : View). w.id.0 ≢ view.id.0) (p.front ++ p.back)
    (other_ids p.front view p.back (subst Ascend p.whole (ascend views order))))

only_id : (page : PageId) (views others : List View) (view : View) → Parted views view others → AreInOrder views
    → IsOnly (λ (v : View). v.id.0 == page.0) view others
only_id page views others view p order is k d within =
    ne_eqb _ page.0 (λ same. parted_id views others view p order k d within (same ∙ sym (eqb-true view.id.0 page.0 is)))

-- ---- a view goes, comes, or stays with its texts

pub taken_out : (texts after : FoldedTexts) (old : View) (views : List View)
    → UpdatesBy same_page (same_page old.id) texts.pages after.pages None → KeepsTexts texts views → Contains views old
    → KeepsTexts after (without_id old.id views)
taken_out texts after old views updates stands has =
    let others : List View = without_id old.id views in
    let p : Parted views old others = removed_parted old views (ascend views stands.order) has in
    record {
      order = removed_in_order old.id views stands.order;
      pages =
          λ page.
          told_others (λ (v : View). v.id.0 == page.0) folded_of views others old (kept texts page) (kept after page) p
          (only_id page views others old p stands.order) (stands.pages page) (updates.0 page);
    }

pub put_in : (texts after : FoldedTexts) (new : View) (folds : Folded) (views : List View) → folds ≡ folded_of new
    → Updates same_page texts.pages after.pages new.id (Some folds) → KeepsTexts texts views
    → has_view new.id views ≡ false → KeepsTexts after (with_view new views)
put_in texts after new folds views are updates stands none =
    let p : Parted (with_view new views) new views = added_parted new views in
    let order : AreInOrder (with_view new views) = added_in_order new views stands.order none in
    record {
      order = order;
      pages =
          λ page.
          told_with (λ (v : View). v.id.0 == page.0) folded_of (with_view new views) views new (kept texts page)
          (kept after page) p (only_id page (with_view new views) views new p order) (stands.pages page)
          (updates.0 page ∙ ap (λ (f : Folded). cond (new.id.0 == page.0) (Some f) (kept texts page)) are);
    }

pub left_alone : (texts : FoldedTexts) (old new : View) (views : List View) → KeepsTexts texts views
    → Suits (Some old) (Some new) views → old.id ≡ new.id → folded_of old ≡ folded_of new
    → KeepsTexts texts (changed (Some old) (Some new) views)
left_alone texts old new views stands suits id folds =
    let others : List View = without_id old.id views in
    let p : Parted views old others = old_parted old (Some new) views stands.order suits in
    let q : Parted (with_view new others) new others = added_parted new others in
    let order : AreInOrder (with_view new others) =
    added_in_order new others (removed_in_order old.id views stands.order) suits.comes in
    record {
      order = order;
      pages =
          λ page.
          stands.pages page
          ∙ told_same (λ (v : View). v.id.0 == page.0) folded_of views others (with_view new others) old new p q
          (only_id page views others old p stands.order) (only_id page (with_view new others) others new q order)
          (ap (λ (i : PageId). i.0 == page.0) id) folds;
    }

-- ---- what is known before a change

-- the texts of the view that goes are kept
pub old_kept : (texts : FoldedTexts) (old : View) (new : Option View) (views : List View) → KeepsTexts texts views
    → Suits (Some old) new views → kept texts old.id ≡ Some (folded_of old)
old_kept texts old new views stands suits =
    let others : List View = without_id old.id views in
    let p : Parted views old others = old_parted old new views stands.order suits in
    stands.pages old.id
    ∙ ap (option_map folded_of) (parted_find (λ (v : View). v.id.0 == old.id.0) views others old p
    (only_id old.id views others old p stands.order)
    ∙ ap (λ (b : Bool). if b then Some old else find (λ (v : View). v.id.0 == old.id.0) others)
    (eq-eqb old.id.0 old.id.0 refl))

-- the URL of the view that comes begins with its prefix
pub new_prefix : (old : Option View) (new : View) (views : List View) → Suits old (Some new) views
    → starts_with nat_eq new.url new.prefix ≡ true
new_prefix old new views suits =
    parted_one (λ (v : View). starts_with nat_eq v.url v.prefix ≡ true) (with_view new (removed old views))
    (removed old views) new (added_parted new (removed old views)) suits.becomes.prefixes
