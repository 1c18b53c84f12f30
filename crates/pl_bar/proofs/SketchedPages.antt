-- The entries by frecency have the sketches of the pages' texts.
use Rattle.std.proofs.Common.{◌≡◌, ◌∙◌, ◌<◌, ◌==◌, ℕ, Bool, List, Some, ap, filter, find, subst, sym}
use Rattle.std.specs.List.{All, AllByRecursion}
use Rattle.std.specs.Option.{option_map}
use Rattle.std.proofs.lemmas.List.Elements.{All-from_recursion}
use Rattle.std.proofs.lemmas.Option.{same_Some}
use Rattle.pl_base.specs.declared.view.View.{View}
use Rattle.pl_base.specs.Sorting.{sorted_by}
use Rattle.pl_base.proofs.ListLaws.{AllPairs-map, all-filter, to_map, weaker}
use Rattle.pl_base.proofs.LookUps.{apart_ascending, found_self}
use Rattle.pl_base.proofs.SortLaws.{all_sorted}
use Rattle.pl_follow.specs.declared.texts.FoldedTexts.{FoldedTexts}
use Rattle.pl_follow.specs.Order.{entries_of, entry_of, leads, sketch_of_texts}
use Rattle.pl_follow.specs.Texts.{KeepsTexts, folded_of}
use Rattle.pl_follow.proofs.EntriesFollow.{Entry}
use Rattle.pl_bar.specs.Sketches.{AreSketched, TellsTexts}

module _ (texts : FoldedTexts) (views : List View) (keeps : KeepsTexts texts views) where
  abbrev is_told : Entry → Type 0
  is_told entry = TellsTexts texts entry.0.1 entry.1

  -- the view that is found by an id has the texts that are kept under it
  view_told : (v : View) → find (λ (w : View). w.id.0 == v.id.0) views ≡ Some v → is_told (entry_of v)
  view_told v found others folded kept told =
      ap sketch_of_texts (same_Some (folded_of v) folded
      (sym (ap (option_map folded_of) found) ∙ sym (keeps.pages v.id) ∙ kept.pages v.id ∙ told))

  all_told : AllByRecursion is_told (entries_of views)
  all_told =
      to_map is_told entry_of views
      (weaker (λ (v : View). find (λ (w : View). w.id.0 == v.id.0) views ≡ Some v) (λ (v : View). is_told (entry_of v))
      views view_told
      (found_self (λ (v : View). v.id.0) views
      (apart_ascending (λ (v : View). v.id.0) views
      (AllPairs-map (λ (m n : ℕ). m < n) (λ (v : View). v.id.0) views keeps.order))))

  -- the entries that are gone through
  pub are_sketched : (test : Entry → Bool) (entries : List Entry)
      → entries ≡ filter test (sorted_by leads (entries_of views)) → AreSketched texts entries
  are_sketched test entries is =
      subst (All is_told) (sym is)
      (All-from_recursion is_told (filter test (sorted_by leads (entries_of views)))
      (all-filter is_told test (sorted_by leads (entries_of views))
      (all_sorted leads is_told (entries_of views) all_told)))
