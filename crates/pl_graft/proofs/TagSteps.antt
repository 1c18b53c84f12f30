-- A tag more in an import: where it goes, and what the rows make of it.
use Rattle.std.proofs.Common.{◌≡◌, ◌∙◌, ◌<◌, ◌≤◌, ◌+◌, ℕ, All, Bool, true, false, List, [], ◌∷◌, Option, Some, None}
use Rattle.std.proofs.Common.{ap, arith, if◌then◌else◌, refl, subst, sym, unwrap_or}
use Rattle.std.specs.Prelude.{nat_lt}
use Rattle.std.specs.List.{AllByRecursion}
use Rattle.std.specs.Option.{IsSomeAnd, MatchOption, is_some, option_map}
use Rattle.std.proofs.lemmas.Bool.Decides.{nat_tests}
use Rattle.std.proofs.lemmas.List.Elements.{recursion_from_All}
use Rattle.pl_base.specs.declared.date.Micros.{Micros}
use Rattle.pl_base.specs.declared.id.IdKind.TheVariants.{Item as ItemIds}
use Rattle.pl_base.specs.declared.id.ItemId.{ItemId}
use Rattle.pl_base.specs.declared.id.PageId.{PageId}
use Rattle.pl_base.specs.declared.refusal.Refusal.{Refusal}
use Rattle.pl_base.specs.declared.refusal.Refusal.TheVariants.{DupTag, NoIds}
use Rattle.pl_base.specs.Fold.{folded}
use Rattle.pl_base.specs.Good.{end_of_ids}
use Rattle.pl_base.specs.Rows.{Kept, store_of}
use Rattle.pl_base.specs.Store.{Item, Store, item_id}
use Rattle.pl_base.specs.Tags.{tags_root}
use Rattle.pl_base.specs.Tree.{children_of}
use Rattle.pl_base.proofs.LookUps.{found_holds}
use Rattle.pl_tree.specs.declared.place.Place.TheVariants.{End}
use Rattle.pl_tree.specs.Places.{before}
use Rattle.pl_tree.specs.Refused.{tag_refusal}
use Rattle.pl_tree.specs.Tagged.{new_items, tag_entry, tag_named, with_tagged}
use Rattle.pl_keyed.specs.declared.tags.Entering.TheVariants.{Has, Known, New}
use Rattle.pl_keyed.specs.declared.tags.TagFolder.{TagFolder}
use Rattle.pl_keyed.specs.KnownTags.{IsEntering, last_of}
use Rattle.pl_keyed.specs.TagRows.{TagEntry, TagRow, holds_in, row_with, tag_rows}
use Rattle.pl_graft.specs.Gained.{Grows}
use Rattle.pl_graft.specs.Import.{tagged_store, with_tag}
use Rattle.pl_graft.specs.Standing.{HasRoom}
use Rattle.pl_graft.proofs.GoingOn.{grows_same}
use Rattle.pl_graft.proofs.Ready.{IsReady, below_rows, held, last_entry, last_tag, named}

-- ---- ids

last_holds : {X : Type 0} (P : X → Type 0) (xs : List X) (x : X) → AllByRecursion P xs → last_of xs ≡ Some x → P x
last_holds P [] x all last = absurd (cc)
last_holds P (y ∷ []) x all last = let same : y ≡ x = cc in subst P same all.0
last_holds P (y ∷ z ∷ zs) x all last = last_holds P (z ∷ zs) x all.1 last

-- a tag and its entries lie below the next id
abbrev IsBelow : ℕ → TagRow → Type 0
IsBelow next row = (row.id < next) × All (λ (e : TagEntry). e.id < next) row.entries

row_below : (store : Store) (folds : List ℕ) (row : TagRow) → IsReady store
    → row_with folds (tag_rows store.items) ≡ Some row → IsBelow store.ids.item row
row_below store folds row is found =
    found_holds (IsBelow store.ids.item) _ (tag_rows store.items) row
    (recursion_from_All (IsBelow store.ids.item) (tag_rows store.items) (below_rows store is)) found

known_below : (store : Store) (page : PageId) (folds : List ℕ) (folder : TagFolder) → IsReady store
    → IsEntering page folds (tag_rows store.items) (Known folder) → folder.id < store.ids.item
known_below store page folds folder is e =
    omega (arith, e.3.id, (row_below store folds e.0 is e.1).0)

pub known_fits : (store : Store) (page : PageId) (folds : List ℕ) (folder : TagFolder) → IsReady store
    → store.ids.item ≤ end_of_ids → IsEntering page folds (tag_rows store.items) (Known folder)
    → folder.id < 4_294_967_296
known_fits store page folds folder is room e = omega (arith, known_below store page folds folder is e)

last_below : (next : ℕ) (entries : List TagEntry) (last : ℕ) → All (λ (e : TagEntry). e.id < next) entries
    → option_map (λ (e : TagEntry). e.id) (last_of entries) ≡ Some last → last < next
last_below next entries last all is = choose (last_of entries) refl is
  where
    choose : (o : Option TagEntry) → last_of entries ≡ o → option_map (λ (e : TagEntry). e.id) o ≡ Some last
        → last < next
    choose None none here = absurd (cc)
    choose (Some e) some here =
        let same : e.id ≡ last = cc in
        omega (
          arith,
          last_holds (λ (d : TagEntry). d.id < next) entries e
              (recursion_from_All (λ (d : TagEntry). d.id < next) entries all) some,
        )

pub last_fits : (store : Store) (page : PageId) (folds : List ℕ) (folder : TagFolder) → IsReady store
    → store.ids.item ≤ end_of_ids → IsEntering page folds (tag_rows store.items) (Known folder)
    → folder.last < 4_294_967_296
last_fits store page folds folder is room e =
    omega (
      arith,
      last_below store.ids.item e.0.entries folder.last (row_below store folds e.0 is e.1).1 e.3.last,
    )

pub new_fits : (store : Store) (page : PageId) (folds : List ℕ) (last : Option ℕ) (n : ℕ) → IsReady store
    → store.ids.item ≤ end_of_ids → IsEntering page folds (tag_rows store.items) (New last) → last ≡ Some n
    → n < 4_294_967_296
new_fits store page folds last n is room e some =
    choose (last_of (tag_rows store.items)) refl (sym some ∙ e.1)
  where
    choose : (o : Option TagRow) → last_of (tag_rows store.items) ≡ o
        → Some n ≡ option_map (λ (r : TagRow). r.id) o → n < 4_294_967_296
    choose None none here = absurd (cc)
    choose (Some r) found here =
        let same : n ≡ r.id = cc in
        omega (
          arith,
          (last_holds (IsBelow store.ids.item) (tag_rows store.items) r
              (recursion_from_All (IsBelow store.ids.item) (tag_rows store.items) (below_rows store is)) found).0,
        )

-- ---- where a tag goes

-- a page has not the tag, and the folder with its name and its last child are these
pub record Enters (items : List Item) (page : PageId) (name : List ℕ) (folder last : Option ItemId) : Type 0 where
  pub anew : is_some (tag_entry page name items) ≡ false
  pub in_folder : folder ≡ option_map (λ (t : Item). t.id) (tag_named name items)
  pub behind : last ≡ before End (children_of items (unwrap_or folder tags_root))

numbered : {X : Type 0} (number : X → ℕ) (o : Option X) (n : ℕ) → option_map number o ≡ Some n
    → option_map (λ x. item_id (number x)) o ≡ Some (item_id n)
numbered number None n is = absurd (cc)
numbered number (Some x) n is = let same : number x ≡ n = cc in ap (λ m. Some (item_id m)) same

pub enters_known : (store : Store) (page : PageId) (name : List ℕ) (folder : TagFolder) → IsReady store
    → IsEntering page (folded name) (tag_rows store.items) (Known folder)
    → Enters store.items page name (Some (item_id folder.id)) (Some (item_id folder.last))
enters_known store page name folder is e =
    record {
      anew = held store.items page name ∙ e.2;
      in_folder =
          ap (λ n. Some (item_id n)) e.3.id
          ∙ sym (named store.items name ∙ ap (option_map (λ (r : TagRow). item_id r.id)) e.1);
      behind =
          sym (numbered (λ (d : TagEntry). d.id) (last_of e.0.entries) folder.last e.3.last)
          ∙ sym (last_entry store (folded name) e.0 is e.1)
          ∙ ap (λ n. before End (children_of store.items (item_id n))) (sym e.3.id);
    }

both_numbered : {X : Type 0} (number : X → ℕ) (o : Option X)
    → option_map item_id (option_map number o) ≡ option_map (λ x. item_id (number x)) o
both_numbered number None = refl
both_numbered number (Some x) = refl

pub enters_new : (store : Store) (page : PageId) (name : List ℕ) (last : Option ℕ) → IsReady store
    → IsEntering page (folded name) (tag_rows store.items) (New last)
    → Enters store.items page name None (option_map item_id last)
enters_new store page name last is e =
    record {
      anew = held store.items page name ∙ ap (holds_in page) e.0;
      in_folder = sym (named store.items name ∙ ap (option_map (λ (r : TagRow). item_id r.id)) e.0);
      behind =
          ap (option_map item_id) e.1 ∙ both_numbered (λ (r : TagRow). r.id) (last_of (tag_rows store.items))
          ∙ sym (last_tag store is);
    }

-- the last tag, as an item
pub mapped : (last : Option ℕ) (result : Option ItemId)
    → MatchOption last (result ≡ None) (λ n. IsSomeAnd result (λ id. id ≡ item_id n))
    → result ≡ option_map item_id last
mapped None result none = none
mapped (Some n) None none = absurd none
mapped (Some n) (Some id) some = ap (λ (i : ItemId). Some i) some

-- ---- the rows

-- the page has the tag
pub has_already : (store : Store) (page : PageId) (name : List ℕ) (date : Micros)
    → IsEntering page (folded name) (tag_rows store.items) Has → is_some (tag_entry page name store.items) ≡ true
has_already store page name date e = held store.items page name ∙ e

pub store_same : (store : Store) (page : PageId) (name : List ℕ) (date : Micros)
    → is_some (tag_entry page name store.items) ≡ true → store ≡ with_tag page date name store
store_same store page name date has =
    sym (ap (λ (b : Bool). if b then store else tagged_store page name date store) has)

-- the page has not the tag yet
pub store_anew : (store : Store) (page : PageId) (name : List ℕ) (date : Micros)
    → is_some (tag_entry page name store.items) ≡ false
    → with_tag page date name store ≡ tagged_store page name date store
store_anew store page name date anew =
    ap (λ (b : Bool). if b then store else tagged_store page name date store) anew

pub room_anew : (store : Store) (page : PageId) (name : List ℕ) (date : Micros)
    → is_some (tag_entry page name store.items) ≡ false → HasRoom (with_tag page date name store)
    → HasRoom (tagged_store page name date store)
room_anew store page name date anew room = subst HasRoom (store_anew store page name date anew) room

not_above : (m n : ℕ) → n ≤ m → nat_lt m n ≡ false
not_above m n le = grind (arith, nat_tests)

pub tag_allowed : (kept : Kept) (page : PageId) (name : List ℕ) (date : Micros)
    → is_some (tag_entry page name kept.items) ≡ false → HasRoom (with_tag page date name (store_of kept))
    → tag_refusal page name kept ≡ None
tag_allowed kept page name date anew room =
    let ids : nat_lt end_of_ids (kept.ids.item + new_items name kept.items) ≡ false =
    not_above end_of_ids (kept.ids.item + new_items name kept.items)
    (room_anew (store_of kept) page name date anew room).item_ids in
    ap (λ (b : Bool).
    let o : Option Refusal =
    if b then Some DupTag else
    if nat_lt end_of_ids (kept.ids.item + new_items name kept.items) then Some (NoIds ItemIds) else None in o)
    anew
    ∙ ap (λ (b : Bool). let o : Option Refusal = if b then Some (NoIds ItemIds) else None in o) ids

pub grows_tagged : (old new : Kept) (page : PageId) (name : List ℕ) (date : Micros)
    → new ≡ with_tagged page name date old → Grows old new
grows_tagged old new page name date made =
    subst (Grows old) (sym made) (grows_same old (with_tagged page name date old) refl refl refl refl refl)
