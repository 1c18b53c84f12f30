-- What the look-up of tags stands for, and what it answers.
use Rattle.std.specs.Prelude.{◌≡◌, ◌≢◌, ◌<◌, ◌==◌, ◌&&◌, ◌||◌, ℕ, Bool, true, false, List, []}
use Rattle.std.specs.Prelude.{◌∷◌, Option, Some, None, unwrap_or}
use Rattle.std.specs.BTreeMap.{get_by_text}
use Rattle.std.specs.BTreeSet.{BTreeSet, contains}
use Rattle.std.specs.List.{All, AllPairs, list_any}
use Rattle.std.specs.Option.{MatchOption, option_map}
use Rattle.std.specs.Ordering.{nat_cmp, ordering_then}
use Rattle.std.specs.declared.cmp.Ordering.{Ordering}
use Rattle.pl_base.specs.declared.id.PageId.{PageId}
use Rattle.pl_base.specs.Fold.{folded}
use Rattle.pl_base.specs.Tree.{is_page}
use Rattle.pl_keyed.specs.declared.tags.Entering.{Entering}
use Rattle.pl_keyed.specs.declared.tags.Entering.TheVariants.{Has, Known, New}
use Rattle.pl_keyed.specs.declared.tags.TagFolder.{TagFolder}
use Rattle.pl_keyed.specs.declared.tags.Tags.{Tags}
use Rattle.pl_keyed.specs.TagRows.{TagEntry, TagRow, holds, holds_in, row_with}

-- the last of some
abbrev pub last_of : {A : Type 0} → List A → Option A
last_of [] = None
last_of (x ∷ []) = Some x
last_of (x ∷ y ∷ ys) = last_of (y ∷ ys)

-- all ids of the tags lie below this one
abbrev pub AreBelow : ℕ → List TagRow → Type 0
AreBelow next rows =
    All (λ (r : TagRow). (r.id < next) × All (λ (e : TagEntry). e.id < next) r.entries) rows

-- the folder is that of the row, with its last entry
pub record IsFolderOf (row : TagRow) (folder : TagFolder) : Type 0 where
  pub id : folder.id ≡ row.id
  pub last : option_map (λ (e : TagEntry). e.id) (last_of row.entries) ≡ Some folder.last

-- what a page wants to get the tag with this fold
abbrev pub IsEntering : PageId → List ℕ → List TagRow → Entering → Type 0
IsEntering page folds rows Has = holds_in page (row_with folds rows) ≡ true
IsEntering page folds rows (Known folder) =
    (row : TagRow) × (row_with folds rows ≡ Some row)
    × (holds_in page (row_with folds rows) ≡ false) × IsFolderOf row folder
IsEntering page folds rows (New last) =
    (row_with folds rows ≡ None) × (last ≡ option_map (λ (r : TagRow). r.id) (last_of rows))

-- the order of pairs of numbers
abbrev pub pair_cmp : ℕ × ℕ → ℕ × ℕ → Ordering
pair_cmp a b = ordering_then (nat_cmp a.0 b.0) (nat_cmp a.1 b.1)

-- the set has the pair of a page and the id of a tag folder
abbrev pub has_pair : BTreeSet (ℕ × ℕ) → PageId → ℕ → Bool
has_pair entries page id = contains pair_cmp entries (page.0, id)

-- a page stands in the tag folder with this id
abbrev pub stands_in : PageId → ℕ → List TagRow → Bool
stands_in page id rows = list_any (λ (r : TagRow). (r.id == id) && holds page r) rows

-- the look-up finds each of these tags, and whether a page has it
pub record KnowsTags (known : Tags) (rows : List TagRow) : Type 0 where
  pub ids : AllPairs (λ (a b : TagRow). a.id ≢ b.id) rows
  pub names : AllPairs (λ (a b : TagRow). folded a.title ≢ folded b.title) rows
  pub folders :
      (folds : List ℕ)
      → MatchOption (get_by_text known.folders folds) (row_with folds rows ≡ None)
      (λ folder. (row : TagRow) × (row_with folds rows ≡ Some row) × IsFolderOf row folder)
  pub last : known.last ≡ option_map (λ (r : TagRow). r.id) (last_of rows)
  pub entries :
      (page : PageId) (id : ℕ) → has_pair known.entries page id ≡ stands_in page id rows

-- ---- the rows of a store one by one

-- the set has more pairs: those of a tag folder and the pages that pass the test
abbrev pub HasPairs : ℕ → (PageId → Bool) → BTreeSet (ℕ × ℕ) → BTreeSet (ℕ × ℕ) → Type 0
HasPairs folder test old new =
    (page : PageId) (id : ℕ)
    → has_pair new page id ≡ (has_pair old page id || ((folder == id) && test page))

-- one of the entries has the page
abbrev pub has_entry : PageId → List TagEntry → Bool
has_entry page entries = list_any (λ (e : TagEntry). is_page page e.page) entries

-- the id of the last entry
abbrev pub last_id : List TagEntry → ℕ
last_id entries = unwrap_or (option_map (λ (e : TagEntry). e.id) (last_of entries)) 0

-- a tag with an entry, which is none of these
pub record IsOther (row : TagRow) (rows : List TagRow) : Type 0 where
  pub id : All (λ (r : TagRow). r.id ≢ row.id) rows
  pub name : row_with (folded row.title) rows ≡ None
  pub used : row.entries ≢ []
