-- What the look-up of tags stands for, with an entry or a tag more.
use Rattle.std.proofs.Common.{◌≡◌, ◌≢◌, ◌∙◌, ◌+◌, ◌++◌, ◌==◌, ◌&&◌, ◌||◌, ℕ, All, Bool, true, false, List, [], ◌∷◌}
use Rattle.std.proofs.Common.{Option, Some, None, ap, arith, bytes_eq, eq-eqb, find, get_or, if◌then◌else◌, map}
use Rattle.std.proofs.Common.{refl, subst, suc, sym}
use Rattle.std.specs.BTreeMap.{BTreeMap, Updates, get_by_text}
use Rattle.std.specs.BTreeSet.{BTreeSet, contains, Updates as Puts}
use Rattle.std.specs.List.{AllByRecursion, AllPairs, list_any}
use Rattle.std.specs.Map.{update}
use Rattle.std.specs.Option.{MatchOption, option_map, option_or}
use Rattle.std.specs.Ordering.{is_eq, nat_cmp}
use Rattle.std.specs.Prelude.{String}
use Rattle.std.specs.Cmp.{tied_then}
use Rattle.std.specs.String.{string_bytes, string_cmp}
use Rattle.std.proofs.Math.Bool.{or-false}
use Rattle.std.proofs.lemmas.Bool.{and_from, and_parts, eqb-true, ne_eqb, or_right, true≢false}
use Rattle.std.proofs.lemmas.List.Elements.{All-from_recursion, recursion_from_All}
use Rattle.std.proofs.lemmas.List.Folds.{find-append, list_any-append}
use Rattle.std.proofs.lemmas.List.Quantifiers.{all_pairs_push}
use Rattle.std.proofs.lemmas.Map.Text.{btree_map_updates_text}
use Rattle.std.proofs.lemmas.Option.{MatchOption-at_none, MatchOption-at_some}
use Rattle.std.proofs.lemmas.Slice.Eq.{bytes_eq-Decides}
use Rattle.pl_base.specs.declared.id.PageId.{PageId}
use Rattle.pl_base.specs.Fold.{folded}
use Rattle.pl_base.specs.Tree.{is_page}
use Rattle.pl_base.proofs.ListLaws.{AllPairs-map, find-map, list_any-alike, list_any-map}
use Rattle.pl_base.proofs.LookUps.{find-alike, found_any, found_holds, found_passes}
use Rattle.pl_keyed.specs.declared.tags.TagFolder.{TagFolder}
use Rattle.pl_keyed.specs.declared.tags.Tags.{Tags}
use Rattle.pl_keyed.specs.KnownTags.{AreBelow, HasPairs, IsFolderOf, KnowsTags, has_pair, last_of, pair_cmp, stands_in}
use Rattle.pl_keyed.specs.TagRows.{TagEntry, TagRow, entered, holds, holds_in, new_row, row_with, with_entry}
use Rattle.pl_keyed.specs.TagRows.{with_entry_in}
use Rattle.pl_keyed.proofs.KeyLookups.{tied_numbers}
use Rattle.pl_keyed.proofs.TagRowLaws.{last_map}

-- ---- lists

abbrev pub Apart : {X : Type 0} → (X → X → Type 0) → List X → Type 0
Apart R [] = Unit {0}
Apart R (x ∷ xs) = AllByRecursion (R x) xs × Apart R xs

pub apart : {X : Type 0} (R : X → X → Type 0) (xs : List X) → AllPairs R xs → Apart R xs
apart R [] pairs = tt
apart R (x ∷ xs) pairs = (
  recursion_from_All (R x) xs (λ k d within. pairs 0 (suc k) d (omega arith) (omega arith)),
  apart R xs (λ i j d before within. pairs (suc i) (suc j) d (omega arith) (omega arith)),
)

pub last_push : {X : Type 0} (xs : List X) (x : X) → last_of (xs ++ x ∷ []) ≡ Some x
last_push [] x = refl
last_push (y ∷ []) x = refl
last_push (y ∷ z ∷ ys) x = last_push (z ∷ ys) x

-- ---- pairs of numbers

or_last : (b d : Bool) → (if b then true else d) ≡ (d || b)
or_last true true = refl
or_last true false = refl
or_last false true = refl
or_last false false = refl

and_turned : (a b : Bool) → (a && b) ≡ (b && a)
and_turned true true = refl
and_turned true false = refl
and_turned false true = refl
and_turned false false = refl

-- a set with one pair more
pub pair_put : (old new : BTreeSet (ℕ × ℕ)) (page id k f : ℕ) → k ≡ page → f ≡ id
    → Puts pair_cmp old new (k, f) true → HasPairs id (λ (q : PageId). page == q.0) old new
pair_put old new page id k f page_is id_is puts q n =
    let test : is_eq (pair_cmp (k, f) (q.0, n)) ≡ ((id == n) && (page == q.0)) =
    sym (tied_then (nat_cmp k q.0) (nat_cmp f n))
    ∙ ap (λ (b : Bool). b && is_eq (nat_cmp f n)) (tied_numbers k q.0)
    ∙ ap (λ (b : Bool). (k == q.0) && b) (tied_numbers f n)
    ∙ and_turned (k == q.0) (f == n)
    ∙ ap (λ (m : ℕ). (m == n) && (k == q.0)) id_is
    ∙ ap (λ (m : ℕ). (id == n) && (m == q.0)) page_is in
    puts.0 (q.0, n) ∙ ap (λ (b : Bool). if b then true else has_pair old q n) test
    ∙ or_last ((id == n) && (page == q.0)) (has_pair old q n)

-- a map with one text more
pub text_put : {Y : Type 0} (old new : BTreeMap (String Y) TagFolder) (name : String Y) (folds : List ℕ)
    (folder : TagFolder) → string_bytes name ≡ folds → Updates string_cmp old new name (Some folder) → (q : List ℕ)
    → get_by_text new q ≡ update bytes_eq (get_by_text old) folds (Some folder) q
text_put old new name folds folder is updates q =
    btree_map_updates_text (string_bytes name) old new (Some folder) updates q
    ∙ ap (λ (fs : List ℕ). update bytes_eq (get_by_text old) fs (Some folder) q) is

-- ---- tags with their ids

abbrev pub OtherIds : List TagRow → Type 0
OtherIds rows = Apart (λ (a b : TagRow). a.id ≢ b.id) rows

none_stands : (page : PageId) (id : ℕ) (rows : List TagRow) → AllByRecursion (λ (r : TagRow). id ≢ r.id) rows
    → stands_in page id rows ≡ false
none_stands page id [] all = refl
none_stands page id (r ∷ rows) all =
    rw (ne_eqb r.id id (λ same. all.0 (sym same))) (none_stands page id rows all.1)

pub apart_ids : (rows : List TagRow) → AllPairs (λ (a b : TagRow). a.id ≢ b.id) rows → OtherIds rows
apart_ids rows pairs = apart (λ (a b : TagRow). a.id ≢ b.id) rows pairs

fold_is : (folds : List ℕ) (row : TagRow) (rows : List TagRow) → row_with folds rows ≡ Some row
    → folded row.title ≡ folds
fold_is folds row rows found =
    (bytes_eq-Decides (folded row.title) folds).0
    (found_passes (λ (r : TagRow). bytes_eq (folded r.title) folds) rows row found)

none_named : (folds : List ℕ) (rows : List TagRow) → row_with folds rows ≡ None
    → AllByRecursion (λ (r : TagRow). folded r.title ≢ folds) rows
none_named folds [] none = tt
none_named folds (r ∷ rows) none = choose (bytes_eq (folded r.title) folds) refl none (none_named folds rows)
  where
    choose : (b : Bool) → bytes_eq (folded r.title) folds ≡ b → (if b then Some r else row_with folds rows) ≡ None
        → (row_with folds rows ≡ None → AllByRecursion (λ (x : TagRow). folded x.title ≢ folds) rows)
        → AllByRecursion (λ (x : TagRow). folded x.title ≢ folds) (r ∷ rows)
    choose true is none rest = absurd (cc)
    choose false is none rest = (
      λ same. true≢false (sym ((bytes_eq-Decides (folded r.title) folds).1 same) ∙ is),
      rest none,
    )

-- a page stands in the tag folder that is found
pub stands_here : (page : PageId) (folds : List ℕ) (row : TagRow) (rows : List TagRow) → OtherIds rows
    → row_with folds rows ≡ Some row → stands_in page row.id rows ≡ holds page row
stands_here page folds row [] others found = absurd (cc)
stands_here page folds row (r ∷ rows) others found =
    choose (bytes_eq (folded r.title) folds) found (stands_here page folds row rows others.1)
  where
    choose : (b : Bool) → (if b then Some r else row_with folds rows) ≡ Some row
        → (row_with folds rows ≡ Some row → stands_in page row.id rows ≡ holds page row)
        → stands_in page row.id (r ∷ rows) ≡ holds page row
    choose true here rest =
        let same : r ≡ row = cc in
        let none : stands_in page r.id rows ≡ false = none_stands page r.id rows others.0 in
        subst (λ (x : TagRow). stands_in page x.id (r ∷ rows) ≡ holds page x) same
        (rw (eq-eqb r.id r.id refl, none) (or-false (holds page r)))
    choose false here rest =
        let other : r.id ≢ row.id =
        found_holds (λ (x : TagRow). r.id ≢ x.id) (λ (x : TagRow). bytes_eq (folded x.title) folds) rows row others.0
        here in
        rw (ne_eqb r.id row.id other) (rest here)

-- two that are found are one where their ids are
one_row : (p q : TagRow → Bool) (rows : List TagRow) (a b : TagRow) → OtherIds rows → find p rows ≡ Some a
    → find q rows ≡ Some b → a.id ≡ b.id → a ≡ b
one_row p q [] a b others first second same = absurd (cc)
one_row p q (r ∷ rows) a b others first second same =
    choose (p r) (q r) first second (λ f g. one_row p q rows a b others.1 f g same)
  where
    choose : (t u : Bool) → (if t then Some r else find p rows) ≡ Some a → (if u then Some r else find q rows) ≡ Some b
        → (find p rows ≡ Some a → find q rows ≡ Some b → a ≡ b) → a ≡ b
    choose true true f g rest = cc
    choose true false f g rest =
        let here : r ≡ a = cc in
        absurd (found_holds (λ (x : TagRow). r.id ≢ x.id) q rows b others.0 g
        (ap (λ (x : TagRow). x.id) here ∙ same))
    choose false true f g rest =
        let here : r ≡ b = cc in
        absurd (found_holds (λ (x : TagRow). r.id ≢ x.id) p rows a others.0 f
        (ap (λ (x : TagRow). x.id) here ∙ sym same))
    choose false false f g rest = rest f g

-- ---- an entry more

module _ (tag : ℕ) (page : PageId) (next : ℕ) where
  entry_id : (r : TagRow) → (with_entry tag page next r).id ≡ r.id
  entry_id r = choose (r.id == tag)
    where
      choose : (b : Bool) → (if b
          then record r { entries = r.entries ++ record { id = next; page = Some page } ∷ [] }
          else r).id ≡ r.id
      choose true = refl
      choose false = refl

  entry_title : (r : TagRow) → (with_entry tag page next r).title ≡ r.title
  entry_title r = choose (r.id == tag)
    where
      choose : (b : Bool) → (if b
          then record r { entries = r.entries ++ record { id = next; page = Some page } ∷ [] }
          else r).title ≡ r.title
      choose true = refl
      choose false = refl

  entry_other : (r : TagRow) → r.id ≢ tag → with_entry tag page next r ≡ r
  entry_other r other = rw (ne_eqb r.id tag other) refl

  entry_here : (r : TagRow) → r.id ≡ tag → (with_entry tag page next r).entries
      ≡ r.entries ++ record { id = next; page = Some page } ∷ []
  entry_here r same = rw (eq-eqb r.id tag same) refl

  rows_entered : (folds : List ℕ) (rows : List TagRow)
      → row_with folds (map (with_entry tag page next) rows)
      ≡ option_map (with_entry tag page next) (row_with folds rows)
  rows_entered folds rows =
      find-map (λ (r : TagRow). bytes_eq (folded r.title) folds) (with_entry tag page next) rows
      ∙ ap (option_map (with_entry tag page next))
      (find-alike (λ (r : TagRow). bytes_eq (folded (with_entry tag page next r).title) folds)
      (λ (r : TagRow). bytes_eq (folded r.title) folds) rows
      (λ r. ap (λ (title : List ℕ). bytes_eq (folded title) folds) (entry_title r)))

  holds_more : (q : PageId) (r : TagRow) → r.id ≡ tag
      → holds q (with_entry tag page next r) ≡ (holds q r || (page.0 == q.0))
  holds_more q r same =
      ap (list_any (λ (e : TagEntry). is_page q e.page)) (entry_here r same)
      ∙ list_any-append (λ (e : TagEntry). is_page q e.page) r.entries (record { id = next; page = Some page } ∷ [])
      ∙ ap (λ (b : Bool). holds q r || b) (or-false (page.0 == q.0))

  -- of another page or tag the same is told
  stays : (q : PageId) (n : ℕ) (r : TagRow) → ((tag == n) && (page.0 == q.0)) ≡ false
      → ((with_entry tag page next r).id == n) && holds q (with_entry tag page next r)
      ≡ ((r.id == n) && holds q r)
  stays q n r other = choose (r.id == tag) refl
    where
      plain : (i h p : Bool) → (i && p) ≡ false → (i && (h || p)) ≡ (i && h)
      plain false h p off = refl
      plain true h true off = absurd (true≢false off)
      plain true true false off = refl
      plain true false false off = refl

      choose : (b : Bool) → (r.id == tag) ≡ b
          → (((with_entry tag page next r).id == n) && holds q (with_entry tag page next r))
          ≡ ((r.id == n) && holds q r)
      choose true is =
          let same : r.id ≡ tag = eqb-true r.id tag is in
          ap (λ (k : ℕ). (k == n) && holds q (with_entry tag page next r)) (entry_id r)
          ∙ ap (λ (b : Bool). (r.id == n) && b) (holds_more q r same)
          ∙ plain (r.id == n) (holds q r) (page.0 == q.0) (ap (λ (k : ℕ). (k == n) && (page.0 == q.0)) same ∙ other)
      choose false is =
          ap (λ (x : TagRow). (x.id == n) && holds q x)
          (entry_other r (λ same. true≢false (sym (eq-eqb r.id tag same) ∙ is)))

  stands_entered : (p : TagRow → Bool) (row : TagRow) (rows : List TagRow) → find p rows ≡ Some row → row.id ≡ tag
      → (q : PageId) (n : ℕ) → stands_in q n (map (with_entry tag page next) rows)
      ≡ (stands_in q n rows || ((tag == n) && (page.0 == q.0)))
  stands_entered p row rows found same q n = choose ((tag == n) && (page.0 == q.0)) refl
    where
      passes : ((tag == n) && (page.0 == q.0)) ≡ true
          → (((with_entry tag page next row).id == n) && holds q (with_entry tag page next row)) ≡ true
      passes is =
          let parts = and_parts (tag == n) (page.0 == q.0) is in
          and_from ((with_entry tag page next row).id == n) (holds q (with_entry tag page next row))
          (ap (λ (k : ℕ). k == n) (entry_id row ∙ same) ∙ parts.0)
          (holds_more q row same ∙ or_right (holds q row) (page.0 == q.0) parts.1)

      choose : (b : Bool) → ((tag == n) && (page.0 == q.0)) ≡ b
          → stands_in q n (map (with_entry tag page next) rows) ≡ (stands_in q n rows || b)
      choose true is =
          list_any-map (λ (r : TagRow). (r.id == n) && holds q r) (with_entry tag page next) rows
          ∙ found_any p
          (λ (r : TagRow). ((with_entry tag page next r).id == n) && holds q (with_entry tag page next r)) rows row
          found (passes is)
          ∙ sym (or_right (stands_in q n rows) true refl)
      choose false is =
          list_any-map (λ (r : TagRow). (r.id == n) && holds q r) (with_entry tag page next) rows
          ∙ list_any-alike
          (λ (r : TagRow). ((with_entry tag page next r).id == n) && holds q (with_entry tag page next r))
          (λ (r : TagRow). (r.id == n) && holds q r) rows (λ r. stays q n r is)
          ∙ sym (or-false (stands_in q n rows))

-- ---- the look-up

-- the folders where this one has the fold
abbrev pub FoldersPut : Tags → Tags → List ℕ → TagFolder → Type 0
FoldersPut old new folds folder =
    (q : List ℕ) → get_by_text new.folders q ≡ update bytes_eq (get_by_text old.folders) folds (Some folder) q

-- what the look-up has is what is found among the rows
abbrev IsFound : Option TagFolder → Option TagRow → Type 0
IsFound o found = MatchOption o (found ≡ None) (λ folder. (row : TagRow) × (found ≡ Some row) × IsFolderOf row folder)

found_alike : (o : Option TagFolder) (f g : Option TagRow) → (f ≡ None → g ≡ None)
    → ((row : TagRow) → f ≡ Some row → g ≡ Some row) → IsFound o f → IsFound o g
found_alike None f g none some h = none h
found_alike (Some folder) f g none some h = (h.0, some h.0 h.1, h.2)

-- the same is found of each fold but one
found_put : (old new : Tags) (before after : List TagRow) (folds : List ℕ) (folder : TagFolder) (row : TagRow)
    → KnowsTags old before → FoldersPut old new folds folder → row_with folds after ≡ Some row → IsFolderOf row folder
    → ((q : List ℕ) → bytes_eq folds q ≡ false → row_with q before ≡ None → row_with q after ≡ None)
    → ((q : List ℕ) (r : TagRow) → bytes_eq folds q ≡ false → row_with q before ≡ Some r → row_with q after ≡ Some r)
    → (q : List ℕ) → IsFound (get_by_text new.folders q) (row_with q after)
found_put old new before after folds folder row k put there is none some q = choose (bytes_eq folds q) refl
  where
    choose : (b : Bool) → bytes_eq folds q ≡ b → IsFound (get_by_text new.folders q) (row_with q after)
    choose true same =
        subst (λ (o : Option TagFolder). IsFound o (row_with q after))
        (sym (put q ∙ ap (λ (b : Bool). if b then Some folder else get_by_text old.folders q) same))
        (row, ap (λ (fs : List ℕ). row_with fs after) (sym ((bytes_eq-Decides folds q).0 same)) ∙ there, is)
    choose false other =
        subst (λ (o : Option TagFolder). IsFound o (row_with q after))
        (sym (put q ∙ ap (λ (b : Bool). if b then Some folder else get_by_text old.folders q) other))
        (found_alike (get_by_text old.folders q) (row_with q before) (row_with q after) (none q other)
        (λ r. some q r other) (k.folders q))

-- the same rows, by look-ups that find the same
pub knows_same : (old new : Tags) (rows : List TagRow) → KnowsTags old rows → new.folders ≡ old.folders
    → new.last ≡ old.last → ((q : PageId) (n : ℕ) → has_pair new.entries q n ≡ has_pair old.entries q n)
    → KnowsTags new rows
knows_same old new rows k folders last entries =
    record {
      ids = k.ids;
      names = k.names;
      folders = λ q. subst (λ m. IsFound (get_by_text m q) (row_with q rows)) (sym folders) (k.folders q);
      last = last ∙ k.last;
      entries = λ q n. entries q n ∙ k.entries q n;
    }

-- one entry more in a tag folder
pub knows_entry : (old new : Tags) (rows : List TagRow) (row : TagRow) (folds : List ℕ) (folder : TagFolder)
    (page : PageId) (next : ℕ) → KnowsTags old rows → row_with folds rows ≡ Some row → folder.id ≡ row.id
    → folder.last ≡ next → FoldersPut old new folds folder → new.last ≡ old.last
    → HasPairs row.id (λ (q : PageId). page.0 == q.0) old.entries new.entries
    → KnowsTags new (map (with_entry row.id page next) rows)
knows_entry old new rows row folds folder page next k found id last put kept pairs =
    record {
      ids = AllPairs-map (λ (a b : TagRow). a.id ≢ b.id) (with_entry row.id page next) rows
          (λ i j d before within same. k.ids i j d before within
          (sym (entry_id row.id page next (get_or rows i d)) ∙ same ∙ entry_id row.id page next (get_or rows j d)));
      names = AllPairs-map (λ (a b : TagRow). folded a.title ≢ folded b.title) (with_entry row.id page next) rows
          (λ i j d before within same. k.names i j d before within
          (ap folded (sym (entry_title row.id page next (get_or rows i d))) ∙ same
          ∙ ap folded (entry_title row.id page next (get_or rows j d))));
      folders = found_put old new rows (map (with_entry row.id page next) rows) folds folder
          (with_entry row.id page next row) k put (more folds (Some row) found) here
          (λ q other none. more q None none)
          (λ q r other at. more q (Some r) at ∙ ap (λ (x : TagRow). Some x) (unlike q r other at));
      last = kept ∙ k.last ∙ sym (ap (option_map (λ (r : TagRow). r.id)) (last_map (with_entry row.id page next) rows)
          ∙ ids (last_of rows));
      entries = λ q n. pairs q n ∙ ap (λ (b : Bool). b || ((row.id == n) && (page.0 == q.0))) (k.entries q n)
          ∙ sym (stands_entered row.id page next (λ (r : TagRow). bytes_eq (folded r.title) folds) row rows found refl
          q n);
    }
  where
    more : (q : List ℕ) (o : Option TagRow) → row_with q rows ≡ o
        → row_with q (map (with_entry row.id page next) rows) ≡ option_map (with_entry row.id page next) o
    more q o at = rows_entered row.id page next q rows ∙ ap (option_map (with_entry row.id page next)) at

    ids : (o : Option TagRow) → option_map (λ (r : TagRow). r.id) (option_map (with_entry row.id page next) o)
        ≡ option_map (λ (r : TagRow). r.id) o
    ids None = refl
    ids (Some r) = ap (λ (n : ℕ). Some n) (entry_id row.id page next r)

    here : IsFolderOf (with_entry row.id page next row) folder
    here =
        record {
          id = id ∙ sym (entry_id row.id page next row);
          last = ap (λ (es : List TagEntry). option_map (λ (e : TagEntry). e.id) (last_of es))
              (entry_here row.id page next row refl)
              ∙ ap (option_map (λ (e : TagEntry). e.id))
              (last_push row.entries (record { id = next; page = Some page }))
              ∙ ap (λ (n : ℕ). Some n) (sym last);
        }

    unlike : (q : List ℕ) (r : TagRow) → bytes_eq folds q ≡ false → row_with q rows ≡ Some r
        → with_entry row.id page next r ≡ r
    unlike q r other at =
        entry_other row.id page next r (λ same.
        let one : r ≡ row =
        one_row (λ (x : TagRow). bytes_eq (folded x.title) q) (λ (x : TagRow). bytes_eq (folded x.title) folds) rows
        r row (apart_ids rows k.ids) at found same in
        true≢false (sym ((bytes_eq-Decides folds q).1 (sym (fold_is folds row rows found)
        ∙ ap (λ (x : TagRow). folded x.title) (sym one) ∙ fold_is q r rows at)) ∙ other))

-- one tag folder more
pub knows_push : (old new : Tags) (rows : List TagRow) (row : TagRow) (folder : TagFolder) → KnowsTags old rows
    → All (λ (r : TagRow). r.id ≢ row.id) rows → row_with (folded row.title) rows ≡ None → IsFolderOf row folder
    → FoldersPut old new (folded row.title) folder → new.last ≡ Some row.id
    → HasPairs row.id (λ (q : PageId). holds q row) old.entries new.entries → KnowsTags new (rows ++ row ∷ [])
knows_push old new rows row folder k other absent here put last pairs =
    record {
      ids = all_pairs_push (λ (a b : TagRow). a.id ≢ b.id) rows row k.ids other;
      names = all_pairs_push (λ (a b : TagRow). folded a.title ≢ folded b.title) rows row k.names
          (All-from_recursion (λ (r : TagRow). folded r.title ≢ folded row.title) rows
          (none_named (folded row.title) rows absent));
      folders = found_put old new rows (rows ++ row ∷ []) (folded row.title) folder row k put
          (all (folded row.title) true ((bytes_eq-Decides (folded row.title) (folded row.title)).1 refl)
          ∙ ap (λ (o : Option TagRow). option_or o (Some row)) absent)
          here (λ q unlike none. all q false unlike ∙ ap (λ (o : Option TagRow). option_or o None) none)
          (λ q r unlike at. all q false unlike ∙ ap (λ (o : Option TagRow). option_or o None) at);
      last = last ∙ sym (ap (option_map (λ (r : TagRow). r.id)) (last_push rows row));
      entries = λ q n. pairs q n
          ∙ ap (λ (b : Bool). b || ((row.id == n) && holds q row)) (k.entries q n)
          ∙ ap (λ (b : Bool). stands_in q n rows || b) (sym (or-false ((row.id == n) && holds q row)))
          ∙ sym (list_any-append (λ (r : TagRow). (r.id == n) && holds q r) rows (row ∷ []));
    }
  where
    all : (q : List ℕ) (b : Bool) → bytes_eq (folded row.title) q ≡ b → row_with q (rows ++ row ∷ [])
        ≡ option_or (row_with q rows) (if b then Some row else None)
    all q b is =
        find-append (λ (r : TagRow). bytes_eq (folded r.title) q) rows (row ∷ [])
        ∙ ap (λ (b : Bool). option_or (row_with q rows) (if b then Some row else None)) is

-- ---- a page that gets a tag

-- the tag folder that the look-up has for a fold
pub folder_row : (known : Tags) (rows : List TagRow) (folds : List ℕ) (folder : TagFolder) → KnowsTags known rows
    → get_by_text known.folders folds ≡ Some folder
    → (row : TagRow) × (row_with folds rows ≡ Some row) × IsFolderOf row folder
folder_row known rows folds folder k at =
    MatchOption-at_some (row_with folds rows ≡ None)
    (λ f. (row : TagRow) × (row_with folds rows ≡ Some row) × IsFolderOf row f) folder at (k.folders folds)

pub no_row : (known : Tags) (rows : List TagRow) (folds : List ℕ) → KnowsTags known rows
    → get_by_text known.folders folds ≡ None → row_with folds rows ≡ None
no_row known rows folds k at =
    MatchOption-at_none (row_with folds rows ≡ None)
    (λ f. (row : TagRow) × (row_with folds rows ≡ Some row) × IsFolderOf row f) at (k.folders folds)

-- whether the page has the tag
pub told : (known : Tags) (rows : List TagRow) (folds : List ℕ) (folder : TagFolder) (id : PageId) (page : ℕ) (b : Bool)
    → KnowsTags known rows → get_by_text known.folders folds ≡ Some folder → id.0 ≡ page
    → contains pair_cmp known.entries (page, folder.id) ≡ b → holds_in id (row_with folds rows) ≡ b
told known rows folds folder id page b k at is has =
    let r = folder_row known rows folds folder k at in
    let row : TagRow = r.0 in
    ap (holds_in id) r.1 ∙ sym (stands_here id folds row rows (apart_ids rows k.ids) r.1)
    ∙ sym (k.entries id row.id)
    ∙ ap (λ (n : ℕ). has_pair known.entries id n) (sym r.2.id)
    ∙ ap (λ (n : ℕ). contains pair_cmp known.entries (n, folder.id)) is ∙ has

-- it has it
pub enters_none : (old new : Tags) (rows : List TagRow) (folds : List ℕ) (id : PageId) (name : List ℕ) (next : ℕ)
    → KnowsTags old rows → folded name ≡ folds → holds_in id (row_with folds rows) ≡ true
    → new.folders ≡ old.folders → new.last ≡ old.last → new.entries.keys ≡ old.entries.keys
    → KnowsTags new (entered id name next rows)
enters_none old new rows folds id name next k same has folders last keys =
    let known : holds_in id (row_with (folded name) rows) ≡ true =
    ap (λ (fs : List ℕ). holds_in id (row_with fs rows)) same ∙ has in
    rw known (knows_same old new rows k folders last
    (λ q n. ap (list_any (λ (key : ℕ × ℕ). is_eq (pair_cmp (q.0, n) key))) keys))

-- it gets an entry
pub enters_known : (old new : Tags) (rows : List TagRow) (folds : List ℕ) (folder : TagFolder) (id : PageId)
    (page : ℕ) (name : List ℕ) (next : ℕ) → KnowsTags old rows → get_by_text old.folders folds ≡ Some folder
    → id.0 ≡ page → folded name ≡ folds → holds_in id (row_with folds rows) ≡ false
    → FoldersPut old new folds (record { id = folder.id; last = next }) → new.last ≡ old.last
    → Puts pair_cmp old.entries new.entries (page, folder.id) true → KnowsTags new (entered id name next rows)
enters_known old new rows folds folder id page name next k at is same lacks put last puts =
    let r = folder_row old rows folds folder k at in
    let row : TagRow = r.0 in
    let known : holds_in id (row_with (folded name) rows) ≡ false =
    ap (λ (fs : List ℕ). holds_in id (row_with fs rows)) same ∙ lacks in
    let there : row_with (folded name) rows ≡ Some row = ap (λ (fs : List ℕ). row_with fs rows) same ∙ r.1 in
    let made : entered id name next rows ≡ map (with_entry row.id id next) rows =
    ap (λ (b : Bool). if b then rows else with_entry_in (row_with (folded name) rows) id name next rows) known
    ∙ ap (λ (o : Option TagRow). with_entry_in o id name next rows) there in
    subst (KnowsTags new) (sym made)
    (knows_entry old new rows row folds (record { id = folder.id; last = next }) id next k r.1 r.2.id refl put last
    (pair_put old.entries new.entries id.0 row.id page folder.id (sym is) r.2.id puts))

-- it gets a folder and an entry
pub enters_new : (old new : Tags) (rows : List TagRow) (folds : List ℕ) (id : PageId) (page : ℕ) (name : List ℕ)
    (next : ℕ) → KnowsTags old rows → AreBelow next rows → get_by_text old.folders folds ≡ None
    → id.0 ≡ page → folded name ≡ folds → FoldersPut old new folds (record { id = next; last = next + 1 })
    → new.last ≡ Some next → Puts pair_cmp old.entries new.entries (page, next) true
    → KnowsTags new (entered id name next rows)
enters_new old new rows folds id page name next k below at is same put last puts =
    let none : row_with (folded name) rows ≡ None =
    ap (λ (fs : List ℕ). row_with fs rows) same ∙ no_row old rows folds k at in
    let made : entered id name next rows ≡ rows ++ new_row id name next ∷ [] =
    ap (λ (o : Option TagRow). if holds_in id o then rows else with_entry_in o id name next rows) none in
    subst (KnowsTags new) (sym made)
    (knows_push old new rows (new_row id name next) (record { id = next; last = next + 1 }) k
    (λ i d within e. omega (arith, (below i d within).0)) none
    (record { id = refl; last = refl })
    (subst (λ (fs : List ℕ). FoldersPut old new fs (record { id = next; last = next + 1 })) (sym same) put) last
    (λ q n. pair_put old.entries new.entries id.0 next page next (sym is) refl puts q n
    ∙ ap (λ (b : Bool). has_pair old.entries q n || ((next == n) && b)) (sym (or-false (id.0 == q.0)))))
