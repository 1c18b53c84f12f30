-- A node of a good store is well formed, and a file and a store keep it as it is.
use Rattle.std.proofs.Common.{◌≡◌, ◌==◌, ◌∙◌, ◌⊎◌, inl, inr, ℕ, Bool, true, false, not, List, [], ◌∷◌}
use Rattle.std.proofs.Common.{IfSome, IsTrue, Option, Some, None, ap, arith, eq-eqb, find}
use Rattle.std.proofs.Common.{if◌then◌else◌, is_some}
use Rattle.std.proofs.Common.{le-leb, length, refl, subst, sym}
use Rattle.std.specs.List.{list_all}
use Rattle.std.specs.Option.{IsSome, option_and_then, option_map}
use Rattle.std.specs.Str.{is_utf8}
use Rattle.std.proofs.lemmas.Bool.{and_from, true≢false}
use Rattle.std.proofs.lemmas.List.Elements.{recursion_from_All}
use Rattle.std.proofs.lemmas.Str.{IsUtf8-from_ascii, IsUtf8-nil, is_utf8-from_IsUtf8}
use Rattle.pl_base.specs.declared.date.Micros.{Micros}
use Rattle.pl_base.specs.declared.id.ItemId.{ItemId}
use Rattle.pl_base.specs.declared.id.PageId.{PageId}
use Rattle.pl_base.specs.declared.item.ItemKind.{ItemKind}
use Rattle.pl_base.specs.declared.item.ItemKind.TheVariants.{Bookmark, Folder, Separator}
use Rattle.pl_base.specs.Address.{canon}
use Rattle.pl_base.specs.Date.{IsDate, last_date}
use Rattle.pl_base.specs.Good.{IsGood, IsGoodItem, IsGoodPage, IsTitle, has_page_at}
use Rattle.pl_base.specs.Store.{Item, Page, Store, page_url}
use Rattle.pl_base.proofs.ListLaws.{found_in}
use Rattle.pl_base.proofs.OriginLaws.{store_url-from_canon}
use Rattle.pl_base.proofs.LookUps.{found_holds}
use Rattle.pl_link.proofs.UrlTexts.{store_url_ascii}
use Rattle.pl_nbread.specs.declared.tree.Node.{Node}
use Rattle.pl_nbread.specs.WellFormed.{is_bookmark, is_date, is_folder, is_formed}
use Rattle.pl_nbread.specs.Listed.{IsOwn}
use Rattle.pl_nbwrite.specs.Plain.{IsKept, is_bare, is_whole}
use Rattle.pl_words.specs.TagLists.{each_once, is_same_tag}
use Rattle.pl_words.specs.TagName.{is_tag_name}
use Rattle.pl_outline.specs.Outline.{in_seconds, node_of, separator_node, tags_at, whole_node, whole_seconds}
use Rattle.pl_outline.specs.Whole.{IsWholeNode}
use Rattle.pl_outline.proofs.TagsOnce.{tags_named, tags_once}

-- ---- URLs

-- a URL that names itself is a text
pub url_utf8 : (url : List ℕ) → canon url ≡ Some url → is_utf8 url ≡ true
url_utf8 url own =
    is_utf8-from_IsUtf8 url
    (IsUtf8-from_ascii url (store_url_ascii url (store_url-from_canon url url own)))

module _ (store : Store) (good : IsGood store) where
  own_url : (o : Option Page) → IfSome o (IsGoodPage store) → IsOwn (option_map (λ (p : Page). p.url) o)
  own_url None is = tt
  own_url (Some p) is = (url_utf8 p.url is.url, is.url)

  page_good : (test : Page → Bool) (o : Option Page) → find test store.pages ≡ o → IfSome o (IsGoodPage store)
  page_good test None found = tt
  page_good test (Some p) found =
      found_holds (IsGoodPage store) test store.pages p
      (recursion_from_All (IsGoodPage store) store.pages good.pages) found

  urls_own : (page : Option PageId) → IsOwn (option_and_then (page_url store) page)
  urls_own None = tt
  urls_own (Some id) =
      let test : Page → Bool = λ p. p.id.0 == id.0 in
      own_url (find test store.pages) (page_good test (find test store.pages) refl)

  url_some : (page : Option PageId) → is_some page ≡ true → IfSome page (λ id. IsTrue (has_page_at store id))
      → is_some (option_and_then (page_url store) page) ≡ true
  url_some None some has = absurd (true≢false (sym some))
  url_some (Some id) some has =
      mapped (find (λ (p : Page). p.id.0 == id.0) store.pages)
      (found_in (λ (p : Page). p.id.0 == id.0) store.pages has)
    where
      mapped : (o : Option Page) → IsSome o → is_some (option_map (λ (p : Page). p.url) o) ≡ true
      mapped None there = absurd (true≢false (sym there))
      mapped (Some p) there = refl

  tags_formed : (page : Option PageId)
      → (list_all is_tag_name (tags_at store page) ≡ true) × (each_once is_same_tag (tags_at store page) ≡ true)
  tags_formed None = (refl, refl)
  tags_formed (Some page) = (tags_named store page good.tags, tags_once store page good.tags)

-- ---- dates

whole : (date : Micros) → is_whole (whole_seconds date) ≡ true
whole date = eq-eqb _ _ (omega arith)

in_range : (date : Micros) → IsDate date → is_date (whole_seconds date) ≡ true
in_range date is = le-leb _ _ (omega (arith, is))

-- ---- a node

-- an item with dates in whole seconds
abbrev titled_node : Store → ℕ → Item → Node
titled_node store depth i = in_seconds (whole_node store depth i)

-- what holds of the node of an item, by its kind
by_kind : (store : Store) (depth : ℕ) (i : Item) (P : Node → Type 0)
    → (i.kind ≡ Bookmark → P (titled_node store depth i)) → (i.kind ≡ Folder → P (titled_node store depth i))
    → (i.kind ≡ Separator → P (separator_node depth)) → P (node_of store depth i)
by_kind store depth i P bookmark folder separator = choose i.kind refl
  where
    titled : (k : ItemKind) → i.kind ≡ k → titled_node store depth i ≡ titled_node store depth (record i { kind = k })
    titled k is = ap (λ (l : ItemKind). titled_node store depth (record i { kind = l })) is

    node : (k : ItemKind) → i.kind ≡ k → node_of store depth i ≡ node_of store depth (record i { kind = k })
    node k is = ap (λ (l : ItemKind). node_of store depth (record i { kind = l })) is

    choose : (k : ItemKind) → i.kind ≡ k → P (node_of store depth i)
    choose Bookmark is = subst P (titled Bookmark is ∙ sym (node Bookmark is)) (bookmark is)
    choose Folder is = subst P (titled Folder is ∙ sym (node Folder is)) (folder is)
    choose Separator is = subst P (sym (node Separator is)) (separator is)

module _ (store : Store) (good : IsGood store) (depth : ℕ) (i : Item) (own : IsGoodItem store i) where
  -- what is no bookmark has no page
  no_page : is_bookmark i.kind ≡ false → i.page ≡ None
  no_page other = choose i.page refl
    where
      choose : (o : Option PageId) → i.page ≡ o → i.page ≡ None
      choose None is = is
      choose (Some page) is =
          absurd (true≢false (sym (ap is_bookmark (own.bookmark.0 (ap is_some is))) ∙ other))

  url_as : (b : Bool) → is_bookmark i.kind ≡ b
      → (if b then is_some (option_and_then (page_url store) i.page)
      else not (is_some (option_and_then (page_url store) i.page))) ≡ true
  url_as true is = url_some store good i.page (own.bookmark.1 (bookmark i.kind is)) own.page
    where
      bookmark : (k : ItemKind) → is_bookmark k ≡ true → k ≡ Bookmark
      bookmark Bookmark is = refl
      bookmark Folder is = absurd (true≢false (sym is))
      bookmark Separator is = absurd (true≢false (sym is))
  url_as false is = ap (λ (o : Option PageId). not (is_some (option_and_then (page_url store) o))) (no_page is)

  formed_with : (added modified : Micros) → is_date added ≡ true → is_date modified ≡ true
      → is_formed (record (whole_node store depth i) { added = added; modified = modified }) ≡ true
  formed_with added modified fits follows =
      and_from _ _
      (and_from _ _
      (and_from _ _ (and_from _ _ (url_as (is_bookmark i.kind) refl) fits) follows) (tags_formed store good i.page).0)
      (tags_formed store good i.page).1

  titled_formed : is_formed (titled_node store depth i) ≡ true
  titled_formed =
      formed_with (whole_seconds i.added) (whole_seconds i.modified) (in_range i.added own.added)
      (in_range i.modified own.modified)

  pub whole_formed : is_formed (whole_node store depth i) ≡ true
  whole_formed =
      formed_with i.added i.modified (le-leb i.added.0 last_date own.added) (le-leb i.modified.0 last_date own.modified)

  pub whole_is : IsWholeNode (whole_node store depth i)
  whole_is =
      record {
        title = is_utf8-from_IsUtf8 i.title own.title.0;
        url = urls_own store good i.page;
        tags = λ other. ap (tags_at store) (no_page other);
      }

  titled_kept : is_bare i.kind (titled_node store depth i) ≡ true → IsKept (titled_node store depth i)
  titled_kept bare =
      record {
        added = whole i.added;
        modified = whole i.modified;
        bare = bare;
        title = is_utf8-from_IsUtf8 i.title own.title.0;
        url = urls_own store good i.page;
      }

  pub node_kept : IsKept (node_of store depth i)
  node_kept =
      by_kind store depth i IsKept
      (λ is. titled_kept (subst (λ (k : ItemKind). is_bare k (titled_node store depth i) ≡ true) (sym is) refl))
      (λ is. titled_kept
      (subst (λ (k : ItemKind). is_bare k (titled_node store depth i) ≡ true) (sym is)
      (ap (λ (o : Option PageId). length (tags_at store o) == 0) (no_page (ap is_bookmark is)))))
      (λ _. record { added = refl; modified = refl; bare = refl; title = is_utf8-from_IsUtf8 [] IsUtf8-nil; url = tt })

  pub node_formed : is_formed (node_of store depth i) ≡ true
  node_formed =
      by_kind store depth i (λ (n : Node). is_formed n ≡ true) (λ _. titled_formed) (λ _. titled_formed) (λ _. refl)

  pub node_titled : IsTitle (node_of store depth i).title
  node_titled =
      by_kind store depth i (λ (n : Node). IsTitle n.title) (λ _. own.title) (λ _. own.title)
      (λ _. (IsUtf8-nil, omega arith))

  folder_shown : i.kind ≡ Folder → is_folder (node_of store depth i).kind ≡ true
  folder_shown folder =
      by_kind store depth i (λ (n : Node). is_folder n.kind ≡ true) (λ _. ap is_folder folder)
      (λ _. ap is_folder folder) (λ is. absurd (true≢false (sym (ap is_folder folder) ∙ ap is_folder is)))

  -- only a folder has children
  holds : (node : Node) → (i.kind ≡ Folder → is_folder node.kind ≡ true)
      → (i.children ≡ []) ⊎ (is_folder node.kind ≡ true)
  holds node shown = choose i.children refl
    where
      choose : (ids : List ItemId) → i.children ≡ ids → (i.children ≡ []) ⊎ (is_folder node.kind ≡ true)
      choose [] is = inl is
      choose (id ∷ ids) is = inr (shown (own.children (λ none. cc)))

  pub node_holds : (i.children ≡ []) ⊎ (is_folder (node_of store depth i).kind ≡ true)
  node_holds = holds (node_of store depth i) folder_shown

  pub whole_holds : (i.children ≡ []) ⊎ (is_folder (whole_node store depth i).kind ≡ true)
  whole_holds = holds (whole_node store depth i) (λ folder. ap is_folder folder)

-- the depth of a node is the one that is given
pub node_depth : (store : Store) (depth : ℕ) (i : Item) → (node_of store depth i).depth ≡ depth
node_depth store depth i =
    by_kind store depth i (λ (n : Node). n.depth ≡ depth) (λ _. refl) (λ _. refl) (λ _. refl)
