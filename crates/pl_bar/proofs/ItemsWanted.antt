-- A walk over the items of a page, until what is wanted among them is met.
use Rattle.std.proofs.Common.{◌≡◌, ◌≢◌, ◌∙◌, ◌≤◌, ◌+◌, ◌*◌, ◌++◌, ◌&&◌, ◌||◌, ℕ, Bool, true, false, List, [], ◌∷◌}
use Rattle.std.proofs.Common.{Option, Some, None, ap, ap₂, arith, is_some, length, not, refl, sym}
use Rattle.std.specs.Option.{is_none}
use Rattle.std.proofs.lemmas.Bool.{true≢false}
use Rattle.std.proofs.lemmas.List.{length-append, length-map}
use Rattle.pl_base.specs.declared.id.ItemId.{ItemId}
use Rattle.pl_base.specs.declared.id.PageId.{PageId}
use Rattle.pl_base.specs.Rows.{IsWellKept, Kept, most_reads, store_of}
use Rattle.pl_base.specs.Store.{Item}
use Rattle.pl_base.specs.Tags.{is_bookmarked, is_tagged}
use Rattle.pl_base.specs.Tree.{first_item, reference_behind, references}
use Rattle.pl_base.proofs.ReferencesRun.{having, item_names, references_run}
use Rattle.pl_base.proofs.Walk.{StandsAt, Walk, ends, goes_on, starts}
use Rattle.pl_marks.specs.TagFolders.{folder_reads, tag_folder}
use Rattle.pl_marks.proofs.PageTags.{NoneOutside, none_more, none_outside, outside_here}
use Rattle.pl_marks.proofs.TaggedPage.{NoneInside, inside_here, none_inside, none_inside_more}
use Rattle.pl_bar.specs.declared.items.Wanted.{Wanted}
use Rattle.pl_bar.specs.Cost.{items_cost}

-- what is still wanted is none of these items, for each of which so many records were read
pub record AreOther (items : List Item) (wanted : Wanted) (before now : ℕ) (front : List Item) : Type 0 where
  pub bookmark : wanted.bookmark ≡ true → NoneOutside items front
  pub tag : wanted.tag ≡ true → NoneInside items front
  pub cost : now ≤ before + 4 + 12 * length front

module _ (kept : Kept) (page : PageId) where
  abbrev bookmarked : Bool
  bookmarked = is_bookmarked (store_of kept) page

  abbrev tagged : Bool
  tagged = is_tagged (store_of kept) page

  -- the page has an item of each wanted kind
  abbrev has_all : Wanted → Bool
  has_all wanted = (not wanted.bookmark || bookmarked) && (not wanted.tag || tagged)

  -- the walk, and that no more was met than what is not wanted any more
  pub record Searches (first wanted : Wanted) (before now : ℕ) (next : Option ItemId) : Type 0 where
    pub walk : Walk item_names (having kept.items page) (AreOther kept.items wanted before now) next
    pub same : has_all wanted ≡ has_all first
    pub some : (not wanted.bookmark && not wanted.tag) ≡ false

  pub begins : (wanted : Wanted) (before now : ℕ) (next : Option ItemId)
      → next ≡ first_item (references kept.items page) → now ≤ before + most_reads
      → (not wanted.bookmark && not wanted.tag) ≡ false → Searches wanted wanted before now next
  begins wanted before now next is cost some =
      record {
        walk = starts item_names (having kept.items page) (AreOther kept.items wanted before now) next is
            (record { bookmark = λ asked. refl; tag = λ asked. refl; cost = omega arith });
        same = refl;
        some = some;
      }

  module _ (wanted left : Wanted) (before now : ℕ) (id : ItemId) (is_tag : Bool)
      (w : StandsAt item_names (having kept.items page) (AreOther kept.items wanted before now) id)
      (told : is_tag ≡ is_some (tag_folder kept.items id)) (bookmark : left.bookmark ≡ (wanted.bookmark && is_tag))
      (tag : left.tag ≡ (wanted.tag && not is_tag)) where
    turned : (o : Option ItemId) → is_none o ≡ not (is_some o)
    turned None = refl
    turned (Some folder) = refl

    outside : is_none (tag_folder kept.items id) ≡ not is_tag
    outside = turned (tag_folder kept.items id) ∙ ap not (sym told)

    -- an item that is met is there
    pub met : has_all left ≡ has_all wanted
    met =
        ap₂ (λ b t. (not b || bookmarked) && (not t || tagged)) bookmark tag
        ∙ choose is_tag refl wanted.bookmark wanted.tag
      where
        choose : (is : Bool) → is_tag ≡ is → (b t : Bool)
            → ((not (b && is) || bookmarked) && (not (t && not is) || tagged))
            ≡ ((not b || bookmarked) && (not t || tagged))
        choose true is b t =
            let there : true ≡ tagged =
            inside_here kept page id (AreOther kept.items wanted before now) w (sym told ∙ is) in
            kinds b t bookmarked tagged there
          where
            kinds : (b t m g : Bool) → true ≡ g
                → ((not (b && true) || m) && (not (t && false) || g)) ≡ ((not b || m) && (not t || g))
            kinds true true m true there = refl
            kinds true false m g there = refl
            kinds false true m true there = refl
            kinds false false m g there = refl
            kinds b t m false there = absurd (true≢false there)
        choose false is b t =
            let there : true ≡ bookmarked =
            outside_here kept page id (AreOther kept.items wanted before now) w (outside ∙ ap not is) in
            kinds b t bookmarked tagged there
          where
            kinds : (b t m g : Bool) → true ≡ m
                → ((not (b && false) || m) && (not (t && true) || g)) ≡ ((not b || m) && (not t || g))
            kinds true true true g there = refl
            kinds true false true g there = refl
            kinds false true m g there = refl
            kinds false false m g there = refl
            kinds b t false g there = absurd (true≢false there)

    both : (a b : Bool) → (a && b) ≡ true → (a ≡ true) × (b ≡ true)
    both true true is = (refl, refl)
    both true false is = absurd (true≢false (sym is))
    both false b is = absurd (true≢false (sym is))

    more : (later : ℕ) → later ≤ now + folder_reads + most_reads
        → AreOther kept.items left before later (w.front ++ w.element ∷ [])
    more later cost =
        record {
          bookmark = λ asked.
              let one = both wanted.bookmark is_tag (sym bookmark ∙ asked) in
              none_more kept.items w.front w.element (w.so_far.bookmark one.0)
              (ap (λ i. is_none (tag_folder kept.items i)) w.is ∙ outside ∙ ap not one.1);
          tag = λ asked.
              let one = both wanted.tag (not is_tag) (sym tag ∙ asked) in
              none_inside_more kept.items w.front w.element (w.so_far.tag one.0)
              (ap (λ i. is_some (tag_folder kept.items i)) w.is ∙ sym told ∙ not_true is_tag one.1);
          cost = omega (arith, w.so_far.cost, length-append w.front (w.element ∷ []));
        }
      where
        not_true : (b : Bool) → not b ≡ true → b ≡ false
        not_true true is = sym is
        not_true false is = refl

    pub goes : (first : Wanted) (later : ℕ) (next : Option ItemId) → IsWellKept kept → has_all wanted ≡ has_all first
        → next ≡ reference_behind kept.items id → later ≤ now + folder_reads + most_reads
        → (not left.bookmark && not left.tag) ≡ false → Searches first left before later next
    goes first later next well same is cost some =
        record {
          walk = goes_on item_names (reference_behind kept.items) (having kept.items page)
              (AreOther kept.items wanted before now) (AreOther kept.items left before later) id next
              (references_run kept page well) w is (more later cost);
          same = met ∙ same;
          some = some;
        }

    -- all of it is met
    pub met_all : (first : Wanted) → has_all wanted ≡ has_all first → (not left.bookmark && not left.tag) ≡ true
        → true ≡ has_all first
    met_all first same none = nothing left.bookmark left.tag bookmarked tagged none ∙ met ∙ same
      where
        nothing : (b t m g : Bool) → (not b && not t) ≡ true → true ≡ ((not b || m) && (not t || g))
        nothing false false m g none = refl
        nothing false true m g none = absurd (true≢false (sym none))
        nothing true t m g none = absurd (true≢false (sym none))

    pub met_cost : (later : ℕ) → later ≤ now + folder_reads → later ≤ before + items_cost (store_of kept) page
    met_cost later cost =
        omega (
          arith,
          w.so_far.cost,
          length-map (having kept.items page) (λ (i : Item). i.id),
          ap length w.whole,
          length-append w.front (w.element ∷ w.rest),
        )

  -- not all of it is there
  pub not_met : (first wanted : Wanted) (before now : ℕ) (next : Option ItemId)
      → Searches first wanted before now next → ((id : ItemId) → next ≢ Some id) → false ≡ has_all first
  not_met first wanted before now next s none =
      choose wanted.bookmark wanted.tag refl refl s.some ∙ s.same
    where
      walked : (P : List Item → Type 0) → ((front : List Item) → AreOther kept.items wanted before now front → P front)
          → Walk item_names (having kept.items page) P next
      walked P weaker =
          record {
            front = s.walk.front;
            rest = s.walk.rest;
            whole = s.walk.whole;
            here = s.walk.here;
            so_far = weaker s.walk.front s.walk.so_far;
          }

      choose : (b t : Bool) → wanted.bookmark ≡ b → wanted.tag ≡ t → (not b && not t) ≡ false
          → false ≡ ((not wanted.bookmark || bookmarked) && (not wanted.tag || tagged))
      choose true t is_b is_t some =
          let missing : false ≡ bookmarked =
          none_outside kept page next (walked (NoneOutside kept.items) (λ front h. h.bookmark is_b)) none in
          ap₂ (λ b m. (not b || m) && (not wanted.tag || tagged)) (sym is_b) missing
      choose false true is_b is_t some =
          let missing : false ≡ tagged =
          none_inside kept page next (walked (NoneInside kept.items) (λ front h. h.tag is_t)) none in
          second (not wanted.bookmark || bookmarked)
          ∙ ap₂ (λ t g. (not wanted.bookmark || bookmarked) && (not t || g)) (sym is_t) missing
        where
          second : (a : Bool) → false ≡ (a && false)
          second true = refl
          second false = refl
      choose false false is_b is_t some = absurd (true≢false some)

  pub whole_cost : (first wanted : Wanted) (before now : ℕ) (next : Option ItemId)
      → Searches first wanted before now next → ((id : ItemId) → next ≢ Some id)
      → now ≤ before + items_cost (store_of kept) page
  whole_cost first wanted before now next s none =
      let all = ends item_names (having kept.items page) (AreOther kept.items wanted before now) next s.walk none in
      omega (arith, all.cost, length-map (having kept.items page) (λ (i : Item). i.id))
