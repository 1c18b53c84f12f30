-- A walk from an owner along links that may name anything: what was met so far, and that it ends.
use Rattle.std.proofs.Common.{◌≡◌, ◌≢◌, ◌∙◌, ◌+◌, ◌*◌, ◌≤◌, ◌∷◌, ◌++◌, [], ℕ, List, Bool, ap, arith}
use Rattle.std.proofs.Common.{eqb, IsSome, is_some, length, length-append, None, Option, refl, Some}
use Rattle.std.proofs.Common.{subst, suc, sym, true}
use Rattle.std.specs.List.{IsDistinct, list_all}
use Rattle.std.specs.Option.{option_and_then, option_map}
use Rattle.std.proofs.lemmas.Bool.{and_from, and_parts}
use Rattle.std.proofs.lemmas.List.{append-nil}
use Rattle.std.proofs.lemmas.Option.{same_Some}
use Rattle.pl_base.specs.declared.id.Slot.{Slot}
use Rattle.pl_rail.specs.declared.owner.Owner.{Owner}
use Rattle.pl_rail.specs.declared.owner.Owner.TheVariants as owners
use Rattle.pl_rail.specs.declared.owner.Side.TheVariants.{Before, Behind}
use Rattle.pl_rail.specs.Rails.{AreLinked, IsBetween, Lists, end_at, first_of, is_member, last_from}
use Rattle.pl_rail.specs.Rails.{none, or_none, last_of}
use Rattle.pl_rail.proofs.ListLaws.{all_with, before_in, behind_in, first_behind, members_some}
use Rattle.pl_rail.proofs.MemberCount.{differ_numbers, distinct_few, numbers}
use Rattle.pl_rail.proofs.Rings.{Differ, Ends, Named, once, together}
use Rattle.pl_rail.proofs.SideLaws.{at_end}
use Rattle.pl_sheets.specs.Sheets.{Pages}
use Rattle.pl_slot.specs.declared.links.Link.TheVariants.{First, Last}
use Rattle.pl_slot.specs.declared.links.Rail.{Rail}
use Rattle.pl_slot.specs.declared.links.Rail.TheVariants.{Live}
use Rattle.pl_slot.specs.declared.row.SlotRow.{SlotRow}
use Rattle.pl_slot.specs.Arena.{live_count, row_at}
use Rattle.pl_slot.specs.Links.{ends_at, link_at, link_in}
use Rattle.pl_slot.specs.Slot.{slot_bytes, slot_kind}
use Rattle.pl_slot.specs.SlotReading.{slot_in}

-- ---- an owner has both links

end_place : (row : SlotRow) (place : Option ℕ) → is_some (option_map (λ n. slot_in n (slot_bytes row)) place) ≡ true
    → is_some (option_map (λ n. slot_in n (slot_bytes row)) (option_map (λ n. n + 4) place)) ≡ true
end_place row None is = is
end_place row (Some n) is = refl

end_row : (rail : Rail) (row : Option SlotRow) → is_some (option_and_then (link_in rail First) row) ≡ true
    → is_some (option_and_then (link_in rail Last) row) ≡ true
end_row rail None is = is
end_row rail (Some row) is = end_place row (ends_at rail (slot_kind row)) is

pub last_there : (rail : Rail) (owner : Owner) (pages : Pages) → IsSome (end_at Behind rail owner pages)
    → IsSome (end_at Before rail owner pages)
unfolding link_at
last_there rail (owners.At slot) pages is = end_row rail (row_at slot.0 pages) is
last_there Live (owners.Header kind) pages is = refl
last_there rail (owners.Header kind) pages is = is

-- ---- the way back

-- no slot stands twice in a list that ends
ends_distinct : (f b : Named) (a : Slot) (xs : List Slot) → Ends f b a xs → Differ none xs
    → IsDistinct eqb (numbers (a ∷ xs))
unfolding IsDistinct
ends_distinct f b a [] ends some = (tt, tt)
ends_distinct f b a (x ∷ xs) ends some = (
  differ_numbers a (x ∷ xs) (once f b a (x ∷ xs) ends some),
  ends_distinct f b x xs ends.2 some.1,
)

-- the slots before the last one of some, from there back, and then others
abbrev turned : Slot → List Slot → List Slot → List Slot
turned a [] ys = ys
turned a (x ∷ xs) ys = turned x xs (a ∷ ys)

turned_linked : (f b : Named) (a : Slot) (xs ys : List Slot) → AreLinked f b a xs → AreLinked b f a ys
    → AreLinked b f (last_from a xs) (turned a xs ys)
turned_linked f b a [] ys forth back = back
turned_linked f b a (x ∷ xs) ys forth back = turned_linked f b x xs (a ∷ ys) forth.2 (forth.1, forth.0, back)

turned_more : (a : Slot) (xs ys zs : List Slot) → turned a xs (ys ++ zs) ≡ turned a xs ys ++ zs
turned_more a [] ys zs = refl
turned_more a (x ∷ xs) ys zs = turned_more x xs (a ∷ ys) zs

turned_differ : (m a : Slot) (xs ys : List Slot) → a ≢ m → Differ m xs → Differ m ys → Differ m (turned a xs ys)
turned_differ m a [] ys apart others done = done
turned_differ m a (x ∷ xs) ys apart others done = turned_differ m x xs (a ∷ ys) others.0 others.1 (apart, done)

turned_all : (p : Slot → Bool) (a : Slot) (xs ys : List Slot) → p a ≡ true → list_all p xs ≡ true
    → list_all p ys ≡ true → list_all p (last_from a xs ∷ turned a xs ys) ≡ true
turned_all p a [] ys is others done = and_from (p a) (list_all p ys) is done
turned_all p a (x ∷ xs) ys is others done =
    let parts = and_parts (p x) (list_all p xs) others in
    turned_all p x xs (a ∷ ys) parts.0 parts.1 (and_from (p a) (list_all p ys) is done)

turned_long : (a : Slot) (xs ys : List Slot) → length (turned a xs ys) ≡ length xs + length ys
turned_long a [] ys = omega arith
turned_long a (x ∷ xs) ys = turned_long x xs (a ∷ ys) ∙ more (length xs) (length ys)
  where
    more : (n m : ℕ) → n + suc m ≡ suc n + m
    more n m = omega arith

-- the way back ends at the owner
way_back : (f b : Named) (x : Slot) (xs : List Slot) → AreLinked f b none (x ∷ xs)
    → Ends b f (last_from x xs) (turned x xs [])
way_back f b x xs walked =
    subst (AreLinked b f (last_from x xs)) (turned_more x xs [] (none ∷ []))
    (turned_linked f b none (x ∷ xs) [] walked tt)

-- no slot is met twice: each names the one before it, back to the owner
pub met_once : (f b : Named) (x : Slot) (xs : List Slot) → AreLinked f b none (x ∷ xs) → Differ none (x ∷ xs)
    → IsDistinct eqb (numbers (last_from x xs ∷ turned x xs []))
met_once f b x xs walked some =
    ends_distinct b f (last_from x xs) (turned x xs []) (way_back f b x xs walked)
    (turned_differ none x xs [] some.0 some.1 tt)

pub met_few : (rail : Rail) (owner : Owner) (pages : Pages) (xs : List Slot)
    → list_all (is_member rail owner pages) xs ≡ true
    → AreLinked (behind_in rail owner pages) (before_in rail owner pages) none xs → length xs ≤ live_count pages
met_few rail owner pages [] members walked = omega arith
met_few rail owner pages (x ∷ xs) members walked =
    let parts = and_parts (is_member rail owner pages x) (list_all (is_member rail owner pages) xs) members in
    let few : length (last_from x xs ∷ turned x xs []) ≤ live_count pages =
    distinct_few rail owner pages (last_from x xs ∷ turned x xs [])
    (turned_all (is_member rail owner pages) x xs [] parts.0 parts.1 refl)
    (met_once (behind_in rail owner pages) (before_in rail owner pages) x xs walked
    (members_some rail owner pages (x ∷ xs) members)) in
    as_many (length xs) (length (turned x xs [])) (live_count pages) (turned_long x xs []) few
  where
    as_many : (n m count : ℕ) → m ≡ n + 0 → suc m ≤ count → suc n ≤ count
    as_many n m count same few = omega arith

-- ---- the walk

-- the members that were met from the owner on, the last of them, and the number that is named then
pub record Walks (rail : Rail) (owner : Owner) (met : List Slot) (last next : Slot) (before now : ℕ) (pages : Pages)
    : Type 0 where
  pub members : list_all (is_member rail owner pages) met ≡ true
  pub linked : AreLinked (behind_in rail owner pages) (before_in rail owner pages) none met
  pub last_is : last ≡ last_from none met
  pub names : behind_in rail owner pages last ≡ Some next
  pub counted : now ≤ before + 3 * length met

pub last_added : (a : Slot) (xs : List Slot) (m : Slot) → last_from a (xs ++ m ∷ []) ≡ m
last_added a [] m = refl
last_added a (x ∷ xs) m = last_added x xs m

pub last_of_added : (xs : List Slot) (m : Slot) → last_of (xs ++ m ∷ []) ≡ Some m
last_of_added [] m = refl
last_of_added (x ∷ xs) m = ap Some (last_added x xs m)

-- the rest of a list that goes on behind what was met
record GoesOn (f b : Named) (a : Slot) (met xs : List Slot) : Type 0 where
  rest : List Slot
  whole : xs ≡ met ++ rest
  ends : Ends f b (last_from a met) rest

goes_on : (f b : Named) (a : Slot) (met xs : List Slot) → AreLinked f b a met → Differ none met → Ends f b a xs
    → Differ none xs → GoesOn f b a met xs
goes_on f b a [] xs walked some ends others = record { rest = xs; whole = refl; ends = ends }
goes_on f b a (x ∷ met) [] walked some ends others = absurd (some.0 (same_Some x none (sym walked.0 ∙ ends.0)))
goes_on f b a (x ∷ met) (y ∷ xs) walked some ends others =
    let same : y ≡ x = same_Some y x (sym ends.0 ∙ walked.0) in
    let from_x : Ends f b x xs = subst (λ k. Ends f b k xs) same ends.2 in
    let on = goes_on f b x met xs walked.2 some.1 from_x others.1 in
    record { rest = on.rest; whole = ap (λ k. k ∷ xs) same ∙ ap (λ l. x ∷ l) on.whole; ends = on.ends }

all_behind : (p : Slot → Bool) (front back : List Slot) → list_all p (front ++ back) ≡ true → list_all p back ≡ true
all_behind p [] back all = all
all_behind p (x ∷ front) back all = all_behind p front back (and_parts (p x) (list_all p (front ++ back)) all).1

-- what is left of a list of the owner behind the last one that was met
record Left (rail : Rail) (owner : Owner) (last : Slot) (pages : Pages) : Type 0 where
  rest : List Slot
  ends : Ends (behind_in rail owner pages) (before_in rail owner pages) last rest
  members : list_all (is_member rail owner pages) rest ≡ true

module _ (rail : Rail) (owner : Owner) (met : List Slot) (last next : Slot) (before now : ℕ) (pages : Pages)
    (walks : Walks rail owner met last next before now pages) where
  pub walks_few : length met ≤ live_count pages
  walks_few = met_few rail owner pages met walks.members walks.linked

  pub walks_on : (behind : Slot) (later : ℕ) → IsBetween rail owner last next behind pages → later ≤ now + 3
      → Walks rail owner (met ++ next ∷ []) next behind before later pages
  walks_on behind later between few =
      let names : behind_in rail owner pages (last_from none met) ≡ Some next =
      ap (behind_in rail owner pages) (sym walks.last_is) ∙ walks.names in
      let back : before_in rail owner pages next ≡ Some (last_from none met) = between.back ∙ ap Some walks.last_is in
      record {
        members =
            all_with (is_member rail owner pages) met next [] between.member
            (ap (list_all (is_member rail owner pages)) (append-nil met) ∙ walks.members);
        linked =
            together (behind_in rail owner pages) (before_in rail owner pages) none met (next ∷ []) walks.linked
            (names, back, tt);
        last_is = sym (last_added none met next);
        names = between.forth;
        counted = omega (arith, walks.counted, few, length-append met (next ∷ []));
      }

  left_of : (slots : List Slot) → Lists rail owner slots pages → Left rail owner last pages
  left_of slots lists =
      let on =
      goes_on (behind_in rail owner pages) (before_in rail owner pages) none met slots walks.linked
      (members_some rail owner pages met walks.members) lists.linked
      (members_some rail owner pages slots lists.members) in
      record {
        rest = on.rest;
        ends =
            subst (λ k. Ends (behind_in rail owner pages) (before_in rail owner pages) k on.rest) (sym walks.last_is) on.ends;
        members =
            all_behind (is_member rail owner pages) met on.rest
            (ap (list_all (is_member rail owner pages)) (sym on.whole) ∙ lists.members);
      }

  -- what is named is no member behind the last one
  pub walks_lost : next ≢ none → ((behind : Slot) → IsBetween rail owner last next behind pages → ⊥)
      → (slots : List Slot) → Lists rail owner slots pages → ⊥
  walks_lost some lost slots lists =
      let left = left_of slots lists in
      from left.rest left.ends left.members
    where
      from : (rest : List Slot) → Ends (behind_in rail owner pages) (before_in rail owner pages) last rest
          → list_all (is_member rail owner pages) rest ≡ true → ⊥
      from [] ends members = some (same_Some next none (sym walks.names ∙ ends.0))
      from (r ∷ rest) ends members =
          let same : r ≡ next = same_Some r next (sym ends.0 ∙ walks.names) in
          let between : IsBetween rail owner last r (or_none (first_of rest)) pages = record {
            member = (and_parts (is_member rail owner pages r) (list_all (is_member rail owner pages) rest) members).0;
            back = ends.1;
            forth = first_behind (behind_in rail owner pages) (before_in rail owner pages) r rest ends.2;
          } in
          lost (or_none (first_of rest))
          (subst (λ k. IsBetween rail owner last k (or_none (first_of rest)) pages) same between)

  -- the owner is named, and names the last one
  pub walks_found : next ≡ none → end_at Before rail owner pages ≡ Some last → Lists rail owner met pages
  walks_found named read =
      let f_last : behind_in rail owner pages (last_from none met) ≡ Some none =
      ap (behind_in rail owner pages) (sym walks.last_is) ∙ walks.names ∙ ap Some named in
      let b_none : before_in rail owner pages none ≡ Some (last_from none met) =
      at_end Before rail owner pages none refl ∙ read ∙ ap Some walks.last_is in
      record {
        members = walks.members;
        linked =
            together (behind_in rail owner pages) (before_in rail owner pages) none met (none ∷ []) walks.linked
            (f_last, b_none, tt);
      }

  -- the owner is named, and names another one
  pub walks_past : (told : Slot) → next ≡ none → end_at Before rail owner pages ≡ Some told → told ≢ last
      → (slots : List Slot) → Lists rail owner slots pages → ⊥
  walks_past told named read other slots lists =
      let left = left_of slots lists in
      from left.rest left.ends (members_some rail owner pages left.rest left.members)
    where
      from : (rest : List Slot) → Ends (behind_in rail owner pages) (before_in rail owner pages) last rest
          → Differ none rest → ⊥
      from [] ends some =
          other (same_Some told last (sym (at_end Before rail owner pages none refl ∙ read) ∙ ends.1))
      from (r ∷ rest) ends some = some.0 (same_Some r none (sym ends.0 ∙ walks.names ∙ ap Some named))
